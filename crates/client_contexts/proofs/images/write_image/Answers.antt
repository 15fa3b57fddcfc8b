use Rattle.std.proofs.Common.{◌≡◌, Ok, Some, subst, rules}
use Rattle.client_model.specs.Images.{write_image}
use Rattle.client_model.proofs.ImageStepLaws.{write_image_keeps}
use Rattle.client_model.proofs.OutcomeLaws.{Keeps}
use Rattle.client_contexts.proofs.Common.{Empty}
use Rattle.client_contexts.proofs.WriteLemmas.{written_blocks}
use Rattle.client_contexts.proofs.images.write_image.Goals as goal

pub returns-clause-within_limits : goal.returns-clause-within_limits
returns-clause-within_limits c = λ limits h.
    let done :
    write_image c.args.table.now c.args.reference c.args.picture.now
    ≡ Ok (Empty, Some c.write.new.self) =
    search rules in
    (subst (Keeps limits c.args.table.now) done
    (write_image_keeps limits c.args.table.now c.args.reference c.args.picture.now h
    c.samples-samples.ensures.picture)).keeps

pub returns-clause-blocks : goal.returns-clause-blocks
returns-clause-blocks c =
    rw c.write.ensures.value
    (written_blocks c.args.table.now c.args.reference c.args.picture.now
    (rw c.desc.ensures at c.in_ok-find_image_for.ensures.ok) c.requires.1.names)
