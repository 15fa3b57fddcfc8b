use Rattle.std.proofs.Common.{◌≡◌, Ok, Some, ap, subst, arith}
use Rattle.std.proofs.lemmas.Grind.{common_steps}
use Rattle.client_model.specs.Images.{set_valid}
use Rattle.client_model.proofs.ImageStepLaws.{set_valid_keeps}
use Rattle.client_model.proofs.OutcomeLaws.{Keeps}
use Rattle.client_contexts.proofs.Common.{Empty, image_held, description_of, with_valid}
use Rattle.client_contexts.proofs.BlockLemmas.{image_blocks_kept}
use Rattle.client_contexts.proofs.images.set_valid.Goals as goal

pub returns-clause-within_limits : goal.returns-clause-within_limits
returns-clause-within_limits c = λ limits h.
    let done :
    set_valid c.args.table.now c.args.reference c.args.valid
    ≡ Ok (Empty, Some c.set_valid.new.self) =
    grind (arith, common_steps) in
    (subst (Keeps limits c.args.table.now) done
    (set_valid_keeps limits c.args.table.now c.args.reference c.args.valid h
    c.prove_bounds.ensures.bounds)).keeps

pub returns-clause-blocks : goal.returns-clause-blocks
returns-clause-blocks c =
    let t = c.args.table.now in
    let found = c.in_ok-find_image.ensures.ok in
    rw c.set_valid.ensures
    (image_blocks_kept t.objects c.requires.1.names c.args.reference
    c.in_ok-find_image.field-0.now
    (with_valid c.args.valid (image_held t.objects c.args.reference)) found.there found.held
    (ap description_of found.held))
