use Rattle.std.proofs.Common.{◌≡◌, sym, true, arith}
use Rattle.pgm_images.proofs.Common.{common_steps, is_headed}
use Rattle.pgm_images.proofs.DescriptionLemmas.{told_headed}
use Rattle.pgm_images.proofs.reading.read.Goals as goal

pub returns-in_err-samples-clause-err : goal.returns-in_err-samples-clause-err
returns-in_err-samples-clause-err c =
    let headed : is_headed c.args.text.now ≡ true =
    told_headed c.args.text.now c.in_ok-desc.desc (sym c.in_ok-desc.ensures.description) in
    grind (arith, common_steps)
