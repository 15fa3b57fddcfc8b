use Rattle.std.proofs.Common.{arith}
use Rattle.pgm_images.proofs.Common.{common_steps}
use Rattle.pgm_images.proofs.DescriptionLemmas.{read_description}
use Rattle.pgm_images.proofs.reading.read_description.Goals as goal

pub returns-clause-ok : goal.returns-clause-ok
returns-clause-ok c = grind (arith, common_steps, read_description c.args.text.now)
