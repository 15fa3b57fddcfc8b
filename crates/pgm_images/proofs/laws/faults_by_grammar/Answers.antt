use Rattle.std.proofs.Common.{ap}
use Rattle.pgm_images.proofs.Common.{fault_of}
use Rattle.pgm_images.proofs.StandsLemmas.{read_stands}
use Rattle.pgm_images.proofs.laws.faults_by_grammar.Goals as goal

pub returns-clause-none : goal.returns-clause-none
returns-clause-none c text p s = ap fault_of (read_stands text p s)
