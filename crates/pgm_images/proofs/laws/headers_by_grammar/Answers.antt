use Rattle.pgm_images.proofs.StandsLemmas.{header_back}
use Rattle.pgm_images.proofs.laws.headers_by_grammar.Goals as goal

pub returns-clause-only : goal.returns-clause-only
returns-clause-only c = header_back
