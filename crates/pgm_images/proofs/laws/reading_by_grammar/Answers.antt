use Rattle.pgm_images.proofs.StandsLemmas.{read_stands}
use Rattle.pgm_images.proofs.laws.reading_by_grammar.Goals as goal

pub returns-clause-only : goal.returns-clause-only
returns-clause-only c = read_stands

pub returns-clause-one : goal.returns-clause-one
returns-clause-one c text p q s t = cc (read_stands text p s, read_stands text q t)
