use Rattle.node_rows.proofs.RowLaws.{agree_in_all}
use Rattle.node_rows.proofs.laws.rows_of_images.Goals as goal

pub returns-clause-all : goal.returns-clause-all
returns-clause-all c = agree_in_all
