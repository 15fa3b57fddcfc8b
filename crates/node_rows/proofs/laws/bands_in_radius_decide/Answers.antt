use Rattle.node_rows.proofs.RowLaws.{node_rows}
use Rattle.node_rows.proofs.laws.bands_in_radius_decide.Goals as goal

pub returns : goal.returns
returns c = node_rows
