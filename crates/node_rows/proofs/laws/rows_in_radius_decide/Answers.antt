use Rattle.node_rows.proofs.RowLaws.{node_row}
use Rattle.node_rows.proofs.laws.rows_in_radius_decide.Goals as goal

pub returns : goal.returns
returns c =
    λ n output format a b second other rows x y image object far agree elsewhere left high.
    node_row n output format a b second other rows x y object far image agree elsewhere left
    high
