use Rattle.std.proofs.Common.{◌≡◌, ◌*◌, length, map, take, min}
use Rattle.image_core.proofs.Common.{run}
use Rattle.image_core.proofs.row_update.WrittenRowChange.change.Given as goal

abbrev pub invariant-loop-k : goal.invariant-loop-k
invariant-loop-k g l =
    map g.T.Number.value (take (min (l.most * l.k) (length l.fn.row)) l.row)
    ≡ run l.x (min (l.most * l.k) (length l.fn.row))
    (λ c. g.F.RowFormula.at l.self.formula.now c l.y)
