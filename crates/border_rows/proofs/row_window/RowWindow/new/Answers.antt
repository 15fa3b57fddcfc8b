use Rattle.std.proofs.Common.{◌+◌, ◌*◌, ◌∙◌, ap, map, pos, replicate, arith}
use Rattle.vx_base.proofs.ZeroLaws.{map-replicate}
use Rattle.border_rows.proofs.row_window.RowWindow.new.Goals as goal

pub returns-clause-samples : goal.returns-clause-samples
returns-clause-samples c =
    ap (map pos) (c.in_ok-vec.ensures.items_if_clones_equal (λ y same. same))
    ∙ map-replicate pos (c.from.result + 2 * c.from-2.result) 0
    ∙ ap (λ n. replicate n (pos 0)) (omega (arith, c.from.ensures, c.from-2.ensures))
