use Rattle.std.proofs.Common.{◌≡◌, ℕ, ℤ, ◌-◌, ◌<◌, ◌≤◌, ◌∙◌, ap, sym, inl, inr, arith, length, replicate, map}
use Rattle.image_core.proofs.Common.{Rectangle, nat_tests, part_of_row, run}
use Rattle.vx_base.proofs.TableLaws.{row_outside}
use Rattle.image_core.proofs.RowLaws.{row_in_three}
use Rattle.image_core.proofs.rows.change_row.Goals as goal
use Rattle.image_core.proofs.rows.change_row.Goals.{then-y-y0, else-y-y0}

pub returns-then-y1-y : goal.returns-then-y1-y
returns-then-y1-y g c before is =
    let f : ℕ → ℕ → ℤ = λ x y. g.C.RowChange.next c.args.change.now x y (before x) in
    let r = g.C.RowChange.area c.args.change.now in
    let top : c.y0.result ≡ r.y0 =
    c.y0.ensures.value ∙ ap (λ (s : Rectangle). s.y0) c.area-area.ensures in
    let zeros = c.set_all.ensures ∙ ap (replicate (length c.args.row.now)) c.zero.ensures in
    elim c.if-y-y0.branch [
      | then-y-y0 w ↦
          let above : c.args.y < r.y0 = omega (arith, w.if-y-y0.true, top) in
          zeros ∙ sym (row_outside r f (length c.args.row.now) c.args.y (inl above))
      | else-y-y0 w ↦
          let bottom : w.y1.result ≡ r.y1 =
          w.y1.ensures.value ∙ ap (λ (s : Rectangle). s.y1) c.area-area.ensures in
          let below : w.y1.result ≤ c.args.y = grind (arith, nat_tests) in
          zeros
          ∙ sym
          (row_outside r f (length c.args.row.now) c.args.y (inr (omega (arith, bottom, below))))
    ]

pub returns-else-y1-y : goal.returns-else-y1-y
returns-else-y1-y g c before is =
    let value = g.T.Number.value in
    let r = g.C.RowChange.area c.args.change.now in
    let row = c.args.row.now in
    let n = length row in
    let part = c.split_at_mut-middle.result.0.now in
    let head = c.split_at_mut-head.ensures in
    let middle = c.split_at_mut-middle.ensures in
    let left : c.from-x0.result ≡ r.x0 =
    c.from-x0.ensures ∙ c.x0.ensures.value ∙ ap (λ (s : Rectangle). s.x0) c.area-area.ensures in
    let right : c.from-x1.result ≡ r.x1 =
    c.from-x1.ensures ∙ c.x1.ensures.value ∙ ap (λ (s : Rectangle). s.x1) c.area-area.ensures in
    let from : c.x0-else-y1-y.result ≡ r.x0 =
    c.x0-else-y1-y.ensures.value ∙ ap (λ (s : Rectangle). s.x0) c.area-area.ensures in
    let ordered : r.x0 ≤ r.x1 =
    omega (
      arith,
      left,
      right,
      c.from-x0.ensures,
      c.from-x1.ensures,
      c.x0.ensures.ordered,
      c.x0.ensures.value,
      c.x1.ensures.value,
    ) in
    let second : length part ≡ r.x1 - r.x0 = omega (arith, middle.front_len, left, right) in
    let held : map value part ≡ run c.x0-else-y1-y.result (length part) before =
    ap (map value) (middle.front ∙ cc (left, right, head.back))
    ∙ part_of_row value row before n r.x0 (r.x1 - r.x0) r.x1 (omega arith) (omega arith) is
    ∙ cc (second, from) in
    let inside : (r.y0 ≤ c.args.y) × (c.args.y < r.y1) = elim c.if-y-y0.branch [
      | then-y-y0 w ↦
          absurd (grind (arith, nat_tests, sym c.if-y1-y.false ∙ w.value-is, w.if-y-y0.true))
      | else-y-y0 w ↦ (
        omega (
          arith,
          w.if-y-y0.false,
          c.y0.ensures.value,
          ap (λ (s : Rectangle). s.y0)
              c.area-area.ensures,
        ),
        grind (
          arith,
          nat_tests,
          w.y1.ensures.value,
          ap (λ (s : Rectangle). s.y1)
              c.area-area.ensures,
        ),
      )
    ] in
    row_in_three value r (λ x y. g.C.RowChange.next c.args.change.now x y (before x)) n c.args.y
    _ _ _ _ _ _ _ _ _ c.zero-else-y1-y.ensures c.zero-else-y1-y-2.ensures
    (head.front_len ∙ left) from second
    (omega (arith, middle.back_len, head.back_len, left, right, ordered))
    c.set_all-else-y1-y.ensures (c.change.ensures before held) c.set_all-else-y1-y-2.ensures
    ordered c.requires.room inside.0 inside.1
