use Rattle.std.proofs.Common.{◌≡◌, ℕ, ℤ, ◌∙◌, ◌+◌, ◌-◌, ◌*◌, ◌<◌, ap, sym, length, take, drop, arith, length-take, length-drop}
use Rattle.image_core.proofs.Common.{run}
use Rattle.image_core.proofs.PieceLaws.{piece_begins, piece_written, row_of_pieces}
use Rattle.image_core.proofs.row_update.WrittenRowChange.change.Goals as goal

pub loop-k-preserved : goal.loop-k-preserved
loop-k-preserved g c =
    let k = c.loop-k.k in
    let n = length c.args.row.now in
    let most = c.from-most.result in
    let end = c.min-end.result in
    let at : ℕ → ℤ = λ i. g.F.RowFormula.at c.args.self.now.formula.now i c.args.y in
    let begun : most * k < n =
    piece_begins n most k (omega (arith, c.most.ensures.some, c.from-most.ensures))
    (omega (arith, c.loop-k-test.true, c.div_ceil-k-end.ensures)) in
    let part : length (take (end - most * k) (drop (most * k) c.loop-k.row)) ≡ end - most * k =
    simp (length-take, length-drop) (omega (arith, c.min-end.ensures, c.loop-k.auto.row)) in
    piece_written g.T.Number.value at c.loop-k.row c.fill.new.out c.args.x most k _ n end
    c.loop-k.auto.row begun c.min-end.ensures c.loop-k.invariant (c.fill.auto.out ∙ part)
    (c.fill.ensures ∙ ap (λ i. run (c.args.x + most * k) i at) (sym c.fill.auto.out))

pub returns : goal.returns
returns g c before is =
    row_of_pieces g.T.Number.value
    (λ i. g.F.RowFormula.at c.args.self.now.formula.now i c.args.y) c.loop-k.row c.args.x
    c.from-most.result c.loop-k.k (length c.args.row.now)
    (omega (arith, c.most.ensures.some, c.from-most.ensures)) c.loop-k.auto.row
    (omega (arith, c.loop-k-test.false, c.div_ceil-k-end.ensures)) c.loop-k.invariant
