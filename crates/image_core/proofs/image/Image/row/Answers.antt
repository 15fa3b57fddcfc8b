use Rattle.std.proofs.Common.{◌≡◌, ◌-◌, ◌*◌, ◌∙◌, ap, sym, arith, pos, true, length, replicate}
use Rattle.image_core.proofs.Common.{ImageValue, has_row, length-map, row_of}
use Rattle.image_core.specs.Slices.{slice_values}
use Rattle.image_core.proofs.HeldRows.{row_held, row_other, row_in_held}
use Rattle.image_core.proofs.image.Image.row.Goals as goal

pub returns-then-not-has_row-clause-value : goal.returns-then-not-has_row-clause-value
returns-then-not-has_row-clause-value g c =
    let i = c.self.inside in
    let width : c.from-width.result ≡ i.desc.width = c.from-width.ensures ∙ c.width.ensures.value in
    let high : c.args.self.now.height ≡ i.desc.height =
    ap (λ (v : ImageValue). v.height) (sym c.self.view_is) in
    c.zeros.ensures ∙ ap (λ n. replicate n (pos 0)) width
    ∙ row_other i.desc i.valid i.rows (slice_values i.samples) c.self.invariant.2
    c.self.invariant.3 c.args.y (omega (arith, c.requires.below, high))
    (sym c.has_row.ensures ∙ c.if-not-has_row.true)
    ∙ ap (λ (v : ImageValue). row_of v c.args.y) c.self.view_is

pub slice_bounds-result-end : goal.slice_bounds-result-end
slice_bounds-result-end g c =
    let i = c.self.inside in
    let width : c.from-width.result ≡ i.desc.width = c.from-width.ensures ∙ c.width.ensures.value in
    let at : c.from.result * c.from-width.result ≡ (c.args.y - i.rows.start) * i.desc.width =
    ap (λ n. n * c.from-width.result) c.from.ensures
    ∙ ap (λ n. (c.args.y - i.rows.start) * n) width in
    let long : length c.lent.result.now ≡ i.rows.count * i.desc.width =
    sym (length-map c.lent.result.now g.T.Number.value)
    ∙ ap length c.lent.ensures
    ∙ c.self.invariant.3 in
    let there : has_row i.rows c.args.y ≡ true = sym c.has_row.ensures ∙ c.if-not-has_row.false in
    let inside = row_in_held i.rows i.desc.width c.args.y there in
    omega (arith, width, at, long, inside)

pub returns-clause-value : goal.returns-clause-value
returns-clause-value g c =
    let i = c.self.inside in
    let width : c.from-width.result ≡ i.desc.width = c.from-width.ensures ∙ c.width.ensures.value in
    row_held i.desc i.valid i.rows (slice_values i.samples) c.self.invariant.2
    c.self.invariant.3 g.T.Number.value c.lent.result.now (c.from.result * c.from-width.result)
    c.from-width.result c.args.y
    c.lent.ensures
    (ap (λ n. n * c.from-width.result) c.from.ensures
    ∙ ap (λ n. (c.args.y - i.rows.start) * n) width)
    width (sym c.has_row.ensures ∙ c.if-not-has_row.false)
    ∙ ap (λ (v : ImageValue). row_of v c.args.y) c.self.view_is
