use Rattle.std.proofs.Common.{◌∙◌, ◌-◌, ◌-ℤ◌, pos, ap, sym, arith, unsigned_abs}
use Rattle.border_rows.proofs.Common.{border_value, ints}
use Rattle.border_rows.proofs.SeenLaws.{edges_are, item_is, seen_inside, seen_left, seen_right}
use Rattle.border_rows.proofs.seen.sample_before.Goals as goal

pub returns-then-x-x0 : goal.returns-then-x-x0
returns-then-x-x0 c =
    let image = c.args.image.now in
    let edges =
    edges_are image c.valid-valid.result c.valid-valid.ensures.image c.valid-valid.ensures.value in
    c.border_value.ensures
    ∙ ap (border_value c.args.border)
    (item_is image c.args.line c.row-row.result.now c.from.result image.valid.x0
    c.row-row.ensures.value (omega arith) (omega arith))
    ∙ sym (seen_left image c.args.border (pos c.args.x -ℤ pos 1) c.args.line (omega (arith, ints)))

pub returns-then-x-x1 : goal.returns-then-x-x1
returns-then-x-x1 c =
    let image = c.args.image.now in
    let edges =
    edges_are image c.valid-valid.result c.valid-valid.ensures.image c.valid-valid.ensures.value in
    item_is image c.args.line c.row-row.result.now (c.from-then-x-x1.result - 1)
    (unsigned_abs (pos c.args.x -ℤ pos 1)) c.row-row.ensures.value (omega (arith, ints))
    (omega (arith, ints))
    ∙ sym
    (seen_inside image c.args.border (pos c.args.x -ℤ pos 1) c.args.line (omega (arith, ints))
    (omega (arith, ints)))

pub returns-else-x-x1 : goal.returns-else-x-x1
returns-else-x-x1 c =
    let image = c.args.image.now in
    let edges =
    edges_are image c.valid-valid.result c.valid-valid.ensures.image c.valid-valid.ensures.value in
    c.border_value-else-x-x1.ensures
    ∙ ap (border_value c.args.border)
    (item_is image c.args.line c.row-row.result.now (c.from-else-x-x1.result - 1)
    (image.valid.x1 - 1) c.row-row.ensures.value (omega arith) (omega arith))
    ∙ sym
    (seen_right image c.args.border (pos c.args.x -ℤ pos 1) c.args.line (omega (arith, ints))
    (omega (arith, ints)))
