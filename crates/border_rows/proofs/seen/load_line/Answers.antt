use Rattle.std.proofs.Common.{◌∙◌, ap, arith, length, ◌-◌}
use Rattle.border_rows.proofs.Common.{border_value}
use Rattle.border_rows.proofs.SeenLaws.{edges_are, item_is, seen_in_three}
use Rattle.border_rows.proofs.seen.load_line.Goals as goal

pub returns : goal.returns
returns g c =
    let image = c.args.image.now in
    let line = c.args.line in
    let row = c.row-row.result.now in
    let edges =
    edges_are image c.valid-valid.result c.valid-valid.ensures.image c.valid-valid.ensures.value in
    c.load_between.ensures
    ∙ seen_in_three image c.args.border line c.args.start c.args.radius (length c.args.out.now)
    c.min-before.result (c.min-end.result - c.min-before.result) c.min-first.result
    c.border_value-left.result c.border_value-right.result c.part_of_row-samples.result.now
    c.requires.columns c.part_of_row-samples.ensures.len
    (omega (
      arith,
      c.min-before.ensures,
      c.saturating_sub.ensures,
      c.from-3.ensures,
      c.x0-2.ensures.value,
      c.from-shift.ensures,
      c.from-begin.ensures,
    ))
    (omega (
      arith,
      c.min-end.ensures,
      c.saturating_sub-2.ensures,
      c.from-4.ensures,
      c.x1-2.ensures.value,
      c.from-shift.ensures,
      c.from-begin.ensures,
    ))
    (omega (
      arith,
      c.min-first.ensures,
      c.max.ensures,
      c.saturating_sub-3.ensures,
      c.x0-3.ensures.value,
      c.x1-3.ensures.value,
    ))
    (c.border_value-left.ensures ∙ ap (border_value c.args.border)
    (item_is image line row c.from.result image.valid.x0 c.row-row.ensures.value
    (omega (arith, c.from.ensures, c.x0.ensures.value)) (omega arith)))
    (c.border_value-right.ensures ∙ ap (border_value c.args.border)
    (item_is image line row (c.from-2.result - 1) (image.valid.x1 - 1) c.row-row.ensures.value
    (omega (arith, c.from-2.ensures, c.x1.ensures.value)) (omega arith)))
    c.part_of_row-samples.ensures.value
