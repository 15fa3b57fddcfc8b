use Rattle.std.proofs.Common.{ap, ◌∙◌, sym}
use Rattle.pixel_kernels.proofs.Common.{Binary, Range}
use Rattle.pixel_kernels.proofs.FormatLaws.{rule_written, limits_kept}
use Rattle.pixel_kernels.proofs.thresholds.write_threshold.Goals as goal

pub returns-in-Binary : goal.returns-in-Binary
returns-in-Binary g c =
    let kept =
    limits_kept c.args.rule.format (Binary c.in-Binary.limit) c.in-Binary.ensures.limits in
    rule_written c.args.rule g.A.Tested.format _ _ _ c.args.image.now c.args.output.now _
    (sym c.requires.tested)
    (ap Binary (c.from_short.ensures ∙ kept) ∙ sym c.in-Binary.is ∙ c.kind.ensures.value)
    c.true_value-true_value.ensures.value c.false_value-false_value.ensures.value
    c.write_one.ensures

pub returns-in-Range : goal.returns-in-Range
returns-in-Range g c =
    let kept =
    limits_kept c.args.rule.format (Range c.in-Range.lower c.in-Range.upper)
    c.in-Range.ensures.limits in
    let limits =
    Range (g.A.Item.value c.from_short-in-Range.result)
    (g.A.Item.value c.from_short-in-Range-2.result) in
    rule_written c.args.rule g.A.Tested.format limits _ _ c.args.image.now c.args.output.now _
    (sym c.requires.tested)
    (cc (
      c.from_short-in-Range.ensures
          ∙ kept.0,
      c.from_short-in-Range-2.ensures
          ∙ kept.1,
      c.in-Range.is,
      c.kind.ensures.value,
    ))
    c.true_value-true_value.ensures.value c.false_value-false_value.ensures.value
    c.write_one-in-Range.ensures
