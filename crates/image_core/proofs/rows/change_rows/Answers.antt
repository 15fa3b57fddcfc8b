use Rattle.std.proofs.Common.{◌≡◌, ℕ, ℤ, ◌+◌, ◌*◌, ap, ◌∙◌, map, take}
use Rattle.image_core.proofs.Common.{band_written, length_part, run, sample_from, zero_outside}
use Rattle.image_core.proofs.UpdateLaws.{part_kept, next_kept}
use Rattle.image_core.proofs.rows.change_rows.Goals as goal

pub loop-k-preserved : goal.loop-k-preserved
loop-k-preserved g c =
    let value = g.T.Number.value in
    let next = g.C.RowChange.next c.args.change.now in
    let samples = c.args.samples.now in
    let out = c.loop-k.samples in
    let row = c.change_row.new.row in
    let rows = c.args.rows in
    let line = c.loop-k.k in
    let width = c.args.width in
    let step = c.from-step.result in
    let first = c.from.result * step in
    let below = c.loop-k-test.true in
    let at : first ≡ line * width =
    ap (λ n. n * step) c.from.ensures ∙ ap (λ n. line * n) c.from-step.ensures in
    let size = c.loop-k.auto.samples ∙ c.requires.size in
    let before : ℕ → ℕ → ℤ = sample_from width rows.start (map value samples) in
    let f : ℕ → ℕ → ℤ =
    zero_outside (g.C.RowChange.area c.args.change.now) (λ x y. next x y (before x y)) in
    let part = length_part out first step width rows.count line size below at c.from-step.ensures in
    let long = c.change_row.auto.row ∙ part in
    record {
      written =
          band_written value width rows.start rows.count line first _ f out row size below at
          long (ap (λ n. map value (take n out)) at ∙ c.loop-k.invariant.written)
          (c.change_row.ensures (λ x. before x (rows.start + line))
          (part_kept value samples out width rows.start rows.count line first step
          c.requires.size size below at c.from-step.ensures c.loop-k.invariant.kept)
          ∙ ap (λ n. run 0 n (λ x. f x (rows.start + line))) part);
      kept =
          next_kept samples out row width rows.count line first step size below at
          c.from-step.ensures long c.loop-k.invariant.kept;
    }
