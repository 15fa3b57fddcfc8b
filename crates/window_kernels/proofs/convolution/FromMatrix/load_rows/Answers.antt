use Rattle.std.proofs.Common.{◌≡◌, ◌∙◌, ◌+◌, ◌*◌, ◌/◌, ◌<◌, ◌+ℤ◌, ◌-ℤ◌, ap, sym, subst, pos, length, map, take, arith, map-id, take_all}
use Rattle.window_kernels.proofs.Common.{Each1, IsNear, row_fits, sample_or_border, table}
use Rattle.vx_base.proofs.TableLaws.{row_written, length_part}
use Rattle.window_kernels.proofs.RowLaws.{row_fits_too, row_in_bits, line_seen}
use Rattle.window_kernels.proofs.convolution.FromMatrix.load_rows.Goals as goal

pub loop-l-preserved : goal.loop-l-preserved
loop-l-preserved c =
    let s = c.args.self.now in
    let m = s.convolution.now in
    let f = sample_or_border s.image.now s.border in
    let l = c.loop-l.l in
    let line = c.args.line in
    let first = c.from-in-loop-l-3.result in
    let step = c.from-step.result in
    let size : length c.loop-l.rows ≡ m.rows * line = c.loop-l.auto.rows ∙ c.requires.len in
    let below : l < m.rows = omega (arith, c.loop-l-test.true, c.rows-count.ensures.value) in
    let at : first * step ≡ l * line =
    ap (λ n. n * step) c.from-in-loop-l-3.ensures ∙ ap (λ n. l * n) c.from-step.ensures in
    let part =
    length_part c.loop-l.rows (first * step) step line m.rows l size below at c.from-step.ensures in
    let long : length c.load_line.new.line ≡ line = c.load_line.auto.line ∙ part in
    let half : c.rows-count.result / 2 ≡ m.rows / 2 = omega (arith, c.rows-count.ensures.value) in
    let row =
    row_in_bits c.args.y (m.rows / 2) l c.from.result c.from-in-loop-l.result
    c.from-in-loop-l-2.result c.from.ensures (c.from-in-loop-l.ensures ∙ ap pos half)
    c.from-in-loop-l-2.ensures
    (omega (arith, c.ranges.y.fits)) (omega (arith, half, c.rows-count.type_inv))
    (omega (arith, below, c.rows-count.ensures.value, c.rows-count.type_inv)) in
    record {
      value =
          row_written (λ z. z) line m.rows l (first * step) _
          (λ c' i. f (pos (c.args.x + c') -ℤ pos (m.columns / 2))
          (pos c.args.y +ℤ pos (m.rows / 2) -ℤ pos i))
          c.loop-l.rows c.load_line.new.line size below at long
          (ap (λ n. map (λ z. z) (take n c.loop-l.rows)) at ∙ c.loop-l.invariant.value)
          (line_seen f c.load_line.new.line c.args.x _ line (m.columns / 2) c.args.y
          (m.rows / 2) l _ c.load_line.ensures.value part row);
      limit =
          row_fits_too (IsNear 255) c.loop-l.rows c.load_line.new.line line l first step _
          c.loop-l.invariant.limit at long (omega (arith, size, row_fits line m.rows l below))
          c.load_line.ensures.limit;
    }

pub returns : goal.returns
returns c =
    let s = c.args.self.now in
    let m = s.convolution.now in
    let end : c.loop-l.l ≡ m.rows =
    omega (arith, c.loop-l-test.false, c.loop-l.auto.l-end, c.rows-count.ensures.value) in
    let size : length c.loop-l.rows ≡ c.loop-l.l * c.args.line =
    c.loop-l.auto.rows ∙ c.requires.len ∙ ap (λ n. n * c.args.line) (sym end) in
    let all = take_all (c.loop-l.l * c.args.line) c.loop-l.rows (omega (arith, size)) in
    record {
      value =
          sym (map-id c.loop-l.rows) ∙ ap (map (λ z. z)) (sym all) ∙ c.loop-l.invariant.value
          ∙ ap
          (λ n. table c.args.line n
          (λ c' i. sample_or_border s.image.now s.border
          (pos (c.args.x + c') -ℤ pos (m.columns / 2))
          (pos c.args.y +ℤ pos (m.rows / 2) -ℤ pos i)))
          end;
      limit = subst (Each1 (IsNear 255)) all c.loop-l.invariant.limit;
    }
