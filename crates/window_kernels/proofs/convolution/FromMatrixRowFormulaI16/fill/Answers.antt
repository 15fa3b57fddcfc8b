use Rattle.std.proofs.Common.{◌≡◌, ◌≤◌, ℕ, ℤ, ◌∙◌, ◌+◌, ◌*◌, ◌/◌, ◌+ℤ◌, ◌-ℤ◌, ap, sym, pos, length, zero-add, arith, int_div, ◌^◌}
use Rattle.window_kernels.proofs.Common.{Each1-get_or, IsNear, clamp, convolution_result, run, run_shifted, sample_or_border, sum_of_rows}
use Rattle.vx_base.proofs.TableLaws.{length-table}
use Rattle.vx_base.specs.declared.format.Format.{Format}
use Rattle.window_kernels.proofs.MatrixLaws.{are_tables, length-pairs, odd_side, sum_is_product}
use Rattle.window_kernels.proofs.convolution.FromMatrixRowFormulaI16.fill.Goals as goal

pub invariant_of-matrix : goal.invariant_of-matrix
invariant_of-matrix g c =
    let s = c.args.self.now in
    let m = s.convolution.now in
    let pairs : c.from-3.result / 2 + 1 ≤ 5 =
    omega (arith, c.from-3.ensures, odd_side c.columns.result c.columns.ensures.side) in
    record {
      few = ((odd_side c.rows-count.result c.rows-count.ensures.side).1, pairs);
      small = c.exponent.ensures.limit;
      rows_len =
          ap length c.load_rows.ensures.value
          ∙ length-table (length c.args.out.now + 48) m.rows
          (λ k l. sample_or_border s.image.now s.border
          (pos (c.args.x + k) -ℤ pos (m.columns / 2))
          (pos c.args.y +ℤ pos (m.rows / 2) -ℤ pos l))
          ∙ ap (λ n. n * (length c.args.out.now + 48)) (sym c.rows-count.ensures.value);
      near =
          λ i d below. Each1-get_or (IsNear 255) c.load_rows.new.rows i d below
          c.load_rows.ensures.limit;
      tables_len =
          omega (
            arith,
            ap length s.rotated_coefficient,
            length-pairs m 0 (m.rows * 5),
            c.rows-count.ensures.value,
          );
      paired =
          λ l below. are_tables m s.tables.now (c.from-3.result / 2 + 1) s.rotated_coefficient
          pairs l (omega (arith, c.rows-count.ensures.value, below));
      fits = s.fits;
    }

pub returns : goal.returns
returns g c =
    let s = c.args.self.now in
    let m = s.convolution.now in
    let f = sample_or_border s.image.now s.border in
    let x = c.args.x in
    let y = c.args.y in
    let n = length c.args.out.now in
    let line = n + 48 in
    let rows = c.load_rows.new.rows in
    let side = odd_side m.columns s.side in
    let over : Format → ℕ → ℤ → ℤ = λ format e z. clamp format (int_div z (pos (2 ^ e))) in
    let sum : ℕ → ℕ → ℕ → ℤ = λ pairs count i. sum_of_rows rows line s.tables.now pairs count i in
    let format = g.T.Sample.format in
    let pairs : c.from-3.result / 2 + 1 ≡ m.columns / 2 + 1 =
    omega (arith, c.from-3.ensures, c.columns.ensures.value) in
    (rw g.met.T.SampleItem.same at c.write.ensures)
    ∙ ap
    (λ (v : Format). run 0 n
    (λ i. over v c.exponent.result (sum (c.from-3.result / 2 + 1) c.rows-count.result i)))
    g.met.T.Convolved.same_format
    ∙ ap
    (λ e. run 0 n (λ i. over format e (sum (c.from-3.result / 2 + 1) c.rows-count.result i)))
    c.exponent.ensures.value
    ∙ ap (λ k. run 0 n (λ i. over format m.exponent (sum k c.rows-count.result i))) pairs
    ∙ ap (λ k. run 0 n (λ i. over format m.exponent (sum (m.columns / 2 + 1) k i)))
    c.rows-count.ensures.value
    ∙ run_shifted (λ i. over format m.exponent (sum (m.columns / 2 + 1) m.rows i))
    (λ k. convolution_result m format f (pos k) (pos y)) 0 x n
    (λ k h. ap (over format m.exponent)
    (sum_is_product m f rows s.tables.now x y (0 + k) line c.load_rows.ensures.value
    s.rotated_coefficient s.side (omega (arith, side, h)))
    ∙ ap (λ i. convolution_result m format f (pos (x + i)) (pos y)) (zero-add k))
