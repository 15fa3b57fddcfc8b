use Rattle.std.proofs.Common.{ℤ, ◌+ℤ◌, ◌*ℤ◌, pos, map, ap, ◌∙◌, sym, w8, w16, w32, Fits, map-id}
use Rattle.std.specs.Int.{int_wrap}
use Rattle.lane_rows.proofs.Common.{zip2, to_z-of_z}
use Rattle.std.proofs.lemmas.Simd.{Each1-from_get_or}
use Rattle.lane_rows.proofs.AxpyLaws.{none_wraps}
use Rattle.lane_rows.proofs.axpy.axpy_i32.Goals as goal

pub returns : goal.returns
returns c =
    let row = map pos c.args.row.now in
    let f : ℤ → ℤ → ℤ → ℤ = λ k a sum. int_wrap w32 (sum +ℤ k *ℤ a) in
    sym (map-id c.update_row.new.sums)
    ∙ c.update_row.ensures
    ∙ ap (λ k. zip2 (f k) row (map (λ z. z) c.args.sums.now)) (to_z-of_z w16 c.args.k c.ranges.k)
    ∙ ap (zip2 (f c.args.k) row) (map-id c.args.sums.now)
    ∙ none_wraps c.args.k c.args.row.now c.args.sums.now c.ranges.k
    (Each1-from_get_or (Fits w8) c.args.row.now 0 (λ i _. c.type_inv.row i)) c.requires.limit
