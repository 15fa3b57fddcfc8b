use Rattle.std.proofs.Common.{ℤ, ◌+ℤ◌, ◌*ℤ◌, pos, length, map, take_all, ap, ◌∙◌, sym, arith, w8, w16, w32, to_z, of_z, Fits, map-id}
use Rattle.std.specs.Int.{int_wrap}
use Rattle.lane_rows.proofs.Common.{zip2, length-map, length-zip2, to_z-of_z}
use Rattle.std.proofs.lemmas.Simd.{Each1-from_get_or}
use Rattle.lane_rows.proofs.AxpyLaws.{after, sixteen_added}
use Rattle.lane_rows.proofs.StoreLaws.{stored}
use Rattle.lane_rows.proofs.axpy.AxpyOfSumU8I32.lanes.Goals as goal

pub returns : goal.returns
returns c =
    let s = c.args.self.now in
    let row = c.args.row.now in
    let sums = c.args.sums.now in
    let f : ℤ → ℤ → ℤ = λ a sum. int_wrap w32 (sum +ℤ s.k *ℤ a) in
    let bits = of_z w32 c.from.result in
    let one = length-map row pos ∙ c.requires.row_len in
    let two = length-map sums (λ z. z) ∙ c.requires.sums_len in
    stored (λ z. z) (zip2 f (map pos row) (map (λ z. z) sums)) sums _
    (map-id _
    ∙ ap (λ l. map (to_z w32) ((after bits).all 16 l c.sixteen.result))
    (take_all 16 row (omega (arith, c.requires.row_len)))
    ∙ sixteen_added s.k bits row c.sixteen.result
    (ap (of_z w32) (c.from.ensures ∙ to_z-of_z w16 s.k s.fits)) s.fits c.requires.row_len
    (ap length c.sixteen.ensures.value ∙ c.requires.sums_len)
    (Each1-from_get_or (Fits w8) row 0 (λ i _. c.type_inv.row i)) c.sixteen.ensures.fits
    ∙ ap (zip2 f (map pos row)) (c.sixteen.ensures.value ∙ sym (map-id sums)))
    (length-zip2 f (map pos row) (map (λ z. z) sums) (one ∙ sym two)
    ∙ one
    ∙ sym c.requires.sums_len)
