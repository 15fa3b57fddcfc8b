use Rattle.std.proofs.Common.{◌≡◌, ℕ, ℤ, ◌+◌, ◌-◌, ◌∙◌, List, ap, sym, arith}
use Rattle.stat_kernels.proofs.Common.{ImageValue, Rectangle, columns_in, found_in, pixel_at, row_pixels, run, valid_run, Found, merge_found, shift_found}
use Rattle.stat_kernels.proofs.MergeLaws.{row_lowered}
use Rattle.stat_kernels.proofs.extremes.with_row.Goals as goal

row_found : (image : ImageValue) (x y down : ℕ) (ws : List ℤ) (a new : Found)
    → x ≡ image.valid.x0
    → ws ≡ valid_run image y
    →
    ((f : ℕ → ℕ → ℤ) (n : ℕ)
    → ws ≡ run x n (λ k. f k (y + down))
    → new ≡ merge_found a (found_in f (row_pixels x n (y + down))))
    → new
    ≡ merge_found a
    (shift_found down
    (found_in (pixel_at image) (row_pixels image.valid.x0 (columns_in image.valid y) y)))
row_found image x y down ws a new first row more =
    let n = columns_in image.valid y in
    let f = pixel_at image in
    let g : ℕ → ℕ → ℤ = λ k j. f k (j - down) in
    let back : y + down - down ≡ y = omega arith in
    let same = ap (λ j. run x n (λ k. f k j)) (sym back) in
    more g n (row ∙ ap (λ k. run k n (λ k. f k y)) (sym first) ∙ same)
    ∙ row_lowered f g down a x n y same
    ∙ ap (λ k. merge_found a (shift_found down (found_in f (row_pixels k n y)))) first

pub returns-in-U8 : goal.returns-in-U8
returns-in-U8 c =
    row_found c.args.image.now _ c.args.y c.args.down _ c.args.found _
    (c.x0-x.ensures.value ∙ ap (λ (r : Rectangle). r.x0) c.valid.ensures.value)
    c.valid_row.ensures.value c.include_row.ensures

pub returns-in-S16 : goal.returns-in-S16
returns-in-S16 c =
    row_found c.args.image.now _ c.args.y c.args.down _ c.args.found _
    (c.x0-x.ensures.value ∙ ap (λ (r : Rectangle). r.x0) c.valid.ensures.value)
    c.valid_row-in-S16.ensures.value c.include_row-in-S16.ensures
