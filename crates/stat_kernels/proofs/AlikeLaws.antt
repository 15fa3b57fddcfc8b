-- Rows of an image that equal rows of another one, at different heights.
use Rattle.std.proofs.Common.{refl, ◌≡◌, ◌∙◌, ℕ, ℤ, zero, suc, ◌+◌, ◌-◌, ◌<◌, ◌≤◌, List, map, ap, sym, arith}
use Rattle.stat_kernels.proofs.Common.{nat_tests, run, run-same, ImageValue, Rectangle, has_pixel, pixel_at, extremes, extremes_of, found_in, rectangle_pixels, row_pixels, Band, band_of, columns_in, valid_in, added_extremes, merge_found, shift_found, AreRowsOf, Found}
use Rattle.stat_kernels.proofs.MergeLaws.{found_joined, found_more, row_lowered}
use Rattle.stat_kernels.proofs.BandLaws.{no_places, rows_at, rows_more}
use Rattle.stat_kernels.proofs.PlaceLaws.{range_from}

-- merging the extremes of a row, and of a lower row with the same valid columns and the same
-- samples there
row_same : (r s : Rectangle) (f g : ℕ → ℕ → ℤ) (y line down width : ℕ)
    → line ≡ y + down
    → ((x : ℕ) → has_pixel r x y ≡ has_pixel s x line)
    → ((x : ℕ) → x < width → f x y ≡ g x line)
    → s.x1 ≤ width
    → (a : Found)
    → merge_found a (shift_found down (found_in f (row_pixels r.x0 (columns_in r y) y)))
    ≡ merge_found a (found_in g (row_pixels s.x0 (columns_in s line) line))
row_same r s f g y line down width at same values within a =
    let n = columns_in r y in
    let columns : n ≡ columns_in s line =
    grind (arith, nat_tests, same r.x0, same s.x0, same (r.x1 - 1), same (s.x1 - 1)) in
    let first : 0 < n → r.x0 ≡ s.x0 =
    λ some. grind (arith, nat_tests, same r.x0, same s.x0, some) in
    let inside : (x : ℕ) → r.x0 ≤ x → x < r.x0 + n → x < width =
    λ x from to. grind (arith, nat_tests, same x, within) in
    let samples_same =
    run-same (λ x. f x y) (λ x. g x line) r.x0 n (λ x from to. values x (inside x from to))
    ∙ ap (λ j. run r.x0 n (λ x. g x j)) at in
    sym (row_lowered f g down a r.x0 n y samples_same)
    ∙ ap (λ j. merge_found a (found_in g (row_pixels r.x0 n j))) (sym at)
    ∙ ap (λ ps. merge_found a (found_in g ps))
    (ap (map (λ x. (x, line))) (range_from r.x0 s.x0 n first)
    ∙ ap (λ m. row_pixels s.x0 m line) columns)

-- the extremes of rows of one image and of a band of another, whose rows equal those below them
module _ (part whole : ImageValue) (one start first down width : ℕ)
    (at_line : one + down ≡ start + first) (across : whole.valid.x1 ≤ width) where
  abbrev pixels : ImageValue → ℕ → ℕ → List (ℕ × ℕ)
  pixels image start count = rectangle_pixels (band_of (rows_at start count) image.valid)

  located : (count : ℕ)
      →
      ((x k : ℕ)
      → k < count
      → has_pixel part.valid x (one + k) ≡ has_pixel whole.valid x (start + first + k))
      →
      ((x k : ℕ)
      → x < width
      → k < count
      → pixel_at part x (one + k) ≡ pixel_at whole x (start + first + k))
      → merge_found (found_in (pixel_at whole) (pixels whole start first))
      (shift_found down (found_in (pixel_at part) (pixels part one count)))
      ≡ found_in (pixel_at whole) (pixels whole start (first + count))
  located zero valid same =
      let none : first + 0 ≡ first = omega arith in rw (no_places part.valid one, none) refl
  located (suc k) valid same =
      let f = pixel_at part in
      let g = pixel_at whole in
      let next : suc k ≡ k + 1 = omega arith in
      let more : first + suc k ≡ first + k + 1 = omega arith in
      let line : start + first + k ≡ start + (first + k) = omega arith in
      let row = row_pixels part.valid.x0 (columns_in part.valid (one + k)) (one + k) in
      let lower_row =
      row_pixels whole.valid.x0 (columns_in whole.valid (start + (first + k)))
      (start + (first + k)) in
      let a = found_in g (pixels whole start first) in
      let before =
      located k (λ x j below. valid x j (omega arith))
      (λ x j inside below. same x j inside (omega arith)) in
      ap (λ ps. merge_found a (shift_found down (found_in f ps)))
      (ap (pixels part one) next ∙ rows_more part.valid one k)
      ∙ sym (found_more f down a (pixels part one k) row)
      ∙ ap (λ b. merge_found b (shift_found down (found_in f row))) before
      ∙ row_same part.valid whole.valid f g (one + k) (start + (first + k)) down width
      (omega arith) (λ x. valid x k (omega arith) ∙ ap (has_pixel whole.valid x) line)
      (λ x inside. same x k inside (omega arith) ∙ ap (g x) line) across
      (found_in g (pixels whole start (first + k)))
      ∙ found_joined g (pixels whole start (first + k)) lower_row
      ∙ ap (found_in g)
      (sym (ap (pixels whole start) more ∙ rows_more whole.valid start (first + k)))

pub parts_located : (part whole : ImageValue) (rows : Band) (start first down : ℕ)
    → rows.start + down ≡ start + first
    → AreRowsOf part rows whole (start + first)
    → added_extremes down (extremes (valid_in (rows_at start first) whole))
    (extremes (valid_in rows part))
    ≡ extremes (valid_in (rows_at start (first + rows.count)) whole)
parts_located part whole rows start first down at_line are =
    ap extremes_of
    (located part whole rows.start start first down whole.width at_line are.is.room.columns
    rows.count (λ x k below. (are.each k below).valid x)
    (λ x k inside below. (are.each k below).samples x inside))

-- two bands of one image
pub bands_joined : (image : ImageValue) (start first second : ℕ)
    → added_extremes 0 (extremes (valid_in (rows_at start first) image))
    (extremes (valid_in (rows_at (start + first) second) image))
    ≡ extremes (valid_in (rows_at start (first + second)) image)
bands_joined image start first second =
    ap extremes_of
    (located image image (start + first) start first 0 image.valid.x1 (omega arith)
    (omega arith) second (λ x k below. refl) (λ x k inside below. refl))
