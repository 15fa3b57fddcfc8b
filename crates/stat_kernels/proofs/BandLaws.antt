-- The samples of bands of rows, and what is counted of them.
use Rattle.std.proofs.Common.{◌≡◌, ℕ, ℤ, ◌+◌, ◌-◌, ◌*◌, ◌<◌, ◌≤◌, List, [], ◌++◌, length, map, slice_index, cond, replicate, inl, inr, refl, ap, sym, ◌∙◌, arith, ◌&&◌, nat_le, nat_lt, if◌then◌else◌, min, max, unsigned_abs, append-nil}
use Rattle.stat_kernels.proofs.Common.{int_min, int_max, cases_Bool, cases_lt, nat_tests, side, rectangle_ordered, length-map, map-append, get_or_past, length-replicate, get_or-replicate, fill_by_all, count_by-le-length, sum_by-append, ImageValue, IsImage, pixel_at, Rectangle, BinsValue, bin_of, is_bin, histogram, samples_in, tallies, valid_samples, rectangle_pixels, row_pixels, flat_map, range_with_len, extremes, Band, all_rows, bin_sums, band_of, valid_in, columns_in, valid_run, extremes_of, found_in}
use Rattle.stat_kernels.proofs.PlaceLaws.{length-rows, range_from, rows_joined, samples_joined}
use Rattle.vx_base.specs.Object.{no_extremes}
use Rattle.stat_kernels.proofs.TallyLaws.{length-tallies, tally_at}
use Rattle.stat_kernels.proofs.MergeLaws.{at_most}

abbrev pub rows_at : ℕ → ℕ → Band
rows_at start count = record { start = start; count = count }

-- ---- pixels by rows

-- the pixels of a rectangle in one row
abbrev pub row_of : Rectangle → ℕ → List (ℕ × ℕ)
row_of r y = if nat_le r.y0 y && nat_lt y r.y1 then row_pixels r.x0 (r.x1 - r.x0) y else []

-- the pixels of a row by their number
pub row_is : (r : Rectangle) (y : ℕ) → row_of r y ≡ row_pixels r.x0 (columns_in r y) y
row_is r y = elim (cases_Bool (nat_le r.y0 y && nat_lt y r.y1)) [
  | inl some ↦ rw some refl
  | inr none ↦ rw none refl
]

-- the number of a band's rows that have pixels of a rectangle
abbrev rows_of : Rectangle → ℕ → ℕ → ℕ
rows_of r start count = max (max r.y0 start) (min r.y1 (start + count)) - max r.y0 start

abbrev rows_from : Rectangle → ℕ → ℕ → List (ℕ × ℕ)
rows_from r y n = flat_map (row_pixels r.x0 (r.x1 - r.x0)) (range_with_len y n)

-- no rows have no pixels
pub no_places : (r : Rectangle) (start : ℕ) → rectangle_pixels (band_of (rows_at start 0) r) ≡ []
no_places r start =
    ap (rows_from r (max r.y0 start))
    (let none : rows_of r start 0 ≡ 0 = grind (arith, nat_tests) in none)

-- rows after others
pub rows_follow : (r : Rectangle) (start first second : ℕ)
    → rectangle_pixels (band_of (rows_at start (first + second)) r)
    ≡ rectangle_pixels (band_of (rows_at start first) r)
    ++ rectangle_pixels (band_of (rows_at (start + first) second) r)
rows_follow r start first second =
    let m = rows_of r start first in
    let n = rows_of r (start + first) second in
    let all : rows_of r start (first + second) ≡ m + n = grind (arith, nat_tests) in
    let next : 0 < n → max r.y0 start + m ≡ max r.y0 (start + first) =
    λ some. grind (arith, nat_tests, some) in
    ap (rows_from r (max r.y0 start)) all ∙ rows_joined r.x0 (r.x1 - r.x0) (max r.y0 start) m n
    ∙ ap (λ l. rows_from r (max r.y0 start) m ++ flat_map (row_pixels r.x0 (r.x1 - r.x0)) l)
    (range_from (max r.y0 start + m) (max r.y0 (start + first)) n next)

-- one more row
pub one_row : (r : Rectangle) (start count : ℕ)
    → rectangle_pixels (band_of (rows_at start (count + 1)) r)
    ≡ rectangle_pixels (band_of (rows_at start count) r) ++ row_of r (start + count)
one_row r start count =
    rows_follow r start count 1
    ∙ ap (λ l. rectangle_pixels (band_of (rows_at start count) r) ++ l)
    (elim (cases_Bool (nat_le r.y0 (start + count) && nat_lt (start + count) r.y1)) [
      | inl inside ↦
          let one : rows_of r (start + count) 1 ≡ 1 = grind (arith, nat_tests) in
          let top : max r.y0 (start + count) ≡ start + count = grind (arith, nat_tests) in
          ap (rows_from r (max r.y0 (start + count))) one
          ∙ append-nil _
          ∙ ap (row_pixels r.x0 (r.x1 - r.x0)) top
          ∙ ap (λ b. if b then row_pixels r.x0 (r.x1 - r.x0) (start + count) else []) (sym inside)
      | inr outside ↦
          let none : rows_of r (start + count) 1 ≡ 0 = grind (arith, nat_tests) in
          ap (rows_from r (max r.y0 (start + count))) none
          ∙ ap (λ b. if b then row_pixels r.x0 (r.x1 - r.x0) (start + count) else []) (sym outside)
    ])

pub rows_more : (r : Rectangle) (start count : ℕ)
    → rectangle_pixels (band_of (rows_at start (count + 1)) r)
    ≡ rectangle_pixels (band_of (rows_at start count) r)
    ++ row_pixels r.x0 (columns_in r (start + count)) (start + count)
rows_more r start count =
    one_row r start count
    ∙ ap (λ l. rectangle_pixels (band_of (rows_at start count) r) ++ l) (row_is r (start + count))

-- ---- samples by rows

-- no rows have no samples
pub samples_none : (r : Rectangle) (image : ImageValue) (start : ℕ)
    → samples_in (band_of (rows_at start 0) r) image ≡ []
samples_none r image start = ap (map (λ p. pixel_at image p.0 p.1)) (no_places r start)

-- one more row
pub samples_more : (image : ImageValue) (start count : ℕ)
    → valid_samples (valid_in (rows_at start (count + 1)) image)
    ≡ valid_samples (valid_in (rows_at start count) image) ++ valid_run image (start + count)
samples_more image start count =
    samples_joined (pixel_at image) _ _ image.valid.x0 (columns_in image.valid (start + count))
    (start + count) (rows_more image.valid start count)

-- rows after others
pub samples_after : (r : Rectangle) (image : ImageValue) (start first second : ℕ)
    → samples_in (band_of (rows_at start (first + second)) r) image
    ≡ samples_in (band_of (rows_at start first) r) image
    ++ samples_in (band_of (rows_at (start + first) second) r) image
samples_after r image start first second =
    ap (map (λ p. pixel_at image p.0 p.1)) (rows_follow r start first second)
    ∙ map-append (λ p. pixel_at image p.0 p.1)
    (rectangle_pixels (band_of (rows_at start first) r))
    (rectangle_pixels (band_of (rows_at (start + first) second) r))

-- all rows of an image are all of it
pub all_valid : (image : ImageValue)
    → IsImage image
    → valid_in (all_rows image.height) image ≡ image
all_valid image is =
    let r = image.valid in
    let bottom : max (max r.y0 0) (min r.y1 (0 + image.height)) ≡ r.y1 =
    grind (arith, nat_tests, (rectangle_ordered r is.canonical).rows, is.room.rows) in
    let top : max r.y0 0 ≡ r.y0 = grind (arith, nat_tests) in
    rw (bottom, top) refl

-- ---- counts of bands

-- samples after others are counted bin by bin
pub tallies_added : (b : BinsValue) (zs ws : List ℤ)
    → tallies b (zs ++ ws) ≡ bin_sums (tallies b zs) (tallies b ws)
tallies_added b zs ws =
    fill_by_all (λ k. slice_index (tallies b zs) k + slice_index (tallies b ws) k)
    (tallies b (zs ++ ws)) (length (tallies b zs)) 0
    (length-tallies b (zs ++ ws) ∙ sym (length-tallies b zs))
    (λ k below.
    let inside : k < b.bins = omega (arith, length-tallies b zs) in
    omega (
      arith,
      tally_at b zs k inside,
      tally_at b ws k inside,
      tally_at b (zs ++ ws) k inside,
      sum_by-append (λ z. cond (is_bin k (bin_of b (unsigned_abs z))) 1 0) zs ws,
    ))

-- nothing is counted of no rows
pub none_counted : (b : BinsValue) (image : ImageValue) (start : ℕ)
    → histogram b (valid_in (rows_at start 0) image) ≡ replicate b.bins 0
none_counted b image start =
    ap (tallies b) (samples_none image.valid image start)
    ∙ sym
    (fill_by_all (λ k. 0) (replicate b.bins 0) b.bins 0 (length-replicate b.bins 0)
    (λ k below. get_or-replicate b.bins k 0 0 below))

-- so are bands of rows
pub bands_counted : (b : BinsValue) (image : ImageValue) (start first second : ℕ)
    → histogram b (valid_in (rows_at start (first + second)) image)
    ≡ bin_sums (histogram b (valid_in (rows_at start first) image))
    (histogram b (valid_in (rows_at (start + first) second) image))
bands_counted b image start first second =
    ap (tallies b) (samples_after image.valid image start first second)
    ∙ tallies_added b (samples_in (band_of (rows_at start first) image.valid) image)
    (samples_in (band_of (rows_at (start + first) second) image.valid) image)

-- no count is above the number of samples
pub tally_few : (b : BinsValue) (zs : List ℤ) (k : ℕ) → slice_index (tallies b zs) k ≤ length zs
tally_few b zs k = elim (cases_lt k b.bins) [
  | inl below ↦
      omega (
        arith,
        tally_at b zs k below,
        count_by-le-length (λ z. is_bin k (bin_of b (unsigned_abs z))) zs,
      )
  | inr past ↦
      omega (arith, get_or_past (tallies b zs) k 0 (omega (arith, past, length-tallies b zs)))
]

-- no rows of an image have more valid samples than an image has at most
pub few_places : (image : ImageValue)
    → IsImage image
    → (rows : Band)
    → length (rectangle_pixels (band_of rows image.valid)) ≤ 67108864
few_places image is rows =
    let r = band_of rows image.valid in
    let high : r.y1 - r.y0 ≤ 8192 =
    grind (
      arith,
      nat_tests,
      is.sides.height,
      is.room.rows,
      (rectangle_ordered image.valid is.canonical).rows,
    ) in
    omega (
      arith,
      length-rows r.x0 (r.x1 - r.x0) r.y0 (r.y1 - r.y0),
      all_few (r.y1 - r.y0) (r.x1 - r.x0) high
          (omega (arith, side image.width is.sides.width, is.room.columns)),
    )
  where
    all_few : (m k : ℕ) → m ≤ 8192 → k ≤ 8192 → m * k ≤ 67108864
    all_few m k rows columns = grind arith

pub few_samples : (image : ImageValue)
    → IsImage image
    → (rows : Band)
    → length (valid_samples (valid_in rows image)) ≤ 67108864
few_samples image is rows =
    omega (
      arith,
      length-map (rectangle_pixels (band_of rows image.valid)) (λ p. pixel_at image p.0 p.1),
      few_places image is rows,
    )

-- ---- extremes of bands

-- nothing is found in no rows
pub none_located : (image : ImageValue) (start : ℕ)
    → extremes (valid_in (rows_at start 0) image) ≡ no_extremes
none_located image start =
    ap (λ l. extremes_of (found_in (pixel_at image) l)) (no_places image.valid start)

-- no more pixels hold an extreme than are valid
pub extremes_few : (image : ImageValue)
    → ((extremes image).min_count ≤ length (valid_samples image))
    × ((extremes image).max_count ≤ length (valid_samples image))
extremes_few image =
    let long = length-map (rectangle_pixels image.valid) (λ p. pixel_at image p.0 p.1) in (
      omega (arith, at_most int_min (pixel_at image) (rectangle_pixels image.valid), long),
      omega (arith, at_most int_max (pixel_at image) (rectangle_pixels image.valid), long),
    )

pub few_least : (image : ImageValue)
    → IsImage image
    → (rows : Band)
    → (extremes (valid_in rows image)).min_count ≤ 67108864
few_least image is rows =
    omega (arith, (extremes_few (valid_in rows image)).0, few_samples image is rows)

pub few_greatest : (image : ImageValue)
    → IsImage image
    → (rows : Band)
    → (extremes (valid_in rows image)).max_count ≤ 67108864
few_greatest image is rows =
    omega (arith, (extremes_few (valid_in rows image)).1, few_samples image is rows)

pub ruleset few_extremes = (few_least, few_greatest)
