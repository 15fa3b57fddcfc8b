-- Tallies that add rows of images band after band.
use Rattle.std.proofs.Common.{◌≡◌, ℕ, ◌+◌, ◌-◌, ◌*◌, ◌<◌, ◌≤◌, ◌^◌, zero, suc, length, slice_index, refl, sym, ◌∙◌, ap, subst, arith, replicate, count_by, unsigned_abs}
use Rattle.graph_steps.proofs.PlaneLaws.{sides_of}
use Rattle.vx_base.specs.Statistics.{bin_of, is_bin}
use Rattle.graph_steps.proofs.Common.{AgreeInRows, Band, CanAdd, Description, ImageValue, IsBounded, IsImage, IsInRows, IsNew, Rectangle, TakesFormat, Tally, all_rows, band_of, bin_sums, cases_lt, extremes, get_or-replicate, get_or_past, has_pixel, histogram, length-map, length-replicate, nat_tests, no_extremes, pixel_at, rectangle_pixels, run-same, samples_in, tallies, tally_of, valid_in, valid_samples, with_rows_added}
use Rattle.std.proofs.lemmas.List.FromFn.{length-map-range_with_len}
use Rattle.vx_base.proofs.PictureLaws.{side}
use Rattle.stat_kernels.proofs.AlikeLaws.{parts_located}
use Rattle.std.proofs.lemmas.Nat.{mul-le}
use Rattle.stat_kernels.proofs.PlaceLaws.{length-rows, samples_joined}
use Rattle.stat_kernels.specs.Part.{columns_in}
use Rattle.stat_kernels.proofs.BandLaws.{all_valid, bands_counted, extremes_few, few_samples, none_counted, none_located, rows_at, tally_few, rows_more, samples_none}
use Rattle.graph_steps.specs.declared.tally.Tally.TheVariants as tally

-- ---- samples of images that agree

length-samples : (r : Rectangle) (image : ImageValue)
    → length (samples_in r image) ≡ (r.y1 - r.y0) * (r.x1 - r.x0)
length-samples r image =
    length-map (rectangle_pixels r) (λ p. pixel_at image p.0 p.1)
    ∙ length-rows r.x0 (r.x1 - r.x0) r.y0 (r.y1 - r.y0)

rows_same : (a b : ImageValue) (r : Rectangle) (start count : ℕ)
    →
    ((x y : ℕ)
    → r.x0 ≤ x
    → x < r.x1
    → r.y0 ≤ y
    → y < r.y1
    → start ≤ y
    → y < start + count
    → pixel_at a x y ≡ pixel_at b x y)
    → samples_in (band_of (rows_at start count) r) a
    ≡ samples_in (band_of (rows_at start count) r) b
rows_same a b r start zero same = samples_none r a start ∙ sym (samples_none r b start)
rows_same a b r start (suc count) same =
    let y = start + count in
    let next : suc count ≡ count + 1 = omega arith in
    let rows = rows_same a b r start count (λ x y i j k l m n. same x y i j k l m (omega arith)) in
    let row =
    run-same (λ k. pixel_at a k y) (λ k. pixel_at b k y) r.x0 (columns_in r y)
    (λ k low high. same k y low (grind (arith, nat_tests)) (grind (arith, nat_tests))
    (grind (arith, nat_tests)) (omega arith) (omega arith))
    in
    ap (λ n. samples_in (band_of (rows_at start n) r) a) next
    ∙ samples_joined (pixel_at a) _ _ r.x0 (columns_in r y) y (rows_more r start count)
    ∙ cc (rows, row)
    ∙ sym (samples_joined (pixel_at b) _ _ r.x0 (columns_in r y) y (rows_more r start count))
    ∙ ap (λ n. samples_in (band_of (rows_at start n) r) b) (sym next)

-- ---- one tally

-- the tally of the rows of an image above row y
abbrev pub tally_above : ℕ → ImageValue → Tally → Tally
tally_above y image (tally.Histogram d) =
    tally.Histogram
    (record { bins = d.bins; counts = histogram d.bins (valid_in (all_rows y) image) })
tally_above y image (tally.Extremes e) = tally.Extremes (extremes (valid_in (all_rows y) image))

-- a few samples for each row
band_few : (image : ImageValue)
    → IsImage image
    → (rows : Band)
    → length (valid_samples (valid_in rows image)) ≤ rows.count * 8192
band_few image is rows =
    let r = band_of rows image.valid in
    let high : r.y1 - r.y0 ≤ rows.count = grind (arith, nat_tests) in
    omega (
      arith,
      length-samples r image,
      mul-le (r.y1 - r.y0) (r.x1 - r.x0) rows.count 8192 high
          (omega (arith, side image.width is.sides.width, is.room.columns)),
    )

-- rows can be added where the rows above them were
pub can_add : (first : ℕ) (rows : Band) (image : ImageValue) (t : Tally)
    → first < 2 ^ 16
    → IsImage image
    → TakesFormat image.format t
    → IsBounded (first * 8192) t
    → CanAdd rows image t
can_add first rows image (tally.Histogram d) low is format bounded = record {
  format = format;
  room = (λ k. let b = bounded.1 k in let f = few_samples image is rows in omega arith);
}
can_add first rows image (tally.Extremes e) low is format bounded =
    let few = extremes_few (valid_in rows image) in
    let f = few_samples image is rows in
    let a = few.0 in
    let b = few.1 in
    let c = bounded.0 in
    let d = bounded.1 in
    record { format = format; room = (omega arith, omega arith) }

-- the tally of rows above a row is bounded, and of the same kind
pub bounded_above : (y : ℕ) (image : ImageValue) (t : Tally)
    → IsImage image
    → IsBounded (y * 8192) (tally_above y image t)
bounded_above y image (tally.Histogram d) is = (
  length-map-range_with_len
      (λ k. count_by (λ z. is_bin k (bin_of d.bins (unsigned_abs z)))
      (valid_samples (valid_in (all_rows y) image)))
      0 d.bins.bins,
  (λ k.
      let b = tally_few d.bins (valid_samples (valid_in (all_rows y) image)) k in
      let c = band_few image is (all_rows y) in
      omega arith),
)
bounded_above y image (tally.Extremes e) is =
    let few = extremes_few (valid_in (all_rows y) image) in
    let f = band_few image is (all_rows y) in
    let l = few.0 in
    let g = few.1 in
    (omega arith, omega arith)

pub bounded_less : (few most : ℕ) (t : Tally) → few ≤ most → IsBounded few t → IsBounded most t
bounded_less few most (tally.Histogram d) less b = (b.0, (λ k. let c = b.1 k in omega arith))
bounded_less few most (tally.Extremes e) less b =
    (let c = b.0 in let d = b.1 in (omega arith, omega arith))

pub format_above : (y : ℕ) (image : ImageValue) (t : Tally)
    → TakesFormat image.format t
    → TakesFormat image.format (tally_above y image t)
format_above y image (tally.Histogram d) h = h
format_above y image (tally.Extremes e) h = h

-- the rows of a band are added to those above it
pub added_above : (rows : Band) (first last : ℕ) (a image : ImageValue) (t : Tally)
    → IsImage image
    → AgreeInRows first last a image
    → ((y : ℕ) → rows.start ≤ y → y < rows.start + rows.count → (first ≤ y) × (y ≤ last))
    → IsInRows image.height rows
    → with_rows_added rows a (tally_above rows.start image t)
    ≡ tally_above (rows.start + rows.count) image t
added_above rows first last a image (tally.Histogram d) is agree near room =
    let b = d.bins in
    let same : valid_samples (valid_in rows a) ≡ valid_samples (valid_in rows image) =
    ap (λ r. samples_in (band_of rows r) a) agree.alike.valid
    ∙ rows_same a image image.valid rows.start rows.count
    (λ x y left right top bottom low high.
    let across = is.room.columns in
    let down = is.room.rows in
    let sides = sides_of agree.alike.description in
    let n = near y low high in
    agree.samples x y (omega arith) (omega arith) n.0 n.1) in
    let counts :
    bin_sums (histogram b (valid_in (all_rows rows.start) image)) (histogram b (valid_in rows a))
    ≡ histogram b (valid_in (all_rows (rows.start + rows.count)) image) =
    ap (λ l. bin_sums (histogram b (valid_in (all_rows rows.start) image)) (tallies b l)) same
    ∙ ap
    (λ n. bin_sums (histogram b (valid_in (all_rows rows.start) image))
    (histogram b (valid_in (rows_at n rows.count) image)))
    {x = rows.start} {y = 0 + rows.start} (omega arith)
    ∙ sym (bands_counted b image 0 rows.start rows.count) in
    ap (λ l. tally.Histogram (record { bins = b; counts = l })) counts
added_above rows first last a image (tally.Extremes e) is agree near room =
    ap (λ x. tally.Extremes x) (parts_located a image rows 0 rows.start 0 (omega arith) (record {
      is = is;
      each = λ k below. record {
        width = ap (λ (e : Description). e.width) agree.alike.description;
        valid =
            λ x. ap (λ r. has_pixel r x (rows.start + k)) agree.alike.valid
            ∙ ap (has_pixel image.valid x) (omega arith);
        samples = λ x across.
            let sides = sides_of agree.alike.description in
            let n = near (rows.start + k) (omega arith) (omega arith) in
            agree.samples x (rows.start + k) (omega arith) (omega arith) n.0 n.1
            ∙ ap (pixel_at image x) (omega arith);
      };
    }))

-- before the first row nothing is added, and after the last one all is
pub none_above : (image : ImageValue) (t : Tally) → IsNew t → t ≡ tally_above 0 image t
none_above image (tally.Histogram d) new =
    ap (λ l. tally.Histogram (record { bins = d.bins; counts = l }))
    (new ∙ sym (none_counted d.bins image 0))
none_above image (tally.Extremes e) new =
    ap (λ x. tally.Extremes x) (new ∙ sym (none_located image 0))

pub all_above : (image : ImageValue) (t : Tally)
    → IsImage image
    → tally_above image.height image t ≡ tally_of image t
all_above image (tally.Histogram d) is =
    ap (λ i. tally.Histogram (record { bins = d.bins; counts = histogram d.bins i }))
    (all_valid image is)
all_above image (tally.Extremes e) is = ap (λ i. tally.Extremes (extremes i)) (all_valid image is)

-- ---- all rows together

zero_at : (n k : ℕ) → slice_index (replicate n 0) k ≡ 0
zero_at n k = grind (arith, cases_lt k n, get_or-replicate, get_or_past, length-replicate)

-- a new tally has no samples
pub new_bounded : (t : Tally) → IsNew t → IsBounded (0 * 8192) t
new_bounded (tally.Histogram d) new = (
  ap length new ∙ length-replicate d.bins.bins 0,
  λ k. omega (arith, ap (λ l. slice_index l k) new, zero_at d.bins.bins k),
)
new_bounded (tally.Extremes e) new =
    let none : IsBounded (0 * 8192) (tally.Extremes no_extremes) = (omega arith, omega arith) in
    subst (λ x. IsBounded (0 * 8192) (tally.Extremes x)) (sym new) none

pub whole_added : (image : ImageValue) (t : Tally)
    → IsImage image
    → IsNew t
    → with_rows_added (all_rows image.height) image t ≡ tally_of image t
whole_added image t is new =
    ap (with_rows_added (all_rows image.height) image) (none_above image t new)
    ∙ added_above (all_rows image.height) 0 image.height image image t is
    (record {
      alike = record { description = refl; valid = refl };
      samples = λ x y across low above
          below. refl;
    })
    (λ y low high. (omega arith, omega arith)) (omega arith)
    ∙ ap (λ n. tally_above n image t) {x = 0 + image.height} {y = image.height} (omega arith)
    ∙ all_above image t is
