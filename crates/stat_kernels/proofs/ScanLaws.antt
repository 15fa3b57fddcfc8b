-- Integral images: each row adds its own samples to the row above it.
use Rattle.std.proofs.Common.{true, ◌≡◌, inl, inr, ℕ, ℤ, pos, zero, suc, ◌+◌, ◌-◌, ◌*◌, ◌%◌, ◌<◌, ◌≤◌, List, map, get_or, Option, Some, None, ap, ◌∙◌, sym, refl, arith, subst, add-zero, if◌then◌else◌, nat_le, max, unsigned_abs}
use Rattle.std.proofs.Math.ListN.{get_or-map}
use Rattle.stat_kernels.proofs.Common.{ints, cases_Bool, nat_tests, sum_by, sum_by-append, flat_map, range_with_len, Rectangle, ImageValue, pixel_at, band, run, zero_outside, rectangle_pixels, row_pixels, samples_in, sum_to, band-more, get_or-run, run-same, Band, IsRowAbove, AreRowsOf, has_pixel, row_sums, row_total, sum_on}
use Rattle.vx_base.specs.declared.format.Format.TheVariants.{U32}
use Rattle.vx_base.specs.Rectangle.{meet_of, whole_rectangle}
use Rattle.vx_base.specs.Sample.{IsSample}
use Rattle.vx_base.proofs.ImageLaws.{get_or-table}
use Rattle.stat_kernels.specs.Sums.{sum_between}
use Rattle.stat_kernels.proofs.PlaceLaws.{above, places_more, samples_joined}

-- the sum above row start + k in column x
abbrev pub above_at : ImageValue → ℕ → ℕ → ℕ → (ℕ → ℕ → ℤ) → ℕ → ℕ
above_at image x start above f zero = above
above_at image x start above f (suc k) = unsigned_abs (zero_outside image.valid f x (start + k))

-- the values of f in column x, from row `start` on, continue from the sum `above` that row
abbrev pub IsScan : ImageValue → ℕ → ℕ → ℕ → (ℕ → ℕ → ℤ) → Type 0
IsScan image x start above f =
    (k : ℕ)
    → has_pixel image.valid x (start + k) ≡ true
    → f x (start + k)
    ≡ pos ((above_at image x start above f k + row_total image x (start + k)) % 4294967296)

-- ---- the definitions are such sums

module _ (image : ImageValue) (start x : ℕ) where
  -- no row is above the first
  between_none : (y : ℕ) → y ≤ max image.valid.y0 start → sum_between image start (x + 1) y ≡ 0
  between_none y low =
      let none : y - max image.valid.y0 start ≡ 0 = omega arith in
      ap
      (λ n. sum_by unsigned_abs
      (map (λ (p : ℕ × ℕ). pixel_at image p.0 p.1)
      (flat_map (row_pixels image.valid.x0 (x + 1 - image.valid.x0))
      (range_with_len (max image.valid.y0 start) n))))
      none

  -- one more row
  between_more : (y : ℕ)
      → image.valid.y0 ≤ y
      → start ≤ y
      → sum_between image start (x + 1) (y + 1)
      ≡ sum_between image start (x + 1) y + row_total image x y
  between_more y valid from =
      let region : Rectangle =
      record { x0 = image.valid.x0; y0 = max image.valid.y0 start; x1 = x + 1; y1 = y } in
      let more = places_more region y (omega arith) in
      ap (sum_by unsigned_abs)
      (samples_joined (pixel_at image) (rectangle_pixels (above region (y + 1)))
      (rectangle_pixels (above region y)) image.valid.x0 (x + 1 - image.valid.x0) y more)
      ∙ sum_by-append unsigned_abs (samples_in region image)
      (run image.valid.x0 (x + 1 - image.valid.x0) (λ k. pixel_at image k y))

  pub sum_on_scan : (above : ℕ → ℕ) → IsScan image x start (above x) (sum_on image start above)
  sum_on_scan above zero is =
      grind (arith, nat_tests, is, between_more (start + 0), between_none (start + 0))
  sum_on_scan above (suc k) is =
      let next : start + suc k ≡ start + k + 1 = omega arith in
      let upto = ap (sum_between image start (x + 1)) next in
      grind (arith, nat_tests, is, upto, between_more (start + suc k), between_none (start + suc k))

-- the value of the integral image above row `line`
abbrev pub value_above : ImageValue → ℕ → ℕ → ℤ
value_above image x zero = pos 0
value_above image x (suc y) = zero_outside image.valid (sum_to image) x y

module _ (image : ImageValue) (x : ℕ) where
  from_top : (y : ℕ)
      → has_pixel image.valid x y ≡ true
      → sum_to image x y ≡ pos (sum_between image 0 (x + 1) (y + 1) % 4294967296)
  from_top y is =
      let top : max image.valid.y0 0 ≡ image.valid.y0 = omega arith in
      let region :
      meet_of image.valid (whole_rectangle (x + 1) (y + 1))
      ≡ record { x0 = image.valid.x0; y0 = image.valid.y0; x1 = x + 1; y1 = y + 1 } =
      grind (arith, nat_tests, is) in
      ap (λ r. pos (sum_by unsigned_abs (samples_in r image) % 4294967296)) region
      ∙ ap
      (λ n. pos
      (sum_by unsigned_abs
      (samples_in (record { x0 = image.valid.x0; y0 = n; x1 = x + 1; y1 = y + 1 }) image) %
      4294967296))
      (sym top)

  sum_to_next : (y : ℕ)
      → has_pixel image.valid x y ≡ true
      → sum_to image x y
      ≡ pos ((unsigned_abs (value_above image x y) + row_total image x y) % 4294967296)
  sum_to_next zero is =
      grind (
        arith,
        nat_tests,
        is,
        from_top 0 is,
        between_more image 0 x 0,
        between_none image 0 x 0,
      )
  sum_to_next (suc k) is =
      let next : suc k ≡ k + 1 = omega arith in
      let upto = ap (sum_between image 0 (x + 1)) next in
      grind (
        arith,
        nat_tests,
        is,
        upto,
        from_top k,
        from_top (suc k) is,
        between_more image 0 x (suc k),
        between_none image 0 x (suc k),
      )

  pub sum_to_scan : (line : ℕ)
      → IsScan image x line (unsigned_abs (value_above image x line)) (sum_to image)
  sum_to_scan line zero =
      subst
      (λ n. has_pixel image.valid x n
      ≡ true → sum_to image x n
      ≡ pos ((unsigned_abs (value_above image x line) + row_total image x n) % 4294967296))
      (sym (add-zero line)) (sum_to_next line)
  sum_to_scan line (suc k) =
      subst
      (λ n. has_pixel image.valid x n ≡ true → sum_to image x n ≡ pos
      ((unsigned_abs (zero_outside image.valid (sum_to image) x (line + k)) + row_total image x n)
      % 4294967296))
      {x = suc (line + k)} {y = line + suc k} (omega arith) (sum_to_next (suc (line + k)))

-- ---- equal rows have equal sums

-- rows of `a` that continue from the row above equal those of the integral image of `b`
module _ (a b : ImageValue) (start line x count : ℕ) (above : ℕ → ℕ)
    (continues : above x ≡ unsigned_abs (value_above b x line))
    (valid : (k i : ℕ)
    → k < count
    → has_pixel a.valid i (start + k) ≡ has_pixel b.valid i (line + k))
    (same : (k i : ℕ) → k < count → i ≤ x → pixel_at a i (start + k) ≡ pixel_at b i (line + k))
  where
    abbrev f : ℕ → ℕ → ℤ
    f = sum_on a start above

    abbrev g : ℕ → ℕ → ℤ
    g = sum_to b

    row_same : (k : ℕ)
        → k < count
        → above_at a x start (above x) f k
        ≡ above_at b x line (unsigned_abs (value_above b x line)) g k
        → zero_outside a.valid f x (start + k) ≡ zero_outside b.valid g x (line + k)
    row_same k below sums = elim (cases_Bool (has_pixel b.valid x (line + k))) [
      | inl is ↦
          let first : a.valid.x0 ≡ b.valid.x0 =
          grind (
            arith,
            nat_tests,
            is,
            valid k x below,
            valid k a.valid.x0 below,
            valid k b.valid.x0 below,
          ) in
          let total : row_total a x (start + k) ≡ row_total b x (line + k) =
          ap (λ n. sum_by unsigned_abs (run n (x + 1 - n) (λ i. pixel_at a i (start + k)))) first
          ∙ ap (sum_by unsigned_abs)
          (run-same (λ i. pixel_at a i (start + k)) (λ i. pixel_at b i (line + k)) b.valid.x0
          (x + 1 - b.valid.x0) (λ i from to. same k i below (omega arith)))
          in
          rw (valid k x below, is)
          (sum_on_scan a start x above k (valid k x below ∙ is)
          ∙ ap (λ n. pos (n % 4294967296)) (omega (arith, sums, total))
          ∙ sym (sum_to_scan b x line k is))
      | inr not ↦ rw (valid k x below, not) refl
    ]

    pub sums_same : (k : ℕ)
        → k < count
        → zero_outside a.valid f x (start + k) ≡ zero_outside b.valid g x (line + k)
    sums_same zero below = row_same 0 below continues
    sums_same (suc k) below = row_same (suc k) below (ap unsigned_abs (sums_same k (omega arith)))

-- where the row above is that of the integral image, the rows below it are too
module _ (a b : ImageValue) (start x y : ℕ) (above : ℕ → ℕ) (valid : a.valid ≡ b.valid)
    (from : start ≤ y) (is : has_pixel b.valid x y ≡ true) where
  pub scan_agrees : ((k j : ℕ) → k ≤ x → start ≤ j → j ≤ y → pixel_at a k j ≡ pixel_at b k j)
      → (start ≡ 0 → above x ≡ 0)
      → (1 ≤ start → above x ≡ unsigned_abs (zero_outside b.valid (sum_to b) x (start - 1)))
      → sum_on a start above x y ≡ sum_to b x y
  scan_agrees same none some =
      let last : start + (y - start) ≡ y = omega arith in
      let value =
      sums_same a b start start x (y - start + 1) above (base start none some)
      (λ k i below. ap (λ r. has_pixel r i (start + k)) valid)
      (λ k i below left. same i (start + k) left (omega arith) (omega arith)) (y - start)
      (omega arith) in
      let both :
      zero_outside a.valid (sum_on a start above) x y ≡ zero_outside b.valid (sum_to b) x y =
      rw last at value in
      ap (λ b. if b then sum_on a start above x y else pos 0)
      (sym (ap (λ r. has_pixel r x y) valid ∙ is))
      ∙ both
      ∙ ap (λ t. if t then sum_to b x y else pos 0) is
    where
      base : (n : ℕ)
          → (n ≡ 0 → above x ≡ 0)
          → (1 ≤ n → above x ≡ unsigned_abs (zero_outside b.valid (sum_to b) x (n - 1)))
          → above x ≡ unsigned_abs (value_above b x n)
      base zero none some = none refl
      base (suc n) none some =
          let back : suc n - 1 ≡ n = omega arith in
          some (omega arith) ∙ ap (λ m. unsigned_abs (zero_outside b.valid (sum_to b) x m)) back

-- ---- bands

-- bands at different heights
band_moved : (width start line count : ℕ) (f g : ℕ → ℕ → ℤ)
    → ((x k : ℕ) → x < width → k < count → f x (start + k) ≡ g x (line + k))
    → band width start count f ≡ band width line count g
band_moved width start line zero f g same = refl
band_moved width start line (suc k) f g same =
    let next : suc k ≡ k + 1 = omega arith in
    let before = band_moved width start line k f g (λ x j a b. same x j a (omega arith)) in
    let row =
    run-same (λ x. f x (start + k)) (λ x. g x (line + k)) 0 width
    (λ x a b. same x k (omega arith) (omega arith)) in
    cc (next, before, row, band-more width start k f, band-more width line k g)

-- a value of a band
pub band_get : (width start count x k : ℕ) (f : ℕ → ℕ → ℤ)
    → x < width
    → k < count
    → get_or (band width start count f) (k * width + x) (pos 0) ≡ f x (start + k)
band_get width start count x k f across below =
    ap (λ l. get_or l (k * width + x) (pos 0))
    (band_moved width start 0 count f (λ x k. f x (start + k))
    (λ x k a b. let e : 0 + k ≡ k = omega arith in ap (λ n. f x (start + n)) (sym e)))
    ∙ get_or-table width count x k (λ x k. f x (start + k)) across below

-- the sums of the row above row `line`
above_value : (whole : ImageValue) (line : ℕ) (above : Option (List ℕ)) (x : ℕ)
    → x < whole.width
    → IsRowAbove whole line above
    → row_sums above x ≡ unsigned_abs (value_above whole x line)
above_value whole line None x below is = ap (λ n. unsigned_abs (value_above whole x n)) (sym is)
above_value whole zero (Some row) x below is = absurd (omega (arith, is.0))
above_value whole (suc line) (Some row) x below is =
    let f = zero_outside whole.valid (sum_to whole) in
    let back : suc line - 1 ≡ line = omega arith in
    let here : 0 + x ≡ x = omega arith in
    ap unsigned_abs
    (sym (get_or-map pos row x 0)
    ∙ ap (λ l. get_or l x (pos 0)) is.1
    ∙ get_or-run (λ k. f k (suc line - 1)) 0 whole.width x (pos 0) below
    ∙ ap (λ k. f k (suc line - 1)) here
    ∙ ap (f x) back)

-- a band that continues from the row above it is one of the integral image
pub band_scans : (image whole : ImageValue) (rows : Band) (line : ℕ) (above : Option (List ℕ))
    → AreRowsOf image rows whole line
    → IsRowAbove whole line above
    → band image.width rows.start rows.count
    (zero_outside image.valid (sum_on image rows.start (row_sums above)))
    ≡ band image.width line rows.count (zero_outside whole.valid (sum_to whole))
band_scans image whole rows line above are is_above =
    band_moved image.width rows.start line rows.count
    (zero_outside image.valid (sum_on image rows.start (row_sums above)))
    (zero_outside whole.valid (sum_to whole)) (λ x k across below.
    let wide : x < whole.width = omega (arith, (are.each k below).width) in
    sums_same image whole rows.start line x rows.count (row_sums above)
    (above_value whole line above x wide is_above)
    (λ j i inside. (are.each j inside).valid i)
    (λ j i inside left. (are.each j inside).samples i (omega arith)) k below)

-- these sums are samples
pub scan_sample : (image : ImageValue) (start : ℕ) (above : ℕ → ℕ) (x y : ℕ)
    → IsSample U32 (sum_on image start above x y)
scan_sample image start above x y =
    let sum =
    (if nat_le image.valid.y0 start then above x else 0) + sum_between image start (x + 1)
    (y + 1) in
    let below : sum % 4294967296 < 4294967296 = omega arith in
    record { at_least = omega (arith, ints); at_most = omega (arith, ints) }
