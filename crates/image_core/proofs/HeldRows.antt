-- Images with the samples of one band, 0 elsewhere.
use Rattle.std.proofs.Common.{zero, suc, refl, ◌≡◌, ℕ, ℤ, pos, ◌+◌, ◌-◌, ◌*◌, ◌<◌, ◌≤◌, true, false, List, [], ◌++◌, length, map, replicate, take, drop, get_or, ap, ◌∙◌, sym, subst, arith, append-nil, inl, inr}
use Rattle.std.proofs.lemmas.Bool.{cases_Bool, cases_lt}
use Rattle.image_core.proofs.Common.{Band, Description, ImageValue, IsImage, IsInRows, Rectangle, all_rows, band, has_row, image_over, length-band, length-map, nat_tests, pixel_at, row_fits, row_of, row_part, run, sample_from}
use Rattle.std.proofs.lemmas.List.{take-replicate, length-append, length-replicate, get_or_append_left, get_or-append_right}
use Rattle.std.proofs.lemmas.Nat.{mul-le}
use Rattle.vx_base.proofs.ResultLaws.{zero_sample}
use Rattle.vx_base.proofs.ZeroLaws.{map-replicate}
use Rattle.vx_base.proofs.TableLaws.{run-same, run-constant}
use Rattle.vx_base.proofs.ImageLaws.{above}
use Rattle.vx_base.specs.declared.desc.TheConstants.{GREATEST_SIDE}
use Rattle.vx_base.specs.Sample.{IsSample}
use Rattle.vx_base.specs.Image.{description_of}
use Rattle.image_core.specs.Bands.{zero_rows, image_over_rows, zero_outside_rows}
use Rattle.image_core.proofs.BandLaws.{place_of_band}

-- the first samples of the longest row of zeros
pub zeros_taken : {T : Type 0} (value : T → ℤ) (z : T) (n : ℕ)
    → value z ≡ pos 0
    → n ≤ GREATEST_SIDE
    → map value (take n (replicate GREATEST_SIDE z)) ≡ replicate n (pos 0)
zeros_taken value z n is room =
    ap (map value) (take-replicate n GREATEST_SIDE z room)
    ∙ map-replicate value n z
    ∙ ap (replicate n) is

no_rows : (width : ℕ) → zero_rows width 0 ≡ []
no_rows width = let none : 0 * width ≡ 0 = omega arith in ap (λ n. replicate n (pos 0)) none

-- for the band of all rows
pub all_held : (d : Description) (valid : Rectangle) (rows : Band) (held samples : List ℤ)
    → rows ≡ all_rows d.height
    → held ≡ samples
    → image_over_rows d valid rows held ≡ image_over d valid samples
all_held d valid rows held samples all same =
    let none : d.height - (0 + d.height) ≡ 0 = omega arith in
    rw (all, none, no_rows d.width, append-nil, same) refl

-- a sample of zeros
zero_at : (n i : ℕ) → get_or (replicate n (pos 0)) i (pos 0) ≡ pos 0
zero_at zero i = refl
zero_at (suc n) zero = refl
zero_at (suc n) (suc i) = zero_at n i

module _ (d : Description) (valid : Rectangle) (rows : Band) (samples : List ℤ)
    (room : IsInRows d.height rows) (size : length samples ≡ rows.count * d.width) where
  abbrev width : ℕ
  width = d.width

  abbrev below : List ℤ
  below = zero_rows width (d.height - (rows.start + rows.count))

  -- a place for each sample
  pub held_size : length (image_over_rows d valid rows samples).samples ≡ d.height * width
  held_size =
      let parts : d.height ≡ rows.start + (rows.count + (d.height - (rows.start + rows.count))) =
      omega arith in
      let products :
      d.height * width
      ≡ rows.start * width + (rows.count * width + (d.height - (rows.start + rows.count)) * width) =
      ap (λ n. n * width) parts ∙ grind arith in
      simp (length-append, length-replicate) (omega (arith, size, products))

  -- a sample below the rows above the band
  from_start : (x y : ℕ)
      → rows.start ≤ y
      → pixel_at (image_over_rows d valid rows samples) x y
      ≡ get_or (samples ++ below) ((y - rows.start) * width + x) (pos 0)
  from_start x y from =
      let back : y ≡ rows.start + (y - rows.start) = omega arith in
      let products : y * width ≡ rows.start * width + (y - rows.start) * width =
      ap (λ n. n * width) back ∙ grind arith in
      get_or-append_right (zero_rows width rows.start) (samples ++ below) (rows.start * width)
      (y * width + x) (pos 0) (length-replicate _ _) (omega (arith, products))
      ∙ ap (λ i. get_or (samples ++ below) i (pos 0)) (omega (arith, products))

  -- a sample in a row of the band
  pub at_held : (x y : ℕ)
      → x < width
      → has_row rows y ≡ true
      → pixel_at (image_over_rows d valid rows samples) x y
      ≡ sample_from width rows.start samples x y
  at_held x y across there =
      let from : rows.start ≤ y = grind (arith, nat_tests) in
      let inside : y - rows.start < rows.count = grind (arith, nat_tests) in
      from_start x y from
      ∙ get_or_append_left samples below (pos 0) ((y - rows.start) * width + x)
      (omega (arith, above width rows.count x (y - rows.start) across inside, size))

  -- a sample in any other row
  pub at_other : (x y : ℕ)
      → x < width
      → y < d.height
      → has_row rows y ≡ false
      → pixel_at (image_over_rows d valid rows samples) x y ≡ pos 0
  at_other x y across low absent = elim (cases_lt y rows.start) [
    | inl h ↦
        get_or_append_left (zero_rows width rows.start) (samples ++ below) (pos 0)
        (y * width + x)
        (omega
        (arith, above width rows.start x y across h, length-replicate (rows.start * width) (pos 0)))
        ∙ zero_at (rows.start * width) (y * width + x)
    | inr h ↦
        let past : rows.count ≤ y - rows.start = grind (arith, nat_tests) in
        from_start x y h
        ∙ get_or-append_right samples below (rows.count * width) ((y - rows.start) * width + x)
        (pos 0) size
        (omega (arith, mul-le rows.count width (y - rows.start) width past (omega arith)))
        ∙ zero_at ((d.height - (rows.start + rows.count)) * width)
        ((y - rows.start) * width + x - rows.count * width)
  ]

  -- a row of the band
  pub row_held : {T : Type 0} (value : T → ℤ) (xs : List T) (start step y : ℕ)
      → map value xs ≡ samples
      → start ≡ (y - rows.start) * width
      → step ≡ width
      → has_row rows y ≡ true
      → map value (take (start + step - start) (drop start xs))
      ≡ row_of (image_over_rows d valid rows samples) y
  row_held value xs start step y same begin is there =
      let inside : y - rows.start < rows.count = grind (arith, nat_tests) in
      row_part value xs start step width rows.count (y - rows.start)
      (sym (length-map xs value) ∙ ap length same ∙ size) inside begin is
      ∙ ap (λ zs. run 0 width (λ x. sample_from width rows.start zs x y)) same
      ∙ run-same _ _ 0 width (λ x a b. sym (at_held x y (omega arith) there))

  -- any other row
  pub row_other : (y : ℕ)
      → y < d.height
      → has_row rows y ≡ false
      → replicate width (pos 0) ≡ row_of (image_over_rows d valid rows samples) y
  row_other y low absent =
      sym
      (run-same (λ x. pixel_at (image_over_rows d valid rows samples) x y) (λ _. pos 0) 0 width
      (λ x a b. at_other x y (omega arith) low absent) ∙ run-constant (pos 0) 0 width)

-- the samples of a row of the band are within the band's samples
pub row_in_held : (rows : Band) (width y : ℕ)
    → has_row rows y ≡ true
    → (y - rows.start) * width + width ≤ rows.count * width
row_in_held rows width y there =
    let inside : y - rows.start < rows.count = grind (arith, nat_tests) in
    row_fits width rows.count (y - rows.start) inside

-- a band of an image
module _ (a : ImageValue) (rows : Band) (room : IsInRows a.height rows) where
  size : length (band a.width rows.start rows.count (pixel_at a)) ≡ rows.count * a.width
  size = length-band a.width rows.start rows.count (pixel_at a)

  -- have the image's samples
  pub at_held_in : (x y : ℕ)
      → x < a.width
      → has_row rows y ≡ true
      → pixel_at (zero_outside_rows rows a) x y ≡ pixel_at a x y
  at_held_in x y across there =
      let from : rows.start ≤ y = grind (arith, nat_tests) in
      let to : y < rows.start + rows.count = grind (arith, nat_tests) in
      at_held (description_of a) a.valid rows (band a.width rows.start rows.count (pixel_at a))
      room size x y across there
      ∙ place_of_band a.width rows.start rows.count x y (pixel_at a) across from to

  -- and are an image
  pub held_in_is : IsImage a → IsImage (zero_outside_rows rows a)
  held_in_is is = record {
    sides = is.sides;
    size =
        held_size (description_of a) a.valid rows
        (band a.width rows.start rows.count (pixel_at a)) room size;
    canonical = is.canonical;
    room = is.room;
    sampled = (λ x y across low. elim (cases_Bool (has_row rows y)) [
      | inl e ↦
          subst (IsSample a.format) (sym (at_held_in x y across e)) (is.sampled x y across low)
      | inr e ↦ subst (IsSample a.format) (sym (absent x y across low e)) (zero_sample a.format)
    ]);
    outside = (λ x y across low elsewhere. elim (cases_Bool (has_row rows y)) [
      | inl e ↦ at_held_in x y across e ∙ is.outside x y across low elsewhere
      | inr e ↦ absent x y across low e
    ]);
  }
    where
      absent : (x y : ℕ)
          → x < a.width
          → y < a.height
          → has_row rows y ≡ false
          → pixel_at (zero_outside_rows rows a) x y ≡ pos 0
      absent x y across low e =
          at_other (description_of a) a.valid rows
          (band a.width rows.start rows.count (pixel_at a)) room size x y across low e
