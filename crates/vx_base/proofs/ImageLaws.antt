-- Images as functions of places.
use Rattle.std.proofs.Common.{◌≡◌, ℕ, ℤ, pos, ◌+◌, ◌*◌, ◌/◌, ◌%◌, ◌<◌, ◌≤◌, ◌⊎◌, inl, inr, List, ◌++◌, length, get_or, ap, ◌∙◌, sym, arith, true, false, Bool, IsTrue, zero, suc, add-one, cond, refl, subst, ext_get_or, div-add-mod'}
use Rattle.vx_base.proofs.Common.{nat_tests, Format, IsSample, Rectangle, has_pixel, whole_rectangle, IsCanonical, IsWithin, ImageValue, IsImage, run, band, table, zero_outside, pixel_at, image_from, new_image}
use Rattle.std.proofs.lemmas.List.{get_or-append_right}
use Rattle.std.proofs.Math.ListN.{get_or-append}
use Rattle.std.proofs.Math.Nat.{div-lt_iff_lt-mul}
use Rattle.vx_base.proofs.ResultLaws.{zero_sample}
use Rattle.vx_base.specs.Description.{is_side}
use Rattle.vx_base.specs.Image.{with_valid}
use Rattle.vx_base.proofs.TableLaws.{table-more, length-table, get_or-run, band-same}

-- a place of a row above the last
pub above : (width height x y : ℕ) → x < width → y < height → y * width + x < height * width
above width height x y a b = grind arith

last_or_not : (y height : ℕ) → y < suc height → (y < height) ⊎ (y ≡ height)
last_or_not y height b = grind arith

-- a row of the table, or the row below it
last_or_before : (width height x y : ℕ) (f : ℕ → ℕ → ℤ)
    → x < width
    → (y < height) ⊎ (y ≡ height)
    → (y < height → get_or (table width height f) (y * width + x) (pos 0) ≡ f x y)
    → get_or (table width height f ++ run 0 width (λ x. f x height)) (y * width + x) (pos 0) ≡ f x y
last_or_before width height x y f a (inl h) before =
    get_or-append (table width height f) (run 0 width (λ x. f x height)) (pos 0) (y * width + x)
    (let n = above width height x y a h in omega (arith, length-table width height f)) ∙ before h
last_or_before width height x y f a (inr e) before =
    ap
    (λ n. get_or (table width height f ++ run 0 width (λ x. f x height)) (n * width + x) (pos 0))
    e
    ∙ get_or-append_right (table width height f) (run 0 width (λ x. f x height))
    (height * width) (height * width + x) (pos 0) (length-table width height f) (omega arith)
    ∙ ap (λ n. get_or (run 0 width (λ x. f x height)) n (pos 0)) (omega arith)
    ∙ get_or-run (λ x. f x height) 0 width x (pos 0) a
    ∙ ap (λ n. f n height) (omega arith)
    ∙ ap (λ n. f x n) (sym e)

-- the sample of a table at a place
pub get_or-table : (width height x y : ℕ) (f : ℕ → ℕ → ℤ)
    → x < width
    → y < height
    → get_or (table width height f) (y * width + x) (pos 0) ≡ f x y
get_or-table width zero x y f a b = absurd (omega arith)
get_or-table width (suc height) x y f a b =
    ap (λ n. get_or (table width n f) (y * width + x) (pos 0)) (sym (add-one height))
    ∙ ap (λ l. get_or l (y * width + x) (pos 0)) (table-more width height f)
    ∙ last_or_before width height x y f a (last_or_not y height b)
    (get_or-table width height x y f a)

-- the bands of a table's samples are those of its function
pub band_of_table : (width height start count : ℕ) (f : ℕ → ℕ → ℤ)
    → start + count ≤ height
    → band width start count (λ x y. get_or (table width height f) (y * width + x) (pos 0))
    ≡ band width start count f
band_of_table width height start count f room =
    band-same width start count (λ x y. get_or (table width height f) (y * width + x) (pos 0)) f
    (λ x y a b c. get_or-table width height x y f a (omega arith))

within_true : (r : Rectangle) (f : ℕ → ℕ → ℤ) (x y : ℕ)
    → has_pixel r x y ≡ true
    → zero_outside r f x y ≡ f x y
within_true r f x y h = ap (λ b. cond b (f x y) (pos 0)) h

within_false : (r : Rectangle) (f : ℕ → ℕ → ℤ) (x y : ℕ)
    → has_pixel r x y ≡ false
    → zero_outside r f x y ≡ pos 0
within_false r f x y h = ap (λ b. cond b (f x y) (pos 0)) h

true_or_false : (b : Bool) → (b ≡ true) ⊎ (b ≡ false)
true_or_false true = inl refl
true_or_false false = inr refl

module _ (width height : ℕ) (format : Format) (valid : Rectangle) (f : ℕ → ℕ → ℤ) where
  pub at-made : (x y : ℕ)
      → x < width
      → y < height
      → has_pixel valid x y ≡ true
      → pixel_at (image_from width height format valid f) x y ≡ f x y
  at-made x y a b h =
      get_or-table width height x y (zero_outside valid f) a b ∙ within_true valid f x y h

  pub at-made_outside : (x y : ℕ)
      → x < width
      → y < height
      → has_pixel valid x y ≡ false
      → pixel_at (image_from width height format valid f) x y ≡ pos 0
  at-made_outside x y a b h =
      get_or-table width height x y (zero_outside valid f) a b ∙ within_false valid f x y h

  -- samples at the valid places, and 0 elsewhere
  made_sampled : ((x y : ℕ) → has_pixel valid x y ≡ true → IsSample format (f x y))
      → (x y : ℕ)
      → x < width
      → y < height
      → IsSample format (pixel_at (image_from width height format valid f) x y)
  made_sampled sampled x y a b = cases (true_or_false (has_pixel valid x y))
    where
      cases : (has_pixel valid x y ≡ true) ⊎ (has_pixel valid x y ≡ false)
          → IsSample format (pixel_at (image_from width height format valid f) x y)
      cases (inl e) =
          let Q : ℤ → Type 0 = λ z. IsSample format z in
          subst Q (sym (at-made x y a b e)) (sampled x y e)
      cases (inr e) =
          let Q : ℤ → Type 0 = λ z. IsSample format z in
          subst Q (sym (at-made_outside x y a b e)) (zero_sample format)

  pub made_image : IsTrue (is_side width)
      → IsTrue (is_side height)
      → IsCanonical valid
      → IsWithin valid width height
      → ((x y : ℕ) → has_pixel valid x y ≡ true → IsSample format (f x y))
      → IsImage (image_from width height format valid f)
  made_image wide high canonical room sampled =
      record {
        sides = record { width = wide; height = high };
        size = length-table width height (zero_outside valid f);
        canonical = canonical;
        room = room;
        sampled = made_sampled sampled;
        outside = at-made_outside;
      }

-- every index is the one of a place
pub index_of_place : (width height k : ℕ)
    → k < height * width
    → (x : ℕ) × (y : ℕ) × (x < width) × (y < height) × (y * width + x ≡ k)
index_of_place width height k h =
    let some : 0 < width = grind arith in
    (k % width, k / width, omega arith, (div-lt_iff_lt-mul some).1 h, div-add-mod' k width)

same_samples : (a b : List ℤ) (width height : ℕ)
    → length a ≡ height * width
    → length b ≡ height * width
    →
    ((x y : ℕ)
    → x < width
    → y < height
    → get_or a (y * width + x) (pos 0) ≡ get_or b (y * width + x) (pos 0))
    → a ≡ b
same_samples a b width height long also same =
    ext_get_or (pos 0) a b (long ∙ sym also)
    (λ k h. let p = index_of_place width height k (omega arith) in
    ap (λ n. get_or a n (pos 0)) (sym p.4)
    ∙ same p.0 p.1 p.2 p.3
    ∙ ap (λ n. get_or b n (pos 0)) p.4)

-- the samples of an image are the band of all its rows
pub samples_are_band : (samples : List ℤ) (width height : ℕ)
    → length samples ≡ height * width
    → band width 0 height (λ x y. get_or samples (y * width + x) (pos 0)) ≡ samples
samples_are_band samples width height size =
    same_samples (table width height f) samples width height (length-table width height f) size
    (λ x y a b. get_or-table width height x y f a b)
  where
    f : ℕ → ℕ → ℤ
    f = λ x y. get_or samples (y * width + x) (pos 0)

pub whole_band : (a : ImageValue) → IsImage a → band a.width 0 a.height (pixel_at a) ≡ a.samples
whole_band a h = samples_are_band a.samples a.width a.height h.size

pub same_parts : (a b : ImageValue)
    → a.width ≡ b.width
    → a.height ≡ b.height
    → a.format ≡ b.format
    → a.valid ≡ b.valid
    → a.samples ≡ b.samples
    → a ≡ b
same_parts a b w h f v s =
    ap
    (λ n. let t : ImageValue = record
    { width = n; height = a.height; format = a.format; valid = a.valid; samples = a.samples } in
    t)
    w
    ∙ ap
    (λ n. let t : ImageValue = record
    { width = b.width; height = n; format = a.format; valid = a.valid; samples = a.samples } in
    t)
    h
    ∙ ap
    (λ n. let t : ImageValue = record
    { width = b.width; height = b.height; format = n; valid = a.valid; samples = a.samples } in
    t)
    f
    ∙ ap
    (λ n. let t : ImageValue = record
    { width = b.width; height = b.height; format = b.format; valid = n; samples = a.samples } in
    t)
    v
    ∙ ap
    (λ n. let t : ImageValue = record
    { width = b.width; height = b.height; format = b.format; valid = b.valid; samples = n } in
    t)
    s

pub places_decide : (a b : ImageValue)
    → IsImage a
    → IsImage b
    → a.width ≡ b.width
    → a.height ≡ b.height
    → a.format ≡ b.format
    → a.valid ≡ b.valid
    → ((x y : ℕ) → x < a.width → y < a.height → pixel_at a x y ≡ pixel_at b x y)
    → a ≡ b
places_decide a b p q w h f v same =
    same_parts a b w h f v
    (same_samples a.samples b.samples a.width a.height p.size
    (q.size ∙ ap (λ n. n * b.width) (sym h) ∙ ap (λ n. a.height * n) (sym w))
    (λ x y i j. same x y i j ∙ ap (λ n. get_or b.samples (y * n + x) (pos 0)) (sym w)))

-- a valid place is a place
pub column_inside : (r : Rectangle) (width height x y : ℕ)
    → IsWithin r width height
    → has_pixel r x y ≡ true
    → x < width
column_inside r width height x y room h = let a : x < r.x1 = grind (arith, nat_tests) in omega arith

pub row_inside : (r : Rectangle) (width height x y : ℕ)
    → IsWithin r width height
    → has_pixel r x y ≡ true
    → y < height
row_inside r width height x y room h = let a : y < r.y1 = grind (arith, nat_tests) in omega arith

-- at a valid place there is a sample
pub valid_sampled : (a : ImageValue) (x y : ℕ)
    → IsImage a
    → has_pixel a.valid x y ≡ true
    → IsSample a.format (pixel_at a x y)
valid_sampled a x y h e =
    h.sampled x y (column_inside a.valid a.width a.height x y h.room e)
    (row_inside a.valid a.width a.height x y h.room e)

pub made_of_itself : (a : ImageValue)
    → IsImage a
    → image_from a.width a.height a.format a.valid (pixel_at a) ≡ a
made_of_itself a h =
    places_decide (image_from a.width a.height a.format a.valid (pixel_at a)) a
    (made_image a.width a.height a.format a.valid (pixel_at a) h.sides.width h.sides.height
    h.canonical h.room (λ x y e. valid_sampled a x y h e))
    h refl refl refl refl
    (λ x y i j. cases x y i j (true_or_false (has_pixel a.valid x y)))
  where
    cases : (x y : ℕ)
        → x < a.width
        → y < a.height
        → (has_pixel a.valid x y ≡ true) ⊎ (has_pixel a.valid x y ≡ false)
        → pixel_at (image_from a.width a.height a.format a.valid (pixel_at a)) x y ≡ pixel_at a x y
    cases x y i j (inl e) = at-made a.width a.height a.format a.valid (pixel_at a) x y i j e
    cases x y i j (inr e) =
        at-made_outside a.width a.height a.format a.valid (pixel_at a) x y i j e
        ∙ sym (h.outside x y i j e)

-- an image with another valid rectangle is one
pub with_valid_is : (a : ImageValue) (valid : Rectangle)
    → IsImage a
    → IsCanonical valid
    → IsWithin valid a.width a.height
    → IsImage (with_valid valid a)
with_valid_is a valid h canonical room =
    made_image a.width a.height a.format valid (pixel_at a) h.sides.width h.sides.height
    canonical room
    (λ x y e. h.sampled x y (column_inside valid a.width a.height x y room e)
    (row_inside valid a.width a.height x y room e))

pub inside_whole : (width height x y : ℕ)
    → x < width
    → y < height
    → has_pixel (whole_rectangle width height) x y ≡ true
inside_whole width height x y a b = grind (arith, nat_tests)

-- all places of an image are a rectangle in canonical form
pub whole_canonical : (width height : ℕ)
    → IsTrue (is_side width)
    → IsTrue (is_side height)
    → IsCanonical (whole_rectangle width height)
whole_canonical width height wide high = grind (arith, nat_tests)

pub new_image_is : (width height : ℕ) (format : Format)
    → IsTrue (is_side width)
    → IsTrue (is_side height)
    → IsImage (new_image width height format)
new_image_is width height format wide high =
    made_image width height format (whole_rectangle width height) (λ _ _. pos 0) wide high
    (whole_canonical width height wide high) (record { columns = omega arith; rows = omega arith })
    (λ x y e. zero_sample format)

pub at-new_image : (width height : ℕ) (format : Format) (x y : ℕ)
    → x < width
    → y < height
    → pixel_at (new_image width height format) x y ≡ pos 0
at-new_image width height format x y a b =
    at-made width height format (whole_rectangle width height) (λ _ _. pos 0) x y a b
    (inside_whole width height x y a b)
