-- The inputs and results of window functions.
use Rattle.std.proofs.Common.{◌≡◌, ℕ, ℤ, pos, negsuc, ◌+◌, ◌-◌, ◌*◌, ◌/◌, ◌<◌, ◌≤◌, ◌+ℤ◌, ◌-ℤ◌, ◌≤ℤ◌, Bool, true, false, ◌&&◌, cond, List, [], ◌∷◌, ◌++◌, length, map, take, set, zero, suc, nat_lt, refl, ap, ◌∙◌, sym, subst, arith, rules, add-zero, Some, unsigned_abs, unwrap_or, int_div, ◌^◌}
use Rattle.vx_base.proofs.Common.{int_div_euclid, Each1, ints, nat_tests, take_more_set, Format, U8, S16, IsSample, Rectangle, has_pixel, empty_rectangle, IsCanonical, IsWithin, ImageValue, IsImage, run, pixel_at, image_from, from_nine}
use Rattle.std.specs.Int.{int_min, int_max}
use Rattle.std.specs.List.{find, fold}
use Rattle.std.proofs.lemmas.List.{map_push}
use Rattle.vx_base.specs.declared.border.Border.{Border}
use Rattle.vx_base.specs.declared.border.Border.TheVariants.{Undefined, Constant, Replicate}
use Rattle.vx_base.specs.Convolution.{ConvolutionValue}
use Rattle.vx_base.specs.Node.{IsBorder}
use Rattle.vx_base.specs.Window.{holds, clamp_coordinate, border_sample, sample_or_border, nine_around, total, dot_product, box_mean, gaussian_weights, gaussian_mean, is_middle, median, least_of, greatest_of, gradient_x, gradient_y, window_valid, matrix_product, convolution_result, from_matrix}
use Rattle.vx_base.proofs.TableLaws.{run-more}
use Rattle.vx_base.proofs.ResultLaws.{zero_sample, clamp_sample}
use Rattle.vx_base.proofs.ImageLaws.{made_image}
use Rattle.vx_base.proofs.RectangleLaws.{bounded_canonical}

-- ---- runs

-- two functions that agree along two runs have the same run
pub run_shifted : (f g : ℕ → ℤ) (x u n : ℕ)
    → ((k : ℕ) → k < n → f (x + k) ≡ g (u + k))
    → run x n f ≡ run u n g
run_shifted f g x u zero same = refl
run_shifted f g x u (suc n) same =
    let first : f x ≡ g u = ap f (sym (add-zero x)) ∙ same 0 (omega arith) ∙ ap g (add-zero u) in
    let others : run (x + 1) n f ≡ run (u + 1) n g =
    run_shifted f g (x + 1) (u + 1) n
    (λ k h. ap f (omega arith) ∙ same (k + 1) (omega arith) ∙ ap g (omega arith)) in
    cc

-- one more item is written
pub item_written : {T : Type 0} (value : T → ℤ) (f : ℕ → ℤ) (x k : ℕ) (out : List T) (z : T)
    → map value (take k out) ≡ run x k f
    → k < length out
    → value z ≡ f (x + k)
    → map value (take (k + 1) (set out k z)) ≡ run x (k + 1) f
item_written value f x k out z before room is =
    ap (map value) (take_more_set out k z room)
    ∙ map_push value (take k out) z
    ∙ ap (λ l. l ++ value z ∷ []) before
    ∙ ap (λ w. run x k f ++ w ∷ []) is
    ∙ sym (run-more f x k)

-- ---- results

-- a window reads U8 samples from a U8 image

within_columns : (r : Rectangle) (x y : ℤ)
    → holds r x y ≡ true
    → (unsigned_abs x < r.x1) × (unsigned_abs y < r.y1)
within_columns r x y h = (grind (arith, ints), grind (arith, ints))

nearest_within : (low high : ℕ) (v : ℤ) → low < high → clamp_coordinate low high v < high
nearest_within low high v h = grind (arith, ints)

at_sample : (image : ImageValue) (x y : ℕ)
    → IsImage image
    → image.format ≡ U8
    → x < image.valid.x1
    → y < image.valid.y1
    → IsSample U8 (pixel_at image x y)
at_sample image x y h is a b =
    subst (λ f. IsSample f (pixel_at image x y)) is
    (h.sampled x y (omega (arith, h.room.columns)) (omega (arith, h.room.rows)))

elsewhere_sample : (image : ImageValue) (border : Border) (x y : ℤ)
    → IsImage image
    → image.format ≡ U8
    → image.valid.x0 < image.valid.x1
    → image.valid.y0 < image.valid.y1
    → IsBorder border
    → IsSample U8 (border_sample image border x y)
elsewhere_sample image Undefined x y h is a b k = zero_sample U8
elsewhere_sample image (Constant value) x y h is a b k = record {
  at_least = omega (arith, ints);
  at_most = omega (arith, ints);
}
elsewhere_sample image Replicate x y h is a b k =
    at_sample image _ _ h is (nearest_within image.valid.x0 image.valid.x1 x a)
    (nearest_within image.valid.y0 image.valid.y1 y b)

pub look_sample : (image : ImageValue) (border : Border) (x y : ℤ)
    → IsImage image
    → image.format ≡ U8
    → image.valid.x0 < image.valid.x1
    → image.valid.y0 < image.valid.y1
    → IsBorder border
    → IsSample U8 (sample_or_border image border x y)
look_sample image border x y h is a b k = cases (holds image.valid x y) refl
  where
    cases : (t : Bool)
        → holds image.valid x y ≡ t
        → IsSample U8
        (cond t (pixel_at image (unsigned_abs x) (unsigned_abs y)) (border_sample image border x y))
    cases true e =
        let p = within_columns image.valid x y e in
        at_sample image (unsigned_abs x) (unsigned_abs y) h is p.0 p.1
    cases false e = elsewhere_sample image border x y h is a b k

-- sums of samples

total_least : (zs : List ℤ) → Each1 (IsSample U8) zs → pos 0 ≤ℤ total zs
total_least [] s = omega (arith, ints)
total_least (z ∷ zs) s = omega (arith, ints, s.0.at_least, total_least zs s.1)

total_most : (zs : List ℤ) → Each1 (IsSample U8) zs → total zs ≤ℤ pos (255 * length zs)
total_most [] s = omega (arith, ints)
total_most (z ∷ zs) s = omega (arith, ints, s.0.at_most, total_most zs s.1)

mean_sample : (v : ℤ) (d : ℕ)
    → 0 < d
    → pos 0 ≤ℤ v
    → v ≤ℤ pos (255 * d)
    → IsSample U8 (int_div_euclid v (pos d))
mean_sample (negsuc n) d some a b = absurd (omega (arith, ints, a))
mean_sample (pos n) d some a b = record { at_least = omega (arith, ints); at_most = at_most }
  where
    below : n / d ≤ 255
    below = grind arith

    at_most : pos (n / d) ≤ℤ pos 255
    at_most = omega (arith, ints, below)

pub box_sample : (zs : List ℤ) → length zs ≡ 9 → Each1 (IsSample U8) zs → IsSample U8 (box_mean zs)
box_sample zs long s =
    mean_sample (total zs) 9 (omega arith) (total_least zs s)
    (omega (arith, ints, total_most zs s, long))

-- sums with weights: those above 0, and those below it

abbrev above_zero : List ℤ → ℕ
above_zero [] = 0
above_zero (pos w ∷ ws) = w + above_zero ws
above_zero (negsuc w ∷ ws) = above_zero ws

abbrev below_zero : List ℤ → ℕ
below_zero [] = 0
below_zero (pos w ∷ ws) = below_zero ws
below_zero (negsuc w ∷ ws) = suc w + below_zero ws

product_most : (w n : ℕ) → n ≤ 255 → w * n ≤ 255 * w
product_most w n h = grind arith

weighted_most : (ws zs : List ℤ)
    → Each1 (IsSample U8) zs
    → dot_product ws zs ≤ℤ pos (255 * above_zero ws)
weighted_most [] zs s = omega (arith, ints)
weighted_most (pos w ∷ ws) [] s = omega (arith, ints)
weighted_most (negsuc w ∷ ws) [] s = omega (arith, ints)
weighted_most (w ∷ ws) (negsuc n ∷ zs) s = absurd (omega (arith, ints, s.0.at_least))
weighted_most (pos w ∷ ws) (pos n ∷ zs) s =
    omega (
      arith,
      ints,
      product_most w n (omega (arith, ints, s.0.at_most)),
      weighted_most ws zs s.1,
    )
weighted_most (negsuc w ∷ ws) (pos n ∷ zs) s = omega (arith, ints, weighted_most ws zs s.1)

weighted_least : (ws zs : List ℤ)
    → Each1 (IsSample U8) zs
    → pos 0 ≤ℤ (dot_product ws zs +ℤ pos (255 * below_zero ws))
weighted_least [] zs s = omega (arith, ints)
weighted_least (pos w ∷ ws) [] s = omega (arith, ints)
weighted_least (negsuc w ∷ ws) [] s = omega (arith, ints)
weighted_least (w ∷ ws) (negsuc n ∷ zs) s = absurd (omega (arith, ints, s.0.at_least))
weighted_least (pos w ∷ ws) (pos n ∷ zs) s = omega (arith, ints, weighted_least ws zs s.1)
weighted_least (negsuc w ∷ ws) (pos n ∷ zs) s =
    omega (
      arith,
      ints,
      product_most (suc w) n (omega (arith, ints, s.0.at_most)),
      weighted_least ws zs s.1,
    )

pub gaussian_sample : (zs : List ℤ) → Each1 (IsSample U8) zs → IsSample U8 (gaussian_mean zs)
gaussian_sample zs s =
    mean_sample (dot_product gaussian_weights zs) 16 (omega arith)
    (omega (arith, ints, weighted_least gaussian_weights zs s))
    (weighted_most gaussian_weights zs s)

pub gradient_x_sample : (zs : List ℤ) → Each1 (IsSample U8) zs → IsSample S16 (gradient_x zs)
gradient_x_sample zs s = record {
  at_least =
      omega (
        arith,
        ints,
        weighted_least
            (negsuc 0 ∷ pos 0 ∷ pos 1 ∷ negsuc 1 ∷ pos 0 ∷ pos 2 ∷ negsuc 0 ∷ pos 0 ∷ pos 1 ∷ []) zs
            s,
      );
  at_most =
      omega (
        arith,
        ints,
        weighted_most
            (negsuc 0 ∷ pos 0 ∷ pos 1 ∷ negsuc 1 ∷ pos 0 ∷ pos 2 ∷ negsuc 0 ∷ pos 0 ∷ pos 1 ∷ []) zs
            s,
      );
}

pub gradient_y_sample : (zs : List ℤ) → Each1 (IsSample U8) zs → IsSample S16 (gradient_y zs)
gradient_y_sample zs s = record {
  at_least =
      omega (
        arith,
        ints,
        weighted_least
            (negsuc 0 ∷ negsuc 1 ∷ negsuc 0 ∷ pos 0 ∷ pos 0 ∷ pos 0 ∷ pos 1 ∷ pos 2 ∷ pos 1 ∷ []) zs
            s,
      );
  at_most =
      omega (
        arith,
        ints,
        weighted_most
            (negsuc 0 ∷ negsuc 1 ∷ negsuc 0 ∷ pos 0 ∷ pos 0 ∷ pos 0 ∷ pos 1 ∷ pos 2 ∷ pos 1 ∷ []) zs
            s,
      );
}

-- one of the samples

found_sample : (p : ℤ → Bool) (zs : List ℤ)
    → Each1 (IsSample U8) zs
    → IsSample U8 (unwrap_or (find p zs) (pos 0))
found_sample p [] s = zero_sample U8
found_sample p (z ∷ zs) s = cases (p z) (found_sample p zs s.1)
  where
    cases : (t : Bool)
        → IsSample U8 (unwrap_or (find p zs) (pos 0))
        → IsSample U8 (unwrap_or (cond t (Some z) (find p zs)) (pos 0))
    cases true later = s.0
    cases false later = later

pub median_sample : (zs : List ℤ) → Each1 (IsSample U8) zs → IsSample U8 (median zs)
median_sample zs s = found_sample (is_middle zs) zs s

lesser_sample : (a b : ℤ) → IsSample U8 a → IsSample U8 b → IsSample U8 (int_min a b)
lesser_sample a b p q = search rules

greater_sample : (a b : ℤ) → IsSample U8 a → IsSample U8 b → IsSample U8 (int_max a b)
greater_sample a b p q = search rules

folded : (f : ℤ → ℤ → ℤ)
    → ((a b : ℤ) → IsSample U8 a → IsSample U8 b → IsSample U8 (f a b))
    → (z : ℤ) (zs : List ℤ)
    → IsSample U8 z
    → Each1 (IsSample U8) zs
    → IsSample U8 (fold f z zs)
folded f keeps z [] p s = p
folded f keeps z (a ∷ zs) p s = folded f keeps (f z a) zs (keeps z a p s.0) s.1

pub least_sample : (zs : List ℤ) → Each1 (IsSample U8) zs → IsSample U8 (least_of zs)
least_sample [] s = zero_sample U8
least_sample (z ∷ zs) s = folded int_min lesser_sample z zs s.0 s.1

pub greatest_sample : (zs : List ℤ) → Each1 (IsSample U8) zs → IsSample U8 (greatest_of zs)
greatest_sample [] s = zero_sample U8
greatest_sample (z ∷ zs) s = folded int_max greater_sample z zs s.0 s.1

-- images

shrunk_some : (r : Rectangle) (rx ry x y : ℕ) (t : Bool)
    → t ≡ (nat_lt (r.x0 + rx) (r.x1 - rx) && nat_lt (r.y0 + ry) (r.y1 - ry))
    → has_pixel
    (cond t (record { x0 = r.x0 + rx; y0 = r.y0 + ry; x1 = r.x1 - rx; y1 = r.y1 - ry })
    empty_rectangle)
    x y
    ≡ true
    → (r.x0 < r.x1) × (r.y0 < r.y1)
shrunk_some r rx ry x y true e h = (grind (arith, nat_tests), grind (arith, nat_tests))
shrunk_some r rx ry x y false e h = absurd (grind (arith, nat_tests))

area_some : (border : Border) (rx ry : ℕ) (valid : Rectangle) (x y : ℕ)
    → has_pixel (window_valid border rx ry valid) x y ≡ true
    → (valid.x0 < valid.x1) × (valid.y0 < valid.y1)
area_some Undefined rx ry valid x y h =
    shrunk_some valid rx ry x y
    (nat_lt (valid.x0 + rx) (valid.x1 - rx) && nat_lt (valid.y0 + ry) (valid.y1 - ry)) refl h
area_some (Constant value) rx ry valid x y h = (grind (arith, nat_tests), grind (arith, nat_tests))
area_some Replicate rx ry valid x y h = (grind (arith, nat_tests), grind (arith, nat_tests))

area_canonical : (border : Border) (rx ry : ℕ) (valid : Rectangle)
    → IsCanonical valid
    → IsCanonical (window_valid border rx ry valid)
area_canonical Undefined rx ry valid h =
    bounded_canonical (valid.x0 + rx) (valid.y0 + ry) (valid.x1 - rx) (valid.y1 - ry)
area_canonical (Constant value) rx ry valid h = h
area_canonical Replicate rx ry valid h = h

area_within : (border : Border) (rx ry : ℕ) (valid : Rectangle) (w l : ℕ)
    → IsWithin valid w l
    → IsWithin (window_valid border rx ry valid) w l
area_within Undefined rx ry valid w l h = record {
  columns = grind (arith, nat_tests, h.columns);
  rows = grind (arith, nat_tests, h.rows);
}
area_within (Constant value) rx ry valid w l h = h
area_within Replicate rx ry valid w l h = h

-- the result of a window function is a well-formed image if each of its values is a sample
windows_image : (format : Format) (border : Border) (rx ry : ℕ) (f : ℕ → ℕ → ℤ) (a : ImageValue)
    → IsImage a
    → ((x y : ℕ) → a.valid.x0 < a.valid.x1 → a.valid.y0 < a.valid.y1 → IsSample format (f x y))
    → IsImage (image_from a.width a.height format (window_valid border rx ry a.valid) f)
windows_image format border rx ry f a h gives =
    made_image a.width a.height format (window_valid border rx ry a.valid) f h.sides.width
    h.sides.height
    (area_canonical border rx ry a.valid h.canonical)
    (area_within border rx ry a.valid a.width a.height h.room)
    (λ x y e. let some = area_some border rx ry a.valid x y e in gives x y some.0 some.1)

-- for a formula that maps nine U8 samples to a sample
pub nine_image : (format : Format) (f : List ℤ → ℤ) (border : Border) (a : ImageValue)
    → ((zs : List ℤ) → length zs ≡ 9 → Each1 (IsSample U8) zs → IsSample format (f zs))
    → IsImage a
    → a.format ≡ U8
    → IsBorder border
    → IsImage (from_nine format f border a)
nine_image format f border a gives h is k =
    windows_image format border 1 1
    (λ x y. f (nine_around (sample_or_border a border) (pos x) (pos y))) a h
    (λ x y columns rows. gives (nine_around (sample_or_border a border) (pos x) (pos y)) refl
    (nine columns rows (pos x) (pos y)))
  where
    nine : a.valid.x0 < a.valid.x1
        → a.valid.y0 < a.valid.y1
        → (x y : ℤ)
        → Each1 (IsSample U8) (nine_around (sample_or_border a border) x y)
    nine columns rows x y =
        let s : (u v : ℤ) → IsSample U8 (sample_or_border a border u v) =
        λ u v. look_sample a border u v h is columns rows k in (
          s (x -ℤ pos 1) (y -ℤ pos 1),
          (
            s x (y -ℤ pos 1),
            (
              s (x +ℤ pos 1) (y -ℤ pos 1),
              (
                s (x -ℤ pos 1) y,
                (
                  s x y,
                  (
                    s (x +ℤ pos 1) y,
                    (
                      s (x -ℤ pos 1) (y +ℤ pos 1),
                      (s x (y +ℤ pos 1), (s (x +ℤ pos 1) (y +ℤ pos 1), tt)),
                    ),
                  ),
                ),
              ),
            ),
          ),
        )

-- whatever the matrix
pub matrix_image : (format : Format) (c : ConvolutionValue) (border : Border) (a : ImageValue)
    → IsImage a
    → IsImage (from_matrix format c border a)
matrix_image format c border a h =
    windows_image format border (c.columns / 2) (c.rows / 2)
    (λ x y. convolution_result c format (sample_or_border a border) (pos x) (pos y)) a h
    (λ x y columns rows. clamp_sample format
    (int_div (matrix_product c (sample_or_border a border) (pos x) (pos y)) (pos (2 ^ c.exponent))))
