-- Statistics of an image's valid samples. OpenVX 1.3, "Histogram", "Integral Image" and "Min, Max
-- Location".
use Rattle.std.specs.Prelude.{ℕ, ℤ, pos, ◌+◌, ◌-◌, ◌*◌, ◌/◌, ◌%◌, ◌^◌, ◌==◌, nat_le, nat_lt, Bool, false, ◌&&◌, unsigned_abs, if◌then◌else◌, List, [], ◌∷◌, map, Option, Some, None}
use Rattle.std.specs.List.{range_with_len, flat_map, fold, sum_by, count_by, find}
use Rattle.std.specs.Option.{unwrap_or}
use Rattle.std.specs.Ordering.{int_eq}
use Rattle.std.specs.Int.{int_min, int_max}
use Rattle.vx_base.specs.declared.format.Format.{Format}
use Rattle.vx_base.specs.declared.format.Format.TheVariants.{U32}
use Rattle.vx_base.specs.declared.extremes.Extremes.{Extremes}
use Rattle.vx_base.specs.Rectangle.{Rectangle, whole_rectangle, meet_of}
use Rattle.vx_base.specs.Image.{ImageValue, pixel_at, image_from}
use Rattle.vx_base.specs.declared.bins.TheConstants.{GREATEST_BINS}

-- n pixels of row y, from column x on
abbrev pub row_pixels : ℕ → ℕ → ℕ → List (ℕ × ℕ)
row_pixels x n y = map (λ k. (k, y)) (range_with_len x n)

-- the pixels of a rectangle in row-major order
abbrev pub rectangle_pixels : Rectangle → List (ℕ × ℕ)
rectangle_pixels r = flat_map (row_pixels r.x0 (r.x1 - r.x0)) (range_with_len r.y0 (r.y1 - r.y0))

-- the samples of a rectangle in row-major order
abbrev pub samples_in : Rectangle → ImageValue → List ℤ
samples_in r image = map (λ p. pixel_at image p.0 p.1) (rectangle_pixels r)

-- the samples of the valid rectangle in row-major order
abbrev pub valid_samples : ImageValue → List ℤ
valid_samples image = samples_in image.valid image

-- ---- "Histogram"; the bins are as this project defines them

-- the bins of a histogram: their number, the least sample that they count, and the number of values
-- that they cover; some of these values may be above 255
pub record BinsValue : Type 0 where
  pub bins : ℕ
  pub offset : ℕ
  pub range : ℕ

-- whether a histogram may have this number of bins, this offset and this range; the sum of offset
-- and range may exceed 256
abbrev pub are_bins : ℕ → ℕ → ℕ → Bool
are_bins bins offset range =
    ((nat_le 1 bins && nat_le bins GREATEST_BINS) && nat_lt offset 256) &&
    (nat_le 1 range && nat_le range 256)

-- the bins of a histogram, if their number, the offset and the range are permitted
abbrev pub bins_of : ℕ → ℕ → ℕ → Option BinsValue
bins_of bins offset range =
    if are_bins bins offset range then Some
    (record { bins = bins; offset = offset; range = range }) else None

-- the bin that counts a sample, if there is one
abbrev pub bin_of : BinsValue → ℕ → Option ℕ
bin_of b p =
    if nat_le b.offset p && nat_lt p (b.offset + b.range) then Some
    ((p - b.offset) * b.bins / b.range) else None

-- whether there is a bin and it is bin k
abbrev pub is_bin : ℕ → Option ℕ → Bool
is_bin k None = false
is_bin k (Some bin) = bin == k

-- the number of samples in each bin
abbrev pub tallies : BinsValue → List ℤ → List ℕ
tallies b samples =
    map (λ k. count_by (λ z. is_bin k (bin_of b (unsigned_abs z))) samples)
    (range_with_len 0 b.bins)

-- the histogram of a U8 image: the number of its valid samples in each bin
abbrev pub histogram : BinsValue → ImageValue → List ℕ
histogram b image = tallies b (valid_samples image)

-- ---- "Integral Image"

-- the sum of the valid U8 samples in columns 0 to x of rows 0 to y, modulo 2^32
abbrev pub sum_to : ImageValue → ℕ → ℕ → ℤ
sum_to image x y =
    pos
    (sum_by unsigned_abs
    (samples_in (meet_of image.valid (whole_rectangle (x + 1) (y + 1))) image) % 2 ^ 32)

-- the integral image, in this format, of a U8 image. It is valid where the input is; samples
-- outside the input's valid rectangle count as 0. These zeros and the modulus 2^32 are this
-- project's choices; OpenVX doesn't define sums beyond 32 bits.
abbrev pub sums_in : Format → ImageValue → ImageValue
sums_in format image = image_from image.width image.height format image.valid (sum_to image)

-- the integral image of a U8 image, in U32
abbrev pub integral : ImageValue → ImageValue
integral image = sums_in U32 image

-- ---- "Min, Max Location"

-- the samples folded with `choose`, which picks one of two samples; 0 if there are no samples
abbrev pub best_of : (ℤ → ℤ → ℤ) → List ℤ → ℤ
best_of choose [] = pos 0
best_of choose (z ∷ zs) = fold choose z zs

-- the number of these samples that equal z
abbrev pub count_of : ℤ → List ℤ → ℕ
count_of z samples = count_by (λ s. int_eq s z) samples

-- the first of these pixels at which f is z, or (0, 0) if there is none
abbrev pub first_of : (ℕ → ℕ → ℤ) → ℤ → List (ℕ × ℕ) → ℕ × ℕ
first_of f z ps = unwrap_or (find (λ p. int_eq (f p.0 p.1) z) ps) (0, 0)

-- the least and the greatest valid sample of a U8 or S16 image. For each of the two: the number of
-- valid pixels that have it, and the first such pixel.
abbrev pub extremes : ImageValue → Extremes
extremes image =
    let least = best_of int_min (valid_samples image) in
    let greatest = best_of int_max (valid_samples image) in
    record {
      min = least;
      max = greatest;
      min_count = count_of least (valid_samples image);
      max_count = count_of greatest (valid_samples image);
      min_at = first_of (pixel_at image) least (rectangle_pixels image.valid);
      max_at = first_of (pixel_at image) greatest (rectangle_pixels image.valid);
    }
