-- Rows that are updated in place.
use Rattle.std.proofs.Common.{◌≡◌, ℕ, ℤ, ◌+◌, ◌-◌, ◌*◌, ◌<◌, ◌≤◌, List, length, map, take, drop, refl, arith, drop-drop}
use Rattle.std.proofs.lemmas.Slice.{drop-put_mid}
use Rattle.image_core.proofs.Common.{length_part, put_mid, row_fits, row_part, run, sample_from}

-- a row's part of samples that stayed from this row on
pub part_kept :
    {T : Type 0} (value : T → ℤ) (samples out : List T) (width start count k first step : ℕ)
    → length samples ≡ count * width
    → length out ≡ count * width
    → k < count
    → first ≡ k * width
    → step ≡ width
    → drop (k * width) out ≡ drop (k * width) samples
    → map value (take (first + step - first) (drop first out))
    ≡ run 0 (length (take (first + step - first) (drop first out)))
    (λ x. sample_from width start (map value samples) x (start + k))
part_kept value samples out width start count k first step size also below at is same =
    let row : start + k - start ≡ k = omega arith in
    rw (
      length_part out first step width count k also below at is,
      at,
      same,
      row,
    ) (row_part value samples (k * width) step width count k size below refl is)

-- the rows below one that is written stay
pub next_kept : {T : Type 0} (samples out row : List T) (width height y start step : ℕ)
    → length out ≡ height * width
    → y < height
    → start ≡ y * width
    → step ≡ width
    → length row ≡ width
    → drop (y * width) out ≡ drop (y * width) samples
    → drop ((y + 1) * width) (put_mid start (start + step - start) out row)
    ≡ drop ((y + 1) * width) samples
next_kept samples out row width height y start step size below at is long same =
    let room : y * width + width ≤ height * width = row_fits width height y below in
    let more : (y + 1) * width ≡ y * width + width = grind arith in
    rw (
      drop-put_mid start (start + step - start) out row ((y + 1) * width) (omega arith)
          (omega arith) (omega arith),
      more,
      ← drop-drop width (y * width) out,
      same,
    )
    (drop-drop width (y * width) samples)
