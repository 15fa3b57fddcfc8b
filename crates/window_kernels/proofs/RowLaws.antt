-- Rows that are loaded.
use Rattle.std.proofs.Common.{◌≡◌, ℕ, ℤ, pos, zero, suc, zero-add, ◌+◌, ◌*◌, ◌<◌, ◌≤◌, ◌+ℤ◌, ◌-ℤ◌, List, length, map, take, ap, sym, subst, arith, w32, to_z, of_z, unsigned_abs, map-id}
use Rattle.window_kernels.proofs.Common.{Border, Each1, ImageValue, IsNear, U8, ints, put_mid, run, run_shifted, sample_or_border, take-put_mid}
use Rattle.vx_base.specs.Image.{IsImage}
use Rattle.vx_base.specs.Node.{IsBorder}
use Rattle.vx_base.proofs.WindowLaws.{look_sample}
use Rattle.lane_rows.proofs.BitLaws.{Each1-append}

-- windows read bytes from a U8 image
pub looks_up_to : (image : ImageValue) (border : Border) (radius : ℕ) (y : ℤ) (x n : ℕ)
    → IsImage image
    → image.format ≡ U8
    → image.valid.x0 < image.valid.x1
    → image.valid.y0 < image.valid.y1
    → IsBorder border
    → Each1 (IsNear 255) (run x n (λ c. sample_or_border image border (pos c -ℤ pos radius) y))
looks_up_to image border radius y x zero is format columns rows constant = tt
looks_up_to image border radius y x (suc n) is format columns rows constant =
    let seen = look_sample image border (pos x -ℤ pos radius) y is format columns rows constant in (
      omega (arith, ints, seen.at_least, seen.at_most),
      looks_up_to image border radius y (x + 1) n is format columns rows constant,
    )

-- one more part of them, from item `at` on
pub part_fits : (P : ℤ → Type 0) (out ws : List ℤ) (at k end : ℕ)
    → at ≤ length out
    → end ≡ at + length ws
    → Each1 P (take at out)
    → Each1 P ws
    → Each1 P (take end (put_mid at k out ws))
part_fits P out ws at k end room more before fits =
    subst (Each1 P) (sym (take-put_mid at k out ws end more room))
    (Each1-append P (take at out) ws before fits)

-- one more row of them
pub row_fits_too : (P : ℤ → Type 0) (out row : List ℤ) (line l first step k : ℕ)
    → Each1 P (take (l * line) out)
    → first * step ≡ l * line
    → length row ≡ line
    → l * line ≤ length out
    → Each1 P row
    → Each1 P (take ((l + 1) * line) (put_mid (first * step) k out row))
row_fits_too P out row line l first step k before at long room fits =
    part_fits P out row (first * step) k ((l + 1) * line) (omega (arith, at))
    (omega (arith, at, long)) (subst (λ (n : ℕ). Each1 P (take n out)) (sym at) before) fits

-- the number of a row, as it is computed in bits
small : (z : ℤ) → unsigned_abs z ≤ 100000 → to_z w32 (of_z w32 z) ≡ z
small z near = omega (arith, ints)

pub row_in_bits : (y h l : ℕ) (a b d : ℤ)
    → a ≡ pos y
    → b ≡ pos h
    → d ≡ pos l
    → y < 65536
    → h < 256
    → l < 256
    → to_z w32
    (of_z w32
    (to_z w32 (of_z w32 (to_z w32 (of_z w32 a) +ℤ to_z w32 (of_z w32 b))) -ℤ to_z w32 (of_z w32 d)))
    ≡ pos y +ℤ pos h -ℤ pos l
row_in_bits y h l a b d first second third low half row =
    let s = small (pos y +ℤ pos h) (omega (arith, ints)) in
    rw (
      first,
      second,
      third,
      small (pos y) (omega (arith, ints)),
      small (pos h) (omega (arith, ints)),
      small (pos l) (omega (arith, ints)),
      s,
    )
    (small (pos y +ℤ pos h -ℤ pos l) (omega (arith, ints)))

-- what windows read in a row of the image, as a row of the loaded samples
pub line_seen : (f : ℤ → ℤ → ℤ) (row : List ℤ) (x n line r y h l : ℕ) (at : ℤ)
    → row ≡ run x n (λ c. f (pos c -ℤ pos r) at)
    → n ≡ line
    → at ≡ pos y +ℤ pos h -ℤ pos l
    → map (λ z. z) row ≡ run 0 line (λ c. f (pos (x + c) -ℤ pos r) (pos y +ℤ pos h -ℤ pos l))
line_seen f row x n line r y h l at are long is =
    rw (map-id row, are, is, long)
    (run_shifted (λ c. f (pos c -ℤ pos r) (pos y +ℤ pos h -ℤ pos l))
    (λ c. f (pos (x + c) -ℤ pos r) (pos y +ℤ pos h -ℤ pos l)) x 0 line
    (λ k b. ap (λ c. f (pos (x + c) -ℤ pos r) (pos y +ℤ pos h -ℤ pos l)) (sym (zero-add k))))
