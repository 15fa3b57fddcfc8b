-- Rows of images over slices.
use Rattle.std.proofs.Common.{◌≡◌, ℕ, ℤ, pos, ◌+◌, ◌-◌, ◌<◌, ◌≤◌, List, ◌++◌, length, map, replicate, take, drop, ap, ◌∙◌, sym, refl, arith, take-take}
use Rattle.image_core.proofs.Common.{Rectangle, map-append, part_of_row, run, zero_outside}
use Rattle.vx_base.proofs.TableLaws.{row_across}

-- n samples of a row, from column x on
pub part_of : {A : Type 0} (of : A → ℤ) (row : List A) (g : ℕ → ℤ) (w start x n : ℕ)
    → start ≡ x
    → x + n ≤ w
    → length row ≡ w
    → map of row ≡ run 0 w g
    → map of (take n (take (length row - start) (drop start row))) ≡ run x n g
part_of of row g w start x n at room long same =
    ap (map of) (take-take n (length row - start) (drop start row) (omega arith))
    ∙ ap (λ k. map of (take k (drop start row))) (let e : n ≡ start + n - start = omega arith in e)
    ∙ part_of_row of row g w start n (start + n) (omega arith) refl same
    ∙ ap (λ s. run s n g) at

-- a row that crosses an area: zeros, the samples of the area's columns, zeros
pub row_in_three :
    {T : Type 0} (value : T → ℤ) (r : Rectangle) (f : ℕ → ℕ → ℤ) (n y a s b c : ℕ) (v w : ℤ)
    (front inside back : List T)
    → v ≡ pos 0
    → w ≡ pos 0
    → a ≡ r.x0
    → s ≡ r.x0
    → b ≡ r.x1 - r.x0
    → c ≡ n - r.x1
    → map value front ≡ replicate a v
    → map value inside ≡ run s b (λ x. f x y)
    → map value back ≡ replicate c w
    → r.x0 ≤ r.x1
    → r.x1 ≤ n
    → r.y0 ≤ y
    → y < r.y1
    → map value (front ++ (inside ++ back)) ≡ run 0 n (λ x. zero_outside r f x y)
row_in_three value r f n y a s b c v w front inside back none nothing first from second third
    left middle right ordered room above below =
    rw (
      map-append value front (inside ++ back),
      map-append value inside back,
      left,
      middle,
      right,
      first,
      from,
      second,
      third,
      none,
      nothing,
    )
    (sym (row_across r f n r.x0 r.x1 y refl refl ordered room above below))
