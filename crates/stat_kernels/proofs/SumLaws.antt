-- Rows of an integral image in memory.
use Rattle.std.proofs.Common.{true, false, ◌%◌, ◌≡◌, ℕ, ℤ, pos, zero, suc, ◌+◌, ◌-◌, ◌*◌, ◌<◌, ◌≤◌, List, ◌++◌, length, map, take, drop, get_or, replicate, Option, Some, None, ap, ◌∙◌, sym, refl, arith, Bool, if◌then◌else◌, ◌==◌, Bor, option_copied, unsigned_abs, ext_get_or, get_or-drop, get_or-take}
use Rattle.std.proofs.lemmas.List.Folds.{fold-map}
use Rattle.std.proofs.Math.ListN.{get_or-map}
use Rattle.std.proofs.Math.Seq.{take-append_seam, take-append-add}
use Rattle.std.specs.Option.{option_or}
use Rattle.stat_kernels.proofs.Common.{Band, cases_Bool, sum, sum_by, nat_tests, get_or-map-range_with_len, length-map, map-append, map-replicate, take-map, take-map-range_with_len, Rectangle, ImageValue, IsImage, pixel_at, band, run, zero_outside, band-more, get_or-run, run-same, columns_in, valid_run, sum_below, sums_below, last_row, AreRowsOf, has_pixel, length-run, row_sums, row_total, sum_on}
use Rattle.vx_base.proofs.TableLaws.{row_in_parts}
use Rattle.stat_kernels.specs.Sums.{next_sum}
use Rattle.stat_kernels.proofs.ScanLaws.{above_at, band_get, sum_on_scan}

-- ---- one row

-- the sum of a row's samples up to column x + k
row_sum : (row : List ℕ) (x n k : ℕ) (g : ℕ → ℤ)
    → map pos row ≡ run x n g
    → k ≤ n
    → sum (take k row) ≡ sum_by unsigned_abs (run x k g)
row_sum row x n k g is within =
    sym (fold-map (λ a z. a + unsigned_abs z) pos 0 (take k row))
    ∙ ap (sum_by unsigned_abs)
    (sym (take-map pos k row) ∙ ap (take k) is ∙ take-map-range_with_len g x n k within)

-- row y of an image: the sums of the valid pixels, between zeros
module _ (image : ImageValue) (y : ℕ) (above row left sums right : List ℕ) where
  abbrev r : Rectangle
  r = image.valid

  abbrev n : ℕ
  n = columns_in image.valid y

  abbrev g : ℕ → ℤ
  g x = zero_outside image.valid (next_sum image (λ x. get_or above x 0)) x y

  sum_at : map pos row ≡ valid_run image y
      → length row ≡ n
      → sums ≡ sums_below (take n (drop r.x0 above)) row
      → (k : ℕ)
      → k < n
      → pos (get_or sums k 0) ≡ g (r.x0 + k)
  sum_at same wide is_below k below =
      let x = r.x0 + k in
      let pixel : has_pixel r x y ≡ true = grind (arith, nat_tests) in
      let width : k + 1 ≡ x + 1 - r.x0 = omega arith in
      let total : sum (take (k + 1) row) ≡ row_total image x y =
      row_sum row r.x0 n (k + 1) (λ x. pixel_at image x y) same (omega arith)
      ∙ ap (λ m. sum_by unsigned_abs (run r.x0 m (λ x. pixel_at image x y))) width in
      let old : get_or (take n (drop r.x0 above)) k 0 ≡ get_or above x 0 =
      get_or-take n (drop r.x0 above) k 0 below ∙ get_or-drop r.x0 above k 0 in
      ap (λ l. pos (get_or l k 0)) is_below
      ∙ ap pos
      (get_or-map-range_with_len (sum_below (take n (drop r.x0 above)) row) 0 (length row) k k 0
      (omega arith) (omega arith))
      ∙ ap (λ m. pos (m % 4294967296)) (omega (arith, total, old))
      ∙ ap (λ b. if b then next_sum image (λ x. get_or above x 0) x y else pos 0) (sym pixel)

  pub row_is : map pos row ≡ valid_run image y
      → length row ≡ n
      → sums ≡ sums_below (take n (drop r.x0 above)) row
      → length sums ≡ n
      → r.x0 + n ≤ image.width
      → left ≡ replicate r.x0 0
      → right ≡ replicate (image.width - (r.x0 + n)) 0
      → map pos (left ++ (sums ++ right)) ≡ run 0 image.width g
  row_is same wide is_below long within at_left at_right =
      let rest = image.width - (r.x0 + n) in
      let all : r.x0 + (n + rest) ≡ image.width = omega arith in
      let before : (k : ℕ) → k < r.x0 → g k ≡ pos 0 =
      λ k from.
      (let outside : has_pixel r k y ≡ false = grind (arith, nat_tests) in rw outside refl) in
      let behind : (k : ℕ) → r.x0 + n ≤ k → g k ≡ pos 0 =
      λ k from.
      (let outside : has_pixel r k y ≡ false = grind (arith, nat_tests) in rw outside refl) in
      let middle : map pos sums ≡ run r.x0 n g =
      ext_get_or (pos 0) (map pos sums) (run r.x0 n g)
      (length-map sums pos ∙ long ∙ sym (length-run g r.x0 n)) (λ k h.
      let below : k < n = omega (arith, length-map sums pos) in
      get_or-map pos sums k 0
      ∙ sum_at same wide is_below k below
      ∙ sym (get_or-run g r.x0 n k (pos 0) below)) in
      cc (
        map-append pos left (sums ++ right),
        map-append pos sums right,
        map-replicate pos r.x0 0,
        map-replicate pos rest 0,
        middle,
      )
      ∙ sym (row_in_parts g r.x0 n rest before behind) ∙ ap (λ m. run 0 m g) all

-- ---- rows one after the other

pub copied_or : (a b : Option (Bor (List ℕ)))
    → option_copied (option_or a b) ≡ option_or (option_copied a) (option_copied b)
copied_or None b = refl
copied_or (Some r) b = refl

-- the next row, from the last of those before, or from the row above all
module _ (image : ImageValue) (start width : ℕ) (before : List ℕ) (above : Option (List ℕ))
    (some : 1 ≤ width) (wide : width ≡ image.width) where
  abbrev f : ℕ → ℕ → ℤ
  f = sum_on image start (row_sums above)

  last_sums : (k x : ℕ)
      → map pos before ≡ band width start k (zero_outside image.valid f)
      → length before ≡ k * width
      → x < width
      → row_sums (option_or (last_row width before) above) x
      ≡ above_at image x start (row_sums above x) f k
  last_sums zero x are long across =
      let none : length before ≡ 0 = omega (arith, long) in
      ap
      (λ m. row_sums (option_or (if m == 0 then None else Some (drop (m - width) before)) above) x)
      none
  last_sums (suc k) x are long across =
      let more : length before ≡ k * width + width = omega (arith, long) in
      let not_none : (length before == 0) ≡ false = grind (arith, nat_tests, more, some) in
      let at_row : length before - width ≡ k * width = omega (arith, more) in
      ap
      (λ (t : Bool). row_sums
      (option_or (if t then None else Some (drop (length before - width) before)) above) x)
      not_none
      ∙ ap (λ n. get_or (drop n before) x 0) at_row ∙ get_or-drop (k * width) before x 0
      ∙ ap unsigned_abs
      (sym (get_or-map pos before (k * width + x) 0)
      ∙ ap (λ l. get_or l (k * width + x) (pos 0)) are
      ∙ band_get width start (suc k) x k (zero_outside image.valid f) across (omega arith))

  -- the sums of the next row, from those above
  pub next_follows : (k : ℕ) (now : ℕ → ℕ)
      → map pos before ≡ band width start k (zero_outside image.valid f)
      → length before ≡ k * width
      → ((x : ℕ) → now x ≡ row_sums (option_or (last_row width before) above) x)
      → run 0 image.width (λ x. zero_outside image.valid (next_sum image now) x (start + k))
      ≡ run 0 image.width (λ x. zero_outside image.valid f x (start + k))
  next_follows k now are long is_above =
      run-same (λ x. zero_outside image.valid (next_sum image now) x (start + k))
      (λ x. zero_outside image.valid f x (start + k)) 0 image.width (λ x a b.
      let sums = is_above x ∙ last_sums k x are long (omega arith) in
      grind (
        arith,
        cases_Bool (has_pixel image.valid x (start + k)),
        sums,
        sum_on_scan image start x
            (row_sums above) k,
      ))

-- an image's rows are its own
pub own_rows : (image : ImageValue)
    → IsImage image
    → (rows : Band)
    → AreRowsOf image rows image rows.start
own_rows image is rows = record {
  is = is;
  each = λ k h. record { width = refl; valid = λ x. refl; samples = λ x below. refl };
}

-- one more row is written
module _ (y width : ℕ) (before row rest : List ℕ) (start : length before ≡ y * width)
    (long : length row ≡ width) where
  pub rows_written : (top : ℕ) (f : ℕ → ℕ → ℤ)
      → map pos before ≡ band width top y f
      → map pos row ≡ run 0 width (λ x. f x (top + y))
      → map pos (take ((y + 1) * width) (before ++ (row ++ rest))) ≡ band width top (y + 1) f
  rows_written top f are is =
      let more : (y + 1) * width ≡ length before + length row = omega arith in
      cc (
        more,
        take-append-add before (row ++ rest) (length row),
        take-append_seam row rest,
        map-append pos before row,
        are,
        is,
        band-more width top y f,
      )
