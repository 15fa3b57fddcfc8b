-- Runs and tables: what a function of places gives along a row, and row by row.
use Rattle.std.proofs.Common.{◌≡◌, ℕ, ℤ, pos, ◌+◌, ◌-◌, ◌*◌, ◌<◌, ◌≤◌, List, [], ◌∷◌, ◌++◌, length, map, take, drop, get_or, zero, suc, refl, ap, ◌∙◌, sym, arith, zero-add, add-zero, add-one, inl, inr, ◌⊎◌, replicate, append-nil, append_assoc, length-append, length-take, length-drop, ext_get_or, get_or-take, get_or-drop, drop_at, take_at}
use Rattle.vx_base.proofs.Common.{Rectangle, nat_tests, run, band, table, zero_outside}
use Rattle.std.specs.List.{range_with_len, flat_map}
use Rattle.std.proofs.lemmas.List.{map-append, length-map, take-map, drop-map}
use Rattle.std.proofs.lemmas.Slice.{take-put_mid}
use Rattle.std.proofs.lemmas.Simd.{zip2-map, map-map}
use Rattle.std.specs.Simd.Lanes.{zip2}
use borrow.Rule.Slice.PartMut.{put_mid}

suc-add : (m n : ℕ) → suc m + n ≡ suc (m + n)
suc-add m n = omega arith

-- the places of a run, cut in two
pub range-append : (a m n : ℕ)
    → range_with_len a (m + n) ≡ range_with_len a m ++ range_with_len (a + m) n
range-append a zero n = simp (zero-add, add-zero)
range-append a (suc m) n =
    ap (range_with_len a) (suc-add m n)
    ∙ ap (λ l. a ∷ l)
    (range-append (a + 1) m n
    ∙ ap (λ k. range_with_len (a + 1) m ++ range_with_len k n) (omega arith))

pub run-append : (f : ℕ → ℤ) (x m n : ℕ) → run x (m + n) f ≡ run x m f ++ run (x + m) n f
run-append f x m n = ap (map f) (range-append x m n) ∙ map-append f _ _

pub length-range : (a n : ℕ) → length (range_with_len a n) ≡ n
length-range a zero = refl
length-range a (suc n) = omega (arith, length-range (a + 1) n)

pub length-run : (f : ℕ → ℤ) (x n : ℕ) → length (run x n f) ≡ n
length-run f x n = length-map (range_with_len x n) f ∙ length-range x n

-- two functions that agree on a run's places have the same run
pub run-same : (f g : ℕ → ℤ) (x n : ℕ)
    → ((k : ℕ) → x ≤ k → k < x + n → f k ≡ g k)
    → run x n f ≡ run x n g
run-same f g x zero same = refl
run-same f g x (suc n) same =
    cc (
      same x (omega arith) (omega arith),
      run-same f g (x + 1) n (λ k a b. same k (omega arith) (omega arith)),
    )

pub run-constant : (z : ℤ) (x n : ℕ) → run x n (λ _. z) ≡ replicate n z
run-constant z x zero = refl
run-constant z x (suc n) = ap (λ l. z ∷ l) (run-constant z (x + 1) n)

-- one more row
pub flat_map-append : {X Y : Type 0} (f : X → List Y) (xs ys : List X)
    → flat_map f (xs ++ ys) ≡ flat_map f xs ++ flat_map f ys
flat_map-append f [] ys = refl
flat_map-append f (x ∷ xs) ys =
    ap (λ l. f x ++ l) (flat_map-append f xs ys)
    ∙ sym (append_assoc (f x) (flat_map f xs) (flat_map f ys))

-- two bands, one below the other, are one
pub band-append : (width start m n : ℕ) (f : ℕ → ℕ → ℤ)
    → band width start (m + n) f ≡ band width start m f ++ band width (start + m) n f
band-append width start m n f =
    ap (flat_map (λ y. run 0 width (λ x. f x y))) (range-append start m n)
    ∙ flat_map-append (λ y. run 0 width (λ x. f x y)) (range_with_len start m)
    (range_with_len (start + m) n)

pub band-more : (width start k : ℕ) (f : ℕ → ℕ → ℤ)
    → band width start (k + 1) f ≡ band width start k f ++ run 0 width (λ x. f x (start + k))
band-more width start k f =
    band-append width start k 1 f
    ∙ ap (λ l. band width start k f ++ l) (append-nil (run 0 width (λ x. f x (start + k))))

pub table-more : (width y : ℕ) (f : ℕ → ℕ → ℤ)
    → table width (y + 1) f ≡ table width y f ++ run 0 width (λ x. f x y)
table-more width y f =
    band-more width 0 y f ∙ ap (λ k. table width y f ++ run 0 width (λ x. f x k)) (zero-add y)

pub length-band : (width start count : ℕ) (f : ℕ → ℕ → ℤ)
    → length (band width start count f) ≡ count * width
length-band width start zero f = omega arith
length-band width start (suc count) f =
    ap (λ n. length (band width start n f)) (sym (add-one count))
    ∙ ap length (band-more width start count f)
    ∙ omega (
      arith,
      length-append (band width start count f) (run 0 width (λ x. f x (start + count))),
      length-run (λ x. f x (start + count)) 0 width,
      length-band width start count f,
    )

pub length-table : (width height : ℕ) (f : ℕ → ℕ → ℤ)
    → length (table width height f) ≡ height * width
length-table width height f = length-band width 0 height f

-- two functions that agree at a band's places have the same band
pub band-same : (width start count : ℕ) (f g : ℕ → ℕ → ℤ)
    → ((x y : ℕ) → x < width → start ≤ y → y < start + count → f x y ≡ g x y)
    → band width start count f ≡ band width start count g
band-same width start zero f g same = refl
band-same width start (suc count) f g same =
    cc (
      run-same (λ x. f x start) (λ x. g x start) 0 width
          (λ k a b. same k start (omega arith) (omega arith) (omega arith)),
      band-same width (start + 1) count f g (λ x y a b c. same x y a (omega arith) (omega arith)),
    )

-- a row that is 0 before the rectangle and after it
pub row_in_parts : (g : ℕ → ℤ) (x0 n rest : ℕ)
    → ((k : ℕ) → k < x0 → g k ≡ pos 0)
    → ((k : ℕ) → x0 + n ≤ k → g k ≡ pos 0)
    → run 0 (x0 + (n + rest)) g ≡ replicate x0 (pos 0) ++ (run x0 n g ++ replicate rest (pos 0))
row_in_parts g x0 n rest before after =
    run-append g 0 x0 (n + rest)
    ∙ ap (λ l. l ++ run (0 + x0) (n + rest) g)
    (run-same g (λ _. pos 0) 0 x0 (λ k a b. before k (omega arith)) ∙ run-constant (pos 0) 0 x0)
    ∙ ap (λ k. replicate x0 (pos 0) ++ run k (n + rest) g) (omega arith)
    ∙ ap (λ l. replicate x0 (pos 0) ++ l) (run-append g x0 n rest)
    ∙ ap (λ l. replicate x0 (pos 0) ++ (run x0 n g ++ l))
    (run-same g (λ _. pos 0) (x0 + n) rest (λ k a b. after k (omega arith))
    ∙ run-constant (pos 0) (x0 + n) rest)

-- a pixel outside the rectangle
pub within_elsewhere : (r : Rectangle) (f : ℕ → ℕ → ℤ) (x y : ℕ)
    → (((x < r.x0) ⊎ (r.x1 ≤ x)) ⊎ ((y < r.y0) ⊎ (r.y1 ≤ y)))
    → zero_outside r f x y ≡ pos 0
within_elsewhere r f x y h = grind (arith, nat_tests)

pub within_inside : (r : Rectangle) (f : ℕ → ℕ → ℤ) (x y : ℕ)
    → r.x0 ≤ x
    → x < r.x1
    → r.y0 ≤ y
    → y < r.y1
    → zero_outside r f x y ≡ f x y
within_inside r f x y a b c d = grind (arith, nat_tests)

-- a row above or below the rectangle
pub row_outside : (r : Rectangle) (f : ℕ → ℕ → ℤ) (n y : ℕ)
    → ((y < r.y0) ⊎ (r.y1 ≤ y))
    → run 0 n (λ x. zero_outside r f x y) ≡ replicate n (pos 0)
row_outside r f n y h =
    run-same (λ x. zero_outside r f x y) (λ _. pos 0) 0 n
    (λ k a b. within_elsewhere r f k y (inr h))
    ∙ run-constant (pos 0) 0 n

-- a row through the rectangle
pub row_across : (r : Rectangle) (f : ℕ → ℕ → ℤ) (n x0 x1 y : ℕ)
    → r.x0 ≡ x0
    → r.x1 ≡ x1
    → x0 ≤ x1
    → x1 ≤ n
    → r.y0 ≤ y
    → y < r.y1
    → run 0 n (λ x. zero_outside r f x y)
    ≡ replicate x0 (pos 0) ++ (run x0 (x1 - x0) (λ x. f x y) ++ replicate (n - x1) (pos 0))
row_across r f n x0 x1 y from to ordered room above below =
    let parts : n ≡ x0 + ((x1 - x0) + (n - x1)) = omega arith in
    ap (λ m. run 0 m (λ x. zero_outside r f x y)) parts
    ∙ row_in_parts (λ x. zero_outside r f x y) x0 (x1 - x0) (n - x1)
    (λ k h. within_elsewhere r f k y (inl (inl (omega arith))))
    (λ k h. within_elsewhere r f k y (inl (inr (omega arith))))
    ∙ ap (λ l. replicate x0 (pos 0) ++ (l ++ replicate (n - x1) (pos 0)))
    (run-same (λ x. zero_outside r f x y) (λ x. f x y) x0 (x1 - x0)
    (λ k a b. within_inside r f k y (omega arith) (omega arith) above below))

-- one more row of a band is written, from place `at` on
pub band_written :
    {T : Type 0} (value : T → ℤ) (width start count k at long : ℕ) (f : ℕ → ℕ → ℤ)
    (out row : List T)
    → length out ≡ count * width
    → k < count
    → at ≡ k * width
    → length row ≡ width
    → map value (take at out) ≡ band width start k f
    → map value row ≡ run 0 width (λ x. f x (start + k))
    → map value (take ((k + 1) * width) (put_mid at long out row)) ≡ band width start (k + 1) f
band_written value width start count k at long f out row size below is full before here =
    let next : (k + 1) * width ≤ count * width = grind arith in
    let more : (k + 1) * width ≡ at + width = omega arith in
    ap (map value) (take-put_mid at long out row ((k + 1) * width) (omega arith) (omega arith))
    ∙ map-append value (take at out) row
    ∙ ap (λ l. l ++ map value row) before
    ∙ ap (λ l. band width start k f ++ l) here
    ∙ sym (band-more width start k f)

-- one more row of all is
pub row_written :
    {T : Type 0} (value : T → ℤ) (width height y start k : ℕ) (f : ℕ → ℕ → ℤ) (out row : List T)
    → length out ≡ height * width
    → y < height
    → start ≡ y * width
    → length row ≡ width
    → map value (take start out) ≡ table width y f
    → map value row ≡ run 0 width (λ x. f x y)
    → map value (take ((y + 1) * width) (put_mid start k out row)) ≡ table width (y + 1) f
row_written value width height y start k f out row size below at long before is =
    band_written value width 0 height y start k f out row size below at long before
    (is ∙ ap (λ n. run 0 width (λ x. f x n)) (sym (zero-add y)))

pub row_fits : (width height y : ℕ) → y < height → y * width + width ≤ height * width
row_fits width height y h = grind arith

-- the length of a row's part of the samples
pub length_part : {T : Type 0} (out : List T) (start step width height y : ℕ)
    → length out ≡ height * width
    → y < height
    → start ≡ y * width
    → step ≡ width
    → length (take (start + step - start) (drop start out)) ≡ width
length_part out start step width height y size below at is =
    let room : y * width + width ≤ height * width = row_fits width height y below in
    simp (length-take, length-drop) (omega arith)

-- a place of a run
pub get_or-run : (f : ℕ → ℤ) (x n k : ℕ) (d : ℤ) → k < n → get_or (run x n f) k d ≡ f (x + k)
get_or-run f x zero k d h = absurd (omega arith)
get_or-run f x (suc n) zero d h = ap f (sym (add-zero x))
get_or-run f x (suc n) (suc k) d h = get_or-run f (x + 1) n k d (omega arith) ∙ ap f (omega arith)

-- a part of a list, as a run of its items
pub part_is_run : (zs : List ℤ) (s n : ℕ)
    → s + n ≤ length zs
    → take n (drop s zs) ≡ run 0 n (λ x. get_or zs (s + x) (pos 0))
part_is_run zs s n room =
    let long : length (take n (drop s zs)) ≡ n = simp (length-take, length-drop) (omega arith) in
    ext_get_or (pos 0) (take n (drop s zs)) (run 0 n (λ x. get_or zs (s + x) (pos 0)))
    (long ∙ sym (length-run (λ x. get_or zs (s + x) (pos 0)) 0 n))
    (λ k h. let below : k < n = omega arith in
    get_or-take n (drop s zs) k (pos 0) below ∙ get_or-drop s zs k (pos 0)
    ∙ ap (λ j. get_or zs (s + j) (pos 0)) (sym (zero-add k))
    ∙ sym (get_or-run (λ x. get_or zs (s + x) (pos 0)) 0 n k (pos 0) below))

-- a row of the samples
pub row_part : {T : Type 0} (value : T → ℤ) (xs : List T) (start step width height y : ℕ)
    → length xs ≡ height * width
    → y < height
    → start ≡ y * width
    → step ≡ width
    → map value (take (start + step - start) (drop start xs))
    ≡ run 0 width (λ x. get_or (map value xs) (y * width + x) (pos 0))
row_part value xs start step width height y size below at is =
    let room : y * width + width ≤ height * width = row_fits width height y below in
    ap (λ n. map value (take n (drop start xs))) (omega arith)
    ∙ ap (λ s. map value (take width (drop s xs))) at
    ∙ sym (take-map value width (drop (y * width) xs))
    ∙ ap (take width) (sym (drop-map value (y * width) xs))
    ∙ part_is_run (map value xs) (y * width) width (omega (arith, length-map xs value))

drop-run : (g : ℕ → ℤ) (x s n : ℕ) → drop s (run x (s + n) g) ≡ run (x + s) n g
drop-run g x s n =
    ap (drop s) (run-append g x s n) ∙ drop_at (run x s g) (run (x + s) n g) s (length-run g x s)

take-run : (g : ℕ → ℤ) (x n m : ℕ) → take n (run x (n + m) g) ≡ run x n g
take-run g x n m =
    ap (take n) (run-append g x n m) ∙ take_at (run x n g) (run (x + n) m g) n (length-run g x n)

-- a part of a run
pub run_part : (g : ℕ → ℤ) (w s n : ℕ) → s + n ≤ w → take n (drop s (run 0 w g)) ≡ run s n g
run_part g w s n room =
    ap (λ m. take n (drop s (run 0 m g))) (split w s n room)
    ∙ ap (take n) (drop-run g 0 s (n + (w - s - n)))
    ∙ take-run g (0 + s) n (w - s - n)
    ∙ ap (λ k. run k n g) (zero-add s)
  where
    split : (w s n : ℕ) → s + n ≤ w → w ≡ s + (n + (w - s - n))
    split w s n h = omega arith

pub part_of_row : {T : Type 0} (value : T → ℤ) (row : List T) (g : ℕ → ℤ) (w s n stop : ℕ)
    → s + n ≤ w
    → stop ≡ s + n
    → map value row ≡ run 0 w g
    → map value (take (stop - s) (drop s row)) ≡ run s n g
part_of_row value row g w s n stop room is same =
    ap (λ k. map value (take k (drop s row))) (omega arith)
    ∙ sym (take-map value n (drop s row))
    ∙ ap (take n) (sym (drop-map value s row) ∙ ap (drop s) same)
    ∙ run_part g w s n room

-- an operation of a run's samples
pub map_of_run : (f : ℤ → ℤ) (g : ℕ → ℤ) (x n : ℕ) (us cs : List ℤ)
    → us ≡ run x n g
    → cs ≡ map f us
    → cs ≡ run x n (λ k. f (g k))
map_of_run f g x n us cs a is = is ∙ ap (map f) a ∙ map-map f g (range_with_len x n)

-- an operation of the samples of two runs
pub zip2_of_runs : (f : ℤ → ℤ → ℤ) (g h : ℕ → ℤ) (x n : ℕ) (us vs cs : List ℤ)
    → us ≡ run x n g
    → vs ≡ run x n h
    → cs ≡ zip2 f us vs
    → cs ≡ run x n (λ k. f (g k) (h k))
zip2_of_runs f g h x n us vs cs a b is =
    is
    ∙ ap (λ l. zip2 f l vs) a
    ∙ ap (λ l. zip2 f (run x n g) l) b
    ∙ zip2-map f g h (range_with_len x n)

-- one more place of a run
pub run-more : (f : ℕ → ℤ) (x n : ℕ) → run x (n + 1) f ≡ run x n f ++ f (x + n) ∷ []
run-more f x n = run-append f x n 1
