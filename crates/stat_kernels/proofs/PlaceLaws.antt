-- The pixels of a rectangle and their samples, row by row.
use Rattle.std.proofs.Common.{◌≡◌, ℕ, ℤ, ◌+◌, ◌-◌, ◌*◌, ◌<◌, ◌≤◌, List, ◌++◌, length, map, zero, suc, refl, ap, ◌∙◌, arith, append-nil, length-append}
use Rattle.stat_kernels.proofs.Common.{range_with_len, flat_map, map-append, length-map, Rectangle, run, row_pixels, rectangle_pixels, range-append, length-range, map-map}
use Rattle.std.proofs.lemmas.List.Concat.{flat_map-append}

-- the rows of a rectangle that are above row y
abbrev pub above : Rectangle → ℕ → Rectangle
above r y = record { x0 = r.x0; y0 = r.y0; x1 = r.x1; y1 = y }

-- as many numbers from one number as from another, if these are the same
pub range_from : (a b n : ℕ) → (0 < n → a ≡ b) → range_with_len a n ≡ range_with_len b n
range_from a b zero same = refl
range_from a b (suc n) same = ap (λ m. range_with_len m (suc n)) (same (omega arith))

-- the pixels of rows, and of the rows below them
pub rows_joined : (x n a m k : ℕ)
    → flat_map (row_pixels x n) (range_with_len a (m + k))
    ≡ flat_map (row_pixels x n) (range_with_len a m)
    ++ flat_map (row_pixels x n) (range_with_len (a + m) k)
rows_joined x n a m k =
    ap (flat_map (row_pixels x n)) (range-append a m k)
    ∙ flat_map-append (row_pixels x n) (range_with_len a m) (range_with_len (a + m) k)

-- one more row
pub places_more : (r : Rectangle) (y : ℕ)
    → r.y0 ≤ y
    → rectangle_pixels (above r (y + 1))
    ≡ rectangle_pixels (above r y) ++ row_pixels r.x0 (r.x1 - r.x0) y
places_more r y ordered =
    let f = row_pixels r.x0 (r.x1 - r.x0) in
    let more : y + 1 - r.y0 ≡ (y - r.y0) + 1 = omega arith in
    ap (λ n. flat_map f (range_with_len r.y0 n)) more
    ∙ rows_joined r.x0 (r.x1 - r.x0) r.y0 (y - r.y0) 1
    ∙ ap (λ l. rectangle_pixels (above r y) ++ l)
    (append-nil (f (r.y0 + (y - r.y0))) ∙ ap f (omega arith))

-- the samples of a row's pixels
pub row_samples : (f : ℕ → ℕ → ℤ) (x n y : ℕ)
    → map (λ p. f p.0 p.1) (row_pixels x n y) ≡ run x n (λ k. f k y)
row_samples f x n y = map-map (λ p. f p.0 p.1) (λ k. (k, y)) (range_with_len x n)

-- the samples of more rows
pub samples_joined : (f : ℕ → ℕ → ℤ) (ps qs : List (ℕ × ℕ)) (x n y : ℕ)
    → ps ≡ qs ++ row_pixels x n y
    → map (λ p. f p.0 p.1) ps ≡ map (λ p. f p.0 p.1) qs ++ run x n (λ k. f k y)
samples_joined f ps qs x n y are =
    ap (map (λ p. f p.0 p.1)) are
    ∙ map-append (λ p. f p.0 p.1) qs (row_pixels x n y)
    ∙ ap (λ l. map (λ p. f p.0 p.1) qs ++ l) (row_samples f x n y)

-- the number of pixels of m rows
pub length-rows : (x n a m : ℕ) → length (flat_map (row_pixels x n) (range_with_len a m)) ≡ m * n
length-rows x n a zero = omega arith
length-rows x n a (suc m) =
    length-append (row_pixels x n a) (flat_map (row_pixels x n) (range_with_len (a + 1) m))
    ∙ omega (
      arith,
      length-map {B = ℕ × ℕ} (range_with_len x n) (λ k. (k, a)),
      length-range x n,
      length-rows x n (a + 1) m,
    )
