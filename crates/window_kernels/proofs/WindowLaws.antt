-- The results of windows in rows that are read without a copy.
use Rattle.std.proofs.Common.{◌≡◌, ℕ, ℤ, pos, ◌+◌, ◌<◌, ◌+ℤ◌, ◌-ℤ◌, ◌≤◌, zero, suc, List, [], ◌∷◌, ◌++◌, length, map, take, drop, get_or, refl, ap, ◌∙◌, sym, subst, arith, zero-add, replicate, w8, Fits, get_or-drop}
use Rattle.window_kernels.proofs.Common.{get_or-chunk, get_or-map, get_or-run, ints, map-append, nine_around, run, run-append, run-same, run_shifted}
use Rattle.std.proofs.lemmas.List.{drop-map, length-replicate, take-map}
use Rattle.vx_base.proofs.ZeroLaws.{map-replicate}
use Rattle.lane_rows.specs.Windows.{nine_from}
use Rattle.lane_rows.specs.Threes.{AreTaken, number_at}

-- a row of one sample
pub all_are : (n v : ℕ) (z : ℤ)
    → pos v ≡ z
    → map pos (replicate n v) ≡ replicate (length (replicate n v)) z
all_are n v z is =
    map-replicate pos n v
    ∙ ap (replicate n) is
    ∙ ap (λ k. replicate k z) (sym (length-replicate n v))

-- a sample of a row that is read in place
item_at : (f : ℤ → ℤ → ℤ) (x m i : ℕ) (v w : ℤ) (row : List ℕ)
    → map pos row ≡ run x m (λ c. f (pos c) v)
    → i < m
    → v ≡ w
    → pos (get_or row i 0) ≡ f (pos (x + i)) w
item_at f x m i v w row same below on =
    sym (get_or-map pos row i 0)
    ∙ ap (λ l. get_or l i (pos 0)) same
    ∙ get_or-run (λ c. f (pos c) v) x m i (pos 0) below
    ∙ ap (f (pos (x + i))) on

-- the windows of three rows in place, from the column to the left of their first place on
pub nines_inside :
    (of_nine : List ℤ → ℤ) (f : ℤ → ℤ → ℤ) (x m n : ℕ) (y over on under : ℤ)
    (above here below : List ℕ)
    → map pos above ≡ run x m (λ c. f (pos c) over)
    → map pos here ≡ run x m (λ c. f (pos c) on)
    → map pos below ≡ run x m (λ c. f (pos c) under)
    → over ≡ y -ℤ pos 1 → on ≡ y → under ≡ y +ℤ pos 1 → m ≡ n + 2
    → run 0 n (λ i. of_nine (nine_from above here below i))
    ≡ run (x + 1) n (λ k. of_nine (nine_around f (pos k) y))
nines_inside of_nine f x m n y over on under above here below a b d is_over is_on is_under long =
    run_shifted (λ i. of_nine (nine_from above here below i))
    (λ k. of_nine (nine_around f (pos k) y)) 0 (x + 1) n place
  where
    same : (i : ℕ) (u : ℤ)
        → i < m
        → pos (x + i) ≡ u
        → (pos (get_or above i 0) ≡ f u (y -ℤ pos 1))
        × (pos (get_or here i 0) ≡ f u y)
        × (pos (get_or below i 0) ≡ f u (y +ℤ pos 1))
    same i u inside at = (
      item_at f x m i over (y -ℤ pos 1) above a inside is_over ∙ ap (λ v. f v (y -ℤ pos 1)) at,
      item_at f x m i on y here b inside is_on ∙ ap (λ v. f v y) at,
      item_at f x m i under (y +ℤ pos 1) below d inside is_under ∙ ap (λ v. f v (y +ℤ pos 1)) at,
    )

    place : (k : ℕ)
        → k < n
        → of_nine (nine_from above here below (0 + k)) ≡ of_nine (nine_around f (pos (x + 1 + k)) y)
    place k h =
        let left = same k (pos (x + 1 + k) -ℤ pos 1) (omega arith) (omega (arith, ints)) in
        let middle = same (k + 1) (pos (x + 1 + k)) (omega arith) (omega (arith, ints)) in
        let right = same (k + 2) (pos (x + 1 + k) +ℤ pos 1) (omega arith) (omega (arith, ints)) in
        ap (λ i. of_nine (nine_from above here below i)) (zero-add k)
        ∙ ap of_nine
        (cc (left.0, middle.0, right.0, left.1, middle.1, right.1, left.2, middle.2, right.2))

-- a run that is written in three parts; the first and the last are one sample each
pub parts_joined : {T : Type 0} (value : T → ℤ) (f : ℕ → ℤ) (x n m last : ℕ) (xs ys zs : List T)
    → map value xs ≡ run x 1 f
    → map value ys ≡ run (x + 1) m f
    → map value zs ≡ run last 1 f
    → last ≡ x + 1 + m → n ≡ 1 + (m + 1) → map value (xs ++ (ys ++ zs)) ≡ run x n f
parts_joined value f x n m last xs ys zs one two three to_last whole =
    rw (
      map-append value xs (ys ++ zs),
      map-append value ys zs,
      one,
      two,
      three,
      to_last,
      whole,
      run-append f x 1 (m + 1),
      run-append f (x + 1) m 1,
    ) refl

-- ---- down the columns, then across three of them

pub bytes_taken : (takes : ℤ → Type 0)
    → ((n : ℕ) → n < 256 → takes (pos n))
    → (row : List ℕ)
    → ((i : ℕ) → Fits w8 (get_or row i 0))
    → AreTaken takes (map pos row)
bytes_taken takes law row fits i =
    subst takes (sym (get_or-map pos row i 0)) (law (get_or row i 0) (fits i).fits)

module _ (takes : ℤ → Type 0) (takes_zero : takes (pos 0)) where
  run_taken : (f : ℕ → ℤ) (x n : ℕ) → ((i : ℕ) → takes (f i)) → AreTaken takes (run x n f)
  run_taken f x zero all i = takes_zero
  run_taken f x (suc n) all zero = all x
  run_taken f x (suc n) all (suc i) = run_taken f (x + 1) n all i

  take_taken : (n : ℕ) (xs : List ℤ) → AreTaken takes xs → AreTaken takes (take n xs)
  take_taken zero xs all i = takes_zero
  take_taken (suc n) [] all i = takes_zero
  take_taken (suc n) (x ∷ xs) all zero = all 0
  take_taken (suc n) (x ∷ xs) all (suc i) = take_taken n xs (λ j. all (suc j)) i

  part_taken : (a n : ℕ) (xs : List ℤ) → AreTaken takes xs → AreTaken takes (take n (drop a xs))
  part_taken a n xs all =
      take_taken n (drop a xs) (λ i. subst takes (sym (get_or-drop a xs i (pos 0))) (all (a + i)))

part_of : {S : Type 0} (value : S → ℤ) (columns : List S) (k a : ℕ)
    → map value (take k (drop a columns)) ≡ take k (drop a (map value columns))
part_of value columns k a =
    sym (take-map value k (drop a columns)) ∙ ap (take k) (sym (drop-map value a columns))

part_at : {S : Type 0} (value : S → ℤ) (f : ℕ → ℤ) (m a n p i : ℕ) (columns : List S)
    → map value columns ≡ run 0 m f
    → p ≡ n
    → i < n
    → a + i < m
    → number_at (map value (take p (drop a columns))) i ≡ f (a + i)
part_at value f m a n p i columns is same below inside =
    ap (λ l. number_at l i) (part_of value columns p a)
    ∙ get_or-chunk a p (map value columns) i (pos 0) (omega arith)
    ∙ ap (λ l. number_at l (a + i)) is
    ∙ get_or-run f 0 m (a + i) (pos 0) inside ∙ ap f (zero-add (a + i))

-- columns of bytes are taken across
pub columns_taken : (down : ℤ → ℤ → ℤ → ℤ) {S : Type 0} (value : S → ℤ) (takes : ℤ → Type 0)
    → takes (pos 0)
    → ((a b c : ℕ) → a < 256 → b < 256 → c < 256 → takes (down (pos a) (pos b) (pos c)))
    → (above here below : List ℕ) (m : ℕ) (columns : List S)
    → ((i : ℕ) → Fits w8 (get_or above i 0))
    → ((i : ℕ) → Fits w8 (get_or here i 0))
    → ((i : ℕ) → Fits w8 (get_or below i 0))
    → map value columns
    ≡ run 0 m
    (λ i. down (number_at (map pos above) i) (number_at (map pos here) i)
    (number_at (map pos below) i))
    → (a n : ℕ) → AreTaken takes (map value (take n (drop a columns)))
columns_taken down value takes takes_zero law above here below m columns p q r is a n =
    let f : ℕ → ℤ =
    λ i. down (number_at (map pos above) i) (number_at (map pos here) i)
    (number_at (map pos below) i) in
    let all : (i : ℕ) → takes (f i) =
    λ i. subst takes
    (sym (cc (get_or-map pos above i 0, get_or-map pos here i 0, get_or-map pos below i 0)))
    (law (get_or above i 0) (get_or here i 0) (get_or below i 0) (p i).fits (q i).fits (r i).fits)
    in
    subst (AreTaken takes) (sym (part_of value columns n a))
    (part_taken takes takes_zero a n (map value columns)
    (subst (AreTaken takes) (sym is) (run_taken takes takes_zero f 0 m all)))

module _ (down across : ℤ → ℤ → ℤ → ℤ) (of_nine : List ℤ → ℤ)
    (law : (a b c d e f g h i : ℤ) → across (down a d g) (down b e h) (down c f i)
    ≡ of_nine (a ∷ b ∷ c ∷ d ∷ e ∷ f ∷ g ∷ h ∷ i ∷ []))
  where
    -- what three columns of three rows give
    pub across_columns :
        {S : Type 0} (value : S → ℤ) (above here below : List ℕ) (m n p q r : ℕ) (columns : List S)
        → map value columns
        ≡ run 0 m
        (λ i. down (number_at (map pos above) i) (number_at (map pos here) i)
        (number_at (map pos below) i))
        → m ≡ n + 2
        → p ≡ n
        → q ≡ n
        → r ≡ n
        → run 0 n
        (λ i. across (number_at (map value (take p (drop 0 columns))) i)
        (number_at (map value (take q (drop 1 columns))) i)
        (number_at (map value (take r (drop 2 columns))) i))
        ≡ run 0 n (λ i. of_nine (nine_from above here below i))
    across_columns value above here below m n p q r columns is long pp qq rr =
        run-same _ (λ i. of_nine (nine_from above here below i)) 0 n place
      where
        bytes : (i k : ℕ)
            → i ≡ k
            → down (number_at (map pos above) i) (number_at (map pos here) i)
            (number_at (map pos below) i)
            ≡ down (pos (get_or above k 0)) (pos (get_or here k 0)) (pos (get_or below k 0))
        bytes i k same =
            ap
            (λ j. down (number_at (map pos above) j) (number_at (map pos here) j)
            (number_at (map pos below) j))
            same
            ∙ cc (get_or-map pos above k 0, get_or-map pos here k 0, get_or-map pos below k 0)

        place : (i : ℕ)
            → 0 ≤ i
            → i < 0 + n
            → across (number_at (map value (take p (drop 0 columns))) i)
            (number_at (map value (take q (drop 1 columns))) i)
            (number_at (map value (take r (drop 2 columns))) i)
            ≡ of_nine (nine_from above here below i)
        place i _ below_n =
            let f : ℕ → ℤ =
            λ i. down (number_at (map pos above) i) (number_at (map pos here) i)
            (number_at (map pos below) i) in
            let left =
            part_at value f m 0 n p i columns is pp (omega arith) (omega arith)
            ∙ bytes (0 + i) i (omega arith) in
            let middle =
            part_at value f m 1 n q i columns is qq (omega arith) (omega arith)
            ∙ bytes (1 + i) (i + 1) (omega arith) in
            let right =
            part_at value f m 2 n r i columns is rr (omega arith) (omega arith)
            ∙ bytes (2 + i) (i + 2) (omega arith) in
            cc (
              left,
              middle,
              right,
              law (pos (get_or above i 0)) (pos (get_or above (i + 1) 0))
                  (pos (get_or above (i + 2) 0)) (pos (get_or here i 0))
                  (pos (get_or here (i + 1) 0)) (pos (get_or here (i + 2) 0))
                  (pos (get_or below i 0)) (pos (get_or below (i + 1) 0))
                  (pos (get_or below (i + 2) 0)),
            )
