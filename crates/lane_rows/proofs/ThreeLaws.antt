-- Three rows of numbers that are added up, in lanes.
use Rattle.std.proofs.Common.{◌≡◌, ℕ, ℤ, pos, negsuc, zero, suc, ◌+◌, ◌/◌, ◌%◌, ◌<◌, ◌≤◌, ◌+ℤ◌, ◌*ℤ◌, List, [], ◌∷◌, length, map, get_or, replicate, refl, ap, ◌∙◌, sym, subst, arith, w16, of_z, to_z, map-id, ◌^◌}
use Rattle.std.specs.Int.{int_div_euclid}
use Rattle.std.proofs.lemmas.Simd.{zip2_splat}
use Rattle.lane_rows.proofs.Common.{zip2, ints, Each1, length-map, length-zip2, put_chunk_whole}
use Rattle.std.proofs.Math.Dec.{T}
use mir.Val.{Fits}
use lib.IntN.{nat_abs}
use lib.Signed.{non_neg}
use Rattle.std.specs.Simd.Lanes.{put_chunk}
use Rattle.lane_rows.proofs.Lanewise.{Lanewise, one, other, both, length-all}
use Rattle.std.proofs.Math.ListN.{get_or-map}
use Rattle.lane_rows.specs.Threes.{IsUpTo, AreTaken, AreUpTo, number_at, zip3}

-- ---- numbers that are loaded

-- bytes
pub bytes_loaded : (xs : List ℕ) (ks : List ℕ)
    → map pos (map (λ n. n) (map (λ k. get_or xs k 0) ks)) ≡ map (number_at (map pos xs)) ks
bytes_loaded xs [] = refl
bytes_loaded xs (k ∷ ks) = cc (get_or-map pos xs k 0, bytes_loaded xs ks)

-- numbers of 16 bits with a sign, none of which is negative
as_number : (z : ℤ) → IsUpTo 8191 z → to_z w16 (of_z w16 z) ≡ z
as_number z near = omega (arith, ints, near.0, near.1)

natural : (z : ℤ) → IsUpTo 8191 z → (T (non_neg z) × Fits w16 (nat_abs z)) × (pos (nat_abs z) ≡ z)
natural (pos n) near =
    let small : n < 65536 = omega (arith, ints, near.1) in ((tt, record { fits = small }), refl)
natural (negsuc n) near = absurd (omega (arith, ints, near.0))

pub can_all : (xs : List ℤ)
    → AreUpTo 8191 xs
    → (ks : List ℕ)
    → Each1 (λ b. T (non_neg (to_z w16 b)) × Fits w16 (nat_abs (to_z w16 b)))
    (map (of_z w16) (map (λ k. get_or xs k (pos 0)) ks))
can_all xs all [] = tt
can_all xs all (k ∷ ks) = (
  subst (λ z. T (non_neg z) × Fits w16 (nat_abs z))
      (sym (as_number (get_or xs k (pos 0)) (all k))) (natural (get_or xs k (pos 0)) (all k)).0,
  can_all xs all ks,
)

pub shorts_loaded : (xs : List ℤ)
    → AreUpTo 8191 xs
    → (ks : List ℕ)
    → map pos (map (λ b. nat_abs (to_z w16 b)) (map (of_z w16) (map (λ k. get_or xs k (pos 0)) ks)))
    ≡ map (number_at xs) ks
shorts_loaded xs all [] = refl
shorts_loaded xs all (k ∷ ks) =
    let z = get_or xs k (pos 0) in
    cc (
      ap (λ y. pos (nat_abs y)) (as_number z (all k)) ∙ (natural z (all k)).1,
      shorts_loaded xs all ks,
    )

pub limited_numbers : (limit : ℕ) (row : List ℤ) (ks : List ℕ) (ns : List ℕ)
    → AreUpTo limit row
    → map pos ns ≡ map (number_at row) ks
    → Each1 (λ n. n ≤ limit) ns
limited_numbers limit row ks [] all is = tt
limited_numbers limit row [] (n ∷ ns) all is = cc
limited_numbers limit row (k ∷ ks) (n ∷ ns) all is =
    let first : pos n ≡ number_at row k = cc in
    let others : map pos ns ≡ map (number_at row) ks = cc in
    (omega (arith, ints, first, (all k).1), limited_numbers limit row ks ns all others)

pub up_to_more : (limit most : ℕ) (row : List ℤ)
    → limit ≤ most
    → AreUpTo limit row
    → AreUpTo most row
up_to_more limit most row more all i = ((all i).0, omega (arith, ints, (all i).1))

-- a kernel at indices of three rows
pub zip3-map : (f : ℤ → ℤ → ℤ → ℤ) (p q r : ℕ → ℤ) (ks : List ℕ)
    → zip3 f (map p ks) (map q ks) (map r ks) ≡ map (λ k. f (p k) (q k) (r k)) ks
zip3-map f p q r [] = refl
zip3-map f p q r (k ∷ ks) = ap (λ l. f (p k) (q k) (r k) ∷ l) (zip3-map f p q r ks)

-- ---- sums in lanes

abbrev plus : ℕ → ℕ → ℕ
plus a b = (a + b) % 65536

abbrev Below : ℕ → List ℕ → Type 0
Below limit ns = Each1 (λ n. n ≤ limit) ns

abbrev Net : Type 0
Net = ℕ → ℕ → ℕ → ℕ

abbrev doubled : Lanewise ℕ ℕ ℕ
doubled = both plus one (both plus other other)

zip2-zip3 : (h g : ℕ → ℕ → ℕ) (xs ys zs : List ℕ)
    → zip2 h (zip2 g xs ys) zs ≡ zip3 (λ a b c. h (g a b) c) xs ys zs
zip2-zip3 h g [] ys zs = refl
zip2-zip3 h g (a ∷ xs) [] zs = refl
zip2-zip3 h g (a ∷ xs) (b ∷ ys) [] = refl
zip2-zip3 h g (a ∷ xs) (b ∷ ys) (c ∷ zs) = ap (λ l. h (g a b) c ∷ l) (zip2-zip3 h g xs ys zs)

map-zip3 : (h : ℕ → ℕ) (net : Net) (xs ys zs : List ℕ)
    → map h (zip3 net xs ys zs) ≡ zip3 (λ a b c. h (net a b c)) xs ys zs
map-zip3 h net [] ys zs = refl
map-zip3 h net (a ∷ xs) [] zs = refl
map-zip3 h net (a ∷ xs) (b ∷ ys) [] = refl
map-zip3 h net (a ∷ xs) (b ∷ ys) (c ∷ zs) = ap (λ l. h (net a b c) ∷ l) (map-zip3 h net xs ys zs)

-- a function of three numbers up to a limit, and its results for vectors of such numbers
module _ (limit most : ℕ) (net : Net) (f : ℤ → ℤ → ℤ → ℤ)
    (law : (a b c : ℕ)
    → a ≤ limit
    → b ≤ limit
    → c ≤ limit
    → (pos (net a b c) ≡ f (pos a) (pos b) (pos c)) × (net a b c ≤ most))
  where
    numbers : (xs ys zs : List ℕ)
        → Below limit xs
        → Below limit ys
        → Below limit zs
        → (map pos (zip3 net xs ys zs) ≡ zip3 f (map pos xs) (map pos ys) (map pos zs))
        × Below most (zip3 net xs ys zs)
    numbers [] ys zs p q r = (refl, tt)
    numbers (a ∷ xs) [] zs p q r = (refl, tt)
    numbers (a ∷ xs) (b ∷ ys) [] p q r = (refl, tt)
    numbers (a ∷ xs) (b ∷ ys) (c ∷ zs) p q r =
        let here = law a b c p.0 q.0 r.0 in
        let rest = numbers xs ys zs p.1 q.1 r.1 in
        (cc (here.0, rest.0), (here.1, rest.1))

    made : (ns xs ys zs : List ℕ)
        → ns ≡ zip3 net xs ys zs
        → Below limit xs
        → Below limit ys
        → Below limit zs
        → (map pos ns ≡ zip3 f (map pos xs) (map pos ys) (map pos zs)) × Below most ns
    made ns xs ys zs is p q r = rw is (numbers xs ys zs p q r)

sum_law : (a b c : ℕ)
    → a ≤ 8191
    → b ≤ 8191
    → c ≤ 8191
    → (pos (plus (plus a b) c) ≡ pos a +ℤ pos b +ℤ pos c) × (plus (plus a b) c ≤ 32767)
sum_law a b c p q r = (omega (arith, ints), omega arith)

weighted_law : (a b c : ℕ)
    → a ≤ 8191
    → b ≤ 8191
    → c ≤ 8191
    → (pos (plus (plus a (plus b b)) c) ≡ pos a +ℤ pos 2 *ℤ pos b +ℤ pos c)
    × (plus (plus a (plus b b)) c ≤ 32767)
weighted_law a b c p q r = (omega (arith, ints), omega arith)

ninth_law : (a b c : ℕ)
    → a ≤ 765
    → b ≤ 765
    → c ≤ 765
    → (pos (plus (plus a b) c / 9) ≡ int_div_euclid (pos a +ℤ pos b +ℤ pos c) (pos 9))
    × (plus (plus a b) c / 9 ≤ 255)
ninth_law a b c p q r = (
  ap (λ z. int_div_euclid z (pos 9)) ((sum_law a b c (omega arith) (omega arith) (omega arith)).0),
  omega arith,
)

sixteenth_law : (a b c : ℕ)
    → a ≤ 1020
    → b ≤ 1020
    → c ≤ 1020
    →
    (pos (plus (plus a (plus b b)) c / 16)
    ≡ int_div_euclid (pos a +ℤ pos 2 *ℤ pos b +ℤ pos c) (pos 16))
    × (plus (plus a (plus b b)) c / 16 ≤ 255)
sixteenth_law a b c p q r = (
  ap (λ z. int_div_euclid z (pos 16))
      ((weighted_law a b c (omega arith) (omega arith) (omega arith)).0),
  omega arith,
)

-- a quotient of each lane of the sums
divided : (h : ℕ → ℕ → ℕ) (n : ℕ) (net : Net) (ns xs ys zs : List ℕ)
    → length ns ≡ 32
    → ns ≡ zip3 net xs ys zs
    → zip2 h ns (replicate 32 n) ≡ zip3 (λ a b c. h (net a b c) n) xs ys zs
divided h n net ns xs ys zs long is =
    zip2_splat h ns 32 n long ∙ ap (map (λ m. h m n)) is ∙ map-zip3 (λ m. h m n) net xs ys zs

length-sums : (xs ys : List ℕ) → length xs ≡ 32 → length ys ≡ 32 → length (zip2 plus xs ys) ≡ 32
length-sums xs ys p q = length-zip2 plus xs ys (p ∙ sym q) ∙ p

module _ (xs ys zs : List ℕ) (p : length xs ≡ 32) (q : length ys ≡ 32) (r : length zs ≡ 32) where
  weighted_by_lanes :
      zip2 plus (doubled.all 32 xs ys) zs ≡ zip3 (λ a b c. plus (plus a (plus b b)) c) xs ys zs
  weighted_by_lanes =
      ap (λ l. zip2 plus l zs) (doubled.same 32 xs ys p q)
      ∙ zip2-zip3 plus (λ a b. plus a (plus b b)) xs ys zs

  pub sums_made : Below 8191 xs → Below 8191 ys → Below 8191 zs
      →
      (map pos (zip2 plus (zip2 plus xs ys) zs)
      ≡ zip3 (λ a b c. a +ℤ b +ℤ c) (map pos xs) (map pos ys) (map pos zs))
      × Below 32767 (zip2 plus (zip2 plus xs ys) zs)
  sums_made =
      made 8191 32767 _ (λ a b c. a +ℤ b +ℤ c) sum_law _ xs ys zs (zip2-zip3 plus plus xs ys zs)

  pub weighted_made : Below 8191 xs → Below 8191 ys → Below 8191 zs
      →
      (map pos (zip2 plus (zip2 plus xs (zip2 plus ys ys)) zs)
      ≡ zip3 (λ a b c. a +ℤ pos 2 *ℤ b +ℤ c) (map pos xs) (map pos ys) (map pos zs))
      × Below 32767 (zip2 plus (zip2 plus xs (zip2 plus ys ys)) zs)
  weighted_made =
      made 8191 32767 _ (λ a b c. a +ℤ pos 2 *ℤ b +ℤ c) weighted_law _ xs ys zs weighted_by_lanes

  pub ninths_made : Below 765 xs → Below 765 ys → Below 765 zs
      →
      (map pos (zip2 ◌/◌ (zip2 plus (zip2 plus xs ys) zs) (replicate 32 9)) ≡ zip3
      (λ a b c. int_div_euclid (a +ℤ b +ℤ c) (pos 9)) (map pos xs) (map pos ys) (map pos zs))
      × Below 255 (zip2 ◌/◌ (zip2 plus (zip2 plus xs ys) zs) (replicate 32 9))
  ninths_made =
      made 765 255 _ (λ a b c. int_div_euclid (a +ℤ b +ℤ c) (pos 9)) ninth_law _ xs ys zs
      (divided ◌/◌ 9 _ _ xs ys zs (length-sums (zip2 plus xs ys) zs (length-sums xs ys p q) r)
      (zip2-zip3 plus plus xs ys zs))

  pub sixteenths_made : Below 1020 xs → Below 1020 ys → Below 1020 zs
      →
      (map pos
      (zip2 (λ (x y : ℕ). x / 2 ^ y) (zip2 plus (zip2 plus xs (zip2 plus ys ys)) zs)
      (replicate 32 4))
      ≡ zip3 (λ a b c. int_div_euclid (a +ℤ pos 2 *ℤ b +ℤ c) (pos 16)) (map pos xs) (map pos ys)
      (map pos zs))
      × Below 255
      (zip2 (λ (x y : ℕ). x / 2 ^ y) (zip2 plus (zip2 plus xs (zip2 plus ys ys)) zs)
      (replicate 32 4))
  sixteenths_made =
      made 1020 255 _ (λ a b c. int_div_euclid (a +ℤ pos 2 *ℤ b +ℤ c) (pos 16)) sixteenth_law _
      xs ys zs
      (divided (λ (x y : ℕ). x / 2 ^ y) 4 _ _ xs ys zs
      (length-sums (doubled.all 32 xs ys) zs (length-all doubled 32 xs ys p q) r)
      weighted_by_lanes)

-- ---- one item

pub item_at : {A : Type 0} (value : A → ℤ) (xs : List A) (i : ℕ) (d : A)
    → i < length xs
    → value (get_or xs i d) ≡ number_at (map value xs) i
item_at value [] i d below = absurd (omega (arith, below))
item_at value (x ∷ xs) zero d below = refl
item_at value (x ∷ xs) (suc i) d below = item_at value xs i d (omega (arith, below))

pub item_is : {A : Type 0} (value : A → ℤ) (xs : List A) (i : ℕ) (x : A)
    → i < length xs
    → x ≡ get_or xs i x
    → value x ≡ number_at (map value xs) i
item_is value xs i x below is = ap value is ∙ item_at value xs i x below

pub item_taken : {A : Type 0} (takes : ℤ → Type 0) (value : A → ℤ) (xs : List A) (i : ℕ) (d : A)
    → i < length xs
    → AreTaken takes (map value xs)
    → takes (value (get_or xs i d))
item_taken takes value xs i d below all = subst takes (sym (item_at value xs i d below)) (all i)

pub item_is_taken : {A : Type 0} (takes : ℤ → Type 0) (value : A → ℤ) (xs : List A) (i : ℕ) (x : A)
    → i < length xs
    → x ≡ get_or xs i x
    → AreTaken takes (map value xs)
    → takes (value x)
item_is_taken takes value xs i x below is all =
    subst takes (sym (item_is value xs i x below is)) (all i)

-- ---- numbers that are stored

pub bytes_stored : (out ns : List ℕ)
    → length out ≡ 32
    → length ns ≡ 32
    → put_chunk 0 out (map (λ n. n) ns) ≡ ns
bytes_stored out ns room long =
    ap (put_chunk 0 out) (map-id ns) ∙ put_chunk_whole out ns (room ∙ sym long)

shorts_are : (ns : List ℕ) → Each1 (λ n. n ≤ 32767) ns → map (to_z w16) ns ≡ map pos ns
shorts_are [] small = refl
shorts_are (n ∷ ns) small =
    let first : to_z w16 n ≡ pos n = omega (arith, ints, small.0) in
    cc (first, shorts_are ns small.1)

pub shorts_stored : (out : List ℤ) (ns : List ℕ)
    → length out ≡ 32
    → length ns ≡ 32
    → Each1 (λ n. n ≤ 32767) ns
    → put_chunk 0 out (map (to_z w16) (map (λ n. n) ns)) ≡ map pos ns
shorts_stored out ns room long small =
    ap (λ l. put_chunk 0 out (map (to_z w16) l)) (map-id ns)
    ∙ put_chunk_whole out (map (to_z w16) ns) (room ∙ sym (length-map ns (to_z w16) ∙ long))
    ∙ shorts_are ns small
