-- The least or the greatest item of a row, found in lanes.
use Rattle.std.proofs.Common.{◌≡◌, ℕ, ℤ, ◌+◌, ◌*◌, ◌<◌, List, [], ◌∷◌, ◌++◌, length, map, take, drop, get_or, replicate, zero, suc, ap, ◌∙◌, sym, refl, arith, take-append-drop}
use Rattle.lane_rows.proofs.Common.{best_of, fold, int_max, int_min, ints, zip2, map-append, take-add, length-zip2}
use Rattle.std.specs.List.{flat_map}
use Rattle.std.specs.Simd.{first_chunks}
use Rattle.std.proofs.lemmas.List.{length-replicate, flat_map_more, take_more}
use Rattle.std.proofs.lemmas.List.Sums.{fold-append}

-- a choice of one of two numbers
pub record IsChoice (choose : ℤ → ℤ → ℤ) : Type 0 where
  pub same : (z : ℤ) → choose z z ≡ z
  pub turned : (a b : ℤ) → choose a b ≡ choose b a
  pub grouped : (a b c : ℤ) → choose (choose a b) c ≡ choose a (choose b c)

pub least : IsChoice int_min
least = record {
  same = λ z. grind (arith, ints);
  turned = λ a b. grind (arith, ints);
  grouped = λ a b c. grind (arith, ints);
}

pub greatest : IsChoice int_max
greatest = record {
  same = λ z. grind (arith, ints);
  turned = λ a b. grind (arith, ints);
  grouped = λ a b c. grind (arith, ints);
}

-- n lanes that hold the choice of `first` and of these items
pub record Chosen (choose : ℤ → ℤ → ℤ) (first : ℤ) (items : List ℤ) (n : ℕ) (lanes : List ℤ) :
    Type 0 where
  pub long : length lanes ≡ n
  pub is : fold choose first lanes ≡ fold choose first items

-- ---- the blocks of a row

abbrev pub joined : {A : Type 0} → List (List A) → List A
joined blocks = flat_map (λ block. block) blocks

pub one_more : {A : Type 0} (blocks : List (List A)) (i : ℕ)
    → i < length blocks
    → joined (take (i + 1) blocks) ≡ joined (take i blocks) ++ get_or blocks i []
one_more blocks i inside =
    ap joined (take_more blocks i [] inside)
    ∙ sym (flat_map_more (λ block. block) [] (take i blocks) (get_or blocks i []))

all_chunks : {A : Type 0} (n k : ℕ) (xs : List A) → joined (first_chunks n k xs) ≡ take (k * n) xs
all_chunks n zero xs = let none : 0 ≡ zero * n = omega arith in ap (λ m. take m xs) none
all_chunks n (suc k) xs =
    let size : suc k * n ≡ n + k * n = omega arith in
    ap (λ l. take n xs ++ l) (all_chunks n k (drop n xs))
    ∙ sym (take-add n (k * n) xs)
    ∙ ap (λ m. take m xs) (sym size)

-- a row as its blocks and the rest
parts : {A : Type 0} (n k : ℕ) (row rest : List A) (blocks : List (List A))
    → blocks ≡ first_chunks n k row
    → rest ≡ drop (k * n) row
    → row ≡ joined blocks ++ rest
parts n k row rest blocks front back =
    sym (take-append-drop (k * n) row)
    ∙ ap (λ l. l ++ drop (k * n) row) (sym (ap joined front ∙ all_chunks n k row))
    ∙ ap (λ l. joined blocks ++ l) (sym back)

-- ---- choices in lanes

module _ {choose : ℤ → ℤ → ℤ} (h : IsChoice choose) where
  chosen_later : (a y : ℤ) (xs : List ℤ) → choose (fold choose a xs) y ≡ fold choose (choose a y) xs
  chosen_later a y [] = refl
  chosen_later a y (x ∷ xs) =
      chosen_later (choose a x) y xs
      ∙ ap (λ z. fold choose z xs)
      (h.grouped a x y ∙ ap (choose a) (h.turned x y) ∙ sym (h.grouped a y x))

  -- the choices of pairs, and the items of both lists
  pairs_chosen : (a : ℤ) (xs ys : List ℤ)
      → length xs ≡ length ys
      → fold choose a (zip2 choose xs ys) ≡ fold choose (fold choose a xs) ys
  pairs_chosen a [] [] long = refl
  pairs_chosen a [] (y ∷ ys) long = absurd (omega (arith, long))
  pairs_chosen a (x ∷ xs) [] long = absurd (omega (arith, long))
  pairs_chosen a (x ∷ xs) (y ∷ ys) long =
      pairs_chosen (choose a (choose x y)) xs ys (omega (arith, long))
      ∙ ap (λ z. fold choose z ys)
      (ap (λ z. fold choose z xs) (sym (h.grouped a x y)) ∙ sym (chosen_later (choose a x) y xs))

  repeated : (z : ℤ) (n : ℕ) → fold choose z (replicate n z) ≡ z
  repeated z zero = refl
  repeated z (suc n) = ap (λ a. fold choose a (replicate n z)) (h.same z) ∙ repeated z n

  pub no_block : (first : ℤ) (n : ℕ) → Chosen choose first [] n (replicate n first)
  no_block first n = record { long = length-replicate n first; is = repeated first n }

  -- one more block
  pub next_block : (first : ℤ) (items block more lanes next : List ℤ) (n : ℕ)
      → length block ≡ n
      → more ≡ items ++ block
      → next ≡ zip2 choose lanes block
      → Chosen choose first items n lanes
      → Chosen choose first more n next
  next_block first items block more lanes next n long joined is before =
      let alike : length lanes ≡ length block = before.long ∙ sym long in
      record {
        long = ap length is ∙ length-zip2 choose lanes block alike ∙ before.long;
        is =
            ap (fold choose first) is
            ∙ pairs_chosen first lanes block alike
            ∙ ap (λ z. fold choose z block) before.is
            ∙ sym (fold-append choose first items block)
            ∙ ap (fold choose first) (sym joined);
      }

  -- the first item, chosen again
  first_again : {T : Type 0} (value : T → ℤ) (row : List T) (first : ℤ) (d : T)
      → 0 < length row
      → first ≡ value (get_or row 0 d)
      → fold choose first (map value row) ≡ best_of choose (map value row)
  first_again value [] first d some is = absurd (omega arith)
  first_again value (x ∷ row) first d some is =
      ap (λ a. fold choose a (map value row)) (ap (λ y. choose y (value x)) is ∙ h.same (value x))

  -- the lanes and the items after the last block
  pub row_chosen :
      {T : Type 0} (value : T → ℤ) (row rest : List T) (blocks : List (List T)) (first : ℤ)
      (lanes : List ℤ) (n k : ℕ) (d : T)
      → 0 < length row
      → first ≡ value (get_or row 0 d)
      → blocks ≡ first_chunks n k row
      → rest ≡ drop (k * n) row
      → fold choose first lanes ≡ fold choose first (map value (joined blocks))
      → fold choose (fold choose first lanes) (map value rest) ≡ best_of choose (map value row)
  row_chosen value row rest blocks first lanes n k d some is front back before =
      ap (λ a. fold choose a (map value rest)) before
      ∙ sym (fold-append choose first (map value (joined blocks)) (map value rest))
      ∙ ap (fold choose first)
      (sym (map-append value (joined blocks) rest)
      ∙ ap (map value) (sym (parts n k row rest blocks front back)))
      ∙ first_again value row first d some is
