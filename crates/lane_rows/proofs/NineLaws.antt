-- Results for the samples of windows, lane by lane.
use Rattle.std.proofs.Common.{◌≡◌, ℕ, ℤ, pos, List, map, ap, ◌∙◌}
use Rattle.std.specs.Prelude.{slice_index}
use Rattle.lane_rows.proofs.Common.{range_with_len, run, run-same, zip2}
use Rattle.std.proofs.lemmas.Simd.{map-map, zip2-map}
use Rattle.std.proofs.Math.ListN.{get_or-map}
use Rattle.lane_rows.specs.declared.nine_rows.Three.{Three}
use Rattle.lane_rows.specs.Ranks.{chosen_of_three, chosen_of_nine, middle_of_nine}
use Rattle.lane_rows.specs.Threes.{chosen_at}

pub same_three : {A B : Type 0} (g : A → A → A → B) {a b c p q r : A}
    → a ≡ p
    → b ≡ q
    → c ≡ r
    → g a b c ≡ g p q r
same_three g x y z = cc (x, y, z)

-- 32 bytes that are the values of f represent the values of g
pub numbers_at : (f : ℕ → ℕ) (g : ℕ → ℤ) (index : ℕ) (out : List ℕ)
    → out ≡ map f (range_with_len index 32)
    → ((k : ℕ) → pos (f k) ≡ g k)
    → map pos out ≡ run index 32 g
numbers_at f g index out is same =
    ap (map pos) is
    ∙ map-map pos f (range_with_len index 32)
    ∙ run-same (λ k. pos (f k)) g index 32 (λ k _ _. same k)

-- the choice from three bytes, as a number
pub chosen_number : (lo : ℕ → ℕ → ℕ) (op : ℤ → ℤ → ℤ)
    → ((a b : ℕ) → pos (lo a b) ≡ op (pos a) (pos b))
    → (rows : Three) (i : ℕ)
    → pos
    (chosen_of_three lo (slice_index rows.left.now i) (slice_index rows.middle.now i)
    (slice_index rows.right.now i))
    ≡ chosen_at op rows i
chosen_number lo op same rows i =
    rw (
      get_or-map pos rows.left.now i 0,
      get_or-map pos rows.middle.now i 0,
      get_or-map pos rows.right.now i 0,
    ) (simp same)

-- ---- functions of vectors

pub three_by_lanes : (op : ℕ → ℕ → ℕ) (a b c : ℕ → ℕ) (ks : List ℕ)
    → chosen_of_three (zip2 op) (map a ks) (map b ks) (map c ks)
    ≡ map (λ k. chosen_of_three op (a k) (b k) (c k)) ks
three_by_lanes op a b c ks = simp zip2-map

pub chosen_by_lanes : (op : ℕ → ℕ → ℕ) (a b c d e f g h i : ℕ → ℕ) (ks : List ℕ)
    → chosen_of_nine (zip2 op) (map a ks) (map b ks) (map c ks) (map d ks) (map e ks) (map f ks)
    (map g ks) (map h ks) (map i ks)
    ≡ map (λ k. chosen_of_nine op (a k) (b k) (c k) (d k) (e k) (f k) (g k) (h k) (i k)) ks
chosen_by_lanes op a b c d e f g h i ks = simp zip2-map

pub middle_by_lanes : (lo hi : ℕ → ℕ → ℕ) (a b c d e f g h i : ℕ → ℕ) (ks : List ℕ)
    → middle_of_nine (zip2 lo) (zip2 hi) (map a ks) (map b ks) (map c ks) (map d ks) (map e ks)
    (map f ks) (map g ks) (map h ks) (map i ks)
    ≡ map (λ k. middle_of_nine lo hi (a k) (b k) (c k) (d k) (e k) (f k) (g k) (h k) (i k)) ks
middle_by_lanes lo hi a b c d e f g h i ks = simp zip2-map
