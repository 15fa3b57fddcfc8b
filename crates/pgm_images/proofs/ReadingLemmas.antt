-- A text that is read has the number of samples that its header states.
use Rattle.std.proofs.Common.{arith, ◌≡◌, ℕ, ℤ, pos, zero, suc, Bool, true, false, List, length, map, Option, Some, None, Result, Ok, Err, if◌then◌else◌, refl, ap}
use Rattle.pgm_images.proofs.Common.{option_map, InvalidValue, Encoding, Plain, Raw, BeginsWith, then_take, take_next, ends, take_count, take_raw, nothing_left, numbers_in, samples_up_to, all_up_to}

-- ---- the text before a token that was taken

pub then_some : {A B : Type 0} (t : BeginsWith A) (next : A → List ℕ → Option B) (r : B)
    → then_take t next ≡ Some r
    → (x : A) × (rest : List ℕ) × (t ≡ Some (x, rest)) × (next x rest ≡ Some r)
then_some None next r e = cc
then_some (Some taken) next r e = (taken.0, taken.1, refl, e)

pub map_some : {A B : Type 0} (f : A → B) (o : Option A) (y : B)
    → option_map f o ≡ Some y
    → (x : A) × (o ≡ Some x) × (f x ≡ y)
map_some f None y e = cc
map_some f (Some x) y e = (x, refl, cc)

pub if_some : {A : Type 0} (b : Bool) (x y : A)
    → (if b then Some x else None) ≡ Some y
    → (b ≡ true) × (x ≡ y)
if_some true x y e = (refl, cc)
if_some false x y e = cc

pub if_ok : {A E : Type 0} (b : Bool) (r : Result A E) (fault : E) (x : A)
    → (if b then r else Err fault) ≡ Ok x
    → (b ≡ true) × (r ≡ Ok x)
if_ok true r fault x e = (refl, e)
if_ok false r fault x e = cc

-- what isn't there
pub not_there : {A : Type 0} (o : Option A) → ((x : A) → o ≡ Some x → ⊥) → o ≡ None
not_there None other = refl
not_there (Some x) other = absurd (other x refl)

pub same_pair : {A B : Type 0} (x y : A) (r s : B)
    → ◌≡◌ {A = A × B} (x, r) (y, s)
    → (x ≡ y) × (r ≡ s)
same_pair {A} {B} x y r s e = (ap (λ (t : A × B). t.0) e, ap (λ (t : A × B). t.1) e)

-- ---- sizes

so_many-size :
    (take : List ℕ → BeginsWith ℕ) (is_end : List ℕ → Bool) (count : ℕ) (text numbers : List ℕ)
    → take_count take is_end count text ≡ Some numbers
    → length numbers ≡ count
so_many-size take is_end zero text numbers e = grind arith
so_many-size take is_end (suc count) text numbers e = grind (arith, so_many-size take is_end count)

pub numbers_size : (encoding : Encoding) (maxval count : ℕ) (text numbers : List ℕ)
    → numbers_in encoding maxval count text ≡ Some numbers
    → length numbers ≡ count
numbers_size Plain maxval count text numbers e = so_many-size take_next ends count text numbers e
numbers_size Raw maxval count text numbers e =
    so_many-size (take_raw maxval) nothing_left count text numbers e

pub samples_of : (maxval : ℕ) (o : Option (List ℕ)) (samples : List ℤ)
    → samples_up_to maxval o ≡ Ok samples
    → (numbers : List ℕ)
    × (o ≡ Some numbers)
    × (all_up_to maxval numbers ≡ true)
    × (samples ≡ map pos numbers)
samples_of maxval None samples e = cc
samples_of maxval (Some numbers) samples e =
    let (below, same) =
    if_ok (all_up_to maxval numbers) (Ok (map pos numbers)) InvalidValue samples e in
    (numbers, refl, below, cc (same))
