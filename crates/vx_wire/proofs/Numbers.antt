-- What a look-up finds.
use Rattle.std.proofs.Common.{◌≡◌, ℕ, ◌==◌, Bool, true, false, cond, List, [], ◌∷◌, Some, IsTrue, refl, subst, All, eqb-true}
use Rattle.vx_wire.proofs.Common.{All-head, All-tail, with_number}
use Rattle.std.specs.List.{find}

-- it passes the test
pub found_passes : {A : Type 0} (p : A → Bool) (all : List A) (x : A)
    → find p all ≡ Some x
    → IsTrue (p x)
found_passes p [] x e = cc
found_passes {A} p (y ∷ all) x e = known (p y) refl e (found_passes p all x)
  where
    known : (b : Bool)
        → p y ≡ b
        → cond b (Some y) (find p all) ≡ Some x
        → (find p all ≡ Some x → IsTrue (p x))
        → IsTrue (p x)
    known true is e later = let same : y ≡ x = cc in subst (λ z. IsTrue (p z)) same is
    known false is e later = later e

-- and is one of those that were looked at
pub found_each : {A : Type 0} (p : A → Bool) (P : A → Type 0) (all : List A) (x : A)
    → All P all
    → find p all ≡ Some x
    → P x
found_each p P [] x each e = cc
found_each {A} p P (y ∷ all) x each e = known (p y) e (found_each p P all x (All-tail P y all each))
  where
    known : (b : Bool) → cond b (Some y) (find p all) ≡ Some x → (find p all ≡ Some x → P x) → P x
    known true e later = let same : y ≡ x = cc in subst P same (All-head P y all each)
    known false e later = later e

-- a value that is found by a number has that number
pub number_is : {A : Type 0} (number : A → ℕ) (all : List A) (n : ℕ) (x : A)
    → with_number number all n ≡ Some x
    → n ≡ number x
number_is number all n x e = eqb-true n (number x) (found_passes (λ y. n == number y) all x e)
