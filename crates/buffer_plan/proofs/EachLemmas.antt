-- What holds of each of a list.
use Rattle.std.proofs.Common.{inl, inr, arith, List, [], ◌∷◌, ◌++◌, refl, sym, subst}
use Rattle.buffer_plan.proofs.Common.{In}
use Rattle.std.specs.List.{AllByRecursion}

pub by_recursion-from_In : {X : Type 0} (P : X → Type 0) (xs : List X)
    → ((x : X) → In x xs → P x)
    → AllByRecursion P xs
by_recursion-from_In P [] h = tt
by_recursion-from_In P (x ∷ xs) h = (h x (inl refl), by_recursion-from_In P xs (λ y i. h y (inr i)))

-- and of one more at the end
pub each-push : {X : Type 0} (P : X → Type 0) (xs : List X) (y : X)
    → ((x : X) → In x xs → P x)
    → P y
    → (x : X)
    → In x (xs ++ y ∷ [])
    → P x
each-push P [] y each one x (inl e) = subst P (sym e) one
each-push P [] y each one x (inr none) = absurd none
each-push P (z ∷ xs) y each one x h =
    grind (arith, each-push P xs y (λ w i. each w (inr i)) one x, each x)
