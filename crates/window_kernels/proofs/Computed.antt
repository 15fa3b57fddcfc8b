-- What computes to the same.
use Rattle.std.proofs.Common.{◌≡◌, refl}

pub computed : {A : Type 0} {a : A} → a ≡ a
computed = refl
