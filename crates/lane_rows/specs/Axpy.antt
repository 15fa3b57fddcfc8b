-- Sums to which products of a coefficient and a byte are added.
use Rattle.std.specs.Prelude.{ℤ, ◌≤◌, ◌+ℤ◌, ◌*ℤ◌, unsigned_abs}

-- a sum that stays within 32 bits when any byte times any S16 number is added. Each such product is
-- between -8,355,840 and 8,355,840
abbrev pub FitsProduct : ℤ → Type 0
FitsProduct sum = unsigned_abs sum ≤ 2139127807

-- the sum plus a coefficient times a byte
abbrev pub with_product : ℤ → ℤ → ℤ → ℤ
with_product k a sum = sum +ℤ k *ℤ a
