use Rattle.std.proofs.Common.{zero, suc, ◌≡◌, ◌≤◌, ◌*◌, ◌<◌, ◌^◌, ◌<ℤ◌, ◌+ℤ◌, ◌*ℤ◌, ℕ, ℤ, pos, negsuc, ◌/◌, arith, pow_pos}
use Rattle.vx_base.proofs.Common.{int_div_euclid, ints}
use Rattle.vx_base.proofs.laws.pixels.conversions_round_down.Goals as goal

-- a quotient below zero, and one more
negative : (q m a : ℕ) → q * m ≤ a → negsuc a <ℤ ((negsuc q +ℤ pos 1) *ℤ pos m)
negative zero m a h = omega (arith, ints)
negative (suc q) m a h =
    let e : negsuc (suc q) +ℤ pos 1 ≡ negsuc q = omega (arith, ints) in
    rw e (omega (arith, ints, h))

-- one more than the quotient is too much
nearest : (a : ℤ) (m : ℕ) → 0 < m → a <ℤ ((int_div_euclid a (pos m) +ℤ pos 1) *ℤ pos m)
nearest (pos a) m h = omega (arith, ints)
nearest (negsuc a) m h = negative (a / m) m a (omega arith)

pub returns-clause-nearest : goal.returns-clause-nearest
returns-clause-nearest c a n = nearest a (2 ^ n) (pow_pos n)
