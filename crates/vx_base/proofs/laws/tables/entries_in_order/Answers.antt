use Rattle.std.proofs.Common.{◌≡◌, ◌<◌, ◌+ℤ◌, ◌-ℤ◌, ℕ, ℤ, pos, IsTrue, arith, unsigned_abs}
use Rattle.vx_base.proofs.Common.{ints, nat_tests, Format, U8, S16, U32, IsSample, min_sample}
use Rattle.vx_base.specs.Lut.{is_full}
use Rattle.vx_base.proofs.laws.tables.entries_in_order.Goals as goal

-- the place of a sample's entry
place : (format : Format) (count : ℕ) (a : ℤ)
    → IsTrue (is_full format count)
    → IsSample format a
    → (k : ℕ) × (k < count) × (a ≡ min_sample format +ℤ pos k)
place U8 count a full s = (
  unsigned_abs (a -ℤ min_sample U8),
  grind (arith, nat_tests, ints),
  omega (arith, ints, s.at_least),
)
place S16 count a full s = (
  unsigned_abs (a -ℤ min_sample S16),
  grind (arith, nat_tests, ints),
  omega (arith, ints, s.at_least),
)
place U32 count a full s = absurd (grind arith)

pub returns-clause-each_sample : goal.returns-clause-each_sample
returns-clause-each_sample c lut a = place lut.format _ a
