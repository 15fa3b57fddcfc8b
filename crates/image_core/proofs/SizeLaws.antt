-- Images of the same size.
use Rattle.std.proofs.Common.{◌≡◌, arith}
use Rattle.image_core.proofs.Common.{HaveSameSize, ImageValue, nat_tests}

-- their sides are equal
pub same_sides : (a b : ImageValue) → HaveSameSize a b → (a.width ≡ b.width) × (a.height ≡ b.height)
same_sides a b same = (grind (arith, nat_tests), grind (arith, nat_tests))
