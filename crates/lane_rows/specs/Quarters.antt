-- Sixteen items with two quarters exchanged.
use Rattle.std.specs.Prelude.{List, ◌++◌}
use Rattle.std.specs.Simd.Lanes.{chunk}

-- the sixteen items with the second and third quarters exchanged
abbrev pub swap_quarters : {A : Type 0} → List A → List A
swap_quarters xs = chunk 0 4 xs ++ chunk 8 4 xs ++ chunk 4 4 xs ++ chunk 12 4 xs
