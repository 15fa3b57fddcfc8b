-- The reply to ReadDistribution: the number of bins, and the count of each bin.
use Rattle.std.specs.Prelude.{ℕ, List, ◌++◌, length}
use Rattle.std.specs.List.{flat_map}
use Rattle.std.specs.Int.{w16, w32, to_be_bytes}

-- the body of a reply to ReadDistribution: the number of bins as a u16, then the count of each bin
-- as a u32
abbrev pub counts_bytes : List ℕ → List ℕ
counts_bytes counts = to_be_bytes w16 (length counts) ++ flat_map (to_be_bytes w32) counts
