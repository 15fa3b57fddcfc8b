-- Rows of bytes.
use Rattle.std.proofs.Common.{ℕ, pos, List, map, get_or, w8, Fits, sym, subst, arith}
use Rattle.std.proofs.lemmas.Int.{ints}
use Rattle.std.proofs.Math.ListN.{get_or-map}
use Rattle.lane_rows.specs.Threes.{IsUpTo, AreUpTo}

-- bytes may be summed in threes
pub bytes_up_to : (row : List ℕ) → ((i : ℕ) → Fits w8 (get_or row i 0)) → AreUpTo 8191 (map pos row)
bytes_up_to row fit i =
    subst (IsUpTo 8191) (sym (get_or-map pos row i 0))
    (let byte = (fit i).fits in (omega (arith, ints), omega (arith, ints, byte)))
