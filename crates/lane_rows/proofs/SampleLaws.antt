-- S16 samples as numbers of 16 bits.
use Rattle.std.proofs.Common.{rules, ◌≡◌, ℕ, ℤ, pos, List, length, map, get_or, All, w16, FitsSigned, to_z, of_z, arith, map-id, take_all}
use Rattle.lane_rows.proofs.Common.{Each1, chunk, IsSample, S16, ints, Each1-from_get_or}
use Rattle.std.proofs.lemmas.List.Elements.{All-get_or}
use Rattle.lane_rows.proofs.ShortLaws.{read_whole}

sample_fits : (z : ℤ) → IsSample S16 z → FitsSigned w16 z
sample_fits z s =
    let low = s.at_least in
    let high = s.at_most in
    first_of (search (rules, ints), grind (arith, ints, low, high))

pub samples_fit : (zs : List ℤ) → All (IsSample S16) zs → Each1 (FitsSigned w16) zs
samples_fit zs all =
    Each1-from_get_or (FitsSigned w16) zs (pos 0)
    (λ i room. sample_fits (get_or zs i (pos 0)) (All-get_or (IsSample S16) zs i (pos 0) room all))

-- a block of samples is read back from the bits of the vector that is loaded from it
abbrev AreRead : ℕ → Type 0
AreRead n =
    (zs : List ℤ)
    → length zs ≡ n
    → All (IsSample S16) zs
    → (map (to_z w16) (map (of_z w16) (chunk 0 n zs)) ≡ zs)
    × Each1 (FitsSigned w16) (map (to_z w16) (map (of_z w16) (chunk 0 n zs)))

pub sixteen_read : AreRead 16
sixteen_read zs long all = read_whole w16 16 zs long (samples_fit zs all)

pub block_read : AreRead 32
block_read zs long all = read_whole w16 32 zs long (samples_fit zs all)

-- bytes are read as they are
pub bytes_read : (xs : List ℕ) → length xs ≡ 32 → chunk 0 32 xs ≡ xs
bytes_read xs long = take_all 32 xs (omega (arith, long))

pub ruleset samples = (sixteen_read, block_read, bytes_read, map-id)
