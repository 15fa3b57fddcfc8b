-- Blocks that are stored, each whole or in halves.
use Rattle.std.proofs.Common.{◌≡◌, ℕ, ℤ, pos, ◌+◌, ◌≤◌, List, ◌++◌, length, map, take, drop, refl, ap, ◌∙◌, sym, arith, take_all, length-drop, take-append-drop, w16, FitsSigned, of_z, to_z}
use Rattle.lane_rows.proofs.Common.{chunk, pick_l, Each1, range_with_len, length-map, length-chunk, put_chunk_whole}
use Rattle.std.specs.Simd.Lanes.{put_chunk}
use Rattle.std.proofs.lemmas.Simd.{pick_l_left, pick_l-range_with_len, Each1-chunk}
use Rattle.std.proofs.Math.Dec.{T}
use lib.Lanes.{all_below}
use Rattle.lane_rows.proofs.BitLaws.{picked}
use Rattle.lane_rows.proofs.ShortLaws.{of_bits}

pub stored : {T : Type 0} (value : T → ℤ) (zs : List ℤ) (out ws : List T)
    → map value ws ≡ zs
    → length zs ≡ length out
    → map value (put_chunk 0 out ws) ≡ zs
stored value zs out ws is long =
    ap (map value) (put_chunk_whole out ws (sym (sym (length-map ws value) ∙ ap length is ∙ long)))
    ∙ is

-- ---- in halves

-- n lanes from lane a on
pub part_is : {X : Type 0} (d : X) (xs : List X) (m a n : ℕ)
    → length xs ≡ m
    → a + n ≤ m
    → T (all_below m (range_with_len a n))
    → pick_l d (xs ++ xs) (range_with_len a n) ≡ chunk a n xs
part_is d xs m a n long room below =
    pick_l_left d xs xs m (range_with_len a n) long below
    ∙ pick_l-range_with_len d xs a n (omega (arith, long, room))

pub shorts_part : (xs : List ℤ) (m a n : ℕ)
    → Each1 (FitsSigned w16) xs
    → length xs ≡ m
    → a + n ≤ m
    → T (all_below m (range_with_len a n))
    → map (to_z w16) (pick_l 0 (map (of_z w16) xs ++ map (of_z w16) xs) (range_with_len a n))
    ≡ chunk a n xs
shorts_part xs m a n fits long room below =
    ap (map (to_z w16))
    (picked w16 xs xs (range_with_len a n) refl
    ∙ ap (map (of_z w16)) (part_is (pos 0) xs m a n long room below))
    ∙ of_bits w16 (chunk a n xs) (Each1-chunk (FitsSigned w16) a n xs fits)

pub halves_joined : {X : Type 0} (xs : List X) (n : ℕ)
    → length xs ≡ n + n
    → chunk 0 n xs ++ chunk n n xs ≡ xs
halves_joined xs n long =
    ap (λ l. take n xs ++ l) (take_all n (drop n xs) (omega (arith, length-drop n xs, long)))
    ∙ take-append-drop n xs

pub halves_stored : {X : Type 0} (xs us vs out rest : List X) (n : ℕ)
    → length xs ≡ n + n
    → us ≡ chunk 0 n xs
    → vs ≡ chunk n n xs
    → length out ≡ n
    → length rest ≡ n
    → put_chunk 0 out us ++ put_chunk 0 rest vs ≡ xs
halves_stored xs us vs out rest n long first second room more =
    let left : length us ≡ n = ap length first ∙ length-chunk 0 n xs (omega (arith, long)) in
    let right : length vs ≡ n = ap length second ∙ length-chunk n n xs (omega (arith, long)) in
    rw (
      put_chunk_whole out us (room ∙ sym left),
      put_chunk_whole rest vs (more ∙ sym right),
      first,
      second,
    ) (halves_joined xs n long)
