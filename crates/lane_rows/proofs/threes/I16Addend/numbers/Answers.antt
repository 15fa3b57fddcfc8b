use Rattle.std.proofs.Common.{◌∙◌, map, pos, ap, w16, of_z, sym, subst, map-id}
use Rattle.lane_rows.proofs.Common.{range_with_len, Each1}
use Rattle.lane_rows.specs.Threes.{AreUpTo, number_at}
use Rattle.std.proofs.Math.Dec.{T}
use mir.Val.{Fits, to_z}
use lib.IntN.{nat_abs}
use lib.Signed.{non_neg}
use Rattle.lane_rows.proofs.RunLaws.{loaded_is}
use Rattle.lane_rows.proofs.ThreeLaws.{can_all, shorts_loaded}
use Rattle.lane_rows.proofs.threes.I16Addend.numbers.Goals as goal

pub overflow_cast-result : goal.overflow_cast-result
overflow_cast-result c =
    let row = c.args.row.now in
    subst
    (λ l. Each1 (λ b. T (non_neg (to_z w16 b)) × Fits w16 (nat_abs (to_z w16 b)))
    (map (of_z w16) l))
    (sym (loaded_is 32 row c.args.index (pos 0) c.requires.room))
    (can_all row (subst (AreUpTo 8191) (map-id row) c.requires.limit)
    (range_with_len c.args.index 32))

pub returns : goal.returns
returns c =
    let row = c.args.row.now in
    let ks = range_with_len c.args.index 32 in
    ap (λ l. map pos (map (λ b. nat_abs (to_z w16 b)) (map (of_z w16) l)))
    (loaded_is 32 row c.args.index (pos 0) c.requires.room)
    ∙ shorts_loaded row (subst (AreUpTo 8191) (map-id row) c.requires.limit) ks
    ∙ ap (λ l. map (number_at l) ks) (sym (map-id row))
