use Rattle.std.proofs.Common.{◌≡◌, pos, map, ap, ◌∙◌, w16, to_z, of_z, get_or, map-id, rules}
use Rattle.lane_rows.proofs.Common.{to_z-of_z, best_of, int_min, int_max, ints}
use Rattle.lane_rows.proofs.ExtentLaws.{least, greatest, row_chosen}
use Rattle.lane_rows.proofs.extent.extent_of_shorts.Goals as goal

pub returns-clause-least : goal.returns-clause-least
returns-clause-least c =
    let row = c.args.row.now in
    let first : to_z w16 (of_z w16 (get_or row 0 (pos 0))) ≡ get_or row 0 (pos 0) =
    search (rules, ints) in
    let cut = c.as_chunks.ensures in
    let lanes = c.extents_of_short_lanes in
    to_z-of_z w16 _ (record { sfits = c.fold_rows.type_inv })
    ∙ c.fold_rows.ensures
    ∙ row_chosen least (λ z. z) row _ _ _ (map (λ z. z) lanes.result.0) 16 _ (pos 0) c.requires
    first cut.front cut.back (simp map-id lanes.ensures.least)
    ∙ ap (best_of int_min) (map-id row)

pub returns-clause-greatest : goal.returns-clause-greatest
returns-clause-greatest c =
    let row = c.args.row.now in
    let first : to_z w16 (of_z w16 (get_or row 0 (pos 0))) ≡ get_or row 0 (pos 0) =
    search (rules, ints) in
    let cut = c.as_chunks.ensures in
    let lanes = c.extents_of_short_lanes in
    to_z-of_z w16 _ (record { sfits = c.fold_rows-2.type_inv })
    ∙ c.fold_rows-2.ensures
    ∙ row_chosen greatest (λ z. z) row _ _ _ (map (λ z. z) lanes.result.1) 16 _ (pos 0)
    c.requires first cut.front cut.back (simp map-id lanes.ensures.greatest)
    ∙ ap (best_of int_max) (map-id row)
