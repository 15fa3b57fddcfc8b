use Rattle.std.proofs.Common.{map, pos, ◌∙◌, sym}
use Rattle.lane_rows.proofs.Common.{length-map}
use Rattle.lane_rows.proofs.StoreLaws.{stored}
use Rattle.lane_rows.proofs.stores.store_sixteen.Goals as goal

pub returns : goal.returns
returns g c =
    let f = g.K.OfItem.formula c.args.kernel.now in
    let row = c.args.row.now in
    stored pos (map f (map pos row)) c.args.out.now c.map_items.new.out c.map_items.ensures
    (length-map (map pos row) f ∙ length-map row pos ∙ c.requires.row_len ∙ sym c.requires.out_len)
