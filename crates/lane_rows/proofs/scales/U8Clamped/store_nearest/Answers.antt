use Rattle.std.proofs.Common.{pos, map, ◌∙◌, sym}
use Rattle.lane_rows.proofs.Common.{U8, length-map}
use Rattle.vx_base.specs.Sample.{clamp}
use Rattle.lane_rows.proofs.NarrowLaws.{each_byte, bytes_are}
use Rattle.lane_rows.proofs.StoreLaws.{stored}
use Rattle.lane_rows.proofs.scales.U8Clamped.store_nearest.Goals as goal

pub overflow_cast-out : goal.overflow_cast-out
overflow_cast-out c = each_byte c.args.numbers c.requires.len c.requires.fits

pub returns : goal.returns
returns c =
    stored pos (map (clamp U8) c.args.numbers) c.args.out.now _
    (bytes_are c.args.numbers c.requires.len c.requires.fits)
    (length-map c.args.numbers (clamp U8) ∙ c.requires.len ∙ sym c.requires.out_len)
