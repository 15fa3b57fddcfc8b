use Rattle.std.proofs.Common.{◌≡◌, pos, map, length, ap, ◌∙◌, sym, w16, of_z, map-id}
use Rattle.lane_rows.proofs.Common.{U8}
use Rattle.vx_base.specs.Pixelwise.{depth_conversion}
use Rattle.lane_rows.proofs.DepthLaws.{lefts_fit, nearest_fit, lefts_are, nearest_are}
use Rattle.lane_rows.proofs.depths.NarrowedLanesOfItemI16U8.lanes.Goals.{in-Wrap, in-Saturate}
use Rattle.lane_rows.proofs.depths.NarrowedLanesOfItemI16U8.lanes.Goals as goal

pub overflow_cast-bytes : goal.overflow_cast-bytes
overflow_cast-bytes g c =
    lefts_fit (of_z w16 c.from.result) c.args.self.now.amount c.shorts_of.result
    (ap (of_z w16) c.from.ensures) (ap length c.shorts_of.ensures.value ∙ c.requires.row_len)
    c.shorts_of.ensures.fits

pub overflow_cast-bytes-in-Saturate : goal.overflow_cast-bytes-in-Saturate
overflow_cast-bytes-in-Saturate g c =
    nearest_fit (of_z w16 c.from.result) c.args.self.now.amount c.shorts_of.result
    (ap (of_z w16) c.from.ensures) (ap length c.shorts_of.ensures.value ∙ c.requires.row_len)
    c.shorts_of.ensures.fits

pub returns : goal.returns
returns g c =
    let k = c.args.self.now.amount in
    let row = c.shorts_of.result in
    let long = ap length c.shorts_of.ensures.value ∙ c.requires.row_len in
    let made : map pos c.match-policy.bytes ≡ map (depth_conversion U8 c.policy.result k) row =
    elim c.match-policy.branch [
      | in-Wrap w ↦
          rw (w.bytes-is, w.in-Wrap.is)
          (lefts_are (of_z w16 c.from.result) k row (ap (of_z w16) c.from.ensures) long
          c.shorts_of.ensures.fits)
      | in-Saturate w ↦
          rw (w.bytes-is, w.in-Saturate.is)
          (nearest_are (of_z w16 c.from.result) k row (ap (of_z w16) c.from.ensures) long
          c.shorts_of.ensures.fits)
    ] in
    ap (map pos) c.store_32_bytes.ensures ∙ made
    ∙ ap (λ p. map (depth_conversion U8 p k) row) c.policy.ensures
    ∙ ap (map (depth_conversion U8 (g.P.Overflow.policy c.args.self.now.overflow) k))
    (c.shorts_of.ensures.value ∙ sym (map-id c.args.row.now))
