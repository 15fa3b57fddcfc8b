use Rattle.std.proofs.Common.{map, ap, ◌∙◌, sym, w16, w32, map-id}
use Rattle.lane_rows.proofs.Common.{S16, Saturate, narrow, length-map}
use Rattle.lane_rows.proofs.ShortLaws.{of_bits, bits_back}
use Rattle.lane_rows.proofs.NarrowLaws.{narrow_fits}
use Rattle.lane_rows.proofs.StoreLaws.{stored}
use Rattle.lane_rows.proofs.scales.I16Clamped.store_nearest.Goals as goal

pub returns : goal.returns
returns c =
    let ns = c.args.numbers in
    let f = narrow S16 Saturate in
    stored (λ z. z) (map f ns) c.args.out.now _
    (map-id _ ∙ bits_back w16 c.clamped.result (map f ns)
    (c.clamped.ensures ∙ ap (map f) (of_bits w32 ns c.requires.fits))
    (narrow_fits Saturate ns c.requires.fits))
    (length-map ns f ∙ c.requires.len ∙ sym c.requires.out_len)
