use Rattle.vx_requests.proofs.WrittenPieces.{flat_map-bytes}
use Rattle.std.proofs.lemmas.List.Folds.{flat_map-map}
use Rattle.vx_requests.proofs.frame.samples.write_samples.Goals as goal

pub returns-in-U8 : goal.returns-in-U8
returns-in-U8 g c = rw (c.in-U8.is, flat_map-bytes, ← c.as_slice.ensures.value) c.write_all.ensures

pub returns-in-U32 : goal.returns-in-U32
returns-in-U32 g c =
    rw (c.in-U32.is, flat_map-map, ← c.as_slice-in-U32.ensures.value) c.write_wide-in-U32.ensures
