use Rattle.std.proofs.Common.{◌≡◌, ◌*◌, ◌++◌, pos, map, take}
use Rattle.pgm_images.proofs.Common.{description_of, written_header}
use Rattle.pgm_images.proofs.writing.write.Given as goal

abbrev pub invariant-loop-y : goal.invariant-loop-y
invariant-loop-y l =
    map pos l.text.items
    ≡ map pos (written_header (description_of l.image))
    ++ take (l.y * l.image.width) l.image.samples
