use Rattle.std.proofs.Common.{◌≡◌, ◌+◌, length}
use Rattle.object_table.proofs.Common.{into_iter_items, Format, lent_of, delay_blocks, into_iter_len}
use Rattle.object_table.proofs.delay.end_images.Given as goal

abbrev pub invariant-loop-image : goal.invariant-loop-image
invariant-loop-image l = record {
  size : into_iter_len l.image-iterator ≡ length (into_iter_items l.image-iterator);
  gives : (format : Format)
      → lent_of l.pool format + delay_blocks l.fn.images.items format
      ≡ lent_of l.fn.pool format + delay_blocks (into_iter_items l.image-iterator) format;
}
