use Rattle.std.proofs.Common.{◌≡◌, ◌≤◌, ◌+◌, ◌-◌, length, vec_capacity}
use Rattle.object_table.proofs.Common.{Format, lent_of, delay_blocks, new_delay}
use Rattle.object_table.proofs.delay.new_images.Given as goal

abbrev pub invariant-loop-desc : goal.invariant-loop-desc
invariant-loop-desc l = record {
  capacity : l.count ≤ vec_capacity l.images;
  within : length l.images.items ≤ l.count;
  new : l.images.items ≡ new_delay l.desc (length l.images.items);
  lends : (format : Format)
      → lent_of l.pool format ≡ lent_of l.fn.pool format + delay_blocks l.images.items format;
}

abbrev pub decreases-loop-desc : goal.decreases-loop-desc
decreases-loop-desc l = l.count - length l.images.items
