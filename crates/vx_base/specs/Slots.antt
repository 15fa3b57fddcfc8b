-- The number of images in a delay. OpenVX 1.3, "Object: Delay"; the limit is this project's.
use Rattle.std.specs.Prelude.{ℕ, Bool, ◌&&◌, nat_le, if◌then◌else◌, Option, Some, None}
use Rattle.vx_base.specs.declared.slots.TheConstants.{GREATEST_SLOTS}

-- whether a delay may have this number of images
abbrev pub is_slot_count : ℕ → Bool
is_slot_count n = nat_le 1 n && nat_le n GREATEST_SLOTS

-- the number of slots, if a delay may have this number
abbrev pub slot_count : ℕ → Option ℕ
slot_count n = if is_slot_count n then Some n else None
