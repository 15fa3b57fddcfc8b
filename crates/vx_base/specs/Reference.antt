-- References to objects, by which nodes name their operands.
use Rattle.std.specs.Prelude.{ℕ, ◌==◌, ◌<◌, ◌^◌, Bool, true, false, ◌&&◌, Option, Some, None, IfSome}

-- a reference to the object with this name, or to a slot of the delay with this name. Slot 0 has
-- the newest image, slot 1 (OpenVX's slot -1) the image before it, and so on.
pub record Reference : Type 0 where
  pub name : ℕ
  pub slot : Option ℕ

-- the reference to a whole object
abbrev pub reference_to : ℕ → Reference
reference_to name = record { name = name; slot = None }

-- whether the slots of two references are equal; None means that a reference has no slot
abbrev pub same_slot : Option ℕ → Option ℕ → Bool
same_slot None None = true
same_slot (Some j) (Some k) = j == k
same_slot j k = false

-- whether two references are equal
abbrev pub same_reference : Reference → Reference → Bool
same_reference a b = (a.name == b.name) && same_slot a.slot b.slot

-- a reference whose name has 32 bits and whose slot, if it has one, is below 255
pub record IsReference (cell : Reference) : Type 0 where
  pub name : cell.name < 2 ^ 32
  pub slot : IfSome cell.slot (λ k. k < 255)
