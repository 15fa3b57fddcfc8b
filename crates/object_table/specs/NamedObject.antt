-- Objects by name.
use Rattle.std.specs.Prelude.{ℕ, ◌==◌, Bool, if◌then◌else◌, List, [], ◌∷◌, find, Option}
use Rattle.std.specs.Option.{option_map, option_and_then}
use Rattle.vx_base.specs.Reference.{Reference}
use Rattle.vx_base.specs.Object.{ObjectValue}
use Rattle.object_table.specs.Delay.{in_slot, with_slot}

-- an object, its name, and whether the name is live
pub record NamedObject : Type 0 where
  pub name : ℕ
  pub live : Bool
  pub object : ObjectValue

-- the object that is held under this name, whether the name is live or not
abbrev pub object_held : List NamedObject → ℕ → Option ObjectValue
object_held objects name = option_map (λ o. o.object) (find (λ o. o.name == name) objects)

-- the object that a reference names: a whole object, or an image in a slot of a delay
abbrev pub object_at : List NamedObject → Reference → Option ObjectValue
object_at objects cell = option_and_then (in_slot cell.slot) (object_held objects cell.name)

-- the objects after a write, which replaces what the reference names: a whole object, or an image
-- in a slot of a delay
abbrev pub with_object : List NamedObject → Reference → ObjectValue → List NamedObject
with_object [] cell object = []
with_object (o ∷ objects) cell object =
    (if o.name == cell.name then record o { object = with_slot cell.slot object o.object } else o)
    ∷ with_object objects cell object

-- the objects after several writes, in order
abbrev pub with_written : List NamedObject → List (Reference × ObjectValue) → List NamedObject
with_written objects [] = objects
with_written objects (w ∷ written) = with_written (with_object objects w.0 w.1) written
