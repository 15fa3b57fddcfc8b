-- One client's context: OpenVX 1.3, "Object: Context".
use Rattle.std.specs.Prelude.{ℕ, ◌+◌, ◌==◌, true, ◌&&◌, Bool, nat_lt, List, [], ◌∷◌, ◌++◌, length, sum_by, find, Option}
use Rattle.std.specs.Option.{option_map}
use Rattle.vx_base.specs.Reference.{reference_to}
use Rattle.vx_base.specs.Graph.{GraphValue}
use Rattle.vx_base.specs.Object.{ObjectValue, GraphObject, object_bytes}
use Rattle.object_table.specs.NamedObject.{NamedObject, with_object}
use Rattle.object_table.specs.declared.table.TheConstants.{END_OF_NAMES, GREATEST_OBJECTS}

-- a context: the next name, and the objects in the order of their names
pub record Context : Type 0 where
  pub next : ℕ
  pub objects : List NamedObject

-- a new context: no objects, and 1 as the next name
abbrev pub new_context : Context
new_context = record { next = 1; objects = [] }

-- the object of a live name
abbrev pub object_named : List NamedObject → ℕ → Option ObjectValue
object_named objects name =
    option_map (λ o. o.object) (find (λ o. o.live && o.name == name) objects)

-- the bytes that a context is charged for its objects
abbrev pub charge_of : List NamedObject → ℕ
charge_of objects = sum_by (λ o. object_bytes o.object) objects

-- whether one more object can be held: a name is left, and fewer than 1,024 objects are held
abbrev pub can_insert : Context → Bool
can_insert c = nat_lt c.next END_OF_NAMES && nat_lt (length c.objects) GREATEST_OBJECTS

-- the context with one more object, under the next name
abbrev pub with_new : Context → ObjectValue → Context
with_new c object = record {
  next = c.next + 1;
  objects = c.objects ++ record { name = c.next; live = true; object = object } ∷ [];
}

-- the context with these objects
abbrev pub with_objects : Context → List NamedObject → Context
with_objects c objects = record { next = c.next; objects = objects }

-- the objects, with the graph under this name replaced
abbrev pub with_graph : List NamedObject → ℕ → GraphValue → List NamedObject
with_graph objects name graph = with_object objects (reference_to name) (GraphObject graph)
