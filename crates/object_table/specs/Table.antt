-- The objects of a client in a map by name.
use Rattle.std.specs.Prelude.{ℕ, ◌≡◌, ◌<◌, ◌≤◌, ◌+◌, ◌*◌, ◌-◌, ◌==◌, Bool, false, ◌||◌, nat_lt, if◌then◌else◌, IsTrue, Some, List, [], length, map, filter, All, unwrap_or}
use Rattle.std.specs.List.Sorted.{IsStrictlyIncreasing}
use Rattle.std.specs.Option.{option_map}
use Rattle.std.specs.Ordering.{nat_cmp}
use Rattle.std.specs.Map.{lookup}
use Rattle.std.specs.BTreeMap.{is_at}
use Rattle.vx_base.specs.declared.format.Format.TheVariants.{U8}
use Rattle.vx_base.specs.declared.kind.Kind.{Kind}
use Rattle.vx_base.specs.declared.kind.Kind.TheVariants as kind
use Rattle.vx_base.specs.declared.node.Node.{Node}
use Rattle.vx_base.specs.Reference.{Reference}
use Rattle.vx_base.specs.Graph.{GraphValue}
use Rattle.vx_base.specs.Image.{ImageValue, new_image}
use Rattle.vx_base.specs.Object.{ObjectValue, ImageObject, object_bytes, object_kind}
use Rattle.object_table.specs.declared.table.Entry.{Entry}
use Rattle.object_table.specs.Context.{charge_of}
use Rattle.object_table.specs.NamedObject.{NamedObject, object_held, object_at}
use Rattle.object_table.specs.Object.{image_value, graph_value}
use Rattle.object_table.specs.Uses.{nodes_in, names_used, name_count}
use Rattle.vx_base.specs.declared.desc.TheConstants.{GREATEST_BYTES}
use Rattle.vx_base.specs.declared.slots.TheConstants.{GREATEST_SLOTS}
use Rattle.object_table.specs.declared.table.TheConstants.{GREATEST_OBJECTS}
use Rattle.vx_base.specs.declared.node.TheConstants.{GREATEST_NODES}

-- ---- the objects that names and references denote

-- the object held under a name; an image without pixels if there is none
abbrev pub object_under : List NamedObject → ℕ → ObjectValue
object_under objects name = unwrap_or (object_held objects name) (ImageObject (new_image 0 0 U8))

-- an object of this kind is held under the name
abbrev pub IsUnder : List NamedObject → Kind → ℕ → Type 0
IsUnder objects wanted name = option_map object_kind (object_held objects name) ≡ Some wanted

-- the graph that is held under a name; a graph without nodes if there is none
abbrev pub graph_under : List NamedObject → ℕ → GraphValue
graph_under objects name = graph_value (object_under objects name)

-- the object that a reference names; an image without pixels if there is none
abbrev pub cell_object : List NamedObject → Reference → ObjectValue
cell_object objects cell = unwrap_or (object_at objects cell) (ImageObject (new_image 0 0 U8))

-- the image that a reference names; an image without pixels if the reference names no image
abbrev pub image_held : List NamedObject → Reference → ImageValue
image_held objects cell = image_value (cell_object objects cell)

-- a reference names an image
abbrev pub HoldsImage : List NamedObject → Reference → Type 0
HoldsImage objects cell = option_map object_kind (object_at objects cell) ≡ Some kind.Image

-- ---- entries

-- an entry of the map as a named object
abbrev pub entry_object : ℕ × Entry → NamedObject
entry_object e = record { name = e.0; live = e.1.live; object = e.1.object }

-- the nodes of the graph under a name; none if there is no such graph
abbrev pub nodes_at : ℕ → List (ℕ × Entry) → List Node
nodes_at name entries =
    unwrap_or (option_map (λ e. nodes_in e.object) (lookup (is_at (nat_cmp name)) entries)) []

-- the entries, each with its use count raised by the number of occurrences of its name in a list
abbrev pub used_more : List ℕ → List (ℕ × Entry) → List (ℕ × Entry)
used_more names entries =
    map {A = ℕ × Entry} {B = ℕ × Entry}
    (λ e. let n : Entry = e.1 in (e.0, record n { uses = n.uses + name_count e.0 names }))
    entries

-- the entries, each with its use count lowered by the number of occurrences of its name in a list,
-- but not below 0
abbrev pub used_less : List ℕ → List (ℕ × Entry) → List (ℕ × Entry)
used_less names entries =
    map {A = ℕ × Entry} {B = ℕ × Entry}
    (λ e. let n : Entry = e.1 in (e.0, record n { uses = n.uses - name_count e.0 names }))
    entries

-- the entries, with this name no longer live
abbrev pub entries_without_name : ℕ → List (ℕ × Entry) → List (ℕ × Entry)
entries_without_name name entries =
    map {A = ℕ × Entry} {B = ℕ × Entry}
    (λ e. let n : Entry = e.1 in if e.0 == name then (e.0, record n { live = false }) else e)
    entries

-- whether an entry is held: its name is live, or a node uses it
abbrev pub is_kept : ℕ × Entry → Bool
is_kept e = e.1.live || nat_lt 0 e.1.uses

-- the entries that are held
abbrev pub kept_entries : List (ℕ × Entry) → List (ℕ × Entry)
kept_entries entries = filter is_kept entries

-- ---- the invariant of a table

-- The invariant of a table. Names ascend and are below `next`, the next name. `next` is at most
-- 2^32. There are at most 1,024 objects. Each is held, and has a bounded number of bytes and of
-- nodes. The charge and the use counts are exact. Nodes of unreleased graphs use only names below
-- `next`.
pub record IsTable (next charge : ℕ) (entries : List (ℕ × Entry)) : Type 0 where
  pub names : IsStrictlyIncreasing (map (λ e. e.0) entries)
  pub below : All (λ e. e.0 < next) entries
  pub left : next ≤ 4294967296
  pub count : length entries ≤ GREATEST_OBJECTS
  pub each : All (λ e. object_bytes e.1.object ≤ GREATEST_SLOTS * GREATEST_BYTES) entries
  pub nodes : All (λ e. length (nodes_in e.1.object) ≤ GREATEST_NODES) entries
  pub charged : charge ≡ charge_of (map entry_object entries)
  pub uses : All (λ e. e.1.uses ≡ name_count e.0 (names_used (map entry_object entries))) entries
  pub held : All (λ e. IsTrue (is_kept e)) entries
  pub given : All (λ name. name < next) (names_used (map entry_object entries))
