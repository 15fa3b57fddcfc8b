-- Which objects are held. OpenVX 1.3, "Object: Reference": a released object lives on while a graph
-- uses it.
use Rattle.std.specs.Prelude.{ℕ, ◌==◌, Bool, false, ◌&&◌, ◌||◌, if◌then◌else◌, List, map, filter}
use Rattle.std.specs.List.{list_any}
use Rattle.vx_base.specs.declared.numbered.Numbered.{Numbered}
use Rattle.vx_base.specs.Node.{operands}
use Rattle.vx_base.specs.Object.{ObjectValue, GraphObject}
use Rattle.object_table.specs.NamedObject.{NamedObject}

-- whether an operand of a node has this name
abbrev pub names_it : ℕ → Numbered → Bool
names_it name n = list_any (λ operand. operand.0.name == name) (operands n.node)

-- whether an object is a graph with a node that uses this name
abbrev pub uses : ObjectValue → ℕ → Bool
uses (GraphObject g) name = list_any (names_it name) g.nodes
uses other name = false

-- whether a node of an unreleased graph uses this name
abbrev pub is_used : List NamedObject → ℕ → Bool
is_used objects name = list_any (λ o. o.live && uses o.object name) objects

-- whether an object is held: its name is live, or a node of an unreleased graph uses it
abbrev pub is_held : List NamedObject → NamedObject → Bool
is_held objects o = o.live || is_used objects o.name

-- the objects of the list that are held
abbrev pub still_held : List NamedObject → List NamedObject
still_held objects = filter (is_held objects) objects

-- the objects, with this name no longer live
abbrev pub without_name : List NamedObject → ℕ → List NamedObject
without_name objects name =
    map {A = NamedObject} {B = NamedObject}
    (λ o. if o.name == name then record o { live = false } else o) objects
