-- The parts of a context's objects that no write and no run changes.
use Rattle.std.specs.Prelude.{◌≡◌, List, map, All}
use Rattle.vx_base.specs.declared.node.Node.{Node}
use Rattle.vx_base.specs.Object.{ObjectValue, IsObject}
use Rattle.object_table.specs.NamedObject.{NamedObject}
use Rattle.object_table.specs.Skeleton.{skeleton}
use Rattle.object_table.specs.Uses.{nodes_in}

-- the part of an object that no write and no run changes: its skeleton and, if it is a graph, its
-- nodes
abbrev pub lasting_part : ObjectValue → ObjectValue × List Node
lasting_part object = (skeleton object, nodes_in object)

-- the part of a named object that no write and no run changes, with the object's name and whether
-- this name is live
abbrev pub lasting_named : NamedObject → NamedObject × List Node
lasting_named o = (record o { object = skeleton o.object }, nodes_in o.object)

-- the new objects are well-formed, and their lasting parts are as before
pub record Lasts (old new : List NamedObject) : Type 0 where
  pub objects : All (λ o. IsObject o.object) new
  pub lasting : map lasting_named new ≡ map lasting_named old
