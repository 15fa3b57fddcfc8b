-- How often nodes use each object.
use Rattle.std.specs.Prelude.{ℕ, ◌==◌, if◌then◌else◌, List, [], ◌++◌, map, count_by}
use Rattle.std.specs.List.{flat_map}
use Rattle.vx_base.specs.declared.node.Node.{Node}
use Rattle.vx_base.specs.Graph.{nodes_of}
use Rattle.vx_base.specs.Node.{inputs, outputs}
use Rattle.vx_base.specs.Object.{ObjectValue, GraphObject}
use Rattle.object_table.specs.NamedObject.{NamedObject}

-- the names of a node's operands, one for each operand
abbrev pub used_names : Node → List ℕ
used_names n = map (λ cell. cell.name) (inputs n ++ outputs n)

-- the nodes of a graph; none for an object of another kind
abbrev pub nodes_in : ObjectValue → List Node
nodes_in (GraphObject graph) = nodes_of graph
nodes_in other = []

-- the names that an object's nodes use, each as often as it is used; none unless the object is an
-- unreleased graph
abbrev pub names_used_by : NamedObject → List ℕ
names_used_by o = if o.live then flat_map used_names (nodes_in o.object) else []

-- the names that the nodes of all unreleased graphs use, each as often as it is used
abbrev pub names_used : List NamedObject → List ℕ
names_used objects = flat_map names_used_by objects

-- how often a name occurs in a list
abbrev pub name_count : ℕ → List ℕ → ℕ
name_count name names = count_by (λ other. name == other) names
