-- Runs of graphs. OpenVX 1.3, "Graphs", vxProcessGraph.
use Rattle.std.specs.Prelude.{ℕ, zero, suc, Bool, true, false, if◌then◌else◌, List, [], ◌∷◌, length, map, None}
use Rattle.std.specs.List.{flat_map}
use Rattle.vx_base.specs.declared.node.Node.{Node}
use Rattle.vx_base.specs.Reference.{Reference}
use Rattle.vx_base.specs.Image.{new_image}
use Rattle.vx_base.specs.Object.{ObjectValue, ImageObject, VirtualObject}
use Rattle.vx_base.specs.Outputs.{written_from, written_by}
use Rattle.object_table.specs.NamedObject.{NamedObject, object_at, with_written}
use Rattle.graph_verify.specs.declared.operand.Operand.{Operand}
use Rattle.graph_verify.specs.declared.operand.Operand.TheVariants.{Image}
use Rattle.graph_verify.specs.Links.{is_written}

-- one round: all nodes write at the same time, from the objects before the round; accumulating
-- nodes add to the objects as they were at the start of the run
abbrev pub round_of_nodes : List Node → List NamedObject → List NamedObject → List NamedObject
round_of_nodes nodes start objects =
    with_written objects
    (flat_map (λ n. written_from (object_at start) n (object_at objects)) nodes)

-- the objects after k rounds
abbrev pub rounds_of_nodes : List Node → ℕ → List NamedObject → List NamedObject
rounds_of_nodes nodes zero objects = objects
rounds_of_nodes nodes (suc k) objects =
    round_of_nodes nodes objects (rounds_of_nodes nodes k objects)

-- the value of a virtual image at the start of a run that writes it: an image of its resolved
-- description, wholly valid and 0 everywhere. Any other object keeps its value, as does a virtual
-- image whose resolved description has an open part.
abbrev pub object_at_start : ObjectValue → Operand → ObjectValue
object_at_start (VirtualObject image) (Image d) = ImageObject (new_image d.width d.height d.format)
object_at_start object operand = object

-- an object as it is at the start of a run
abbrev pub named_at_start : (Reference → Operand) → List Node → NamedObject → NamedObject
named_at_start is nodes o =
    let cell : Reference = record { name = o.name; slot = None } in
    if is_written nodes cell then record o { object = object_at_start o.object (is cell) } else o

-- whether an object is a virtual image. After a run the virtual images are as they were before it.
abbrev pub is_virtual_object : ObjectValue → Bool
is_virtual_object (VirtualObject image) = true
is_virtual_object other = false

-- the objects after a run, with the virtual images as they were before it
abbrev pub objects_at_end : List NamedObject → List NamedObject → List NamedObject
objects_at_end (o ∷ before) (p ∷ after) =
    (if is_virtual_object o.object then o else p) ∷ objects_at_end before after
objects_at_end before after = after

-- the objects after a run of a graph whose references resolve to these operands; the run has one
-- round for each node
abbrev pub run_of_graph : (Reference → Operand) → List Node → List NamedObject → List NamedObject
run_of_graph is nodes objects =
    objects_at_end objects
    (rounds_of_nodes nodes (length nodes) (map (named_at_start is nodes) objects))

-- the objects after all nodes have run in order, each once
abbrev pub one_by_one : List Node → List NamedObject → List NamedObject
one_by_one [] objects = objects
one_by_one (n ∷ nodes) objects =
    one_by_one nodes (with_written objects (written_by n (object_at objects)))
