-- The results of a run over planes, as objects of the table.
use Rattle.std.specs.Prelude.{List, [], ◌∷◌, length, map, unwrap_or, zip}
use Rattle.std.specs.List.{flat_map}
use Rattle.vx_base.specs.declared.kind.Kind.{Kind}
use Rattle.vx_base.specs.declared.kind.Kind.TheVariants as kind
use Rattle.vx_base.specs.declared.node.Node.{Node}
use Rattle.vx_base.specs.Reference.{Reference}
use Rattle.vx_base.specs.Function.{parameters}
use Rattle.vx_base.specs.Object.{ObjectValue, DistributionObject, ExtremesObject}
use Rattle.object_table.specs.NamedObject.{NamedObject}
use Rattle.graph_verify.specs.PartialDescriptions.{resolved_operand}
use Rattle.graph_steps.specs.declared.tally.Tally.{Tally}
use Rattle.graph_steps.specs.declared.tally.Tally.TheVariants as tally
use Rattle.graph_run.specs.Graph.{named_at_start, rounds_of_nodes}
use Rattle.graph_run.specs.Operands.{operand_held}

-- ---- images

-- the objects at the start of a run
abbrev pub first_objects : List NamedObject → List Node → List NamedObject
first_objects objects nodes =
    map (named_at_start (resolved_operand (operand_held objects) nodes) nodes) objects

-- the objects after the last round of a run, when the virtual images that nodes write still have
-- samples
abbrev pub last_objects : List NamedObject → List Node → List NamedObject
last_objects objects nodes = rounds_of_nodes nodes (length nodes) (first_objects objects nodes)

-- ---- tallies

-- a tally as an object
abbrev pub tally_object : Tally → ObjectValue
tally_object (tally.Histogram d) = DistributionObject d
tally_object (tally.Extremes e) = ExtremesObject e

-- the reference to the object that a node's tally is written to, as a list; empty if the node's
-- output is an image
abbrev pub tally_cell : Kind → Node → List Reference
tally_cell kind.Image n = []
tally_cell other n = unwrap_or n.out1 n.in1 ∷ []

-- references to the objects that the nodes' tallies are written to, in the order of the nodes
abbrev pub tally_cells : List Node → List Reference
tally_cells nodes = flat_map (λ n. tally_cell (parameters n.function).output n) nodes

-- the references, each with its tally as an object
abbrev pub tally_objects : List Reference → List Tally → List (Reference × ObjectValue)
tally_objects cells tallies = zip cells (map tally_object tallies)
