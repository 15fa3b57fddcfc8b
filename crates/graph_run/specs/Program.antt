-- The program of a graph: its tasks over planes, with halos, blocks, tallies, and the tables that
-- its nodes read.
use Rattle.std.specs.Prelude.{ℕ, ◌≡◌, ◌≤◌, ◌⊎◌, true, List, [], ◌∷◌, map, slice_index_or, Option, None, unwrap_or}
use Rattle.std.specs.List.{flat_map}
use Rattle.std.specs.Option.{option_and_then}
use Rattle.vx_base.specs.declared.kind.Kind.{Kind}
use Rattle.vx_base.specs.declared.kind.Kind.TheVariants as kind
use Rattle.vx_base.specs.declared.node.Node.{Node}
use Rattle.vx_base.specs.Function.{parameters}
use Rattle.vx_base.specs.Node.{second_kind}
use Rattle.vx_base.specs.Object.{ObjectValue, new_distribution, no_extremes}
use Rattle.node_rows.specs.Radius.{matrix_in}
use Rattle.object_table.specs.NamedObject.{NamedObject, object_at}
use Rattle.object_table.specs.Object.{distribution_value}
use Rattle.object_table.specs.Table.{cell_object}
use Rattle.graph_steps.specs.declared.step.Step.{Step}
use Rattle.graph_steps.specs.declared.step.Task.{Task}
use Rattle.graph_steps.specs.declared.tally.Tally.{Tally}
use Rattle.graph_steps.specs.declared.tally.Tally.TheVariants as tally
use Rattle.graph_steps.specs.Program.{IsStepOf}
use Rattle.graph_steps.specs.Steps.{reads_output, step_radius}

-- ---- tables

-- the second input, if it is a lookup table, a threshold or a matrix; None for an image, which is
-- read from a plane
abbrev pub table_by : Kind → Option ObjectValue → Option ObjectValue
table_by kind.Image object = None
table_by other object = object

-- the lookup table, threshold or matrix that a node reads, if it reads one
abbrev pub node_table : List NamedObject → Node → Option ObjectValue
node_table objects n = table_by (second_kind n) (option_and_then (object_at objects) n.in2)

-- the lookup table, threshold or matrix that the node at an index reads, if it reads one
abbrev pub tables_of : List NamedObject → List Node → ℕ → Option ObjectValue
tables_of objects nodes k = slice_index_or (map (node_table objects) nodes) k None

-- ---- radii

-- a node's radius: the number of input rows that it reads above an output row, and the same number
-- below; None if its function writes no image
abbrev pub node_radius : List NamedObject → Node → Option ℕ
node_radius objects n =
    step_radius n.function (matrix_in (option_and_then (object_at objects) n.in2))

-- a node's radius in images of at most `high` rows; `high` if the node's function writes no image
abbrev pub radius_of : List NamedObject → ℕ → Node → ℕ
radius_of objects high n = unwrap_or (node_radius objects n) high

-- ---- tallies

-- the empty tally of a node, by the kind of its output; none for an image
abbrev pub tally_by : Kind → ObjectValue → List Tally
tally_by kind.Image object = []
tally_by kind.Distribution object =
    tally.Histogram (new_distribution (distribution_value object).bins) ∷ []
tally_by other object = tally.Extremes no_extremes ∷ []

-- the empty tally of a node, as a list; an empty list if the node writes an image
abbrev pub node_tallies : List NamedObject → Node → List Tally
node_tallies objects n =
    tally_by (parameters n.function).output (cell_object objects (unwrap_or n.out1 n.in1))

-- the empty tallies of nodes, in the order of the nodes
abbrev pub tallies_of : List NamedObject → List Node → List Tally
tallies_of objects nodes = flat_map (node_tallies objects) nodes

-- ---- programs

-- a step that reads its own output writes each row once, to an image of all rows: either the output
-- is a client's image and has no halo, or there is only one band
abbrev pub AddOnce : ℕ → ℕ → List Task → Type 0
AddOnce high size tasks =
    (s : Step)
    → IsStepOf s tasks
    → reads_output s.node.function ≡ true
    → ((s.halo ≡ 0) × (s.describes ≡ None)) ⊎ (high ≤ size)
