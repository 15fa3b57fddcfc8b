-- A graph that is a chain of six nodes, and the objects of a table with this graph.
use Rattle.std.specs.Prelude.{ℕ, List, [], ◌∷◌, true, None}
use Rattle.vx_base.specs.declared.function.Function.TheVariants.{Box}
use Rattle.vx_base.specs.declared.node.Node.{Node}
use Rattle.vx_base.specs.declared.partial_desc.PartialDesc.{PartialDesc}
use Rattle.vx_base.specs.declared.policy.Policy.TheVariants.{Wrap}
use Rattle.vx_base.specs.Graph.{GraphValue, new_graph, with_node}
use Rattle.vx_base.specs.Image.{ImageValue}
use Rattle.vx_base.specs.Object.{ObjectValue, ImageObject, GraphObject, VirtualObject}
use Rattle.object_table.specs.NamedObject.{NamedObject}
use Rattle.graph_verify.specs.Examples.{node_to}
use Rattle.graph_run.specs.Lasting.{Lasts}

-- a Box node from one image to another, by their names
abbrev pub box_to : ℕ → ℕ → Node
box_to input output = node_to Box Wrap input None output

-- the graph with one more Box node for each listed pair of images, from the pair's first image to
-- the pair's second
abbrev pub with_boxes : GraphValue → List (ℕ × ℕ) → GraphValue
with_boxes g [] = g
with_boxes g (l ∷ links) = with_boxes (with_node g (box_to l.0 l.1)) links

-- a graph of six Box nodes from image 1 to image 2, through the virtual images 4 to 8
abbrev pub six_boxes : GraphValue
six_boxes = with_boxes new_graph ((1, 4) ∷ (4, 5) ∷ (5, 6) ∷ (6, 7) ∷ (7, 8) ∷ (8, 2) ∷ [])

-- an object under a live name
abbrev pub live : ℕ → ObjectValue → NamedObject
live name object = record { name = name; live = true; object = object }

-- a virtual image of graph 3
abbrev pub chain_image : PartialDesc → ObjectValue
chain_image declared = VirtualObject (record { graph = 3; declared = declared })

-- the objects of a table: two images, a graph, and five virtual images
abbrev pub linked_by : GraphValue → ImageValue → ImageValue → PartialDesc → List NamedObject
linked_by graph a b declared =
    live 1 (ImageObject a)
    ∷ live 2 (ImageObject b)
    ∷ live 3 (GraphObject graph)
    ∷ live 4 (chain_image declared)
    ∷ live 5 (chain_image declared)
    ∷ live 6 (chain_image declared)
    ∷ live 7 (chain_image declared)
    ∷ live 8 (chain_image declared)
    ∷ []

-- the objects are well-formed, and are those of `linked_by six_boxes` except for the parts that a
-- write or a run may change
abbrev pub IsChain : List NamedObject → Type 0
IsChain objects =
    (a : ImageValue)
    × (b : ImageValue)
    × (declared : PartialDesc)
    × Lasts (linked_by six_boxes a b declared) objects
