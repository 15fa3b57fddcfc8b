-- References to the images of a graph: first the virtual images that its nodes write, then the
-- client's images that the nodes read or write.
use Rattle.std.specs.Prelude.{ℕ, ◌+◌, List, [], ◌∷◌, ◌++◌, map, Option, if◌then◌else◌}
use Rattle.std.specs.List.{list_any, flat_map}
use Rattle.vx_base.specs.declared.kind.Kind.{Kind}
use Rattle.vx_base.specs.declared.kind.Kind.TheVariants as kind
use Rattle.vx_base.specs.declared.node.Node.{Node}
use Rattle.vx_base.specs.Reference.{Reference, same_reference}
use Rattle.vx_base.specs.Function.{parameters}
use Rattle.vx_base.specs.Node.{optional_cells, second_kind}
use Rattle.graph_verify.specs.declared.verified.Verified.{Verified}

-- the reference of an operand, as a list; empty unless the operand is given and is an image
abbrev pub image_given : Kind → Option Reference → List Reference
image_given kind.Image cell = optional_cells cell
image_given other cell = []

-- references to the images that a node reads or writes
abbrev pub node_images : Node → List Reference
node_images n =
    n.in1 ∷ (image_given (second_kind n) n.in2
    ++
    (image_given (parameters n.function).output n.out1
    ++ image_given (parameters n.function).output n.out2))

-- references to the images that nodes read or write, in the order of the nodes
abbrev pub images_named : List Node → List Reference
images_named nodes = flat_map node_images nodes

-- the list with this reference appended, unless the list has it already
abbrev pub with_cell : List Reference → Reference → List Reference
with_cell cells c = if list_any (λ d. same_reference d c) cells then cells else cells ++ c ∷ []

-- the list with each of these references appended, unless the list has it already
abbrev pub with_cells : List Reference → List Reference → List Reference
with_cells cells [] = cells
with_cells cells (c ∷ more) = with_cells (with_cell cells c) more

-- references to the virtual images that a verified graph writes
abbrev pub virtual_cells : Verified → List Reference
virtual_cells v = map (λ o. o.cell) v.virtual_outputs

-- references to all images of a verified graph: its virtual images, then the client's images
abbrev pub cells_of : Verified → List Reference
cells_of v = with_cells (virtual_cells v) (images_named v.steps)

-- the first index of a reference, or the length of the list if the reference isn't in it
abbrev pub index_of : List Reference → Reference → ℕ
index_of [] c = 0
index_of (d ∷ cells) c = if same_reference d c then 0 else index_of cells c + 1
