-- Resolution of the open sizes and formats of the images that a graph's nodes write. OpenVX 1.3,
-- "Object: Image", vxCreateVirtualImage.
use Rattle.std.specs.Prelude.{Option, Some, None, List, length}
use Rattle.std.specs.Option.{option_map}
use Rattle.vx_base.specs.declared.function.Function.{Function}
use Rattle.vx_base.specs.declared.node.Node.{Node}
use Rattle.vx_base.specs.Reference.{Reference}
use Rattle.vx_base.specs.Formats.{open_format}
use Rattle.vx_base.specs.Description.{Description}
use Rattle.vx_base.specs.PartialDescription.{PartialDescription, partial_desc_of, with_defaults, full_description}
use Rattle.graph_verify.specs.declared.operand.Operand.{Operand}
use Rattle.graph_verify.specs.declared.operand.Operand.TheVariants.{Image, Virtual}
use Rattle.graph_verify.specs.Links.{writes}
use Rattle.graph_verify.specs.Rounds.{rounds}

-- a description with all parts open
abbrev pub all_unknown : PartialDescription
all_unknown = record { width = None; height = None; format = None }

-- an operand's partial description: an image's full description, or a virtual image's declared
-- description; for any other operand, all parts are open
abbrev pub operand_partial_desc : Operand → PartialDescription
operand_partial_desc (Image d) = partial_desc_of d
operand_partial_desc (Virtual declared) = declared
operand_partial_desc other = all_unknown

-- the description that a function gives its output image: the size of the first input, and the
-- function's default format for that input
abbrev pub given_partial_desc : Function → PartialDescription → PartialDescription
given_partial_desc function first = record {
  width = first.width;
  height = first.height;
  format = option_map (open_format function) first.format;
}

-- the description of an output: the declared parts, with open parts filled in by the node that
-- writes the output
abbrev pub written_partial_desc : (Reference → Operand)
    → Node
    → (Reference → PartialDescription)
    → Reference
    → PartialDescription
written_partial_desc is n known cell =
    with_defaults (operand_partial_desc (is cell)) (given_partial_desc n.function (known n.in1))

-- the description of each image after as many rounds as there are nodes, starting from the declared
-- descriptions. In a round, all nodes fill in their outputs simultaneously.
abbrev pub partial_descs : (Reference → Operand) → List Node → Reference → PartialDescription
partial_descs is nodes =
    rounds writes (written_partial_desc is) nodes (length nodes)
    (λ cell. operand_partial_desc (is cell))

-- an image with the full description, if one is given; otherwise a virtual image with the partial
-- description
abbrev pub virtual_or_image : PartialDescription → Option Description → Operand
virtual_or_image known None = Virtual known
virtual_or_image known (Some d) = Image d

-- a resolved operand: a virtual image gets this description, and becomes an image if no part of the
-- description is open; other operands don't change
abbrev pub as_known : Operand → PartialDescription → Operand
as_known (Virtual declared) known = virtual_or_image known (full_description known)
as_known other known = other

-- each operand, with virtual images resolved
abbrev pub resolved_operand : (Reference → Operand) → List Node → Reference → Operand
resolved_operand is nodes cell = as_known (is cell) (partial_descs is nodes cell)
