-- The virtual images that nodes write, resolved node by node along an order.
use Rattle.std.specs.Prelude.{◌≡◌, List, [], ◌∷◌, ◌++◌, map, All, Option, Some, None, find, unwrap_or}
use Rattle.std.specs.Option.{option_map}
use Rattle.vx_base.specs.declared.node.Node.{Node}
use Rattle.vx_base.specs.Reference.{Reference, same_reference}
use Rattle.vx_base.specs.PartialDescription.{PartialDescription, with_defaults, full_description}
use Rattle.graph_verify.specs.declared.known.ResolvedOutput.{ResolvedOutput}
use Rattle.graph_verify.specs.declared.known.VirtualOutput.{VirtualOutput}
use Rattle.graph_verify.specs.declared.linked.Linked.{Linked}
use Rattle.graph_verify.specs.declared.operand.Operand.{Operand}
use Rattle.graph_verify.specs.declared.operand.Operand.TheVariants.{Virtual}
use Rattle.graph_verify.specs.declared.operand.Operands.{Operands}
use Rattle.graph_verify.specs.PartialDescriptions.{operand_partial_desc, given_partial_desc, partial_descs, as_known}
use Rattle.graph_verify.specs.Verdict.{virtual_outputs}

-- the description of a virtual image in `known`, or None if the image isn't in `known`; parts of
-- the description may still be open
abbrev pub known_of : List ResolvedOutput → Reference → Option PartialDescription
known_of known cell =
    option_map (λ k. k.partial_desc) (find (λ k. same_reference k.cell cell) known)

-- an operand's partial description; for a virtual image, the description in `known`, or the
-- declared one if the image isn't in `known`
abbrev pub known_partial_desc : List ResolvedOutput → Reference → Operand → PartialDescription
known_partial_desc known cell (Virtual declared) = unwrap_or (known_of known cell) declared
known_partial_desc known cell operand = operand_partial_desc operand

-- the output as a list, with open parts filled in from `given`; the list is empty unless the output
-- is a virtual image
abbrev pub resolved_output : Option Reference
    → Option Operand
    → PartialDescription
    → List ResolvedOutput
resolved_output (Some cell) (Some (Virtual declared)) given =
    record { cell = cell; partial_desc = with_defaults declared given } ∷ []
resolved_output cell operand given = []

-- the virtual images that a node writes, resolved from the description of its first input
abbrev pub resolved_by : List ResolvedOutput → Linked → List ResolvedOutput
resolved_by known l =
    resolved_output l.node.out1 l.operands.out1
    (given_partial_desc l.node.function (known_partial_desc known l.node.in1 l.operands.in1))
    ++ resolved_output l.node.out2 l.operands.out2
    (given_partial_desc l.node.function (known_partial_desc known l.node.in1 l.operands.in1))

-- a resolved operand: a virtual image without open parts becomes an image
abbrev pub known_operand : List ResolvedOutput → Reference → Operand → Operand
known_operand known cell operand = as_known operand (known_partial_desc known cell operand)

-- a resolved operand, if the operand is given
abbrev pub known_given : List ResolvedOutput → Option Reference → Option Operand → Option Operand
known_given known (Some cell) (Some operand) = Some (known_operand known cell operand)
known_given known cell operand = None

-- the operands of a node, with virtual images resolved
abbrev pub known_operands : List ResolvedOutput → Linked → Operands
known_operands known l =
    record {
      in1 = known_operand known l.node.in1 l.operands.in1;
      in2 = known_given known l.node.in2 l.operands.in2;
      out1 = known_given known l.node.out1 l.operands.out1;
      out2 = known_given known l.node.out2 l.operands.out2;
    }

-- a virtual image with its full description, if no part of the description is open
abbrev pub described_output : ResolvedOutput → Option VirtualOutput
described_output k =
    option_map (λ d. record { cell = k.cell; desc = d }) (full_description k.partial_desc)

-- `known` has the virtual images that the nodes write, in the order of writing, each with its
-- description after all rounds of resolution
pub record AreResolved (is : Reference → Operand) (nodes : List Node)
    (known : List ResolvedOutput) : Type 0 where
  pub cells : map (λ k. k.cell) known ≡ virtual_outputs is nodes
  pub each : All (λ k. k.partial_desc ≡ partial_descs is nodes k.cell) known
