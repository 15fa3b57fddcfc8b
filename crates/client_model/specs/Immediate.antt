-- Immediate, which runs a single node. OpenVX 1.3, "Graphs", immediate mode.
use Rattle.std.specs.Prelude.{Bool, false, if◌then◌else◌, List, Option, Some, None}
use Rattle.std.specs.List.{list_any}
use Rattle.std.specs.Option.{option_map, option_and_then, option_or}
use Rattle.vx_base.specs.declared.node.Node.{Node}
use Rattle.vx_base.specs.Reference.{Reference}
use Rattle.vx_base.specs.Node.{operands}
use Rattle.vx_base.specs.Object.{ObjectValue}
use Rattle.vx_base.specs.Outputs.{written_by}
use Rattle.graph_run.specs.Graph.{is_virtual_object}
use Rattle.graph_verify.specs.declared.operand.Operand.{Operand}
use Rattle.graph_verify.specs.declared.operand.Operands.{Operands}
use Rattle.graph_verify.specs.Operand.{operand_of}
use Rattle.graph_verify.specs.Verdict.{verdict_on}
use Rattle.client_model.specs.declared.refusal.Refusal.{Refusal}
use Rattle.client_model.specs.declared.refusal.Refusal.TheVariants.{Rejected, OptimizedAway}
use Rattle.client_model.specs.declared.reply.Reply.TheVariants.{Empty}
use Rattle.object_table.specs.NamedObject.{NamedObject, object_at, with_written}
use Rattle.object_table.specs.Context.{Context, with_objects}
use Rattle.client_model.specs.Refusal.{Outcome, reply_unless}
use Rattle.client_model.specs.Operands.{operands_refusal}

-- the object that a reference of a node names, as an operand
abbrev pub operand_in : List NamedObject → Reference → Option Operand
operand_in objects cell = option_map operand_of (object_at objects cell)

-- the operand that a reference of a node names, if the reference is given
abbrev pub operand_if : List NamedObject → Option Reference → Option Operand
operand_if objects cell = option_and_then (operand_in objects) cell

-- the operands of a node, if its first input exists
abbrev pub operands_in : List NamedObject → Node → Option Operands
operands_in objects n =
    option_map
    (λ in1. record {
      in1 = in1;
      in2 = operand_if objects n.in2;
      out1 = operand_if objects n.out1;
      out2 =
          operand_if objects n.out2;
    })
    (operand_in objects n.in1)

-- whether an object is a virtual image
abbrev pub is_some_virtual : Option ObjectValue → Bool
is_some_virtual (Some object) = is_virtual_object object
is_some_virtual None = false

-- the refusal of an immediate node that names a virtual image
abbrev pub away_refusal : List NamedObject → Node → Option Refusal
away_refusal objects n =
    if list_any (λ operand. is_some_virtual (object_at objects operand.0)) (operands n) then
    Some OptimizedAway else None

-- why an immediate node can't run: a refusal of its operands, or else a virtual image among them,
-- or else the verdict on the node
abbrev pub node_refusal : List NamedObject → Node → Option Refusal
node_refusal objects n =
    option_or (operands_refusal None objects (operands n))
    (option_or (away_refusal objects n)
    (option_map Rejected (option_and_then (verdict_on n) (operands_in objects n))))

-- Immediate: the node's outputs are written
abbrev pub immediate : Context → Node → Outcome
immediate c n =
    reply_unless (node_refusal c.objects n) Empty
    (with_objects c (with_written c.objects (written_by n (object_at c.objects))))
