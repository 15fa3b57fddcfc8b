-- Whether a node can run now, on the objects of a table.
use Rattle.std.specs.Prelude.{◌≡◌, List, All, Some, None}
use Rattle.std.specs.Option.{option_map}
use Rattle.vx_base.specs.declared.kind.Kind.{Kind}
use Rattle.vx_base.specs.declared.node.Node.{Node}
use Rattle.vx_base.specs.Reference.{Reference}
use Rattle.vx_base.specs.Node.{IsNode, operands}
use Rattle.vx_base.specs.Object.{object_kind}
use Rattle.object_table.specs.NamedObject.{NamedObject, object_at}
use Rattle.graph_verify.specs.Operand.{operands_of}
use Rattle.graph_verify.specs.Verdict.{verdict_on}
use Rattle.graph_run.specs.Operands.{operand_held}

-- the reference names an object of this kind
abbrev pub HoldsKind : List NamedObject → Reference × Kind → Type 0
HoldsKind objects operand = option_map object_kind (object_at objects operand.0) ≡ Some operand.1

-- the node can run now: each operand is an object of the kind that the node's function expects,
-- and the node's verdict is None
pub record CanRunNow (objects : List NamedObject) (n : Node) : Type 0 where
  pub node : IsNode n
  pub kinds : All (HoldsKind objects) (operands n)
  pub verdict : verdict_on n (operands_of (operand_held objects) n) ≡ None
