-- Operands of a graph's nodes: the objects that their references name.
use Rattle.std.specs.Prelude.{ℕ, ◌≡◌, true, ◌||◌, Bool, List, All, Some, None, unwrap_or}
use Rattle.std.specs.Option.{option_map}
use Rattle.vx_base.specs.declared.kind.Kind.{Kind}
use Rattle.vx_base.specs.declared.kind.Kind.TheVariants as kind
use Rattle.vx_base.specs.declared.node.Node.{Node}
use Rattle.vx_base.specs.Reference.{Reference}
use Rattle.vx_base.specs.Function.{parameters}
use Rattle.vx_base.specs.Node.{IsNode, operands}
use Rattle.object_table.specs.NamedObject.{NamedObject, object_at}
use Rattle.graph_verify.specs.declared.operand.Operand.{Operand}
use Rattle.graph_verify.specs.declared.operand.Operand.TheVariants.{Virtual, Missing}
use Rattle.graph_verify.specs.Links.{reads, writes}
use Rattle.graph_verify.specs.Members.{In}
use Rattle.graph_verify.specs.Operand.{operand_of, operand_kind}
use Rattle.graph_verify.specs.declared.verified.Verified.{Verified}
use Rattle.graph_verify.specs.Verdict.{verdict}
use Rattle.graph_verify.specs.Verified.{IsVerified}

-- the reference names an object, and `operand` is this object as an operand
abbrev pub HoldsOperand : List NamedObject → Reference → Operand → Type 0
HoldsOperand objects cell operand = option_map operand_of (object_at objects cell) ≡ Some operand

-- whether a node reads or writes an object
abbrev pub names_cell : Node → Reference → Bool
names_cell n cell = reads n cell || writes n cell

-- the operand is of this kind; a virtual image counts as an image
abbrev pub StandsFor : Operand → Kind → Type 0
StandsFor (Virtual declared) wanted = wanted ≡ kind.Image
StandsFor operand wanted = operand_kind operand ≡ Some wanted

-- each reference in the nodes names an object, and `is` gives this object as an operand. Each
-- output has the kind that its node's function writes.
pub record CellsStand (is : Reference → Operand) (nodes : List Node)
    (objects : List NamedObject) : Type 0 where
  pub found : (n : Node) (cell : Reference)
      → In n nodes
      → names_cell n cell ≡ true
      → HoldsOperand objects cell (is cell)
  pub kinds : (n : Node) (cell : Reference)
      → In n nodes
      → writes n cell ≡ true
      → StandsFor (is cell) (parameters n.function).output

-- the object that a reference names, as an operand; Missing if the reference names no object
abbrev pub operand_held : List NamedObject → Reference → Operand
operand_held objects cell = unwrap_or (option_map operand_of (object_at objects cell)) Missing

-- the graph is verified and can run: its verdict is None with some limit on work bytes, and each
-- operand's reference names an object of the kind that the node's function expects
pub record IsReady (objects : List NamedObject) (nodes : List Node) (v : Verified) : Type 0 where
  pub verified : IsVerified (operand_held objects) nodes v
  pub runs : (work : ℕ) × (verdict work (operand_held objects) nodes ≡ None)
  pub are_nodes : All IsNode nodes
  pub cells : CellsStand (operand_held objects) nodes objects
  pub kinds :
      All
      (λ n. All (λ operand. StandsFor (operand_held objects operand.0) operand.1) (operands n))
      nodes
