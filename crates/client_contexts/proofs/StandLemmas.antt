-- A graph of a context that keeps the limits: the objects that its nodes name.
use Rattle.std.proofs.Common.{◌≡◌, ℕ, IsTrue, List, Option, Some, None, Ok, IfSome, ap, subst, ◌∙◌, All}
use Rattle.client_contexts.proofs.Common.{All-map, All-weaker, Node, nodes_of, IsNode, operands, ObjectValue, IsObject, Context, graph_value, nodes_in, graph_of_kind, is_image, verdict, IsVerified, IsReady, operand_held, LimitsValue, graph_named, KeepsLimits, OperandsStand, IsNamed}
use Rattle.client_model.specs.Graphs.{as_graph}
use Rattle.vx_base.specs.declared.kind.Kind.TheVariants as kind
use Rattle.vx_base.specs.declared.numbered.Numbered.{Numbered}
use Rattle.vx_base.specs.Graph.{IsGraph}
use Rattle.graph_verify.specs.declared.verified.Verified.{Verified}
use Rattle.graph_run.specs.Operands.{StandsFor}
use Rattle.client_model.proofs.GraphStepLaws.{graph_is, graph_stands}
use Rattle.client_laws.proofs.StandLaws.{cells_stand, operands_stand, firsts_are_images}

module _ (limits : LimitsValue) (c : Context) (name : ℕ) (x : ObjectValue)
    (h : KeepsLimits limits c) (named : IsNamed c.objects name kind.Graph x) where
  abbrev graph_nodes : List Node
  graph_nodes = nodes_of (graph_value x)

  -- the objects that the nodes name exist
  pub graph_stood : All (OperandsStand c.objects name) graph_nodes
  graph_stood =
      subst (λ (o : ObjectValue). All (OperandsStand c.objects name) (nodes_in o))
      (graph_of_kind x named.kind)
      (subst
      (λ (o : Option ObjectValue). IfSome o (λ y. All (OperandsStand c.objects name) (nodes_in y)))
      named.live (graph_stands limits c name h))

  graph_are_nodes : All IsNode graph_nodes
  graph_are_nodes =
      let is : IsGraph (graph_value x) =
      subst IsObject (graph_of_kind x named.kind)
      (subst (λ (o : Option ObjectValue). IfSome o IsObject) named.live (graph_is limits c name h))
      in
      All-map IsNode (λ (n : Numbered). n.node) (graph_value x).nodes is.nodes

  -- the first input of each is an image
  pub graph_firsts : All (λ n. IsTrue (is_image (operand_held c.objects n.in1))) graph_nodes
  graph_firsts = firsts_are_images c.objects name graph_nodes graph_stood

  -- verified, the graph is ready to run
  pub graph_ready : (v : Verified) (work : ℕ)
      → IsVerified (operand_held c.objects) graph_nodes v
      → verdict work (operand_held c.objects) graph_nodes ≡ None
      → IsReady c.objects graph_nodes v
  graph_ready v work verified allowed =
      record {
        verified = verified;
        runs = (work, allowed);
        are_nodes = graph_are_nodes;
        cells = cells_stand c.objects name graph_nodes graph_stood;
        kinds =
            All-weaker (OperandsStand c.objects name)
            (λ n. All (λ operand. StandsFor (operand_held c.objects operand.0) operand.1)
            (operands n))
            (λ n each. operands_stand c.objects name n each) graph_nodes graph_stood;
      }

  -- its name is a graph's
  pub graph_is_named : graph_named c.objects name ≡ Ok (graph_value x)
  graph_is_named =
      ap as_graph (named.live ∙ ap {B = Option ObjectValue} Some (graph_of_kind x named.kind))
