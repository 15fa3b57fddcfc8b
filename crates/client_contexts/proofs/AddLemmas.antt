-- Nodes that are added to a graph.
use Rattle.std.proofs.Common.{◌≡◌, ℕ, true, IsTrue, List, ◌∷◌, ◌++◌, Some, None, Ok, All, is_some, if◌then◌else◌, inl, inr, arith}
use Rattle.client_contexts.proofs.Common.{cases_Bool, All-nil, All-cons, All-append, All-map, All-weaker, Kind, Node, Reference, reference_to, GraphValue, with_node, operands, GraphObject, OfOperands, of_operands, Context, object_named, with_objects, with_graph, NamedObject, object_held, IsUnder, graph_under, graph_of_kind, LimitsValue, operands_refusal, KeepsLimits, holds_operand, OperandsStand, MayComeTo}
use Rattle.client_model.specs.Graphs.{add_node, add_to}
use Rattle.client_contexts.specs.Steps.{SaysWhy, graph_fault as fault_of}
use Rattle.vx_base.specs.declared.kind.Kind.TheVariants as kind
use Rattle.vx_base.specs.Graph.{can_add}
use Rattle.vx_base.specs.Node.{inputs, outputs}
use Rattle.graph_verify.specs.declared.fault.GraphFault.{GraphFault}
use Rattle.graph_verify.specs.declared.fault.GraphFault.TheVariants as graph_fault
use Rattle.object_table.specs.Uses.{used_names}
use Rattle.client_model.specs.declared.reply.Reply.TheVariants as reply
use Rattle.client_model.proofs.HoldLaws.{stands_parts}
use Rattle.client_model.proofs.NamedLaws.{held_if_live}

-- the name of each operand that can be used is held
pub names_held : (objects : List NamedObject) (graph : ℕ) (n : Node)
    → OperandsStand objects graph n
    → All (λ name. IsTrue (is_some (object_held objects name))) (used_names n)
names_held objects graph n stood =
    All-map (λ name. IsTrue (is_some (object_held objects name))) {Y = Reference}
    (λ cell. cell.name) (inputs n ++ outputs n)
    (grind (arith, All-cons, All-append, All-nil, each))
  where
    there : (operand : Reference × Kind)
        → IsTrue (holds_operand objects graph operand)
        → IsTrue (is_some (object_held objects operand.0.name))
    there operand is = grind (arith, stands_parts)

    each : OfOperands (λ operand. IsTrue (is_some (object_held objects operand.0.name))) n
    each =
        of_operands (λ operand. IsTrue (is_some (object_held objects operand.0.name))) n
        (All-weaker _ _ there (operands n) stood)

module _ (limits : LimitsValue) (c : Context) (name : ℕ) (h : KeepsLimits limits c)
    (live : IsTrue (is_some (object_named c.objects name))) (is : IsUnder c.objects kind.Graph name)
  where
    -- the graph under a live name
    graph_live : object_named c.objects name ≡ Some (GraphObject (graph_under c.objects name))
    graph_live = grind (arith, held_if_live c.objects name h.names, graph_of_kind)

    module _ (n : Node)
        (known : None
        ≡ operands_refusal (Some name) c.objects ((reference_to name, kind.Graph) ∷ operands n))
      where
        abbrev graph_now : GraphValue
        graph_now = graph_under c.objects name

        added_or_full : add_node c name n ≡ add_to (Ok graph_now) c name n
        added_or_full = rw (← known, graph_live)

        -- a node within the limits is added
        pub node_added : (number : ℕ) (new : Context)
            → can_add graph_now ≡ true
            → number ≡ graph_now.next
            → new ≡ with_objects c (with_graph c.objects name (with_node graph_now n))
            → MayComeTo (add_node c name n) c new (Ok (reply.Node number))
        node_added number new capacity numbered changed = record {
          done = rw (added_or_full, capacity, numbered, changed);
          refused = tt;
          unchanged = tt;
        }

        -- or it is refused, unless there is no memory
        pub node_refused : (why : GraphFault)
            → why ≡ (if can_add graph_now then graph_fault.NoMemory else graph_fault.NoResources)
            → SaysWhy (add_node c name n) (fault_of why)
        node_refused why fault =
            elim (cases_Bool (can_add graph_now)) [
              | inl free ↦ rw (fault, free) tt
              | inr full ↦ rw (fault, full, added_or_full, full)
            ]
