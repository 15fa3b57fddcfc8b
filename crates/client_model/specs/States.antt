-- The states of a client: their invariant, and the effect of requests on them.
use Rattle.std.specs.Prelude.{ℕ, ◌≡◌, ◌≢◌, ◌<◌, ◌≤◌, ◌==◌, Bool, false, not, ◌&&◌, IsTrue, Option, Some, IfSome, List, [], ◌∷◌, length, map, All}
use Rattle.std.specs.Option.{option_map, option_and_then}
use Rattle.std.specs.List.Sorted.{IsStrictlyIncreasing}
use Rattle.vx_base.specs.declared.kind.Kind.{Kind}
use Rattle.vx_base.specs.Reference.{Reference}
use Rattle.vx_base.specs.Node.{operands}
use Rattle.vx_base.specs.Object.{ObjectValue, IsObject}
use Rattle.object_table.specs.Delay.{slot_kind}
use Rattle.object_table.specs.NamedObject.{NamedObject, object_held, object_at as object_in_cell}
use Rattle.object_table.specs.Context.{Context, charge_of}
use Rattle.object_table.specs.Holds.{is_held}
use Rattle.object_table.specs.Uses.{nodes_in}
use Rattle.client_model.specs.declared.request.Request.{Request}
use Rattle.client_model.specs.declared.request.Request.TheVariants.{ReleaseContext, AddNode, RemoveNode}
use Rattle.client_model.specs.Limits.{LimitsValue}
use Rattle.client_model.specs.Context.{State}
use Rattle.client_model.specs.Operands.{is_kind, holds_nothing, is_of_other_graph}
use Rattle.client_model.specs.Request.{IsRequest}
use Rattle.client_model.specs.Answer.{answer_to}
use Rattle.object_table.specs.declared.table.TheConstants.{GREATEST_OBJECTS}

-- the kind of a reference in a node, even if the reference's name is no longer live
abbrev pub kind_held : List NamedObject → Reference → Option Kind
kind_held objects cell = option_and_then (slot_kind cell.slot) (object_held objects cell.name)

-- whether a reference in a node of this graph still names an operand of the expected kind, in the
-- graph's scope
abbrev pub holds_operand : List NamedObject → ℕ → Reference × Kind → Bool
holds_operand objects graph operand =
    is_kind operand.1 (kind_held objects operand.0)
    &&
    (not (is_of_other_graph graph (object_in_cell objects operand.0)) && not
    (holds_nothing objects operand.0))

-- each reference in a graph's nodes still names an operand of the expected kind, in the graph's
-- scope
abbrev pub NodesStand : List NamedObject → NamedObject → Type 0
NodesStand objects o =
    All (λ n. All (λ operand. IsTrue (holds_operand objects o.name operand)) (operands n))
    (nodes_in o.object)

-- The invariant of a context. Objects are valid. Their names ascend and are below the next name,
-- which is at most 2^32. Each object is held, and nodes find their operands. There are at most
-- 1,024 objects, and their charge is within the quota.
pub record KeepsLimits (limits : LimitsValue) (c : Context) : Type 0 where
  pub objects : All (λ o. IsObject o.object) c.objects
  pub names : IsStrictlyIncreasing (map (λ o. o.name) c.objects)
  pub below : All (λ o. o.name < c.next) c.objects
  pub left : c.next ≤ 4294967296
  pub held : All (λ o. IsTrue (is_held c.objects o)) c.objects
  pub nodes : All (NodesStand c.objects) c.objects
  pub count : length c.objects ≤ GREATEST_OBJECTS
  pub quota : charge_of c.objects ≤ limits.quota

-- a client's state after these requests of its own
abbrev pub state_after : LimitsValue → State → List Request → State
state_after limits state [] = state
state_after limits state (request ∷ requests) =
    state_after limits (answer_to limits state request).1 requests

-- ---- what requests don't change

-- `c` is a client's context, for which the invariant holds, and `later` is the context after these
-- requests of the client. None of the requests is ReleaseContext.
pub record IsLater (limits : LimitsValue) (c : Context) (requests : List Request)
    (later : Context) : Type 0 where
  pub keeps : KeepsLimits limits c
  pub are : All IsRequest requests
  pub unreleased : All (λ request. request ≢ ReleaseContext) requests
  pub state : state_after limits (Some c) requests ≡ Some later

-- if an object is held under this name in `after`, it is also held in `before`, and this part of it
-- is the same in both
abbrev pub Stays : {X : Type 0}
    → (ObjectValue → X)
    → List NamedObject
    → List NamedObject
    → ℕ
    → Type 0
Stays part before after name =
    IfSome (object_held after name)
    (λ object. option_map part (object_held before name) ≡ Some (part object))

-- whether a request, unless it is refused, changes the nodes of the graph with this name
abbrev pub changes_nodes : Request → ℕ → Bool
changes_nodes (AddNode graph node) name = graph == name
changes_nodes (RemoveNode graph number) name = graph == name
changes_nodes other name = false
