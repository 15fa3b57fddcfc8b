-- The cache of verified graphs.
use Rattle.std.specs.Prelude.{ℕ, ◌≡◌, ◌≢◌, ◌<◌, ◌==◌, ◌⊎◌, Bool, true, false, List, map, All, Option, Some, None, IfSome, Result, Ok, OnErr}
use Rattle.std.specs.BTreeMap.{is_at}
use Rattle.std.specs.Map.{lookup, remove_entry}
use Rattle.std.specs.Option.{option_map}
use Rattle.std.specs.Ordering.{nat_cmp}
use Rattle.vx_base.specs.declared.code.Code.{Code}
use Rattle.object_table.specs.Context.{Context}
use Rattle.object_table.specs.NamedObject.{object_held}
use Rattle.object_table.specs.Uses.{nodes_in}
use Rattle.graph_verify.specs.Verdict.{verdict}
use Rattle.buffer_plan.specs.Places.{plan_view}
use Rattle.buffer_plan.specs.Plan.{IsPlan}
use Rattle.graph_run.specs.Operands.{IsReady, operand_held}
use Rattle.graph_run.specs.Schedule.{IsSchedule}
use Rattle.client_model.specs.declared.request.Request.{Request}
use Rattle.client_model.specs.declared.request.Request.TheVariants.{ReleaseContext, AddNode, RemoveNode, Release, VerifyGraph, ProcessGraph}
use Rattle.client_model.specs.declared.reply.Reply.{Reply}
use Rattle.client_model.specs.declared.reply.Reply.TheVariants.{Refused, Empty}
use Rattle.client_model.specs.States.{changes_nodes}
use Rattle.client_contexts.specs.declared.kept.KeptGraph.{KeptGraph}
use Rattle.client_contexts.specs.declared.memory.NoMemory.{NoMemory}

-- A valid cache entry under a name. If a graph is held under the name, the entry has the graph's
-- verification, and the graph can run within the entry's limit on work bytes. The plan gives slots
-- to the virtual images, for a run in the verification's order. The schedule fits a run on the
-- objects that the nodes name.
pub record IsKept (c : Context) (name : ℕ) (k : KeptGraph) : Type 0 where
  pub below : name < c.next
  pub ready :
      IfSome (object_held c.objects name) (λ object. IsReady c.objects (nodes_in object) k.verified)
  pub plan : IsPlan k.verified.steps k.verified.virtual_outputs (plan_view k.plan)
  pub schedule :
      IfSome (object_held c.objects name)
      (λ object. IsSchedule c.objects k.verified (plan_view k.plan) k.schedule)
  pub allowed :
      IfSome (object_held c.objects name)
      (λ object. verdict k.work (operand_held c.objects) (nodes_in object) ≡ None)

-- each entry of the cache is valid
abbrev pub AreKept : Context → List (ℕ × KeptGraph) → Type 0
AreKept c kept = All (λ k. IsKept c k.0 k.1) kept

-- the limit on work bytes with which a graph was verified, if the graph is in the cache
abbrev pub kept_within : ℕ → List (ℕ × KeptGraph) → Option ℕ
kept_within graph kept = option_map (λ k. k.work) (lookup (is_at (nat_cmp graph)) kept)

-- whether a request verifies or runs a graph
abbrev pub runs_graph : Request → Bool
runs_graph (VerifyGraph graph) = true
runs_graph (ProcessGraph graph) = true
runs_graph other = false

-- the cache without the graph, if any, whose nodes a request changes or whose name it releases
abbrev pub forgotten_by : Request → List (ℕ × KeptGraph) → List (ℕ × KeptGraph)
forgotten_by (AddNode graph n) kept = remove_entry (is_at (nat_cmp graph)) kept
forgotten_by (RemoveNode graph number) kept = remove_entry (is_at (nat_cmp graph)) kept
forgotten_by (Release name) kept = remove_entry (is_at (nat_cmp name)) kept
forgotten_by other kept = kept

-- ---- the visible part of the cache

-- the names of the graphs in the cache, each with the limit on work bytes with which the graph was
-- verified
abbrev pub verified_in : List (ℕ × KeptGraph) → List (ℕ × ℕ)
verified_in kept = map (λ k. (k.0, k.1.work)) kept

-- the graph is in the cache, verified with this limit on work bytes
abbrev pub IsKeptWithin : ℕ → ℕ → List (ℕ × ℕ) → Type 0
IsKeptWithin work graph verified = lookup (is_at (nat_cmp graph)) verified ≡ Some work

-- each graph that was in the old cache with this limit on work bytes is in the new cache with the
-- same limit
abbrev pub StayKept : ℕ → List (ℕ × ℕ) → List (ℕ × ℕ) → Type 0
StayKept work old new = (graph : ℕ) → IsKeptWithin work graph old → IsKeptWithin work graph new

-- whether a request, if it succeeds, drops the graph with this name from the cache: the request
-- changes the graph's nodes, or releases the graph or the context
abbrev pub ends_verification : Request → ℕ → Bool
ends_verification ReleaseContext name = true
ends_verification (Release released) name = released == name
ends_verification other name = changes_nodes other name

-- the effect of a request on its client's cache of verified graphs. VerifyGraph of a graph that is
-- in the cache with this limit on work bytes never runs out of memory. After VerifyGraph or
-- ProcessGraph has succeeded, the graph stays in the cache until its nodes change, or the graph or
-- the context is released; it is then no longer in the cache. OpenVX 1.3, "Object: Graph",
-- vxVerifyGraph and vxProcessGraph.
pub record KeepsVerified (work : ℕ) (request : Request) (old new : List (ℕ × ℕ))
    (result : Result Reply NoMemory) : Type 0 where
  pub lost :
      OnErr result ((graph : ℕ) → request ≡ VerifyGraph graph → IsKeptWithin work graph old → ⊥)
  pub found : result ≡ Ok Empty
      → (graph : ℕ)
      → (request ≡ VerifyGraph graph) ⊎ (request ≡ ProcessGraph graph)
      → IsKeptWithin work graph new
  pub stays : (graph : ℕ)
      → ends_verification request graph ≡ false
      → IsKeptWithin work graph old
      → IsKeptWithin work graph new
  pub ends : (made : Reply)
      → result ≡ Ok made
      → ((code : Code) → made ≢ Refused code)
      → All (λ g. ends_verification request g.0 ≡ false) new
  pub refused : (code : Code) → result ≡ Ok (Refused code) → StayKept work old new
  pub no_memory : OnErr result (StayKept work old new)
