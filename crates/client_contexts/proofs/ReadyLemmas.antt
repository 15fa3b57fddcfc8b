-- What is kept of a graph: what it says of the graph's verdict and run, and that it is so once the
-- graph is verified.
use Rattle.std.proofs.Common.{◌≡◌, ℕ, ◌<◌, ◌^◌, List, [], ◌∷◌, Option, Some, None, Result, Ok, Err, Ordering, Less, Equal, Greater, refl, ap, subst, ◌∙◌, All, arith}
use Rattle.client_contexts.proofs.Common.{graph_under, insert_entry, is_at, lookup, option_map, nat_cmp, All-nil, All-cons, All-head, All-tail, All-weaker, exact_unsigned, GraphValue, nodes_of, ObjectValue, GraphObject, Context, with_objects, object_held, graph_value, graph_of_kind, verdict, IsVerified, IsReady, operand_held, Refusal, Reply, Empty, ProcessGraph, LimitsValue, reply_and_state, graph_named, graph_verdict, Outcome, KeepsLimits, RequestFault, KeptGraph, IsKept, AreKept, IsNamed, MayComeTo, map_some}
use Rattle.client_laws.proofs.RunLaws.{graph_stays}
use Rattle.object_table.specs.Ageing.{aged_under}
use Rattle.std.specs.Ordering.{match_ordering, eq_by_cmp}
use Rattle.std.proofs.lemmas.List.Elements.{All-contains}
use Rattle.std.proofs.lemmas.Map.Views.{Contains-from_lookup, tells_apart}
use Rattle.vx_base.specs.declared.kind.Kind.TheVariants as kind
use Rattle.object_table.proofs.HeldLemmas.{named_has}
use Rattle.graph_verify.specs.PartialDescriptions.{resolved_operand}
use Rattle.buffer_plan.specs.Places.{plan_view}
use Rattle.buffer_plan.specs.Plan.{IsPlan}
use Rattle.graph_run.specs.Graph.{run_of_graph}
use Rattle.graph_run.specs.Schedule.{IsSchedule}
use Rattle.client_model.specs.Graphs.{verify_graph, process_graph}
use Rattle.client_laws.proofs.StayLaws.{graph_held}
use Rattle.client_contexts.specs.declared.fault.RequestFault.TheVariants.{Refused, NoMemory}
use Rattle.client_contexts.proofs.KeptGraphLemmas.{kept_after_one}
use Rattle.client_contexts.proofs.StandLemmas.{graph_ready, graph_is_named}

-- ---- entries by names

module _ {X : Type 0} (name : ℕ) (value : X) where
  -- what holds of each entry holds of each once another comes of which it holds
  pub All-insert : (P : ℕ × X → Type 0) (entries : List (ℕ × X))
      → All P entries
      → P (name, value)
      → All P (insert_entry nat_cmp entries name value)
  All-insert P [] each new = All-cons P (name, value) [] new (All-nil P)
  All-insert P (e ∷ es) each new =
      by_order (nat_cmp name e.0) refl (All-insert P es (All-tail P e es each) new)
    where
      by_order : (order : Ordering)
          → nat_cmp name e.0 ≡ order
          → All P (insert_entry nat_cmp es name value)
          → All P
          (match_ordering order ((name, value) ∷ e ∷ es) ((e.0, value) ∷ es)
          (e ∷ insert_entry nat_cmp es name value))
      by_order Less is others = All-cons P (name, value) (e ∷ es) new each
      by_order Equal is others =
          All-cons P (e.0, value) es
          (subst (λ (n : ℕ). P (n, value)) (exact_unsigned name e.0 is) new)
          (All-tail P e es each)
      by_order Greater is others =
          All-cons P e (insert_entry nat_cmp es name value) (All-head P e es each) others

-- ---- what is kept under a name

-- what is found under a name is kept of the graph of that name
pub kept_there : (c : Context) (name : ℕ) (k : KeptGraph) (entries : List (ℕ × KeptGraph))
    → AreKept c entries
    → lookup (is_at (nat_cmp name)) entries ≡ Some k
    → IsKept c name k
kept_there c name k entries are is =
    All-contains (λ (entry : ℕ × KeptGraph). IsKept c entry.0 entry.1) entries (name, k) are
    (Contains-from_lookup {eq = eq_by_cmp nat_cmp} (tells_apart exact_unsigned) name k entries is)

-- so is what was found within so many work bytes
pub found_kept : (c : Context) (name work : ℕ) (entries : List (ℕ × KeptGraph))
    → AreKept c entries
    → option_map (λ (k : KeptGraph). k.work) (lookup (is_at (nat_cmp name)) entries) ≡ Some work
    → (k : KeptGraph) × (k.work ≡ work) × IsKept c name k
found_kept c name work entries are same =
    let (k, is, so) =
    map_some (λ (k : KeptGraph). k.work) (lookup (is_at (nat_cmp name)) entries) work same in
    (k, so, kept_there c name k entries are is)

-- ---- a graph that is found under its name

module _ (limits : LimitsValue) (c : Context) (name : ℕ) (x : ObjectValue)
    (h : KeepsLimits limits c) (named : IsNamed c.objects name kind.Graph x) where
  -- it is held as a graph
  held_graph : object_held c.objects name ≡ Some (GraphObject (graph_value x))
  held_graph = named.held ∙ ap {B = Option ObjectValue} Some (graph_of_kind x named.kind)

  -- where nothing refuses it, it is verified
  pub allowed_verifies : (within : LimitsValue)
      → verdict within.work (operand_held c.objects) (nodes_of (graph_value x)) ≡ None
      → verify_graph within c name ≡ Ok (Empty, Some c)
  allowed_verifies within allowed = rw (graph_is_named limits c name x h named, allowed)

  -- what is kept of it is its verdict
  pub kept_verifies : (within : LimitsValue) (k : KeptGraph)
      → IsKept c name k
      → k.work ≡ within.work
      → verify_graph within c name ≡ Ok (Empty, Some c)
  kept_verifies within k kept same = allowed_verifies within (rw (held_graph, same) at kept.allowed)

  -- once it is verified, so much is kept of it
  pub verified_is_kept : (k : KeptGraph)
      → IsVerified (operand_held c.objects) (nodes_of (graph_value x)) k.verified
      → verdict k.work (operand_held c.objects) (nodes_of (graph_value x)) ≡ None
      → IsPlan k.verified.steps k.verified.virtual_outputs (plan_view k.plan)
      → IsSchedule c.objects k.verified (plan_view k.plan) k.schedule → IsKept c name k
  verified_is_kept k verified allowed planned scheduled =
      record {
        plan = planned;
        schedule = rw held_graph scheduled;
        below = rw held_graph at (named_has (λ n object. n < c.next) c.objects name h.below);
        ready =
            rw held_graph (graph_ready limits c name x h named k.verified k.work verified allowed);
        allowed = rw held_graph allowed;
      }

-- ---- a graph that runs

module _ (limits : LimitsValue) (c : Context) (name : ℕ) where
  -- what refuses its verification refuses its run
  refuses_run : (refusal : Refusal)
      → verify_graph limits c name ≡ Err refusal
      → process_graph limits c name ≡ Err refusal
  refuses_run refusal e = grind arith

  pub fails_to_run : (fault : RequestFault) (result : Result Reply RequestFault)
      → MayComeTo (verify_graph limits c name) c c (Err fault)
      → result ≡ Err fault
      → MayComeTo (process_graph limits c name) c c result
  fails_to_run (Refused refusal) result comes is = rw is record {
    done = tt;
    refused = refuses_run refusal comes.refused;
    unchanged = refl;
  }
  fails_to_run NoMemory result comes is = rw is record { done = tt; refused = tt; unchanged = refl }

  -- a graph that is verified is there, and nothing refuses it
  passed : (done : Reply × Option Context) → verify_graph limits c name ≡ Ok done
      → (graph : GraphValue)
      × (graph_named c.objects name ≡ Ok graph)
      × (graph_verdict limits c.objects graph ≡ None)
  passed done e = grind arith

  -- the graph is as it was as its run ends
  pub graph_left : KeepsLimits limits c
      → (graph : GraphValue) (ran : Context)
      → graph_named c.objects name ≡ Ok graph
      → graph_verdict limits c.objects graph ≡ None
      → ran
      ≡ with_objects c
      (run_of_graph (resolved_operand (operand_held c.objects) (nodes_of graph))
      (nodes_of graph) c.objects)
      → object_held ran.objects name ≡ Some (GraphObject graph)
  graph_left h graph ran is allowed e =
      ap (λ (k : Context). object_held k.objects name) e
      ∙ graph_stays limits c name graph h is allowed

  -- and then each delay ages that is registered with it
  pub aged_to : KeepsLimits limits c
      → (graph : GraphValue) (ran after : Context)
      → graph_named c.objects name ≡ Ok graph
      → graph_verdict limits c.objects graph ≡ None
      → ran
      ≡ with_objects c
      (run_of_graph (resolved_operand (operand_held c.objects) (nodes_of graph))
      (nodes_of graph) c.objects)
      → after ≡ with_objects ran (aged_under (graph_under ran.objects name).delays ran.objects)
      → process_graph limits c name ≡ Ok (Empty, Some after)
  aged_to h graph ran after is allowed e aged =
      rw (is, allowed, aged, graph_left h graph ran is allowed e, e)

  -- what is kept of a graph that is verified runs its nodes, as it is scheduled
  pub kept_runs : KeepsLimits limits c
      → (done : Reply × Option Context)
      → verify_graph limits c name ≡ Ok done
      → (k : KeptGraph) (entries : List (ℕ × KeptGraph))
      → AreKept c entries
      → lookup (is_at (nat_cmp name)) entries ≡ Some k
      → (graph : GraphValue)
      × (graph_named c.objects name ≡ Ok graph)
      × (graph_verdict limits c.objects graph ≡ None)
      × IsReady c.objects (nodes_of graph) k.verified
      × IsSchedule c.objects k.verified (plan_view k.plan) k.schedule
  kept_runs h done passes k entries are is =
      let (graph, named, allowed) = passed done passes in
      let kept = kept_there c name k entries are is in
      let there = graph_held limits c name h graph named in
      (graph, named, allowed, rw there at kept.ready, rw there at kept.schedule)

-- what is kept of each graph holds after a run
pub kept_after_run : (limits : LimitsValue) (c later : Context) (name : ℕ)
    → KeepsLimits limits c
    → name < 2 ^ 32
    → process_graph limits c name ≡ Ok (Empty, Some later)
    → (entries : List (ℕ × KeptGraph)) → AreKept c entries → AreKept later entries
kept_after_run limits c later name h fits done entries are =
    All-weaker (λ (e : ℕ × KeptGraph). IsKept c e.0 e.1)
    (λ (e : ℕ × KeptGraph). IsKept later e.0 e.1)
    (λ e kept. kept_after_one limits c later (ProcessGraph name) h fits
    (ap (λ (o : Outcome). (reply_and_state c o).1) done) e.0 e.1 refl kept)
    entries are
