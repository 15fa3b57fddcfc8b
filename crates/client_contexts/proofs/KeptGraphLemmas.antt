-- How a graph runs is kept, and stays right through the requests that leave its nodes.
use Rattle.std.proofs.Common.{◌≡◌, ◌≢◌, ℕ, ◌<◌, false, List, [], ◌∷◌, Option, Some, None, IfSome, Result, Ok, Err, get_or, refl, sym, ap, subst, ◌∙◌, arith, All, MatchOption, is_some, IfOk, OnErr}
use Rattle.client_contexts.proofs.Common.{option_map, All-nil, All-cons, Node, ObjectValue, Context, object_held, nodes_in, verdict, operand_held, IsReady, Request, Reply, LimitsValue, reply_and_state, Outcome, KeepsLimits, KeptGraph, IsKept, AreKept, forgotten_by, ends_verification}
use Rattle.buffer_plan.specs.Places.{plan_view}
use Rattle.buffer_plan.specs.Plan.{IsPlan}
use Rattle.graph_run.specs.Schedule.{IsSchedule}
use Rattle.graph_run.proofs.ScheduleStays.{schedule_stays}
use Rattle.graph_verify.proofs.MemberLemmas.{AllIn-permutation_back}
use Rattle.client_model.specs.States.{changes_nodes, Stays}
use Rattle.client_model.specs.declared.request.Request.TheVariants.{Release, ReleaseContext}
use Rattle.client_model.specs.Context.{State}
use Rattle.client_model.specs.Request.{IsRequest}
use Rattle.client_model.specs.Answer.{answer_to}
use Rattle.client_model.proofs.StateLaws.{Leaves}
use Rattle.client_laws.proofs.StayLaws.{after_one, named_skeletons_stay, nodes_stay, ready_after_one, verdict_stays_held}
use Rattle.client_laws.proofs.StepLaws.{answer_leaves}
use Rattle.client_contexts.proofs.ForgetLemmas.{left_by}

-- a request that keeps a graph in the cache leaves its nodes
leaves_nodes : (request : Request) (name : ℕ)
    → ends_verification request name ≡ false
    → changes_nodes request name ≡ false
leaves_nodes ReleaseContext name spares = refl
leaves_nodes (Release released) name spares = refl
leaves_nodes other name spares = spares

-- what follows of an object that is held from what is said of it
of_held : {P Q : ObjectValue → Type 0} (o : Option ObjectValue)
    → IfSome o P
    → ((object : ObjectValue) → o ≡ Some object → P object → Q object)
    → IfSome o Q
of_held None said follows = tt
of_held (Some object) said follows = follows object refl said

-- what is kept of a graph, of the nodes that it has
abbrev IsKeptOf : Context → KeptGraph → List Node → Type 0
IsKeptOf c k nodes =
    IsReady c.objects nodes k.verified
    × IsSchedule c.objects k.verified (plan_view k.plan) k.schedule
    × (verdict k.work (operand_held c.objects) nodes ≡ None)

kept_of : (c : Context) (name : ℕ) (k : KeptGraph) (nodes : List Node)
    → IsKept c name k
    → option_map nodes_in (object_held c.objects name) ≡ Some nodes
    → IsKeptOf c k nodes
kept_of c name k nodes kept is = grind arith

kept_from : (c : Context) (name : ℕ) (k : KeptGraph)
    → name < c.next
    → IsPlan k.verified.steps k.verified.virtual_outputs (plan_view k.plan)
    → IfSome (object_held c.objects name) (λ object. IsKeptOf c k (nodes_in object))
    → IsKept c name k
kept_from c name k below plan is = grind arith

-- what is kept of a graph holds after a request that leaves its nodes
module _ (limits : LimitsValue) (c later : Context) (request : Request)
    (h : KeepsLimits limits c) (is : IsRequest request)
    (e : (answer_to limits (Some c) request).1 ≡ Some later) where
  next_stays : Leaves limits (changes_nodes request) c later
  next_stays =
      let stays : request ≢ ReleaseContext =
      (λ release. let gone : ◌≡◌ {A = State} None (Some later) = ap
      (λ r. (answer_to limits (Some c) r).1) (sym release) ∙ e in cc)
      in
      subst (λ (state : State). MatchOption state ⊥ (Leaves limits (changes_nodes request) c)) e
      (answer_leaves limits c request stays h is)

  -- what is held under a name that was given was held before, with the nodes that it has now
  had_nodes : (name : ℕ)
      → changes_nodes request name ≡ false
      → name < c.next
      → Stays nodes_in c.objects later.objects name
  had_nodes name leaves known =
      nodes_stay limits c later (request ∷ []) name (after_one limits c later request h is e)
      (All-cons (λ r. changes_nodes r name ≡ false) request [] leaves
      (All-nil (λ r. changes_nodes r name ≡ false)))
      known

  -- the cells that its nodes name hold objects of the same skeletons, so that its schedule is still
  -- one
  schedule_after_one : (name : ℕ) (k : KeptGraph) (nodes : List Node)
      → IsReady c.objects nodes k.verified
      → IsPlan k.verified.steps k.verified.virtual_outputs (plan_view k.plan)
      → option_map nodes_in (object_held c.objects name) ≡ Some nodes
      → option_map nodes_in (object_held later.objects name) ≡ Some nodes
      → IsSchedule c.objects k.verified (plan_view k.plan) k.schedule
      → IsSchedule later.objects k.verified (plan_view k.plan) k.schedule
  schedule_after_one name k nodes ready plan was now scheduled =
      schedule_stays c.objects later.objects k.verified (plan_view k.plan) plan
      (λ n cell i named. named_skeletons_stay limits c later (request ∷ []) name nodes
      (after_one limits c later request h is e) was now cell
      (n, AllIn-permutation_back nodes k.verified.steps ready.verified.order.same_nodes n i, named))
      k.schedule scheduled

  pub kept_after_one : (name : ℕ) (k : KeptGraph)
      → changes_nodes request name ≡ false
      → IsKept c name k
      → IsKept later name k
  kept_after_one name k leaves kept =
      kept_from later name k (omega (arith, kept.below, next_stays.next)) kept.plan
      (of_held (object_held later.objects name) (had_nodes name leaves kept.below)
      (λ object there stays.
      let nodes = nodes_in object in
      let (ready, schedule, allowed) = kept_of c name k nodes kept stays in
      let now = ap (option_map nodes_in) there in (
        ready_after_one limits c later request name nodes k.verified h is e leaves kept.below
            stays (ap is_some there) ready,
        schedule_after_one name k nodes ready kept.plan stays now schedule,
        verdict_stays_held limits c later (request ∷ []) name nodes k.work
            (after_one limits c later request h is e) stays now
            ∙ allowed,
      )))

  -- what is left of all that is kept, once the request is done
  pub left_are_kept : (kept left : List (ℕ × KeptGraph))
      → AreKept c kept
      → left ≡ forgotten_by request kept
      → All (λ k. ends_verification request k.0 ≡ false) left
      → AreKept later left
  left_are_kept kept left are forgotten leave =
      let held : AreKept c left =
      subst (AreKept c) (sym forgotten) (left_by (λ k. IsKept c k.0 k.1) request kept are) in
      λ n d below. kept_after_one (get_or left n d).0 (get_or left n d).1
      (leaves_nodes request (get_or left n d).0 (leave n d below)) (held n d below)

-- so is all of it where a picture or a text is written, which leaves the nodes of all graphs
pub kept_written :
    {E : Type 0} (limits : LimitsValue) (c later : Context) (request : Request)
    (outcome : Outcome) (result : Result Reply E) (kept : List (ℕ × KeptGraph))
    → KeepsLimits limits c
    → IsRequest request
    → answer_to limits (Some c) request ≡ reply_and_state c outcome
    → ((name : ℕ) → ends_verification request name ≡ false)
    → forgotten_by request kept ≡ kept
    → IfOk result (λ reply. outcome ≡ Ok (reply, Some later))
    → OnErr result (later ≡ c)
    → AreKept c kept
    → AreKept later kept
kept_written limits c later request outcome (Ok reply) kept h is answers leaves forgets done
    back are =
    left_are_kept limits c later request h is (rw (answers, done)) kept kept are (sym forgets)
    (λ n d below. leaves (get_or kept n d).0)
kept_written limits c later request outcome (Err error) kept h is answers leaves forgets done
    back are =
    rw back are
