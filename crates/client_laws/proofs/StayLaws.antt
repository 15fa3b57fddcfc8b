-- What stays of the objects that are held, as requests are answered.
use Rattle.std.proofs.Common.{◌≡◌, ◌≢◌, ℕ, ◌<◌, false, List, [], ◌∷◌, Option, Some, None, IfSome, sym, ap, subst, ◌∙◌, arith, All, IsSome, MatchOption, Ok}
use Rattle.client_laws.proofs.Common.{option_map, All-head, All-tail, Node, Reference, GraphValue, nodes_of, ObjectValue, GraphObject, Context, NamedObject, object_held, object_at, nodes_in, named_has, Verified, operand_of, verdict, operand_held, IsReady, Request, ReleaseContext, LimitsValue, State, IsRequest, answer_to, graph_named, graph_verdict, KeepsLimits, state_after, changes_nodes, Leaves, OperandsStand}
use Rattle.object_table.specs.Skeleton.{skeleton}
use Rattle.object_table.proofs.SkeletonLaws.{option_map-determined, slots_alike}
use Rattle.graph_run.proofs.OperandLaws.{operand-skeleton}
use Rattle.client_model.specs.States.{IsLater, Stays}
use Rattle.client_model.proofs.NamedLaws.{held_if_live}
use Rattle.client_laws.proofs.StandLaws.{cells_stand}
use Rattle.client_laws.proofs.StepLaws.{answer_leaves, state_after_keeps}
use Rattle.client_laws.proofs.VerdictLaws.{IsNamed, verdict_alike, held_alike, ready_alike}
use Rattle.std.proofs.lemmas.List.Elements.{All-replicate}

-- what stays from one list to a next, and from that to another, stays from the first to the last
stays_on :
    {X : Type 0} (part : ObjectValue → X) (before between after : List NamedObject) (name : ℕ)
    → Stays part before between name
    → Stays part between after name
    → Stays part before after name
stays_on part before between after name first then = grind arith

-- a part that stays through each request of a kind stays through all
module _ {X : Type 0} (part : ObjectValue → X) (limits : LimitsValue) (name : ℕ)
    (Leave : Request → Type 0)
    (one : (request : Request) (c after : Context)
    → Leave request
    → Leaves limits (changes_nodes request) c after
    → name < c.next
    → Stays part c.objects after.objects name)
  where
    through : (requests : List Request) (c later : Context)
        → IsLater limits c requests later
        → All Leave requests
        → name < c.next
        → Stays part c.objects later.objects name
    through [] c later is leave known =
        let same : c ≡ later = (let e = is.state in cc) in
        subst (λ (d : Context). Stays part c.objects d.objects name) same (grind arith)
    through (request ∷ requests) c later is leave known =
        of_state
        (λ next h given. through requests next later h (All-tail Leave request requests leave)
        given)
        (answer_to limits (Some c) request).1
        (answer_leaves limits c request
        (All-head (λ r. r ≢ ReleaseContext) request requests is.unreleased) is.keeps
        (All-head IsRequest request requests is.are))
        is.state
      where
        of_state :
            ((next : Context)
            → IsLater limits next requests later
            → name < next.next
            → Stays part next.objects later.objects name)
            → (state : State)
            → MatchOption state ⊥ (Leaves limits (changes_nodes request) c)
            → state_after limits state requests ≡ Some later
            → Stays part c.objects later.objects name
        of_state rest None left e = absurd left
        of_state rest (Some next) left e =
            stays_on part c.objects next.objects later.objects name
            (one request c next (All-head Leave request requests leave) left known)
            (rest next
            (record {
              keeps = left.keeps;
              are = All-tail IsRequest request requests is.are;
              unreleased = All-tail (λ r. r ≢ ReleaseContext) request requests is.unreleased;
              state = e;
            })
            (omega (arith, known, left.next)))

-- skeletons stay, and but for changes the nodes of graphs
pub skeletons_stay : (limits : LimitsValue) (c later : Context) (requests : List Request) (name : ℕ)
    → IsLater limits c requests later
    → name < c.next
    → Stays skeleton c.objects later.objects name
skeletons_stay limits c later requests name is known =
    through skeleton limits name (λ _. Unit {0})
    (λ request before after leave left given. left.skeletons name given) requests c later is
    (λ k d below. tt) known

pub nodes_stay : (limits : LimitsValue) (c later : Context) (requests : List Request) (name : ℕ)
    → IsLater limits c requests later
    → All (λ request. changes_nodes request name ≡ false) requests
    → name < c.next
    → Stays nodes_in c.objects later.objects name
nodes_stay limits c later requests name is leave known =
    through nodes_in limits name (λ request. changes_nodes request name ≡ false)
    (λ request before after same left given. left.nodes name given same) requests c later is
    leave known

-- the context after one request
pub after_one : (limits : LimitsValue) (c later : Context) (request : Request)
    → KeepsLimits limits c
    → IsRequest request
    → (answer_to limits (Some c) request).1 ≡ Some later
    → IsLater limits c (request ∷ []) later
after_one limits c later request h is e =
    let stays : request ≢ ReleaseContext = λ release.
    let gone : ◌≡◌ {A = State} None (Some later) =
    ap (λ r. (answer_to limits (Some c) r).1) (sym release) ∙ e in
    cc in
    record {
      keeps = h;
      are = All-replicate IsRequest 1 request is;
      unreleased = All-replicate (λ r. r ≢ ReleaseContext) 1 request stays;
      state = e;
    }

-- the skeleton of what a cell refers to stays with that of the object of its name
cell_stays : (before after : List NamedObject) (cell : Reference)
    → Stays skeleton before after cell.name
    → IsSome (object_held after cell.name)
    → option_map skeleton (object_at after cell) ≡ option_map skeleton (object_at before cell)
cell_stays before after cell stays there =
    slots_alike cell.slot (object_held after cell.name) (object_held before cell.name)
    (grind (arith, stays, there))

-- an operand is the same as long as the skeleton is
operand_determined : (before after : List NamedObject) (cell : Reference)
    → option_map skeleton (object_at after cell) ≡ option_map skeleton (object_at before cell)
    → option_map operand_of (object_at after cell) ≡ option_map operand_of (object_at before cell)
operand_determined before after cell same =
    option_map-determined skeleton operand_of operand_of operand-skeleton (object_at after cell)
    (object_at before cell) same

pub operand_stays : (before after : List NamedObject) (cell : Reference)
    → Stays skeleton before after cell.name
    → IsSome (object_held after cell.name)
    → option_map operand_of (object_at after cell) ≡ option_map operand_of (object_at before cell)
operand_stays before after cell stays there =
    operand_determined before after cell (cell_stays before after cell stays there)

-- the limits are kept later too
pub later_keeps : (limits : LimitsValue) (c later : Context) (requests : List Request)
    → IsLater limits c requests later
    → KeepsLimits limits later
later_keeps limits c later requests is =
    subst (λ (state : State). IfSome state (KeepsLimits limits)) is.state
    (state_after_keeps limits (Some c) requests is.keeps is.are)

-- ---- verdicts

-- a property of a part of an optional value holds for that part once the value is known
of_some : {X Y : Type 0} (part : X → Y) (P : Y → Type 0) (o : Option X) (y : Y)
    → option_map part o ≡ Some y
    → IfSome o (λ x. P (part x))
    → P y
of_some part P None y e h = absurd (cc)
of_some part P (Some x) y e h = let same : part x ≡ y = cc in subst P same h

-- a graph of a live name is held, and its nodes find what they name
module _ (limits : LimitsValue) (c : Context) (name : ℕ) (h : KeepsLimits limits c) where
  pub graph_held : (graph : GraphValue)
      → graph_named c.objects name ≡ Ok graph
      → object_held c.objects name ≡ Some (GraphObject graph)
  graph_held graph e = grind (arith, held_if_live c.objects name h.names)

  -- so each cell that they name holds something, under a name that was given
  pub nodes_find : (nodes : List Node)
      → option_map nodes_in (object_held c.objects name) ≡ Some nodes
      → (cell : Reference)
      → IsNamed nodes cell
      → IsSome (object_held c.objects cell.name) × (cell.name < c.next)
  nodes_find nodes e cell named =
      let stood : All (OperandsStand c.objects name) nodes =
      of_some nodes_in (All (OperandsStand c.objects name)) (object_held c.objects name) nodes e
      (named_has (λ n x. All (OperandsStand c.objects n) (nodes_in x)) c.objects name h.nodes) in
      grind (
        arith,
        (cells_stand c.objects name nodes stood).found named.0 cell named.1 named.2,
        named_has (λ n x. n < c.next) c.objects cell.name h.below,
      )

-- each cell that the nodes of a graph name has the same skeleton, and is the same operand, as long
-- as the graph has these nodes
module _ (limits : LimitsValue) (c later : Context) (requests : List Request) (name : ℕ)
    (nodes : List Node) (is : IsLater limits c requests later)
    (was : option_map nodes_in (object_held c.objects name) ≡ Some nodes)
    (now : option_map nodes_in (object_held later.objects name) ≡ Some nodes) where
  pub named_skeletons_stay : (cell : Reference)
      → IsNamed nodes cell
      → option_map skeleton (object_at later.objects cell)
      ≡ option_map skeleton (object_at c.objects cell)
  named_skeletons_stay cell named =
      let there =
      nodes_find limits later name (later_keeps limits c later requests is) nodes now cell named in
      let given = nodes_find limits c name is.keeps nodes was cell named in
      cell_stays c.objects later.objects cell
      (skeletons_stay limits c later requests cell.name is given.1) there.0

  named_stay : (cell : Reference)
      → IsNamed nodes cell
      → option_map operand_of (object_at later.objects cell)
      ≡ option_map operand_of (object_at c.objects cell)
  named_stay cell named =
      operand_determined c.objects later.objects cell (named_skeletons_stay cell named)

-- the verdict on its nodes stays, within any work bytes
pub verdict_stays_held :
    (limits : LimitsValue) (c later : Context) (requests : List Request) (name : ℕ)
    (nodes : List Node) (work : ℕ)
    → IsLater limits c requests later
    → option_map nodes_in (object_held c.objects name) ≡ Some nodes
    → option_map nodes_in (object_held later.objects name) ≡ Some nodes
    → verdict work (operand_held later.objects) nodes ≡ verdict work (operand_held c.objects) nodes
verdict_stays_held limits c later requests name nodes work is was now =
    verdict_alike nodes (operand_held later.objects) (operand_held c.objects)
    (held_alike nodes c.objects later.objects
    (named_stay limits c later requests name nodes is was now))
    work

-- so does that on a graph whose nodes stay
pub verdict_stays :
    (limits : LimitsValue) (c later : Context) (requests : List Request) (name : ℕ)
    (before after : GraphValue)
    → IsLater limits c requests later
    → All (λ request. changes_nodes request name ≡ false) requests
    → graph_named c.objects name ≡ Ok before
    → graph_named later.objects name ≡ Ok after
    → graph_verdict limits later.objects after ≡ graph_verdict limits c.objects before
verdict_stays limits c later requests name before after is leave was now =
    let nodes = nodes_of after in
    let held_before = graph_held limits c name is.keeps before was in
    let held_after =
    graph_held limits later name (later_keeps limits c later requests is) after now in
    let known : name < c.next =
    grind (arith, held_before, named_has (λ n x. n < c.next) c.objects name is.keeps.below) in
    let stay : option_map nodes_in (object_held c.objects name) ≡ Some nodes =
    grind (arith, held_after, nodes_stay limits c later requests name is leave known) in
    let same : nodes_of before ≡ nodes = grind (arith, held_before, stay) in
    verdict_stays_held limits c later requests name nodes limits.work is stay
    (ap (option_map nodes_in) held_after)
    ∙ ap (verdict limits.work (operand_held c.objects)) (sym same)

-- a graph that is ready to run stays so while its nodes stay
pub ready_stays :
    (limits : LimitsValue) (c later : Context) (requests : List Request) (name : ℕ)
    (nodes : List Node) (v : Verified)
    → IsLater limits c requests later
    → All (λ request. changes_nodes request name ≡ false) requests
    → name < c.next
    → option_map nodes_in (object_held c.objects name) ≡ Some nodes
    → IsSome (object_held later.objects name)
    → IsReady c.objects nodes v
    → IsReady later.objects nodes v
ready_stays limits c later requests name nodes v is leave known was there ready =
    ready_alike nodes c.objects later.objects
    (named_stay limits c later requests name nodes is was
    (grind (arith, nodes_stay limits c later requests name is leave known, there)))
    v ready

-- through one request, for whoever keeps what was verified
pub ready_after_one :
    (limits : LimitsValue) (c later : Context) (request : Request) (name : ℕ)
    (nodes : List Node) (v : Verified)
    → KeepsLimits limits c
    → IsRequest request
    → (answer_to limits (Some c) request).1 ≡ Some later
    → changes_nodes request name ≡ false
    → name < c.next
    → option_map nodes_in (object_held c.objects name) ≡ Some nodes
    → IsSome (object_held later.objects name)
    → IsReady c.objects nodes v
    → IsReady later.objects nodes v
ready_after_one limits c later request name nodes v h is e leaves known was there ready =
    ready_stays limits c later (request ∷ []) name nodes v (after_one limits c later request h is e)
    (All-replicate (λ r. changes_nodes r name ≡ false) 1 request leaves) known was there ready

-- what stays of the objects that are held
pub ruleset what_stays = (skeletons_stay, nodes_stay, operand_stays, verdict_stays)
