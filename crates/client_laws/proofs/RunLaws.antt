-- What a graph leaves that runs: its only solution.
use Rattle.std.proofs.Common.{◌≡◌, ◌≢◌, ℕ, Bool, true, false, List, length, map, Option, Some, None, Result, Ok, Err, IsTrue, IfSome, refl, sym, ap, subst, ◌∙◌, arith, All}
use Rattle.client_laws.proofs.Common.{aged_under, option_map, option_and_then, or_right, Kind, Node, Reference, reference_to, GraphValue, nodes_of, ObjectValue, GraphObject, object_kind, PartialDescription, written_from, Context, with_objects, in_slot, NamedObject, object_held, object_at, nodes_in, named_has, Operand, reads, writes, is_written, In, operand_of, operand_kind, operand_format, operands_of, is_image, partial_descs, as_known, resolved_operand, In-left, In-right, CanRun, can_run, rounds_of_nodes, is_virtual_object, objects_at_end, run_of_graph, CellsStand, names_cell, operand_held, All-from_In, In-from_All, kind-operand, no_delay, no_fault, each_alone, pairs_of, named_by_input, named_by_output, Refusal, Rejected, Refused, Empty, ProcessGraph, VerifyGraph, LimitsValue, reply_and_state, answer_to, State, graph_named, graph_verdict, process_found, Outcome, refusal_code, reply_unless, KeepsLimits, OperandsStand, labels-begun, label_of}
use Rattle.std.proofs.lemmas.Bool.{or_left}
use Rattle.graph_verify.specs.declared.verdict.Verdict.{Verdict}
use Rattle.client_model.specs.declared.reply.Reply.{Reply}
use Rattle.client_model.specs.Graphs.{verify_found}
use Rattle.object_table.proofs.AgeLemmas.{held_aged}
use Rattle.vx_base.specs.declared.format.Format.{Format}
use Rattle.vx_base.specs.declared.kind.Kind.TheVariants as kind
use Rattle.vx_base.specs.Graph.{is_registered}
use Rattle.graph_verify.proofs.VerifyLemmas.{first_format}
use Rattle.graph_run.specs.Solution.{WritesNo, ReadImages, form_of, kind_in}
use Rattle.graph_run.proofs.BegunLaws.{begun_under, object_held-begun, object_held-forgotten, both_held}
use Rattle.graph_run.proofs.LinkLaws.{reads_first}
use Rattle.graph_run.proofs.NameLaws.{Rising, rising}
use Rattle.graph_run.proofs.OperandLaws.{begun_stands}
use Rattle.graph_run.proofs.OrderLaws.{rounds_in_order}
use Rattle.graph_run.proofs.SolutionLaws.{rounds_are_solution, only_rising}
use Rattle.graph_run.proofs.NodeLaws.{written_held}
use Rattle.client_laws.specs.Run.{at_begin, IsTheRun, IsRunOf}
use Rattle.client_laws.proofs.InTurnLaws.{an_order}
use Rattle.client_laws.proofs.StandLaws.{cells_stand, firsts_are_images}
use Rattle.client_laws.proofs.StayLaws.{graph_held}

-- ---- what runs have to find

-- an image with a format is one that is there
image_there : (operand : Operand) (known : PartialDescription) (f : Format)
    → is_image operand ≡ true
    → operand_format (as_known operand known) ≡ Some f
    → operand_kind (as_known operand known) ≡ Some kind.Image
image_there operand known f is e = grind arith

-- an object has the kind of its operand
kind_of_operand : (found : Option ObjectValue) (operand : Operand) (k : Kind)
    → option_map operand_of found ≡ Some operand
    → operand_kind operand ≡ Some k
    → option_map object_kind found ≡ Some k
kind_of_operand found operand k e is = grind (arith, kind-operand)

-- the nodes of a graph of a context that keeps the limits find what they name
pub graph_stood : (limits : LimitsValue) (c : Context) (name : ℕ) (graph : GraphValue)
    → KeepsLimits limits c
    → graph_named c.objects name ≡ Ok graph
    → All (OperandsStand c.objects name) (nodes_of graph)
graph_stood limits c name graph h is =
    subst
    (λ (o : Option ObjectValue). IfSome o (λ x. All (OperandsStand c.objects name) (nodes_in x)))
    (graph_held limits c name h graph is)
    (named_has (λ of x. All (OperandsStand c.objects of) (nodes_in x)) c.objects name h.nodes)

-- ---- what a run leaves

module _ (limits : LimitsValue) (c : Context) (name : ℕ) (graph : GraphValue)
    (h : KeepsLimits limits c) (is_graph : graph_named c.objects name ≡ Ok graph)
    (allowed : graph_verdict limits c.objects graph ≡ None) where
  abbrev nodes : List Node
  nodes = nodes_of graph

  abbrev is : Reference → Operand
  is = operand_held c.objects

  abbrev known : Reference → Operand
  known = resolved_operand is nodes

  abbrev begin : List NamedObject
  begin = at_begin nodes c.objects

  can : CanRun limits.work is nodes
  can = can_run limits.work is nodes allowed

  stood : All (OperandsStand c.objects name) nodes
  stood = graph_stood limits c name graph h is_graph

  -- as the run begins each cell is what it was found to be
  stand : CellsStand known nodes begin
  stand = begun_stands limits.work is nodes can c.objects (cells_stand c.objects name nodes stood)

  names : Rising (map label_of begin)
  names =
      subst Rising (sym (labels-begun known nodes c.objects))
      (rising c.objects (pairs_of c.objects h.names))

  no_delays : WritesNo kind.Delay nodes begin
  no_delays = no_delay known nodes begin stand

  images : ReadImages nodes begin
  images =
      All-from_In (λ n. kind_in begin n.in1 ≡ Some kind.Image) nodes
      (λ n i.
      let format =
      first_format n.function (operands_of known n)
      (no_fault n known (each_alone limits.work is nodes allowed n i)) in
      let image =
      In-from_All (λ m. IsTrue (is_image (is m.in1))) nodes
      (firsts_are_images c.objects name nodes stood) n i in
      kind_of_operand (object_at begin n.in1) (known n.in1) kind.Image
      (stand.found n n.in1 i (or_left (reads n n.in1) (writes n n.in1) (reads_first n)))
      (image_there (is n.in1) (partial_descs is nodes n.in1) format.0 image format.1))

  the_run : IsTheRun nodes c.objects (run_of_graph known nodes c.objects)
  the_run =
      record {
        at_end = rounds_of_nodes nodes (length nodes) begin;
        solves = rounds_are_solution nodes begin can.one_writer can.no_cycle no_delays;
        only =
            λ other. only_rising nodes begin other can.one_writer can.no_cycle names no_delays
            images;
        order = an_order nodes can.no_cycle;
        in_order =
            λ steps order. sym
            (rounds_in_order nodes steps begin order can.one_writer names no_delays);
        left = refl;
      }

-- ---- what it leaves of each cell

-- as virtual images are forgotten, what is no virtual image stays, and a virtual image is what it
-- was
real_stays : (before after : List NamedObject)
    → map label_of before ≡ map label_of after
    → (name : ℕ)
    → option_map is_virtual_object (object_held before name) ≢ Some true
    → object_held (objects_at_end before after) name ≡ object_held after name
real_stays before after labels name real =
    grind (arith, object_held-forgotten before after labels name)

virtual_again : (before after : List NamedObject)
    → map label_of before ≡ map label_of after
    → (name : ℕ)
    → option_map is_virtual_object (object_held before name) ≡ Some true
    → object_held (objects_at_end before after) name ≡ object_held before name
virtual_again before after labels name virtual =
    grind (
      arith,
      object_held-forgotten before after labels name,
      both_held before after labels name,
    )

-- what isn't virtual begins as it is
begun_real : (is : Reference → Operand) (nodes : List Node) (name : ℕ) (o : Option ObjectValue)
    → option_map is_virtual_object o ≢ Some true
    → option_map (begun_under is nodes name) o ≡ o
begun_real is nodes name o real = grind arith

module _ (nodes : List Node) (before later : List NamedObject)
    (run : IsTheRun nodes before later) (cell : Reference) where
  abbrev found_to_be : Reference → Operand
  found_to_be = resolved_operand (operand_held before) nodes

  labels : map label_of before ≡ map label_of run.at_end
  labels = sym (run.solves.labels ∙ labels-begun found_to_be nodes before)

  -- the object that the reference names, given the object of its name
  abbrev in_cell : Option ObjectValue → Option ObjectValue
  in_cell = option_and_then (in_slot cell.slot)

  virtual_stays : option_map is_virtual_object (object_held before cell.name) ≡ Some true
      → object_at later cell ≡ object_at before cell
  virtual_stays virtual =
      ap (λ objects. object_at objects cell) run.left
      ∙ ap in_cell (virtual_again before run.at_end labels cell.name virtual)

  as_at_end : option_map is_virtual_object (object_held before cell.name) ≢ Some true
      → object_at later cell ≡ object_at run.at_end cell
  as_at_end real =
      ap (λ objects. object_at objects cell) run.left
      ∙ ap in_cell (real_stays before run.at_end labels cell.name real)

  real_begins : option_map is_virtual_object (object_held before cell.name) ≢ Some true
      → object_at (at_begin nodes before) cell ≡ object_at before cell
  real_begins real =
      ap in_cell
      (object_held-begun found_to_be nodes before cell.name
      ∙ begun_real found_to_be nodes cell.name (object_held before cell.name) real)

  -- what no node writes is as it was
  unwritten_stays : is_written nodes cell ≡ false
      → kind_in before cell ≢ Some kind.Delay
      → object_at later cell ≡ object_at before cell
  unwritten_stays free plain = by (option_map is_virtual_object (object_held before cell.name)) refl
    where
      other : option_map is_virtual_object (object_held before cell.name) ≢ Some true
          → object_at later cell ≡ object_at before cell
      other real =
          let begins = real_begins real in
          as_at_end real
          ∙ run.solves.others cell free
          (λ delay. plain (ap (option_map object_kind) (sym begins) ∙ delay))
          ∙ begins

      by : (v : Option Bool)
          → option_map is_virtual_object (object_held before cell.name) ≡ v
          → object_at later cell ≡ object_at before cell
      by (Some true) e = virtual_stays e
      by v e = other (λ is. cc)

-- a graph is as it was
graph_again : (nodes : List Node) (before later : List NamedObject)
    → IsTheRun nodes before later
    → (name : ℕ) (graph : GraphValue)
    → object_held before name ≡ Some (GraphObject graph)
    → object_held later name ≡ Some (GraphObject graph)
graph_again nodes before later run name graph is =
    let cell = reference_to name in
    let real : option_map is_virtual_object (object_held before name) ≢ Some true =
    λ e. let told = ap (option_map is_virtual_object) (sym is) ∙ e in
    cc in
    let begins : object_at (at_begin nodes before) cell ≡ Some (GraphObject graph) =
    real_begins nodes before later run cell real ∙ held_whole (object_held before name) ∙ is in
    sym (held_whole (object_held later name))
    ∙ as_at_end nodes before later run cell real
    ∙ of_form (object_at run.at_end cell) (run.solves.forms cell ∙ ap (option_map form_of) begins)
  where
    held_whole : (o : Option ObjectValue) → option_and_then (in_slot None) o ≡ o
    held_whole o = grind arith

    of_form : (o : Option ObjectValue)
        → option_map form_of o ≡ Some (GraphObject graph)
        → o ≡ Some (GraphObject graph)
    of_form o e = grind arith

-- what a node writes depends on the cells that it names
written_alike : (n : Node) (start begin one other : Reference → Option ObjectValue)
    → ((cell : Reference) → names_cell n cell ≡ true → start cell ≡ begin cell)
    → ((cell : Reference) → names_cell n cell ≡ true → one cell ≡ other cell)
    → written_from start n one ≡ written_from begin n other
written_alike n start begin one other begun same =
    grind (arith, named_by_input, named_by_output, In-left, In-right)

-- a cell that holds what is no virtual image is under a name of none
no_virtual : (slot : Option ℕ) (o : Option ObjectValue) (operand : Operand)
    → option_map operand_of (option_and_then (in_slot slot) o) ≡ Some operand
    → option_map object_kind (option_and_then (in_slot slot) o) ≢ Some kind.VirtualImage
    → option_map is_virtual_object o ≢ Some true
no_virtual slot o operand there real e = grind arith

-- where as much is held by the cells that a node names, it finds what it gives as before
written_again : (n : Node) (start begin one other : List NamedObject)
    → ((cell : Reference) → names_cell n cell ≡ true → object_at start cell ≡ object_at begin cell)
    → ((cell : Reference) → names_cell n cell ≡ true → object_at other cell ≡ object_at one cell)
    → All (λ w. object_at one w.0 ≡ Some w.1) (written_from (object_at begin) n (object_at one))
    → All (λ w. object_at other w.0 ≡ Some w.1) (written_from (object_at start) n (object_at other))
written_again n start begin one other begun same found =
    subst (All (λ (w : Reference × ObjectValue). object_at other w.0 ≡ Some w.1))
    (sym
    (written_alike n (object_at start) (object_at begin) (object_at other) (object_at one) begun
    same))
    (All-from_In (λ (w : Reference × ObjectValue). object_at other w.0 ≡ Some w.1)
    (written_from (object_at begin) n (object_at one))
    (λ w j.
    same w.0
    (or_right (reads n w.0) (writes n w.0) (written_held (object_at begin) n (object_at one) w j).0)
    ∙ In-from_All (λ (v : Reference × ObjectValue). object_at one v.0 ≡ Some v.1)
    (written_from (object_at begin) n (object_at one)) found w j))

module _ (nodes : List Node) (before later : List NamedObject)
    (run : IsTheRun nodes before later) (stand : CellsStand (operand_held before) nodes before)
    (n : Node) (i : In n nodes) where
  -- a node that names no virtual image finds what it gives
  found_again :
      ((cell : Reference) → names_cell n cell ≡ true → kind_in before cell ≢ Some kind.VirtualImage)
      → All (λ w. object_at later w.0 ≡ Some w.1)
      (written_from (object_at before) n (object_at later))
  found_again real =
      written_again n before (at_begin nodes before) run.at_end later
      (λ cell named_there. sym
      (real_begins nodes before later run cell (no_virtual_there cell named_there)))
      (λ cell named_there. as_at_end nodes before later run cell
      (no_virtual_there cell named_there))
      (In-from_All
      (λ m. All (λ w. object_at run.at_end w.0 ≡ Some w.1)
      (written_from (object_at (at_begin nodes before)) m (object_at run.at_end)))
      nodes
      run.solves.written n i)
    where
      no_virtual_there : (cell : Reference)
          → names_cell n cell ≡ true
          → option_map is_virtual_object (object_held before cell.name) ≢ Some true
      no_virtual_there cell named_there =
          no_virtual cell.slot (object_held before cell.name) (operand_held before cell)
          (stand.found n cell i named_there) (real cell named_there)

-- a cell of a virtual image has no slot
virtual_held : (slot : Option ℕ) (o : Option ObjectValue)
    → option_map object_kind (option_and_then (in_slot slot) o) ≡ Some kind.VirtualImage
    → option_map is_virtual_object o ≡ Some true
virtual_held slot o e = grind arith

-- ---- delays that age then

-- what isn't under one of the names is held still
unregistered_stays : (graph : GraphValue) (objects : List NamedObject) (cell : Reference)
    → is_registered graph cell.name ≡ false
    → object_at (aged_under graph.delays objects) cell ≡ object_at objects cell
unregistered_stays graph objects cell apart =
    grind (arith, held_aged graph.delays objects cell.name)

-- and so is a virtual image
virtual_unaged : (names : List ℕ) (objects : List NamedObject) (cell : Reference)
    → option_map is_virtual_object (object_held objects cell.name) ≡ Some true
    → object_at (aged_under names objects) cell ≡ object_at objects cell
virtual_unaged names objects cell virtual = grind (arith, held_aged names objects cell.name)

-- ---- requests

-- a request that succeeds is done
pub outcome_is : (c later : Context) (outcome : Outcome)
    → reply_and_state c outcome ≡ (Empty, Some later)
    → outcome ≡ Ok (Empty, Some later)
outcome_is c later (Ok done) e = ap (λ (d : Reply × State). let o : Outcome = Ok d in o) e
outcome_is c later (Err refusal) e =
    let reply : Refused (refusal_code refusal) ≡ Empty = ap (λ (d : Reply × State). d.0) e in
    absurd (cc)

-- it was refused by no verdict
pub done_is : (v : Option Verdict) (after later : Context)
    → reply_unless (option_map Rejected v) Empty after ≡ Ok (Empty, Some later)
    → (v ≡ None) × (after ≡ later)
done_is v after later e = grind arith

-- what ProcessGraph leaves is that run
pub run_is : (limits : LimitsValue) (c later : Context) (name : ℕ)
    → KeepsLimits limits c
    → answer_to limits (Some c) (ProcessGraph name) ≡ (Empty, Some later)
    → IsRunOf name c later
run_is limits c later name h done =
    of_graph (graph_named c.objects name) refl
    (outcome_is c later (process_found (graph_named c.objects name) limits c) done)
  where
    of_graph : (found : Result GraphValue Refusal)
        → graph_named c.objects name ≡ found
        → process_found found limits c ≡ Ok (Empty, Some later)
        → IsRunOf name c later
    of_graph (Err refusal) is_graph e = absurd (cc)
    of_graph (Ok graph) is_graph e =
        let left : List NamedObject =
        run_of_graph (resolved_operand (operand_held c.objects) (nodes_of graph))
        (nodes_of graph) c.objects in
        let ran =
        done_is (graph_verdict limits c.objects graph)
        (with_objects c (aged_under graph.delays left)) later e in
        subst (IsRunOf name c) ran.1
        (record {
          graph = graph;
          named = is_graph;
          left = left;
          run = the_run limits c name graph h
              is_graph ran.0;
          aged = refl;
          next = refl;
        })

-- a graph that runs is as it was, and so are the delays that age with it
pub graph_stays : (limits : LimitsValue) (c : Context) (name : ℕ) (graph : GraphValue)
    → KeepsLimits limits c
    → graph_named c.objects name ≡ Ok graph
    → graph_verdict limits c.objects graph ≡ None
    → object_held
    (run_of_graph (resolved_operand (operand_held c.objects) (nodes_of graph)) (nodes_of graph)
    c.objects)
    name
    ≡ Some (GraphObject graph)
graph_stays limits c name graph h is_graph allowed =
    graph_again (nodes_of graph) c.objects _ (the_run limits c name graph h is_graph allowed)
    name graph (graph_held limits c name h graph is_graph)

-- a graph of a name is one
one_graph : (objects : List NamedObject) (name : ℕ) (graph other : GraphValue)
    → graph_named objects name ≡ Ok graph
    → graph_named objects name ≡ Ok other
    → graph ≡ other
one_graph objects name graph other a b =
    let same : ◌≡◌ {A = Result GraphValue Refusal} (Ok graph) (Ok other) = sym a ∙ b in cc

-- so each node that names no virtual image finds what it gives
pub written_stay :
    (limits : LimitsValue) (c later : Context) (name : ℕ) (graph : GraphValue) (n : Node)
    → KeepsLimits limits c
    → answer_to limits (Some c) (ProcessGraph name) ≡ (Empty, Some later)
    → graph_named c.objects name ≡ Ok graph
    → In n (nodes_of graph)
    →
    ((cell : Reference)
    → names_cell n cell ≡ true
    → kind_in c.objects cell ≢ Some kind.VirtualImage)
    → ((cell : Reference) → names_cell n cell ≡ true → is_registered graph cell.name ≡ false)
    → All (λ w. object_at later.objects w.0 ≡ Some w.1)
    (written_from (object_at c.objects) n (object_at later.objects))
written_stay limits c later name graph n h done is_graph i real apart =
    let ran = run_is limits c later name h done in
    let same = one_graph c.objects name graph ran.graph is_graph ran.named in
    let nodes = nodes_of ran.graph in
    subst
    (λ (objects : List NamedObject). All
    (λ (w : Reference × ObjectValue). object_at objects w.0 ≡ Some w.1)
    (written_from (object_at c.objects) n (object_at objects)))
    (sym ran.aged)
    (written_again n c.objects c.objects ran.left (aged_under ran.graph.delays ran.left)
    (λ cell named_there. refl)
    (λ cell named_there. unregistered_stays ran.graph ran.left cell
    (ap (λ g. is_registered g cell.name) (sym same) ∙ apart cell named_there))
    (found_again nodes c.objects ran.left ran.run
    (cells_stand c.objects name nodes (graph_stood limits c name ran.graph h ran.named)) n
    (subst (λ (g : GraphValue). In n (nodes_of g)) same i) real))

-- each cell that no node writes holds what it held
pub others_stay :
    (limits : LimitsValue) (c later : Context) (name : ℕ) (graph : GraphValue) (cell : Reference)
    → KeepsLimits limits c
    → answer_to limits (Some c) (ProcessGraph name) ≡ (Empty, Some later)
    → graph_named c.objects name ≡ Ok graph
    → is_written (nodes_of graph) cell ≡ false
    → kind_in c.objects cell ≢ Some kind.Delay
    → is_registered graph cell.name ≡ false
    → object_at later.objects cell ≡ object_at c.objects cell
others_stay limits c later name graph cell h done is_graph free plain apart =
    let ran = run_is limits c later name h done in
    let same = one_graph c.objects name graph ran.graph is_graph ran.named in
    ap (λ objects. object_at objects cell) ran.aged
    ∙ unregistered_stays ran.graph ran.left cell
    (ap (λ g. is_registered g cell.name) (sym same) ∙ apart)
    ∙ unwritten_stays (nodes_of ran.graph) c.objects ran.left ran.run cell
    (ap (λ (g : GraphValue). is_written (nodes_of g) cell) (sym same) ∙ free) plain

-- and so does each that holds a virtual image
pub virtual_images_stay : (limits : LimitsValue) (c later : Context) (name : ℕ) (cell : Reference)
    → KeepsLimits limits c
    → answer_to limits (Some c) (ProcessGraph name) ≡ (Empty, Some later)
    → kind_in c.objects cell ≡ Some kind.VirtualImage
    → object_at later.objects cell ≡ object_at c.objects cell
virtual_images_stay limits c later name cell h done virtual =
    let ran = run_is limits c later name h done in
    let stays =
    virtual_stays (nodes_of ran.graph) c.objects ran.left ran.run cell
    (virtual_held cell.slot (object_held c.objects cell.name) virtual) in
    ap (λ objects. object_at objects cell) ran.aged
    ∙ virtual_unaged ran.graph.delays ran.left cell
    (virtual_held cell.slot (object_held ran.left cell.name)
    (ap (option_map object_kind) stays ∙ virtual))
    ∙ stays

-- ProcessGraph is answered what VerifyGraph is
pub same_reply : (limits : LimitsValue) (state : State) (name : ℕ)
    → (answer_to limits state (ProcessGraph name)).0 ≡ (answer_to limits state (VerifyGraph name)).0
same_reply limits None name = refl
same_reply limits (Some c) name = of_graph (graph_named c.objects name)
  where
    of_verdict : (v : Option Verdict) (after : Context)
        → (reply_and_state c (reply_unless (option_map Rejected v) Empty after)).0
        ≡ (reply_and_state c (reply_unless (option_map Rejected v) Empty c)).0
    of_verdict v after = grind arith

    of_graph : (found : Result GraphValue Refusal)
        → (reply_and_state c (process_found found limits c)).0
        ≡ (reply_and_state c (verify_found found limits c)).0
    of_graph (Err refusal) = refl
    of_graph (Ok graph) = of_verdict (graph_verdict limits c.objects graph) _

-- what a run leaves of each reference
pub ruleset what_a_run_leaves = (written_stay, others_stay, virtual_images_stay)
