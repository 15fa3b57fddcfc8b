-- A graph that runs keeps the limits, and what is held: as it begins, virtual images become images;
-- its rounds write to outputs what they may become;
-- and as it ends, virtual images are forgotten.
use Rattle.std.proofs.Common.{◌≡◌, inl, inr, ℕ, true, false, cond, IsTrue, List, [], ◌∷◌, ◌++◌, length, map, get_or, Option, Some, None, IfSome, refl, sym, ap, subst, ◌∙◌, All, not, ◌||◌, is_some, is_none, unwrap_or, arith}
use Rattle.client_laws.proofs.Common.{list_any, IsStrictlyIncreasing, option_map, option_and_then, not-false, All-head, All-tail, Kind, Node, Reference, parameters, nodes_of, optional_cells, inputs, operands, ObjectValue, IsObject, object_kind, in_slot, aged_under, NamedObject, object_held, object_at, Context, with_objects, Operand, Missing, writes, is_written, operand_of, operand_kind, operand_format, operands_of, partial_descs, as_known, resolved_operand, node_fault, is_unwritten_image, reads_unwritten, adds_to_virtual, first_fault, can_run, rounds_of_nodes, is_virtual_object, objects_at_end, run_of_graph, Rejected, Empty, LimitsValue, graph_verdict, process_found, operand_held, operand_in, is_kind, KeepsLimits, kind_held, holds_operand, names_of, held_kind, is_taken, kinds_taken, OperandsStand, stands_parts, CanRunOn, of_operands, labels-begun, label_of}
use Rattle.std.proofs.lemmas.List.Elements.{All-nil, All-cons, All-map}
use Rattle.client_model.proofs.OutcomeLaws.{Keeps, unless_keeps}
use Rattle.std.proofs.lemmas.Bool.{and_cases, both_ways, cond_both, or_parts}
use Rattle.std.proofs.lemmas.List.Folds.{list_any_at}
use Rattle.vx_base.specs.declared.kind.Kind.TheVariants as kind
use Rattle.vx_base.specs.declared.numbered.Numbered.{Numbered}
use Rattle.vx_base.specs.Reference.{same_reference}
use Rattle.vx_base.specs.Node.{IsNode, second_kind}
use Rattle.vx_base.specs.PartialDescription.{IsPartialDescription}
use Rattle.graph_verify.specs.Operand.{is_virtual as is_virtual_operand}
use Rattle.graph_verify.proofs.LinkLemmas.{same_cell-refl}
use Rattle.graph_run.specs.Graph.{object_at_start, named_at_start}
use Rattle.client_model.specs.Graphs.{process_graph}
use Rattle.object_table.proofs.HeldLemmas.{held_by_name, held_is, object_held-map}
use Rattle.client_model.proofs.HoldLaws.{each_fails}
use Rattle.client_model.proofs.StateLaws.{alike_leaves}
use Rattle.graph_verify.proofs.SuitLemmas.{Suits, no_fault_suits}
use Rattle.client_model.proofs.NodeStepLaws.{CanGive, CanGiveTo, neither, second_there, not_rejected}
use Rattle.client_model.proofs.DelayStepLaws.{aged_under_last}
use Rattle.client_model.proofs.GraphStepLaws.{of_graph}
use Rattle.client_laws.proofs.RoundLaws.{rounds_last}
use Rattle.client_model.proofs.BegunLaws.{object_partial_desc_is, rounds_are, begun_is_object, slot_as_begun, image_as_begun, Taken, taken_as_begun, kind_as_begun, SecondTaken, give_as_taken}
use Rattle.graph_run.proofs.BegunLaws.{begun_if, virtual_as_operand}
use Rattle.graph_run.proofs.SolutionStepsReturns.{forgotten_lasting}
use Rattle.object_table.proofs.SkeletonLaws.{map-determined}

-- ---- the cells of a node

-- where the verdict is none, no node has a fault
each_faultless : (known : Reference → Operand) (nodes : List Node)
    → first_fault known nodes ≡ None
    → All (λ n. node_fault n.function (operands_of known n) ≡ None) nodes
each_faultless known [] h = All-nil (λ n. node_fault n.function (operands_of known n) ≡ None)
each_faultless known (n ∷ nodes) h =
    let parts = neither (node_fault n.function (operands_of known n)) (first_fault known nodes) h in
    All-cons (λ m. node_fault m.function (operands_of known m) ≡ None) n nodes parts.0
    (each_faultless known nodes parts.1)

-- each output of a node is one
own_outputs : (first second : Option Reference)
    → IfSome first
    (λ cell. list_any (same_reference cell) (optional_cells first ++ optional_cells second) ≡ true)
    × IfSome second
    (λ cell. list_any (same_reference cell) (optional_cells first ++ optional_cells second) ≡ true)
own_outputs first second = grind (arith, same_cell-refl)

-- so is its second input
own_second : (P : Reference → Type 0) (cell : Option Reference)
    → All P (optional_cells cell)
    → IfSome cell P
own_second P None h = tt
own_second P (Some x) h = All-head P x [] h

if_both : {X : Type 0} (P Q R : X → Type 0) (x : Option X)
    → IfSome x P
    → IfSome x Q
    → ((y : X) → P y → Q y → R y)
    → IfSome x R
if_both P Q R x p q both = grind arith

-- a node has a second input where its function has one
second_if_given : (n : Node)
    → IsNode n
    → (known : Reference → Operand)
    → is_some (option_map known n.in2) ≡ true
    → is_some (parameters n.function).second_input ≡ true
second_if_given n node known = grind (arith, second_there n node.shape)

-- ---- objects as a run begins

module _ (objects : List NamedObject) (nodes : List Node)
    (are : All (λ o. IsObject o.object) objects) (names : IsStrictlyIncreasing (names_of objects))
  where
    abbrev is : Reference → Operand
    is = operand_held objects

    abbrev found_to_be : Reference → Operand
    found_to_be = resolved_operand is nodes

    abbrev begin : List NamedObject
    begin = map (named_at_start found_to_be nodes) objects

    -- what an object becomes that a cell holds
    abbrev begun_in : Reference → ObjectValue → ObjectValue
    begun_in cell object = begun_if (is_written nodes cell) object (found_to_be cell)

    abbrev whole : ℕ → Reference
    whole name = record { name = name; slot = None }

    known_are : (cell : Reference) → IsPartialDescription (partial_descs is nodes cell)
    known_are =
        rounds_are is
        (λ cell. object_partial_desc_is (object_at objects cell) (held_is objects cell are))
        nodes (length nodes)

    -- each object becomes what the cell of its name does
    begun_object : (o : NamedObject)
        → (named_at_start found_to_be nodes o).object ≡ begun_in (whole o.name) o.object
    begun_object o = grind arith

    begun_name : (o : NamedObject) → (named_at_start found_to_be nodes o).name ≡ o.name
    begun_name o =
        cond_both (is_written nodes (whole o.name))
        (record o { object = object_at_start o.object (found_to_be (whole o.name)) }) o
        (λ p. p.name ≡ o.name) (λ e. refl) (λ e. refl)

    begin_increases : IsStrictlyIncreasing (names_of begin)
    begin_increases =
        let same =
        map-determined label_of (λ o. o.name) (λ label. label.0) (λ o. refl) begin objects
        (labels-begun found_to_be nodes objects) in
        subst IsStrictlyIncreasing (sym same) names

    -- they are objects
    begin_is : All (λ o. IsObject o.object) begin
    begin_is =
        All-map (λ o. IsObject o.object) (named_at_start found_to_be nodes) objects
        (λ k d below.
        let o : NamedObject = get_or objects k d in
        let cell = whole o.name in
        let own : is cell ≡ operand_of o.object =
        ap
        (λ found. unwrap_or (option_map operand_of (option_and_then (in_slot None) found)) Missing)
        (held_by_name objects names k d below) in
        subst IsObject (sym (begun_object o))
        (subst
        (λ operand. IsObject
        (begun_if (is_written nodes cell) o.object
        (as_known operand (partial_descs is nodes cell))))
        (sym own)
        (begun_is_object o.object (partial_descs is nodes cell) (is_written nodes cell)
        (are k d below) (known_are cell))))

    -- a cell holds what it held, as that becomes
    held_begun : (cell : Reference)
        → object_at begin cell ≡ option_map (begun_in cell) (object_at objects cell)
    held_begun cell =
        ap (option_and_then (in_slot cell.slot))
        (object_held-map (named_at_start found_to_be nodes) (begun_in (whole cell.name)) objects
        cell.name begun_name (λ o e. begun_object o ∙ ap (λ n. begun_in (whole n) o.object) e))
        ∙ in_its_slot cell.slot (object_held objects cell.name)
      where
        in_its_slot : (slot : Option ℕ) (object : Option ObjectValue)
            → option_and_then (in_slot slot) (option_map (begun_in (whole cell.name)) object)
            ≡ option_map (begun_in (record { name = cell.name; slot = slot }))
            (option_and_then (in_slot slot) object)
        in_its_slot slot object = grind (arith, slot_as_begun, image_as_begun)

    -- ---- what a node sees as a run begins

    -- what a cell holds then, as an operand: what the verdict took it for, and of the kind that is
    -- wanted there
    record Sees (cell : Reference) (wanted : Kind) : Type 0 where
      operand : Operand
      found : operand_in begin cell ≡ Some operand
      taken : Taken (found_to_be cell) operand
      kind : is_kind wanted (operand_kind operand) ≡ true

    -- a valid reference, which a node writes if it names a virtual image
    sees : (graph : ℕ) (cell : Reference) (wanted : Kind)
        → is_taken wanted ≡ true
        → IsTrue (holds_operand objects graph (cell, wanted))
        → (is_virtual_operand (is cell) ≡ true → is_written nodes cell ≡ true)
        → Sees cell wanted
    sees graph cell wanted taken stood written =
        let parts = stands_parts objects graph (cell, wanted) stood in
        of_held (object_at objects cell) refl (held_kind objects cell) parts.there
      where
        of_held : (object : Option ObjectValue)
            → object_at objects cell ≡ object
            → IfSome object (λ x. kind_held objects cell ≡ Some (object_kind x))
            → is_none object ≡ false
            → Sees cell wanted
        of_held None e kinds there = absurd (cc)
        of_held (Some x) e kinds there =
            let own : is cell ≡ operand_of x =
            ap (λ found. unwrap_or (option_map operand_of found) Missing) e in
            let known = partial_descs is nodes cell in
            record {
              operand = operand_of (begun_in cell x);
              found =
                  ap (option_map operand_of) (held_begun cell ∙ ap (option_map (begun_in cell)) e);
              taken =
                  subst
                  (λ operand. Taken (as_known operand known)
                  (operand_of (begun_if (is_written nodes cell) x (as_known operand known))))
                  (sym own)
                  (taken_as_begun x known (is_written nodes cell)
                  (λ virtual. written (ap is_virtual_operand own ∙ virtual_as_operand x virtual)));
              kind =
                  kind_as_begun x (is_written nodes cell) (found_to_be cell) wanted taken
                  (subst (λ k. is_kind wanted k ≡ true) kinds
                  (stands_parts objects graph (cell, wanted) stood).kind);
            }

    -- what is known of an operand of a node of a graph
    record IsOperand (graph : ℕ) (operand : Reference × Kind) : Type 0 where
      stood : IsTrue (holds_operand objects graph operand)
      taken : is_taken operand.1 ≡ true

    -- a node with valid operands, no fault and no unwritten virtual input can run as the run begins
    node_can : (graph : ℕ) (n : Node)
        → IsNode n
        → OperandsStand objects graph n
        → node_fault n.function (operands_of found_to_be n) ≡ None
        → list_any (is_unwritten_image is nodes) (inputs n) ≡ false
        → ((cell : Reference) → writes n cell ≡ true → is_written nodes cell ≡ true)
        → CanRunOn (operand_in begin) n
    node_can graph n node stood faultless read written =
        let each : All (IsOperand graph) (operands n) =
        λ k d below. record { stood = stood k d below; taken = kinds_taken n k d below } in
        let operand = of_operands (IsOperand graph) n each in
        let fail = each_fails (is_unwritten_image is nodes) (inputs n) read in
        let outs = own_outputs n.out1 n.out2 in
        let suit = no_fault_suits n.function (operands_of found_to_be n) faultless in
        let first =
        see_read n.in1 kind.Image
        (All-head (λ cell. is_unwritten_image is nodes cell ≡ false) n.in1
        (optional_cells n.in2) fail)
        operand.in1 in
        let second =
        if_both (λ cell. is_unwritten_image is nodes cell ≡ false)
        (λ cell. IsOperand graph (cell, second_kind n)) (λ cell. Sees cell (second_kind n))
        n.in2
        (own_second (λ cell. is_unwritten_image is nodes cell ≡ false) n.in2
        (All-tail (λ cell. is_unwritten_image is nodes cell ≡ false) n.in1
        (optional_cells n.in2) fail))
        operand.in2 (λ cell. see_read cell (second_kind n)) in
        record {
          node = node;
          out1 = to_output first second n.out1 outs.0 operand.out1 suit.0;
          out2 = to_output first second n.out2 outs.1 operand.out2 suit.1;
        }
      where
        look : Reference → Option Operand
        look = operand_in begin

        output : Kind
        output = (parameters n.function).output

        see_read : (cell : Reference) (wanted : Kind)
            → is_unwritten_image is nodes cell ≡ false
            → IsOperand graph (cell, wanted)
            → Sees cell wanted
        see_read cell wanted tied o =
            sees graph cell wanted o.taken o.stood
            (λ virtual. elim
            (and_cases (is_virtual_operand (is cell)) (not (is_written nodes cell)) tied) [
              | inl real ↦ absurd (both_ways (is_virtual_operand (is cell)) real virtual)
              | inr there ↦ not-false (is_written nodes cell) there
            ])

        as_second : (cell : Option Reference)
            → IfSome cell (λ x. Sees x (second_kind n))
            → SecondTaken (second_kind n) (option_map found_to_be cell) (option_and_then look cell)
        as_second None seen = tt
        as_second (Some x) seen =
            subst (λ o. SecondTaken (second_kind n) (Some (found_to_be x)) o) (sym seen.found)
            (seen.taken, seen.kind)

        to_output : Sees n.in1 kind.Image
            → IfSome n.in2 (λ cell. Sees cell (second_kind n))
            → (out : Option Reference)
            → IfSome out (λ cell. writes n cell ≡ true)
            → IfSome out (λ cell. IsOperand graph (cell, output))
            → IfSome (option_map found_to_be out)
            (Suits n.function (found_to_be n.in1)
            (option_and_then operand_format (option_map found_to_be n.in2)))
            → CanGiveTo n.function (look n.in1) (option_and_then look n.in2)
            (option_and_then look out)
        to_output first second None writes_it o suits =
            subst (λ a. CanGiveTo n.function a (option_and_then look n.in2) None)
            (sym first.found) tt
        to_output first second (Some cell) writes_it o suits =
            let seen = sees graph cell output o.taken o.stood (λ virtual. written cell writes_it) in
            let elsewhere = option_and_then look n.in2 in
            subst (λ a. CanGiveTo n.function a elsewhere (look cell)) (sym first.found)
            (subst (λ b. IfSome b (CanGive n.function first.operand elsewhere)) (sym seen.found)
            (give_as_taken n node (found_to_be n.in1) first.operand (found_to_be cell)
            seen.operand (option_map found_to_be n.in2) elsewhere
            (second_if_given n node found_to_be) first.taken seen.taken (as_second n.in2 second)
            suits))

-- ---- as a run ends

-- once virtual images are forgotten, all are objects
forgotten_are : (objects after : List NamedObject)
    → All (λ o. IsObject o.object) objects
    → All (λ o. IsObject o.object) after
    → All (λ o. IsObject o.object) (objects_at_end objects after)
forgotten_are [] after were are = are
forgotten_are (o ∷ objects) [] were are = are
forgotten_are (o ∷ objects) (p ∷ after) were are =
    let Is : NamedObject → Type 0 = λ q. IsObject q.object in
    All-cons Is (cond (is_virtual_object o.object) o p) (objects_at_end objects after)
    (grind (arith, were 0 o (omega arith), are 0 p (omega arith)))
    (forgotten_are objects after (All-tail Is o objects were) (All-tail Is p after are))

-- ---- runs

-- a graph that runs keeps the limits, and what is held
pub process_graph_keeps : (limits : LimitsValue) (c : Context) (name : ℕ)
    → KeepsLimits limits c
    → Keeps limits c (process_graph limits c name)
process_graph_keeps limits c name h =
    of_graph limits c name h (λ graph. Keeps limits c (process_found graph limits c))
    (λ refusal. tt)
    (λ graph found is stood.
    let objects : List NamedObject = c.objects in
    let nodes = nodes_of graph in
    let operand = operand_held objects in
    let known = resolved_operand operand nodes in
    let begin : List NamedObject = map (named_at_start known nodes) objects in
    let run : List NamedObject = run_of_graph known nodes objects in
    unless_keeps limits c (option_map Rejected (graph_verdict limits objects graph)) Empty
    (with_objects c (aged_under graph.delays run))
    (λ allowed.
    let runs =
    can_run limits.work operand nodes (not_rejected (graph_verdict limits objects graph) allowed) in
    let are_nodes : All IsNode nodes =
    All-map IsNode (λ (n : Numbered). n.node) graph.nodes is.nodes in
    let faultless = each_faultless known nodes runs.no_fault in
    let tied =
    each_fails (λ n. reads_unwritten operand nodes n || adds_to_virtual operand n) nodes
    runs.no_unwritten_input in
    let can : All (CanRunOn (operand_in begin)) nodes = λ k d below.
    node_can objects nodes h.objects h.names name (get_or nodes k d) (are_nodes k d below)
    (stood k d below) (faultless k d below)
    (or_parts (reads_unwritten operand nodes (get_or nodes k d))
    (adds_to_virtual operand (get_or nodes k d)) (tied k d below)).0
    (λ cell writes_it. list_any_at (λ n. writes n cell) nodes k d below writes_it) in
    let ran =
    rounds_last nodes (length nodes) begin (begin_is objects nodes h.objects h.names)
    (begin_increases objects nodes h.objects h.names) can in
    let left : List NamedObject = rounds_of_nodes nodes (length nodes) begin in
    let aged =
    aged_under_last graph.delays run (forgotten_are objects left h.objects ran.objects) in
    alike_leaves limits (λ name. false) c h (aged_under graph.delays run)
    (record {
      objects = aged.objects;
      lasting = aged.lasting
          ∙ forgotten_lasting known nodes objects left ran.lasting;
    })))
