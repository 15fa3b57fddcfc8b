-- The objects of a graph that is ready to run, at the start of a run and at its end.
use Rattle.std.proofs.Common.{◌≡◌, ℕ, Bool, true, false, List, [], ◌∷◌, ◌++◌, map, refl, sym, ap, subst, ◌∙◌, inl, arith, All, Option, Some, option_map, option_and_then, if◌then◌else◌}
use Rattle.graph_run.proofs.Common.{AllIn, AllIn-permutation, AllIn-permutation_back, CanRun, CanRunNow, Reference, CellsStand, Description, HoldsKind, Image, In, In-from_map, In-left, In-right, IsDescription, IsNode, IsObject, IsStrictlyIncreasing, Kind, Lasts, NamedObject, Node, ObjectValue, Operand, Solves, Verified, VirtualImage, VirtualObject, VirtualOutput, WritesNo, named_at_start, object_at_start, reference_to, object_at, held_by_name, in_slot, is_virtual, is_virtual_object, is_written, label_of, map-determined, names_cell, names_of, object_held, one_by_one, operand_held, operand_of, operands, resolved_operand, with_written, written_by}
use Rattle.vx_base.specs.declared.kind.Kind.TheVariants as kind
use Rattle.vx_base.proofs.ImageLaws.{new_image_is}
use Rattle.graph_verify.proofs.VerdictLemmas.{can_run}
use Rattle.graph_run.specs.declared.schedule.Schedule.{Schedule}
use Rattle.graph_run.specs.Operands.{StandsFor}
use Rattle.graph_run.specs.Results.{first_objects, last_objects}
use Rattle.graph_run.specs.Schedule.{CanRunBy}
use Rattle.graph_run.proofs.BegunLaws.{begun_stays, begun_under, labels-begun, object_held-begun}
use Rattle.graph_run.proofs.HeldLaws.{seen}
use Rattle.graph_run.proofs.LastingLemmas.{Lasts-names, Lasts-trans}
use Rattle.graph_run.proofs.LinkLaws.{All-from_In, In-from_All}
use Rattle.graph_run.proofs.OperandLaws.{begun_stands, no_delay}
use Rattle.graph_run.proofs.OrderLaws.{order_gives_rounds}
use Rattle.graph_run.proofs.RunLemmas.{Lasts-outputs, written_is}
use Rattle.graph_run.proofs.SolutionLaws.{rounds_are_solution, same_seen}
use Rattle.graph_run.proofs.TurnLaws.{at_its_turn}
use Rattle.graph_run.proofs.VerifiedLemmas.{can_run_now, in_outputs, output_known, pairs_of}

-- ---- objects as a run begins

begun_as_is : (x : ObjectValue) (operand : Operand)
    → IsObject x
    →
    ((image : VirtualImage) (d : Description)
    → x ≡ VirtualObject image
    → operand ≡ Image d
    → IsDescription d)
    → IsObject (object_at_start x operand)
begun_as_is (VirtualObject image) (Image d) is described =
    let sides = described image d refl refl in
    new_image_is d.width d.height d.format sides.width sides.height
begun_as_is x operand is described = is

begun_object : (b : Bool) (o : NamedObject) (operand : Operand) → IsObject o.object
    →
    (b ≡ true
    → (image : VirtualImage) (d : Description)
    → o.object ≡ VirtualObject image
    → operand ≡ Image d
    → IsDescription d)
    → IsObject (if b then record o { object = object_at_start o.object operand } else o).object
begun_object true o operand is described = begun_as_is o.object operand is (described refl)
begun_object false o operand is described = is

own_operand : (objects : List NamedObject) (name : ℕ) (x : ObjectValue)
    → object_held objects name ≡ Some x
    → operand_held objects (reference_to name) ≡ operand_of x
own_operand objects name x there = grind (arith, there)

-- what is no virtual image as an operand is none
real_as_operand : (slot : Option ℕ) (x : ObjectValue) (operand : Operand)
    → option_map operand_of (in_slot slot x) ≡ Some operand
    → is_virtual operand ≡ false
    → is_virtual_object x ≡ false
real_as_operand slot other operand found real = grind arith

-- nodes that can run, each at its turn, leave objects
lasts_through : (steps : List Node) (l : List NamedObject)
    → All (λ o. IsObject o.object) l
    → IsStrictlyIncreasing (names_of l)
    →
    ((before after : List Node) (n : Node)
    → steps ≡ before ++ n ∷ after
    → CanRunNow (one_by_one before l) n)
    → Lasts l (one_by_one steps l)
lasts_through [] l are names can_now = record { objects = are; lasting = refl }
lasts_through (n ∷ steps) l are names can_now =
    let next : List NamedObject = with_written l (written_by n (object_at l)) in
    let first : CanRunNow l n = can_now [] steps n refl in
    let one : Lasts l next =
    subst (λ m. Lasts l m) (sym (written_is n l are first)) (Lasts-outputs n l are first names) in
    Lasts-trans l next (one_by_one steps next) one
    (lasts_through steps next one.objects (Lasts-names l next one names)
    (λ before after m parts. can_now (n ∷ before) after m (ap (λ ms. n ∷ ms) parts)))

-- ---- a graph that is ready to run

module _ {objects : List NamedObject} {v : Verified} {s : Schedule} (g : CanRunBy objects v s) where
  abbrev pub is : Reference → Operand
  is = operand_held objects

  abbrev pub known : Reference → Operand
  known = resolved_operand is g.nodes

  abbrev pub first : List NamedObject
  first = first_objects objects g.nodes

  abbrev pub last : List NamedObject
  last = last_objects objects g.nodes

  abbrev work : ℕ
  work = g.ready.runs.0

  pub graph_can : CanRun work is g.nodes
  graph_can = can_run work is g.nodes g.ready.runs.1

  pub in_nodes : (n : Node) → In n v.steps → In n g.nodes
  in_nodes n i = AllIn-permutation_back g.nodes v.steps g.ready.verified.order.same_nodes n i

  pub in_steps : (n : Node) → In n g.nodes → In n v.steps
  in_steps n i = AllIn-permutation g.nodes v.steps g.ready.verified.order.same_nodes n i

  pub is_node_of : (n : Node) → In n v.steps → IsNode n
  is_node_of n i = In-from_All IsNode g.nodes g.ready.are_nodes n (in_nodes n i)

  first_labels : map label_of first ≡ map label_of objects
  first_labels = labels-begun known g.nodes objects

  writes_no_delay : WritesNo kind.Delay g.nodes first
  writes_no_delay =
      no_delay known g.nodes first (begun_stands work is g.nodes graph_can objects g.ready.cells)

  pub solves : Solves g.nodes first last
  solves = rounds_are_solution g.nodes first graph_can.one_writer graph_can.no_cycle writes_no_delay

  pub last_labels : map label_of last ≡ map label_of objects
  last_labels = solves.labels ∙ first_labels

  -- ---- the client's objects

  -- a client's object is at the start of the run as it was before
  pub first_real : (c : Reference)
      → ((x : ObjectValue) → object_held objects c.name ≡ Some x → is_virtual_object x ≡ false)
      → object_at first c ≡ object_at objects c
  first_real c real =
      ap (option_and_then (in_slot c.slot))
      (object_held-begun known g.nodes objects c.name ∙ each (object_held objects c.name) real)
    where
      each : (o : Option ObjectValue)
          → ((x : ObjectValue) → o ≡ Some x → is_virtual_object x ≡ false)
          → option_map (begun_under known g.nodes c.name) o ≡ o
      each o plain = grind (arith, plain, begun_stays)

  pub named_real : (n : Node)
      → In n v.steps
      → (c : Reference)
      → names_cell n c ≡ true
      → is_virtual (is c) ≡ false
      → (x : ObjectValue)
      → object_held objects c.name ≡ Some x
      → is_virtual_object x ≡ false
  named_real n i c named real x there =
      real_as_operand c.slot x (is c)
      (sym
      (ap
      (λ (o : Option ObjectValue). option_map operand_of (option_and_then (in_slot c.slot) o))
      there)
      ∙ g.ready.cells.found n c (in_nodes n i) named)
      real

  -- an object that no node writes stays
  pub unwritten_seen : (c : Reference) → is_written g.nodes c ≡ false → seen last c ≡ seen first c
  unwritten_seen c none =
      same_seen (object_at last c) (object_at first c) (solves.forms c)
      (λ plain. solves.others c none plain)

  -- ---- names, objects

  names_by_labels : (l : List NamedObject)
      → map label_of l ≡ map label_of objects
      → IsStrictlyIncreasing (names_of l)
  names_by_labels l labels =
      subst IsStrictlyIncreasing
      (sym
      (map-determined label_of (λ (o : NamedObject). o.name) (λ label. label.0) (λ _. refl) l
      objects labels))
      g.names

  in_order : last ≡ one_by_one v.steps first
  in_order =
      order_gives_rounds g.nodes v.steps first g.ready.verified.order graph_can.one_writer
      (pairs_of first (names_by_labels first first_labels)) writes_no_delay

  -- whichever nodes have run, each can run
  can_at : (before : List Node)
      → AllIn before g.nodes
      → (n : Node)
      → In n g.nodes
      → CanRunNow (one_by_one before first) n
  can_at before within n i =
      can_run_now objects g.nodes v work g.ready.verified g.ready.runs.1 g.ready.cells n
      (one_by_one before first) i
      (In-from_All IsNode g.nodes g.ready.are_nodes n i)
      (In-from_All (λ m. All (λ operand. StandsFor (is operand.0) operand.1) (operands m))
      g.nodes g.ready.kinds n i)
      (λ cell named.
      (at_its_turn work is g.nodes g.ready.runs.1 objects g.ready.cells before within).found n
      cell i named)

  pub last_stands : CellsStand known g.nodes last
  last_stands =
      subst (λ (l : List NamedObject). CellsStand known g.nodes l) (sym in_order)
      (at_its_turn work is g.nodes g.ready.runs.1 objects g.ready.cells v.steps in_nodes)

  -- each node can run on the objects that the run leaves
  pub last_can : (n : Node) → In n v.steps → CanRunNow last n
  last_can n i =
      subst (λ (l : List NamedObject). CanRunNow l n) (sym in_order)
      (can_at v.steps in_nodes n (in_nodes n i))

  pub first_stands : CellsStand known g.nodes first
  first_stands =
      at_its_turn work is g.nodes g.ready.runs.1 objects g.ready.cells [] (λ m i. absurd i)

  -- each cell that a node names holds an object of the kind that its function has there
  pub first_kinds : (n : Node)
      → In n v.steps
      → (operand : Reference × Kind)
      → In operand (operands n)
      → HoldsKind first operand
  first_kinds n i =
      In-from_All (HoldsKind first) (operands n)
      (can_at [] (λ m j. absurd j) n (in_nodes n i)).kinds

  pub last_kinds : (n : Node)
      → In n v.steps
      → (operand : Reference × Kind)
      → In operand (operands n)
      → HoldsKind last operand
  last_kinds n i = In-from_All (HoldsKind last) (operands n) (last_can n i).kinds

  begun_is : (o : NamedObject) → In o objects → IsObject (named_at_start known g.nodes o).object
  begun_is o i =
      begun_object (is_written g.nodes (reference_to o.name)) o (known (reference_to o.name))
      (In-from_All (λ (p : NamedObject). IsObject p.object) objects g.are o i)
      (λ w image d same found.
      let there : object_held objects o.name ≡ Some o.object =
      In-from_All (λ (p : NamedObject). object_held objects p.name ≡ Some p.object) objects
      (held_by_name objects g.names) o i in
      let output =
      in_outputs is g.nodes v g.ready.verified (reference_to o.name) w
      (ap is_virtual (own_operand objects o.name o.object there ∙ ap operand_of same)) in
      let known_so : Image d ≡ Image output.0.desc =
      sym found
      ∙ ap known output.2
      ∙ output_known is g.nodes v g.ready.verified output.0 output.1 in
      let desc : output.0.desc ≡ d = cc in
      subst IsDescription desc
      (In-from_All (λ (p : VirtualOutput). IsDescription p.desc) v.virtual_outputs g.described
      output.0 output.1))

  first_are : All (λ o. IsObject o.object) first
  first_are = All-from_In (λ (o : NamedObject). IsObject o.object) first (λ p i.
      let from = In-from_map (named_at_start known g.nodes) p objects i in
      subst (λ (q : NamedObject). IsObject q.object) (sym from.2) (begun_is from.0 from.1))

  -- the run leaves objects, and of each what lasts
  pub last_lasts : Lasts first last
  last_lasts =
      subst (Lasts first) (sym in_order)
      (lasts_through v.steps first first_are (names_by_labels first first_labels)
      (λ before after n parts.
      can_at before
      (λ m i. in_nodes m (subst (λ l. In m l) (sym parts) (In-left m before (n ∷ after) i))) n
      (in_nodes n (subst (λ l. In n l) (sym parts) (In-right n before (n ∷ after) (inl refl))))))
