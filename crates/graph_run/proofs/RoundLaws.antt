-- Rounds and runs of objects, as rounds and runs of what is seen at each cell.
use Rattle.std.proofs.Common.{◌≡◌, ℕ, zero, suc, Bool, true, false, List, [], ◌∷◌, map, refl, ap, ◌∙◌, inl, inr, Option, None, arith, option_map}
use Rattle.graph_run.proofs.Common.{list_any, flat_map, cases_Bool, or_parts, fun_ext, Node, Reference, ObjectValue, written_from, written_by, NamedObject, object_at, with_written, In, AllIn, writes, OneWriter, rounds_of_nodes, one_by_one, WritesNo, form_held, label_of, In-from_any, any-from_In, In-from_flat_map, option_or}
use Rattle.vx_base.specs.declared.kind.Kind.TheVariants as kind
use Rattle.graph_verify.specs.Rounds as cells
use Rattle.graph_run.specs.Graph.{round_of_nodes}
use Rattle.graph_run.proofs.ObjectLaws.{shown}
use Rattle.graph_run.proofs.HeldLaws.{seen, AreWrites, last_to, last_to-append, or_assoc, map-or, kind-form_seen, seen-with_written, form-with_written, labels-with_written}
use Rattle.graph_run.proofs.NodeLaws.{given_from, given_in, shown-given_from, last_written, last_elsewhere, AreWrites-written}

-- ---- what a round of anything gives a cell

module _ {N C V : Type 0} (writes : N → C → Bool) (value : N → (C → V) → C → V) where
  -- where it has one writer, that node's value
  pub round_written : (ns : List N) (object_at : C → V) (c : C) (n : N)
      → cells.OneWriter writes ns
      → In n ns
      → writes n c ≡ true
      → cells.round writes value ns object_at c ≡ value n object_at c
  round_written [] object_at c n one i w = absurd i
  round_written (m ∷ ns) object_at c n one (inl same) w = grind (arith, same)
  round_written (m ∷ ns) object_at c n one (inr j) w =
      grind (
        arith,
        cases_Bool (writes m c),
        one m n c (inl refl) (inr j),
        round_written ns object_at c n (λ x y d p q. one x y d (inr p) (inr q)) j w,
      )

  -- where it has none, what it held
  pub round_other : (ns : List N) (object_at : C → V) (c : C)
      → list_any (λ n. writes n c) ns ≡ false
      → cells.round writes value ns object_at c ≡ object_at c
  round_other [] object_at c h = refl
  round_other (n ∷ ns) object_at c h =
      let both = or_parts (writes n c) (list_any (λ m. writes m c) ns) h in
      rw both.0 (round_other ns object_at c both.1)

-- what is seen is rounded alike
shown-round :
    (start : Reference → Option ObjectValue) (ns : List Node)
    (object_at : Reference → Option ObjectValue) (c : Reference)
    → option_map shown (cells.round writes (given_from start) ns object_at c)
    ≡ cells.round writes (given_from (λ d. option_map shown (start d))) ns
    (λ d. option_map shown (object_at d)) c
shown-round start [] object_at c = refl
shown-round start (n ∷ ns) object_at c = elim (cases_Bool (writes n c)) [
  | inl e ↦ rw e (shown-given_from start n object_at c)
  | inr e ↦ rw e (shown-round start ns object_at c)
]

-- ---- what is written in a round

none_last :
    (start : Reference → Option ObjectValue) (ns : List Node)
    (object_at : Reference → Option ObjectValue) (c : Reference)
    → list_any (λ n. writes n c) ns ≡ false
    → last_to c (flat_map (λ n. written_from start n object_at) ns) ≡ None
none_last start [] object_at c h = refl
none_last start (n ∷ ns) object_at c h =
    grind (
      arith,
      or_parts (writes n c) (list_any (λ m. writes m c) ns) h,
      last_to-append c (written_from start n object_at)
          (flat_map (λ m. written_from start m object_at) ns),
      none_last start ns object_at c,
      last_elsewhere start n object_at c,
    )

last_in_round :
    (start : Reference → Option ObjectValue) (ns : List Node)
    (object_at : Reference → Option ObjectValue) (c : Reference)
    → OneWriter writes ns
    → option_or (last_to c (flat_map (λ n. written_from start n object_at) ns)) (object_at c)
    ≡ cells.round writes (given_from start) ns object_at c
last_in_round start [] object_at c one = refl
last_in_round start (n ∷ ns) object_at c one =
    grind (
      arith,
      last_in_round start ns object_at c,
      last_to-append c (written_from start n object_at)
          (flat_map (λ m. written_from start m object_at) ns),
      last_written start n object_at c,
      cases_Bool (list_any (λ m. writes m c) ns),
      In-from_any (λ z. writes z c) ns,
      or_assoc,
      cases_Bool (writes n c),
      round_written writes (given_from start) ns object_at c,
      given_from start,
      none_last start ns object_at c,
    )

-- objects whose forms are those of others
abbrev SameForms : List NamedObject → List NamedObject → Type 0
SameForms start objects = (c : Reference) → form_held objects c ≡ form_held start c

AreWrites-node : (nodes : List Node) (start objects : List NamedObject)
    → SameForms start objects
    → WritesNo kind.Delay nodes objects
    → (n : Node)
    → In n nodes
    → AreWrites objects (written_from (object_at start) n (object_at objects))
AreWrites-node nodes start objects forms whole n i =
    AreWrites-written start objects n forms
    (λ c w. whole c (any-from_In (λ m. writes m c) n nodes i w))

AreWrites-round : (nodes : List Node) (start objects : List NamedObject)
    → SameForms start objects
    → WritesNo kind.Delay nodes objects
    → AreWrites objects (flat_map (λ n. written_from (object_at start) n (object_at objects)) nodes)
AreWrites-round nodes start objects forms whole w i =
    grind (arith, In-from_flat_map, AreWrites-node)

-- where forms are the same, no delay is written as a whole either
pub WritesNo-forms : (nodes : List Node) (old new : List NamedObject)
    → ((c : Reference) → form_held new c ≡ form_held old c)
    → WritesNo kind.Delay nodes old
    → WritesNo kind.Delay nodes new
WritesNo-forms nodes old new forms whole c w e =
    grind (arith, kind-form_seen (object_at old c), kind-form_seen (object_at new c))

-- ---- rounds and runs

seen-round : (nodes : List Node) (start objects : List NamedObject)
    → OneWriter writes nodes
    → SameForms start objects
    → WritesNo kind.Delay nodes objects
    → seen (round_of_nodes nodes start objects)
    ≡ cells.round writes (given_from (seen start)) nodes (seen objects)
seen-round nodes start objects one forms whole =
    grind (
      arith,
      seen-with_written
          (flat_map (λ n. written_from (object_at start) n (object_at objects)) nodes) objects
          (AreWrites-round nodes start objects forms whole),
      AreWrites-round nodes start objects forms whole,
      map-or shown,
      shown,
      last_to,
      last_in_round (object_at start) nodes (object_at objects),
      shown-round (object_at start) nodes (object_at objects),
    )

seen-step : (nodes : List Node) (n : Node) (objects : List NamedObject)
    → WritesNo kind.Delay nodes objects
    → In n nodes
    → seen (with_written objects (written_by n (object_at objects)))
    ≡ cells.step writes given_in n (seen objects)
seen-step nodes n objects whole i = fun_ext (λ c.
    grind (
      arith,
      seen-with_written (written_by n (object_at objects)) objects
          (AreWrites-node nodes objects objects (λ d. refl) whole n i) c,
      map-or shown
          (last_to c (written_by n (object_at objects))) (object_at objects c),
      last_written
          (object_at objects) n (object_at objects) c,
      cases_Bool (writes n c),
      shown-given_from
          (object_at objects) n (object_at objects) c,
    ))

pub form-rounds : (nodes : List Node) (k : ℕ) (objects : List NamedObject)
    → WritesNo kind.Delay nodes objects
    → (c : Reference)
    → form_held (rounds_of_nodes nodes k objects) c ≡ form_held objects c
form-rounds nodes zero objects whole c = refl
form-rounds nodes (suc k) objects whole c =
    let before : List NamedObject = rounds_of_nodes nodes k objects in
    let forms = form-rounds nodes k objects whole in
    form-with_written
    (flat_map (λ n. written_from (object_at objects) n (object_at before)) nodes) before
    (AreWrites-round nodes objects before forms (WritesNo-forms nodes objects before forms whole))
    c
    ∙ forms c

pub seen-rounds : (nodes : List Node) (k : ℕ) (objects : List NamedObject)
    → OneWriter writes nodes
    → WritesNo kind.Delay nodes objects
    → seen (rounds_of_nodes nodes k objects)
    ≡ cells.rounds writes (given_from (seen objects)) nodes k (seen objects)
seen-rounds nodes zero objects one whole = refl
seen-rounds nodes (suc k) objects one whole =
    let before : List NamedObject = rounds_of_nodes nodes k objects in
    let forms = form-rounds nodes k objects whole in
    seen-round nodes objects before one forms (WritesNo-forms nodes objects before forms whole)
    ∙ ap (cells.round writes (given_from (seen objects)) nodes)
    (seen-rounds nodes k objects one whole)

pub labels-rounds : (nodes : List Node) (k : ℕ) (objects : List NamedObject)
    → map label_of (rounds_of_nodes nodes k objects) ≡ map label_of objects
labels-rounds nodes zero objects = refl
labels-rounds nodes (suc k) objects =
    grind (arith, labels-rounds nodes k objects, labels-with_written)

pub seen-one_by_one : (nodes steps : List Node) (objects : List NamedObject)
    → WritesNo kind.Delay nodes objects
    → AllIn steps nodes
    → seen (one_by_one steps objects) ≡ cells.one_pass writes given_in steps (seen objects)
seen-one_by_one nodes [] objects whole within = refl
seen-one_by_one nodes (n ∷ steps) objects whole within =
    let ws = written_by n (object_at objects) in
    let after : List NamedObject = with_written objects ws in
    let are = AreWrites-node nodes objects objects (λ d. refl) whole n (within n (inl refl)) in
    seen-one_by_one nodes steps after
    (WritesNo-forms nodes objects after (form-with_written ws objects are) whole)
    (λ x i. within x (inr i))
    ∙ ap (cells.one_pass writes given_in steps)
    (seen-step nodes n objects whole (within n (inl refl)))

pub labels-one_by_one : (steps : List Node) (objects : List NamedObject)
    → map label_of (one_by_one steps objects) ≡ map label_of objects
labels-one_by_one [] objects = refl
labels-one_by_one (n ∷ steps) objects =
    grind (
      arith,
      labels-one_by_one steps (with_written objects (written_by n (object_at objects))),
      labels-with_written,
    )
