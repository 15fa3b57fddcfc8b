-- Graphs that change, and names that are released, keep the limits, and what is held.
use Rattle.std.proofs.Common.{◌≡◌, ℕ, ◌<◌, ◌^◌, true, false, IsTrue, List, [], ◌∷◌, map, Option, Some, None, Ok, Err, IfSome, refl, sym, subst, arith, All, ◌==◌, not, is_none, eqb-true, Result, suc, ap}
use Rattle.client_model.proofs.Common.{option_map, cond_both, not-false, All-tail, All-filter, All-map, All-push, All-weaker, list_any-append, Node, Numbered, Reference, reference_to, IsNode, operands, ObjectValue, GraphObject, IsObject, PartialDescription, NamedObject, object_held, with_object, Context, object_named, with_objects, with_graph, names_it, uses, is_used, is_held, still_held, nodes_in, Empty, LimitsValue, operands_refusal, holds_operand, NodesStand, KeepsLimits, All-from_map, named_has, object_held_has, Refusal, GraphValue, IsGraph}
use Rattle.client_model.specs.declared.refusal.Refusal.TheVariants.{InvalidReference, NoResources, InvalidType}
use Rattle.vx_base.specs.declared.kind.Kind.TheVariants as kind
use Rattle.vx_base.specs.Graph.{new_graph, nodes_of, can_add, with_node, has_node, without_node}
use Rattle.vx_base.specs.PartialDescription.{IsPartialDescription}
use Rattle.object_table.specs.Delay.{with_slot}
use Rattle.object_table.specs.Holds.{without_name}
use Rattle.graph_verify.proofs.GraphLemmas.{IsGraph-with_node, IsGraph-without_node}
use Rattle.client_model.specs.declared.reply.Reply.TheVariants as reply
use Rattle.client_model.specs.Graphs.{as_graph, graph_named, create_virtual_image, add_to, add_node, remove_from, remove_node}
use Rattle.client_model.specs.Objects.{release}
use Rattle.object_table.proofs.HeldLemmas.{HasObject, All-with_object, map-with_object}
use Rattle.graph_run.proofs.HeldLaws.{object_held-with_object}
use Rattle.client_model.proofs.NamedLaws.{held_if_live, live_has, kind_if_live}
use Rattle.client_model.proofs.HoldLaws.{OperandsStand, stands_from}
use Rattle.client_model.proofs.StateLaws.{Leaves, live_skeleton, All-alike, still_leaves, all_leaves}
use Rattle.client_model.proofs.NodeStepLaws.{Passes, operands_pass}
use Rattle.client_model.proofs.OutcomeLaws.{KeepsBut, Keeps, refused_or_keeps, create_keeps}
use Rattle.graph_run.proofs.CellLemmas.{held_once}

-- a new graph is one
pub new_graph_is : IsGraph new_graph
new_graph_is = grind arith

-- ---- a name that isn't live

-- the objects of other names stay, and the one of this name but for its mark
map-unnamed : {X : Type 0} (f : NamedObject → X)
    → ((o : NamedObject) → f (record o { live = false }) ≡ f o)
    → (objects : List NamedObject) (name : ℕ)
    → map f (without_name objects name) ≡ map f objects
map-unnamed f same [] name = refl
map-unnamed {X} f same (o ∷ objects) name = grind (arith, map-unnamed f same objects name)

object_held-unnamed : (objects : List NamedObject) (name other : ℕ)
    → object_held (without_name objects name) other ≡ object_held objects other
object_held-unnamed [] name other = refl
object_held-unnamed (o ∷ objects) name other = grind (arith, object_held-unnamed objects name other)

-- a release keeps the limits, and what is held
pub release_keeps : (limits : LimitsValue) (c : Context) (name : ℕ)
    → KeepsLimits limits c
    → Keeps limits c (release c name)
release_keeps limits c name h =
    let after : List NamedObject = without_name c.objects name in
    let skeletons_again = map-unnamed live_skeleton (λ o. refl) c.objects name in
    let named_object : NamedObject → ℕ × ObjectValue = λ o. (o.name, o.object) in
    let again = map-unnamed named_object (λ o. refl) c.objects name in
    cond_both (is_none (object_named c.objects name)) (Err InvalidReference)
    (Ok (Empty, Some (with_objects c (still_held after)))) (Keeps limits c)
    (λ unknown. tt)
    (λ known. still_leaves limits c after h skeletons_again (λ name. false)
    (All-alike named_object (λ o. IsObject o.1) c.objects after again h.objects)
    (All-alike named_object (λ o. All (OperandsStand c.objects o.0) (nodes_in o.1)) c.objects
    after again h.nodes)
    (λ other kept. ap (option_map nodes_in) (object_held-unnamed c.objects name other)))

-- ---- graphs

module _ (limits : LimitsValue) (c : Context) (name : ℕ) (h : KeepsLimits limits c) where
  -- what holds of the object of a live name
  pub graph_is : IfSome (object_named c.objects name) IsObject
  graph_is =
      live_has c.objects name IsObject h.names (object_held_has IsObject c.objects name h.objects)

  pub graph_stands :
      IfSome (object_named c.objects name)
      (λ object. All (OperandsStand c.objects name) (nodes_in object))
  graph_stands =
      live_has c.objects name (λ object. All (OperandsStand c.objects name) (nodes_in object))
      h.names
      (named_has (λ of object. All (OperandsStand c.objects of) (nodes_in object)) c.objects
      name h.nodes)

  -- a property that holds for every refusal, and for every graph that is held with valid operands,
  -- holds for the graph of a live name
  pub of_graph : (P : Result GraphValue Refusal → Type 0) → ((refusal : Refusal) → P (Err refusal))
      →
      ((graph : GraphValue)
      → object_held c.objects name ≡ Some (GraphObject graph)
      → IsGraph graph
      → All (OperandsStand c.objects name) (nodes_of graph)
      → P (Ok graph))
      → P (graph_named c.objects name)
  of_graph P refused one =
      of_object (object_named c.objects name) (held_if_live c.objects name h.names) graph_is
      graph_stands
    where
      of_object : (object : Option ObjectValue)
          → IfSome object (λ x. object_held c.objects name ≡ Some x)
          → IfSome object IsObject
          → IfSome object (λ x. All (OperandsStand c.objects name) (nodes_in x))
          → P (as_graph object)
      of_object None found is stood = refused InvalidReference
      of_object (Some (GraphObject graph)) found is stood = one graph found is stood
      of_object (Some other) found is stood = refused InvalidType

-- a graph that changes
module _ (limits : LimitsValue) (c : Context) (name : ℕ) (graph new : GraphValue)
    (h : KeepsLimits limits c) (found : object_held c.objects name ≡ Some (GraphObject graph)) where
  abbrev after : List NamedObject
  after = with_graph c.objects name new

  -- it is the only object of its name
  alone : All (HasObject name (GraphObject graph)) c.objects
  alone = held_once c.objects name (GraphObject graph) h.names found

  -- its name and skeleton stay
  graph_skeletons : map live_skeleton after ≡ map live_skeleton c.objects
  graph_skeletons =
      map-with_object live_skeleton c.objects (reference_to name) (GraphObject new)
      (λ k d below e. grind (arith, alone k d below e))

  -- the nodes under another name don't change
  elsewhere : (other : ℕ)
      → (name == other) ≡ false
      → option_map nodes_in (object_held after other)
      ≡ option_map nodes_in (object_held c.objects other)
  elsewhere other apart =
      grind (
        arith,
        object_held-with_object c.objects (reference_to name) (GraphObject new) other,
        eqb-true,
      )

  -- the objects are valid if the new graph is
  graph_are : IsGraph new → All (λ o. IsObject o.object) after
  graph_are is =
      All-with_object (λ o. IsObject o.object) (λ _. Unit {0}) c.objects (reference_to name)
      (GraphObject new) (λ o any was e. is) (λ k d below. tt) h.objects

  all_stand : All (OperandsStand c.objects name) (nodes_of new) → All (NodesStand c.objects) after
  all_stand stand =
      All-with_object (NodesStand c.objects) (λ _. Unit {0}) c.objects (reference_to name)
      (GraphObject new)
      (λ o any stood e. subst (λ of. All (OperandsStand c.objects of) (nodes_of new)) (sym e) stand)
      (λ k d below. tt) h.nodes

-- ---- a graph with one more node

-- names that are used stay used when a graph gets more nodes
used-with_object : (objects : List NamedObject) (cell : Reference) (object : ObjectValue) (name : ℕ)
    → All
    (λ o. o.name ≡ cell.name
    → uses o.object name ≡ true
    → uses (with_slot cell.slot object o.object) name ≡ true)
    objects
    → is_used objects name ≡ true → is_used (with_object objects cell object) name ≡ true
used-with_object [] cell object name more used = used
used-with_object (o ∷ objects) cell object name more used =
    grind (
      arith,
      used-with_object objects cell object name (λ k d below. more (suc k) d (omega arith)),
      more 0 o (omega arith),
      eqb-true,
    )

-- a graph with one more node, all of whose operands are valid
with_node_leaves : (limits : LimitsValue) (c : Context) (name : ℕ) (n : Node) (graph : GraphValue)
    → KeepsLimits limits c
    → IsNode n
    → OperandsStand c.objects name n
    → object_held c.objects name ≡ Some (GraphObject graph)
    → IsGraph graph
    → All (OperandsStand c.objects name) (nodes_of graph)
    → IsTrue (can_add graph)
    → Leaves limits (λ other. name == other) c
    (with_objects c (with_graph c.objects name (with_node graph n)))
with_node_leaves limits c name n graph h node stand found is stood capacity =
    all_leaves limits c more h (graph_skeletons limits c name graph new h found)
    (λ other. name == other)
    (graph_are limits c name graph new h found (IsGraph-with_node graph n is capacity node))
    (all_stand limits c name graph new h found
    (All-map (OperandsStand c.objects name) (λ (k : Numbered). k.node) new.nodes
    (All-push (λ (k : Numbered). OperandsStand c.objects name k.node) graph.nodes added
    (All-from_map (OperandsStand c.objects name) (λ (k : Numbered). k.node) graph.nodes stood)
    stand)))
    (elsewhere limits c name graph new h found)
    (All-with_object (λ o. IsTrue (is_held more o)) (λ _. Unit {0}) c.objects
    (reference_to name) (GraphObject new) (λ o any was e. was) (λ k d below. tt)
    (All-weaker (λ o. IsTrue (is_held c.objects o)) (λ o. IsTrue (is_held more o))
    (λ o held. grind (arith, used_more o.name)) c.objects h.held))
  where
    new : GraphValue
    new = with_node graph n

    more : List NamedObject
    more = with_graph c.objects name new

    added : Numbered
    added = record { number = graph.next; node = n }

    used_more : (other : ℕ) → is_used c.objects other ≡ true → is_used more other ≡ true
    used_more other =
        used-with_object c.objects (reference_to name) (GraphObject new) other
        (λ k d below e used. grind (
          arith,
          list_any-append (names_it other) graph.nodes (added ∷ []),
          alone limits c name
              graph new h found k d below e,
        ))

-- a node that is added keeps the limits, and what is held
pub add_node_keeps : (limits : LimitsValue) (c : Context) (name : ℕ) (n : Node)
    → KeepsLimits limits c
    → IsNode n
    → KeepsBut (λ other. name == other) limits c (add_node c name n)
add_node_keeps limits c name n h node =
    refused_or_keeps (λ other. name == other) limits c
    (operands_refusal (Some name) c.objects ((reference_to name, kind.Graph) ∷ operands n))
    (add_to (graph_named c.objects name) c name n)
    (λ allowed.
    let pass =
    operands_pass (Some name) c.objects ((reference_to name, kind.Graph) ∷ operands n) allowed in
    let stand =
    All-weaker (Passes (Some name) c.objects)
    (λ operand. IsTrue (holds_operand c.objects name operand))
    (λ operand passes. grind (arith, stands_from, kind_if_live, not-false))
    (operands n)
    (All-tail (Passes (Some name) c.objects) (reference_to name, kind.Graph) (operands n) pass)
    in
    of_graph limits c name h
    (λ graph. KeepsBut (λ other. name == other) limits c (add_to graph c name n))
    (λ refusal. tt)
    (λ graph found is stood.
    let more = with_objects c (with_graph c.objects name (with_node graph n)) in
    cond_both (can_add graph) (Ok (reply.Node graph.next, Some more)) (Err NoResources)
    (KeepsBut (λ other. name == other) limits c)
    (with_node_leaves limits c name n graph h node stand found is stood) (λ full. tt)))

-- ---- a graph with one node less

-- a node that is removed keeps the limits, and what is held
pub remove_node_keeps : (limits : LimitsValue) (c : Context) (name number : ℕ)
    → KeepsLimits limits c
    → KeepsBut (λ other. name == other) limits c (remove_node c name number)
remove_node_keeps limits c name number h =
    of_graph limits c name h
    (λ graph. KeepsBut (λ other. name == other) limits c (remove_from graph c name number))
    (λ refusal. tt)
    (λ graph found is stood.
    let new : GraphValue = without_node graph number in
    let less = with_objects c (still_held (with_graph c.objects name new)) in
    cond_both (has_node graph number) (Ok (Empty, Some less)) (Err InvalidReference)
    (KeepsBut (λ other. name == other) limits c)
    (λ there. still_leaves limits c (with_graph c.objects name new) h
    (graph_skeletons limits c name graph new h found) (λ other. name == other)
    (graph_are limits c name graph new h found (IsGraph-without_node graph number is))
    (all_stand limits c name graph new h found
    (All-map (OperandsStand c.objects name) (λ (k : Numbered). k.node) new.nodes
    (All-filter (λ (k : Numbered). not (k.number == number))
    (λ k. OperandsStand c.objects name k.node) graph.nodes
    (All-from_map (OperandsStand c.objects name) (λ (k : Numbered). k.node) graph.nodes stood))))
    (elsewhere limits c name graph new h found))
    (λ absent. tt))

-- ---- requests that leave the graphs

-- a new virtual image keeps the limits
pub create_virtual_image_keeps :
    (limits : LimitsValue) (c : Context) (name : ℕ) (declared : PartialDescription)
    → KeepsLimits limits c
    → name < 2 ^ 32
    → IsPartialDescription declared
    → Keeps limits c (create_virtual_image limits c name declared)
create_virtual_image_keeps limits c name declared h small is =
    grind (arith, create_keeps)
