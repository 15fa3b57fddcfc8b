-- Virtual images at the start and at the end of a run.
use Rattle.std.proofs.Common.{◌<◌, append-nil, eqb-true, ◌≡◌, ℕ, true, false, if◌then◌else◌, eqb, List, [], ◌∷◌, map, drop, refl, sym, ap, subst, ◌∙◌, inl, inr, Option, Some, None, Bool, arith, ◌==◌, option_map}
use Rattle.graph_run.proofs.Common.{AllPairs, or_left, written_by, object_at, run_of_graph, cases_Bool, Node, Reference, ObjectValue, NamedObject, object_held, with_object, with_written, Operand, In, is_written, object_at_start, named_at_start, is_virtual_object, objects_at_end, WritesNo, label_of, operand_of, object_held-map}
use Rattle.vx_base.specs.declared.kind.Kind.TheVariants as kind
use Rattle.graph_run.proofs.HeldLaws.{labels-with_written, object_held-with_object}
use Rattle.graph_run.proofs.NameLaws.{Rising, by_names, rising}
use Rattle.graph_run.proofs.NodeLaws.{written_held}
use Rattle.graph_verify.specs.Operand.{is_virtual as is_virtual_operand}

-- ---- the begin

-- the object with a name at the start of a run
abbrev pub begun_under : (Reference → Operand) → List Node → ℕ → ObjectValue → ObjectValue
begun_under is nodes name x =
    if is_written nodes (record { name = name; slot = None }) then object_at_start x
    (is (record { name = name; slot = None })) else x

pub object_held-begun :
    (is : Reference → Operand) (nodes : List Node) (objects : List NamedObject) (name : ℕ)
    → object_held (map (named_at_start is nodes) objects) name
    ≡ option_map (begun_under is nodes name) (object_held objects name)
object_held-begun is nodes objects name = grind (arith, object_held-map, cases_Bool)

pub labels-begun : (is : Reference → Operand) (nodes : List Node) (objects : List NamedObject)
    → map label_of (map (named_at_start is nodes) objects) ≡ map label_of objects
labels-begun is nodes [] = refl
labels-begun is nodes (o ∷ objects) =
    grind (
      arith,
      labels-begun is nodes objects,
      cases_Bool (is_written nodes (record { name = o.name; slot = None })),
    )

-- the start depends only on which objects are written
pub begun-same : (is : Reference → Operand) (nodes others : List Node)
    → ((c : Reference) → is_written nodes c ≡ is_written others c)
    → (objects : List NamedObject)
    → map (named_at_start is nodes) objects ≡ map (named_at_start is others) objects
begun-same is nodes others same [] = refl
begun-same is nodes others same (o ∷ objects) =
    grind (arith, begun-same is nodes others same objects)

-- no delay comes of a virtual image
pub WritesNo-begun : (is : Reference → Operand) (nodes : List Node) (objects : List NamedObject)
    → WritesNo kind.Delay nodes objects
    → WritesNo kind.Delay nodes (map (named_at_start is nodes) objects)
WritesNo-begun is nodes objects whole c w h =
    grind (arith, object_held-begun is nodes objects c.name)

-- ---- where no virtual image is written

-- nothing changes as the run begins
pub nothing_begun : (is : Reference → Operand) (nodes : List Node) (objects : List NamedObject)
    → Rising (map label_of objects)
    → WritesNo kind.VirtualImage nodes objects
    → map (named_at_start is nodes) objects ≡ objects
nothing_begun is nodes objects up real =
    grind (arith, labels-begun, by_names, Rising, object_held-begun, cases_Bool)

-- an object that isn't written stays
pub object_held-unwritten :
    (ws : List (Reference × ObjectValue)) (objects : List NamedObject) (name : ℕ)
    → ((w : Reference × ObjectValue) → In w ws → eqb name (w.0).name ≡ false)
    → object_held (with_written objects ws) name ≡ object_held objects name
object_held-unwritten [] objects name h = refl
object_held-unwritten (w ∷ ws) objects name h =
    grind (
      arith,
      object_held-unwritten ws (with_object objects w.0 w.1) name (λ v i. h v (inr i)),
      object_held-with_object objects w.0 w.1 name,
    )

-- lists with the same labels have objects under the same names
pub both_held : (one other : List NamedObject)
    → map label_of one ≡ map label_of other
    → (name : ℕ) (x : ObjectValue)
    → object_held one name ≡ Some x
    → (y : ObjectValue) × (object_held other name ≡ Some y)
both_held (o ∷ one) (p ∷ other) labels name x at =
    let label : label_of o ≡ label_of p = cc in
    let same : o.name ≡ p.name = ap (λ (m : ℕ × Bool). m.0) label in
    elim (cases_Bool (p.name == name)) [
      | inl here ↦ (p.object, rw here refl)
      | inr later ↦
          rw later (both_held one other (ap (drop 1) labels) name x (rw (same, later) at at))
    ]
both_held one other labels name x at = absurd (grind arith)

abbrev pub kept_virtual : Option ObjectValue → Option ObjectValue → Option ObjectValue
kept_virtual (Some x) (Some y) = Some (if is_virtual_object x then x else y)
kept_virtual o p = p

pub object_held-forgotten : (before after : List NamedObject)
    → map label_of before ≡ map label_of after
    → (name : ℕ)
    → object_held (objects_at_end before after) name
    ≡ kept_virtual (object_held before name) (object_held after name)
object_held-forgotten (o ∷ before) (p ∷ after) labels name =
    grind (arith, object_held-forgotten before after (cc) name)
object_held-forgotten x y labels name = grind arith

pub labels-forgotten : (before after : List NamedObject)
    → map label_of before ≡ map label_of after
    → map label_of (objects_at_end before after) ≡ map label_of after
labels-forgotten (o ∷ before) (p ∷ after) labels = grind (arith, labels-forgotten before after (cc))
labels-forgotten x y labels = grind arith

-- nothing changes as the run ends
pub nothing_forgotten : (before after : List NamedObject)
    → Rising (map label_of before)
    → map label_of before ≡ map label_of after
    →
    ((name : ℕ) (x : ObjectValue)
    → object_held before name ≡ Some x
    → is_virtual_object x ≡ true
    → object_held after name ≡ Some x)
    → objects_at_end before after ≡ after
nothing_forgotten before after up labels stays =
    let same = labels-forgotten before after labels in
    by_names (objects_at_end before after) after (subst (λ z. Rising z) (labels ∙ sym same) up) same
    (λ name. grind (
      arith,
      object_held-forgotten before after labels name,
      stays name,
      both_held before after
          labels name,
      cases_Bool,
    ))

-- the value at the start of an object with this resolved operand, if a node writes it
abbrev pub begun_if : Bool → ObjectValue → Operand → ObjectValue
begun_if written object operand = if written then object_at_start object operand else object

-- what stays as it was if it is no virtual image
pub begun_stays : (object : ObjectValue) (written : Bool) (operand : Operand)
    → is_virtual_object object ≡ false
    → begun_if written object operand ≡ object
begun_stays other written operand h = grind arith

pub virtual_as_operand : (object : ObjectValue)
    → is_virtual_object object ≡ true
    → is_virtual_operand (operand_of object) ≡ true
virtual_as_operand other h = grind arith

-- ---- a graph with one node

-- its run is the node by itself
pub one_node : (is : Reference → Operand) (n : Node) (objects : List NamedObject)
    → AllPairs (λ a b. a.name < b.name) objects
    → WritesNo kind.VirtualImage (n ∷ []) objects
    → run_of_graph is (n ∷ []) objects ≡ with_written objects (written_by n (object_at objects))
one_node is n objects names real =
    grind (
      arith,
      rising,
      nothing_begun,
      append-nil,
      nothing_forgotten,
      labels-with_written,
      object_held-unwritten,
      or_left,
      written_held,
      cases_Bool,
      eqb-true,
    )
