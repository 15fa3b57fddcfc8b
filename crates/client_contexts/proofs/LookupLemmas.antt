-- The refusal of a node's operands: the first by class among those of the single operands.
use Rattle.std.proofs.Common.{◌≡◌, ℕ, Bool, false, List, [], ◌∷◌, ◌++◌, Option, Some, None, sym, ap, ◌||◌, is_none, if◌then◌else◌, arith}
use Rattle.client_contexts.proofs.Common.{list_any, list_any-append, Kind, Node, Reference, reference_to, parameters, operands, second_kind, with_kind, ObjectValue, object_named, NamedObject, Refusal, operands_refusal, first_class}
use Rattle.vx_base.specs.declared.kind.Kind.TheVariants as kind
use Rattle.client_model.specs.declared.refusal.Refusal.TheVariants.{InvalidReference, InvalidType, InvalidScope, InvalidValue}
use Rattle.client_model.specs.Operands.{is_unknown, holds_nothing, is_beyond, is_of_other_kind}

-- the refusal of several operands is the first by class of their refusals: of names, kinds, scopes
-- and slots
abbrev classed : Bool → Bool → Bool → Bool → Option Refusal
classed unknown other beyond empty =
    if unknown then Some InvalidReference else
    (if other then Some InvalidType else
    (if beyond then Some InvalidScope else (if empty then Some InvalidValue else None)))

-- an operand whose name no object has
pub refused_unknown :
    (scope : Option ℕ) (objects : List NamedObject) (cell : Reference) (wanted : Kind)
    → object_named objects cell.name ≡ None
    → operands_refusal scope objects ((cell, wanted) ∷ []) ≡ Some InvalidReference
refused_unknown scope objects cell wanted e =
    ap
    (λ (live : Option ObjectValue). classed (is_none live || false)
    (is_of_other_kind objects (cell, wanted) || false) (is_beyond scope objects cell || false)
    (holds_nothing objects cell || false))
    e

classes : (a b c d e f g h : Bool)
    → first_class (classed a b c d) (classed e f g h) ≡ classed (a || e) (b || f) (c || g) (d || h)
classes a b c d e f g h = grind arith

refusal-append : (scope : Option ℕ) (objects : List NamedObject) (xs ys : List (Reference × Kind))
    → first_class (operands_refusal scope objects xs) (operands_refusal scope objects ys)
    ≡ operands_refusal scope objects (xs ++ ys)
refusal-append scope objects xs ys =
    let p : Reference × Kind → Bool = λ operand. is_unknown objects operand.0 in
    let q : Reference × Kind → Bool = is_of_other_kind objects in
    let r : Reference × Kind → Bool = λ operand. is_beyond scope objects operand.0 in
    let s : Reference × Kind → Bool = λ operand. holds_nothing objects operand.0 in
    simp list_any-append
    (classes (list_any p xs) (list_any q xs) (list_any r xs) (list_any s xs) (list_any p ys)
    (list_any q ys) (list_any r ys) (list_any s ys))

-- the refusal of all operands of a node
pub operands_refused : (scope : Option ℕ) (objects : List NamedObject) (n : Node)
    → operands_refusal scope objects (operands n)
    ≡ first_class
    (first_class (operands_refusal scope objects ((n.in1, kind.Image) ∷ []))
    (operands_refusal scope objects (with_kind (second_kind n) n.in2)))
    (first_class
    (operands_refusal scope objects (with_kind (parameters n.function).output n.out1))
    (operands_refusal scope objects (with_kind (parameters n.function).output n.out2)))
operands_refused scope objects n =
    let in1 : List (Reference × Kind) = (n.in1, kind.Image) ∷ [] in
    let in2 = with_kind (second_kind n) n.in2 in
    let out1 = with_kind (parameters n.function).output n.out1 in
    let out2 = with_kind (parameters n.function).output n.out2 in
    sym
    (rw (refusal-append scope objects in1 in2, refusal-append scope objects out1 out2)
    (refusal-append scope objects (in1 ++ in2) (out1 ++ out2)))

-- the refusal of the name of a graph, and of the operands of a node
pub graph_for_refused : (graph : ℕ) (objects : List NamedObject) (n : Node)
    → operands_refusal (Some graph) objects ((reference_to graph, kind.Graph) ∷ operands n)
    ≡ first_class
    (operands_refusal (Some graph) objects ((reference_to graph, kind.Graph) ∷ []))
    (operands_refusal (Some graph) objects (operands n))
graph_for_refused graph objects n =
    sym (refusal-append (Some graph) objects ((reference_to graph, kind.Graph) ∷ []) (operands n))

-- the refusals of one operand and of several
pub ruleset refusal_steps = (refused_unknown, operands_refused, graph_for_refused)
