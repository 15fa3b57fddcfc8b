-- The lookup of operands, with or without the scope of a graph.
use Rattle.std.proofs.Common.{◌≡◌, ℕ, IsTrue, List, Option, Some, IfSome, sym, ap, subst, ◌∙◌, All, Result, Ok, OnOk, arith}
use Rattle.client_contexts.proofs.Common.{All-nil, All-cons, All-append, Kind, Parameters, Node, Reference, parameters, operands, second_kind, with_kind, ObjectValue, object_kind, NamedObject, Operands, OfOperands, Refusal, operands_refusal, holds_operand, OperandsStand, IsFound}
use Rattle.vx_base.specs.declared.kind.Kind.TheVariants as kind
use Rattle.client_model.specs.Operands.{is_kind}
use Rattle.client_model.specs.States.{kind_held}
use Rattle.client_model.proofs.HoldLaws.{stands_from}
use Rattle.client_model.proofs.NamedLaws.{held_kind}
use Rattle.client_model.proofs.NodeStepLaws.{Passes, operands_pass}
use Rattle.client_contexts.specs.Steps.{refusal_in}

-- a property of each operand of a node holds for the list of all
pub to_operands : (P : Reference × Kind → Type 0) (n : Node) → OfOperands P n → All P (operands n)
to_operands P n h = grind (arith, All-cons, All-append, All-nil)

-- the lookup of all operands, from that of each
pub operands_found : (objects : List NamedObject) (n : Node) (p : Parameters) (second : Kind)
    → p ≡ parameters n.function
    → second ≡ second_kind n
    → IsFound objects (n.in1, kind.Image)
    → All (IsFound objects) (with_kind second n.in2)
    → All (IsFound objects) (with_kind p.output n.out1)
    → All (IsFound objects) (with_kind p.output n.out2)
    → All (IsFound objects) (operands n)
operands_found objects n p second has wants in1 in2 out1 out2 =
    let Are : List (Reference × Kind) → Type 0 = All (IsFound objects) in
    let output : ◌≡◌ {A = Kind} p.output (parameters n.function).output =
    ap (λ (q : Parameters). q.output) has in
    All-cons (IsFound objects) (n.in1, kind.Image) _ in1
    (All-append (IsFound objects) (with_kind (second_kind n) n.in2) _
    (subst (λ (k : Kind). Are (with_kind k n.in2)) wants in2)
    (All-append (IsFound objects) (with_kind (parameters n.function).output n.out1)
    (with_kind (parameters n.function).output n.out2)
    (subst (λ (k : Kind). Are (with_kind k n.out1)) output out1)
    (subst (λ (k : Kind). Are (with_kind k n.out2)) output out2)))

module _ (graph : ℕ) (objects : List NamedObject) where
  -- an operand that is found without a refusal can be used
  stand_one : (operand : Reference × Kind)
      → IsFound objects operand
      → Passes (Some graph) objects operand
      → IsTrue (holds_operand objects graph operand)
  stand_one operand found pass =
      let of_kind =
      subst
      (λ (o : Option ObjectValue). IfSome o
      (λ object. kind_held objects operand.0 ≡ Some (object_kind object)))
      found.1 (held_kind objects operand.0) in
      stands_from objects graph operand
      (record
      { kind = ap (is_kind operand.1) of_kind ∙ found.2; scope = pass.within; there = pass.there })

  -- operands that are found without a refusal can be used
  pub found_stand : (n : Node) (result : Result Operands Refusal) (found : Operands)
      → result ≡ Ok found
      → OnOk result (All (IsFound objects) (operands n))
      → refusal_in result ≡ operands_refusal (Some graph) objects (operands n)
      → OperandsStand objects graph n
  found_stand n result found is all refused =
      let are : All (IsFound objects) (operands n) =
      subst (λ (r : Result Operands Refusal). OnOk r (All (IsFound objects) (operands n))) is all in
      let pass = operands_pass (Some graph) objects (operands n) (sym refused ∙ ap refusal_in is) in
      λ k d below. stand_one _ (are k d below) (pass k d below)
