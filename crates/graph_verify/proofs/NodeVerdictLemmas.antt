-- The nodes of a graph that can run, one by one.
use Rattle.std.proofs.Common.{◌≡◌, ◌≢◌, ℕ, Bool, true, false, List, [], ◌∷◌, Option, Some, None, inl, inr, arith, not}
use Rattle.graph_verify.proofs.Common.{list_any, list_all, option_and_then, cases_Bool, not-false, and_parts, Format, Function, Node, takes_formats, Reference, same_reference, inputs, outputs, Operand, Operands, InvalidFormat, In, feeds, has_cycle, operand_format, written_operands, operands_of, resolved_operand, two_writers, node_fault, writes_twice, reads_own_output, verdict_on, takes_first, takes_operands}
use Rattle.vx_base.specs.declared.kind.Kind.TheVariants as kind
use Rattle.vx_base.specs.Function.{parameters}
use Rattle.graph_verify.proofs.MemberLemmas.{In-from_any}
use Rattle.graph_verify.proofs.LinkLemmas.{same-from_In, feeds_is, two_writers-cons}
use Rattle.graph_verify.proofs.CycleLemmas.{has_cycle-from_cycle}
use Rattle.graph_verify.proofs.VerdictLemmas.{CanRun}
use Rattle.graph_verify.proofs.SuitLemmas.{passed}
use Rattle.graph_verify.proofs.VerifyLemmas.{first_fault-None}

-- where no cell has two writers, no node writes one by both of its outputs
pub no_twice_each : (nodes : List Node) (n : Node)
    → two_writers nodes ≡ false
    → In n nodes
    → writes_twice n ≡ false
no_twice_each [] n h member = absurd member
no_twice_each (m ∷ nodes) n h member =
    grind (arith, two_writers-cons m nodes, no_twice_each nodes n)

-- a node that reads what it writes is a cycle
cycle_of_one : (nodes : List Node) (n : Node)
    → In n nodes
    → reads_own_output n ≡ true
    → has_cycle feeds nodes ≡ true
cycle_of_one nodes n member own =
    let cell = In-from_any (λ a. list_any (same_reference a) (outputs n)) (inputs n) own in
    has_cycle-from_cycle feeds nodes (
      n ∷ [],
      feeds_is n n cell.0 cell.2 (same-from_In cell.0 (inputs n) cell.1),
      λ x i. elim i [ inl e ↦ rw e member | inr k ↦ absurd k ],
    )

-- a node of a graph that can run can run by itself, on what its cells are found to be
pub runs_alone : (work : ℕ) (is : Reference → Operand) (nodes : List Node) (n : Node)
    → CanRun work is nodes
    → In n nodes
    → verdict_on n (operands_of (resolved_operand is nodes) n) ≡ None
runs_alone work is nodes n can member =
    grind (
      arith,
      no_twice_each nodes n can.one_writer member,
      cases_Bool (reads_own_output n),
      first_fault-None (resolved_operand is nodes) nodes can.no_fault n member,
      no_twice_each,
      cases_Bool,
      cycle_of_one,
    )

-- ---- what a node without a fault writes

-- a function that writes images takes no output without a format
takes_none : (function : Function) (first : Format) (second : Option Format)
    → (parameters function).output ≡ kind.Image
    → takes_formats function first second None ≡ false
takes_none function first second h = grind arith

-- what passes for all members passes for each
all-from_In : {X : Type 0} (p : X → Bool) (xs : List X)
    → list_all p xs ≡ true
    → (x : X)
    → In x xs
    → p x ≡ true
all-from_In p [] h x i = absurd i
all-from_In p (y ∷ ys) h x i = grind (arith, all-from_In p ys, and_parts (p y) (list_all p ys) h)

-- each image that such a node writes is described
pub written_described : (function : Function) (o : Operands)
    → (parameters function).output ≡ kind.Image
    → node_fault function o ≡ None
    → (out : Operand)
    → In out (written_operands o)
    → operand_format out ≢ None
written_described function o writes none out member bare =
    described (operand_format o.in1)
    (not-false (takes_operands function o)
    (passed (not (takes_operands function o)) InvalidFormat _ none).0)
  where
    described : (first : Option Format)
        → takes_first function first (option_and_then operand_format o.in2) (written_operands o)
        ≡ true
        → ⊥
    described None takes_all = cc
    described (Some first) takes_all = grind (arith, all-from_In, first, takes_none)
