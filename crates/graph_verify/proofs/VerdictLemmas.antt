-- What a verdict says of a graph.
use Rattle.std.proofs.Common.{◌≡◌, ℕ, ◌<◌, ◌≤◌, Bool, true, false, List, sym, ap, ◌∙◌, arith, nat_le, if◌then◌else◌, Option, Some, None, le-leb}
use Rattle.graph_verify.proofs.Common.{option_or, Node, Reference, Operand, Verdict, InvalidLink, NoResources, feeds, has_cycle, resolved_operand, two_writers, has_unwritten_input, first_fault, work_bytes, verdict}
use Rattle.std.proofs.lemmas.Bool.{lt-leb}

-- the properties of a graph that can run
pub record CanRun (work : ℕ) (is : Reference → Operand) (nodes : List Node) : Type 0 where
  pub one_writer : two_writers nodes ≡ false
  pub no_cycle : has_cycle feeds nodes ≡ false
  pub no_unwritten_input : has_unwritten_input is nodes ≡ false
  pub no_fault : first_fault (resolved_operand is nodes) nodes ≡ None
  pub small : work_bytes is nodes ≤ work

pub can_run : (work : ℕ) (is : Reference → Operand) (nodes : List Node)
    → verdict work is nodes ≡ None
    → CanRun work is nodes
can_run work is nodes h = grind arith

-- ---- which of the reasons applies

-- the last of them: the virtual images take too many bytes
abbrev pub size_fault : ℕ → (Reference → Operand) → List Node → Option Verdict
size_fault work is nodes = if nat_le (work_bytes is nodes) work then None else Some NoResources

module _ (work : ℕ) (is : Reference → Operand) (nodes : List Node)
    (one : two_writers nodes ≡ false) (no_cycle : has_cycle feeds nodes ≡ false) where
  from_links : (loose : Bool)
      → has_unwritten_input is nodes ≡ loose
      → verdict work is nodes
      ≡
      (if loose then Some InvalidLink else option_or
      (first_fault (resolved_operand is nodes) nodes) (size_fault work is nodes))
  from_links loose h = grind arith

  pub unwritten_input : true ≡ has_unwritten_input is nodes
      → verdict work is nodes ≡ Some InvalidLink
  unwritten_input loose = from_links true (sym loose)

  pub by_fault : false ≡ has_unwritten_input is nodes
      → (fault : Option Verdict)
      → fault ≡ first_fault (resolved_operand is nodes) nodes
      → verdict work is nodes ≡ option_or fault (size_fault work is nodes)
  by_fault no_unwritten_input fault h =
      from_links false (sym no_unwritten_input)
      ∙ ap (λ f. option_or f (size_fault work is nodes)) (sym h)

pub too_large : (work : ℕ) (is : Reference → Operand) (nodes : List Node)
    → work < work_bytes is nodes
    → size_fault work is nodes ≡ Some NoResources
too_large work is nodes more =
    ap (λ b. if b then None else Some NoResources) (lt-leb (work_bytes is nodes) work more)

pub small_enough : (work : ℕ) (is : Reference → Operand) (nodes : List Node)
    → work_bytes is nodes ≤ work
    → size_fault work is nodes ≡ None
small_enough work is nodes fits =
    ap (λ b. if b then None else Some NoResources) (le-leb (work_bytes is nodes) work fits)
