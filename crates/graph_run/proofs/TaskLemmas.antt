-- The tasks of a node, one after the other.
use Rattle.std.proofs.Common.{◌≡◌, ◌≢◌, ℕ, List, [], ◌∷◌, ◌++◌, append_assoc, refl, sym, subst, inl, arith, Option, Some, None}
use Rattle.graph_run.proofs.Common.{Description, Kind, Node, Reference, optional_cells, outputs, In, In-right, Output, First, Second}
use Rattle.vx_base.specs.declared.kind.Kind.TheVariants as kind
use Rattle.graph_steps.specs.declared.step.Task.{Task}
use Rattle.graph_steps.specs.declared.step.Task.TheVariants.{Write, Reduce}
use Rattle.graph_run.specs.Tasks.{step_for, tasks_by, write_given}

-- ---- the tasks of a node

abbrev pub out_at : Node → Output → Option Reference
out_at n First = n.out1
out_at n Second = n.out2

pub in_outputs_at : (n : Node) (which : Output) (c : Reference)
    → out_at n which ≡ Some c
    → In c (outputs n)
in_outputs_at n First c e = rw e (inl refl)
in_outputs_at n Second c e =
    In-right c (optional_cells n.out1) (optional_cells n.out2) (rw e (inl refl))

-- a property of outputs and of tasks that write them is kept by the tasks of a node where each step
-- and each reduction keeps it
module _ (plane : Reference → ℕ) (describes : Reference → Option Description)
    (radius : Node → ℕ) (P : List Reference → List Task → Type 0) (at tally : ℕ) (n : Node) where
  abbrev given : Output → Option Reference → List Task
  given which o = write_given plane describes radius at n which o

  given_keeps : (which : Output) (o : Option Reference) (left : List Reference) (later : List Task)
      →
      ((c : Reference)
      → o ≡ Some c
      → P (c ∷ left) (Write (step_for plane describes radius at n which c) ∷ later))
      → P left later
      → P (optional_cells o ++ left) (given which o ++ later)
  given_keeps which None left later write now = now
  given_keeps which (Some c) left later write now = write c refl

  pub node_keeps : (wanted : Kind) (left : List Reference) (later : List Task)
      →
      (wanted ≡ kind.Image
      → (which : Output) (c : Reference)
      → out_at n which ≡ Some c
      → (l : List Reference) (ts : List Task)
      → P l ts
      → P (c ∷ l) (Write (step_for plane describes radius at n which c) ∷ ts))
      →
      (wanted ≢ kind.Image
      → P left later
      → P (outputs n ++ left) (Reduce (record { input = plane n.in1; tally = tally }) ∷ later))
      → P left later
      → P (outputs n ++ left) (tasks_by plane describes radius at tally n wanted ++ later)
  node_keeps kind.Image left later write reduce now =
      let two : P (optional_cells n.out2 ++ left) (given Second n.out2 ++ later) =
      given_keeps Second n.out2 left later (λ c e. write refl Second c e left later now) now in
      subst (P (outputs n ++ left))
      (sym (append_assoc (given First n.out1) (given Second n.out2) later))
      (subst
      (λ (l : List Reference). P l (given First n.out1 ++ (given Second n.out2 ++ later)))
      (sym (append_assoc (optional_cells n.out1) (optional_cells n.out2) left))
      (given_keeps First n.out1 (optional_cells n.out2 ++ left) (given Second n.out2 ++ later)
      (λ c e. write refl First c e (optional_cells n.out2 ++ left)
      (given Second n.out2 ++ later) two)
      two))
  node_keeps other left later write reduce now = reduce (λ e. cc) now

-- a node that writes no image has one reduction
pub tasks_other :
    (plane : Reference → ℕ) (describes : Reference → Option Description) (radius : Node → ℕ)
    (at tally : ℕ) (n : Node) (wanted : Kind)
    → wanted ≢ kind.Image
    → tasks_by plane describes radius at tally n wanted
    ≡ Reduce (record { input = plane n.in1; tally = tally }) ∷ []
tasks_other plane describes radius at tally n wanted other = grind arith
