-- What the cells of a graph's nodes hold, where the nodes find what they name.
use Rattle.std.proofs.Common.{◌≡◌, ℕ, true, false, IsTrue, List, get_or, Option, Some, None, IfSome, inl, inr, refl, sym, subst, All, is_none, unwrap_or, arith}
use Rattle.client_laws.proofs.Common.{option_map, All-weaker, Kind, Node, Reference, parameters, optional_cells, inputs, outputs, operands, ObjectValue, object_kind, NamedObject, object_at, Operand, Missing, reads, writes, In, operand_of, is_image, In-append, names_cell, StandsFor, CellsStand, operand_held, of_operands, In-from_All, kind-operand, is_kind, stands_for, kind_held, holds_operand, OperandsStand, stands_parts, is_taken, kinds_taken, held_kind}
use Rattle.std.proofs.lemmas.Bool.{or_cases}
use Rattle.vx_base.specs.declared.kind.Kind.TheVariants as kind
use Rattle.graph_verify.proofs.LinkLemmas.{In-from_same}
use Rattle.graph_run.proofs.FoundLemmas.{OfOperands}
use Rattle.client_model.proofs.NodeStepLaws.{stands_for_equal}

-- ---- the operand of a cell that a node names

module _ (P : Reference × Kind → Type 0) (n : Node) (c : Reference) (h : OfOperands P n) where
  given_is : (k : Kind) (cell : Option Reference)
      → IfSome cell (λ d. P (d, k))
      → In c (optional_cells cell)
      → P (c, k)
  given_is k None is i = absurd i
  given_is k (Some d) is (inl same) = subst (λ e. P (e, k)) (sym same) is
  given_is k (Some d) is (inr none) = absurd none

  -- one that it reads is an operand of some kind
  read_is : reads n c ≡ true → (k : Kind) × P (c, k)
  read_is r = elim (In-from_same c (inputs n) r) [
    | inl same ↦ (kind.Image, subst (λ e. P (e, kind.Image)) (sym same) h.in1)
    | inr i ↦ (_, given_is _ n.in2 h.in2 i)
  ]

  -- one that it writes is of the kind that the function writes
  pub written_is : writes n c ≡ true → P (c, (parameters n.function).output)
  written_is w =
      elim
      (In-append c (optional_cells n.out1) (optional_cells n.out2) (In-from_same c (outputs n) w)) [
        | inl i ↦ given_is _ n.out1 h.out1 i
        | inr i ↦ given_is _ n.out2 h.out2 i
      ]

  pub named_is : names_cell n c ≡ true → (k : Kind) × P (c, k)
  named_is t = elim (or_cases (reads n c) (writes n c) t) [
    | inl r ↦ read_is r
    | inr w ↦ ((parameters n.function).output, written_is w)
  ]

-- ---- operands that are valid

-- an object that is accepted as a kind is so as an operand
operand_stands : (object : ObjectValue) (wanted : Kind)
    → is_taken wanted ≡ true
    → stands_for (object_kind object) wanted ≡ true
    → StandsFor (operand_of object) wanted
operand_stands object wanted taken h = grind (arith, is_taken, kind-operand, stands_for_equal)

module _ (objects : List NamedObject) (cell : Reference) where
  holds : (found : Option ObjectValue)
      → is_none found ≡ false
      → option_map operand_of found ≡ Some (unwrap_or (option_map operand_of found) Missing)
  holds found there = grind arith

  stands_as : (found : Option ObjectValue) (wanted : Kind)
      → is_none found ≡ false
      → IfSome found (λ object. kind_held objects cell ≡ Some (object_kind object))
      → is_taken wanted ≡ true
      → is_kind wanted (kind_held objects cell) ≡ true
      → StandsFor (unwrap_or (option_map operand_of found) Missing) wanted
  stands_as found wanted there is taken of_kind = grind (arith, operand_stands)

-- a valid operand, of a kind that a node can name
abbrev Stands : List NamedObject → ℕ → Reference × Kind → Type 0
Stands objects graph operand =
    IsTrue (holds_operand objects graph operand) × (is_taken operand.1 ≡ true)

-- each cell that the nodes of a graph name holds its operand, where the nodes find what they name
pub cells_stand : (objects : List NamedObject) (graph : ℕ) (nodes : List Node)
    → All (OperandsStand objects graph) nodes
    → CellsStand (operand_held objects) nodes objects
cells_stand objects graph nodes stood =
    record {
      found =
          λ n cell i named_there. let parts =
          stands_parts objects graph _
          (named_is (Stands objects graph) n cell (each n i) named_there).1.0 in holds objects
          cell (object_at objects cell) parts.there;
      kinds = λ n cell i written.
          let is : Stands objects graph (cell, (parameters n.function).output) =
          written_is (Stands objects graph) n cell (each n i) written in
          let parts = stands_parts objects graph (cell, (parameters n.function).output) is.0 in
          stands_as objects cell (object_at objects cell) (parameters n.function).output
          parts.there (held_kind objects cell) is.1 parts.kind;
    }
  where
    each : (n : Node) → In n nodes → OfOperands (Stands objects graph) n
    each n i =
        of_operands (Stands objects graph) n
        (λ k d below. (
          In-from_All (OperandsStand objects graph) nodes stood n i k d below,
          kinds_taken n k d
              below,
        ))

-- and it is accepted as the kind that the function expects there
pub operands_stand : (objects : List NamedObject) (graph : ℕ) (n : Node)
    → OperandsStand objects graph n
    → All (λ operand. StandsFor (operand_held objects operand.0) operand.1) (operands n)
operands_stand objects graph n stood k d below =
    let operand : Reference × Kind = get_or (operands n) k d in
    let parts = stands_parts objects graph operand (stood k d below) in
    stands_as objects operand.0 (object_at objects operand.0) operand.1 parts.there
    (held_kind objects operand.0) (kinds_taken n k d below) parts.kind

-- the first input of each node is an image
pub firsts_are_images : (objects : List NamedObject) (graph : ℕ) (nodes : List Node)
    → All (OperandsStand objects graph) nodes
    → All (λ n. IsTrue (is_image (operand_held objects n.in1))) nodes
firsts_are_images objects graph nodes stood =
    All-weaker (OperandsStand objects graph) (λ n. IsTrue (is_image (operand_held objects n.in1)))
    (λ n each.
    let first : Reference × Kind = (n.in1, kind.Image) in
    let parts =
    stands_parts objects graph first
    (of_operands (λ operand. IsTrue (holds_operand objects graph operand)) n each).in1 in
    as_image (operand_held objects n.in1)
    (stands_as objects n.in1 (object_at objects n.in1) kind.Image parts.there
    (held_kind objects n.in1) refl parts.kind))
    nodes stood
  where
    as_image : (operand : Operand) → StandsFor operand kind.Image → is_image operand ≡ true
    as_image operand is = grind arith
