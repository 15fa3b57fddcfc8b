-- The graph of one node.
use Rattle.std.proofs.Common.{◌≡◌, ℕ, false, List, [], ◌∷◌, ◌++◌, append-nil, refl, arith, nat_le, if◌then◌else◌, Option, Some, None}
use Rattle.graph_verify.proofs.Common.{option_map, option_or, list_any, filter, or_parts, cases_Bool, nat_tests, list_any-append, Node, Reference, optional_cells, inputs, outputs, PartialDescription, Operand, Verdict, NoResources, has_cycle, writes, feeds, is_written, is_virtual, operands_of, as_known, resolved_operand, reads_own_output, verdict_on, is_unwritten_image, verdict}
use Rattle.std.proofs.Math.Bool.{or-false}
use Rattle.graph_verify.proofs.LinkLemmas.{is_fed-written, any_agree}

-- a node feeds itself where it reads what it writes
feeds_itself : (n : Node) → feeds n n ≡ reads_own_output n
feeds_itself n =
    grind (
      arith,
      or-false (feeds n n),
      is_fed-written (n ∷ []) n,
      any_agree (is_written (n ∷ [])) (writes n) (inputs n) (λ c. or-false (writes n c)),
    )

cycle_of_one : (n : Node) → has_cycle feeds (n ∷ []) ≡ reads_own_output n
cycle_of_one n = grind (arith, feeds_itself n)

nothing_more : (f : Option Verdict) → option_or (option_or f None) None ≡ f
nothing_more f = grind arith

nothing_fits : (work : ℕ) → (if nat_le 0 work then None else Some NoResources) ≡ None
nothing_fits work = grind (arith, nat_tests)

module _ (is : Reference → Operand) where
  abbrev NoneVirtual : List Reference → Type 0
  NoneVirtual cells = list_any (λ c. is_virtual (is c)) cells ≡ false

  none_unwritten : (nodes : List Node) (cells : List Reference)
      → NoneVirtual cells
      → list_any (is_unwritten_image is nodes) cells ≡ false
  none_unwritten nodes [] h = refl
  none_unwritten nodes (c ∷ cells) h =
      grind (arith, none_unwritten nodes cells, cases_Bool (is_virtual (is c)))

  none_written : (cells : List Reference)
      → NoneVirtual cells
      → filter (λ c. is_virtual (is c)) cells ≡ []
  none_written [] h = refl
  none_written (c ∷ cells) h = grind (arith, none_written cells, cases_Bool (is_virtual (is c)))

  -- what isn't virtual is known
  as_it_is : (o : Operand) (known : PartialDescription)
      → is_virtual o ≡ false
      → as_known o known ≡ o
  as_it_is o known h = grind arith

  given_as_it_is : (nodes : List Node) (cell : Option Reference)
      → NoneVirtual (optional_cells cell)
      → option_map (resolved_operand is nodes) cell ≡ option_map is cell
  given_as_it_is nodes cell h = grind (arith, as_it_is)

  operands_as_they_are : (nodes : List Node) (n : Node)
      → NoneVirtual (inputs n ++ outputs n)
      → operands_of (resolved_operand is nodes) n ≡ operands_of is n
  operands_as_they_are nodes n h =
      grind (arith, or_parts, list_any-append, as_it_is, given_as_it_is)

pub verdict_on_one : (work : ℕ) (is : Reference → Operand) (n : Node)
    → list_any (λ c. is_virtual (is c)) (inputs n ++ outputs n) ≡ false
    → verdict work is (n ∷ []) ≡ verdict_on n (operands_of is n)
verdict_on_one work is n h =
    grind (
      arith,
      append-nil (outputs n),
      or-false (list_any (is_unwritten_image is (n ∷ [])) (inputs n)),
      nothing_fits work,
      operands_as_they_are is (n ∷ []) n h,
      cycle_of_one n,
      or_parts,
      list_any-append,
      append-nil,
      or-false,
      none_unwritten,
      none_written,
      nothing_fits,
      operands_as_they_are,
      cycle_of_one,
      nothing_more,
    )
