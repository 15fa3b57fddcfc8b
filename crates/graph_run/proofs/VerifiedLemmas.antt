-- A graph that is found able to run: how it runs.
use Rattle.std.proofs.Common.{◌≡◌, ℕ, ◌<◌, true, false, List, Option, Some, None, inl, inr, sym, ap, subst, ◌∙◌, arith, All, unwrap_or, option_map}
use Rattle.graph_run.proofs.Common.{AllPairs, flat_map, IsStrictlyIncreasing, cases_Bool, or_left, or_right, length-map, get_or-map, Kind, Node, Reference, IsNode, inputs, outputs, operands, ObjectValue, object_kind, NamedObject, object_at, VirtualOutput, Operand, Image, Missing, Verified, writes, is_written, In, operand_of, operand_kind, operands_of, resolved_operand, partial_descs, verdict, verdict_on, IsVerified, same-from_In, In-outputs, In-left, In-right, In-from_any, In-filter, In-from_map, AllIn-permutation, CanRun, HoldsOperand, names_cell, CellsStand, operand_held, HoldsKind, CanRunNow, names_of}
use Rattle.graph_verify.specs.Links.{reads}
use Rattle.graph_verify.proofs.VerdictLemmas.{can_run}
use Rattle.graph_run.specs.Operands.{StandsFor}
use Rattle.std.proofs.lemmas.List.Kept.{AllPairs-from_increasing}
use Rattle.graph_verify.specs.Operand.{is_virtual as is_virtual_operand}
use Rattle.graph_run.proofs.LinkLaws.{All-from_In, In-from_All}
use Rattle.graph_run.proofs.OperandLaws.{declared_of_virtual, known_kept, virtual_written}
use Rattle.graph_run.proofs.TurnLaws.{each_alone}

-- ---- cells that a node names

module _ (n : Node) where
  pub named_by_input : (cell : Reference) → In cell (inputs n) → names_cell n cell ≡ true
  named_by_input cell i = or_left (reads n cell) (writes n cell) (same-from_In cell (inputs n) i)

  pub named_by_output : (cell : Reference) → In cell (outputs n) → names_cell n cell ≡ true
  named_by_output cell i = or_right (reads n cell) (writes n cell) (same-from_In cell (outputs n) i)

  pub operand_named : (operand : Reference × Kind)
      → In operand (operands n)
      → names_cell n operand.0 ≡ true
  operand_named operand z1 = grind (arith, named_by_output)

  -- what is the same of each cell that a node names makes the same operands
  pub same_operands : (one other : Reference → Operand)
      → ((cell : Reference) → names_cell n cell ≡ true → one cell ≡ other cell)
      → operands_of one n ≡ operands_of other n
  same_operands one other same = grind (arith, named_by_input, named_by_output, In-left, In-right)

-- ---- operands and kinds

pub real_kind : (operand : Operand) (wanted : Kind)
    → is_virtual_operand operand ≡ false
    → StandsFor operand wanted
    → operand_kind operand ≡ Some wanted
real_kind other wanted real stands = grind arith

pub kind_found : (found : Option ObjectValue) (operand : Operand) (wanted : Kind)
    → option_map operand_of found ≡ Some operand
    → operand_kind operand ≡ Some wanted
    → option_map object_kind found ≡ Some wanted
kind_found x operand wanted e is_kind = grind arith

-- ---- the virtual images that nodes write

-- the virtual images that the nodes of a verified graph write
module _ (is : Reference → Operand) (nodes : List Node) (v : Verified)
    (how : IsVerified is nodes v) where
  pub output_known : (o : VirtualOutput)
      → In o v.virtual_outputs
      → resolved_operand is nodes o.cell ≡ Image o.desc
  output_known o i =
      In-from_All (λ (p : VirtualOutput). resolved_operand is nodes p.cell ≡ Image p.desc)
      v.virtual_outputs how.descriptions o i

  -- each virtual image that the nodes write is an output
  pub in_outputs : (cell : Reference)
      → is_written nodes cell ≡ true
      → is_virtual_operand (is cell) ≡ true
      → (o : VirtualOutput) × In o v.virtual_outputs × (cell ≡ o.cell)
  in_outputs cell by_node virtual =
      let writer = In-from_any (λ m. writes m cell) nodes by_node in
      let out =
      In-outputs writer.0 cell v.steps
      (AllIn-permutation nodes v.steps how.order.same_nodes writer.0 writer.1) writer.2 in
      In-from_map (λ (p : VirtualOutput). p.cell) cell v.virtual_outputs
      (subst (λ l. In cell l) (sym how.cells)
      (In-filter (λ c. is_virtual_operand (is c)) cell (flat_map outputs v.steps) out virtual))

module _ (objects : List NamedObject) (nodes : List Node) (v : Verified) (work : ℕ)
    (how : IsVerified (operand_held objects) nodes v)
    (runs : verdict work (operand_held objects) nodes ≡ None) where
  abbrev pub is : Reference → Operand
  is = operand_held objects

  abbrev pub known : Reference → Operand
  known = resolved_operand is nodes

  pub can : CanRun work is nodes
  can = can_run work is nodes runs

  -- ---- each node can run where its cells hold what they were found to be

  module _ (stand : CellsStand is nodes objects) where
    -- a cell that a node names is then of the kind that stands there
    known_kind : (n : Node) (cell : Reference) (wanted : Kind)
        → In n nodes
        → names_cell n cell ≡ true
        → StandsFor (is cell) wanted
        → operand_kind (known cell) ≡ Some wanted
    known_kind n cell wanted i named_there stands =
        elim (cases_Bool (is_virtual_operand (is cell))) [
          | inl virtual ↦
              (let output = in_outputs is nodes v how cell
              (virtual_written work is nodes can n cell i named_there virtual) virtual in
              let partial_desc = declared_of_virtual (is cell) virtual in
              ap operand_kind (ap known output.2 ∙ output_known is nodes v how output.0 output.1)
              ∙ ap Some (sym (subst (λ o. StandsFor o wanted) partial_desc.1 stands)))
          | inr real ↦
              ap operand_kind (known_kept (is cell) (partial_descs is nodes cell) real)
              ∙ real_kind (is cell) wanted real stands
        ]

    pub can_run_now : (n : Node) (now : List NamedObject)
        → In n nodes
        → IsNode n
        → All (λ operand. StandsFor (is operand.0) operand.1) (operands n)
        → ((cell : Reference) → names_cell n cell ≡ true → HoldsOperand now cell (known cell))
        → CanRunNow now n
    can_run_now n now i node stands found =
        record {
          node = node;
          kinds =
              All-from_In (HoldsKind now) (operands n)
              (λ operand j.
              let named_there = operand_named n operand j in
              kind_found (object_at now operand.0) (known operand.0) operand.1
              (found operand.0 named_there)
              (known_kind n operand.0 operand.1 i named_there
              (In-from_All (λ (o : Reference × Kind). StandsFor (is o.0) o.1) (operands n)
              stands operand j)));
          verdict =
              ap (verdict_on n)
              (same_operands n (operand_held now) known
              (λ cell named_there. ap (λ o. unwrap_or o Missing) (found cell named_there)))
              ∙ each_alone work is nodes runs n i;
        }

-- ---- a graph that is ready to run on what a table holds

-- names that increase, each below all later ones
pub pairs_of : (objects : List NamedObject)
    → IsStrictlyIncreasing (names_of objects)
    → AllPairs (λ a b. a.name < b.name) objects
pairs_of objects h i j d less within =
    grind (
      arith,
      AllPairs-from_increasing (names_of objects) h i j 0 less,
      names_of objects,
      length-map objects (λ (o : NamedObject). o.name),
      get_or-map (λ (o : NamedObject). o.name) objects i d 0,
      get_or-map (λ (o : NamedObject). o.name) objects j d 0 within,
    )
