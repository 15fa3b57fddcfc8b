-- A node that runs immediately, or is refused.
use Rattle.std.proofs.Common.{◌≡◌, Bool, false, List, IfSome, Option, Some, None, sym, ap, ◌∙◌, arith, All, if◌then◌else◌, option_to_list, Err, Ok}
use Rattle.client_contexts.proofs.Common.{list_any, option_map, list_any-append, Kind, Node, Reference, parameters, operands, with_kind, second_kind, Operands, is_virtual, verdict_on, NamedObject, object_at, Refusal, Empty, Outcome, Context, with_objects, reply_unless, operands_refusal, immediate, operand_held, OfOperands, of_operands, IsFound, all_operands}
use Rattle.client_model.specs.declared.refusal.Refusal.TheVariants.{Rejected, OptimizedAway}
use Rattle.std.specs.Option.{option_or}
use Rattle.std.proofs.lemmas.Bool.{or_parts}
use Rattle.vx_base.specs.declared.kind.Kind.TheVariants as kind
use Rattle.vx_base.specs.Outputs.{written_by}
use Rattle.vx_base.proofs.NodeLaws.{same_kind_equal}
use Rattle.graph_verify.specs.Operand.{operands_of, written_operands, other_operands}
use Rattle.object_table.specs.NamedObject.{with_written}
use Rattle.client_model.specs.Immediate.{operand_in, operand_if, operands_in, is_some_virtual, node_refusal}
use Rattle.graph_run.specs.Turns.{HoldsKind}
use Rattle.client_contexts.proofs.BlockLemmas.{lasting_blocks}
use Rattle.client_contexts.proofs.ScopeLemmas.{to_operands}

-- the object that is found, as an operand
module _ (objects : List NamedObject) (operand : Reference × Kind)
    (found : IsFound objects operand) where
  operand_there : operand_in objects operand.0 ≡ Some (operand_held objects operand.0)
  operand_there = grind (arith, found.1)

  away_there :
      is_some_virtual (object_at objects operand.0) ≡ is_virtual (operand_held objects operand.0)
  away_there = grind (arith, found.1)

  holds_kind : is_virtual (operand_held objects operand.0) ≡ false → HoldsKind objects operand
  holds_kind solid = grind (arith, found.1, found.2, same_kind_equal)

-- ---- the operands of a node that are found

module _ (objects : List NamedObject) (n : Node) (found : All (IsFound objects) (operands n)) where
  abbrev held_operands : Operands
  held_operands = operands_of (operand_held objects) n

  each : OfOperands (IsFound objects) n
  each = of_operands (IsFound objects) n found

  operand_if_there : (cell : Option Reference) (wanted : Kind)
      → IfSome cell (λ x. IsFound objects (x, wanted))
      → operand_if objects cell ≡ option_map (operand_held objects) cell
  operand_if_there cell wanted s = grind (arith, operand_there)

  operands_there : operands_in objects n ≡ Some held_operands
  operands_there =
      rw (
        operand_there objects (n.in1, kind.Image) each.in1,
        operand_if_there n.in2 (second_kind n) each.in2,
        operand_if_there n.out1 (parameters n.function).output each.out1,
        operand_if_there n.out2 (parameters n.function).output each.out2,
      )

  abbrev is_away : Reference × Kind → Bool
  is_away operand = is_some_virtual (object_at objects operand.0)

  away_if_there : (cell : Option Reference) (wanted : Kind)
      → IfSome cell (λ x. IsFound objects (x, wanted))
      → list_any is_away (with_kind wanted cell)
      ≡ list_any is_virtual (option_to_list (option_map (operand_held objects) cell))
  away_if_there cell wanted s = grind (arith, away_there)

  away_is : list_any is_away (operands n) ≡ list_any is_virtual (all_operands held_operands)
  away_is =
      let output = (parameters n.function).output in
      simp list_any-append
      (rw (
        away_there objects (n.in1, kind.Image) each.in1,
        away_if_there n.in2 (second_kind n)
            each.in2,
        away_if_there n.out1 output each.out1,
        away_if_there n.out2 output each.out2,
      ))

  -- only a virtual image or the verdict can refuse the node
  pub refusal_is : None ≡ operands_refusal None objects (operands n)
      → node_refusal objects n
      ≡ option_or
      (if list_any is_virtual (all_operands held_operands) then Some OptimizedAway else None)
      (option_map Rejected (verdict_on n held_operands))
  refusal_is known = rw (← known, away_is, operands_there)

  -- unless it is a virtual image, each operand has the wanted kind
  module _ (solid : list_any is_virtual (all_operands held_operands) ≡ false) where
    of_kind_if : (cell : Option Reference) (wanted : Kind)
        → list_any is_virtual (option_to_list (option_map (operand_held objects) cell)) ≡ false
        → IfSome cell (λ x. IsFound objects (x, wanted))
        → IfSome cell (λ x. HoldsKind objects (x, wanted))
    of_kind_if cell wanted plain s = grind (arith, holds_kind)

    pub all_of_kind : All (HoldsKind objects) (operands n)
    all_of_kind =
        let o = held_operands in
        let output = (parameters n.function).output in
        let first = or_parts (is_virtual o.in1) (list_any is_virtual (other_operands o)) solid in
        let second =
        or_parts (list_any is_virtual (option_to_list o.in2))
        (list_any is_virtual (written_operands o))
        (sym (list_any-append is_virtual (option_to_list o.in2) (written_operands o)) ∙ first.1)
        in
        let outs =
        or_parts (list_any is_virtual (option_to_list o.out1))
        (list_any is_virtual (option_to_list o.out2))
        (sym (list_any-append is_virtual (option_to_list o.out1) (option_to_list o.out2))
        ∙ second.1)
        in
        to_operands (HoldsKind objects) n
        (record {
          in1 = holds_kind objects (n.in1, kind.Image) each.in1 first.0;
          in2 = of_kind_if n.in2 (second_kind n) second.0 each.in2;
          out1 = of_kind_if n.out1 output outs.0 each.out1;
          out2 = of_kind_if n.out2 output outs.1 each.out2;
        })

-- ---- the outcome of a node

module _ (c : Context) (node n : Node) (same : n ≡ node) where
  abbrev outcome : Option Refusal → Outcome
  outcome refusal =
      reply_unless refusal Empty
      (with_objects c (with_written c.objects (written_by n (object_at c.objects))))

  pub refused_is : (refusal : Refusal)
      → Some refusal ≡ node_refusal c.objects n
      → immediate c node ≡ Err refusal
  refused_is refusal is = ap (immediate c) (sym same) ∙ ap outcome (sym is)

  pub done_is : (after : Context)
      → None ≡ node_refusal c.objects n
      → after ≡ with_objects c (with_written c.objects (written_by n (object_at c.objects)))
      → immediate c node ≡ Ok (Empty, Some after)
  done_is after allowed is =
      ap (immediate c) (sym same)
      ∙ ap outcome (sym allowed)
      ∙ ap (λ (t : Context). let done : Outcome = Ok (Empty, Some t) in done) (sym is)

-- the refusals of a node, its outcome, and the number of blocks after it
pub ruleset immediate_steps = (refusal_is, refused_is, done_is, lasting_blocks)
