-- A node by itself keeps the limits and the objects held: each output keeps its kind, size and
-- format.
use Rattle.std.proofs.Common.{◌≡◌, ℕ, Bool, true, false, IsTrue, List, get_or, [], map, Option, Some, None, IfSome, if◌then◌else◌, refl, sym, ap, subst, ◌∙◌, arith, All, is_some, is_none}
use Rattle.client_model.proofs.Common.{option_map, option_and_then, not-false, and_parts, IfSome_then, All-nil, All-cons, All-append, Function, Kind, Node, Reference, Description, parameters, IsImage, description_of, IsNode, operands, second_kind, ObjectValue, ImageObject, ExtremesObject, IsObject, object_kind, NamedObject, object_at, skeleton, Context, with_objects, Operand, Image, operand_of, operand_format, operand_kind, Empty, LimitsValue, holds_nothing, is_kind, kind_of, stands_for, operands_refusal, KeepsLimits, kind_held, held_is, lasting_part, lasting_named, IsReplacement, images-last, Suits, passed, kind-operand}
use Rattle.std.specs.Option.{option_or}
use Rattle.client_model.specs.declared.refusal.Refusal.TheVariants.{Rejected, OptimizedAway}
use Rattle.client_model.specs.Operands.{is_unknown, is_of_other_kind, is_beyond}
use Rattle.graph_run.proofs.LastingLemmas.{skeletons-last, cell-lasts}
use Rattle.vx_base.specs.declared.format.Format.{Format}
use Rattle.vx_base.specs.declared.kind.Kind.TheVariants as kind
use Rattle.vx_base.specs.Description.{same_size}
use Rattle.vx_base.specs.Formats.{takes_formats}
use Rattle.vx_base.specs.Function.{accumulates}
use Rattle.vx_base.specs.Node.{is_node}
use Rattle.vx_base.specs.Object.{DistributionObject}
use Rattle.vx_base.specs.declared.output.Output.{Output}
use Rattle.vx_base.specs.declared.output.Output.TheVariants.{First, Second}
use Rattle.vx_base.specs.Outputs.{node_image, second_or_output, node_output, written_to, written_in, written_from, written_by}
use Rattle.vx_base.proofs.NodeLaws.{node_image_is, accumulated_image_is, same_kind_equal}
use Rattle.object_table.specs.NamedObject.{with_written}
use Rattle.object_table.proofs.SkeletonLaws.{option_map-determined}
use Rattle.graph_verify.specs.declared.verdict.Verdict.{Verdict}
use Rattle.graph_verify.specs.Verdict.{verdict_on}
use Rattle.client_model.specs.Immediate.{operand_in, operand_if, operands_in, is_some_virtual, away_refusal, node_refusal, immediate}
use Rattle.graph_run.proofs.CellLemmas.{Lasts-with_written}
use Rattle.client_model.proofs.NamedLaws.{held_kind, kind_if_live}
use Rattle.client_model.proofs.HoldLaws.{each_fails}
use Rattle.client_model.proofs.StateLaws.{alike_leaves}
use Rattle.graph_verify.proofs.SuitLemmas.{BothSuit, verdict_suits}
use Rattle.graph_run.proofs.OperandLaws.{described_node, operand-skeleton}
use Rattle.graph_run.proofs.FoundLemmas.{of_operands}
use Rattle.graph_run.proofs.OutputLemmas.{same_description, length-histogram}
use Rattle.graph_run.proofs.RunLemmas.{same_formats}
use Rattle.client_model.proofs.OutcomeLaws.{Keeps, unless_keeps}

-- ---- what a node can give

-- a node gives an image to an output: formats that its function takes, one size, and a second input
-- of the kind that the function has
pub record GivesImage (function : Function) (first : Description) (second : Option Operand)
    (out : Description) : Type 0 where
  pub formats :
      IsTrue
      (takes_formats function first.format (option_and_then operand_format second)
      (Some out.format))
  pub size : IsTrue (same_size first out)
  pub kind : IfSome second (λ o. (parameters function).second_input ≡ operand_kind o)

abbrev pub CanGive : Function → Operand → Option Operand → Operand → Type 0
CanGive function (Image first) second (Image out) = GivesImage function first second out
CanGive function first second out = Unit {0}

-- the same of operands that may not be there
abbrev pub CanGiveTo : Function → Option Operand → Option Operand → Option Operand → Type 0
CanGiveTo function first second out = IfSome first (λ a. IfSome out (CanGive function a second))

-- a node that can give to each of its outputs, where its cells hold these operands
pub record CanRunOn (look : Reference → Option Operand) (n : Node) : Type 0 where
  pub node : IsNode n
  pub out1 :
      CanGiveTo n.function (look n.in1) (option_and_then look n.in2) (option_and_then look n.out1)
  pub out2 :
      CanGiveTo n.function (look n.in1) (option_and_then look n.in2) (option_and_then look n.out2)

-- a node whose output suits its inputs can write it, if the second input has the right kind
pub suits_give : (function : Function) (first out : Operand) (second : Option Operand)
    → Suits function first (option_and_then operand_format second) out
    → IfSome second (λ o. (parameters function).second_input ≡ operand_kind o)
    → CanGive function first second out
suits_give function first out second suits right = grind (arith, Suits)

-- ---- objects as operands

-- a cell that may not be given, as an operand
operand_if_held : (objects : List NamedObject) (cell : Option Reference)
    → operand_if objects cell ≡ option_map operand_of (option_and_then (object_at objects) cell)
operand_if_held objects cell = grind arith

-- ---- what a node writes

module _ (objects : List NamedObject) (n : Node) (node : IsNode n) (second : Option ObjectValue)
    (is : IfSome second IsObject) where
  -- an output to which it can give becomes an object of which as much lasts
  output_fits : (output : Output) (cell : Reference) (first out : ObjectValue)
      → IsObject first
      → IsObject out
      → option_map lasting_part (object_at objects cell) ≡ Some (lasting_part out)
      → CanGive n.function (operand_of first) (option_map operand_of second) (operand_of out)
      → IsReplacement objects (cell, node_output n output first second out)
  output_fits output cell (ImageObject a) (ImageObject out) is_first is_out found can =
      let elsewhere = second_or_output n second (ImageObject out) in
      let e : description_of (node_image n output out.format a elsewhere) ≡ description_of out =
      described_node n output out.format a elsewhere
      ∙ same_description (record { width = a.width; height = a.height; format = out.format })
      (description_of out) can.size refl in
      record {
        is_object = image_is (accumulates n.function) refl;
        lasts =
            found ∙ ap Some (sym (images-last (node_image n output out.format a elsewhere) out e));
      }
    where
      right : (object : Option ObjectValue)
          → IfSome (option_map operand_of object)
          (λ o. (parameters n.function).second_input ≡ operand_kind o)
          → IfSome object (λ o. (parameters n.function).second_input ≡ Some (object_kind o))
      right None h = tt
      right (Some object) h = h ∙ kind-operand object

      image_is : (sums : Bool)
          → accumulates n.function ≡ sums
          → IsImage
          (node_image n output out.format a (if sums then Some (ImageObject out) else second))
      image_is true is_sum =
          accumulated_image_is n out.format a node is_first output out is_sum is_out
      image_is false is_sum =
          node_image_is n out.format a node is_first output second is (right second can.kind)
          (subst
          (λ (format : Option Format). IsTrue
          (takes_formats n.function a.format format (Some out.format)))
          (same_formats second) can.formats)
  output_fits output cell (ImageObject a) (DistributionObject d) is_first is_out found can =
      record {
        is_object = record { bins = is_out.bins; size = length-histogram d.bins a };
        lasts = found;
      }
  output_fits output cell (ImageObject a) (ExtremesObject e) is_first is_out found can = record {
    is_object = tt;
    lasts = found;
  }
  output_fits output cell first out is_first is_out found can = record {
    is_object = is_out;
    lasts = found;
  }

  -- so does what a cell holds, if it holds something
  written_to_fits : (output : Output) (cell : Reference) (first out : Option ObjectValue)
      → IfSome first IsObject
      → IfSome out IsObject
      → option_map lasting_part (object_at objects cell) ≡ option_map lasting_part out
      → CanGiveTo n.function (option_map operand_of first) (option_map operand_of second)
      (option_map operand_of out)
      → All (IsReplacement objects) (written_to n output cell first second out)
  written_to_fits output cell (Some first) (Some out) is_first is_out found can =
      All-cons (IsReplacement objects) (
        cell,
        node_output n output first second out,
      ) [] (output_fits output cell first out is_first is_out found can) (All-nil
      (IsReplacement objects))
  written_to_fits output cell first out is_first is_out found can = All-nil (IsReplacement objects)

-- among objects of which as much lasts, a cell holds the same as an operand
pub operand_alike : (objects others : List NamedObject)
    → map lasting_named others ≡ map lasting_named objects
    → (cell : Reference)
    → operand_in others cell ≡ operand_in objects cell
operand_alike objects others same cell =
    option_map-determined skeleton operand_of operand_of operand-skeleton
    (object_at others cell) (object_at objects cell)
    (skeletons-last (object_at others cell) (object_at objects cell)
    (cell-lasts objects others cell same))

-- what a node writes to its outputs may be written there, where as much lasts of the objects at the
-- start
pub written_from_fits : (start objects : List NamedObject) (n : Node)
    → All (λ o. IsObject o.object) start
    → All (λ o. IsObject o.object) objects
    → map lasting_named objects ≡ map lasting_named start
    → CanRunOn (operand_in objects) n
    → All (IsReplacement objects) (written_from (object_at start) n (object_at objects))
written_from_fits start objects n is_start is same can =
    All-append (IsReplacement objects)
    (written_in n First n.out1 (object_at start) (object_at objects))
    (written_in n Second n.out2 (object_at start) (object_at objects))
    (given_fits First n.out1 can.out1) (given_fits Second n.out2 can.out2)
  where
    second_is : (cell : Option Reference)
        → IfSome (option_and_then (object_at objects) cell) IsObject
    second_is None = tt
    second_is (Some x) = held_is objects x is

    given_fits : (output : Output) (out : Option Reference)
        → CanGiveTo n.function (operand_in objects n.in1) (operand_if objects n.in2)
        (operand_if objects out)
        → All (IsReplacement objects)
        (written_in n output out (object_at start) (object_at objects))
    given_fits output None gives = All-nil (IsReplacement objects)
    given_fits output (Some cell) gives =
        let second = option_and_then (object_at objects) n.in2 in
        written_to_fits objects n can.node second (second_is n.in2) output cell
        (object_at objects n.in1) (object_at start cell)
        (held_is objects n.in1 is) (held_is start cell is_start)
        (cell-lasts start objects cell same)
        (subst
        (λ out. CanGiveTo n.function (operand_in objects n.in1) (option_map operand_of second) out)
        (operand_alike start objects same cell)
        (subst
        (λ o. CanGiveTo n.function (operand_in objects n.in1) o (operand_in objects cell))
        (operand_if_held objects n.in2) gives))

-- ---- operands that nothing refuses

-- where neither of two refuses, the first doesn't and the second doesn't
pub neither : {R : Type 0} (first second : Option R)
    → option_or first second ≡ None
    → (first ≡ None) × (second ≡ None)
neither first second h = grind arith

-- an operand that isn't refused
pub record Passes (scope : Option ℕ) (objects : List NamedObject) (operand : Reference × Kind) :
    Type 0 where
  pub known : is_unknown objects operand.0 ≡ false
  pub kind : is_of_other_kind objects operand ≡ false
  pub within : is_beyond scope objects operand.0 ≡ false
  pub there : holds_nothing objects operand.0 ≡ false

pub operands_pass : (scope : Option ℕ) (objects : List NamedObject) (all : List (Reference × Kind))
    → operands_refusal scope objects all ≡ None
    → All (Passes scope objects) all
operands_pass scope objects all h k d below =
    let known = passed _ _ _ h in
    let of_kind = passed _ _ _ known.1 in
    let within = passed _ _ _ of_kind.1 in
    let there = passed _ _ _ within.1 in
    record {
      known = each_fails _ all known.0 k d below;
      kind = each_fails _ all of_kind.0 k d below;
      within = each_fails _ all within.0 k d below;
      there = each_fails _ all there.0 k d below;
    }

-- ---- the operands of a node

-- a node has a second input where its function has one
pub second_there : (n : Node)
    → IsTrue (is_node n)
    → IsTrue (if is_some (parameters n.function).second_input then is_some n.in2 else is_none n.in2)
second_there n shape = (and_parts _ _ (and_parts _ _ (and_parts _ _ shape).1).0).0

-- an object that is accepted as a kind is of that kind, unless it is a virtual image
pub stands_for_equal : (a wanted : Kind)
    → stands_for a wanted ≡ true
    → (a ≡ kind.VirtualImage → ⊥)
    → wanted ≡ a
stands_for_equal kind.VirtualImage wanted h not_virtual = absurd (not_virtual refl)
stands_for_equal a wanted h not_virtual = same_kind_equal wanted a h

-- where each second input that is there is of the kind that a node is to have, it is of that which
-- its function has
pub second_right : (look : Reference → Option Operand) (n : Node)
    → IsNode n
    → IfSome n.in2 (λ cell. IfSome (look cell) (λ o. Some (second_kind n) ≡ operand_kind o))
    → IfSome (option_and_then look n.in2)
    (λ o. (parameters n.function).second_input ≡ operand_kind o)
second_right look n node h = grind (arith, second_there n node.shape)

-- ---- a node that isn't refused

-- where nothing is rejected, the verdict is none
pub not_rejected : (verdict : Option Verdict) → option_map Rejected verdict ≡ None → verdict ≡ None
not_rejected verdict h = grind arith

-- what a node by itself needs of an operand
pub record IsOwn (objects : List NamedObject) (operand : Reference × Kind) : Type 0 where
  pub kind : is_kind operand.1 (kind_held objects operand.0) ≡ true
  pub real : is_some_virtual (object_at objects operand.0) ≡ false

-- an operand that passes, and that is no virtual image, is of the kind that is wanted there
of_wanted : (objects : List NamedObject) (operand : Reference × Kind)
    → IsOwn objects operand
    → IfSome (operand_in objects operand.0) (λ o. Some operand.1 ≡ operand_kind o)
of_wanted objects operand h = grind (arith, held_kind objects operand.0)

-- where both suit, both can be given to
both_give : (function : Function) (first : Option ObjectValue) (second out1 out2 : Option Operand)
    → IfSome second (λ o. (parameters function).second_input ≡ operand_kind o)
    → IfSome first (BothSuit function (option_and_then operand_format second) out1 out2)
    → CanGiveTo function (option_map operand_of first) second out1
    × CanGiveTo function (option_map operand_of first) second out2
both_give function first second out1 out2 right suit = grind (arith, suits_give, right)

-- a node that isn't refused can give to its outputs
not_refused : (limits : LimitsValue) (c : Context) (n : Node)
    → KeepsLimits limits c
    → IsNode n
    → node_refusal c.objects n ≡ None
    → CanRunOn (operand_in c.objects) n
not_refused limits c n h node allowed =
    let objects : List NamedObject = c.objects in
    let first = neither (operands_refusal None objects (operands n)) _ allowed in
    let rest =
    neither (away_refusal objects n)
    (option_map Rejected (option_and_then (verdict_on n) (operands_in objects n))) first.1 in
    let pass = operands_pass None objects (operands n) first.0 in
    let real =
    each_fails (λ operand. is_some_virtual (object_at objects operand.0)) (operands n)
    (passed _ OptimizedAway None rest.0).0 in
    let own : All (IsOwn objects) (operands n) = λ k d below.
    let operand = get_or (operands n) k d in
    record {
      kind =
          kind_if_live objects operand.1 operand.0 h.names
          (not-false (is_kind operand.1 (kind_of objects operand.0)) (pass k d below).kind);
      real = real k d below;
    } in
    let right =
    second_right (operand_in objects) n node
    (IfSome_then n.in2 (of_operands (IsOwn objects) n own).in2
    (λ cell is. of_wanted objects (cell, second_kind n) is))
    in
    let suit =
    verdict_suits n (object_at objects n.in1) (operand_if objects n.in2)
    (operand_if objects n.out1) (operand_if objects n.out2)
    (option_and_then operand_format (operand_if objects n.in2)) refl
    (not_rejected (option_and_then (verdict_on n) (operands_in objects n)) rest.1) in
    let give =
    both_give n.function (object_at objects n.in1) (operand_if objects n.in2)
    (operand_if objects n.out1) (operand_if objects n.out2) right suit in
    record { node = node; out1 = give.0; out2 = give.1 }

-- a node by itself keeps the limits and the objects held
pub immediate_keeps : (limits : LimitsValue) (c : Context) (n : Node)
    → KeepsLimits limits c
    → IsNode n
    → Keeps limits c (immediate c n)
immediate_keeps limits c n h is =
    let written = written_by n (object_at c.objects) in
    unless_keeps limits c (node_refusal c.objects n) Empty
    (with_objects c (with_written c.objects written))
    (λ allowed. alike_leaves limits (λ name. false) c h (with_written c.objects written)
    (Lasts-with_written c.objects written h.names h.objects
    (written_from_fits c.objects c.objects n h.objects h.objects refl
    (not_refused limits c n h is allowed))))
