-- Single nodes: the objects that they read and write.
use Rattle.std.proofs.Common.{◌≡◌, ◌≢◌, Bool, true, false, List, [], ◌∷◌, ◌++◌, Option, Some, None, refl, subst, arith, rules, All, ◌&&◌, is_some, is_none, unwrap_or, if◌then◌else◌, IfSome, option_to_list, option_map, option_and_then, eq-eqb}
use Rattle.graph_run.proofs.Common.{list_any, list_all, IsStrictlyIncreasing, list_any-append, and_parts, or_parts, Function, Output, First, Second, Kind, Node, Reference, same_reference, parameters, accumulates, ImageValue, IsImage, IsNode, is_node, optional_cells, outputs, second_kind, ObjectValue, ImageObject, IsObject, object_kind, object_format, DistributionObject, node_image, second_or_output, node_output, written_in, written_by, SecondHasSize, Operands, has_twice, operand_of, operand_format, are_of_one_size, writes_twice, reads_own_output, node_fault, NamedObject, object_at, with_object, with_written, cell_object, names_of, held_is, lasting_part, Lasts, operand_held, Holds, AreApart, RunsOn, RunsTo, with_output_object, HoldsKind, CanRunNow, node_image_is, accumulated_image_is}
use Rattle.graph_run.specs.Steps.{output_of}
use Rattle.std.proofs.lemmas.List.Folds.{list_all-append}
use Rattle.vx_base.specs.declared.kind.Kind.TheVariants as kind
use Rattle.vx_base.specs.Node.{has_amount, has_operands, all_named}
use Rattle.graph_verify.proofs.SuitLemmas.{passed, met, Suits, no_fault_suits}
use Rattle.graph_run.proofs.FoundLemmas.{OfOperands, of_operands}
use Rattle.graph_run.proofs.CellLemmas.{object_elsewhere, object_if_elsewhere, holds_elsewhere, hold_elsewhere, image_elsewhere, there_is, kind_there, holds_there, operand_there, Lasts-with_object}
use Rattle.graph_run.proofs.LastingLemmas.{images-last, Lasts-trans, Lasts-names}
use Rattle.graph_run.proofs.OutputLemmas.{description_kept, length-histogram}
use Rattle.graph_run.proofs.OperandLaws.{no_delay_written}

-- ---- cells

-- two references that differ can be written independently
apart : (objects : List NamedObject) (a b : Reference) (k l : Kind)
    → k ≢ kind.Delay
    → l ≢ kind.Delay
    → HoldsKind objects (a, k)
    → HoldsKind objects (b, l)
    → same_reference a b ≡ false
    → AreApart a b
apart objects a b k l no_k no_l h i differ names = grind (arith, eq-eqb a.name b.name names)

-- ---- the operands of a function

-- no function reads a delay as a whole
pub second_no_delay : (function : Function)
    → unwrap_or (parameters function).second_input kind.Image ≢ kind.Delay
second_no_delay other = grind arith

pub has_of_node : (n : Node) → is_node n ≡ true → has_operands (parameters n.function) n ≡ true
has_of_node n shape =
    (and_parts (has_operands (parameters n.function) n) (all_named n)
    (and_parts (has_amount (parameters n.function) n.policy n.amount)
    (has_operands (parameters n.function) n && all_named n) shape).1).0

-- ---- the objects that a node reads and writes

pub same_formats : (second : Option ObjectValue)
    → option_and_then operand_format (option_map operand_of second)
    ≡ option_and_then object_format second
same_formats x = grind arith

-- an image of the size of another
pub object_fits : (a : ImageValue) (object : ObjectValue)
    → are_of_one_size (operand_of (ImageObject a)) (operand_of object) ≡ true
    → SecondHasSize a (Some object)
object_fits a other e = grind arith

-- references in two lists, none of which is a second input
in2_reads : (cell : Option Reference) (xs ys : List Reference)
    → list_any (λ a. list_any (same_reference a) (xs ++ ys)) (optional_cells cell) ≡ false
    → (list_any (λ a. list_any (same_reference a) xs) (optional_cells cell) ≡ false)
    × (list_any (λ a. list_any (same_reference a) ys) (optional_cells cell) ≡ false)
in2_reads cell xs ys e = grind (arith, or_parts, list_any-append)

-- writes one after the other
pub with_written-append :
    (objects : List NamedObject) (written others : List (Reference × ObjectValue))
    → with_written objects (written ++ others) ≡ with_written (with_written objects written) others
with_written-append objects [] others = refl
with_written-append objects (w ∷ written) others =
    with_written-append (with_object objects w.0 w.1) written others

-- slots that differ differ the other way round
pub apart_back : (p q : Reference) → AreApart p q → AreApart q p
apart_back p q h e = grind arith

-- the values that a node writes don't depend on its other output
module _ (l : List NamedObject) (n : Node) (one other : Reference) (x : ObjectValue)
    (h : RunsTo l n other) (in1 : AreApart n.in1 one) (in2 : IfSome n.in2 (λ q. AreApart q one))
    (out : AreApart other one) where
  abbrev after : List NamedObject
  after = with_object l one x

  pub runs_elsewhere : RunsTo after n other
  runs_elsewhere =
      search (
        rules,
        image_elsewhere,
        hold_elsewhere,
        holds_elsewhere,
        object_elsewhere,
        object_if_elsewhere,
      )

  pub output_elsewhere : (which : Output)
      → output_of after n which other ≡ output_of l n which other
  output_elsewhere which =
      grind (
        arith,
        object_elsewhere l one n.in1 x in1,
        object_if_elsewhere l one n.in2 x in2,
        object_elsewhere l one other x out,
      )

-- objects as operands
abbrev operands_there : List NamedObject → Node → Operands
operands_there objects n =
    record {
      in1 = operand_of (cell_object objects n.in1);
      in2 = option_map operand_of (option_map (cell_object objects) n.in2);
      out1 = option_map operand_of (option_map (cell_object objects) n.out1);
      out2 = option_map operand_of (option_map (cell_object objects) n.out2);
    }

module _ (n : Node) where
  runs_on : IsNode n → (first : ObjectValue) (second : Option ObjectValue) (out : ObjectValue)
      → object_kind first ≡ kind.Image
      → object_kind out ≡ (parameters n.function).output
      → IsObject first
      → IfSome second IsObject
      → IsObject out
      → IfSome second (λ object. (parameters n.function).second_input ≡ Some (object_kind object))
      → Suits n.function (operand_of first)
      (option_and_then operand_format (option_map operand_of second)) (operand_of out)
      → list_all (are_of_one_size (operand_of first))
      (option_to_list (option_map operand_of second))
      ≡ true
      → RunsOn n first second out
  runs_on node other second out h i is_first is_second is_out k suits sizes =
      grind (arith, object_fits)

  -- a second input has the kind that the function reads
  second_wanted : (objects : List NamedObject) (cell : Option Reference) (s : Option Kind)
      → (if is_some s then is_some cell else is_none cell) ≡ true
      → IfSome cell (λ c. HoldsKind objects (c, unwrap_or s kind.Image))
      → IfSome (option_map (cell_object objects) cell) (λ object. s ≡ Some (object_kind object))
  second_wanted objects y s has h = grind arith

  -- the objects that a node reads and writes, if they have the kinds of its function
  module _ (objects : List NamedObject) (are : All (λ o. IsObject o.object) objects)
      (can : CanRunNow objects n) where
    h : OfOperands (HoldsKind objects) n
    h = of_operands (HoldsKind objects) n can.kinds

    abbrev wanted : Kind
    wanted = (parameters n.function).output

    if_there : (cell : Option Reference) (k : Kind)
        → IfSome cell (λ c. HoldsKind objects (c, k))
        → option_map (operand_held objects) cell
        ≡ option_map operand_of (option_map (cell_object objects) cell)
    if_there z0 k object_at = grind arith

    parts :
        (writes_twice n ≡ false)
        × (reads_own_output n ≡ false)
        × (node_fault n.function (operands_there objects n) ≡ None)
    parts =
        grind (
          arith,
          passed,
          operand_there objects n.in1 (holds_there objects (n.in1, kind.Image) h.in1),
          holds_there objects (n.in1, kind.Image) h.in1,
          if_there n.in2 (second_kind n) h.in2,
          if_there n.out1 wanted h.out1,
          if_there n.out2 wanted h.out2,
          can.verdict,
        )

    second_sizes :
        list_all (are_of_one_size (operand_of (cell_object objects n.in1)))
        (option_to_list (option_map operand_of (option_map (cell_object objects) n.in2)))
        ≡ true
    second_sizes = grind (arith, met, passed, parts, and_parts, list_all-append)

    -- the second input is apart from an output
    second_apart : (second : Option Reference) (elsewhere : Kind) (cell : Reference)
        → elsewhere ≢ kind.Delay
        → IfSome second (λ c. HoldsKind objects (c, elsewhere))
        → HoldsKind objects (cell, wanted)
        → list_any (λ a. list_any (same_reference a) (cell ∷ [])) (optional_cells second) ≡ false
        → IfSome second (Holds objects) × IfSome second (λ q. AreApart q cell)
    second_apart None elsewhere cell no_delay a b e = grind arith
    second_apart (Some c) elsewhere cell no_delay a b e =
        grind (
          arith,
          or_parts (same_reference c cell) false
              (or_parts (list_any (same_reference c) (cell ∷ [])) false e).0,
          or_parts (list_any (same_reference c) (cell ∷ [])) false e,
          holds_there objects (c, elsewhere) a,
          apart objects c cell elsewhere wanted no_delay,
          no_delay_written,
        )

    object_is : (cell : Reference) → Holds objects cell → IsObject (cell_object objects cell)
    object_is cell is =
        subst (λ (o : Option ObjectValue). IfSome o IsObject) (there_is objects cell is)
        (held_is objects cell are)

    object_if_is : (cell : Option Reference)
        → IfSome cell (Holds objects)
        → IfSome (option_map (cell_object objects) cell) IsObject
    object_if_is z0 is = grind (arith, object_is)

    each : (cell : Option Reference)
        → IfSome cell (λ c. HoldsKind objects (c, wanted))
        → list_any (same_reference n.in1) (optional_cells cell) ≡ false
        → list_any (λ a. list_any (same_reference a) (optional_cells cell)) (optional_cells n.in2)
        ≡ false
        → IfSome (option_map operand_of (option_map (cell_object objects) cell))
        (Suits n.function (operand_of (cell_object objects n.in1))
        (option_and_then operand_format
        (option_map operand_of (option_map (cell_object objects) n.in2))))
        → IfSome cell (RunsTo objects n)
    each None holds in1 in2 suits = tt
    each (Some cell) holds in1 in2 suits =
        let second =
        second_apart n.in2 (second_kind n) cell (second_no_delay n.function) h.in2 holds in2 in
        let differ = (or_parts (same_reference n.in1 cell) false in1).0 in
        record {
          in1 = h.in1;
          in2 = second.0;
          out = holds_there objects (cell, wanted) holds;
          in1_apart =
              apart objects n.in1 cell kind.Image wanted (λ e. cc e)
              (no_delay_written n.function) h.in1 holds differ;
          in2_apart = second.1;
          runs =
              runs_on can.node (cell_object objects n.in1)
              (option_map (cell_object objects) n.in2) (cell_object objects cell)
              (kind_there objects (n.in1, kind.Image) h.in1)
              (kind_there objects (cell, wanted) holds)
              (object_is n.in1 (holds_there objects (n.in1, kind.Image) h.in1))
              (object_if_is n.in2 second.0)
              (object_is cell (holds_there objects (cell, wanted) holds))
              (second_wanted objects n.in2 (parameters n.function).second_input
              (and_parts
              (if is_some (parameters n.function).second_input then is_some n.in2 else is_none
              n.in2)
              _ (has_of_node n can.node.shape)).0
              h.in2)
              suits second_sizes;
        }

    in1_apart :
        (list_any (same_reference n.in1) (optional_cells n.out1) ≡ false)
        × (list_any (same_reference n.in1) (optional_cells n.out2) ≡ false)
    in1_apart =
        grind (
          arith,
          or_parts (list_any (same_reference n.in1) (outputs n))
              (list_any (λ a. list_any (same_reference a) (outputs n)) (optional_cells n.in2))
              parts.1,
          list_any-append (same_reference n.in1) (optional_cells n.out1) (optional_cells n.out2),
          or_parts,
          list_any-append,
        )

    in2_apart :
        (list_any (λ a. list_any (same_reference a) (optional_cells n.out1))
        (optional_cells n.in2) ≡ false)
        ×
        (list_any (λ a. list_any (same_reference a) (optional_cells n.out2))
        (optional_cells n.in2) ≡ false)
    in2_apart =
        in2_reads n.in2 (optional_cells n.out1) (optional_cells n.out2)
        (or_parts (list_any (same_reference n.in1) (outputs n))
        (list_any (λ a. list_any (same_reference a) (outputs n)) (optional_cells n.in2))
        parts.1).1

    pub runs_first : IfSome n.out1 (RunsTo objects n)
    runs_first =
        each n.out1 h.out1 in1_apart.0 in2_apart.0
        (no_fault_suits n.function (operands_there objects n) parts.2).0

    pub runs_second : IfSome n.out2 (RunsTo objects n)
    runs_second =
        each n.out2 h.out2 in1_apart.1 in2_apart.1
        (no_fault_suits n.function (operands_there objects n) parts.2).1

    -- two outputs are apart
    outputs_apart : (one other : Option Reference)
        → IfSome one (λ c. HoldsKind objects (c, wanted))
        → IfSome other (λ c. HoldsKind objects (c, wanted))
        → has_twice (optional_cells one ++ optional_cells other) ≡ false
        → IfSome one (λ a. IfSome other (λ b. AreApart b a))
    outputs_apart (Some a) (Some b) s t e =
        grind (
          arith,
          or_parts (same_reference a b) false
              (or_parts (list_any (same_reference a) (b ∷ [])) false e).0,
          or_parts (list_any (same_reference a) (b ∷ [])) false e,
          apart_back a b,
          apart objects a b wanted wanted,
          no_delay_written,
        )
    outputs_apart x other s t e = grind arith

    pub two_outputs : IfSome n.out1 (λ a. IfSome n.out2 (λ b. AreApart b a))
    two_outputs = outputs_apart n.out1 n.out2 h.out1 h.out2 parts.0

    -- the second output can be written once the first is
    pub runs_then : IfSome n.out2 (RunsTo (with_output_object objects n First n.out1) n)
    runs_then = after n.out1 n.out2 runs_first runs_second two_outputs
      where
        after : (one other : Option Reference)
            → IfSome one (RunsTo objects n)
            → IfSome other (RunsTo objects n)
            → IfSome one (λ a. IfSome other (λ b. AreApart b a))
            → IfSome other (RunsTo (with_output_object objects n First one) n)
        after (Some a) (Some b) r s e =
            runs_elsewhere objects n a b (output_of objects n First a) s r.in1_apart r.in2_apart e
        after x other r s e = grind arith

    second_held : (cell : Option Reference) (k : Kind)
        → IfSome cell (λ c. HoldsKind objects (c, k))
        → option_and_then (object_at objects) cell ≡ option_map (cell_object objects) cell
    second_held z0 k s = grind arith

    -- one of the outputs is written; the other may be written already
    written_one : (l : List NamedObject) (which : Output) (cell : Option Reference)
        → IfSome cell (λ c. HoldsKind objects (c, wanted))
        → IfSome cell (λ c. output_of l n which c ≡ output_of objects n which c)
        → with_written l (written_in n which cell (object_at objects) (object_at objects))
        ≡ with_output_object l n which cell
    written_one l which z2 s same =
        grind (
          arith,
          holds_there objects (n.in1, kind.Image) h.in1,
          second_held n.in2 (second_kind n) h.in2,
        )

    same_second : (one other : Option Reference)
        → IfSome one (RunsTo objects n)
        → IfSome other (RunsTo objects n)
        → IfSome one (λ a. IfSome other (λ b. AreApart b a))
        → IfSome other
        (λ c. output_of (with_output_object objects n First one) n Second c
        ≡ output_of objects n Second c)
    same_second (Some a) (Some b) r s e =
        output_elsewhere objects n a b (output_of objects n First a) s r.in1_apart r.in2_apart e
        Second
    same_second x y r s e = grind arith

    -- the written values are those of the outputs
    pub written_is :
        with_written objects (written_by n (object_at objects))
        ≡ with_output_object (with_output_object objects n First n.out1) n Second n.out2
    written_is =
        grind (
          arith,
          with_written-append objects
              (written_in n First n.out1 (object_at objects) (object_at objects))
              (written_in n Second n.out2 (object_at objects) (object_at objects)),
          written_one objects First n.out1 h.out1 (grind arith),
          written_one (with_output_object objects n First n.out1) Second n.out2 h.out2
              (same_second n.out1 n.out2 runs_first runs_second two_outputs),
          same_second n.out1 n.out2 runs_first runs_second two_outputs,
        )

-- ---- written values are objects

-- an image with the lasting parts of another
abbrev LastsAs : ImageValue → ImageValue → Type 0
LastsAs old image =
    IsImage image × (lasting_part (ImageObject image) ≡ lasting_part (ImageObject old))

-- the new value of an output is an object with the same lasting parts
output_lasts :
    (n : Node) (which : Output) (first : ObjectValue) (second : Option ObjectValue)
    (out : ObjectValue)
    → RunsOn n first second out
    → IsObject (node_output n which first second out)
    × (lasting_part (node_output n which first second out) ≡ lasting_part out)
output_lasts n which (ImageObject a) second (ImageObject old) runs =
    each (accumulates n.function) refl
  where
    same : (elsewhere : Option ObjectValue)
        → IsImage (node_image n which old.format a elsewhere)
        → LastsAs old (node_image n which old.format a elsewhere)
    same elsewhere image = (
      image,
      images-last (node_image n which old.format a elsewhere) old
          (description_kept n which a elsewhere old runs.out_size),
    )

    each : (sums : Bool)
        → accumulates n.function ≡ sums
        → LastsAs old
        (node_image n which old.format a (second_or_output n second (ImageObject old)))
    each true is =
        rw is
        (same (Some (ImageObject old))
        (accumulated_image_is n old.format a runs.node runs.first_is which old is runs.out_is))
    each false is =
        rw is
        (same second
        (node_image_is n old.format a runs.node runs.first_is which second runs.second_is
        runs.second_kind runs.formats))
output_lasts n which (ImageObject a) second (DistributionObject d) runs =
    (record { bins = runs.out_is.bins; size = length-histogram d.bins a }, refl)
output_lasts n which first second out runs = grind arith

pub Lasts-with_output :
    (l : List NamedObject) (n : Node) (which : Output) (output : Option Reference)
    → IsStrictlyIncreasing (names_of l)
    → All (λ o. IsObject o.object) l
    → IfSome output (RunsTo l n)
    → Lasts l (with_output_object l n which output)
Lasts-with_output l n which None names are runs = grind arith
Lasts-with_output l n which (Some output) names are runs =
    grind (
      arith,
      output_lasts n which (cell_object l n.in1) (option_map (cell_object l) n.in2)
          (cell_object l output) runs.runs,
      Lasts-with_object l (output, output_of l n which output),
      there_is l output runs.out,
    )

-- the same for all objects after a node has run
pub Lasts-outputs : (n : Node) (l : List NamedObject)
    → All (λ o. IsObject o.object) l
    → CanRunNow l n
    → IsStrictlyIncreasing (names_of l)
    → Lasts l (with_output_object (with_output_object l n First n.out1) n Second n.out2)
Lasts-outputs n l are can names =
    let between = with_output_object l n First n.out1 in
    let first = Lasts-with_output l n First n.out1 names are (runs_first n l are can) in
    let second =
    Lasts-with_output between n Second n.out2 (Lasts-names l between first names) first.objects
    (runs_then n l are can) in
    Lasts-trans l between (with_output_object between n Second n.out2) first second
