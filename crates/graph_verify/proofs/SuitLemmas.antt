-- A node without a fault: its function takes the format of each output, and each output has the
-- size of the first input.
use Rattle.std.proofs.Common.{◌≡◌, Bool, true, false, IsTrue, ◌++◌, Option, Some, None, IfSome, sym, ◌∙◌, cond, arith, not, option_to_list}
use Rattle.graph_verify.proofs.Common.{list_all, option_map, option_and_then, and_parts, cases_Bool, not-false, Format, Function, Node, takes_formats, Operand, Operands, InvalidFormat, operand_format, written_operands, takes_first, takes_operands, node_fault, verdict_on, writes_twice, reads_own_output}
use Rattle.graph_verify.specs.declared.verdict.Verdict.TheVariants.{InvalidDimension, MultipleWriters, InvalidGraph}
use Rattle.graph_verify.specs.Operand.{are_of_one_size, other_operands, operand_of}
use Rattle.std.proofs.lemmas.List.Folds.{list_all-append}
use Rattle.vx_base.specs.Object.{ObjectValue}

-- where nothing refuses, the first reason doesn't hold, and no later one refuses
pub passed : {R : Type 0} (b : Bool) (refusal : R) (rest : Option R)
    → cond b (Some refusal) rest ≡ None
    → (b ≡ false) × (rest ≡ None)
passed b refusal rest h = grind (arith, cases_Bool b)

-- and where a last condition has to hold, it does
pub met : {R : Type 0} (b : Bool) (refusal : R) → cond b None (Some refusal) ≡ None → b ≡ true
met b refusal h = grind (arith, cases_Bool b)

-- whether the function takes the formats of these operands
abbrev pub takes_output : Function → Option Format → Option Format → Operand → Bool
takes_output function None second out = false
takes_output function (Some first) second out =
    takes_formats function first second (operand_format out)

-- an output whose format the function takes with those of the inputs, and which has the size of the
-- first input
pub record Suits (function : Function) (first : Operand) (second : Option Format)
    (out : Operand) : Type 0 where
  pub formats : IsTrue (takes_output function (operand_format first) second out)
  pub size : IsTrue (are_of_one_size first out)

-- both operands pass a test, if they are given
both_pass : {X : Type 0} (p : X → Bool) (x y : Option X)
    → list_all p (option_to_list x ++ option_to_list y) ≡ true
    → IfSome x (λ z. p z ≡ true) × IfSome y (λ z. p z ≡ true)
both_pass p x y h = grind arith

-- the formats of each output are taken
formats_taken : (function : Function) (first second : Option Format) (out1 out2 : Option Operand)
    → takes_first function first second (option_to_list out1 ++ option_to_list out2) ≡ true
    → IfSome out1 (λ out. IsTrue (takes_output function first second out))
    × IfSome out2 (λ out. IsTrue (takes_output function first second out))
formats_taken function None second out1 out2 h = cc
formats_taken function (Some first) second out1 out2 h =
    both_pass (λ out. takes_formats function first second (operand_format out)) out1 out2 h

-- an output that is given and has both properties
suits_if : (function : Function) (first : Operand) (second : Option Format) (out : Option Operand)
    → IfSome out (λ x. IsTrue (takes_output function (operand_format first) second x))
    → IfSome out (λ x. IsTrue (are_of_one_size first x))
    → IfSome out (Suits function first second)
suits_if function first second out formats size = grind arith

-- where the operands of a node have no fault, each output suits
pub no_fault_suits : (function : Function) (o : Operands) → node_fault function o ≡ None
    → IfSome o.out1 (Suits function o.in1 (option_and_then operand_format o.in2))
    × IfSome o.out2 (Suits function o.in1 (option_and_then operand_format o.in2))
no_fault_suits function o h =
    let taken = passed (not (takes_operands function o)) InvalidFormat _ h in
    let formats =
    formats_taken function (operand_format o.in1) (option_and_then operand_format o.in2) o.out1
    o.out2 (not-false (takes_operands function o) taken.0) in
    let of_size =
    met (list_all (are_of_one_size o.in1) (other_operands o)) InvalidDimension taken.1 in
    let written =
    (and_parts (list_all (are_of_one_size o.in1) (option_to_list o.in2))
    (list_all (are_of_one_size o.in1) (written_operands o))
    (sym (list_all-append (are_of_one_size o.in1) (option_to_list o.in2) (written_operands o))
    ∙ of_size)).1
    in
    let sizes = both_pass (are_of_one_size o.in1) o.out1 o.out2 written in (
      suits_if function o.in1 (option_and_then operand_format o.in2) o.out1 formats.0 sizes.0,
      suits_if function o.in1 (option_and_then operand_format o.in2) o.out2 formats.1 sizes.1,
    )

-- operands from the first input and the others
abbrev pub elsewhere_first : Option Operand → Option Operand → Option Operand → Operand → Operands
elsewhere_first in2 out1 out2 in1 = record { in1 = in1; in2 = in2; out1 = out1; out2 = out2 }

-- outputs that suit the first input and a second of this format
abbrev pub BothSuit : Function
    → Option Format
    → Option Operand
    → Option Operand
    → ObjectValue
    → Type 0
BothSuit function second out1 out2 first =
    IfSome out1 (Suits function (operand_of first) second)
    × IfSome out2 (Suits function (operand_of first) second)

-- where the verdict on a node is none, each output suits
pub verdict_suits :
    (n : Node) (first : Option ObjectValue) (in2 out1 out2 : Option Operand)
    (second : Option Format)
    → option_and_then operand_format in2 ≡ second
    → option_and_then (verdict_on n)
    (option_map (elsewhere_first in2 out1 out2) (option_map operand_of first))
    ≡ None
    → IfSome first (BothSuit n.function second out1 out2)
verdict_suits n None in2 out1 out2 second e h = tt
verdict_suits n (Some first) in2 out1 out2 second e h =
    let one_writer = passed (writes_twice n) MultipleWriters _ h in
    let no_cycle = passed (reads_own_output n) InvalidGraph _ one_writer.1 in
    rw (← e)
    (no_fault_suits n.function (elsewhere_first in2 out1 out2 (operand_of first)) no_cycle.1)
