-- A node is read back from its bytes.
use Rattle.std.proofs.Common.{◌≡◌, ℕ, ◌==◌, List, [], ◌∷◌, ◌++◌, Option, Some, None, Ok, Bool, true, false, not, ◌&&◌, ◌||◌, IsTrue, if◌then◌else◌, cond, nat_le, is_some, is_none, unwrap_or, arith, refl, ap, IfSome, eq-eqb, leb-true}
use Rattle.vx_wire.proofs.Common.{with_number, Border, Undefined, Constant, Replicate, Policy, Wrap, Saturate, Function, Parameters, Node, function_number, parameters, Reference, IsReference, is_nothing, is_named, is_wrap, IsNode, InvalidParameters, InvalidValue, Presence, Required, Absent, Free, allowed_or_fault, take_reference, reference_bytes, operand, take_operand, second_input, first_output, second_output, take_operands, take_first_input, is_operand, operand_bytes, take_function, take_border, take_policy, amount_allowed, take_node, border_bytes, policy_number, node_bytes}
use Rattle.vx_base.specs.Node.{has_amount, has_operands, all_named}
use Rattle.vx_wire.proofs.NodeShape.{both_of, three_joined}
use Rattle.vx_wire.proofs.FunctionNumbers.{numbered_back}
use Rattle.std.proofs.lemmas.Bool.{not-true}
use Rattle.vx_wire.proofs.SpelledFields.{allowed_back, cell_back}

function_back : (function : Function) (rest : List ℕ)
    → take_function (function_number function ∷ rest) ≡ Ok (function, rest)
function_back function rest = rw (numbered_back function) refl

border_back : (border : Border) (rest : List ℕ)
    → take_border (border_bytes border ++ rest) ≡ Ok (border, rest)
border_back Undefined rest = refl
border_back (Constant value) rest =
    ap (λ b. allowed_or_fault InvalidParameters (cond b (Some (Constant value)) None) rest)
    (eq-eqb value value refl)
border_back Replicate rest = refl

policy_back : (p : Parameters) (policy : Policy) (rest : List ℕ)
    → IsTrue (p.policy || is_wrap policy)
    → take_policy p (policy_number policy ∷ rest) ≡ Ok (policy, rest)
policy_back p policy rest is = numbered_back p.policy policy is
  where
    numbered_back : (has : Bool) (policy : Policy) → IsTrue (has || is_wrap policy)
        → allowed_or_fault InvalidParameters
        (with_number policy_number (if has then Wrap ∷ Saturate ∷ [] else Wrap ∷ [])
        (policy_number policy))
        rest
        ≡ Ok (policy, rest)
    numbered_back true Wrap is = refl
    numbered_back false Wrap is = refl
    numbered_back true Saturate is = refl
    numbered_back false Saturate is = cc

amount_back : (greatest : Option ℕ) (n : ℕ) (rest : List ℕ)
    → IsTrue (nat_le n (unwrap_or greatest 0))
    → amount_allowed greatest n rest ≡ Ok (n, rest)
amount_back None n rest is =
    let e : (n == 0) ≡ true = eq-eqb n 0 (omega (arith, leb-true n 0 is)) in
    ap (λ b. allowed_or_fault InvalidParameters (if b then Some n else None) rest) e
amount_back (Some greatest) n rest is =
    ap (λ b. allowed_or_fault InvalidValue (if b then Some n else None) rest) is

-- an operand that is there as its presence wants
allowed_operand : (presence : Presence) (o : Option Reference)
    → IsTrue (is_operand presence o)
    → operand presence (unwrap_or o (record { name = 0; slot = None })) ≡ Some o
allowed_operand Required None is = cc
allowed_operand Required (Some c) is = rw (not-true (is_nothing c) is) refl
allowed_operand Absent None is = refl
allowed_operand Absent (Some c) is = cc
allowed_operand Free None is = refl
allowed_operand Free (Some c) is = rw (not-true (is_nothing c) is) refl

operand_back : (presence : Presence) (o : Option Reference) (rest : List ℕ)
    → IsTrue (is_operand presence o)
    → IfSome o IsReference
    → take_operand presence (operand_bytes o ++ rest) ≡ Ok (o, rest)
operand_back presence None rest is cell = rw (allowed_operand presence None is) refl
operand_back presence (Some c) rest is cell =
    allowed_back (take_reference (reference_bytes c ++ rest)) c (Some c) rest InvalidParameters
    (operand presence) (cell_back c rest cell) (allowed_operand presence (Some c) is)

first_back : (cell : Reference) (rest : List ℕ)
    → IsTrue (not (is_nothing cell))
    → IsReference cell
    → take_first_input (reference_bytes cell ++ rest) ≡ Ok (cell, rest)
first_back cell rest given is =
    allowed_back (take_reference (reference_bytes cell ++ rest)) cell cell rest
    InvalidParameters (λ cell. if is_nothing cell then None else Some cell)
    (cell_back cell rest is)
    (rw (not-true (is_nothing cell) given) refl)

operands_back : (p : Parameters) (in2 out1 out2 : Option Reference) (rest : List ℕ)
    → IsTrue (is_operand (second_input p) in2)
    → IsTrue (is_operand (first_output p) out1)
    → IsTrue (is_operand (second_output p out1) out2)
    → IfSome in2 IsReference
    → IfSome out1 IsReference
    → IfSome out2 IsReference
    → take_operands p (operand_bytes in2 ++ (operand_bytes out1 ++ (operand_bytes out2 ++ rest)))
    ≡ Ok ((in2, out1, out2), rest)
operands_back p in2 out1 out2 rest has2 has_out1 has_out2 is2 is_out1 is_out2 =
    rw (
      operand_back (second_input p) in2 _ has2 is2,
      operand_back (first_output p) out1 _ has_out1 is_out1,
      operand_back (second_output p out1) out2 rest has_out2 is_out2,
    ) refl

-- ---- what is_node says of the operands

second_is : (second : Bool) (in2 : Option Reference)
    → IsTrue (if second then is_some in2 else is_none in2)
    → IsTrue (is_named in2)
    → IsTrue (is_operand (if second then Required else Absent) in2)
second_is true None has given = cc
second_is true (Some cell) has given = given
second_is false None has given = refl
second_is false (Some cell) has given = cc

outputs_are : (pair : Bool) (out1 out2 : Option Reference)
    → IsTrue (if pair then (is_some out1 || is_some out2) else (is_some out1 && is_none out2))
    → IsTrue (is_named out1)
    → IsTrue (is_named out2)
    → IsTrue (is_operand (if pair then Free else Required) out1)
    × IsTrue (is_operand (if pair then (if is_none out1 then Required else Free) else Absent) out2)
outputs_are true None None has one two = cc
outputs_are true None (Some cell) has one two = (refl, two)
outputs_are true (Some cell) None has one two = (one, refl)
outputs_are true (Some cell) (Some other) has one two = (one, two)
outputs_are false None out2 has one two = cc
outputs_are false (Some cell) None has one two = (one, refl)
outputs_are false (Some cell) (Some other) has one two = cc

pub node_back : (n : Node) (rest : List ℕ)
    → IsNode n
    → take_node (node_bytes n ++ rest) ≡ Ok (n, rest)
node_back n rest is =
    let p = parameters n.function in
    let (has, others) =
    both_of (has_amount p n.policy n.amount) (has_operands p n && all_named n) is.shape in
    let (policy, amount) =
    both_of (p.policy || is_wrap n.policy) (nat_le n.amount (unwrap_or p.greatest_amount 0)) has in
    let (operands, given) = both_of (has_operands p n) (all_named n) others in
    let (second, outputs) =
    both_of (if is_some p.second_input then is_some n.in2 else is_none n.in2)
    (if p.output_pair then (is_some n.out1 || is_some n.out2) else
    (is_some n.out1 && is_none n.out2))
    operands in
    let (given1, given_others) =
    both_of (not (is_nothing n.in1)) (is_named n.in2 && (is_named n.out1 && is_named n.out2))
    given in
    let (given2, given_outputs) =
    both_of (is_named n.in2) (is_named n.out1 && is_named n.out2) given_others in
    let (given_out1, given_out2) = both_of (is_named n.out1) (is_named n.out2) given_outputs in
    let are = outputs_are p.output_pair n.out1 n.out2 outputs given_out1 given_out2 in
    rw (
      three_joined (operand_bytes n.in2) (operand_bytes n.out1) (operand_bytes n.out2) rest,
      function_back n.function _,
      border_back n.border _,
      policy_back p n.policy _ policy,
    )
    (rw (amount_back p.greatest_amount n.amount _ amount, first_back n.in1 _ given1 is.in1)
    (rw
    (operands_back p n.in2 n.out1 n.out2 rest
    (second_is (is_some p.second_input) n.in2 second given2) are.0 are.1 is.in2 is.out1 is.out2)
    refl))
