-- A node whose fields are as its function wants them is one.
use Rattle.std.proofs.Common.{◌≡◌, ℕ, Bool, true, false, not, ◌&&◌, ◌||◌, nat_le, Option, Some, None, is_some, is_none, unwrap_or, if◌then◌else◌, IsTrue, refl, ap, ◌∙◌, List, ◌++◌, append_assoc}
use Rattle.vx_wire.proofs.Common.{Node, Parameters, parameters, Reference, is_nothing, is_named, is_wrap, Required, Absent, Free, second_input, first_output, second_output, is_operand}
use Rattle.vx_base.specs.Node.{is_node}

pub both : (a b : Bool) → IsTrue a → IsTrue b → IsTrue (a && b)
both a b p q = rw (p, q) refl

pub both_of : (a b : Bool) → IsTrue (a && b) → IsTrue a × IsTrue b
both_of true b is = (refl, is)
both_of false b is = cc

second_has : (second : Bool) (in2 : Option Reference)
    → IsTrue (is_operand (if second then Required else Absent) in2)
    →
    IsTrue (if second then is_some in2 else is_none in2) × IsTrue (is_named in2)
second_has true None h = cc
second_has true (Some cell) h = (refl, h)
second_has false None h = (refl, refl)
second_has false (Some cell) h = cc

outputs_have : (pair : Bool) (out1 out2 : Option Reference) →
    IsTrue (is_operand (if pair then Free else Required) out1)
    → IsTrue (is_operand (if pair then (if is_none out1 then Required else Free) else Absent) out2)
    →
    IsTrue (if pair then (is_some out1 || is_some out2) else (is_some out1 && is_none out2))
    × IsTrue (is_named out1)
    × IsTrue (is_named out2)
outputs_have true None None h k = cc
outputs_have true None (Some cell) h k = (refl, refl, k)
outputs_have true (Some cell) None h k = (refl, h, refl)
outputs_have true (Some cell) (Some other) h k = (refl, h, k)
outputs_have false None out2 h k = cc
outputs_have false (Some cell) None h k = (refl, h, refl)
outputs_have false (Some cell) (Some other) h k = cc

-- of the parameters that were read from the function
pub is_node-from_parameters : (n : Node) (p : Parameters)
    → p ≡ parameters n.function
    → IsTrue (p.policy || is_wrap n.policy)
    →
    IsTrue (nat_le n.amount (unwrap_or p.greatest_amount 0)) → IsTrue (not (is_nothing n.in1)) →
    IsTrue (is_operand (second_input p) n.in2) → IsTrue (is_operand (first_output p) n.out1) →
    IsTrue (is_operand (second_output p n.out1) n.out2) → IsTrue (is_node n)
is_node-from_parameters n p e policy amount in1 in2 out1 out2 =
    let second = second_has (is_some p.second_input) n.in2 in2 in
    let outputs = outputs_have p.output_pair n.out1 n.out2 out1 out2 in
    rw (← e, policy, amount, second.0, outputs.0, in1, second.1, outputs.1, outputs.2) refl

-- three lists joined, and what follows them
pub three_joined : (a b c rest : List ℕ) → (a ++ (b ++ c)) ++ rest ≡ a ++ (b ++ (c ++ rest))
three_joined a b c rest = append_assoc a (b ++ c) rest ∙ ap (λ l. a ++ l) (append_assoc b c rest)
