-- A node that is read has one spelling.
use Rattle.std.proofs.Common.{◌≡◌, ℕ, ◌<◌, ◌==◌, List, [], ◌∷◌, ◌++◌, Option, Some, None, Bool, true, false, not, ◌&&◌, ◌||◌, IsTrue, if◌then◌else◌, nat_le, is_none, unwrap_or, arith, refl, ap, subst, ◌∙◌, append_assoc, All, IfSome, eqb-true, le-leb}
use Rattle.vx_wire.proofs.Common.{All-nil, All-cons, with_number, Border, Undefined, Constant, Replicate, Policy, Wrap, Saturate, Function, Parameters, Node, function_number, function_numbered, parameters, Reference, IsReference, is_nothing, is_wrap, IsBorder, IsNode, InvalidParameters, InvalidValue, Presence, Required, Absent, Free, reference_bytes, operand, take_operand, second_input, first_output, second_output, take_operands, take_first_input, is_operand, operand_bytes, take_function, take_border, take_policy, amount_allowed, take_node, border_bytes, policy_number, node_bytes}
use Rattle.vx_wire.specs.Node.{take_amount, border_mode, border_constant, border_with, policies}
use Rattle.vx_wire.proofs.Numbers.{found_passes, found_each, number_is}
use Rattle.vx_wire.proofs.NodeShape.{both_of, is_node-from_parameters}
use Rattle.vx_wire.proofs.FunctionNumbers.{number_of_function}
use Rattle.vx_wire.proofs.ReadFields.{if_none, Reads, then_reads, made_of, made, one_made, passed, byte_reads, cell_reads}

function_reads :
    Reads [] take_function (λ function. function_number function ∷ []) (λ function. Unit {0})
function_reads =
    one_made byte_reads InvalidParameters function_numbered
    (λ n function below e. (ap (λ x. x ∷ []) (number_of_function n function e), tt))

bytes_of_border : (mode constant : ℕ) (border : Border)
    → constant < 256
    → border_with mode constant ≡ Some border
    → (mode ∷ constant ∷ [] ≡ border_bytes border) × IsBorder border
bytes_of_border mode constant border below e =
    let passes : Border → Bool = λ b. (mode == border_mode b) && (constant == border_constant b) in
    let borders = Undefined ∷ Constant constant ∷ Replicate ∷ [] in
    let each : All IsBorder borders =
    All-cons IsBorder Undefined (Constant constant ∷ Replicate ∷ []) tt
    (All-cons IsBorder (Constant constant) (Replicate ∷ []) below
    (All-cons IsBorder Replicate [] tt (All-nil IsBorder)))
    in
    let (same_mode, same_constant) =
    both_of (mode == border_mode border) (constant == border_constant border)
    (found_passes passes borders border e) in (
      ap (λ m. m ∷ constant ∷ []) (eqb-true mode (border_mode border) same_mode)
          ∙ ap (λ c. border_mode border ∷ c ∷ [])
          (eqb-true constant (border_constant border) same_constant),
      found_each passes IsBorder borders border each e,
    )

border_reads : Reads [] take_border border_bytes IsBorder
border_reads =
    then_reads byte_reads _ (λ mode m. then_reads byte_reads _ (λ constant below.
    made_of InvalidParameters (border_with mode constant)
    (λ border e. bytes_of_border mode constant border below e)))

-- the policies that a node may have, of a function that has one or lacks it
each_policy : (has : Bool)
    → All (λ p. IsTrue (has || is_wrap p)) (if has then Wrap ∷ Saturate ∷ [] else Wrap ∷ [])
each_policy true =
    let Has : Policy → Type 0 = λ p. IsTrue (true || is_wrap p) in
    All-cons Has Wrap (Saturate ∷ []) refl (All-cons Has Saturate [] refl (All-nil Has))
each_policy false =
    let Has : Policy → Type 0 = λ p. IsTrue (false || is_wrap p) in
    All-cons Has Wrap [] refl (All-nil Has)

policy_reads : (p : Parameters)
    → Reads [] (take_policy p) (λ policy. policy_number policy ∷ [])
    (λ policy. IsTrue (p.policy || is_wrap policy))
policy_reads p =
    one_made byte_reads InvalidParameters (λ n. with_number policy_number (policies p) n)
    (λ n policy below e. (
      ap (λ x. x ∷ []) (number_is policy_number (policies p) n policy e),
      found_each (λ q. n == policy_number q) (λ q. IsTrue (p.policy || is_wrap q)) (policies p)
          policy (each_policy p.policy) e,
    ))

allowed_amount : (greatest : Option ℕ) (n : ℕ) → n < 256
    → Reads (n ∷ []) (λ rest. amount_allowed greatest n rest) (λ amount. amount ∷ [])
    (λ amount. (amount < 256) × IsTrue (nat_le amount (unwrap_or greatest 0)))
allowed_amount None n below =
    made_of InvalidParameters (if n == 0 then Some n else None) (λ amount e.
    let (same, is) = passed (λ n. n == 0) n amount e in (
      ap (λ x. x ∷ []) same,
      (subst (λ x. x < 256) same below, le-leb amount 0 (omega (arith, eqb-true amount 0 is))),
    ))
allowed_amount (Some greatest) n below =
    made_of InvalidValue (if nat_le n greatest then Some n else None) (λ amount e.
    let (same, is) = passed (λ n. nat_le n greatest) n amount e in
    (ap (λ x. x ∷ []) same, (subst (λ x. x < 256) same below, is)))

amount_reads : (p : Parameters)
    → Reads [] (take_amount p) (λ amount. amount ∷ [])
    (λ amount. (amount < 256) × IsTrue (nat_le amount (unwrap_or p.greatest_amount 0)))
amount_reads p = then_reads byte_reads _ (λ n below. allowed_amount p.greatest_amount n below)

-- name 0 without a slot
nothing_is : (cell : Reference) → is_nothing cell ≡ true → cell ≡ record { name = 0; slot = None }
nothing_is cell e =
    let (zero_name, no_slot) = both_of (cell.name == 0) (is_none cell.slot) e in
    let made : ℕ → Option ℕ → Reference = λ name slot. record { name = name; slot = slot } in
    ap (λ n. made n cell.slot) (eqb-true cell.name 0 zero_name)
    ∙ ap (made 0) (none cell.slot no_slot)
  where
    none : (slot : Option ℕ) → is_none slot ≡ true → slot ≡ None
    none None e = refl
    none (Some k) e = cc

bytes_of_operand : (presence : Presence) (cell : Reference) (o : Option Reference)
    → IsReference cell
    → operand presence cell ≡ Some o
    → (reference_bytes cell ≡ operand_bytes o)
    × IsTrue (is_operand presence o)
    × IfSome o IsReference
bytes_of_operand presence cell o is e = known (is_nothing cell) refl presence e
  where
    Spells : Presence → Option Reference → Type 0
    Spells presence o =
        (reference_bytes cell ≡ operand_bytes o)
        × IsTrue (is_operand presence o)
        × IfSome o IsReference

    there : is_nothing cell ≡ false
        → (presence : Presence)
        → IsTrue (is_operand presence (Some cell))
        → Some cell ≡ o
        → Spells presence o
    there f presence has same = subst (Spells presence) same (refl, has, is)

    absent : is_nothing cell ≡ true
        → (presence : Presence)
        → IsTrue (is_operand presence None)
        → None ≡ o
        → Spells presence o
    absent t presence has same =
        subst (Spells presence) same (ap reference_bytes (nothing_is cell t), has, tt)

    known : (b : Bool)
        → is_nothing cell ≡ b
        → (presence : Presence)
        → operand presence cell ≡ Some o
        → Spells presence o
    known true t Required e = let e = rw t at e in cc
    known true t Absent e = let e = rw t at e in absent t Absent refl cc
    known true t Free e = let e = rw t at e in absent t Free refl cc
    known false f Required e = let e = rw f at e in there f Required (ap not f) cc
    known false f Absent e = let e = rw f at e in cc
    known false f Free e = let e = rw f at e in there f Free (ap not f) cc

operand_reads : (presence : Presence)
    → Reads [] (take_operand presence) operand_bytes
    (λ o. IsTrue (is_operand presence o) × IfSome o IsReference)
operand_reads presence =
    one_made cell_reads InvalidParameters (λ cell. operand presence cell)
    (λ cell o is e. let (spelled, has, o_is) = bytes_of_operand presence cell o is e in
    (spelled, (has, o_is)))

first_reads :
    Reads [] take_first_input reference_bytes
    (λ cell. IsTrue (not (is_nothing cell)) × IsReference cell)
first_reads =
    one_made cell_reads InvalidParameters (λ cell. if is_nothing cell then None else Some cell)
    (λ c cell is e.
    let (given, some) = if_none (is_nothing c) (Some c) cell e in
    let there : c ≡ cell = cc in (
      ap reference_bytes there,
      (subst (λ c. IsTrue (not (is_nothing c))) there (ap not given), subst IsReference there is),
    ))

abbrev Others : Type 0
Others = Option Reference × Option Reference × Option Reference

abbrev others_bytes : Others → List ℕ
others_bytes o = operand_bytes o.0 ++ (operand_bytes o.1 ++ operand_bytes o.2)

operands_reads : (p : Parameters) → Reads [] (take_operands p) others_bytes (λ o.
    (IsTrue (is_operand (second_input p) o.0)
    × IsTrue (is_operand (first_output p) o.1)
    × IsTrue (is_operand (second_output p o.1) o.2))
    × (IfSome o.0 IsReference × IfSome o.1 IsReference × IfSome o.2 IsReference))
operands_reads p =
    then_reads (operand_reads (second_input p)) _
    (λ in2 a. then_reads (operand_reads (first_output p)) _
    (λ out1 b. then_reads (operand_reads (second_output p out1)) _ (λ out2 c.
    made (in2, out1, out2)
    (append_assoc (operand_bytes in2) (operand_bytes out1) (operand_bytes out2))
    ((a.0, b.0, c.0), (a.1, b.1, c.1)))))

-- ---- the node

abbrev node : Function → Border → Policy → ℕ → Reference → Others → Node
node function border policy amount in1 others =
    record {
      function = function;
      border = border;
      policy = policy;
      amount = amount;
      in1 = in1;
      in2 = others.0;
      out1 = others.1;
      out2 = others.2;
    }

pub node_reads : Reads [] take_node node_bytes IsNode
node_reads =
    then_reads function_reads _
    (λ f t. then_reads border_reads _
    (λ b border. then_reads (policy_reads (parameters f)) _ (λ p policy.
    then_reads (amount_reads (parameters f)) _
    (λ n amount. then_reads first_reads _
    (λ in1 first. then_reads (operands_reads (parameters f)) _ (λ others are.
    made (node f b p n in1 others) refl (record {
      shape =
          is_node-from_parameters (node f b p n in1 others) (parameters f) refl policy amount.1
          first.0 are.0.0 are.0.1 are.0.2;
      border = border;
      amount = amount.0;
      in1 = first.1;
      in2 = are.1.0;
      out1 = are.1.1;
      out2 = are.1.2;
    })))))))
