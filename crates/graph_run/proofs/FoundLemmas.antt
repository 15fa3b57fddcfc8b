-- The objects that nodes name in a table, as operands.
use Rattle.std.proofs.Common.{◌≡◌, ℕ, ◌<◌, ◌+◌, List, [], ◌∷◌, ◌++◌, map, length, take, get_or, Option, Some, None, IsTrue, sym, ◌∙◌, ap, subst, arith, IfSome, unwrap_or, All, Result, Ok, Err, IfErr, option_map}
use Rattle.graph_run.proofs.Common.{map-append, take_more, All-push, All-head, All-tail, Kind, Node, Numbered, Reference, parameters, operands, second_kind, ObjectValue, in_slot, NamedObject, object_held, All-from_map, Operand, Missing, Verified, linked_nodes, AreOperands, operand_of, operands_of, is_image, verdict, operand_held}
use Rattle.vx_base.specs.declared.kind.Kind.TheVariants as kind
use Rattle.vx_base.specs.Node.{with_kind}
use Rattle.graph_verify.specs.declared.linked.Linked.{Linked}
use Rattle.graph_verify.specs.declared.verified.VerifyFault.{VerifyFault}
use Rattle.graph_verify.specs.Verified.{IfRefused}

-- ---- the operand of a reference

-- the object under its name, if there is one
pub operand_nowhere : (objects : List NamedObject) (cell : Reference)
    → object_held objects cell.name ≡ None
    → operand_held objects cell ≡ Missing
operand_nowhere objects cell none = grind (arith, none)

pub operand_there :
    (objects : List NamedObject) (cell : Reference) (object : ObjectValue)
    (found : Option Operand) (operand : Operand)
    → Some object ≡ object_held objects cell.name
    → found ≡ option_map operand_of (in_slot cell.slot object)
    → operand ≡ unwrap_or found Missing
    → operand ≡ operand_held objects cell
operand_there objects cell object found operand is in_it as_it = grind arith

pub ruleset operand_steps = (operand_nowhere, operand_there)

-- ---- nodes with their operands

-- one node more
pub linked_more :
    (is : Reference → Operand) (nodes : List Numbered) (i : ℕ) (numbered : Numbered)
    (done new : List Linked) (l : Linked)
    → i < length nodes
    → numbered ≡ get_or nodes i numbered
    → linked_nodes done ≡ map (λ n. n.node) (take i nodes)
    → map {B = ℕ × Node} (λ l. (l.number, l.node)) done
    ≡ map (λ n. (n.number, n.node)) (take i nodes)
    → AreOperands is done
    → l.number ≡ numbered.number
    → l.node ≡ numbered.node
    → l.operands ≡ operands_of is l.node
    → new ≡ done ++ l ∷ []
    → (linked_nodes new ≡ map (λ n. n.node) (take (i + 1) nodes))
    ×
    (map {B = ℕ × Node} (λ l. (l.number, l.node)) new
    ≡ map (λ n. (n.number, n.node)) (take (i + 1) nodes))
    × AreOperands is new
linked_more is nodes i numbered done new l within read before numbers each number node operands
    pushed =
    let taken : take (i + 1) nodes ≡ take i nodes ++ numbered ∷ [] =
    take_more nodes i numbered within ∙ ap (λ (n : Numbered). take i nodes ++ n ∷ []) (sym read) in
    let node_of : Numbered → Node = λ n. n.node in
    let pair_of : Numbered → ℕ × Node = λ n. (n.number, n.node) in (
      rw (
        pushed,
        taken,
        map-append (λ (k : Linked). k.node) done (l ∷ []),
        map-append node_of (take i nodes) (numbered ∷ []),
      ) (cc),
      rw (
        pushed,
        taken,
        map-append {B = ℕ × Node} (λ (k : Linked). (k.number, k.node)) done (l ∷ []),
        map-append pair_of (take i nodes) (numbered ∷ []),
      ) (cc),
      grind (
        arith,
        All-push (λ (k : Linked). k.operands ≡ operands_of is k.node) done l each
            operands,
      ),
    )

-- the first input of each is an image, as a cell
pub images_are : (is : Reference → Operand) (linked : List Linked)
    → AreOperands is linked
    → All (λ n. IsTrue (is_image (is n.in1))) (linked_nodes linked)
    → All (λ l. IsTrue (is_image l.operands.in1)) linked
images_are is linked operands images k d below =
    grind (
      arith,
      All-from_map (λ n. IsTrue (is_image (is n.in1))) (λ (l : Linked). l.node) linked images k
          d below,
    )

-- the verdict on these nodes
pub refused_is :
    (is : Reference → Operand) (linked : List Linked) (nodes : List Node) (work : ℕ)
    (result : Result Verified VerifyFault)
    → linked_nodes linked ≡ nodes
    → AreOperands is linked
    → IfErr result
    (λ fault. (other : Reference → Operand)
    → AreOperands other linked
    → IfRefused fault (λ v. verdict work other (linked_nodes linked) ≡ Some v))
    → IfErr result (λ fault. IfRefused fault (λ v. verdict work is nodes ≡ Some v))
refused_is is linked nodes work (Ok v) same operands said = tt
refused_is is linked nodes work (Err fault) same operands said =
    subst (λ ns. IfRefused fault (λ v. verdict work is ns ≡ Some v)) same (said is operands)

-- a property of a node's operands, each with the kind that its function has there
pub record OfOperands (P : Reference × Kind → Type 0) (n : Node) : Type 0 where
  pub in1 : P (n.in1, kind.Image)
  pub in2 : IfSome n.in2 (λ cell. P (cell, second_kind n))
  pub out1 : IfSome n.out1 (λ cell. P (cell, (parameters n.function).output))
  pub out2 : IfSome n.out2 (λ cell. P (cell, (parameters n.function).output))

pub of_operands : (P : Reference × Kind → Type 0) (n : Node) → All P (operands n) → OfOperands P n
of_operands P n h =
    let output = (parameters n.function).output in
    let others = All-tail P (n.in1, kind.Image) _ h in
    let second =
    apart (second_kind n) n.in2 (with_kind output n.out1 ++ with_kind output n.out2) others in
    let first = apart output n.out1 (with_kind output n.out2) second.1 in
    record {
      in1 = All-head P (n.in1, kind.Image) _ h;
      in2 = second.0;
      out1 = first.0;
      out2 = alone output n.out2 first.1;
    }
  where
    apart : (k : Kind) (cell : Option Reference) (rest : List (Reference × Kind))
        → All P (with_kind k cell ++ rest)
        → IfSome cell (λ x. P (x, k)) × All P rest
    apart k None rest all = (tt, all)
    apart k (Some x) rest all = (All-head P (x, k) rest all, All-tail P (x, k) rest all)

    alone : (k : Kind) (cell : Option Reference)
        → All P (with_kind k cell)
        → IfSome cell (λ x. P (x, k))
    alone k None all = tt
    alone k (Some x) all = All-head P (x, k) [] all
