-- Nodes of one image that find what they name: once their graph is verified it is ready to run.
use Rattle.std.proofs.Common.{◌≡◌, ℕ, ◌<◌, ◌^◌, true, List, Option, Some, None, inl, inr, sym, subst, arith, All, unwrap_or, option_map, ◌⊎◌}
use Rattle.std.proofs.lemmas.Bool.{or_cases}
use Rattle.std.proofs.lemmas.List.Elements.{All-from_recursion, All-weaker}
use Rattle.vx_base.specs.declared.function.Function.{Function}
use Rattle.vx_base.specs.declared.kind.Kind.{Kind}
use Rattle.vx_base.specs.declared.kind.Kind.TheVariants as kind
use Rattle.vx_base.specs.declared.node.Node.{Node}
use Rattle.vx_base.specs.declared.policy.Policy.TheVariants.{Wrap}
use Rattle.vx_base.specs.Reference.{Reference, reference_to}
use Rattle.vx_base.specs.Function.{parameters}
use Rattle.vx_base.specs.Node.{IsNode, is_node, inputs, outputs, operands}
use Rattle.object_table.specs.NamedObject.{NamedObject, object_at}
use Rattle.graph_verify.specs.declared.operand.Operand.{Operand}
use Rattle.graph_verify.specs.declared.verified.Verified.{Verified}
use Rattle.graph_verify.specs.Examples.{node_to}
use Rattle.graph_verify.specs.Links.{reads, writes}
use Rattle.graph_verify.specs.Operand.{is_image, operand_of}
use Rattle.graph_verify.specs.Verdict.{verdict}
use Rattle.graph_verify.specs.Verified.{IsVerified}
use Rattle.graph_verify.proofs.LinkLemmas.{In-from_same}
use Rattle.graph_verify.specs.declared.operand.Operand.TheVariants.{Missing}
use Rattle.graph_run.specs.Operands.{IsReady, StandsFor, names_cell, operand_held}
use Rattle.graph_run.proofs.LinkLaws.{In-from_All}

-- a node of a function of one image, of the image of one name to that of another
abbrev link : Function → ℕ → ℕ → Node
link function input output = node_to function Wrap input None output

pub link_is : (function : Function) (input output : ℕ)
    → is_node (link function input output) ≡ true
    → input < 2 ^ 32
    → output < 2 ^ 32
    → IsNode (link function input output)
link_is function input output shape in1 out1 =
    record {
      shape = shape;
      border = tt;
      amount = omega arith;
      in1 = record { name = in1; slot = tt };
      in2 = tt;
      out1 = record { name = out1; slot = tt };
      out2 = tt;
    }

-- what it names is the one or the other
writes_output : (function : Function) (input output : ℕ) (c : Reference)
    → writes (link function input output) c ≡ true
    → c ≡ reference_to output
writes_output function input output c w =
    elim (In-from_same c (outputs (link function input output)) w) [
      | inl same ↦ same
      | inr none ↦ absurd none
    ]

names_one : (function : Function) (input output : ℕ) (c : Reference)
    → names_cell (link function input output) c ≡ true
    → (c ≡ reference_to input) ⊎ (c ≡ reference_to output)
names_one function input output c named =
    elim
    (or_cases (reads (link function input output) c) (writes (link function input output) c)
    named) [
      | inl r ↦ elim (In-from_same c (inputs (link function input output)) r) [
        | inl same ↦ inl same
        | inr none ↦ absurd none
      ]
      | inr w ↦ inr (writes_output function input output c w)
    ]

-- what a cell is to a node, where this is found in it
abbrev found_as : Option Operand → Operand
found_as o = unwrap_or o Missing

-- an image is found, or a virtual one
pub record IsThere (o : Option Operand) : Type 0 where
  pub there : o ≡ Some (found_as o)
  pub stands : StandsFor (found_as o) kind.Image
  pub image : is_image (found_as o) ≡ true

-- a node that finds what it names
pub record Finds (is : Reference → Option Operand) (n : Node) : Type 0 where
  pub first : is_image (found_as (is n.in1)) ≡ true
  pub found : (c : Reference) → names_cell n c ≡ true → is c ≡ Some (found_as (is c))
  pub kinds : (c : Reference)
      → writes n c ≡ true
      → StandsFor (found_as (is c)) (parameters n.function).output
  pub each : All (λ operand. StandsFor (found_as (is operand.0)) operand.1) (operands n)

pub link_finds : (is : Reference → Option Operand) (function : Function) (input output : ℕ)
    → (parameters function).output ≡ kind.Image
    → IsThere (is (reference_to input))
    → IsThere (is (reference_to output))
    → Finds is (link function input output)
link_finds is function input output image first out =
    let stands : StandsFor (found_as (is (reference_to output))) (parameters function).output =
    subst (λ (k : Kind). StandsFor (found_as (is (reference_to output))) k) (sym image)
    out.stands in
    record {
      first = first.image;
      found = λ c named. elim (names_one function input output c named) [
        | inl same ↦ subst (λ (x : Reference). is x ≡ Some (found_as (is x))) (sym same) first.there
        | inr same ↦ subst (λ (x : Reference). is x ≡ Some (found_as (is x))) (sym same) out.there
      ];
      kinds =
          λ c w. subst
          (λ (x : Reference). StandsFor (found_as (is x)) (parameters function).output)
          (sym (writes_output function input output c w)) stands;
      each =
          All-from_recursion
          (λ (operand : Reference × Kind). StandsFor (found_as (is operand.0)) operand.1)
          (operands (link function input output)) (first.stands, (stands, tt));
    }

-- the operands that cells hold
abbrev pub operands_in : List NamedObject → Reference → Option Operand
operands_in objects cell = option_map operand_of (object_at objects cell)

-- nodes that find what they name are ready to run
pub ready : (objects : List NamedObject) (nodes : List Node)
    → All IsNode nodes
    → All (Finds (operands_in objects)) nodes
    → (v : Verified) (work : ℕ)
    → IsVerified (operand_held objects) nodes v
    → verdict work (operand_held objects) nodes ≡ None
    → IsReady objects nodes v
ready objects nodes are find v work verified allowed =
    record {
      verified = verified;
      runs = (work, allowed);
      are_nodes = are;
      cells =
          record {
            found =
                λ n c i named. (In-from_All (Finds (operands_in objects)) nodes find n i).found
                c named;
            kinds = λ n c i w. (In-from_All (Finds (operands_in objects)) nodes find n i).kinds c w;
          };
      kinds =
          All-weaker (Finds (operands_in objects))
          (λ n. All (λ operand. StandsFor (operand_held objects operand.0) operand.1) (operands n))
          (λ n f. f.each) nodes find;
    }
