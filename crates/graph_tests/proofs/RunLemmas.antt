-- Small contexts in which nodes of Not run.
use Rattle.std.proofs.Common.{◌≡◌, ◌∙◌, ℕ, zero, suc, ◌+◌, ◌<◌, List, [], ◌∷◌, map, Some, None, refl, ap, arith, rules, All, slice_index}
use Rattle.std.specs.List.Sorted.{IsStrictlyIncreasing}
use Rattle.std.proofs.lemmas.List.Elements.{All-nil, All-cons}
use Rattle.vx_base.specs.declared.format.Format.TheVariants.{U8}
use Rattle.vx_base.specs.declared.function.Function.TheVariants.{NotBits}
use Rattle.vx_base.specs.declared.kind.Kind.TheVariants as kind
use Rattle.vx_base.specs.declared.node.Node.{Node}
use Rattle.vx_base.specs.declared.numbered.Numbered.{Numbered}
use Rattle.vx_base.specs.declared.partial_desc.PartialDesc.{PartialDesc}
use Rattle.vx_base.specs.Reference.{reference_to}
use Rattle.vx_base.specs.Description.{Description}
use Rattle.vx_base.specs.Graph.{GraphValue, IsGraph, new_graph, with_node}
use Rattle.vx_base.specs.Image.{ImageValue, IsImage, description_of}
use Rattle.vx_base.specs.Node.{IsNode}
use Rattle.vx_base.specs.Object.{ImageObject, GraphObject, IsObject}
use Rattle.vx_base.specs.PartialDescription.{IsPartialDescription}
use Rattle.object_table.specs.Context.{Context, new_context, with_new, with_objects, with_graph}
use Rattle.object_table.specs.NamedObject.{NamedObject}
use Rattle.object_table.specs.Table.{graph_under}
use Rattle.graph_verify.specs.declared.operand.Operand.TheVariants.{Image}
use Rattle.graph_verify.specs.declared.operand.Operands.{Operands}
use Rattle.graph_verify.specs.Examples.{not_to}
use Rattle.graph_verify.specs.Verdict.{verdict_on}
use Rattle.graph_run.specs.Turns.{CanRunNow, HoldsKind}
use Rattle.graph_tests.specs.Chain.{live, chain_image}
use Rattle.graph_tests.proofs.LinkLemmas.{Finds, link_finds, link_is, operands_in}

-- what holds of each of two
all_two : {X : Type 0} (P : X → Type 0) (x y : X) → P x → P y → All P (x ∷ y ∷ [])
all_two P x y first next = All-cons P x (y ∷ []) first (All-cons P y [] next (All-nil P))

-- ---- one node on two images

-- two images
abbrev pub images : ImageValue → ImageValue → List NamedObject
images a b = live 1 (ImageObject a) ∷ live 2 (ImageObject b) ∷ []

pub images_held : (a b : ImageValue) (first second third : Context)
    → first ≡ new_context
    → second ≡ with_new first (ImageObject a)
    → third ≡ with_new second (ImageObject b)
    → third.objects ≡ images a b
images_held a b first second third e f g =
    ap (λ (c : Context). c.objects)
    (g ∙ ap (λ (c : Context). with_new c (ImageObject b))
    (f ∙ ap (λ (c : Context). with_new c (ImageObject a)) e))

-- two columns of samples of U8, and one row
abbrev pub small : Description
small = record { width = 2; height = 1; format = U8 }

abbrev to : Description → Description → Operands
to first out = record { in1 = Image first; in2 = None; out1 = Some (Image out); out2 = None }

pub runs_now : (a b : ImageValue)
    → description_of a ≡ small
    → description_of b ≡ small
    → CanRunNow (images a b) (not_to 1 2)
runs_now a b first out =
    record {
      node = link_is NotBits 1 2 refl (omega arith) (omega arith);
      kinds =
          all_two (HoldsKind (images a b)) (reference_to 1, kind.Image)
          (reference_to 2, kind.Image) refl refl;
      verdict =
          ap (λ d. verdict_on (not_to 1 2) (to d (description_of b))) first
          ∙ ap (λ d. verdict_on (not_to 1 2) (to small d)) out;
    }

-- ---- a graph of two nodes

-- Not of a virtual image to image 2, and Not of image 1 to that
abbrev pub nodes : List Node
nodes = not_to 4 2 ∷ not_to 1 4 ∷ []

abbrev added_first : Numbered
added_first = record { number = 1; node = not_to 4 2 }

abbrev added_next : Numbered
added_next = record { number = 2; node = not_to 1 4 }

abbrev pub two_nots : GraphValue
two_nots = record { next = 3; nodes = added_first ∷ added_next ∷ []; delays = [] }

-- two images, the graph, and the virtual image
abbrev pub linked : ImageValue → ImageValue → PartialDesc → List NamedObject
linked a b declared =
    live 1 (ImageObject a)
    ∷ live 2 (ImageObject b)
    ∷ live 3 (GraphObject two_nots)
    ∷ live 4 (chain_image declared)
    ∷ []

-- the context with one more node in its graph
abbrev more : Context → Node → Context
more c n = with_objects c (with_graph c.objects 3 (with_node (graph_under c.objects 3) n))

pub linked_held :
    (a b : ImageValue) (declared : PartialDesc) (g : GraphValue) (n m : Node)
    (k0 k1 k2 k3 k4 k5 k6 : Context)
    → k0 ≡ new_context → k1 ≡ with_new k0 (ImageObject a) → k2 ≡ with_new k1 (ImageObject b)
    → g ≡ new_graph → k3 ≡ with_new k2 (GraphObject g) → k4 ≡ with_new k3 (chain_image declared)
    → n ≡ not_to 4 2 → k5 ≡ more k4 n → m ≡ not_to 1 4 → k6 ≡ more k5 m
    → k6.objects ≡ linked a b declared
linked_held a b declared g n m k0 k1 k2 k3 k4 k5 k6 e0 e1 e2 new e3 e4 first e5 second e6 =
    let two : k2 ≡ with_new (with_new new_context (ImageObject a)) (ImageObject b) =
    e2
    ∙ ap (λ (c : Context). with_new c (ImageObject b))
    (e1 ∙ ap (λ (c : Context). with_new c (ImageObject a)) e0) in
    let graph : k3 ≡ with_new k2 (GraphObject new_graph) =
    e3 ∙ ap (λ (o : GraphValue). with_new k2 (GraphObject o)) new in
    let four :
    k4
    ≡ with_new
    (with_new (with_new (with_new new_context (ImageObject a)) (ImageObject b))
    (GraphObject new_graph))
    (chain_image declared) =
    e4
    ∙ ap (λ (c : Context). with_new c (chain_image declared))
    (graph ∙ ap (λ (c : Context). with_new c (GraphObject new_graph)) two) in
    let five : k5 ≡ more k4 (not_to 4 2) = e5 ∙ ap (more k4) first in
    let six : k6 ≡ more k5 (not_to 1 4) = e6 ∙ ap (more k5) second in
    ap (λ (c : Context). c.objects)
    (six ∙ ap (λ (c : Context). more c (not_to 1 4))
    (five ∙ ap (λ (c : Context). more c (not_to 4 2)) four))

pub linked_names : (a b : ImageValue) (declared : PartialDesc)
    → IsStrictlyIncreasing (map {A = NamedObject} {B = ℕ} (λ o. o.name) (linked a b declared))
linked_names a b declared = each
  where
    each : (k : ℕ)
        → k + 1 < 4
        → slice_index (1 ∷ 2 ∷ 3 ∷ 4 ∷ []) k < slice_index (1 ∷ 2 ∷ 3 ∷ 4 ∷ []) (k + 1)
    each zero h = omega arith
    each (suc zero) h = omega arith
    each (suc (suc zero)) h = omega arith
    each (suc (suc (suc k))) h = absurd (omega (arith, h))

graph_is : IsGraph two_nots
graph_is =
    record {
      left = omega arith;
      count = omega arith;
      numbers = search rules;
      below = all_two Below added_first added_next (omega arith) (omega arith);
      nodes =
          all_two Is added_first added_next
          (link_is NotBits 4 2 refl (omega arith) (omega arith))
          (link_is NotBits 1 4 refl (omega arith) (omega arith));
      delays = λ i j d less below. absurd (omega (arith, below));
    }
  where
    Below : Numbered → Type 0
    Below n = n.number < 3

    Is : Numbered → Type 0
    Is n = IsNode n.node

pub linked_objects : (a b : ImageValue) (declared : PartialDesc)
    → IsImage a
    → IsImage b
    → IsPartialDescription declared
    → All (λ o. IsObject o.object) (linked a b declared)
linked_objects a b declared first second partial_desc =
    All-cons P (live 1 (ImageObject a)) (live 2 (ImageObject b) ∷ others) first
    (All-cons P (live 2 (ImageObject b)) others second
    (all_two P (live 3 (GraphObject two_nots)) (live 4 (chain_image declared)) graph_is
    (record { graph = omega arith; declared = partial_desc })))
  where
    P : NamedObject → Type 0
    P o = IsObject o.object

    others : List NamedObject
    others = live 3 (GraphObject two_nots) ∷ live 4 (chain_image declared) ∷ []

pub nodes_are : All IsNode nodes
nodes_are =
    all_two IsNode (not_to 4 2) (not_to 1 4)
    (link_is NotBits 4 2 refl (omega arith) (omega arith))
    (link_is NotBits 1 4 refl (omega arith) (omega arith))

pub both_find : (a b : ImageValue) (declared : PartialDesc)
    → All (Finds (operands_in (linked a b declared))) nodes
both_find a b declared =
    let is = operands_in (linked a b declared) in
    all_two (Finds is) (not_to 4 2) (not_to 1 4)
    (link_finds is NotBits 4 2 refl (record { there = refl; stands = refl; image = refl })
    (record { there = refl; stands = refl; image = refl }))
    (link_finds is NotBits 1 4 refl (record { there = refl; stands = refl; image = refl })
    (record { there = refl; stands = refl; image = refl }))
