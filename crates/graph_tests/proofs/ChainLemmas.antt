-- A table that has a graph of six nodes in a row: the graph can run, and can again once it has.
use Rattle.std.proofs.Common.{◌≡◌, ◌∙◌, ℕ, zero, suc, ◌+◌, ◌<◌, true, IsTrue, List, [], ◌∷◌, map, Option, Some, refl, sym, ap, subst, arith, All, slice_index, unwrap_or, option_map}
use Rattle.std.specs.List.Sorted.{IsStrictlyIncreasing}
use Rattle.std.proofs.lemmas.List.Elements.{All-from_recursion, All-map, All-weaker}
use Rattle.vx_base.specs.declared.function.Function.TheVariants.{Box}
use Rattle.vx_base.specs.declared.kind.Kind.TheVariants as kind
use Rattle.vx_base.specs.declared.node.Node.{Node}
use Rattle.vx_base.specs.declared.numbered.Numbered.{Numbered}
use Rattle.vx_base.specs.declared.partial_desc.PartialDesc.{PartialDesc}
use Rattle.vx_base.specs.Reference.{Reference, reference_to}
use Rattle.vx_base.specs.Graph.{GraphValue, IsGraph, can_add, new_graph, nodes_of, with_node}
use Rattle.vx_base.specs.Image.{ImageValue, IsImage}
use Rattle.vx_base.specs.Node.{IsNode}
use Rattle.vx_base.specs.Object.{ObjectValue, GraphObject, IsObject, object_kind}
use Rattle.vx_base.specs.PartialDescription.{IsPartialDescription}
use Rattle.object_table.specs.Context.{Context, with_objects, with_graph}
use Rattle.object_table.specs.NamedObject.{NamedObject, object_at, object_held}
use Rattle.object_table.specs.Object.{graph_value}
use Rattle.object_table.specs.Skeleton.{skeleton}
use Rattle.object_table.specs.Table.{IsUnder, graph_under}
use Rattle.object_table.specs.Uses.{nodes_in}
use Rattle.object_table.proofs.SkeletonLaws.{kind-skeleton, option_map-determined}
use Rattle.graph_verify.specs.declared.operand.Operand.{Operand}
use Rattle.graph_verify.specs.Operand.{is_image, operand_of}
use Rattle.graph_verify.proofs.GraphLemmas.{IsGraph-with_node}
use Rattle.graph_run.specs.Lasting.{Lasts, lasting_part}
use Rattle.graph_run.specs.Operands.{operand_held}
use Rattle.graph_run.proofs.LastingLemmas.{Lasts-names, cell-lasts, held-lasts, nodes-last, skeletons-last}
use Rattle.graph_run.proofs.OperandLaws.{operand-skeleton}
use Rattle.graph_tests.specs.Chain.{box_to, linked_by, six_boxes, with_boxes, chain_image}
use Rattle.graph_tests.proofs.LinkLemmas.{Finds, IsThere, link_finds, link_is, operands_in}

-- ---- the table is made

-- one more step to a context
pub step : (f : Context → Context) (k next value : Context)
    → next ≡ f k
    → k ≡ value
    → next ≡ f value
step f k next value is before = is ∙ ap f before

-- one more node
pub added : (a b : ImageValue) (d : PartialDesc) (g : GraphValue) (n : Node) (k next : Context)
    → next ≡ with_objects k (with_graph k.objects 3 (with_node (graph_under k.objects 3) n))
    → k ≡ record { next = 9; objects = linked_by g a b d }
    → next ≡ record { next = 9; objects = linked_by (with_node g n) a b d }
added a b d g n k next is before =
    is
    ∙ ap
    (λ (c : Context). with_objects c
    (with_graph c.objects 3 (with_node (graph_under c.objects 3) n)))
    before

-- ---- what it holds are objects

-- each link is a valid node, and the graph can take it
abbrev HasRoom : GraphValue → List (ℕ × ℕ) → Type 0
HasRoom g [] = Unit {0}
HasRoom g (l ∷ links) =
    (can_add g ≡ true) × IsNode (box_to l.0 l.1) × HasRoom (with_node g (box_to l.0 l.1)) links

boxes_are : (g : GraphValue) (links : List (ℕ × ℕ))
    → IsGraph g
    → HasRoom g links
    → IsGraph (with_boxes g links)
boxes_are g [] is room = is
boxes_are g (l ∷ links) is (room, node, more) =
    boxes_are (with_node g (box_to l.0 l.1)) links
    (IsGraph-with_node g (box_to l.0 l.1) is room node) more

new_is : IsGraph new_graph
new_is = grind arith

pub six_are : IsGraph six_boxes
six_are =
    boxes_are new_graph ((1, 4) ∷ (4, 5) ∷ (5, 6) ∷ (6, 7) ∷ (7, 8) ∷ (8, 2) ∷ []) new_is (
      refl,
      link_is Box 1 4 refl (omega arith) (omega arith),
      (
        refl,
        link_is Box 4 5 refl (omega arith) (omega arith),
        (
          refl,
          link_is Box 5 6 refl (omega arith) (omega arith),
          (
            refl,
            link_is Box 6 7 refl (omega arith) (omega arith),
            (
              refl,
              link_is Box 7 8 refl (omega arith) (omega arith),
              (refl, link_is Box 8 2 refl (omega arith) (omega arith), tt),
            ),
          ),
        ),
      ),
    )

abbrev pub chain : ImageValue → ImageValue → PartialDesc → List NamedObject
chain a b d = linked_by six_boxes a b d

pub chain_objects : (a b : ImageValue) (d : PartialDesc)
    → IsImage a
    → IsImage b
    → IsPartialDescription d
    → All (λ o. IsObject o.object) (chain a b d)
chain_objects a b d first second partial_desc =
    let virtual : IsObject (chain_image d) =
    record { graph = omega arith; declared = partial_desc } in
    All-from_recursion (λ (o : NamedObject). IsObject o.object) (chain a b d) (
      first,
      (second, (six_are, (virtual, (virtual, (virtual, (virtual, (virtual, tt))))))),
    )

abbrev names : List ℕ
names = 1 ∷ 2 ∷ 3 ∷ 4 ∷ 5 ∷ 6 ∷ 7 ∷ 8 ∷ []

chain_names : (a b : ImageValue) (d : PartialDesc)
    → IsStrictlyIncreasing (map {A = NamedObject} {B = ℕ} (λ o. o.name) (chain a b d))
chain_names a b d = each
  where
    each : (k : ℕ) → k + 1 < 8 → slice_index names k < slice_index names (k + 1)
    each zero h = omega arith
    each (suc zero) h = omega arith
    each (suc (suc zero)) h = omega arith
    each (suc (suc (suc zero))) h = omega arith
    each (suc (suc (suc (suc zero)))) h = omega arith
    each (suc (suc (suc (suc (suc zero))))) h = omega arith
    each (suc (suc (suc (suc (suc (suc zero)))))) h = omega arith
    each (suc (suc (suc (suc (suc (suc (suc k))))))) h = absurd (omega (arith, h))

-- ---- its graph can run

nodes_there : (o : Option ObjectValue) (other : ObjectValue) (nodes : List Node)
    → option_map nodes_in o ≡ Some nodes
    → nodes_of (graph_value (unwrap_or o other)) ≡ nodes
nodes_there o other nodes e = grind arith

abbrev pub chain_nodes : List Node
chain_nodes = nodes_of six_boxes

pub nodes_are : All IsNode chain_nodes
nodes_are = All-map IsNode (λ (n : Numbered). n.node) six_boxes.nodes six_are.nodes

module _ (objects : List NamedObject) (a b : ImageValue) (d : PartialDesc)
    (lasts : Lasts (chain a b d) objects) where
  abbrev is : Reference → Option Operand
  is = operands_in objects

  -- each cell is to a node what it was at first
  stays : (cell : Reference) → is cell ≡ operands_in (chain a b d) cell
  stays cell =
      option_map-determined skeleton operand_of operand_of operand-skeleton
      (object_at objects cell) (object_at (chain a b d) cell)
      (skeletons-last (object_at objects cell) (object_at (chain a b d) cell)
      (cell-lasts (chain a b d) objects cell lasts.lasting))

  there : (name : ℕ)
      → IsThere (operands_in (chain a b d) (reference_to name))
      → IsThere (is (reference_to name))
  there name at_first = subst IsThere (sym (stays (reference_to name))) at_first

  pub all_find : All (Finds is) chain_nodes
  all_find =
      let one = there 1 (record { there = refl; stands = refl; image = refl }) in
      let two = there 2 (record { there = refl; stands = refl; image = refl }) in
      let four = there 4 (record { there = refl; stands = refl; image = refl }) in
      let five = there 5 (record { there = refl; stands = refl; image = refl }) in
      let six = there 6 (record { there = refl; stands = refl; image = refl }) in
      let seven = there 7 (record { there = refl; stands = refl; image = refl }) in
      let eight = there 8 (record { there = refl; stands = refl; image = refl }) in
      All-from_recursion (Finds is) chain_nodes (
        link_finds is Box 1 4 refl one four,
        (
          link_finds is Box 4 5 refl four five,
          (
            link_finds is Box 5 6 refl five six,
            (
              link_finds is Box 6 7 refl six seven,
              (link_finds is Box 7 8 refl seven eight, (link_finds is Box 8 2 refl eight two, tt)),
            ),
          ),
        ),
      )

  -- the object under name 3 is the graph
  graph_there :
      option_map lasting_part (object_held objects 3) ≡ Some (lasting_part (GraphObject six_boxes))
  graph_there = held-lasts (chain a b d) objects 3 lasts.lasting

  pub is_graph : IsUnder objects kind.Graph 3
  is_graph =
      option_map-determined skeleton object_kind object_kind kind-skeleton
      (object_held objects 3) (Some (GraphObject six_boxes))
      (skeletons-last (object_held objects 3) (Some (GraphObject six_boxes)) graph_there)

  pub nodes_under : nodes_of (graph_under objects 3) ≡ chain_nodes
  nodes_under =
      nodes_there (object_held objects 3) _ chain_nodes
      (nodes-last (object_held objects 3) (Some (GraphObject six_boxes)) graph_there)

  pub first_images : All (λ n. IsTrue (is_image (operand_held objects n.in1))) chain_nodes
  first_images =
      All-weaker (Finds is) (λ n. IsTrue (is_image (operand_held objects n.in1)))
      (λ n f. f.first) chain_nodes all_find

  pub names_increase : IsStrictlyIncreasing (map {A = NamedObject} {B = ℕ} (λ o. o.name) objects)
  names_increase = Lasts-names (chain a b d) objects lasts (chain_names a b d)
