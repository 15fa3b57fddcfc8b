-- Graphs with one more node, with one less, and with other delays.
use Rattle.std.proofs.Common.{◌≡◌, ◌≢◌, ℕ, ◌+◌, ◌<◌, Bool, true, List, [], ◌∷◌, length, IsTrue, refl, ◌∙◌, arith, ◌==◌, find, Some, not, eqb-true}
use Rattle.graph_verify.proofs.Common.{filter, list_any, cases_Bool, nat_tests, length-filter_both, Node, Numbered, can_add}
use Rattle.std.specs.List.{items_where_true, AllPairs}
use Rattle.std.specs.List.Retain.{IsFiltered, ReturnsInTurn}
use Rattle.std.specs.Option.{is_none}
use Rattle.std.proofs.lemmas.List.{length_push}
use Rattle.std.proofs.lemmas.List.Elements.{All-push, All-filter, All-weaker}
use Rattle.std.proofs.lemmas.List.Kept.{AllPairs-filter}
use Rattle.std.proofs.lemmas.List.Quantifiers.{all_pairs_push}
use Rattle.vx_base.specs.Node.{IsNode}
use Rattle.vx_base.specs.Graph.{GraphValue, IsGraph, with_node, without_node, with_delays}

module _ {X : Type 0} where
  pub is_none-find : (p : X → Bool) (xs : List X) → is_none (find p xs) ≡ not (list_any p xs)
  is_none-find p [] = refl
  is_none-find p (x ∷ xs) = grind (arith, is_none-find p xs)

  -- the item that `find` returns passes the test
  find-passes : (p : X → Bool) (xs : List X) (x : X) → find p xs ≡ Some x → p x ≡ true
  find-passes p [] x found = absurd (cc)
  find-passes p (y ∷ xs) x found = grind (arith, find-passes p xs x)

module _ {X P : Type 0} (R : P → X → Bool → P → Type 0) (I : P → Type 0) (test : X → Bool)
    (says : (p : P) (x : X) (b : Bool) (q : P) → I p → R p x b q → (b ≡ test x) × I q) where
  -- what is kept by a closure that gives a test's answers, and whose state stays as it has to be
  -- for that
  pub filter_from_retain_by : (p : P) (xs ys : List X)
      → I p
      → IsFiltered R p xs ys
      → ys ≡ filter test xs
  filter_from_retain_by p xs ys i (bs, q, same, answers, is) = is ∙ picked p q xs bs i same answers
    where
      picked : (p q : P) (xs : List X) (bs : List Bool)
          → I p
          → length bs ≡ length xs
          → ReturnsInTurn R p bs xs q
          → items_where_true bs xs ≡ filter test xs
      picked p q [] [] i same answers = refl
      picked p q [] (b ∷ bs) i same answers = absurd (omega (arith, same))
      picked p q (x ∷ xs) [] i same answers = absurd (omega (arith, same))
      picked p q (x ∷ xs) (b ∷ bs) i same answers =
          let said = says p x b answers.0 i answers.1 in
          grind (
            arith,
            said.0,
            picked answers.0 q xs bs said.1 (omega (arith, same)) answers.2,
            cases_Bool b,
          )

-- the node found by a number has that number
pub find_numbered : (nodes : List Numbered) (number : ℕ) (n : Numbered)
    → find (λ k. k.number == number) nodes ≡ Some n
    → find (λ k. k.number == number) nodes ≡ Some (record { number = number; node = n.node })
find_numbered nodes number n found =
    grind (
      arith,
      eqb-true n.number number (find-passes (λ k. k.number == number) nodes n found),
      find-passes (λ k. k.number == number) nodes n found,
    )

-- one more node, under the next number
pub IsGraph-with_node : (g : GraphValue) (n : Node)
    → IsGraph g
    → IsTrue (can_add g)
    → IsNode n
    → IsGraph (with_node g n)
IsGraph-with_node g n h capacity is =
    let new : Numbered = record { number = g.next; node = n } in
    let left : g.next < 4294967296 = grind (arith, nat_tests) in
    let few : length g.nodes < 256 = grind (arith, nat_tests) in
    record {
      left = omega (arith, left);
      count = omega (arith, few, length_push g.nodes new);
      numbers = all_pairs_push (λ a b. a.number < b.number) g.nodes new h.numbers h.below;
      below =
          All-push (λ k. k.number < g.next + 1) g.nodes new
          (All-weaker (λ k. k.number < g.next) (λ k. k.number < g.next + 1)
          (λ k less. omega (arith, less)) g.nodes h.below)
          (omega arith);
      nodes = All-push (λ k. IsNode k.node) g.nodes new h.nodes is;
      delays = h.delays;
    }

-- one less
pub IsGraph-without_node : (g : GraphValue) (number : ℕ)
    → IsGraph g
    → IsGraph (without_node g number)
IsGraph-without_node g number h =
    let has_number : Numbered → Bool = λ n. n.number == number in
    let keeps : Numbered → Bool = λ n. not (n.number == number) in
    record {
      left = h.left;
      count = omega (arith, h.count, length-filter_both has_number keeps (λ n. refl) g.nodes);
      numbers = AllPairs-filter (λ a b. a.number < b.number) keeps g.nodes h.numbers;
      below = All-filter keeps (λ n. n.number < g.next) g.nodes h.below;
      nodes = All-filter keeps (λ n. IsNode n.node) g.nodes h.nodes;
      delays = h.delays;
    }

-- one with which other delays age, each once
pub IsGraph-with_delays : (g : GraphValue) (delays : List ℕ)
    → IsGraph g
    → AllPairs (λ a b. a ≢ b) delays
    → IsGraph (with_delays g delays)
IsGraph-with_delays g delays h apart = record {
  left = h.left;
  count = h.count;
  numbers = h.numbers;
  below = h.below;
  nodes = h.nodes;
  delays = apart;
}
