-- The reductions of a graph's tasks: each has a tally of its own, which takes the format of its
-- input.
use Rattle.std.proofs.Common.{◌≡◌, ◌≢◌, ℕ, zero, suc, ◌+◌, ◌<◌, ◌≤◌, true, List, [], ◌∷◌, ◌++◌, append_assoc, length, get_or, All, Option, refl, sym, ap, subst, ◌∙◌, inl, inr, arith, unwrap_or}
use Rattle.std.specs.Prelude.{⊤}
use Rattle.std.proofs.lemmas.List.{get_or-append-add, get_or_past, length-append}
use Rattle.graph_run.proofs.Common.{cases_lt, distribution_value, Format, Function, Kind, Node, Reference, Description, parameters, ObjectValue, takes_formats, NamedObject, cell_object, In, In-at, In-from_flat_map}
use Rattle.vx_base.specs.declared.kind.Kind.TheVariants as kind
use Rattle.vx_base.specs.Object.{new_distribution, no_extremes}
use Rattle.graph_steps.specs.declared.step.Reduction.{Reduction}
use Rattle.graph_steps.specs.declared.step.Task.{Task}
use Rattle.graph_steps.specs.declared.tally.Tally.{Tally}
use Rattle.graph_steps.specs.declared.tally.Tally.TheVariants as tally
use Rattle.graph_steps.specs.Program.{Reduces}
use Rattle.graph_steps.specs.Tallies.{HaveOneReduction, IsNew, TakesFormat, tally_at}
use Rattle.graph_run.specs.Program.{node_tallies, tallies_of, tally_by}
use Rattle.graph_run.specs.Results.{tally_cell, tally_cells}
use Rattle.graph_run.specs.Tasks.{tally_after, tasks_from}
use Rattle.graph_run.proofs.LinkLaws.{All-from_In, In-from_All}
use Rattle.graph_run.proofs.TaskLemmas.{node_keeps}
use Rattle.graph_run.proofs.SolutionStepsTasks.{image_or, one_cell}

-- ---- the reductions of nodes

pub one_tally : (wanted : Kind) (object : ObjectValue)
    → wanted ≢ kind.Image
    → (t : Tally) × (tally_by wanted object ≡ t ∷ [])
one_tally kind.Image object other = absurd (other refl)
one_tally kind.Distribution object other =
    (tally.Histogram (new_distribution (distribution_value object).bins), refl)
one_tally wanted object other = (tally.Extremes no_extremes, refl)

-- ---- what holds of each node that writes no image, and of its tally

abbrev pub OwnTally : (ℕ → Node → Type 0) → ℕ → Node → Kind → Type 0
OwnTally Q first n kind.Image = ⊤
OwnTally Q first n other = Q first n

-- the first of these nodes that writes no image has the tally at index `first`
abbrev pub Each : (ℕ → Node → Type 0) → ℕ → List Node → Type 0
Each Q first [] = ⊤
Each Q first (n ∷ nodes) =
    OwnTally Q first n (parameters n.function).output
    × Each Q (tally_after first (parameters n.function).output) nodes

pub own_image : (Q : ℕ → Node → Type 0) (first : ℕ) (n : Node) (k : Kind)
    → k ≡ kind.Image
    → OwnTally Q first n k
own_image Q first n k image = rw image tt

pub own_other : (Q : ℕ → Node → Type 0) (first : ℕ) (n : Node) (k : Kind)
    → k ≢ kind.Image
    → Q first n
    → OwnTally Q first n k
own_other Q first n k other q = grind (arith, q)

pub own_tally : (Q : ℕ → Node → Type 0) (first : ℕ) (n : Node) (k : Kind)
    → k ≢ kind.Image
    → OwnTally Q first n k
    → Q first n
own_tally Q first n kind.Image other q = absurd (other refl)
own_tally Q first n k other q = grind (arith, q)

pub after_image : (first : ℕ) (k : Kind) → k ≡ kind.Image → tally_after first k ≡ first
after_image first k image = rw image refl

pub after_other : (first : ℕ) (k : Kind) → k ≢ kind.Image → tally_after first k ≡ first + 1
after_other first k other = grind arith

own_both : (P Q : ℕ → Node → Type 0) (first : ℕ) (n : Node) (k : Kind)
    → OwnTally P first n k
    → OwnTally Q first n k
    → OwnTally (λ j m. P j m × Q j m) first n k
own_both P Q first n kind.Image p q = tt
own_both P Q first n k p q = grind (arith, p, q)

pub each_both : (P Q : ℕ → Node → Type 0) (first : ℕ) (nodes : List Node)
    → Each P first nodes
    → Each Q first nodes
    → Each (λ j m. P j m × Q j m) first nodes
each_both P Q first [] p q = tt
each_both P Q first (n ∷ nodes) p q = (
  own_both P Q first n (parameters n.function).output p.0 q.0,
  each_both P Q (tally_after first (parameters n.function).output) nodes p.1 q.1,
)

-- the node of a tally
pub record IsNodeOf (Q : ℕ → Node → Type 0) (nodes : List Node) (tally place : ℕ) : Type 0 where
  pub node : Node
  pub inside : In node nodes
  pub other : (parameters node.function).output ≢ kind.Image
  pub cell : (d : Reference) → get_or (tally_cells nodes) place d ≡ unwrap_or node.out1 node.in1
  pub holds : Q tally node

-- the first node writes an image, and another has the tally
node_later : (Q : ℕ → Node → Type 0) (n : Node) (nodes : List Node) (tally place : ℕ)
    → (parameters n.function).output ≡ kind.Image
    → IsNodeOf Q nodes tally place
    → IsNodeOf Q (n ∷ nodes) tally place
node_later Q n nodes tally place image r =
    let none : tally_cell (parameters n.function).output n ≡ [] = rw image refl in
    let cells : tally_cells (n ∷ nodes) ≡ tally_cells nodes =
    ap (λ (l : List Reference). l ++ tally_cells nodes) none in
    record {
      node = r.node;
      inside = inr r.inside;
      other = r.other;
      cell = λ d. ap (λ (l : List Reference). get_or l place d) cells ∙ r.cell d;
      holds = r.holds;
    }

-- the first node writes no image, and has the first tally
node_first : (Q : ℕ → Node → Type 0) (n : Node) (nodes : List Node) (tally : ℕ)
    → (parameters n.function).output ≢ kind.Image
    → Q tally n
    → IsNodeOf Q (n ∷ nodes) tally 0
node_first Q n nodes tally other q = record {
  node = n;
  inside = inl refl;
  other = other;
  cell =
      λ d. ap (λ (l : List Reference). get_or (l ++ tally_cells nodes) 0 d)
      (one_cell (parameters n.function).output n other);
  holds = q;
}

-- it has the first, and another has the tally
node_next : (Q : ℕ → Node → Type 0) (n : Node) (nodes : List Node) (tally place : ℕ)
    → (parameters n.function).output ≢ kind.Image
    → IsNodeOf Q nodes tally place
    → IsNodeOf Q (n ∷ nodes) tally (suc place)
node_next Q n nodes tally place other r =
    let cells : tally_cells (n ∷ nodes) ≡ unwrap_or n.out1 n.in1 ∷ tally_cells nodes =
    ap (λ (l : List Reference). l ++ tally_cells nodes)
    (one_cell (parameters n.function).output n other) in
    record {
      node = r.node;
      inside = inr r.inside;
      other = r.other;
      cell = λ d. ap (λ (l : List Reference). get_or l (suc place) d) cells ∙ r.cell d;
      holds = r.holds;
    }

pub node_of : (Q : ℕ → Node → Type 0) (nodes : List Node) (first place : ℕ)
    → Each Q first nodes
    → place < length (tally_cells nodes)
    → IsNodeOf Q nodes (first + place) place
node_of Q [] first place each below = absurd (omega arith)
node_of Q (n ∷ nodes) first zero each below = elim (image_or (parameters n.function).output) [
  | inl image ↦
      let none : tally_cell (parameters n.function).output n ≡ [] = rw image refl in
      let cells : tally_cells (n ∷ nodes) ≡ tally_cells nodes =
      ap (λ (l : List Reference). l ++ tally_cells nodes) none in
      node_later Q n nodes (first + 0) 0 image
      (node_of Q nodes first 0
      (subst (λ k. Each Q k nodes) (after_image first (parameters n.function).output image) each.1)
      (omega (arith, below, ap length cells)))
  | inr other ↦
      let same : first ≡ first + 0 = omega arith in
      node_first Q n nodes (first + 0) other
      (subst (λ k. Q k n) same (own_tally Q first n (parameters n.function).output other each.0))
]
node_of Q (n ∷ nodes) first (suc place) each below =
    elim (image_or (parameters n.function).output) [
      | inl image ↦
          let none : tally_cell (parameters n.function).output n ≡ [] = rw image refl in
          let cells : tally_cells (n ∷ nodes) ≡ tally_cells nodes =
          ap (λ (l : List Reference). l ++ tally_cells nodes) none in
          node_later Q n nodes (first + suc place) (suc place) image
          (node_of Q nodes first (suc place)
          (subst (λ k. Each Q k nodes) (after_image first (parameters n.function).output image)
          each.1)
          (omega (arith, below, ap length cells)))
      | inr other ↦
          let cells : tally_cells (n ∷ nodes) ≡ unwrap_or n.out1 n.in1 ∷ tally_cells nodes =
          ap (λ (l : List Reference). l ++ tally_cells nodes)
          (one_cell (parameters n.function).output n other) in
          let same : first + 1 + place ≡ first + suc place = omega arith in
          subst (λ k. IsNodeOf Q (n ∷ nodes) k (suc place)) same
          (node_next Q n nodes (first + 1 + place) place other
          (node_of Q nodes (first + 1) place
          (subst (λ k. Each Q k nodes) (after_other first (parameters n.function).output other)
          each.1)
          (omega (arith, below, ap length cells))))
    ]

-- each node's tally is that at its index
pub each_tally :
    (Q : ℕ → Node → Type 0) (objects : List NamedObject) (nodes : List Node)
    (before all : List Tally)
    → all ≡ before ++ tallies_of objects nodes
    →
    ((n : Node) (k : ℕ) (t : Tally)
    → In n nodes
    → (parameters n.function).output ≢ kind.Image
    → node_tallies objects n ≡ t ∷ []
    → k < length all
    → tally_at all k ≡ t
    → Q k n)
    → Each Q (length before) nodes
each_tally Q objects [] before all is holds = tt
each_tally Q objects (n ∷ nodes) before all is holds =
    elim (image_or (parameters n.function).output) [
      | inl image ↦
          let none : node_tallies objects n ≡ [] = rw image refl in (
            own_image Q (length before) n (parameters n.function).output image,
            subst (λ k. Each Q k nodes)
                (sym (after_image (length before) (parameters n.function).output image))
                (each_tally Q objects nodes before all
                (is ∙ ap (λ l. before ++ (l ++ tallies_of objects nodes)) none)
                (λ m k t i. holds m k t (inr i))),
          )
      | inr other ↦
          let one =
          one_tally (parameters n.function).output
          (cell_object objects (unwrap_or n.out1 n.in1)) other in
          let whole : all ≡ before ++ one.0 ∷ tallies_of objects nodes =
          is ∙ ap (λ l. before ++ (l ++ tallies_of objects nodes)) one.1 in
          let more : all ≡ (before ++ one.0 ∷ []) ++ tallies_of objects nodes =
          whole ∙ sym (append_assoc before (one.0 ∷ []) (tallies_of objects nodes)) in
          let long : length (before ++ one.0 ∷ []) ≡ length before + 1 =
          length-append before (one.0 ∷ []) in
          let sizes = length-append before (one.0 ∷ tallies_of objects nodes) in
          let below : length before < length all = omega (arith, ap length whole, sizes) in
          let none : length before + 0 ≡ length before = omega arith in
          let at : tally_at all (length before) ≡ one.0 =
          ap (λ l. tally_at l (length before)) whole
          ∙ ap (tally_at (before ++ one.0 ∷ tallies_of objects nodes)) (sym none)
          ∙ get_or-append-add before (one.0 ∷ tallies_of objects nodes) 0
          (tally.Extremes no_extremes) in (
            own_other Q (length before) n (parameters n.function).output other
                (holds n (length before) one.0 (inl refl) other one.1 below at),
            subst (λ k. Each Q k nodes)
                (long ∙ sym (after_other (length before) (parameters n.function).output other))
                (each_tally Q objects nodes (before ++ one.0 ∷ []) all more
                (λ m k t i. holds m k t (inr i))),
          )
    ]

-- ---- the reductions of tasks

module _ (plane : Reference → ℕ) (describes : Reference → Option Description)
    (radius : Node → ℕ) where
  -- a reduction is that of a node that writes no image
  pub record IsReductionOf (nodes : List Node) (r : Reduction) : Type 0 where
    pub node : Node
    pub inside : In node nodes
    pub other : (parameters node.function).output ≢ kind.Image
    pub input : r.input ≡ plane node.in1

  abbrev Are : ℕ → List Node → List Task → Type 0
  Are first nodes tasks =
      HaveOneReduction tasks
      × ((r : Reduction) → Reduces r tasks → (first ≤ r.tally) × IsReductionOf nodes r)

  pub reductions : (nodes : List Node) (at first : ℕ)
      → Are first nodes (tasks_from plane describes radius at first nodes)
  reductions [] at first = (tt, λ r i. absurd i)
  reductions (n ∷ nodes) at first =
      let k : Kind = (parameters n.function).output in
      let rest = reductions nodes (at + 1) (tally_after first k) in
      node_keeps plane describes radius (λ _ (tasks : List Task). Are first (n ∷ nodes) tasks)
      at first n k
      [] (tasks_from plane describes radius (at + 1) (tally_after first k) nodes)
      (λ image which c i left later are. are)
      (λ other are. (
        (
          (λ q i e.
              (let t = (rest.1 q i).0 in let a = after_other first k other in absurd
              (omega arith))),
          rest.0,
        ),
        (λ r i. elim i [
          | inl e ↦
              let input = ap (λ (x : Reduction). x.input) e in
              let place = ap (λ (x : Reduction). x.tally) e in
              (omega arith, record { node = n; inside = inl refl; other = other; input = input })
          | inr j ↦ are.1 r j
        ]),
      )) (
        rest.0,
        λ r i.
            (let t = rest.1 r i in (
              from_next k first r.tally t.0,
              record {
                node = t.1.node;
                inside = inr t.1.inside;
                other = t.1.other;
                input =
                    t.1.input;
              },
            )),
      )
    where
      from_next : (k : Kind) (first tally : ℕ) → tally_after first k ≤ tally → first ≤ tally
      from_next kind.Image first tally h = h
      from_next k first tally h = grind arith

-- ---- new tallies

new_tally : (wanted : Kind) (object : ObjectValue) → All IsNew (tally_by wanted object)
new_tally wanted object = All-from_In IsNew (tally_by wanted object) (λ t i. each wanted object t i)
  where
    each : (wanted : Kind) (object : ObjectValue) (t : Tally)
        → In t (tally_by wanted object)
        → IsNew t
    each wanted object t i = grind arith

pub new_tallies : (objects : List NamedObject) (nodes : List Node) (k : ℕ)
    → IsNew (tally_at (tallies_of objects nodes) k)
new_tallies objects nodes k = elim (cases_lt k (length (tallies_of objects nodes))) [
  | inl below ↦
      In-from_All IsNew (tallies_of objects nodes) (all nodes)
      (tally_at (tallies_of objects nodes) k)
      (In-at (tallies_of objects nodes) k (tally.Extremes no_extremes) below)
  | inr past ↦
      subst IsNew
      (sym (get_or_past (tallies_of objects nodes) k (tally.Extremes no_extremes) past)) refl
]
  where
    all : (nodes : List Node) → All IsNew (tallies_of objects nodes)
    all nodes = All-from_In IsNew (tallies_of objects nodes) (λ t i.
        let n = In-from_flat_map (node_tallies objects) t nodes i in
        In-from_All IsNew (node_tallies objects n.0)
        (new_tally (parameters n.0.function).output
        (cell_object objects (unwrap_or n.0.out1 n.0.in1)))
        t n.2)

-- ---- formats that reductions take

pub reduced_format :
    (function : Function) (first : Format) (second out : Option Format) (object : ObjectValue)
    (t : Tally)
    → (parameters function).output ≢ kind.Image
    → takes_formats function first second out ≡ true
    → tally_by (parameters function).output object ≡ t ∷ []
    → TakesFormat first t
reduced_format function first second out object t other h same = grind arith
