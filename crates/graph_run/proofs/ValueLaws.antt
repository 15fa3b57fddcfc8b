-- A node that runs again computes its results from its outputs as they were at first.
use Rattle.std.proofs.Common.{◌≡◌, ℕ, zero, suc, true, false, List, [], ◌∷◌, refl, sym, ap, ◌∙◌, inl, inr, Option, arith, ◌⊎◌, option_map, option_and_then}
use Rattle.graph_run.proofs.Common.{cases_Bool, Node, Reference, ObjectValue, object_kind, In, AllIn, fun_ext, writes, is_written, two_writers, OneWriter, form_of, In-from_any}
use Rattle.graph_verify.specs.Links.{reads}
use Rattle.graph_verify.specs.Rounds.{round, rounds, step, one_pass, ReadsAlone}
use Rattle.graph_verify.proofs.LinkLemmas.{two_writers-after, written_once}
use Rattle.graph_run.proofs.LinkLaws.{reads_first, reads_second}
use Rattle.graph_run.proofs.HeldLaws.{kind-form_seen}
use Rattle.graph_run.proofs.NodeLaws.{output_at, output_of, given_to, given_from, given_in, form-output_of}
use Rattle.graph_run.proofs.RoundLaws.{round_written, round_other}

-- what a node gives to its outputs as they were at first
abbrev pub given_first : (Reference → Option ObjectValue)
    → Node
    → (Reference → Option ObjectValue)
    → Reference
    → Option ObjectValue
given_first start n held c = given_to n held c (start c) (start c)

-- these depend only on the objects that the node reads
pub reads_alone : (start : Reference → Option ObjectValue) → ReadsAlone reads (given_first start)
reads_alone start n a b h c = grind (arith, output_of, output_at, reads_first, reads_second)

-- what the cells hold once nodes were run: forms are as at first, and an output to which nothing is
-- given as well
pub record Follows (nodes : List Node) (start now : Reference → Option ObjectValue) : Type 0 where
  pub forms : (c : Reference) → option_map form_of (now c) ≡ option_map form_of (start c)
  pub again : (n : Node) (c : Reference) (first second : Option ObjectValue)
      → In n nodes
      → writes n c ≡ true
      → option_map object_kind first ≡ option_map object_kind (start n.in1)
      → output_of n (output_at n c) first second (start c) (now c)
      ≡ output_of n (output_at n c) first second (start c) (start c)

module _ (nodes : List Node) (start : Reference → Option ObjectValue) where
  Follows-first : Follows nodes start start
  Follows-first = record { forms = (λ c. refl); again = (λ n c first second i w k. refl) }

  same_kinds : (now : Reference → Option ObjectValue)
      → Follows nodes start now
      → (c : Reference)
      → option_map object_kind (now c) ≡ option_map object_kind (start c)
  same_kinds now f c =
      sym (kind-form_seen (now c))
      ∙ ap (option_map object_kind) (f.forms c)
      ∙ kind-form_seen (start c)

  pub given_same : (now : Reference → Option ObjectValue)
      → Follows nodes start now
      → (n : Node) (c : Reference)
      → In n nodes
      → writes n c ≡ true
      → given_from start n now c ≡ given_first start n now c
  given_same now f n c i w =
      f.again n c (now n.in1) (option_and_then now n.in2) i w (same_kinds now f n.in1)

  -- each cell is left as it is, or gets what a node gives it
  Follows-next : OneWriter writes nodes
      → (now next : Reference → Option ObjectValue)
      → Follows nodes start now
      →
      ((c : Reference) → (next c ≡ now c)
      ⊎ ((n : Node) × In n nodes × (writes n c ≡ true) × (next c ≡ given_first start n now c)))
      → Follows nodes start next
  Follows-next one now next f h = grind (arith, form-output_of, same_kinds)

  Follows-round : OneWriter writes nodes
      → (now : Reference → Option ObjectValue)
      → Follows nodes start now
      → Follows nodes start (round writes (given_first start) nodes now)
  Follows-round one now f =
      grind (arith, Follows-next, cases_Bool, In-from_any, round_written, round_other)

  same_round : (now : Reference → Option ObjectValue)
      → Follows nodes start now
      → (ns : List Node)
      → AllIn ns nodes
      → (c : Reference)
      → round writes (given_from start) ns now c ≡ round writes (given_first start) ns now c
  same_round now f [] within c = refl
  same_round now f (n ∷ ns) within c =
      grind (
        arith,
        cases_Bool (writes n c),
        given_same now f n c (within n (inl refl)),
        same_round now f ns (λ x i. within x (inr i)) c,
      )

  pub Follows-rounds : OneWriter writes nodes
      → (k : ℕ)
      → Follows nodes start (rounds writes (given_first start) nodes k start)
  Follows-rounds one zero = Follows-first
  Follows-rounds one (suc k) =
      Follows-round one (rounds writes (given_first start) nodes k start) (Follows-rounds one k)

  pub same_rounds : OneWriter writes nodes
      → (k : ℕ)
      → rounds writes (given_from start) nodes k start
      ≡ rounds writes (given_first start) nodes k start
  same_rounds one zero = refl
  same_rounds one (suc k) =
      grind (
        arith,
        same_rounds one k,
        same_round (rounds writes (given_first start) nodes k start) (Follows-rounds one k)
            nodes (λ x i. i),
        Follows-rounds one k,
      )

-- ---- one after the other, where no cell has two writers: at its turn each node finds its outputs
-- as they were at first

-- nodes that have not run yet write what is as it was
abbrev AreWaiting : (start now : Reference → Option ObjectValue) → List Node → Type 0
AreWaiting start now steps = (c : Reference) → is_written steps c ≡ true → now c ≡ start c

same_step : (start now : Reference → Option ObjectValue) (n : Node) (steps : List Node)
    → AreWaiting start now (n ∷ steps)
    → (c : Reference)
    → step writes given_in n now c ≡ step writes (given_first start) n now c
same_step start now n steps waiting c = grind (arith, cases_Bool (writes n c), waiting c)

waiting_after : (start now : Reference → Option ObjectValue) (n : Node) (steps : List Node)
    → two_writers (n ∷ steps) ≡ false
    → AreWaiting start now (n ∷ steps)
    → AreWaiting start (step writes (given_first start) n now) steps
waiting_after start now n steps one waiting c w =
    grind (arith, cases_Bool (writes n c), written_once n steps one c, waiting c)

same_once_from : (start now : Reference → Option ObjectValue) (steps : List Node)
    → two_writers steps ≡ false
    → AreWaiting start now steps
    → one_pass writes given_in steps now ≡ one_pass writes (given_first start) steps now
same_once_from start now [] one waiting = refl
same_once_from start now (n ∷ steps) one waiting =
    ap (one_pass writes given_in steps) (fun_ext (same_step start now n steps waiting))
    ∙ same_once_from start (step writes (given_first start) n now) steps
    (two_writers-after (n ∷ []) steps one) (waiting_after start now n steps one waiting)

pub same_once : (start : Reference → Option ObjectValue) (steps : List Node)
    → two_writers steps ≡ false
    → one_pass writes given_in steps start ≡ one_pass writes (given_first start) steps start
same_once start steps one = same_once_from start start steps one (λ c w. refl)
