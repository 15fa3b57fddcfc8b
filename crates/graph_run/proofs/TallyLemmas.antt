-- Tallies that are written to the objects of a table.
use Rattle.std.proofs.Common.{◌≡◌, ℕ, ◌+◌, ◌≤◌, List, ◌∷◌, length, drop, sym, ap, subst, ◌∙◌, arith}
use Rattle.graph_run.proofs.Common.{Reference, NamedObject, with_object, with_written}
use Rattle.graph_steps.specs.declared.tally.Tally.{Tally}
use Rattle.graph_steps.specs.declared.tally.Tally.TheVariants as tally
use Rattle.graph_run.specs.Bound.{AreTalliesFor, IsTallyFor}
use Rattle.graph_run.specs.Results.{tally_object, tally_objects}
use Rattle.graph_run.proofs.HeldLaws.{object_held-with_object}

-- ---- one tally

module _ (objects : List NamedObject) (c : Reference) (t : Tally)
    (first : IsTallyFor objects c t) where
  -- after a tally is written to an object, the other tallies still fit
  pub stays_for : (d : Reference) (u : Tally)
      → IsTallyFor objects d u
      → IsTallyFor (with_object objects c (tally_object t)) d u
  stays_for d (tally.Histogram h) is =
      grind (arith, object_held-with_object objects c (tally_object t) d.name)
  stays_for d (tally.Extremes e) is =
      grind (arith, object_held-with_object objects c (tally_object t) d.name)

  pub stay_for : (cells : List Reference) (tallies : List Tally)
      → AreTalliesFor objects cells tallies
      → AreTalliesFor (with_object objects c (tally_object t)) cells tallies
  stay_for (d ∷ cells) (u ∷ tallies) are = (stays_for d u are.0, stay_for cells tallies are.1)
  stay_for cells tallies are = grind arith

pub enough : (objects : List NamedObject) (cells : List Reference) (tallies : List Tally)
    → AreTalliesFor objects cells tallies
    → length cells ≤ length tallies
enough objects (c ∷ cells) (t ∷ tallies) are = omega (arith, enough objects cells tallies are.1)
enough objects cells tallies are = grind arith

-- the first of the cells and tallies that are left
module _ (objects : List NamedObject) (cells : List Reference) (tallies : List Tally) (k : ℕ)
    (c : Reference) (t : Tally)
    (cell_at : drop k cells ≡ c ∷ drop (k + 1) cells)
    (tally_at : drop k tallies ≡ t ∷ drop (k + 1) tallies)
    (are : AreTalliesFor objects (drop k cells) (drop k tallies)) (after : List NamedObject)
    (left : after ≡ with_object objects c (tally_object t)) where
  firsts : AreTalliesFor objects (c ∷ drop (k + 1) cells) (t ∷ drop (k + 1) tallies)
  firsts = rw (cell_at, tally_at) at are

  pub next_for : AreTalliesFor after (drop (k + 1) cells) (drop (k + 1) tallies)
  next_for =
      subst
      (λ (o : List NamedObject). AreTalliesFor o (drop (k + 1) cells) (drop (k + 1) tallies))
      (sym left) (stay_for objects c t firsts.0 _ _ firsts.1)

  pub next_set :
      with_written after (tally_objects (drop (k + 1) cells) (drop (k + 1) tallies))
      ≡ with_written objects (tally_objects (drop k cells) (drop k tallies))
  next_set =
      ap
      (λ (o : List NamedObject). with_written o
      (tally_objects (drop (k + 1) cells) (drop (k + 1) tallies)))
      left
      ∙ sym
      (ap (λ (l : List Reference). with_written objects (tally_objects l (drop k tallies))) cell_at
      ∙ ap (λ (l : List Tally). with_written objects (tally_objects (c ∷ drop (k + 1) cells) l))
      tally_at)
