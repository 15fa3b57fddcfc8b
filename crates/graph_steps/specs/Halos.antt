-- Halos: the rows that tasks need of each plane, as a list of numbers.
use Rattle.std.specs.Prelude.{ℕ, ◌≤◌, ◌<◌, ◌≡◌, ◌⊎◌, ⊤, List, [], ◌∷◌, slice_index_or}
use Rattle.graph_steps.specs.declared.step.Task.{Task}
use Rattle.graph_steps.specs.declared.step.Task.TheVariants.{Write, Reduce}
use Rattle.graph_steps.specs.Steps.{ReadsPlane}
use Rattle.graph_steps.specs.Program.{IsNeeded}

-- the number of rows that are needed of a plane above a band, and as many below
abbrev pub need : List ℕ → ℕ → ℕ
need needs c = slice_index_or needs c 0

-- the list has at least the rows that these tasks need of each plane
abbrev pub Cover : ℕ → List Task → List ℕ → Type 0
Cover high tasks needs = (c rows : ℕ) → IsNeeded (λ c. ⊥) high tasks c rows → rows ≤ need needs c

-- the list has 0 rows of a plane, or as many as one of these tasks needs of it
abbrev pub HasOnly : ℕ → List Task → List ℕ → Type 0
HasOnly high tasks needs =
    (c : ℕ) → (need needs c ≡ 0) ⊎ IsNeeded (λ c. ⊥) high tasks c (need needs c)

-- each step's halo is 0, or the number of rows that one of the later tasks needs of its output
abbrev pub AreNeeded : ℕ → List Task → Type 0
AreNeeded high [] = ⊤
AreNeeded high (Write s ∷ later) =
    ((s.halo ≡ 0) ⊎ IsNeeded (λ c. ⊥) high later s.output s.halo) × AreNeeded high later
AreNeeded high (Reduce r ∷ later) = AreNeeded high later

-- a step's planes have indices below `count`
abbrev pub NamesBelow : ℕ → Task → Type 0
NamesBelow count (Write s) = (s.output < count) × ((c : ℕ) → ReadsPlane s c → c < count)
NamesBelow count (Reduce r) = ⊤

-- a task with halo 0
abbrev pub without_halo : Task → Task
without_halo (Write s) = Write (record s { halo = 0 })
without_halo (Reduce r) = Reduce r
