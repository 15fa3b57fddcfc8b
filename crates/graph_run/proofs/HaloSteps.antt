-- Tasks with halos do what they do without them.
use Rattle.std.proofs.Common.{◌≡◌, ℕ, List, [], ◌∷◌, map, refl, ap, inl, inr, Option}
use Rattle.vx_base.specs.Image.{ImageValue}
use Rattle.vx_base.specs.Object.{ObjectValue}
use Rattle.graph_steps.specs.declared.step.Reduction.{Reduction}
use Rattle.graph_steps.specs.declared.step.Step.{Step}
use Rattle.graph_steps.specs.declared.step.Task.{Task}
use Rattle.graph_steps.specs.declared.step.Task.TheVariants.{Reduce, Write}
use Rattle.graph_steps.specs.declared.tally.Tally.{Tally}
use Rattle.graph_steps.specs.Halos.{without_halo}
use Rattle.graph_steps.specs.Program.{HaveOneWriter, IsNeeded, IsStepOf, IsUnwritten, Reduces, RunsInTurn, images_after, images_at_end}
use Rattle.graph_steps.specs.Tallies.{AreTallied, HaveOneReduction, ReduceInTurn}

pub bare_step : (s : Step) (tasks : List Task)
    → IsStepOf s tasks
    → IsStepOf (record s { halo = 0 }) (map without_halo tasks)
bare_step s [] i = i
bare_step s (Write t ∷ tasks) (inl e) =
    inl (ap (λ (x : Step). let y : Step = record x { halo = 0 } in y) e)
bare_step s (Write t ∷ tasks) (inr i) = inr (bare_step s tasks i)
bare_step s (Reduce r ∷ tasks) i = bare_step s tasks i

pub bare_reduces : (r : Reduction) (tasks : List Task)
    → Reduces r tasks
    → Reduces r (map without_halo tasks)
bare_reduces r [] i = i
bare_reduces r (Write t ∷ tasks) i = bare_reduces r tasks i
bare_reduces r (Reduce q ∷ tasks) (inl e) = inl e
bare_reduces r (Reduce q ∷ tasks) (inr i) = inr (bare_reduces r tasks i)

pub bare_unwritten : (tasks : List Task) (c : ℕ)
    → IsUnwritten (map without_halo tasks) c
    → IsUnwritten tasks c
bare_unwritten tasks c none s i = none (record s { halo = 0 }) (bare_step s tasks i)

pub bare_writer : (tasks : List Task) → HaveOneWriter (map without_halo tasks) → HaveOneWriter tasks
bare_writer [] one = tt
bare_writer (Write s ∷ tasks) one =
    ((λ none. bare_unwritten tasks s.output (one.0 none)), bare_writer tasks one.1)
bare_writer (Reduce r ∷ tasks) one = bare_writer tasks one

pub bare_needed : (kept : ℕ → Type 0) (high : ℕ) (tasks : List Task) (c more : ℕ)
    → IsNeeded kept high tasks c more
    → (rows : ℕ) × IsNeeded kept high (map without_halo tasks) c rows
bare_needed kept high [] c more n = (more, n)
bare_needed kept high (Write s ∷ tasks) c more (inl read) = (_, inl (read.0, refl))
bare_needed kept high (Write s ∷ tasks) c more (inr (other, rest)) =
    let r = bare_needed kept high tasks c more rest in (r.0, inr (other, r.1))
bare_needed kept high (Reduce r ∷ tasks) c more (inl read) = (more, inl read)
bare_needed kept high (Reduce r ∷ tasks) c more (inr rest) =
    let q = bare_needed kept high tasks c more rest in (q.0, inr q.1)

pub bare_one : (tasks : List Task)
    → HaveOneReduction (map without_halo tasks)
    → HaveOneReduction tasks
bare_one [] one = tt
bare_one (Write s ∷ tasks) one = bare_one tasks one
bare_one (Reduce r ∷ tasks) one = ((λ q i. one.0 q (bare_reduces q tasks i)), bare_one tasks one.1)

module _ (tables : ℕ → Option ObjectValue) where
  pub bare_runs : (high : ℕ) (tasks : List Task) (images : ℕ → ImageValue)
      → RunsInTurn tables high (map without_halo tasks) images
      → RunsInTurn tables high tasks images
  bare_runs high [] images runs = tt
  bare_runs high (Write s ∷ tasks) images runs = (
    (let h = runs.0 in
        record {
          makes =
              record {
                node = h.makes.node;
                kind = h.makes.kind;
                formats = h.makes.formats;
                size =
                    h.makes.size;
                second_size = h.makes.second_size;
              };
          table = h.table;
          near = h.near;
          tall = h.tall;
        }),
    bare_runs high tasks (images_after tables (Write s) images) runs.1,
  )
  bare_runs high (Reduce r ∷ tasks) images runs =
      (runs.0, runs.1, bare_runs high tasks images runs.2)

  pub bare_ends : (tasks : List Task) (images : ℕ → ImageValue) (c : ℕ)
      → images_at_end tables (map without_halo tasks) images c ≡ images_at_end tables tasks images c
  bare_ends [] images c = refl
  bare_ends (Write s ∷ tasks) images c = bare_ends tasks (images_after tables (Write s) images) c
  bare_ends (Reduce r ∷ tasks) images c = bare_ends tasks images c

  pub bare_tallied : (tasks : List Task) (images : ℕ → ImageValue) (old new : List Tally)
      → AreTallied tables tasks images old new
      → AreTallied tables (map without_halo tasks) images old new
  bare_tallied [] images old new t = tt
  bare_tallied (Write s ∷ tasks) images old new t =
      bare_tallied tasks (images_after tables (Write s) images) old new t
  bare_tallied (Reduce r ∷ tasks) images old new t = (t.0, bare_tallied tasks images old new t.1)

  pub bare_reduce : (first : ℕ) (tasks : List Task) (images : ℕ → ImageValue) (tallies : List Tally)
      → ReduceInTurn tables first (map without_halo tasks) images tallies
      → ReduceInTurn tables first tasks images tallies
  bare_reduce first [] images tallies r = tt
  bare_reduce first (Write s ∷ tasks) images tallies r =
      bare_reduce first tasks (images_after tables (Write s) images) tallies r
  bare_reduce first (Reduce q ∷ tasks) images tallies r =
      (r.0, bare_reduce first tasks images tallies r.1)
