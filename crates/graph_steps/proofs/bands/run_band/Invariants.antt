use Rattle.std.proofs.Common.{◌≡◌, ℕ, length}
use Rattle.graph_steps.proofs.Common.{CanReduceBand, CanRunBand, ImageValue, after_tasks, all_tallies_after}
use Rattle.graph_steps.proofs.bands.run_band.Given as goal

abbrev pub invariant-loop-task : goal.invariant-loop-task
invariant-loop-task g l = record {
  can :
      (high slots : ℕ)
      × (images : ℕ → ImageValue)
      × CanRunBand (g.T.Tables.tables l.tables) high slots l.band l.rest images l.planes
      × CanReduceBand (g.T.Tables.tables l.tables) l.band.start l.rest images l.tallies;
  same :
      after_tasks (g.T.Tables.tables l.tables) l.band l.rest l.planes
      ≡ after_tasks (g.T.Tables.tables l.tables) l.band l.tasks l.fn.planes;
  tallied :
      all_tallies_after (g.T.Tables.tables l.tables) l.band l.rest l.planes l.tallies
      ≡ all_tallies_after (g.T.Tables.tables l.tables) l.band l.tasks l.fn.planes l.fn.tallies;
}

abbrev pub decreases-loop-task : goal.decreases-loop-task
decreases-loop-task g l = length l.rest
