use Rattle.std.proofs.Common.{ℕ, ◌≡◌, ◌-◌, ◌≤◌, min}
use Rattle.graph_steps.proofs.Common.{IsProgram, ◌⊎◌}
use Rattle.graph_steps.proofs.RunLaws.{Between}
use Rattle.graph_steps.proofs.bands.run.Given as goal

abbrev pub invariant-loop-first : goal.invariant-loop-first
invariant-loop-first g l = record {
  within : l.first ≤ l.high;
  begun : (l.first ≡ 0) ⊎ (min l.size l.high ≤ l.first);
  between :
      (slots : ℕ)
      (program : IsProgram (g.T.Tables.tables l.tables) l.high l.size slots l.tasks l.fn.planes)
      → Between program l.first l.planes l.fn.tallies l.tallies;
}

abbrev pub decreases-loop-first : goal.decreases-loop-first
decreases-loop-first g l = l.high - l.first
