use Rattle.std.proofs.Common.{◌≡◌, map, take}
use Rattle.graph_run.proofs.Common.{VirtualOutput}
use Rattle.graph_run.proofs.cells.virtual_cells.Given as goal

abbrev pub invariant-loop-output : goal.invariant-loop-output
invariant-loop-output l = record {
  each : l.cells.items ≡ map (λ (o : VirtualOutput). o.cell) (take l.output-index l.output-items);
  items : l.output-items ≡ l.verified.virtual_outputs;
}
