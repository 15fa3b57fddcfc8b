use Rattle.std.proofs.Common.{◌≡◌, length}
use Rattle.graph_run.specs.Cells.{cells_of, images_named, with_cells}
use Rattle.graph_run.proofs.cells.cells_of.Given as goal

abbrev pub invariant-loop-node : goal.invariant-loop-node
invariant-loop-node l = with_cells l.cells.items (images_named l.rest) ≡ cells_of l.verified

abbrev pub decreases-loop-node : goal.decreases-loop-node
decreases-loop-node l = length l.rest
