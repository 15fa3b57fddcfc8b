use Rattle.std.proofs.Common.{◌≡◌, pos, map, take}
use Rattle.border_rows.proofs.seen.load_samples.Given as goal

abbrev pub invariant-loop-i : goal.invariant-loop-i
invariant-loop-i g l = map g.T.Number.value (take l.i l.out) ≡ map pos (take l.i l.samples)
