use Rattle.std.proofs.Common.{◌≡◌, ◌+◌, ◌≤◌, ◌<◌, length, take}
use Rattle.vx_requests.proofs.Common.{Consumes}
use Rattle.vx_requests.proofs.stream.transfer.fill.Given as goal

abbrev pub invariant-loop-count : goal.invariant-loop-count
invariant-loop-count g l = record {
  within : l.count ≤ length l.buf;
  bytes :
      Consumes (g.S.Source.left l.initial.source) (g.S.Source.left l.source) (take l.count l.buf);
  counted :
      g.S.Source.reads l.source + l.budget ≡ g.S.Source.reads l.initial.source + l.initial.budget;
  once : (0 < l.count → l.budget < l.initial.budget) × (l.budget ≤ l.initial.budget);
  sparing : g.S.Source.reads l.source ≤ g.S.Source.reads l.initial.source + l.count;
  failed : g.S.Source.failures l.source ≡ g.S.Source.failures l.initial.source;
}

abbrev pub decreases-loop-count : goal.decreases-loop-count
decreases-loop-count g l = l.budget
