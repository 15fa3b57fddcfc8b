use Rattle.std.proofs.Common.{◌≡◌, ◌+◌, ◌<◌, ◌≤◌, ◌^◌, ℕ, List, length, Ok, All}
use Rattle.vx_requests.proofs.Common.{Consumes, KeepsCount}
use Rattle.vx_requests.proofs.frame.reader.Reader.skip.Given as goal

abbrev pub invariant-loop-rest : goal.invariant-loop-rest
invariant-loop-rest g l = record {
  bytes :
      (done : List ℕ)
      × Consumes (g.S.Source.left l.initial.self.source.now) (g.S.Source.left l.self.source.now)
      done
      × (length done + l.rest ≡ l.count)
      × All (λ b. b < 2 ^ 8) done;
  counted : KeepsCount {T = ℕ} g.S.Source.reads g.S.Source.failures l.initial.self l.self (Ok 0);
  sparing :
      g.S.Source.reads l.self.source.now + l.rest ≤ g.S.Source.reads l.initial.self.source.now +
      l.count;
}

abbrev pub decreases-loop-rest : goal.decreases-loop-rest
decreases-loop-rest g l = l.rest
