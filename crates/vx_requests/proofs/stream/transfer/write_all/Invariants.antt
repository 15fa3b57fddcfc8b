use Rattle.std.proofs.Common.{◌≡◌, List, ℕ, ◌++◌, length}
use Rattle.vx_requests.proofs.Common.{Appends}
use Rattle.vx_requests.proofs.stream.transfer.write_all.Given as goal

abbrev pub invariant-loop-rest : goal.invariant-loop-rest
invariant-loop-rest g l = record {
  taken :
      (done : List ℕ)
      × (l.initial.rest ≡ done ++ l.rest)
      × Appends (g.K.Sink.taken l.initial.sink) (g.K.Sink.taken l.sink) done;
  failed : g.K.Sink.failures l.sink ≡ g.K.Sink.failures l.initial.sink;
}

abbrev pub decreases-loop-rest : goal.decreases-loop-rest
decreases-loop-rest g l = length l.rest
