use Rattle.std.proofs.Common.{◌≡◌, List, ◌++◌, length}
use Rattle.vx_requests.proofs.Common.{flat_map, Appends, encoded_sample}
use Rattle.vx_requests.proofs.frame.samples.write_wide.Given as goal

abbrev pub invariant-loop-rest : goal.invariant-loop-rest
invariant-loop-rest g l = record {
  taken :
      (done : List g.row.S.Denot)
      × (l.initial.rest ≡ done ++ l.rest)
      × Appends (g.K.Sink.taken l.initial.sink) (g.K.Sink.taken l.sink)
      (flat_map (λ s. encoded_sample g.S.WideSample.format (g.S.WideSample.value s)) done);
  failed : g.K.Sink.failures l.sink ≡ g.K.Sink.failures l.initial.sink;
}

abbrev pub decreases-loop-rest : goal.decreases-loop-rest
decreases-loop-rest g l = length l.rest
