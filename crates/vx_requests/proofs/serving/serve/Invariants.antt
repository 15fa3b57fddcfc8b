use Rattle.std.proofs.Common.{◌≡◌, ◌+◌, ◌≤◌, ◌^◌, ℕ, Ok}
use Rattle.vx_requests.proofs.Common.{states_of, KeepsCount}
use Rattle.vx_requests.proofs.Progress.{Progress}
use Rattle.vx_requests.proofs.serving.serve.Given as goal

abbrev pub invariant-frames : goal.invariant-frames
invariant-frames g l = record {
  progress :
      Progress l.initial.runtime.limits (g.S.Source.left l.initial.reader.source.now)
      (g.S.Source.left l.reader.source.now) (g.K.Sink.taken l.initial.sink)
      (g.K.Sink.taken l.sink) (states_of l.initial.runtime) (states_of l.runtime)
      l.summary.requests l.summary.refused;
  limits : l.runtime.limits ≡ l.initial.runtime.limits;
  counted :
      KeepsCount {T = ℕ} g.S.Source.reads g.S.Source.failures l.initial.reader l.reader (Ok 0);
  few : l.summary.requests + l.reader.budget ≤ 2 ^ 40;
  refused : l.summary.refused ≤ l.summary.requests;
  write_failed : g.K.Sink.failures l.sink ≡ g.K.Sink.failures l.initial.sink;
}

abbrev pub decreases-frames : goal.decreases-frames
decreases-frames g l = l.reader.budget
