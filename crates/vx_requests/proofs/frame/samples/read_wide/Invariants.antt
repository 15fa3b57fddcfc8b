use Rattle.std.proofs.Common.{◌+◌, ◌*◌, ◌-◌, ◌≤◌, ℕ, length, take, map, Ok}
use Rattle.vx_requests.proofs.Common.{KeepsCount, ReadsSamples, sample_bytes}
use Rattle.vx_requests.proofs.frame.samples.read_wide.Given as goal

abbrev pub invariant-loop-done : goal.invariant-loop-done
invariant-loop-done g l = record {
  within : l.done ≤ length l.samples;
  samples :
      ReadsSamples (g.R.Source.left l.initial.reader.source.now)
      (g.R.Source.left l.reader.source.now) g.S.WideSample.format
      (map g.S.WideSample.value (take l.done l.samples));
  counted :
      KeepsCount {T = ℕ} g.R.Source.reads g.R.Source.failures l.initial.reader l.reader (Ok 0);
  sparing :
      g.R.Source.reads l.reader.source.now ≤ g.R.Source.reads l.initial.reader.source.now +
      l.done * sample_bytes g.S.WideSample.format;
}

abbrev pub decreases-loop-done : goal.decreases-loop-done
decreases-loop-done g l = length l.samples - l.done
