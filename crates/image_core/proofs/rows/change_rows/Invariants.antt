use Rattle.std.proofs.Common.{◌≡◌, ◌*◌, map, take, drop}
use Rattle.image_core.proofs.Common.{band, sample_from, zero_outside}
use Rattle.image_core.proofs.rows.change_rows.Given as goal

abbrev pub invariant-loop-k : goal.invariant-loop-k
invariant-loop-k g l = record {
  written :
      map g.T.Number.value (take (l.k * l.width) l.samples)
      ≡ band l.width l.rows.start l.k
      (zero_outside (g.C.RowChange.area l.change)
      (λ x y. g.C.RowChange.next l.change x y
      (sample_from l.width l.rows.start (map g.T.Number.value l.fn.samples) x y)));
  kept : drop (l.k * l.width) l.samples ≡ drop (l.k * l.width) l.fn.samples;
}
