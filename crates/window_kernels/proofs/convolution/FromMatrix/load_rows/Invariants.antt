use Rattle.std.proofs.Common.{◌≡◌, ◌*◌, ◌+◌, ◌/◌, ◌+ℤ◌, ◌-ℤ◌, pos, map, take}
use Rattle.window_kernels.proofs.Common.{Each1, IsNear, sample_or_border, table}
use Rattle.window_kernels.proofs.convolution.FromMatrix.load_rows.Given as goal

abbrev pub invariant-loop-l : goal.invariant-loop-l
invariant-loop-l l =
    let m = l.self.convolution.now in
    record {
      value :
          map (λ z. z) (take (l.l * l.line) l.rows)
          ≡ table l.line l.l
          (λ c i. sample_or_border l.self.image.now l.self.border
          (pos (l.x + c) -ℤ pos (m.columns / 2)) (pos l.y +ℤ pos (m.rows / 2) -ℤ pos i));
      limit : Each1 (IsNear 255) (take (l.l * l.line) l.rows);
    }
