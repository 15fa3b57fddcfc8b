use Rattle.std.proofs.Common.{◌≤◌, ◌+◌, ℕ, pos, length, arith}
use Rattle.std.proofs.lemmas.Nat.{mul-le}
use Rattle.window_kernels.proofs.Common.{nine_around, sample_or_border}
use Rattle.window_kernels.proofs.WindowLaws.{parts_joined}
use Rattle.window_kernels.proofs.windows.FromNineRowFormula.fill.Goals as goal

pub write_inside-requires-clause-scratch : goal.write_inside-requires-clause-scratch
write_inside-requires-clause-scratch g c =
    let image = c.args.self.now.image.now in
    let k = g.K.OfWindow.scratch_rows in
    let n = length c.split_at_mut-inside.result.0.now + 2 in
    let all : k ≤ k = omega arith in
    let room : n ≤ image.width =
    omega (
      arith,
      c.split_at_mut-inside.ensures.front_len,
      c.split_at_mut-first.ensures.back_len,
      c.if-last-eq0.false,
      c.requires.in_columns.1,
      c.args.self.now.columns.0,
      c.valid-valid.ensures.image.room.columns,
    ) in
    omega (arith, mul-le k n k image.width all room, c.requires.scratch)

pub returns-else-last-eq0 : goal.returns-else-last-eq0
returns-else-last-eq0 g c =
    let s = c.args.self.now in
    let first = c.split_at_mut-first.ensures in
    let inside = c.split_at_mut-inside.ensures in
    parts_joined g.T.Number.value
    (λ (k : ℕ). g.K.OfWindow.formula s.kernel.now
    (nine_around (sample_or_border s.image.now s.border) (pos k) (pos c.args.y)))
    c.args.x (length c.args.out.now) _ _ _ _ _
    c.write_pixel-else-last-eq0.ensures c.write_inside.ensures c.write_pixel-else-last-eq0-2.ensures
    (omega (arith, c.if-last-eq0.false, first.front_len, first.back_len, inside.front_len))
    (omega (arith, c.if-last-eq0.false, first.front_len, first.back_len, inside.front_len))
