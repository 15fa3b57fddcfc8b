use Rattle.std.proofs.Common.{ℕ}
use Rattle.lane_rows.proofs.Common.{range_with_len}
use Rattle.lane_rows.specs.Ranks.{chosen_of_nine}
use Rattle.lane_rows.specs.Windows.{three_of, nine_at}
use Rattle.lane_rows.proofs.NineLaws.{chosen_by_lanes, numbers_at}
use Rattle.lane_rows.proofs.ranks.AnyOfNineU8.lanes.Goals as goal

pub returns : goal.returns
returns g c =
    let nine = c.args.nine.now in
    let a : ℕ → ℕ × ℕ × ℕ = three_of nine.above in
    let h : ℕ → ℕ × ℕ × ℕ = three_of nine.here in
    let b : ℕ → ℕ × ℕ × ℕ = three_of nine.below in
    numbers_at
    (λ k. chosen_of_nine g.C.Choice.choice (a k).0 (a k).1 (a k).2 (h k).0 (h k).1 (h k).2
    (b k).0 (b k).1 (b k).2)
    (λ k. g.C.Choice.of_nine (nine_at nine k)) c.args.index _
    (rw (
      c.store_32_bytes.ensures,
      c.chosen_lanes.ensures,
      c.chosen_lanes-above.ensures,
      c.chosen_lanes-here.ensures,
      c.chosen_lanes-below.ensures,
      c.three_lanes.ensures,
      c.three_lanes-2.ensures,
      c.three_lanes-3.ensures,
    )
    (chosen_by_lanes g.C.Choice.choice (λ k. (a k).0) (λ k. (a k).1) (λ k. (a k).2)
    (λ k. (h k).0) (λ k. (h k).1) (λ k. (h k).2) (λ k. (b k).0) (λ k. (b k).1) (λ k. (b k).2)
    (range_with_len c.args.index 32)))
    (λ k. g.met.C.Choice.is_of_nine _ _ _ _ _ _ _ _ _)
