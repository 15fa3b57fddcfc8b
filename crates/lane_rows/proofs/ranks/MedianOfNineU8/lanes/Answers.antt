use Rattle.std.proofs.Common.{ℕ, min, max}
use Rattle.vx_base.specs.Window.{median}
use Rattle.lane_rows.proofs.Common.{range_with_len}
use Rattle.lane_rows.specs.Ranks.{middle_of_nine}
use Rattle.lane_rows.specs.Windows.{three_of, nine_at}
use Rattle.lane_rows.proofs.MedianLaws.{median_of_numbers}
use Rattle.lane_rows.proofs.NineLaws.{middle_by_lanes, numbers_at}
use Rattle.lane_rows.proofs.ranks.MedianOfNineU8.lanes.Goals as goal

pub returns : goal.returns
returns c =
    let nine = c.args.nine.now in
    let a : ℕ → ℕ × ℕ × ℕ = three_of nine.above in
    let h : ℕ → ℕ × ℕ × ℕ = three_of nine.here in
    let b : ℕ → ℕ × ℕ × ℕ = three_of nine.below in
    numbers_at
    (λ k. middle_of_nine min max (a k).0 (a k).1 (a k).2 (h k).0 (h k).1 (h k).2 (b k).0 (b k).1
    (b k).2)
    (λ k. median (nine_at nine k)) c.args.index _
    (rw (
      c.store_32_bytes.ensures,
      c.medians.ensures,
      c.three_lanes-above.ensures,
      c.three_lanes-here.ensures,
      c.three_lanes-below.ensures,
    )
    (middle_by_lanes min max (λ k. (a k).0) (λ k. (a k).1) (λ k. (a k).2) (λ k. (h k).0)
    (λ k. (h k).1) (λ k. (h k).2) (λ k. (b k).0) (λ k. (b k).1) (λ k. (b k).2)
    (range_with_len c.args.index 32)))
    (λ k. median_of_numbers _ _ _ _ _ _ _ _ _)
