use Rattle.std.proofs.Common.{ℕ}
use Rattle.lane_rows.proofs.Common.{range_with_len}
use Rattle.lane_rows.specs.Ranks.{chosen_of_three}
use Rattle.lane_rows.specs.Threes.{chosen_at}
use Rattle.lane_rows.specs.Windows.{three_of}
use Rattle.lane_rows.proofs.NineLaws.{three_by_lanes, numbers_at, chosen_number}
use Rattle.lane_rows.proofs.ranks.ChosenAtIndexedU8.lanes.Goals as goal

pub returns : goal.returns
returns g c =
    let rows = c.args.self.now.rows.now in
    let items : ℕ → ℕ × ℕ × ℕ = three_of rows in
    numbers_at (λ k. chosen_of_three g.C.Choice.choice (items k).0 (items k).1 (items k).2)
    (chosen_at g.C.Choice.of_numbers rows) c.args.index _
    (rw (c.store_32_bytes.ensures, c.chosen_lanes.ensures, c.three_lanes.ensures)
    (three_by_lanes g.C.Choice.choice (λ k. (items k).0) (λ k. (items k).1) (λ k. (items k).2)
    (range_with_len c.args.index 32)))
    (chosen_number g.C.Choice.choice g.C.Choice.of_numbers g.met.C.Choice.same rows)
