use Rattle.std.proofs.Common.{◌≡◌, ◌+◌, ◌*◌, ◌<◌, ◌^◌, ℕ, pos, map, take, length}
use Rattle.lane_rows.proofs.Common.{count_at, count_in_all}
use Rattle.lane_rows.proofs.tallies.tally_row.Given as goal

abbrev pub invariant-loop-k : goal.invariant-loop-k
invariant-loop-k l =
    record {
      room : (v : ℕ)
          → count_in_all l.first l.second l.third l.fourth v + length l.row < 2 ^ 32 + 4 * l.k;
      counted : (v : ℕ)
          → count_in_all l.first l.second l.third l.fourth v
          ≡ count_in_all l.fn.first l.fn.second l.fn.third l.fn.fourth v + count_at v
          (map pos (take (4 * l.k) l.row));
    }

abbrev pub invariant-loop-i : goal.invariant-loop-i
invariant-loop-i l =
    record {
      room : (v : ℕ)
          → count_in_all l.first l.second l.third l.fourth v + length l.row < 2 ^ 32 + l.i;
      counted : (v : ℕ)
          → count_in_all l.first l.second l.third l.fourth v
          ≡ count_in_all l.fn.first l.fn.second l.fn.third l.fn.fourth v + count_at v
          (map pos (take l.i l.row));
    }
