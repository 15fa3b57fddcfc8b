use Rattle.std.proofs.Common.{◌+◌, arith}
use Rattle.lane_rows.proofs.PairLaws.{none_added, pair_added, all_added}
use Rattle.lane_rows.proofs.pairs.add_row.Goals as goal

pub loop-j-init : goal.loop-j-init
loop-j-init c = let none = none_added c.args.row.now c.args.table.now in record {
  left = none c.args.index _;
  right = none (c.args.index + 1) _;
}

pub loop-j-preserved : goal.loop-j-preserved
loop-j-preserved c =
    let row = c.args.row.now in
    let table = c.args.table.now in
    let j = c.loop-j.j in
    let pair = c.requires.table j (omega arith) in
    record {
      left =
          pair_added row table c.args.index j _ _ _ c.loop-j.invariant.left
          (c.sixteen_pairs-more_left.ensures _ _ pair);
      right =
          pair_added row table (c.args.index + 1) j _ _ _ c.loop-j.invariant.right
          (c.sixteen_pairs-more_right.ensures _ _ pair);
    }

pub returns : goal.returns
returns c =
    let all = all_added c.args.row.now c.args.table.now in
    record {
      even =
          all c.args.index c.args.pairs c.loop-j.j c.args.even c.loop-j.left (omega arith)
          c.loop-j.invariant.left;
      odd =
          all (c.args.index + 1) c.args.pairs c.loop-j.j c.args.odd c.loop-j.right (omega arith)
          c.loop-j.invariant.right;
    }
