use Rattle.std.proofs.Common.{arith}
use Rattle.lane_rows.proofs.TallyLaws.{tallies, four_more, all_bytes}
use Rattle.lane_rows.proofs.tallies.tally_row.Goals as goal

pub loop-k-preserved : goal.loop-k-preserved
loop-k-preserved c =
    let one = c.count_one.ensures in
    let two = c.count_one-in-loop-k.ensures in
    let three = c.count_one-in-loop-k-2.ensures in
    let four = c.count_one-in-loop-k-3.ensures in
    record {
      counted =
          λ v. omega (
            arith,
            c.loop-k.invariant.counted v,
            one v,
            two v,
            three v,
            four v,
            four_more v
                c.args.row.now c.loop-k.k (omega (arith, c.loop-k-test.true)),
          );
      room = λ v. grind (arith, c.loop-k.invariant.room v, one v, two v, three v, four v);
    }

pub loop-i-preserved : goal.loop-i-preserved
loop-i-preserved c = record {
  counted =
      λ v. grind (arith, tallies, c.loop-i.invariant.counted v, c.count_one-in-loop-i.ensures v);
  room = λ v. grind (arith, c.loop-i.invariant.room v, c.count_one-in-loop-i.ensures v);
}

pub returns-clause-bytes : goal.returns-clause-bytes
returns-clause-bytes c = all_bytes c.args.row.now (λ i. (c.type_inv.row i).fits)
