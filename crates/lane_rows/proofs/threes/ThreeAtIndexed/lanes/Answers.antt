use Rattle.std.proofs.Common.{◌∙◌, map, leb-true}
use Rattle.lane_rows.proofs.Common.{range_with_len}
use Rattle.lane_rows.specs.Threes.{number_at}
use Rattle.lane_rows.proofs.ThreeLaws.{up_to_more, limited_numbers, zip3-map}
use Rattle.lane_rows.proofs.threes.ThreeAtIndexed.lanes.Goals as goal

pub numbers-requires-2-clause-limit : goal.numbers-requires-2-clause-limit
numbers-requires-2-clause-limit g c =
    up_to_more g.K.OfThree.limit 8191 (map g.A.Item.value c.args.self.now.second.now)
    (leb-true _ _ g.met.K.OfThree.small) c.args.self.now.limit.1

pub numbers-requires-3-clause-limit : goal.numbers-requires-3-clause-limit
numbers-requires-3-clause-limit g c =
    up_to_more g.K.OfThree.limit 8191 (map g.A.Item.value c.args.self.now.third.now)
    (leb-true _ _ g.met.K.OfThree.small) c.args.self.now.limit.2

pub of_three_lanes-numbers-requires-clause-limit : goal.of_three_lanes-numbers-requires-clause-limit
of_three_lanes-numbers-requires-clause-limit g c =
    let m = g.K.OfThree.limit in
    let rows = c.args.self.now in
    let ks = range_with_len c.args.index 32 in (
      limited_numbers m _ ks c.numbers.result rows.limit.0 c.numbers.ensures,
      limited_numbers m _ ks c.numbers-2.result rows.limit.1 c.numbers-2.ensures,
      limited_numbers m _ ks c.numbers-3.result rows.limit.2 c.numbers-3.ensures,
    )

pub returns : goal.returns
returns g c =
    let value = g.A.Item.value in
    let rows = c.args.self.now in
    c.store.ensures ∙ c.of_three_lanes-numbers.ensures.value
    ∙ rw (c.numbers.ensures, c.numbers-2.ensures, c.numbers-3.ensures)
    (zip3-map g.K.OfThree.formula (number_at (map value rows.first.now))
    (number_at (map value rows.second.now)) (number_at (map value rows.third.now))
    (range_with_len c.args.index 32))
