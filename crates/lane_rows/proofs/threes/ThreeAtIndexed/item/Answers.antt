use Rattle.std.proofs.Common.{arith}
use Rattle.lane_rows.specs.Threes.{IsUpTo}
use Rattle.lane_rows.proofs.ThreeLaws.{item_taken}
use Rattle.lane_rows.proofs.threes.ThreeAtIndexed.item.Goals as goal

pub item-requires : goal.item-requires
item-requires g c =
    let rows = c.args.self.now in
    let takes = IsUpTo g.K.OfThree.limit in
    let value = g.A.Item.value in
    let i = c.args.index in (
      item_taken takes value rows.first.now i _ c.requires.inside rows.limit.0,
      item_taken takes value rows.second.now i _
          (omega (arith, c.requires.inside, rows.second_len)) rows.limit.1,
      item_taken takes value rows.third.now i _
          (omega (arith, c.requires.inside, rows.third_len)) rows.limit.2,
    )
