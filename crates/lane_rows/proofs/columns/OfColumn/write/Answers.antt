use Rattle.std.proofs.Common.{◌∙◌, ℕ, map, ap, sym, arith, zero-add}
use Rattle.vx_base.proofs.WindowLaws.{item_written}
use Rattle.lane_rows.specs.Threes.{number_at}
use Rattle.lane_rows.proofs.ThreeLaws.{item_is, item_is_taken}
use Rattle.lane_rows.proofs.NineLaws.{same_three}
use Rattle.lane_rows.proofs.columns.OfColumn.write.Goals as goal

pub loop-i-preserved : goal.loop-i-preserved
loop-i-preserved g c =
    let value = g.A.Item.value in
    let i = c.loop-i.i in
    let f = g.Self.OfColumn.formula in
    let one =
    item_is value c.args.first.now i c.index-first-i.result
    (omega (arith, c.requires.first_len, c.loop-i-test.true)) c.index-first-i.is in
    let two =
    item_is value c.args.second.now i c.index-second-i.result
    (omega (arith, c.requires.second_len, c.loop-i-test.true)) c.index-second-i.is in
    let three =
    item_is value c.args.third.now i c.index-third-i.result
    (omega (arith, c.requires.third_len, c.loop-i-test.true)) c.index-third-i.is in
    let h =
    λ (k : ℕ). f (number_at (map value c.args.first.now) k)
    (number_at (map value c.args.second.now) k) (number_at (map value c.args.third.now) k) in
    item_written g.T.Item.value h 0 i c.loop-i.out c.item.result c.loop-i.invariant
    (omega arith) (c.item.ensures ∙ same_three f one two three ∙ ap h (sym (zero-add i)))

pub item-requires : goal.item-requires
item-requires g c =
    let value = g.A.Item.value in
    let i = c.loop-i.i in
    let taken = item_is_taken g.Self.OfColumn.takes value in (
      taken c.args.first.now i _ (omega (arith, c.requires.first_len, c.loop-i-test.true))
          c.index-first-i.is c.requires.taken.0,
      taken c.args.second.now i _ (omega (arith, c.requires.second_len, c.loop-i-test.true))
          c.index-second-i.is c.requires.taken.1,
      taken c.args.third.now i _ (omega (arith, c.requires.third_len, c.loop-i-test.true))
          c.index-third-i.is c.requires.taken.2,
    )
