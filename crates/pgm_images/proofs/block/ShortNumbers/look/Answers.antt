use Rattle.std.proofs.Common.{◌+◌, false, drop, subst, sym, arith, ◌≡◌}
use Rattle.pgm_images.proofs.Common.{FindsNumber}
use Rattle.pgm_images.proofs.ShortLemmas.{five}
use Rattle.pgm_images.proofs.BlockLemmas.{one_told}
use Rattle.pgm_images.proofs.block.ShortNumbers.look.Goals as goal

pub loop-i-preserved : goal.loop-i-preserved
loop-i-preserved c none =
    let before : c.loop-i.others ≡ false = grind (arith, none) in
    let now : c.short_number-number.result.2 ≡ false = grind (arith, none) in
    let text = c.args.text.now in
    let i = c.loop-i.i in
    let number = c.short_number-number.result.0 in
    let bytes = c.short_number-number.result.1 in
    let told : FindsNumber c.args.maxval number bytes (drop i text) =
    subst (FindsNumber c.args.maxval number bytes) (sym (five text i (omega arith)))
    (c.short_number-number.ensures now (drop (i + 5) text)) in
    one_told c.args.maxval c.loop-i.self.numbers c.loop-i.self.bytes text i number bytes
    (omega arith) (omega arith) told (c.loop-i.invariant before)
