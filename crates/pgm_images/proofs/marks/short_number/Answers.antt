use Rattle.std.proofs.Common.{refl}
use Rattle.pgm_images.proofs.ShortLemmas.{short_told}
use Rattle.pgm_images.proofs.marks.short_number.Goals as goal

pub returns : goal.returns
returns c known rest =
    short_told c.is_space.result c.is_space-2.result _ c.args.blank c.args.first c.args.second
    c.args.third c.args.fourth c.digit.result c.digit-first.result c.digit-second.result
    c.digit-third.result c.digit-fourth.result
    c.with_digit-tens.result c.with_digit-number.result c.from.result c.from-2.result
    c.from-3.result c.args.maxval rest c.is_space.ensures c.is_space-2.ensures
    c.digit.ensures.below
    c.digit-first.ensures.below c.digit-first.ensures.value c.digit-second.ensures.below
    c.digit-second.ensures.value c.digit-third.ensures.below c.digit-third.ensures.value
    c.digit-fourth.ensures.below c.with_digit-tens.ensures c.with_digit-number.ensures
    c.from-2.ensures c.from-3.ensures c.from.ensures refl known
