use Rattle.std.proofs.Common.{◌≡◌, ◌+◌, ◌∙◌, ap, sym, arith}
use Rattle.stat_kernels.proofs.Common.{Band, Description, all_rows, extremes, extremes_of, valid_in, added_extremes}
use Rattle.stat_kernels.proofs.AlikeLaws.{bands_joined}
use Rattle.stat_kernels.proofs.BandLaws.{all_valid, none_located, rows_at}
use Rattle.stat_kernels.proofs.extremes.min_max.Goals as goal

pub returns : goal.returns
returns c =
    let image = c.args.image.now in
    let whole = c.whole.ensures ∙ ap (λ (d : Description). all_rows d.height) c.desc-2.ensures in
    let height : 0 + image.height ≡ image.height = omega arith in
    let none =
    c.extremes_of-nothing.ensures ∙ ap extremes_of c.nowhere.ensures ∙ sym (none_located image 0) in
    c.add_min_max.ensures
    ∙ ap (λ e. added_extremes 0 e (extremes (valid_in c.whole.result image))) none
    ∙ ap
    (λ (rows : Band). added_extremes 0 (extremes (valid_in (rows_at 0 0) image))
    (extremes (valid_in rows image)))
    whole
    ∙ bands_joined image 0 0 image.height ∙ ap (λ n. extremes (valid_in (rows_at 0 n) image)) height
    ∙ ap extremes (all_valid image c.valid-valid.ensures.image)
