use Rattle.std.proofs.Common.{◌≡◌, ◌+◌, ◌∙◌, List, ℕ, ap, sym, arith, get_or, length, replicate}
use Rattle.stat_kernels.proofs.Common.{Band, Description, all_rows, bin_sums, histogram, valid_in}
use Rattle.stat_kernels.proofs.BandLaws.{all_valid, bands_counted, few_samples, none_counted, rows_at}
use Rattle.stat_kernels.proofs.TallyLaws.{zero_at}
use Rattle.stat_kernels.proofs.counts.histogram.Goals as goal

pub add_histogram-requires-clause-room : goal.add_histogram-requires-clause-room
add_histogram-requires-clause-room c k =
    let zeros : c.fill.new.self ≡ replicate (length c.args.counts.now) 0 =
    c.fill.ensures.after (λ y same. same) in
    omega (
      arith,
      ap (λ l. get_or l k 0) zeros,
      zero_at (length c.args.counts.now) k,
      few_samples c.args.image.now c.valid-valid.ensures.image c.whole.result,
    )

pub returns : goal.returns
returns c =
    let image = c.args.image.now in
    let b = c.args.bins in
    let zeros =
    c.fill.ensures.after (λ y same. same)
    ∙ ap (λ n. replicate n 0) c.requires.size
    ∙ sym (none_counted b image 0) in
    let whole = c.whole.ensures ∙ ap (λ (d : Description). all_rows d.height) c.desc.ensures in
    let height : 0 + image.height ≡ image.height = omega arith in
    c.add_histogram.ensures
    ∙ ap (λ (counts : List ℕ). bin_sums counts (histogram b (valid_in c.whole.result image))) zeros
    ∙ ap
    (λ (rows : Band). bin_sums (histogram b (valid_in (rows_at 0 0) image))
    (histogram b (valid_in rows image)))
    whole
    ∙ sym (bands_counted b image 0 0 image.height)
    ∙ ap (λ n. histogram b (valid_in (rows_at 0 n) image)) height
    ∙ ap (histogram b) (all_valid image c.valid-valid.ensures.image)
