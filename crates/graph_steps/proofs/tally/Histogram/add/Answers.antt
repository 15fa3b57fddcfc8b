use Rattle.std.proofs.Common.{◌≡◌, ◌≤◌, ◌∙◌, ap, length, length-take-le, take, take_at, arith}
use Rattle.graph_steps.proofs.Common.{DistributionValue, bin_sums, histogram, valid_in, with_rows_counted}
use Rattle.graph_steps.proofs.tally.Histogram.add.Goals as goal

pub returns : goal.returns
returns c =
    let i = c.self.inside in
    let more = histogram i.bins (valid_in c.args.rows c.args.image.now) in
    let n : c.from.result ≡ i.bins.bins = c.from.ensures ∙ c.bins.ensures.value in
    let most = c.bins.ensures.limits.1 in
    let told = c.self.told in
    let from = c.from.ensures in
    let short : c.from.result ≤ length i.counts = omega arith in
    let long : length c.add_histogram.new.counts ≡ i.bins.bins =
    c.add_histogram.auto.counts ∙ length-take-le c.from.result i.counts short ∙ n in
    ap (λ l. let d : DistributionValue = record { bins = i.bins; counts = l } in d)
    (take_at c.add_histogram.new.counts _ i.bins.bins long
    ∙ c.add_histogram.ensures
    ∙ ap (λ k. bin_sums (take k i.counts) more) n)
    ∙ ap (with_rows_counted c.args.rows c.args.image.now) c.self.view_is
