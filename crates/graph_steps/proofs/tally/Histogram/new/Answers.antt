use Rattle.std.proofs.Common.{◌≤◌, ap, arith}
use Rattle.graph_steps.proofs.Common.{DistributionValue, take-replicate}
use Rattle.graph_steps.proofs.tally.Histogram.new.Goals as goal

pub returns : goal.returns
returns c =
    let value = c.bins-limits.ensures.value in
    let most = c.bins-limits.ensures.limits.1 in
    let short : c.args.bins.bins ≤ 256 = omega arith in
    ap (λ l. let d : DistributionValue = record { bins = c.args.bins; counts = l } in d)
    (take-replicate c.args.bins.bins 256 0 short)
