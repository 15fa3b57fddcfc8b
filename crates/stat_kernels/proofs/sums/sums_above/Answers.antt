use Rattle.std.proofs.Common.{◌∙◌, ap, sym, get_or, option_copied}
use Rattle.stat_kernels.proofs.Common.{row_sums}
use Rattle.std.proofs.lemmas.List.{take-replicate}
use Rattle.vx_base.specs.declared.desc.TheConstants.{GREATEST_SIDE}
use Rattle.stat_kernels.proofs.TallyLaws.{zero_at}
use Rattle.stat_kernels.proofs.sums.sums_above.Goals as goal

pub returns-in-None-clause-sums : goal.returns-in-None-clause-sums
returns-in-None-clause-sums c x =
    ap (λ l. get_or l x 0) (take-replicate c.args.width GREATEST_SIDE 0 c.requires.room)
    ∙ zero_at c.args.width x
    ∙ ap (λ o. row_sums (option_copied o) x) (sym c.in-None.is)
