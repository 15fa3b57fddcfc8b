use Rattle.std.proofs.Common.{sym, subst, w16, FitsSigned}
use Rattle.lane_rows.proofs.Common.{Each1}
use Rattle.lane_rows.proofs.QuarterLaws.{Each1-exchanged}
use Rattle.lane_rows.proofs.ShortLaws.{exchanged_are}
use Rattle.lane_rows.proofs.shorts.quarters_exchanged.Goals as goal

pub returns : goal.returns
returns c =
    let value = exchanged_are c.args.numbers c.requires.len c.requires.fits in
    record {
      value = value;
      result_fits =
          subst (Each1 (FitsSigned w16)) (sym value)
          (Each1-exchanged (FitsSigned w16) c.args.numbers c.requires.fits);
    }
