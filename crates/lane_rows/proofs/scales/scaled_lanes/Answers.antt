use Rattle.std.proofs.Common.{ap, of_z, w32, sym, subst, FitsSigned}
use Rattle.lane_rows.proofs.Common.{Each1}
use Rattle.lane_rows.proofs.ScaleLaws.{scaled_are}
use Rattle.lane_rows.proofs.NarrowLaws.{quotients_fit}
use Rattle.lane_rows.proofs.scales.scaled_lanes.Goals as goal

pub returns : goal.returns
returns c =
    let value =
    scaled_are c.args.exponent (of_z w32 c.from.result) c.args.numbers
    (ap (of_z w32) c.from.ensures) c.requires.exponent c.requires.len c.requires.fits in
    record {
      value = value;
      result_fits =
          subst (Each1 (FitsSigned w32)) (sym value)
          (quotients_fit c.args.exponent c.args.numbers c.requires.fits);
    }
