use Rattle.std.proofs.Common.{sym, subst, w32, FitsSigned, ◌*ℤ◌}
use Rattle.lane_rows.proofs.Common.{zip2, Each1}
use Rattle.lane_rows.proofs.QuarterLaws.{Each1-exchanged}
use Rattle.lane_rows.proofs.ShortLaws.{halves_fit, products_are, products_fit}
use Rattle.lane_rows.proofs.shorts.products.Goals as goal

pub overflow_cast-high-3 : goal.overflow_cast-high-3
overflow_cast-high-3 c =
    halves_fit c.args.a c.args.b c.requires.a_len c.requires.b_len c.requires.a_fits
    c.requires.b_fits

pub returns : goal.returns
returns c =
    let value =
    products_are c.args.a c.args.b c.requires.a_len c.requires.b_len c.requires.a_fits
    c.requires.b_fits in
    record {
      value = value;
      fits =
          subst (Each1 (FitsSigned w32)) (sym value)
          (Each1-exchanged (FitsSigned w32) (zip2 ◌*ℤ◌ c.args.a c.args.b)
          (products_fit c.args.a c.args.b c.requires.a_fits c.requires.b_fits));
    }
