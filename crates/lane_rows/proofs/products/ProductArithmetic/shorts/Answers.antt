use Rattle.std.proofs.Common.{w16, w32}
use Rattle.lane_rows.proofs.ShortLaws.{of_bits}
use Rattle.lane_rows.proofs.NarrowLaws.{products_narrowed}
use Rattle.lane_rows.proofs.products.ProductArithmetic.shorts.Goals as goal

pub returns-clause-value : goal.returns-clause-value
returns-clause-value g c =
    let law =
    products_narrowed (g.P.Overflow.policy c.args.self.now.overflow) c.args.self.now.amount
    c.args.a c.args.b c.requires.a_len c.requires.b_len in
    cc (
      of_bits w16 c.args.a c.requires.a_fits,
      of_bits w16 c.args.b c.requires.b_fits,
      of_bits w32 c.products.result c.products.ensures.fits,
      of_bits w32 c.scaled_lanes-quotients.result c.scaled_lanes-quotients.ensures.result_fits,
      of_bits w16 c.narrowed.result c.narrowed.ensures.result_fits,
      of_bits w16 c.quarters_exchanged.result c.quarters_exchanged.ensures.result_fits,
      law,
    )
