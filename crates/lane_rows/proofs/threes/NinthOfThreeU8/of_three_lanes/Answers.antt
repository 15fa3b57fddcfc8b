use Rattle.std.proofs.Common.{◌<◌, arith, ℕ}
use Rattle.std.proofs.lemmas.Simd.{Each1-all, Each2-splat}
use Rattle.lane_rows.proofs.ThreeLaws.{ninths_made}
use Rattle.lane_rows.proofs.threes.NinthOfThreeU8.of_three_lanes.Goals as goal

pub nonzero_div-result : goal.nonzero_div-result
nonzero_div-result c =
    Each2-splat (λ (x y : ℕ). 0 < y) _ 32 9 (Each1-all (λ (x : ℕ). 0 < 9) (λ x. omega arith) _)

pub returns : goal.returns
returns c =
    let made =
    ninths_made c.args.a c.args.b c.args.c c.requires.len.0 c.requires.len.1 c.requires.len.2
    c.requires.limit.0 c.requires.limit.1 c.requires.limit.2 in
    record { value = made.0; most = made.1 }
