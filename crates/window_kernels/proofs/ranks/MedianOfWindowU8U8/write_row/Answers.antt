use Rattle.std.proofs.Common.{◌∙◌, ap, arith, length}
use Rattle.window_kernels.proofs.Common.{median, run-same}
use Rattle.window_kernels.proofs.ranks.MedianOfWindowU8U8.write_row.Goals as goal

pub returns : goal.returns
returns c =
    c.median9.ensures
    ∙ run-same _ _ 0 (length c.args.out.now)
    (λ k _ below. ap median
    (c.around.ensures.value k (omega (arith, below, c.around.ensures.len, c.requires.above))))
