use Rattle.std.proofs.Common.{◌∙◌, ap, map, pos}
use Rattle.vx_base.proofs.ZeroLaws.{map-replicate}
use Rattle.vx_base.proofs.samples.Samples.zeros.Goals as goal

pub returns-in_ok-vec-in-U8-clause-zero : goal.returns-in_ok-vec-in-U8-clause-zero
returns-in_ok-vec-in-U8-clause-zero c =
    ap (map pos) (c.in_ok-vec-in-U8.ensures.items_if_clones_equal (λ y same. same))
    ∙ map-replicate pos c.args.count 0

pub returns-in_ok-vec-in-U32-clause-zero : goal.returns-in_ok-vec-in-U32-clause-zero
returns-in_ok-vec-in-U32-clause-zero c =
    ap (map pos) (c.in_ok-vec-in-U32.ensures.items_if_clones_equal (λ y same. same))
    ∙ map-replicate pos c.args.count 0
