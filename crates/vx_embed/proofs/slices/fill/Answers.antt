use Rattle.std.proofs.Common.{◌-◌, length, arith, take}
use Rattle.vx_embed.proofs.TwoParts.{filled_back}
use Rattle.vx_embed.proofs.slices.fill.Goals as goal

pub returns-clause-copied : goal.returns-clause-copied
returns-clause-copied c =
    let front = c.args.front.now in
    filled_back c.args.at (c.args.at - length front) c.copy_at-2.result front c.args.back.now
    c.copy_at-2.new.to (take c.copy_at-2.result c.args.bytes.now)
    (omega (arith, c.if-at-front.false))
    c.copy_at-2.ensures.copied
