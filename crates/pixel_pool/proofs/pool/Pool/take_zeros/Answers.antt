use Rattle.std.proofs.Common.{arith}
use Rattle.std.proofs.lemmas.List.{length-replicate}
use Rattle.pixel_pool.proofs.pool.Pool.take_zeros.Goals as goal

pub put-requires-clause-size : goal.put-requires-clause-size
put-requires-clause-size c = grind (arith, length-replicate)
