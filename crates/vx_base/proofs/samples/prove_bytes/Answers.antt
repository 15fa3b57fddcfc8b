use Rattle.std.proofs.Common.{arith, pos}
use Rattle.vx_base.proofs.Common.{ints, All-map, All-from_get_or, U8, IsSample}
use Rattle.vx_base.proofs.samples.prove_bytes.Goals as goal

pub returns-clause-samples : goal.returns-clause-samples
returns-clause-samples c =
    All-map (IsSample U8) pos c.args.samples.now
    (All-from_get_or (λ n. IsSample U8 (pos n)) c.args.samples.now 0
    (λ k below. let fits = c.type_inv.samples k in record
    { at_least = omega (arith, ints); at_most = omega (arith, ints, fits) }))
