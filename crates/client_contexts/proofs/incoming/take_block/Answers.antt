use Rattle.std.proofs.Common.{◌+◌, ap, ◌∙◌, arith}
use Rattle.std.proofs.lemmas.Result.{on_ok_weaker}
use Rattle.pixel_pool.specs.Pool.{lent_of, one_of}
use Rattle.client_contexts.proofs.incoming.take_block.Goals as goal

pub returns-in-Err-clause-lends : goal.returns-in-Err-clause-lends
returns-in-Err-clause-lends c =
    on_ok_weaker c.take-in-Err.result (λ block format.
    (rw c.format-format.ensures at block.lends format)
    ∙ ap (λ n. n + one_of c.args.desc.format format)
    (c.drop_free.ensures.lent format ∙ ap (λ p. lent_of p format) c.in-Err.ensures.err))
    c.take-in-Err.ensures.lends

pub returns-in-Err-clause-err : goal.returns-in-Err-clause-err
returns-in-Err-clause-err c =
    grind (arith, c.take-in-Err.ensures.err, c.drop_free.ensures.lent, c.in-Err.ensures.err)
