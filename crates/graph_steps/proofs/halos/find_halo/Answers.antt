use Rattle.std.proofs.Common.{arith}
use Rattle.graph_steps.proofs.Common.{length-set}
use Rattle.graph_steps.proofs.halos.find_halo.Goals as goal

pub raise_inputs-requires : goal.raise_inputs-requires
raise_inputs-requires c = λ k reads.
    let b = c.requires.reads k reads in
    let e = length-set c.args.needs.now c.args.step.output 0 in
    omega arith
