use Rattle.std.proofs.Common.{rules, arith}
use Rattle.std.proofs.lemmas.List.{take_all}
use Rattle.graph_run.proofs.Common.{In-at}
use Rattle.graph_run.proofs.sizes.high_of.Goals as goal

pub loop-cell-init : goal.loop-cell-init
loop-cell-init c =
    let virtuals = c.highest_virtual-high.ensures in
    record {
      some = virtuals.some;
      virtuals = virtuals.virtuals;
      least = λ high some images _. virtuals.least high some images;
      clients = λ k d below. grind arith;
    }

pub image-requires : goal.image-requires
image-requires c = search (rules, In-at)

pub returns-clause-clients : goal.returns-clause-clients
returns-clause-clients c = grind (arith, take_all)
