use Rattle.std.proofs.Common.{◌≡◌, ◌∙◌, List, sym, subst}
use Rattle.vx_base.specs.declared.node.Node.{Node}
use Rattle.object_table.specs.NamedObject.{NamedObject}
use Rattle.graph_verify.specs.Examples.{not_to}
use Rattle.graph_run.specs.Turns.{CanRunNow}
use Rattle.graph_tests.proofs.RunLemmas.{images, images_held, runs_now}
use Rattle.graph_tests.proofs.runs.run_not.Goals as goal

pub run_once-requires-clause-runs : goal.run_once-requires-clause-runs
run_once-requires-clause-runs c =
    let a = c.args.input in
    let b = c.args.output in
    let is : c.hold-2.new.table.objects ≡ images a b =
    images_held a b _ _ _ c.requires.table c.in_ok-hold.ensures c.in_ok-hold-2.ensures in
    let node : c.node-node.result ≡ not_to 1 2 = c.node-node.ensures.value ∙ c.in_ok-not.ensures in
    subst (λ (n : Node). CanRunNow c.hold-2.new.table.objects n) (sym node)
    (subst (λ (o : List NamedObject). CanRunNow o (not_to 1 2)) (sym is)
    (runs_now a b c.requires.input_desc c.requires.output_desc))
