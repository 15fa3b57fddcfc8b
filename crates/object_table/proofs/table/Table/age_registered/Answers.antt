use Rattle.std.proofs.Common.{map-id, ◌≡◌, ◌<◌, length, take, sym, ap, ◌∙◌, arith}
use Rattle.object_table.proofs.Common.{GraphValue, Context, with_objects, graph_under}
use Rattle.object_table.proofs.AgeLemmas.{aged_more, kind_aged, graph_aged}
use Rattle.object_table.proofs.table.Table.age_registered.Goals as goal
use Rattle.object_table.proofs.table.Table.age_registered.Goals.{After-delays}

-- the delays are those that were registered first
same : (c : After-delays)
    → c.delays.result.now ≡ (graph_under c.args.self.now.objects c.args.graph).delays
same c =
    let old = c.args.self.now in
    let now :
    graph_under c.loop-k.self.objects c.args.graph ≡ graph_under old.objects c.args.graph =
    ap (λ (t : Context). graph_under t.objects c.args.graph) c.loop-k.invariant
    ∙ graph_aged (take c.loop-k.k (graph_under old.objects c.args.graph).delays) old.objects
    c.args.graph in
    c.delays.ensures.delays ∙ ap (λ (g : GraphValue). g.delays) (c.graph-in-loop-k.ensures ∙ now)

there : (c : After-delays)
    → c.loop-k.k < length (graph_under c.args.self.now.objects c.args.graph).delays
there c =
    let first = c.delays-count.ensures.delays ∙ ap (λ (g : GraphValue). g.delays) c.graph.ensures in
    omega (arith, ap length first, c.loop-k-test.true)

pub loop-k-init : goal.loop-k-init
loop-k-init c = ap (with_objects c.args.self.now) (sym (map-id c.args.self.now.objects))

pub graph-requires-in-loop-k : goal.graph-requires-in-loop-k
graph-requires-in-loop-k c =
    rw c.loop-k.invariant (kind_aged _ c.args.self.now.objects _ c.args.graph c.requires)

pub bounds-delays-k : goal.bounds-delays-k
bounds-delays-k c =
    let at = (goal.at.bounds-delays-k c).After-delays in
    omega (arith, ap length (same at), there at)

pub loop-k-preserved : goal.loop-k-preserved
loop-k-preserved c =
    let at = (goal.at.loop-k-preserved c).After-delays in
    let old = c.args.self.now in
    let names = (graph_under old.objects c.args.graph).delays in
    rw (c.age_if_held.ensures, c.loop-k.invariant, same at)
    (ap (with_objects old)
    (aged_more names c.loop-k.k 0 old.objects (rw (same at) at c.delays.ensures.distinct)
    (there at)))
