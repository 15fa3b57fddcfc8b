use Rattle.std.proofs.Common.{◌<◌, length, take, refl, ◌∙◌, arith}
use Rattle.object_table.proofs.Common.{flat_map, nodes_at, used_names}
use Rattle.object_table.proofs.UseLemmas.{node_more}
use Rattle.object_table.proofs.KeptLemmas.{left_of, left-nil, left-append, held-left, kind_kept, nodes_kept, count_kept}
use Rattle.object_table.proofs.table.graphs.end_all_uses.Goals as goal

pub loop-k-init : goal.loop-k-init
loop-k-init c = record {
  left_over = left-nil c.args.entries.now.entries c.requires.held;
  charge = c.requires.charge;
  balances = λ format. refl;
}

pub nodes_under-requires : goal.nodes_under-requires
nodes_under-requires c =
    let old = c.args.entries.now.entries in
    kind_kept c.args.graph (flat_map used_names (take c.loop-k.k (nodes_at c.args.graph old)))
    old c.loop-k.entries.entries c.loop-k.invariant.left_over c.requires.live
    ∙ c.requires.graph

pub bounds-nodes_under-k : goal.bounds-nodes_under-k
bounds-nodes_under-k c =
    let old = c.args.entries.now.entries in
    let same =
    count_kept c.args.graph (flat_map used_names (take c.loop-k.k (nodes_at c.args.graph old)))
    old c.loop-k.entries.entries c.loop-k.invariant.left_over c.requires.live
    c.nodes_under-count.result.now c.nodes_under.result.now c.nodes_under-count.ensures
    c.nodes_under.ensures in
    omega (arith, same, c.loop-k-test.true)

pub bounds-nodes_under-k-in-loop-k : goal.bounds-nodes_under-k-in-loop-k
bounds-nodes_under-k-in-loop-k c = bounds-nodes_under-k c

pub end_uses-left-requires-clause-held : goal.end_uses-left-requires-clause-held
end_uses-left-requires-clause-held c =
    let old = c.args.entries.now.entries in
    held-left (flat_map used_names (take c.loop-k.k (nodes_at c.args.graph old))) old
    c.loop-k.entries.entries c.loop-k.invariant.left_over

pub loop-k-preserved : goal.loop-k-preserved
loop-k-preserved c =
    let old = c.args.entries.now.entries in
    let nodes = nodes_at c.args.graph old in
    let names = flat_map used_names (take c.loop-k.k nodes) in
    let now = c.loop-k.entries.entries in
    let found = c.nodes_under.result.now in
    let same =
    count_kept c.args.graph names old now c.loop-k.invariant.left_over c.requires.live
    c.nodes_under-count.result.now found c.nodes_under-count.ensures c.nodes_under.ensures in
    let there : c.loop-k.k < length found = omega (arith, same, c.loop-k-test.true) in
    record {
      left_over =
          node_more left_of left-append nodes found c.loop-k.k c.index-nodes_under-k.result
          c.node.result old now c.end_uses-left.new.entries.entries c.loop-k.invariant.left_over
          (c.nodes_under.ensures
          ∙ nodes_kept c.args.graph names old now c.loop-k.invariant.left_over c.requires.live)
          there c.node.ensures.value c.end_uses-left.ensures.entries;
      charge = c.end_uses-left.ensures.charge;
      balances =
          λ format. omega
          (arith, c.loop-k.invariant.balances format, c.end_uses-left.ensures.balances format);
    }
