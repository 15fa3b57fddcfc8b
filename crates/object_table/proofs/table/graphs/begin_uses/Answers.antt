use Rattle.std.proofs.Common.{◌+◌, ◌*◌, Some, arith}
use Rattle.object_table.proofs.UseLemmas.{more, more_is, used, used-append, node_uses, uses_after}
use Rattle.object_table.proofs.table.graphs.begin_uses.Goals as goal

pub begin_use-requires-2 : goal.begin_use-requires-2
begin_use-requires-2 c k d below =
    omega (
      arith,
      uses_after (1024 * 1024) (Some c.args.node.now.in1) _ _ c.requires c.begin_use.ensures k d
          below,
    )

pub begin_use-requires-3 : goal.begin_use-requires-3
begin_use-requires-3 c k d below =
    let first =
    uses_after (1024 * 1024) (Some c.args.node.now.in1) _ _ c.requires c.begin_use.ensures in
    omega (
      arith,
      uses_after (1024 * 1024 + 1) c.args.node.now.in2 _ _ first c.begin_use-2.ensures k d below,
    )

pub begin_use-requires-4 : goal.begin_use-requires-4
begin_use-requires-4 c k d below =
    let first =
    uses_after (1024 * 1024) (Some c.args.node.now.in1) _ _ c.requires c.begin_use.ensures in
    let second = uses_after (1024 * 1024 + 1) c.args.node.now.in2 _ _ first c.begin_use-2.ensures in
    omega (
      arith,
      uses_after (1024 * 1024 + 1 + 1) c.args.node.now.out1 _ _ second c.begin_use-3.ensures k d
          below,
    )

pub returns : goal.returns
returns c =
    node_uses (used more) (used-append more more_is) c.args.node.now c.args.entries.now.entries
    c.begin_use.new.entries.entries c.begin_use-2.new.entries.entries
    c.begin_use-3.new.entries.entries c.begin_use-4.new.entries.entries
    c.begin_use.ensures c.begin_use-2.ensures c.begin_use-3.ensures c.begin_use-4.ensures
