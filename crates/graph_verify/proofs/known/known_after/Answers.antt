use Rattle.std.proofs.Common.{map, arith}
use Rattle.graph_verify.proofs.Common.{ResolvedOutput}
use Rattle.graph_verify.proofs.KnownLemmas.{learn_next, all_known}
use Rattle.graph_verify.proofs.SublistLemmas.{resolved_more, all_resolved}
use Rattle.graph_verify.proofs.known.known_after.Goals as goal

pub loop-linked-preserved : goal.loop-linked-preserved
loop-linked-preserved c = record {
  resolved = (λ is operands.
      learn_next is c.args.steps.now c.loop-linked.linked-index c.linked-item.result
      c.loop-linked.known.items c.learn.new.known.items (omega arith) c.linked-item.is
      c.requires.one_writer c.requires.in_turn c.requires.images operands
      (c.loop-linked.invariant.resolved is operands) c.in_ok-learn.ensures.resolved);
  cells =
      resolved_more c.args.steps.now c.loop-linked.linked-index c.linked-item.result
      c.loop-linked.known.items c.learn.new.known.items (omega arith) c.linked-item.is
      c.in_ok-learn.ensures.resolved c.loop-linked.invariant.cells;
  limit = omega (arith, c.loop-linked.invariant.limit, c.in_ok-learn.ensures.limit);
}

pub returns-clause-known : goal.returns-clause-known
returns-clause-known c is operands =
    all_known is c.args.steps.now c.loop-linked.linked-index c.loop-linked.known.items
    (omega arith) (c.loop-linked.invariant.resolved is operands)

pub returns-clause-cells : goal.returns-clause-cells
returns-clause-cells c =
    all_resolved c.args.steps.now c.loop-linked.linked-index
    (map (λ (k : ResolvedOutput). k.cell) c.loop-linked.known.items) (omega arith)
    c.loop-linked.invariant.cells
