use Rattle.std.proofs.Common.{◌∙◌, ap, arith, Some, None}
use Rattle.graph_verify.proofs.Common.{filter_map, described_output, linked_nodes}
use Rattle.graph_verify.proofs.VerdictLemmas.{too_large, small_enough}
use Rattle.graph_verify.proofs.VerifyLemmas.{nodes_order, steps_one_writer, steps_images, unwritten_input_found, verdict_found, bytes_found, verified_found, few_outputs}
use Rattle.graph_verify.proofs.VerifiedLemmas.{verified_graph, numbered}
use Rattle.graph_verify.proofs.verified.verify_ordered.Goals as goal

pub returns-then-has_unwritten_input-clause-refused :
    goal.returns-then-has_unwritten_input-clause-refused
returns-then-has_unwritten_input-clause-refused c is operands =
    unwritten_input_found c.args.nodes.now c.args.steps.now c.requires.one_writer
    c.requires.order c.args.work is (c.if-has_unwritten_input.ensures is operands)

pub known_after-requires-clause-one_writer : goal.known_after-requires-clause-one_writer
known_after-requires-clause-one_writer c =
    steps_one_writer c.args.nodes.now c.args.steps.now c.requires.one_writer c.requires.order

pub known_after-requires-clause-in_turn : goal.known_after-requires-clause-in_turn
known_after-requires-clause-in_turn c =
    (nodes_order c.args.nodes.now c.args.steps.now c.requires.one_writer c.requires.order).in_turn

pub known_after-requires-clause-images : goal.known_after-requires-clause-images
known_after-requires-clause-images c =
    steps_images c.args.nodes.now c.args.steps.now c.requires.one_writer c.requires.order
    c.requires.images

pub returns-in-Some-clause-refused : goal.returns-in-Some-clause-refused
returns-in-Some-clause-refused c is operands =
    verdict_found c.args.nodes.now c.args.steps.now c.requires.one_writer c.requires.order
    c.args.work is c.in_ok-known.known.items c.deref.result.now (Some c.in-Some.fault) operands
    c.in_ok-known.ensures.known c.deref.ensures.value c.in-Some.ensures
    (c.if-has_unwritten_input.ensures is operands)

pub sample_bytes-requires : goal.sample_bytes-requires
sample_bytes-requires c =
    let outputs =
    c.deref-3.ensures.value
    ∙ c.in_ok-virtual_outputs.ensures
    ∙ ap (filter_map described_output) c.deref-2.ensures.value in
    few_outputs c.args.nodes.now c.args.steps.now c.in_ok-known.known.items c.deref-3.result.now
    c.requires.count c.requires.order c.in_ok-known.ensures.limit outputs

pub returns-then-sample_bytes-work-clause-refused :
    goal.returns-then-sample_bytes-work-clause-refused
returns-then-sample_bytes-work-clause-refused c is operands =
    let outputs =
    c.deref-3.ensures.value
    ∙ c.in_ok-virtual_outputs.ensures
    ∙ ap (filter_map described_output) c.deref-2.ensures.value in
    let bytes =
    c.sample_bytes.ensures
    ∙ bytes_found c.args.nodes.now c.args.steps.now c.requires.one_writer c.requires.order is
    c.in_ok-known.known.items c.deref-3.result.now operands c.in_ok-known.ensures.known outputs
    in
    verdict_found c.args.nodes.now c.args.steps.now c.requires.one_writer c.requires.order
    c.args.work is c.in_ok-known.known.items c.deref.result.now None operands
    c.in_ok-known.ensures.known c.deref.ensures.value c.in_default.ensures
    (c.if-has_unwritten_input.ensures is operands)
    ∙ too_large c.args.work is (linked_nodes c.args.nodes.now)
    (omega (arith, bytes, c.if-sample_bytes-work.true))

pub returns-clause-verified : goal.returns-clause-verified
returns-clause-verified c is operands =
    verified_found c.args.nodes.now c.args.steps.now c.requires.one_writer c.requires.order is
    c.in_ok-known.known.items c.deref.result.now _ operands
    c.in_ok-known.ensures.known c.deref.ensures.value c.in_default.ensures c.requires.images
    c.in_ok-steps.ensures
    (c.in_ok-virtual_outputs.ensures ∙ ap (filter_map described_output) c.deref-2.ensures.value)

pub returns-clause-ok : goal.returns-clause-ok
returns-clause-ok c is operands =
    let outputs =
    c.deref-3.ensures.value
    ∙ c.in_ok-virtual_outputs.ensures
    ∙ ap (filter_map described_output) c.deref-2.ensures.value in
    let bytes =
    c.sample_bytes.ensures
    ∙ bytes_found c.args.nodes.now c.args.steps.now c.requires.one_writer c.requires.order is
    c.in_ok-known.known.items c.deref-3.result.now operands c.in_ok-known.ensures.known outputs
    in
    verdict_found c.args.nodes.now c.args.steps.now c.requires.one_writer c.requires.order
    c.args.work is c.in_ok-known.known.items c.deref.result.now None operands
    c.in_ok-known.ensures.known c.deref.ensures.value c.in_default.ensures
    (c.if-has_unwritten_input.ensures is operands)
    ∙ small_enough c.args.work is (linked_nodes c.args.nodes.now)
    (omega (arith, bytes, c.if-sample_bytes-work.false))

pub invariant_of-result : goal.invariant_of-result
invariant_of-result c =
    verified_graph c.args.nodes.now c.args.steps.now c.requires.order c.requires.one_writer _
    c.in_ok-steps.ensures c.in_ok-order.ensures c.in_ok-known.known.items
    c.in_ok-known.ensures.cells
    (c.in_ok-virtual_outputs.ensures ∙ ap (filter_map described_output) c.deref-2.ensures.value)

pub returns-clause-numbers : goal.returns-clause-numbers
returns-clause-numbers c =
    numbered c.args.nodes.now c.args.steps.now c.requires.order _ _ c.in_ok-steps.ensures
    c.in_ok-order.ensures
