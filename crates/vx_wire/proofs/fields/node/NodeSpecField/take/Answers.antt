use Rattle.vx_wire.proofs.Common.{Node}
use Rattle.vx_wire.proofs.NodeShape.{is_node-from_parameters}
use Rattle.vx_wire.proofs.fields.node.NodeSpecField.take.Goals as goal

pub of-requires : goal.of-requires
of-requires c =
    let n : Node = record {
      function = c.in_ok-function.function;
      border = c.in_ok-border.border;
      policy = c.in_ok-policy.policy;
      amount = c.in_ok-amount.amount;
      in1 = c.in_ok-in1.in1;
      in2 = c.in_ok-in2.in2;
      out1 = c.in_ok-in2.out1;
      out2 = c.in_ok-in2.out2;
    } in
    is_node-from_parameters n c.parameters-parameters.result c.parameters-parameters.ensures
    c.in_ok-policy.ensures.has c.in_ok-amount.ensures.has
    c.in_ok-in1.ensures.has c.in_ok-in2.ensures.in2 c.in_ok-in2.ensures.out1
    c.in_ok-in2.ensures.out2
