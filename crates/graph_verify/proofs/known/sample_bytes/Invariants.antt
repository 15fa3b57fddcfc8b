use Rattle.std.proofs.Common.{◌≡◌, ◌*◌, ◌≤◌, take, sum_by}
use Rattle.graph_verify.proofs.Common.{byte_count}
use Rattle.graph_verify.proofs.known.sample_bytes.Given as goal
use Rattle.vx_base.specs.declared.desc.TheConstants.{GREATEST_BYTES}

abbrev pub invariant-loop-output : goal.invariant-loop-output
invariant-loop-output l = record {
  sum : l.bytes ≡ sum_by (λ o. byte_count o.desc) (take l.output-index l.outputs);
  limit : l.bytes ≤ l.output-index * GREATEST_BYTES;
}
