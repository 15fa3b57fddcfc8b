use Rattle.std.proofs.Common.{arith}
use Rattle.vx_requests.proofs.Common.{be_bytes_2}
use Rattle.vx_requests.proofs.frame.reader.number_of_two.Goals as goal

pub returns : goal.returns
returns c =
    be_bytes_2 c.args.bytes.now c.from_be_bytes.result c.requires
    (λ i. omega (arith, c.type_inv.bytes i)) c.from_be_bytes.ensures
