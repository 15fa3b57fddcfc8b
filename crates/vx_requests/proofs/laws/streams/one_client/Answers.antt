use Rattle.vx_requests.proofs.Common.{answer}
use Rattle.vx_requests.proofs.Alone.{one_client}
use Rattle.vx_requests.proofs.laws.streams.one_client.Goals as goal

pub returns : goal.returns
returns c = λ limits. one_client (answer limits)
