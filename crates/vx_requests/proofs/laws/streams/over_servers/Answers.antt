use Rattle.vx_requests.proofs.Common.{answer}
use Rattle.vx_requests.proofs.Alone.{over_servers}
use Rattle.vx_requests.proofs.laws.streams.over_servers.Goals as goal

pub returns : goal.returns
returns c = λ limits. over_servers (answer limits)
