use Rattle.vx_requests.proofs.OneSplit.{one_split}
use Rattle.vx_requests.proofs.laws.streams.one_split.Goals as goal

pub returns : goal.returns
returns c = one_split
