use Rattle.vx_requests.proofs.EverySplit.{every_split}
use Rattle.vx_requests.proofs.laws.streams.splits.Goals as goal

pub returns : goal.returns
returns c = every_split
