use Rattle.vx_wire.proofs.OneSpelling.{one_spelling}
use Rattle.vx_wire.proofs.laws.bodies.one_spelling.Goals as goal

pub returns-clause-op : goal.returns-clause-op
returns-clause-op c = λ op body request is e. (one_spelling op body request is e).0

pub returns-clause-body : goal.returns-clause-body
returns-clause-body c = λ op body request is e. (one_spelling op body request is e).1

pub returns-clause-limits : goal.returns-clause-limits
returns-clause-limits c = λ op body request is e. (one_spelling op body request is e).2
