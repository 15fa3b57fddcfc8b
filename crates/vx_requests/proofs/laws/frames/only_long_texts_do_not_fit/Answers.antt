use Rattle.vx_requests.proofs.RequestSizes.{fits, no_other}
use Rattle.vx_requests.proofs.laws.frames.only_long_texts_do_not_fit.Goals as goal

pub returns-clause-fits : goal.returns-clause-fits
returns-clause-fits c = fits

pub returns-clause-no_other : goal.returns-clause-no_other
returns-clause-no_other c = no_other
