use Rattle.std.proofs.Common.{[], ◌∷◌}
use Rattle.client_laws.proofs.StayLaws.{skeletons_stay, after_one, ready_stays}
use Rattle.client_laws.proofs.states.what_is_held_stays.Goals as goal

pub returns-clause-after_one : goal.returns-clause-after_one
returns-clause-after_one c = λ limits before later request name h is e known.
    skeletons_stay limits before later (request ∷ []) name
    (after_one limits before later request h is e) known

pub returns-clause-ready : goal.returns-clause-ready
returns-clause-ready c = ready_stays
