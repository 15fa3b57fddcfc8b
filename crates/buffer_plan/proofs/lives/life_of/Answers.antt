use Rattle.buffer_plan.proofs.LiveLemmas.{is_life}
use Rattle.buffer_plan.proofs.lives.life_of.Goals as goal

pub returns-clause-life : goal.returns-clause-life
returns-clause-life c =
    is_life c.args.steps.now
    (record { image = c.args.image; first = c.first_writing.result; last = c.last_use.result })
    c.first_writing.ensures c.last_use.ensures
