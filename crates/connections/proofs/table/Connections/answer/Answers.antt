use Rattle.std.proofs.Common.{◌∙◌, ap, subst}
use Rattle.vx_requests.specs.Serving.Turn.{Turn}
use Rattle.connections.specs.Connections.{ConnectionsValue, StaysOpen, is_open, states_in}
use Rattle.connections.specs.Numbers.{connections_view}
use Rattle.connections.proofs.table.Connections.answer.Goals as goal

pub answer_frame-requires-clause-numbered : goal.answer_frame-requires-clause-numbered
answer_frame-requires-clause-numbered g c = c.self.invariant

pub invariant_of-self : goal.invariant_of-self
invariant_of-self g c = c.answer_frame.ensures.numbered

pub returns-clause-turn : goal.returns-clause-turn
returns-clause-turn g c =
    subst
    (λ (v : ConnectionsValue). Turn v.limits (g.S.Source.left c.args.source.now)
    (g.S.Source.left c.answer_frame.new.source) (g.K.Sink.taken c.args.sink.now)
    (g.K.Sink.taken c.answer_frame.new.sink)
    (states_in v c.args.connection)
    (states_in (connections_view c.answer_frame.new.runtime c.answer_frame.new.numbers)
    c.args.connection)
    c.answer_frame.result)
    c.self.view_is c.answer_frame.ensures.turn

pub returns-clause-stays_open : goal.returns-clause-stays_open
returns-clause-stays_open g c =
    let was =
    ap (λ (v : ConnectionsValue). is_open v c.args.connection) c.self.view_is
    ∙ c.requires.is_open in
    subst
    (λ (v : ConnectionsValue). StaysOpen c.args.connection v
    (connections_view c.answer_frame.new.runtime c.answer_frame.new.numbers))
    c.self.view_is
    (record
    { opened = c.answer_frame.ensures.still_open ∙ was; others = c.answer_frame.ensures.others })
