use Rattle.std.proofs.Common.{◌∙◌, sym, ap}
use Rattle.connections.specs.Connections.{ConnectionsValue, is_open}
use Rattle.connections.proofs.NumberingLemmas.{is_open-connections_view}
use Rattle.connections.proofs.table.Connections.is_open.Goals as goal

pub returns : goal.returns
returns c =
    let s = c.self.inside in
    c.has.ensures
    ∙ sym (is_open-connections_view s.runtime s.numbers c.args.connection)
    ∙ ap (λ (v : ConnectionsValue). is_open v c.args.connection) c.self.view_is
