use Rattle.std.proofs.Common.{◌≡◌, ◌∙◌, false, sym, ap, subst}
use Rattle.std.proofs.lemmas.Result.{err_from_is_err_and}
use Rattle.connections.specs.Connections.{ConnectionsValue, Connects, is_open}
use Rattle.connections.specs.Numbers.{has_connection, connections_view}
use Rattle.connections.proofs.NumberingLemmas.{is_open-connections_view, number_in-entries, same_numbers}
use Rattle.connections.proofs.TableLemmas.{opens, connections_view-same}
use Rattle.connections.proofs.table.Connections.connect.Goals as goal

pub open-requires : goal.open-requires
open-requires c =
    let s = c.self.inside in
    sym (is_open-connections_view s.runtime s.numbers c.in-Some.connection)
    ∙ ap (λ (v : ConnectionsValue). is_open v c.in-Some.connection) c.self.view_is
    ∙ c.in-Some.ensures

pub invariant_of-self : goal.invariant_of-self
invariant_of-self c =
    let s = c.self.inside in
    same_numbers s.numbers c.open.new.self s.runtime
    (number_in-entries s.numbers c.open.new.self c.in_err-open.ensures.err)
    c.in_err-open.ensures.spare c.self.invariant

pub returns-in_err-open-clause-err : goal.returns-in_err-open-clause-err
returns-in_err-open-clause-err c =
    let s = c.self.inside in
    let p = err_from_is_err_and c.from_residual.result c.from_residual.ensures.1 in
    rw p.1
    (connections_view-same s.runtime s.numbers c.open.new.self c.in_err-open.ensures.err
    ∙ c.self.view_is)

pub invariant_of-self-2 : goal.invariant_of-self-2
invariant_of-self-2 c =
    let s = c.self.inside in
    let sets = c.in_ok-open.ensures.ok in
    same_numbers s.numbers c.open.new.self s.runtime sets.numbers sets.spare c.self.invariant

pub returns-clause-opened : goal.returns-clause-opened
returns-clause-opened c =
    let s = c.self.inside in
    let free : has_connection s.numbers c.in-Some.connection ≡ false =
    sym (is_open-connections_view s.runtime s.numbers c.in-Some.connection)
    ∙ ap (λ (v : ConnectionsValue). is_open v c.in-Some.connection) c.self.view_is
    ∙ c.in-Some.ensures in
    subst
    (λ (v : ConnectionsValue). Connects c.in-Some.connection v
    (connections_view s.runtime c.open.new.self))
    c.self.view_is
    (opens c.in-Some.connection s.numbers c.open.new.self s.runtime free c.in_ok-open.ensures.ok)
