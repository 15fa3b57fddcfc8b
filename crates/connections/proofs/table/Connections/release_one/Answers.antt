use Rattle.std.proofs.Common.{◌<◌, length, subst}
use Rattle.connections.specs.Connections.{ConnectionsValue, LeavesOthers, clients_of}
use Rattle.connections.specs.Numbers.{connections_view}
use Rattle.connections.proofs.NumberingLemmas.{same_numbers}
use Rattle.connections.proofs.TableLemmas.{fewer_clients, none_left, numbered_release, others_release, unchanged_others}
use Rattle.connections.proofs.table.Connections.release_one.Goals as goal

pub invariant_of-self : goal.invariant_of-self
invariant_of-self c =
    let s = c.self.inside in
    let popped = c.in-Some.ensures.popped in
    numbered_release c.args.connection c.in-Some._client c.in-Some.number s.numbers
    c.pop.new.self s.runtime c.release.new.runtime c.self.invariant popped.0 popped.1
    c.pop.ensures.spare c.release.ensures

pub invariant_of-self-in-None : goal.invariant_of-self-in-None
invariant_of-self-in-None c =
    let s = c.self.inside in
    same_numbers s.numbers c.pop.new.self s.runtime c.in-None.ensures.same c.pop.ensures.spare
    c.self.invariant

pub returns-in-Some-clause-others : goal.returns-in-Some-clause-others
returns-in-Some-clause-others c =
    let s = c.self.inside in
    let popped = c.in-Some.ensures.popped in
    subst
    (λ (v : ConnectionsValue). LeavesOthers c.args.connection v
    (connections_view c.release.new.runtime c.pop.new.self))
    c.self.view_is
    (others_release c.args.connection c.in-Some._client c.in-Some.number s.numbers
    c.pop.new.self s.runtime c.release.new.runtime c.self.invariant popped.0 popped.1
    c.pop.ensures.spare c.release.ensures)

pub returns-in-Some-clause-fewer : goal.returns-in-Some-clause-fewer
returns-in-Some-clause-fewer c =
    let s = c.self.inside in
    λ some. subst
    (λ (v : ConnectionsValue). length
    (clients_of (connections_view c.release.new.runtime c.pop.new.self) c.args.connection) <
    length (clients_of v c.args.connection))
    c.self.view_is
    (fewer_clients c.args.connection s.numbers c.pop.new.self s.runtime c.release.new.runtime
    c.in-Some.ensures.fewer)

pub returns-in-Some-clause-none : goal.returns-in-Some-clause-none
returns-in-Some-clause-none c = λ none. absurd cc

pub returns-in-None-clause-others : goal.returns-in-None-clause-others
returns-in-None-clause-others c =
    let s = c.self.inside in
    subst
    (λ (v : ConnectionsValue). LeavesOthers c.args.connection v
    (connections_view s.runtime c.pop.new.self))
    c.self.view_is
    (unchanged_others c.args.connection s.numbers c.pop.new.self s.runtime
    c.in-None.ensures.same c.pop.ensures.connections)

pub returns-in-None-clause-fewer : goal.returns-in-None-clause-fewer
returns-in-None-clause-fewer c = λ some. absurd cc

pub returns-in-None-clause-none : goal.returns-in-None-clause-none
returns-in-None-clause-none c =
    let s = c.self.inside in
    λ none client. none_left c.args.connection s.numbers c.pop.new.self s.runtime
    c.in-None.ensures.same c.in-None.ensures.none client
