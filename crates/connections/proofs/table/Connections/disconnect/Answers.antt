use Rattle.std.proofs.Common.{◌≡◌, ◌∙◌, false, ap, subst, sym}
use Rattle.connections.specs.Connections.{ConnectionsValue, LeavesOthers, states_in}
use Rattle.connections.specs.Numbers.{connections_view}
use Rattle.connections.proofs.NumberingLemmas.{no_number, same_numbers}
use Rattle.connections.proofs.TableLemmas.{closes, closes_after, others_same, others_trans}
use Rattle.connections.proofs.table.Connections.disconnect.Goals as goal

pub loop-init : goal.loop-init
loop-init c = others_same c.args.connection c.args.self.now

pub loop-preserved : goal.loop-preserved
loop-preserved c =
    others_trans c.args.connection c.args.self.now c.loop.self c.release_one.new.self
    c.loop.invariant c.release_one.ensures.others

pub close-requires : goal.close-requires
close-requires c =
    let s = c.self.inside in
    let stopped : c.release_one.result ≡ false = cc in
    λ client. no_number s.numbers s.runtime c.self.invariant c.args.connection client
    (ap (λ (v : ConnectionsValue). states_in v c.args.connection client) c.self.view_is
    ∙ c.release_one.ensures.none stopped client)

pub invariant_of-self : goal.invariant_of-self
invariant_of-self c =
    let s = c.self.inside in
    same_numbers s.numbers c.close.new.self s.runtime c.close.ensures.numbers
    c.close.ensures.spare c.self.invariant

pub returns : goal.returns
returns c =
    let s = c.self.inside in
    let leaves =
    others_trans c.args.connection c.args.self.now c.loop.self c.release_one.new.self
    c.loop.invariant c.release_one.ensures.others in
    closes_after c.args.connection c.args.self.now (connections_view s.runtime s.numbers)
    (connections_view s.runtime c.close.new.self)
    (subst (λ (v : ConnectionsValue). LeavesOthers c.args.connection c.args.self.now v)
    (sym c.self.view_is) leaves)
    (closes c.args.connection s.numbers c.close.new.self s.runtime c.close.ensures)
