use Rattle.std.proofs.Common.{◌≡◌, ◌∙◌, ℕ, true, false, is_some, IsSome, ap, sym, subst}
use Rattle.client_contexts.specs.World.{state_of}
use Rattle.connections.specs.Numbers.{Settles}
use Rattle.connections.proofs.SettleLemmas.{has_none, still_has, still_none, left}
use Rattle.connections.proofs.frames.settle.Goals as goal

pub take_spare-requires-clause-new_client : goal.take_spare-requires-clause-new_client
take_spare-requires-clause-new_client c =
    has_none c.args.connection c.args.client c.args.number c.args.numbers.now c.args.runtime.now
    c.requires.found c.if-number-numbers.true (c.requires.spare c.args.connection c.args.client)

pub take_spare-requires-clause-opened : goal.take_spare-requires-clause-opened
take_spare-requires-clause-opened c =
    let there : is_some (state_of c.args.number c.args.runtime.now) ≡ true = cc in
    subst (λ (i : ℕ). IsSome (state_of i c.args.runtime.now)) c.if-number-numbers.true there

pub returns-then-has_context : goal.returns-then-has_context
returns-then-has_context c =
    subst
    (λ (i : ℕ). Settles c.args.connection c.args.client i c.args.numbers.now
    c.take_spare.new.numbers c.args.runtime.now c.take_spare.new.runtime c.take_spare.result)
    (sym c.if-number-numbers.true) c.take_spare.ensures

pub returns-then-number-numbers : goal.returns-then-number-numbers
returns-then-number-numbers c =
    let none : is_some (state_of c.args.number c.args.runtime.now) ≡ false = cc in
    still_none c.args.connection c.args.client c.args.number c.args.numbers.now
    c.args.runtime.now c.requires.found tt c.if-number-numbers.true
    (c.requires.spare c.args.connection c.args.client) none

pub returns-then-has_context-2 : goal.returns-then-has_context-2
returns-then-has_context-2 c =
    let there : is_some (state_of c.args.number c.args.runtime.now) ≡ true = cc in
    still_has c.args.connection c.args.client c.args.number c.args.numbers.now
    c.args.runtime.now c.requires.found tt c.if-number-numbers.false there
    (c.requires.no_context c.if-number-numbers.false)

pub returns : goal.returns
returns c =
    let none : is_some (state_of c.args.number c.args.runtime.now) ≡ false = cc in
    left c.args.connection c.args.client c.args.number c.args.numbers.now c.args.runtime.now
    c.remove.new.self tt none c.remove.ensures.removed
    (ap (λ (i : ℕ). state_of i c.args.runtime.now) c.remove.ensures.spare
    ∙ c.requires.no_context c.if-number-numbers.false)
