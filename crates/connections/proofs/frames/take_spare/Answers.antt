use Rattle.std.proofs.Common.{◌≡◌, ℕ, true, false, Option, Some, Err, is_ok, refl, sym, subst}
use Rattle.connections.specs.Numbers.{number_in, Assigns, Settles}
use Rattle.connections.specs.declared.numbers.Numbers.{Numbers}
use Rattle.connections.proofs.SettleLemmas.{keeps, respared, from_ok, from_err, took, gave_up}
use Rattle.connections.proofs.frames.take_spare.Goals as goal
use Rattle.connections.proofs.frames.take_spare.Goals.{in-Some+else-is_ok, in_default}

pub returns-then-is_ok : goal.returns-then-is_ok
returns-then-is_ok c =
    let old = c.args.numbers.now in
    let added : is_ok c.add.result ≡ true = cc in
    let assigns =
    from_ok (Assigns c.args.connection c.args.client (Some old.spare) old c.add.new.self)
    c.add.result added c.add.ensures.ok in
    took c.args.connection c.args.client old.spare old c.args.runtime.now
    (record { connections = c.add.new.self.connections; spare = c.in-Some.next }) tt
    c.requires.opened
    (respared c.args.connection c.args.client (Some old.spare) old c.add.new.self c.in-Some.next
    assigns)
    c.in-Some.ensures.free

pub returns : goal.returns
returns c =
    let old = c.args.numbers.now in
    let Result_is : Numbers → Type 0 =
    λ n. Settles c.args.connection c.args.client old.spare old n c.args.runtime.now
    c.release.new.runtime (Err (record {})) in
    elim c.match-free_number.branch [
      | in-Some+else-is_ok w ↦
          let failed : is_ok w.add.result ≡ false = cc in
          let same =
          from_err
          (Assigns c.args.connection c.args.client
          (number_in old c.args.connection c.args.client) old w.add.new.self)
          w.add.result failed w.add.ensures.err in
          let none =
          subst (λ (o : Option ℕ). Assigns c.args.connection c.args.client o old w.add.new.self)
          c.requires.new_client same in
          subst Result_is (sym w.numbers-is)
          (gave_up c.args.connection c.args.client old.spare old c.args.runtime.now
          w.add.new.self c.release.new.runtime (record {}) c.requires.new_client
          c.requires.opened none w.add.ensures.spare c.release.ensures)
      | in_default w ↦
          subst Result_is (sym w.numbers-is)
          (gave_up c.args.connection c.args.client old.spare old c.args.runtime.now old
          c.release.new.runtime (record {}) c.requires.new_client c.requires.opened
          (keeps c.args.connection c.args.client old _ c.requires.new_client) refl
          c.release.ensures)
    ]
