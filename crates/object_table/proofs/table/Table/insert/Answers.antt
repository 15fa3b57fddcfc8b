use Rattle.std.proofs.Common.{◌≡◌, ◌++◌, ◌∷◌, [], true, refl, sym, ap, ◌∙◌, arith}
use Rattle.object_table.proofs.Common.{keys_of, map-append, Entry, Context, entry_object, IsStrictlyIncreasing-from_sorted, with_new}
use Rattle.object_table.proofs.EntryLemmas.{charge_limit, insert_last, capacity_left}
use Rattle.object_table.proofs.GraphLemmas.{IsTable-inserted}
use Rattle.object_table.proofs.table.Table.insert.Goals as goal

pub overflow_add-self-in-Ok : goal.overflow_add-self-in-Ok
overflow_add-self-in-Ok c =
    let s = c.self.inside in
    omega (
      arith,
      c.bytes-bytes.ensures.limit,
      charge_limit s.next s.charge s.entries.entries c.self.invariant,
    )

pub invariant_of-self : goal.invariant_of-self
invariant_of-self c =
    let s = c.self.inside in
    let entry : Entry = record { live = true; uses = 0; object = c.args.object } in
    let last : c.insert.new.self.entries ≡ s.entries.entries ++ (s.next, entry) ∷ [] =
    c.in-Ok.ensures.entries ∙ insert_last s.entries.entries s.next entry c.self.invariant.below in
    let capacity =
    capacity_left c.args.self.now s.next s.entries.entries c.self.view_is
    (sym c.can_insert.ensures ∙ c.if-not-can_insert.false) in
    let increasing =
    IsStrictlyIncreasing-from_sorted (keys_of c.insert.new.self.entries) c.insert.ensures.ordered in
    rw (last, c.bytes-bytes.ensures.value)
    (IsTable-inserted s.next s.charge s.entries.entries entry c.self.invariant capacity.0
    capacity.1 refl refl c.requires
    (omega (arith, c.bytes-bytes.ensures.value, c.bytes-bytes.ensures.limit))
    (rw last at increasing))

pub returns-in-Ok-clause-ok : goal.returns-in-Ok-clause-ok
returns-in-Ok-clause-ok c =
    let s = c.self.inside in
    let entry : Entry = record { live = true; uses = 0; object = c.args.object } in
    rw (
      c.in-Ok.ensures.entries,
      insert_last s.entries.entries s.next entry c.self.invariant.below,
      map-append entry_object s.entries.entries ((s.next, entry) ∷ []),
    )
    (ap (λ (t : Context). with_new t c.args.object) c.self.view_is)
