use Rattle.std.proofs.Common.{◌≡◌, arith, true, refl, sym, ap, ◌∙◌, nat_lt, ◌||◌, le-ltb}
use Rattle.object_table.proofs.Common.{remove_entry, set_value, is_at, nat_cmp, kept_entries, nat_tests, or_from}
use Rattle.object_table.proofs.UseLemmas.{with_uses, less, less_is, used-one, used-none}
use Rattle.object_table.proofs.KeptLemmas.{all_kept, held-written, dropped, charge-written, left-nil}
use Rattle.object_table.proofs.EntryBlockLemmas.{blocks-written}
use Rattle.object_table.proofs.table.graphs.end_use.Goals as goal

pub returns-in_default-clause-entries : goal.returns-in_default-clause-entries
returns-in_default-clause-entries c =
    left-nil c.args.entries.now.entries c.requires.held ∙ (rw c.in_default.is refl)

pub returns-in_default-get_mut-clause-entries : goal.returns-in_default-get_mut-clause-entries
returns-in_default-get_mut-clause-entries c =
    let entries = c.args.entries.now.entries in
    ap (λ m. m.entries) c.get_mut.follows.holds-at-none ∙ sym (all_kept entries c.requires.held)
    ∙ ap kept_entries
    (used-none less less_is entries c.name-name.result (sym c.in_default-get_mut.ensures.value))
    ∙ (rw (c.in-Some.is, c.name-name.ensures.value) refl)

-- the entry that is left of it
then_is : (c : goal.Joined-then-entry)
    → c.then-entry.entries.entries
    ≡ set_value (is_at (nat_cmp c.name-name.result)) c.args.entries.now.entries
    (with_uses c.in-Some-get_mut.entry.now c.saturating_sub-entry.result)
then_is c =
    let written =
    (c.get_mut.follows.holds
    (with_uses c.in-Some-get_mut.entry.now c.saturating_sub-entry.result)).0
    in
    grind (arith, written, c.then-entry.branch)

pub returns-then-entry-clause-entries : goal.returns-then-entry-clause-entries
returns-then-entry-clause-entries c =
    let entries = c.args.entries.now.entries in
    let name = c.name-name.result in
    let old = c.in-Some-get_mut.entry.now in
    let left = c.saturating_sub-entry.result in
    let new = with_uses old left in
    let found = sym c.in-Some-get_mut.ensures.value in
    let is : (old.live || nat_lt 0 left) ≡ true =
    grind (arith, nat_tests, c.then-entry.branch) in
    then_is c ∙ held-written entries name old new found c.requires.held is
    ∙ ap (λ n. kept_entries (set_value (is_at (nat_cmp name)) entries (with_uses old n)))
    c.saturating_sub-entry.ensures
    ∙ ap kept_entries (used-one less less_is entries name old c.get_mut.ensures.ordered found)
    ∙ (rw (c.in-Some.is, c.name-name.ensures.value) refl)

pub returns-then-entry-clause-charge : goal.returns-then-entry-clause-charge
returns-then-entry-clause-charge c =
    rw (then_is c)
    (omega (
      arith,
      c.requires.charge,
      charge-written c.args.entries.now.entries c.name-name.result _
          (with_uses c.in-Some-get_mut.entry.now c.saturating_sub-entry.result)
          (sym c.in-Some-get_mut.ensures.value),
    ))

pub end_entry-requires-clause-charge : goal.end_entry-requires-clause-charge
end_entry-requires-clause-charge c =
    rw
    (c.get_mut.follows.holds
    (with_uses c.in-Some-get_mut.entry.now c.saturating_sub-entry.result)).0
    (omega (
      arith,
      c.requires.charge,
      charge-written c.args.entries.now.entries c.name-name.result _
          (with_uses c.in-Some-get_mut.entry.now c.saturating_sub-entry.result)
          (sym c.in-Some-get_mut.ensures.value),
    ))

pub returns-clause-entries : goal.returns-clause-entries
returns-clause-entries c =
    let entries = c.args.entries.now.entries in
    let name = c.name-name.result in
    let old = c.in-Some-get_mut.entry.now in
    let left = c.saturating_sub-entry.result in
    let new = with_uses old left in
    let found = sym c.in-Some-get_mut.ensures.value in
    c.end_entry.ensures.entries
    ∙ ap (remove_entry (is_at (nat_cmp name))) (c.get_mut.follows.holds new).0
    ∙ dropped entries name old new found c.requires.held
    (or_from old.live (nat_lt 0 left) c.if-entry.false (le-ltb 0 left c.if-entry-gt0.false))
    ∙ ap (λ n. kept_entries (set_value (is_at (nat_cmp name)) entries (with_uses old n)))
    c.saturating_sub-entry.ensures
    ∙ ap kept_entries (used-one less less_is entries name old c.get_mut.ensures.ordered found)
    ∙ (rw (c.in-Some.is, c.name-name.ensures.value) refl)

pub returns-then-entry-clause-balances : goal.returns-then-entry-clause-balances
returns-then-entry-clause-balances c format =
    rw (then_is c)
    (omega (
      arith,
      blocks-written c.args.entries.now.entries c.name-name.result _
          (with_uses c.in-Some-get_mut.entry.now c.saturating_sub-entry.result)
          (sym c.in-Some-get_mut.ensures.value) format,
    ))

pub end_entry-requires-clause-owns : goal.end_entry-requires-clause-owns
end_entry-requires-clause-owns c format =
    rw
    (c.get_mut.follows.holds
    (with_uses c.in-Some-get_mut.entry.now c.saturating_sub-entry.result)).0
    (omega (
      arith,
      c.requires.owns format,
      blocks-written c.args.entries.now.entries c.name-name.result
          _ (with_uses c.in-Some-get_mut.entry.now c.saturating_sub-entry.result)
          (sym c.in-Some-get_mut.ensures.value) format,
    ))

pub returns-clause-balances : goal.returns-clause-balances
returns-clause-balances c format =
    omega (
      arith,
      rw
          (c.get_mut.follows.holds
          (with_uses c.in-Some-get_mut.entry.now c.saturating_sub-entry.result)).0
          at (c.end_entry.ensures.balances format),
      blocks-written c.args.entries.now.entries c.name-name.result _
          (with_uses c.in-Some-get_mut.entry.now c.saturating_sub-entry.result)
          (sym c.in-Some-get_mut.ensures.value) format,
    )
