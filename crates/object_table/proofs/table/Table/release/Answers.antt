use Rattle.std.proofs.Common.{◌≡◌, ℕ, List, [], Option, false, refl, sym, ap, ◌∙◌, unwrap_or}
use Rattle.object_table.proofs.Common.{flat_map, set_value, is_at, option_map, nat_cmp, Node, Entry, Context, with_objects, still_held, without_name, used_less, entries_without_name, kept_entries, used_names, nodes_in}
use Rattle.object_table.proofs.EntryLemmas.{in_order, plain}
use Rattle.object_table.proofs.KeptLemmas.{left_of, left-nil, left-ended, held-left, ended-one, shown-ended}
use Rattle.object_table.proofs.GraphLemmas.{AreLeft, names_in, none_there, named_there, released-left}
use Rattle.object_table.proofs.table.Table.release.Goals as goal
use Rattle.object_table.proofs.table.Table.release.Goals.{Joined-kind, in-Graph, in_default-kind}

pub returns-in_default-clause-result : goal.returns-in_default-clause-result
returns-in_default-clause-result c =
    rw
    (none_there _ _ _ _ c.self.view_is c.self.invariant c.args.name
    (sym c.in_default.ensures.value))
    refl

pub returns-then-not-entry-clause-result : goal.returns-then-not-entry-clause-result
returns-then-not-entry-clause-result c =
    rw (
      named_there _ _ _ _ c.self.view_is c.self.invariant c.args.name _
          (sym c.in-Some.ensures.value),
      c.if-not-entry.true,
    ) refl

pub returns-clause-result : goal.returns-clause-result
returns-clause-result c =
    rw (
      named_there _ _ _ _ c.self.view_is c.self.invariant c.args.name _
          (sym c.in-Some.ensures.value),
      c.if-not-entry.false,
    ) refl

-- the entries, once the graph's nodes have ended their uses
less_is : (c : Joined-kind)
    → c.match-kind.self-inside.entries.entries
    ≡ left_of (names_in c.in-Some.entry.now.object) c.self.inside.entries.entries
less_is c =
    let entries = c.self.inside.entries.entries in
    let old = c.in-Some.entry.now in
    elim c.match-kind.branch [
      | in-Graph w ↦
          ap (λ x. x.entries.entries) w.self-inside-is ∙ w.end_all_uses-self-inside.ensures.entries
          ∙ ap
          (λ (o : Option Entry). left_of
          (flat_map used_names (unwrap_or (option_map (λ (e : Entry). nodes_in e.object) o) []))
          entries)
          (sym c.in-Some.ensures.value)
      | in_default-kind w ↦
          ap (λ x. x.entries.entries) w.self-inside-is ∙ left-nil entries c.self.invariant.held
          ∙ ap (λ (l : List Node). left_of (flat_map used_names l) entries)
          (sym (plain old.object (λ graph. w.in_default-kind.not-Graph (c.kind.ensures ∙ graph))))
    ]

next_is : (c : Joined-kind) → c.match-kind.self-inside.next ≡ c.self.inside.next
next_is c = elim c.match-kind.branch [
  | in-Graph w ↦ ap (λ x. x.next) w.self-inside-is
  | in_default-kind w ↦ ap (λ x. x.next) w.self-inside-is
]

-- once the name has ended
abbrev changed : Joined-kind → List (ℕ × Entry)
changed c =
    let old : Entry = c.in-Some.entry.now in
    set_value (is_at (nat_cmp c.args.name)) c.self.inside.entries.entries
    (record old { live = false })

-- and once both have
abbrev left : Joined-kind → List (ℕ × Entry)
left c = left_of (names_in c.in-Some.entry.now.object) (changed c)

left_is : (c : Joined-kind) (then : List (ℕ × Entry))
    → then
    ≡ kept_entries (entries_without_name c.args.name c.match-kind.self-inside.entries.entries)
    → then ≡ left c
left_is c then is =
    let entries = c.self.inside.entries.entries in
    let old = c.in-Some.entry.now in
    left-ended entries c.match-kind.self-inside.entries.entries then (names_in old.object)
    c.args.name old (in_order entries c.self.invariant.names) (sym c.in-Some.ensures.value)
    (less_is c) is

are_left : (c : Joined-kind)
    → AreLeft c.self.inside.next (changed c)
    (used_less (names_in c.in-Some.entry.now.object) (changed c))
are_left c =
    let old = c.in-Some.entry.now in
    released-left _ _ _ c.self.invariant c.args.name old (sym c.in-Some.ensures.value)
    c.if-not-entry.false (used_less (names_in old.object) (changed c)) refl

pub end_name-self-inside-requires-clause-held : goal.end_name-self-inside-requires-clause-held
end_name-self-inside-requires-clause-held c =
    held-left (names_in c.in-Some.entry.now.object) c.self.inside.entries.entries
    c.match-kind.self-inside.entries.entries
    (less_is (goal.at.end_name-self-inside-requires-clause-held c).Joined-kind)

pub invariant_of-self : goal.invariant_of-self
invariant_of-self c =
    let at = (goal.at.invariant_of-self c).Joined-kind in
    let then =
    left_is at c.end_name-self-inside.new.entries.entries c.end_name-self-inside.ensures.entries in
    rw (next_is at, c.end_name-self-inside.ensures.charge, then) (are_left at).table

pub returns-clause-ok : goal.returns-clause-ok
returns-clause-ok c =
    let at = (goal.at.returns-clause-ok c).Joined-kind in
    let entries = c.self.inside.entries.entries in
    let ended =
    ended-one entries c.args.name c.in-Some.entry.now (in_order entries c.self.invariant.names)
    (sym c.in-Some.ensures.value) in
    rw (
      next_is at,
      left_is at _ c.end_name-self-inside.ensures.entries,
      (are_left at).shown,
      ended,
      shown-ended c.args.name entries,
    )
    (ap (λ (t : Context). with_objects t (still_held (without_name t.objects c.args.name)))
    c.self.view_is)
