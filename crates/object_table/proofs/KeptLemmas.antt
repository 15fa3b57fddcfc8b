-- Entries that are held, and those that are left when uses and names end.
use Rattle.std.proofs.Common.{◌≡◌, ℕ, ◌+◌, ◌-◌, true, false, cond, List, [], ◌∷◌, ◌++◌, length, map, IsTrue, Some, None, refl, ap, ◌∙◌, arith, ◌==◌, nat_lt, ◌||◌, All}
use Rattle.object_table.proofs.Common.{keys_of, lookup, set_value, remove_entry, is_at, nat_cmp, option_map, cases_Bool, length-map, All-head, All-tail, filter_passes, sorted_tail, Numbered, object_bytes, object_kind, Entry, charge_of, without_name, entry_object, is_kept, kept_entries, nodes_at, used_less, entries_without_name, nodes_in, name_count, nat_tests, or_left, or_parts}
use Rattle.object_table.proofs.EntryLemmas.{InOrder, same_name, past_head, charge_is, All-written, sum-written, sum-removed}
use Rattle.object_table.proofs.EntryBlockLemmas.{blocks-written, blocks-removed}
use Rattle.object_table.proofs.UseLemmas.{with_uses, less, less_is, used-append, used-nil, shown-used}

-- ---- the entries that are kept

pub all_kept : (entries : List (ℕ × Entry))
    → All (λ e. IsTrue (is_kept e)) entries
    → kept_entries entries ≡ entries
all_kept [] h = refl
all_kept (e ∷ entries) h =
    grind (
      arith,
      all_kept entries (All-tail (λ e. IsTrue (is_kept e)) e entries h),
      All-head (λ e. IsTrue (is_kept e)) e entries h,
    )

-- a change by which nothing is held that wasn't: what was dropped before it would be dropped after
-- it
kept-map : (f : ℕ × Entry → ℕ × Entry)
    → ((e : ℕ × Entry) → is_kept e ≡ false → is_kept (f e) ≡ false)
    → (entries : List (ℕ × Entry))
    → kept_entries (map f (kept_entries entries)) ≡ kept_entries (map f entries)
kept-map f still [] = refl
kept-map f still (e ∷ entries) =
    grind (arith, kept-map f still entries, still e, cases_Bool (is_kept e))

-- what is live is found as before
kept-live : (entries : List (ℕ × Entry)) (name : ℕ)
    → option_map (λ (e : Entry). e.live) (lookup (is_at (nat_cmp name)) entries) ≡ Some true
    → lookup (is_at (nat_cmp name)) (kept_entries entries) ≡ lookup (is_at (nat_cmp name)) entries
kept-live [] name live = refl
kept-live (e ∷ entries) name live =
    grind (arith, kept-live entries name, or_left e.1.live (nat_lt 0 e.1.uses))

-- ---- an entry that is written, and dropped

-- each is held still
pub held-written : (entries : List (ℕ × Entry)) (name : ℕ) (old new : Entry)
    → lookup (is_at (nat_cmp name)) entries ≡ Some old
    → All (λ e. IsTrue (is_kept e)) entries
    → (new.live || nat_lt 0 new.uses) ≡ true
    → set_value (is_at (nat_cmp name)) entries new
    ≡ kept_entries (set_value (is_at (nat_cmp name)) entries new)
held-written entries name old new found held is =
    let each = All-written (λ e. IsTrue (is_kept e)) entries name old new found (λ k h. is) held in
    cc (all_kept (set_value (is_at (nat_cmp name)) entries new) each)

-- all but the written one are
pub dropped : (entries : List (ℕ × Entry)) (name : ℕ) (old new : Entry)
    → lookup (is_at (nat_cmp name)) entries ≡ Some old
    → All (λ e. IsTrue (is_kept e)) entries
    → (new.live || nat_lt 0 new.uses) ≡ false
    → remove_entry (is_at (nat_cmp name)) (set_value (is_at (nat_cmp name)) entries new)
    ≡ kept_entries (set_value (is_at (nat_cmp name)) entries new)
dropped [] name old new found held none = cc
dropped (e ∷ entries) name old new found held none =
    let others = All-tail (λ e. IsTrue (is_kept e)) e entries held in
    grind (
      arith,
      dropped entries name old new,
      others,
      all_kept entries others,
      All-head (λ e. IsTrue (is_kept e)) e entries held,
    )

-- what is written is charged in place of what was there
pub charge-written : (entries : List (ℕ × Entry)) (name : ℕ) (old new : Entry)
    → lookup (is_at (nat_cmp name)) entries ≡ Some old
    → charge_of (map entry_object (set_value (is_at (nat_cmp name)) entries new)) + object_bytes
    old.object
    ≡ charge_of (map entry_object entries) + object_bytes new.object
charge-written entries name old new found =
    omega (
      arith,
      charge_is entries,
      charge_is (set_value (is_at (nat_cmp name)) entries new),
      sum-written (λ e. object_bytes e.1.object) entries name old new found,
    )

-- what is dropped isn't charged
pub charge-removed : (entries : List (ℕ × Entry)) (name : ℕ) (old : Entry)
    → lookup (is_at (nat_cmp name)) entries ≡ Some old
    → charge_of (map entry_object (remove_entry (is_at (nat_cmp name)) entries)) + object_bytes
    old.object
    ≡ charge_of (map entry_object entries)
charge-removed entries name old found =
    omega (
      arith,
      charge_is entries,
      charge_is (remove_entry (is_at (nat_cmp name)) entries),
      sum-removed (λ e. object_bytes e.1.object) entries name old found,
    )

-- ---- uses that end

-- the entries after one use of each of these names ends
abbrev pub left_of : List ℕ → List (ℕ × Entry) → List (ℕ × Entry)
left_of names entries = kept_entries (used_less names entries)

-- they are all held
pub held-left : (names : List ℕ) (entries others : List (ℕ × Entry))
    → others ≡ left_of names entries
    → All (λ e. IsTrue (is_kept e)) others
held-left names entries others is = rw is (filter_passes is_kept (used_less names entries))

pub left-nil : (entries : List (ℕ × Entry))
    → All (λ e. IsTrue (is_kept e)) entries
    → entries ≡ left_of [] entries
left-nil entries held = grind (arith, all_kept, used-nil less less_is entries)

pub left-append : (first second : List ℕ) (entries : List (ℕ × Entry))
    → left_of second (left_of first entries) ≡ left_of (first ++ second) entries
left-append first second entries =
    kept-map (λ e. (e.0, with_uses e.1 (e.1.uses - name_count e.0 second)))
    (λ e is. grind (arith, nat_tests, or_parts e.1.live (nat_lt 0 e.1.uses) is))
    (used_less first entries)
    ∙ ap kept_entries (used-append less less_is first second entries)

-- the graph under a live name stays, whose nodes end their uses
module _ (graph : ℕ) (names : List ℕ) (old now : List (ℕ × Entry))
    (then : now ≡ left_of names old)
    (live : option_map (λ (e : Entry). e.live) (lookup (is_at (nat_cmp graph)) old) ≡ Some true)
  where
    found-left :
        lookup (is_at (nat_cmp graph)) now ≡ lookup (is_at (nat_cmp graph)) (used_less names old)
    found-left =
        ap (lookup (is_at (nat_cmp graph))) then
        ∙ kept-live (used_less names old) graph
        (shown-used less less_is (λ live object. live) graph names old ∙ live)

    -- the object that is held under the name keeps its kind
    pub kind_kept :
        option_map (λ e. object_kind e.object) (lookup (is_at (nat_cmp graph)) now)
        ≡ option_map (λ e. object_kind e.object) (lookup (is_at (nat_cmp graph)) old)
    kind_kept =
        grind (
          arith,
          found-left,
          shown-used less less_is (λ live object. object_kind object) graph names old,
        )

    -- and keeps its nodes
    pub nodes_kept : nodes_at graph now ≡ nodes_at graph old
    nodes_kept =
        grind (
          arith,
          found-left,
          shown-used less less_is (λ live object. nodes_in object) graph names old,
        )

    -- which are as many as before
    pub count_kept : (counted found : List Numbered)
        → map (λ n. n.node) counted ≡ nodes_at graph old
        → map (λ n. n.node) found ≡ nodes_at graph now
        → length found ≡ length counted
    count_kept counted found before after =
        grind (arith, nodes_kept, length-map counted (λ n. n.node), length-map found (λ n. n.node))

-- ---- a name that ends

-- a name that isn't there
pub ended-none : (entries : List (ℕ × Entry)) (name : ℕ)
    → lookup (is_at (nat_cmp name)) entries ≡ None
    → entries ≡ entries_without_name name entries
ended-none [] name none = refl
ended-none (e ∷ entries) name none = grind (arith, ended-none entries name, same_name name e.0)

-- a name that is there
pub ended-one : (entries : List (ℕ × Entry)) (name : ℕ) (old : Entry)
    → InOrder entries
    → lookup (is_at (nat_cmp name)) entries ≡ Some old
    → set_value (is_at (nat_cmp name)) entries (record old { live = false })
    ≡ entries_without_name name entries
ended-one [] name old order found = cc
ended-one (e ∷ entries) name old order found =
    grind (
      arith,
      ended-one entries name old (sorted_tail nat_cmp e.0 (keys_of entries) order),
      ended-none entries name,
      past_head e entries name order,
      same_name name e.0,
    )

-- it isn't shown as live then
pub shown-ended : (name : ℕ) (entries : List (ℕ × Entry))
    → map entry_object (entries_without_name name entries)
    ≡ without_name (map entry_object entries) name
shown-ended name [] = refl
shown-ended name (e ∷ entries) = grind (arith, shown-ended name entries, cases_Bool (e.0 == name))

ended-less : (name : ℕ) (names : List ℕ) (entries : List (ℕ × Entry))
    → entries_without_name name (used_less names entries)
    ≡ used_less names (entries_without_name name entries)
ended-less name names [] = refl
ended-less name names (e ∷ entries) =
    grind (arith, ended-less name names entries, cases_Bool (e.0 == name))

-- ending uses and then a name gives the same as ending both together
pub left-ended : (entries now next : List (ℕ × Entry)) (names : List ℕ) (name : ℕ) (old : Entry)
    → InOrder entries
    → lookup (is_at (nat_cmp name)) entries ≡ Some old
    → now ≡ left_of names entries
    → next ≡ kept_entries (entries_without_name name now)
    → next ≡ left_of names (set_value (is_at (nat_cmp name)) entries (record old { live = false }))
left-ended entries now next names name old order found so_far then =
    let ended =
    kept-map (λ e. let n : Entry = e.1 in cond (e.0 == name) (e.0, record n { live = false }) e)
    (λ e is. grind (arith, cases_Bool e.1.live)) (used_less names entries) in
    cc (then, so_far, ended, ended-less name names entries, ended-one entries name old order found)

-- what ends, and what that leaves
pub ruleset end_steps = (
  charge-written,
  blocks-written,
  charge-removed,
  blocks-removed,
  all_kept,
  held-written,
  held-left,
  dropped,
  ended-none,
  ended-one,
  nat_tests,
)
