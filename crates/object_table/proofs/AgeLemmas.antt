-- Delays that age with graphs.
use Rattle.std.proofs.Common.{◌≡◌, ◌≢◌, ℕ, ◌+◌, ◌<◌, Bool, true, false, List, [], ◌∷◌, ◌++◌, length, map, take, get_or, Some, None, refl, sym, ap, ◌∙◌, arith, ◌==◌, if◌then◌else◌, is_some, eqb-true, ne_eqb, All, filter, length-take, get_or-take}
use Rattle.object_table.proofs.Common.{list_any, AllPairs, keys_of, lookup, set_value, is_at, option_map, nat_cmp, eqb-false, All-nil, All-cons, All-filter, sorted_tail, Kind, ObjectValue, Entry, is_there, aged_under, Context, with_objects, NamedObject, object_held, aged_object, IsUnder, graph_under, entry_object, AllPairs-filter, aged_if, get_or_default, list_any_more, list_any_none}
use Rattle.std.proofs.lemmas.List.Quantifiers.{all_pairs_push}
use Rattle.object_table.proofs.EntryLemmas.{InOrder, same_name, past_head, held_is, objects_are}

-- ---- one name

none_aged : (entries : List (ℕ × Entry)) (name : ℕ)
    → lookup (is_at (nat_cmp name)) entries ≡ None
    → aged_under (name ∷ []) (map entry_object entries) ≡ map entry_object entries
none_aged [] name none = refl
none_aged (e ∷ entries) name none = grind (arith, none_aged entries name, same_name name e.0)

pub aged_written : (entries : List (ℕ × Entry)) (name : ℕ) (old new : Entry)
    → InOrder entries
    → lookup (is_at (nat_cmp name)) entries ≡ Some old
    → new.live ≡ old.live
    → new.object ≡ aged_object old.object
    → map entry_object (set_value (is_at (nat_cmp name)) entries new)
    ≡ aged_under (name ∷ []) (map entry_object entries)
aged_written [] name old new order found live is = cc
aged_written (e ∷ entries) name old new order found live is =
    grind (
      arith,
      aged_written entries name old new (sorted_tail nat_cmp e.0 (keys_of entries) order),
      none_aged entries name,
      past_head e entries name order,
      same_name name e.0,
    )

module _ (t : Context) (next : ℕ) (entries : List (ℕ × Entry))
    (view : ◌≡◌ {A = Context} (record { next = next; objects = map entry_object entries }) t)
    (name : ℕ) where
  -- whether something is held under the name
  pub there_is : is_some (lookup (is_at (nat_cmp name)) entries) ≡ is_there t.objects name
  there_is = grind (arith, held_is entries name, objects_are t next entries view)

  -- where nothing is held under the name, nothing ages
  pub none_to_age : lookup (is_at (nat_cmp name)) entries ≡ None
      → t ≡ with_objects t (aged_under (name ∷ []) t.objects)
  none_to_age none = grind (arith, objects_are t next entries view, none_aged entries name none)

  -- what ages shows
  pub shown_aged : (old : Entry) (object : ObjectValue) (after : List (ℕ × Entry))
      → lookup (is_at (nat_cmp name)) entries ≡ Some old
      → InOrder entries
      → after ≡ set_value (is_at (nat_cmp name)) entries (record old { object = object })
      → object ≡ aged_object old.object
      → ◌≡◌ {A = Context} (record { next = next; objects = map entry_object after })
      (with_objects t (aged_under (name ∷ []) t.objects))
  shown_aged old object after found order after_is is =
      grind (
        arith,
        aged_written entries name old (record old { object = object }) order found refl is,
        objects_are t next entries view,
      )

-- ---- several names, one after the other

-- one more name, which does not occur among those before
pub aged_more : (names : List ℕ) (k d : ℕ) (objects : List NamedObject)
    → AllPairs (λ a b. a ≢ b) names
    → k < length names
    → aged_under (get_or names k d ∷ []) (aged_under (take k names) objects)
    ≡ aged_under (take (k + 1) names) objects
aged_more names k d [] apart there = refl
aged_more names k d (o ∷ objects) apart there =
    ap
    (λ (p : NamedObject). p
    ∷ aged_under (get_or names k d ∷ []) (aged_under (take k names) objects))
    (one (get_or names k d == o.name) refl)
    ∙ ap (λ l. aged_if (take (k + 1) names) o ∷ l) (aged_more names k d objects apart there)
  where
    is_it : ℕ → Bool
    is_it = λ n. n == o.name

    before : (i e : ℕ)
        → i < length (take k names)
        → get_or names k d ≡ o.name
        → is_it (get_or (take k names) i e) ≡ false
    before i e less same =
        let below : i < k = omega (arith, less, length-take k names) in
        ne_eqb (get_or (take k names) i e) o.name
        (λ equal. apart i k d below there
        (get_or_default names i d e (omega (arith, below, there))
        ∙ sym (get_or-take k names i e below)
        ∙ equal
        ∙ sym same))

    one : (b : Bool)
        → (get_or names k d == o.name) ≡ b
        → aged_if (get_or names k d ∷ []) (aged_if (take k names) o)
        ≡ aged_if (take (k + 1) names) o
    one true same =
        let here : get_or names k d ≡ o.name = eqb-true (get_or names k d) o.name same in
        grind (
          arith,
          list_any_more is_it names k d there,
          list_any_none is_it (take k names) (λ i e less. before i e less here),
        )
    one false other = grind (arith, list_any_more is_it names k d there, other)

-- ---- the objects held after aging

pub held_aged : (names : List ℕ) (objects : List NamedObject) (name : ℕ)
    → object_held (aged_under names objects) name
    ≡ option_map
    (λ object. if list_any (λ n. n == name) names then aged_object object else object)
    (object_held objects name)
held_aged names [] name = refl
held_aged names (o ∷ objects) name =
    grind (arith, held_aged names objects name, eqb-true o.name name)

pub kind_aged : (names : List ℕ) (objects : List NamedObject) (wanted : Kind) (name : ℕ)
    → IsUnder objects wanted name
    → IsUnder (aged_under names objects) wanted name
kind_aged names objects wanted name h = grind (arith, held_aged names objects name)

pub graph_aged : (names : List ℕ) (objects : List NamedObject) (name : ℕ)
    → graph_under (aged_under names objects) name ≡ graph_under objects name
graph_aged names objects name = grind (arith, held_aged names objects name)

-- ---- one more delay

-- names apart, of which some are left out, and one more
pub apart_and : (names : List ℕ) (p : ℕ → Bool) (name : ℕ)
    → AllPairs (λ a b. a ≢ b) names
    → list_any (λ n. n == name) names ≡ false
    → AllPairs (λ a b. a ≢ b) (filter p names ++ name ∷ [])
apart_and names p name apart none =
    all_pairs_push (λ a b. a ≢ b) (filter p names) name
    (AllPairs-filter (λ a b. a ≢ b) p names apart)
    (All-filter p (λ n. n ≢ name) names (others names none))
  where
    others : (l : List ℕ) → list_any (λ n. n == name) l ≡ false → All (λ n. n ≢ name) l
    others [] h = All-nil (λ n. n ≢ name)
    others (n ∷ l) h = grind (arith, All-cons (λ m. m ≢ name) n l, eqb-false n name, others l)
