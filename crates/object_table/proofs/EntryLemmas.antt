-- Entries of a map by name, and what they show.
use Rattle.std.proofs.Common.{◌≡◌, ℕ, ◌+◌, ◌<◌, ◌≤◌, true, cond, List, [], ◌∷◌, ◌++◌, ◌*◌, length, map, Option, Some, None, refl, ap, arith, rules, ◌==◌, nat_lt, sum_by, unwrap_or, All}
use Rattle.object_table.proofs.Common.{nat_cmp, keys_of, lookup, set_value, remove_entry, is_at, option_map, IsStrictlyIncreasing, cases_lt, and_parts, length-map, All-cons, All-head, All-tail, sum_by-cons, sum_by-le, sorted_tail, Kind, Reference, ImageValue, new_image, ObjectValue, ImageObject, object_bytes, object_kind, Entry, Context, object_named, charge_of, with_objects, object_in, with_slot, HasImage, object_held, with_object, image_value, IsUnder, entry_object, IsTable, nodes_in, name_count, GREATEST_SLOTS, GREATEST_BYTES, HoldsImage, IsDistinct-from_sorted, IsStrictlySortedBy, can_insert, cell_object, image_held, insert_entry, lookup-none, none_past_head, object_under, reference_to, sorted_from_strictly_increasing, Format}
use Rattle.std.proofs.lemmas.Cmp.{nat_cmp_total, eq_by_cmp_equiv}

-- ---- keys

-- a key is found exactly if it is the name
pub same_name : (name other : ℕ) → is_at (nat_cmp name) other ≡ (other == name)
same_name name other = grind (arith, cases_lt name other)

-- the keys are in their order
abbrev pub InOrder : List (ℕ × Entry) → Type 0
InOrder entries = IsStrictlySortedBy nat_cmp (keys_of entries)

pub in_order : (entries : List (ℕ × Entry))
    → IsStrictlyIncreasing (keys_of entries)
    → InOrder entries
in_order entries h = sorted_from_strictly_increasing (keys_of entries) h

-- what is found at the head isn't found behind it
pub past_head : (e : ℕ × Entry) (entries : List (ℕ × Entry)) (name : ℕ)
    → InOrder (e ∷ entries)
    → is_at (nat_cmp name) e.0 ≡ true
    → lookup (is_at (nat_cmp name)) entries ≡ None
past_head e entries name order here =
    lookup-none (is_at (nat_cmp name)) entries
    (none_past_head (eq_by_cmp_equiv nat_cmp_total) name e entries
    (IsDistinct-from_sorted nat_cmp (keys_of (e ∷ entries)) order) here)

-- ---- what is found under a name

-- whether that is live or not
pub held_is : (entries : List (ℕ × Entry)) (name : ℕ)
    → object_held (map entry_object entries) name
    ≡ option_map (λ e. e.object) (lookup (is_at (nat_cmp name)) entries)
held_is [] name = refl
held_is (e ∷ entries) name = grind (arith, held_is entries name, same_name name e.0)

pub none_named : (entries : List (ℕ × Entry)) (name : ℕ)
    → lookup (is_at (nat_cmp name)) entries ≡ None
    → object_named (map entry_object entries) name ≡ None
none_named [] name none = refl
none_named (e ∷ entries) name none = grind (arith, none_named entries name, same_name name e.0)

-- the object of a live name
abbrev pub if_live : Entry → Option ObjectValue
if_live e = cond e.live (Some e.object) None

pub named_is : (entries : List (ℕ × Entry)) (name : ℕ) (e : Entry)
    → InOrder entries
    → lookup (is_at (nat_cmp name)) entries ≡ Some e
    → object_named (map entry_object entries) name ≡ if_live e
named_is [] name e order found = cc
named_is (d ∷ entries) name e order found =
    grind (
      arith,
      named_is entries name e (sorted_tail nat_cmp d.0 (keys_of entries) order),
      same_name,
      sorted_tail,
      none_named,
      past_head,
    )

-- ---- an entry that is written

none_written : (entries : List (ℕ × Entry)) (cell : Reference) (object : ObjectValue)
    → lookup (is_at (nat_cmp cell.name)) entries ≡ None
    → with_object (map entry_object entries) cell object ≡ map entry_object entries
none_written [] cell object none = refl
none_written (e ∷ entries) cell object none =
    grind (arith, none_written entries cell object, same_name cell.name e.0)

pub written :
    (entries : List (ℕ × Entry)) (cell : Reference) (old new : Entry) (object : ObjectValue)
    → InOrder entries
    → lookup (is_at (nat_cmp cell.name)) entries ≡ Some old
    → new.live ≡ old.live
    → new.object ≡ with_slot cell.slot object old.object
    → map entry_object (set_value (is_at (nat_cmp cell.name)) entries new)
    ≡ with_object (map entry_object entries) cell object
written [] cell old new object order found live is = cc
written (e ∷ entries) cell old new object order found live is =
    grind (
      arith,
      written entries cell old new object (sorted_tail nat_cmp e.0 (keys_of entries) order),
      none_written entries cell object,
      past_head e entries cell.name order,
      same_name cell.name e.0,
    )

pub written_name : (entries : List (ℕ × Entry)) (name : ℕ) (old new : Entry) (object : ObjectValue)
    → InOrder entries
    → lookup (is_at (nat_cmp name)) entries ≡ Some old
    → new.live ≡ old.live
    → new.object ≡ object
    → map entry_object (set_value (is_at (nat_cmp name)) entries new)
    ≡ with_object (map entry_object entries) (reference_to name) object
written_name entries name old new object order found live is =
    written entries (reference_to name) old new object order found live is

-- a property of all entries, which holds of the new entry if it held of the old one
pub All-written : (P : ℕ × Entry → Type 0) (entries : List (ℕ × Entry)) (name : ℕ) (old new : Entry)
    → lookup (is_at (nat_cmp name)) entries ≡ Some old
    → ((k : ℕ) → P (k, old) → P (k, new))
    → All P entries
    → All P (set_value (is_at (nat_cmp name)) entries new)
All-written P [] name old new found still h = cc
All-written P (e ∷ entries) name old new found still h =
    grind (
      arith,
      All-written P entries name old new,
      still,
      All-head P e entries h,
      All-tail P e entries h,
      All-cons P,
    )

-- a sum over the entries
pub sum-written : (f : ℕ × Entry → ℕ) (entries : List (ℕ × Entry)) (name : ℕ) (old new : Entry)
    → lookup (is_at (nat_cmp name)) entries ≡ Some old
    → sum_by f (set_value (is_at (nat_cmp name)) entries new) + f (name, old)
    ≡ sum_by f entries + f (name, new)
sum-written f [] name old new found = cc
sum-written f (e ∷ entries) name old new found =
    grind (arith, sum-written f entries name old new, same_name, sum_by-cons)

pub sum-removed : (f : ℕ × Entry → ℕ) (entries : List (ℕ × Entry)) (name : ℕ) (old : Entry)
    → lookup (is_at (nat_cmp name)) entries ≡ Some old
    → sum_by f (remove_entry (is_at (nat_cmp name)) entries) + f (name, old) ≡ sum_by f entries
sum-removed f [] name old found = cc
sum-removed f (e ∷ entries) name old found =
    grind (arith, sum-removed f entries name old, same_name, sum_by-cons)

-- what a context is charged is the sum over the entries
pub charge_is : (entries : List (ℕ × Entry))
    → charge_of (map entry_object entries) ≡ sum_by (λ e. object_bytes e.1.object) entries
charge_is [] = refl
charge_is (e ∷ entries) = search (rules, charge_is entries, sum_by-cons)

-- a new name goes last
pub insert_last : (entries : List (ℕ × Entry)) (name : ℕ) (new : Entry)
    → All (λ e. e.0 < name) entries
    → insert_entry nat_cmp entries name new ≡ entries ++ (name, new) ∷ []
insert_last [] name new h = refl
insert_last (e ∷ entries) name new h =
    grind (
      arith,
      insert_last entries name new (All-tail (λ e. e.0 < name) e entries h),
      All-tail,
      All-head,
    )

-- a name does not occur among smaller ones
pub times_none : (name : ℕ) (names : List ℕ)
    → All (λ other. other < name) names
    → 0 ≡ name_count name names
times_none name [] h = refl
times_none name (other ∷ names) h =
    grind (
      arith,
      times_none name names (All-tail (λ other. other < name) other names h),
      All-tail,
      sum_by-cons,
      All-head,
    )

-- ---- what a table keeps

-- what is charged is no more than for 1,024 of the greatest objects
pub charge_limit : (next charge : ℕ) (entries : List (ℕ × Entry))
    → IsTable next charge entries
    → charge ≤ 1024 * (GREATEST_SLOTS * GREATEST_BYTES)
charge_limit next charge entries t =
    omega (
      arith,
      t.charged,
      charge_is entries,
      t.count,
      sum_by-le (λ e. object_bytes e.1.object) (GREATEST_SLOTS * GREATEST_BYTES) entries t.each,
    )

-- ---- a table that shows a context

module _ (t : Context) (next : ℕ) (entries : List (ℕ × Entry))
    (view : ◌≡◌ {A = Context} (record { next = next; objects = map entry_object entries }) t) where
  pub objects_are : map entry_object entries ≡ t.objects
  objects_are = ap (λ (c : Context). c.objects) view

  -- where one more object can be held
  pub capacity_left : can_insert t ≡ true → (next < 4294967296) × (length entries < 1024)
  capacity_left h =
      grind (
        arith,
        and_parts (nat_lt t.next 4294967296) (nat_lt (length t.objects) 1024) h,
        length-map entries entry_object,
      )

  -- nothing is held under a name that isn't found
  pub none_held : (name : ℕ)
      → lookup (is_at (nat_cmp name)) entries ≡ None
      → object_held t.objects name ≡ None
  none_held name none = grind (arith, objects_are, held_is entries name)

  module _ (name : ℕ) (old : Entry) (found : lookup (is_at (nat_cmp name)) entries ≡ Some old) where
    pub held_under : object_held t.objects name ≡ Some old.object
    held_under = grind (arith, objects_are, held_is entries name)

    pub under_is : object_under t.objects name ≡ old.object
    under_is = ap (λ o. unwrap_or o (ImageObject (new_image 0 0 Format.U8))) held_under

    -- what a change of the object shows
    pub shown_name :
        (f : ObjectValue → ObjectValue) (object : ObjectValue) (after : List (ℕ × Entry))
        → InOrder entries
        → after ≡ set_value (is_at (nat_cmp name)) entries (record old { object = object })
        → object ≡ f old.object
        → ◌≡◌ {A = Context} (record { next = next; objects = map entry_object after })
        (with_objects t
        (with_object t.objects (reference_to name) (f (object_under t.objects name))))
    shown_name f object after order then is =
        grind (
          arith,
          written entries (reference_to name) old (record old { object = object })
              (f old.object) order found refl is,
          under_is,
        )

  -- what a cell holds, of which the name and the slot were read
  module _ (cell : Reference) (name : ℕ) (slot : Option ℕ) (at : name ≡ cell.name)
      (in_it : slot ≡ cell.slot) (old : Entry)
      (found : lookup (is_at (nat_cmp name)) entries ≡ Some old) where
    pub found_under : object_under t.objects cell.name ≡ old.object
    found_under = grind (arith, under_is name old found)

    pub cell_is : cell_object t.objects cell ≡ object_in slot old.object
    cell_is = grind (arith, held_under name old found)

    pub image_is : image_held t.objects cell ≡ image_value (object_in slot old.object)
    image_is = grind (arith, cell_is)

    pub image_there : HoldsImage t.objects cell → HasImage slot old.object
    image_there h = grind (arith, held_under name old found)

-- an image that is written over an image leaves no nodes
pub no_nodes : (slot : Option ℕ) (image : ImageValue) (object : ObjectValue)
    → HasImage slot object
    → nodes_in (with_slot slot (ImageObject image) object) ≡ nodes_in object
no_nodes slot image object h = grind arith

-- only a graph has nodes
pub plain : (object : ObjectValue) → (object_kind object ≡ Kind.Graph → ⊥) → nodes_in object ≡ []
plain object h = grind arith

-- an object of another kind has as many as any that isn't a graph
pub none_of_kind : (wanted : Kind) (object new : ObjectValue)
    → object_kind object ≡ wanted
    → object_kind new ≡ wanted
    → (wanted ≡ Kind.Graph → ⊥)
    → nodes_in new ≡ nodes_in object
none_of_kind wanted object new is same other = grind (arith, plain object, plain new)

module _ (t : Context) (next : ℕ) (entries : List (ℕ × Entry))
    (view : ◌≡◌ {A = Context} (record { next = next; objects = map entry_object entries }) t) where
  -- an object of a kind that is held under a name is found
  pub nothing_under : (wanted : Kind) (name : ℕ)
      → lookup (is_at (nat_cmp name)) entries ≡ None
      → IsUnder t.objects wanted name
      → ⊥
  nothing_under wanted name none h = grind (arith, none_held t next entries view name none)

  pub nothing_held : (cell : Reference) (name : ℕ)
      → name ≡ cell.name
      → lookup (is_at (nat_cmp name)) entries ≡ None
      → HoldsImage t.objects cell
      → ⊥
  nothing_held cell name at none h = grind (arith, none_held t next entries view name none)

  pub kind_under : (wanted : Kind) (name : ℕ) (old : Entry)
      → lookup (is_at (nat_cmp name)) entries ≡ Some old
      → IsUnder t.objects wanted name
      → object_kind old.object ≡ wanted
  kind_under wanted name old found h = grind (arith, held_under t next entries view name old found)

-- what is held under a name or in a cell whose entry was looked up, and what a change of the entry
-- shows
pub ruleset entry_steps = (
  held_is,
  held_under,
  none_held,
  under_is,
  nothing_under,
  kind_under,
  nothing_held,
  found_under,
  image_is,
  image_there,
  written,
  written_name,
)
