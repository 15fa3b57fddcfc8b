-- Nodes that are added and removed, the names that they use, and the objects held after that.
use Rattle.std.proofs.Common.{get_or, rules, inl, inr, ◌≡◌, ℕ, ◌+◌, ◌-◌, ◌*◌, ◌<◌, ◌≤◌, zero, suc, Bool, true, false, cond, List, [], ◌∷◌, ◌++◌, Some, None, length, map, IsTrue, refl, sym, ap, subst, ◌∙◌, arith, ◌==◌, ◌||◌, nat_lt, find, sum_by, is_some, eqb-true, ne_eqb, length-append, All, ◌&&◌, not, filter, take_at, drop_at}
use Rattle.object_table.proofs.Common.{All-push, sum_by_push, map-map, keys_of, lookup, set_value, list_any, flat_map, AllPairs, IsStrictlyIncreasing, is_at, nat_cmp, cases_Bool, map-append, length-map, All-nil, All-cons, All-head, All-tail, All-map, All-weaker, All-filter, filter_passes, AllPairs-from_increasing, sum_by-cons, sum_by-le, count_by-le-length, keys-set_value, length-set_value, Kind, Node, Numbered, Reference, GraphValue, can_add, with_node, without_node, optional_cells, ObjectValue, GraphObject, object_bytes, object_kind, Entry, Context, charge_of, object_named, still_held, NamedObject, object_held, graph_value, entry_object, used_more, used_less, is_kept, kept_entries, IsTable, used_names, nodes_in, names_used_by, names_used, name_count, GREATEST_SLOTS, GREATEST_BYTES, nat_tests, All-append, All-drop, All-take, AllPairs-cons, IsGraph, false≢true, flat_map-map, is_used, length-filter, list_any-append, nodes_of, operands, uses}
use Rattle.std.proofs.lemmas.Grind.{flat_map-append}
use Rattle.std.proofs.lemmas.List.Concat.{length-flat_map}
use Rattle.std.proofs.lemmas.Map.Steps.{set_value_same}
use Rattle.graph_verify.proofs.MemberLemmas.{any-map}
use Rattle.object_table.proofs.HeldLemmas.{All-from_map, increasing_from_pairs, increasing_head, increasing_tail}
use Rattle.object_table.proofs.SlotLemmas.{graph_of_kind}
use Rattle.object_table.proofs.UseLemmas.{times-append}
use Rattle.object_table.proofs.EntryLemmas.{none_named, in_order, named_is, if_live, All-written, sum-written, charge_is, times_none}

-- ---- how often a name occurs in a list

-- whether a name occurs in a list
any_times : (name : ℕ) (names : List ℕ)
    → nat_lt 0 (name_count name names) ≡ list_any (λ other. name == other) names
any_times name [] = refl
any_times name (other ∷ names) =
    grind (arith, any_times name names, sum_by-cons (λ other. cond (name == other) 1 0) other names)

-- ---- lists of lists

pub All-flat_map : {X Y : Type 0} (f : X → List Y) (P : Y → Type 0) (xs : List X)
    → All (λ x. All P (f x)) xs
    → All P (flat_map f xs)
All-flat_map f P [] h = All-nil P
All-flat_map f P (x ∷ xs) h =
    All-append P (f x) (flat_map f xs) (All-head (λ y. All P (f y)) x xs h)
    (All-flat_map f P xs (All-tail (λ y. All P (f y)) x xs h))

module _ {X : Type 0} (f : X → List ℕ) where
  times-flat_map : (name : ℕ) (xs : List X)
      → name_count name (flat_map f xs) ≡ sum_by (λ x. name_count name (f x)) xs
  times-flat_map name [] = refl
  times-flat_map name (x ∷ xs) =
      grind (
        arith,
        times-flat_map name xs,
        times-append name (f x) (flat_map f xs),
        sum_by-cons (λ x. name_count name (f x)) x xs,
      )

  All-parts : (P : ℕ → Type 0) (xs : List X) → All P (flat_map f xs) → All (λ x. All P (f x)) xs
  All-parts P [] h = All-nil (λ x. All P (f x))
  All-parts P (x ∷ xs) h =
      let first =
      subst (All P) (take_at (f x) (flat_map f xs) (length (f x)) refl)
      (All-take P (length (f x)) (f x ++ flat_map f xs) h) in
      let others =
      subst (All P) (drop_at (f x) (flat_map f xs) (length (f x)) refl)
      (All-drop P (length (f x)) (f x ++ flat_map f xs) h) in
      All-cons (λ x. All P (f x)) x xs first (All-parts P xs others)

  any-flat_map : (p : ℕ → Bool) (xs : List X)
      → list_any p (flat_map f xs) ≡ list_any (λ x. list_any p (f x)) xs
  any-flat_map p [] = refl
  any-flat_map p (x ∷ xs) = grind (arith, list_any-append, any-flat_map p xs)

any_map : {X Y : Type 0} (p : Y → Bool) (f : X → Y) (xs : List X)
    → list_any p (map f xs) ≡ list_any (λ x. p (f x)) xs
any_map p f xs = sym (any-map f p xs)

pub any_alike : {X : Type 0} (p q : X → Bool) (xs : List X)
    → All (λ x. p x ≡ q x) xs
    → list_any p xs ≡ list_any q xs
any_alike p q [] h = refl
any_alike p q (x ∷ xs) h =
    grind (
      arith,
      any_alike p q xs (All-tail (λ x. p x ≡ q x) x xs h),
      All-tail,
      All-head (λ x. p x ≡ q x) x xs h,
    )

-- ---- the names of a node's operands

-- they are the cells that it reads and writes
names_of_operands : (n : Node)
    → map (λ (operand : Reference × Kind). operand.0.name) (operands n) ≡ used_names n
names_of_operands n = grind (arith, optional_cells)

-- the names of an object's nodes
abbrev pub names_in : ObjectValue → List ℕ
names_in object = flat_map used_names (nodes_in object)

-- ---- a graph with one node more, or less

times-with_node : (g : GraphValue) (n : Node) (name : ℕ)
    → name_count name (names_in (GraphObject (with_node g n)))
    ≡ name_count name (names_in (GraphObject g)) + name_count name (used_names n)
times-with_node g n name = simp (map-append, flat_map-append, times-append) (omega arith)

All-with_node : (P : ℕ → Type 0) (g : GraphValue) (n : Node)
    → All P (names_in (GraphObject g))
    → All P (used_names n)
    → All P (names_in (GraphObject (with_node g n)))
All-with_node P g n h new =
    grind (
      arith,
      All-append P (names_in (GraphObject g)) (used_names n ++ []) h
          (All-append P (used_names n) [] new (All-nil P)),
      map-append,
      flat_map-append,
    )

-- without the node of a number
times_left : (number : ℕ) (nodes : List Numbered) (node : Node) (name : ℕ)
    → AllPairs (λ a b. a.number < b.number) nodes
    → find (λ n. n.number == number) nodes ≡ Some (record { number = number; node = node })
    → sum_by (λ n. name_count name (used_names n.node))
    (filter (λ n. not (n.number == number)) nodes) + name_count name (used_names node)
    ≡ sum_by (λ n. name_count name (used_names n.node)) nodes
times_left number [] node name increase found = cc
times_left number (n ∷ nodes) node name increase found =
    let weight : Numbered → ℕ = λ m. name_count name (used_names m.node) in
    grind (
      arith,
      times_left number nodes node name later,
      all_stay nodes above,
      eqb-true n.number number,
      sum_by-cons weight n nodes,
      sum_by-cons weight n (filter (λ m. not (m.number == number)) nodes),
      cases_Bool (n.number == number),
    )
  where
    later : AllPairs (λ a b. a.number < b.number) nodes
    later i j d less below = increase (suc i) (suc j) d (omega (arith, less)) (omega (arith, below))

    -- no later node has the number of an earlier one
    all_stay : (ms : List Numbered)
        → All (λ m. n.number < m.number) ms
        → n.number ≡ number
        → filter (λ m. not (m.number == number)) ms ≡ ms
    all_stay [] above same = refl
    all_stay (m ∷ ms) above same =
        grind (
          arith,
          all_stay ms (All-tail (λ m. n.number < m.number) m ms above) same,
          All-tail,
          above,
          ne_eqb,
          All-head,
        )

    above : All (λ m. n.number < m.number) nodes
    above k d below = increase zero (suc k) d (omega arith) (omega (arith, below))

times-without_node : (g : GraphValue) (number : ℕ) (node : Node) (name : ℕ)
    → IsGraph g
    → find (λ n. n.number == number) g.nodes ≡ Some (record { number = number; node = node })
    → name_count name (names_in (GraphObject (without_node g number))) + name_count name
    (used_names node)
    ≡ name_count name (names_in (GraphObject g))
times-without_node g number node name h found =
    let sum =
    λ (nodes : List Numbered). ap (name_count name)
    (flat_map-map used_names (λ (n : Numbered). n.node) nodes)
    ∙ times-flat_map (λ (n : Numbered). used_names n.node) name nodes in
    omega (
      arith,
      sum (filter (λ n. not (n.number == number)) g.nodes),
      sum g.nodes,
      times_left number g.nodes node name h.numbers found,
    )

All-without_node : (P : ℕ → Type 0) (g : GraphValue) (number : ℕ)
    → All P (names_in (GraphObject g))
    → All P (names_in (GraphObject (without_node g number)))
All-without_node P g number h =
    let test : Numbered → Bool = λ n. not (n.number == number) in
    let each =
    All-from_map (λ n. All P (used_names n)) (λ (n : Numbered). n.node) g.nodes
    (All-parts used_names P (nodes_of g) h) in
    All-flat_map used_names P (nodes_of (without_node g number))
    (All-map (λ n. All P (used_names n)) (λ (n : Numbered). n.node)
    (filter test g.nodes) (All-filter test (λ n. All P (used_names n.node)) g.nodes each))

-- ---- whether a name is used

eqb-sym : (a b : ℕ) → (a == b) ≡ (b == a)
eqb-sym a b = grind arith

-- by the nodes of one object
named_by : (name : ℕ) (n : Node)
    → list_any (λ other. name == other) (used_names n)
    ≡ list_any (λ operand. operand.0.name == name) (operands n)
named_by name n = grind (arith, names_of_operands, any_map, any_alike, eqb-sym)

used_in : (name : ℕ) (object : ObjectValue)
    → list_any (λ other. name == other) (flat_map used_names (nodes_in object)) ≡ uses object name
used_in name object = grind (arith, any-flat_map, any_map, any_alike, named_by)

-- by those of all unreleased graphs
pub is_used_there : (objects : List NamedObject) (name : ℕ)
    → nat_lt 0 (name_count name (names_used objects)) ≡ is_used objects name
is_used_there objects name =
    grind (
      arith,
      any_times name (names_used objects),
      any-flat_map names_used_by (λ other. name == other) objects,
      any_alike (λ o. list_any (λ other. name == other) (names_used_by o))
          (λ o. o.live && uses o.object name) objects,
      used_in,
    )

-- ---- entries

-- the names that an entry's nodes use
abbrev pub used_by : ℕ × Entry → List ℕ
used_by e = names_used_by (entry_object e)

used_is : (entries : List (ℕ × Entry))
    → names_used (map entry_object entries) ≡ flat_map used_by entries
used_is entries = flat_map-map names_used_by entry_object entries

used_when_live : (k : ℕ) (e : Entry) → e.live ≡ true → used_by (k, e) ≡ names_in e.object
used_when_live k e live = ap (λ b. cond b (names_in e.object) []) live

-- what a table keeps of an entry, but for how often it is used
pub record IsEntry (next : ℕ) (e : ℕ × Entry) : Type 0 where
  pub below : e.0 < next
  pub bytes : object_bytes e.1.object ≤ GREATEST_SLOTS * GREATEST_BYTES
  pub nodes : length (nodes_in e.1.object) ≤ 256
  pub given : All (λ name. name < next) (used_by e)

-- and of its entries, but for their charge
pub record AreEntries (next : ℕ) (entries : List (ℕ × Entry)) : Type 0 where
  pub names : IsStrictlyIncreasing (map (λ e. e.0) entries)
  pub left : next ≤ 4294967296
  pub count : length entries ≤ 1024
  pub each : All (IsEntry next) entries

table_of : (next charge : ℕ) (entries : List (ℕ × Entry))
    → AreEntries next entries
    → charge ≡ charge_of (map entry_object entries)
    → All (λ e. e.1.uses ≡ name_count e.0 (names_used (map entry_object entries))) entries
    → All (λ e. IsTrue (is_kept e)) entries → IsTable next charge entries
table_of next charge entries h charged uses held =
    record {
      names = h.names;
      below = λ k d below. (h.each k d below).below;
      left = h.left;
      count = h.count;
      each = λ k d below. (h.each k d below).bytes;
      nodes = λ k d below. (h.each k d below).nodes;
      charged = charged;
      uses = uses;
      held = held;
      given =
          rw (used_is entries)
          (All-flat_map used_by (λ name. name < next) entries
          (λ k d below. (h.each k d below).given));
    }

are_entries : (next charge : ℕ) (entries : List (ℕ × Entry))
    → IsTable next charge entries
    → AreEntries next entries
are_entries next charge entries h =
    let given = All-parts used_by (λ name. name < next) entries (rw (← used_is entries) h.given) in
    record {
      names = h.names;
      left = h.left;
      count = h.count;
      each =
          λ k d below. record {
            below = h.below k d below;
            bytes = h.each k d below;
            nodes = h.nodes k d below;
            given = given k d below;
          };
    }

-- all names that are used are few enough
used_limit : (entries : List (ℕ × Entry))
    → length entries ≤ 1024
    → All (λ e. length (nodes_in e.1.object) ≤ 256) entries
    → length (names_used (map entry_object entries)) ≤ 1024 * 1024
used_limit entries count nodes =
    let each : sum_by (λ e. length (used_by e)) entries ≤ length entries * 1024 =
    sum_by-le (λ e. length (used_by e)) 1024 entries
    (All-weaker (λ e. length (nodes_in e.1.object) ≤ 256) (λ e. length (used_by e) ≤ 1024) one
    entries nodes)
    in
    omega (arith, each, count, ap length (used_is entries), length-flat_map used_by entries)
  where
    one : (e : ℕ × Entry) → length (nodes_in e.1.object) ≤ 256 → length (used_by e) ≤ 1024
    one e few =
        grind (
          arith,
          length-flat_map used_names (nodes_in e.1.object),
          sum_by-le (λ n. length (used_names n)) 4 (nodes_in e.1.object)
              (λ k d below. grind (arith, optional_cells)),
        )

-- a name that is held is below the next
pub held_below : (next : ℕ) (entries : List (ℕ × Entry)) (name : ℕ)
    → All (λ e. e.0 < next) entries
    → IsTrue (is_some (object_held (map entry_object entries) name))
    → name < next
held_below next [] name h there = absurd (false≢true there)
held_below next (e ∷ entries) name h there =
    grind (
      arith,
      held_below next entries name (All-tail (λ e. e.0 < next) e entries h),
      All-tail,
      All-head,
    )

-- ---- an entry that is written

module _ (next charge : ℕ) (entries : List (ℕ × Entry)) (h : IsTable next charge entries)
    (name : ℕ) (old new : Entry) (found : lookup (is_at (nat_cmp name)) entries ≡ Some old)
    (same : new.uses ≡ old.uses) where
  abbrev pub after : List (ℕ × Entry)
  after = set_value (is_at (nat_cmp name)) entries new

  pub charged-after : object_bytes new.object ≡ object_bytes old.object
      → charge ≡ charge_of (map entry_object after)
  charged-after bytes =
      omega (
        arith,
        h.charged,
        charge_is entries,
        charge_is after,
        sum-written (λ e. object_bytes e.1.object) entries name old new found,
        bytes,
      )

  -- each is used as often as before
  uses-after : All (λ e. e.1.uses ≡ name_count e.0 (names_used (map entry_object entries))) after
  uses-after =
      All-written (λ e. e.1.uses ≡ name_count e.0 (names_used (map entry_object entries)))
      entries name old new found (λ k h. same ∙ h) h.uses

  pub few-uses : All (λ e. e.1.uses ≤ 1024 * 1024) after
  few-uses = grind (arith, All-weaker, count_by-le-length, used_limit, uses-after)

  -- and held
  pub held-after : new.live ≡ old.live → All (λ e. IsTrue (is_kept e)) after
  held-after still =
      All-written (λ e. IsTrue (is_kept e)) entries name old new found (λ k h. grind (arith, h))
      h.held

  -- but other names are used
  times-after : (n : ℕ)
      → name_count n (names_used (map entry_object after)) + name_count n (used_by (name, old))
      ≡ name_count n (names_used (map entry_object entries)) + name_count n (used_by (name, new))
  times-after n =
      grind (
        arith,
        sum-written (λ e. name_count n (used_by e)) entries name old new found,
        used_is after,
        times-flat_map used_by n after,
        used_is entries,
        times-flat_map used_by n entries,
      )

  entries-after : (length (nodes_in old.object) ≤ 256 → length (nodes_in new.object) ≤ 256)
      → object_bytes new.object ≡ object_bytes old.object
      → ((k : ℕ) → All (λ n. n < next) (used_by (k, old)) → All (λ n. n < next) (used_by (k, new)))
      → AreEntries next after
  entries-after few bytes names_given =
      let test = is_at (nat_cmp name) in
      record {
        names = rw (keys-set_value test entries new) h.names;
        left = h.left;
        count = rw (length-set_value test entries new) h.count;
        each = All-written (IsEntry next) entries name old new found
            (λ k e. record {
              below = e.below;
              bytes = omega (arith, e.bytes, bytes);
              nodes = few e.nodes;
              given
                  = names_given k e.given;
            })
            (are_entries next charge entries h).each;
      }

-- an object of as many bytes and the same nodes
pub IsTable-written :
    (next charge : ℕ) (entries : List (ℕ × Entry)) (name : ℕ) (old : Entry)
    (object : ObjectValue) (after : List (ℕ × Entry))
    → IsTable next charge entries
    → lookup (is_at (nat_cmp name)) entries ≡ Some old
    → after ≡ set_value (is_at (nat_cmp name)) entries (record old { object = object })
    → nodes_in object ≡ nodes_in old.object
    → object_bytes object ≡ object_bytes old.object
    → IsTable next charge after
IsTable-written next charge entries name old object after t found then nodes bytes =
    let new : Entry = record old { object = object } in
    let all = set_value (is_at (nat_cmp name)) entries new in
    let each = uses-after next charge entries t name old new found refl in
    let times = times-after next charge entries t name old new found refl in
    let same : used_by (name, new) ≡ used_by (name, old) =
    ap (λ l. cond old.live (flat_map used_names l) []) nodes in
    rw then (table_of next charge all
    (entries-after next charge entries t name old new found refl (λ few. rw nodes few) bytes
    (λ k given. rw nodes given))
    (charged-after next charge entries t name old new found refl bytes)
    (λ k d below. let n = (get_or all k d).0 in omega
    (arith, each k d below, times n, ap (name_count n) same))
    (held-after next charge entries t name old new found refl refl))

-- one object more, under the next name
pub IsTable-inserted : (next charge : ℕ) (entries : List (ℕ × Entry)) (new : Entry)
    → IsTable next charge entries
    → next < 4294967296
    → length entries < 1024
    → new.live ≡ true
    → new.uses ≡ 0
    → nodes_in new.object ≡ []
    → object_bytes new.object ≤ GREATEST_SLOTS * GREATEST_BYTES
    → IsStrictlyIncreasing (keys_of (entries ++ (next, new) ∷ []))
    → IsTable (next + 1) (charge + object_bytes new.object) (entries ++ (next, new) ∷ [])
IsTable-inserted next charge entries new t left capacity live uses nodes limit increasing =
    let are = are_entries next charge entries t in
    let more : (names : List ℕ) → All (λ n. n < next) names → All (λ n. n < next + 1) names =
    λ names h k d below. omega (arith, h k d below) in
    let each = λ (k : ℕ) (d : ℕ × Entry) (below : k < length entries). are.each k d below in
    let one : List (ℕ × Entry) = (next, new) ∷ [] in
    let used :
    names_used (map entry_object (entries ++ one)) ≡ names_used (map entry_object entries) =
    map_used entries in
    table_of (next + 1) (charge + object_bytes new.object) (entries ++ one)
    (record {
      names = increasing;
      left = omega (arith, left);
      count = omega (arith, capacity, length-append entries one);
      each = All-push (IsEntry (next + 1)) entries (next, new)
          (λ k d below. record {
            below = omega (arith, (each k d below).below);
            bytes = (each k d below).bytes;
            nodes
                = (each k d below).nodes;
            given = more _ (each k d below).given;
          })
          (record {
            below = omega arith;
            bytes = limit;
            nodes = grind (arith, nodes);
            given = rw
                (live, nodes) (All-nil (λ n. n < next + 1));
          });
    })
    (omega (
      arith,
      t.charged,
      charge_is entries,
      charge_is (entries ++ one),
      sum_by_push
          (λ e. object_bytes e.1.object) entries (next, new),
    ))
    (rw used
    (All-push (λ e. e.1.uses ≡ name_count e.0 (names_used (map entry_object entries))) entries
    (next, new) t.uses
    (uses ∙ times_none next (names_used (map entry_object entries)) t.given)))
    (All-push (λ e. IsTrue (is_kept e)) entries (next, new) t.held
    (ap (λ b. b || nat_lt 0 new.uses) live))
  where
    map_used : (l : List (ℕ × Entry))
        → names_used (map entry_object (l ++ (next, new) ∷ [])) ≡ names_used (map entry_object l)
    map_used [] = grind (arith, nodes)
    map_used (e ∷ l) = ap (λ names. names_used_by (entry_object e) ++ names) (map_used l)

-- ---- entries whose uses are counted anew

module _ (f : ℕ → ℕ → ℕ) where
  abbrev pub recounted : List (ℕ × Entry) → List (ℕ × Entry)
  recounted entries =
      map {A = ℕ × Entry} {B = ℕ × Entry}
      (λ e. let n : Entry = e.1 in (e.0, record n { uses = f e.0 n.uses })) entries

  -- nothing that is shown changes
  pub named-recounted : (entries : List (ℕ × Entry))
      → map entry_object (recounted entries) ≡ map entry_object entries
  named-recounted entries = map-map entry_object _ entries

  entries-recounted : (next : ℕ) (entries : List (ℕ × Entry))
      → AreEntries next entries
      → AreEntries next (recounted entries)
  entries-recounted next entries h =
      let step : ℕ × Entry → ℕ × Entry = λ e. let n : Entry = e.1 in
      (e.0, record n { uses = f e.0 n.uses }) in
      record {
        names = rw (map-map (λ (e : ℕ × Entry). e.0) step entries) h.names;
        left = h.left;
        count = rw (length-map entries step) h.count;
        each = All-map (IsEntry next) step entries (λ k d below. grind (arith, h.each k d below));
      }

  -- they are used so often
  uses-recounted : (entries : List (ℕ × Entry))
      → All (λ e. f e.0 e.1.uses ≡ name_count e.0 (names_used (map entry_object entries))) entries
      → All (λ e. e.1.uses ≡ name_count e.0 (names_used (map entry_object (recounted entries))))
      (recounted entries)
  uses-recounted entries h = search (rules, named-recounted, All-map)

-- entries that are held stay held with more uses
held-more : (names : List ℕ) (entries : List (ℕ × Entry))
    → All (λ e. IsTrue (is_kept e)) entries
    → All (λ e. IsTrue (is_kept e)) (used_more names entries)
held-more names entries h =
    All-map {X = ℕ × Entry} (λ e. IsTrue (is_kept e)) {Y = ℕ × Entry}
    (λ e. let n : Entry = e.1 in (e.0, record n { uses = n.uses + name_count e.0 names }))
    entries
    (λ k d below. grind (arith, nat_tests, h k d below))

-- ---- the objects that are still held

-- keys in their order stay so where some go
increasing-kept : (p : ℕ × Entry → Bool) (entries : List (ℕ × Entry))
    → IsStrictlyIncreasing (map (λ (e : ℕ × Entry). e.0) entries)
    → IsStrictlyIncreasing (map (λ (e : ℕ × Entry). e.0) (filter p entries))
increasing-kept p [] h = h
increasing-kept p (e ∷ entries) h =
    let above =
    All-from_map (λ k. e.0 < k) (λ (d : ℕ × Entry). d.0) entries
    (increasing_head e.0 (keys_of entries) h) in
    let rest = increasing-kept p entries (increasing_tail e.0 (keys_of entries) h) in
    let keys = keys_of (filter p entries) in
    let first =
    All-map (λ k. e.0 < k) (λ (d : ℕ × Entry). d.0) (filter p entries)
    (All-filter p (λ d. e.0 < d.0) entries above) in
    let all =
    increasing_from_pairs (e.0 ∷ keys)
    (AllPairs-cons (λ x y. x < y) e.0 keys first (AllPairs-from_increasing keys rest)) in
    elim (cases_Bool (p e)) [ inl k ↦ rw k all | inr k ↦ rw k rest ]

-- an entry that is dropped isn't live, and so uses nothing
used-kept : (entries : List (ℕ × Entry))
    → flat_map used_by (kept_entries entries) ≡ flat_map used_by entries
used-kept [] = refl
used-kept (e ∷ entries) = grind (arith, used-kept entries)

named-kept : (p : NamedObject → Bool) (entries : List (ℕ × Entry))
    → All (λ e. is_kept e ≡ p (entry_object e)) entries
    → map entry_object (kept_entries entries) ≡ filter p (map entry_object entries)
named-kept p [] h = refl
named-kept p (e ∷ entries) h =
    grind (
      arith,
      named-kept p entries (All-tail (λ e. is_kept e ≡ p (entry_object e)) e entries h),
      All-tail,
      All-head,
    )

-- the view of the entries that are kept is the objects that are still held
shown-kept : (entries : List (ℕ × Entry))
    → All (λ e. e.1.uses ≡ name_count e.0 (names_used (map entry_object entries))) entries
    → map entry_object (kept_entries entries) ≡ still_held (map entry_object entries)
shown-kept entries uses = grind (arith, named-kept, All-weaker, is_used_there)

IsTable-kept : (next : ℕ) (entries : List (ℕ × Entry))
    → AreEntries next entries
    → All (λ e. e.1.uses ≡ name_count e.0 (names_used (map entry_object entries))) entries
    → IsTable next (charge_of (map entry_object (kept_entries entries))) (kept_entries entries)
IsTable-kept next entries h uses =
    let used :
    names_used (map entry_object entries) ≡ names_used (map entry_object (kept_entries entries)) =
    grind (arith, used_is, used-kept) in
    table_of next (charge_of (map entry_object (kept_entries entries))) (kept_entries entries)
    (record {
      names = increasing-kept is_kept entries h.names;
      left = h.left;
      count =
          omega (arith, h.count, length-filter is_kept entries, count_by-le-length is_kept entries);
      each = All-filter is_kept (IsEntry next) entries h.each;
    }) refl
    (rw (← used)
    (All-filter is_kept (λ e. e.1.uses ≡ name_count e.0 (names_used (map entry_object entries)))
    entries uses))
    (filter_passes is_kept entries)

-- ---- one node more

module _ (next charge : ℕ) (entries : List (ℕ × Entry)) (h : IsTable next charge entries)
    (name : ℕ) (old new : Entry) (found : lookup (is_at (nat_cmp name)) entries ≡ Some old)
    (same : new.uses ≡ old.uses)
    (bytes : object_bytes new.object ≡ object_bytes old.object) (live : old.live ≡ true)
    (still : new.live ≡ old.live) (graph : object_kind old.object ≡ Kind.Graph) (node : Node)
  where
    -- what the graph's nodes use
    before_is : (k : ℕ) → used_by (k, old) ≡ names_in (GraphObject (graph_value old.object))
    before_is k = used_when_live k old live ∙ ap names_in (graph_of_kind old.object graph)

    now_is : (k : ℕ) (g : GraphValue)
        → new.object ≡ GraphObject g
        → used_by (k, new) ≡ names_in (GraphObject g)
    now_is k g is = used_when_live k new (still ∙ live) ∙ ap names_in is

    pub IsTable-added : new.object ≡ GraphObject (with_node (graph_value old.object) node)
        → IsTrue (can_add (graph_value old.object))
        → All (λ n. n < next) (used_names node)
        → IsTable next charge
        (used_more (used_names node) (set_value (is_at (nat_cmp name)) entries new))
    IsTable-added is capacity below =
        let g = graph_value old.object in
        let then : List (ℕ × Entry) = set_value (is_at (nat_cmp name)) entries new in
        let f : ℕ → ℕ → ℕ = λ k u. u + name_count k (used_names node) in
        let few : length (nodes_in new.object) ≤ 256 =
        grind (arith, capacity, is, nat_tests, length-map, length-append) in
        let are = entries-after next charge entries h name old new found same (λ _. few) bytes
        (λ k given. rw (now_is k (with_node g node) is)
        (All-with_node (λ n. n < next) g node (rw (← before_is k) given) below))
        in
        let each = uses-after next charge entries h name old new found same in
        table_of next charge (recounted f then) (entries-recounted f next then are)
        (charged-after next charge entries h name old new found same bytes
        ∙ ap charge_of (sym (named-recounted f then)))
        (uses-recounted f then (λ k d below. let n = (get_or then k d).0 in
        omega (
          arith,
          each k d below,
          times-after next charge entries h name old new found same n,
          ap
              (name_count n) (before_is name),
          ap (name_count n) (now_is name (with_node g node) is),
          times-with_node g node n,
        )))
        (held-more (used_names node) then
        (held-after next charge entries h name old new found same still))

    -- ---- one node less

    module _ (number : ℕ) (graph_holds : IsGraph (graph_value old.object))
        (there : find (λ n. n.number == number) (graph_value old.object).nodes
        ≡ Some (record { number = number; node = node }))
        (is : new.object ≡ GraphObject (without_node (graph_value old.object) number)) where
      fewer-removed : (n : ℕ)
          → name_count n (names_used (map entry_object entries))
          ≡ name_count n
          (names_used (map entry_object (set_value (is_at (nat_cmp name)) entries new))) +
          name_count n (used_names node)
      fewer-removed n =
          grind (
            arith,
            times-after next charge entries h name old new found same n,
            before_is name,
            times-after,
            before_is,
            now_is,
            times-without_node,
          )

      entries-removed : AreEntries next (set_value (is_at (nat_cmp name)) entries new)
      entries-removed =
          let g = graph_value old.object in
          let test : Numbered → Bool = λ n. not (n.number == number) in
          let few : length (nodes_in new.object) ≤ 256 =
          omega (
            arith,
            graph_holds.count,
            ap (λ o. length (nodes_in o)) is,
            length-map (filter test g.nodes) (λ (n : Numbered). n.node),
            length-filter test g.nodes,
            count_by-le-length test g.nodes,
          ) in
          entries-after next charge entries h name old new found same (λ _. few) bytes
          (λ k given. rw (now_is k (without_node g number) is)
          (All-without_node (λ n. n < next) g number (rw (← before_is k) given)))

-- ---- the objects that are held after uses end

-- entries with new use counts, and those that are left when entries no longer held are dropped
pub record AreLeft (next : ℕ) (changed less : List (ℕ × Entry)) : Type 0 where
  pub table : IsTable next (charge_of (map entry_object (kept_entries less))) (kept_entries less)
  pub shown : map entry_object (kept_entries less) ≡ still_held (map entry_object changed)

module _ (next charge : ℕ) (entries : List (ℕ × Entry)) (h : IsTable next charge entries)
    (name : ℕ) (old new : Entry) (found : lookup (is_at (nat_cmp name)) entries ≡ Some old)
    (same : new.uses ≡ old.uses) (gone : List ℕ)
    (fewer : (n : ℕ) → name_count n (names_used (map entry_object entries)) ≡ name_count n
    (names_used (map entry_object (set_value (is_at (nat_cmp name)) entries new))) + name_count
    n gone)
    (are : AreEntries next (set_value (is_at (nat_cmp name)) entries new))
    (less : List (ℕ × Entry))
    (is : less ≡ used_less gone (set_value (is_at (nat_cmp name)) entries new)) where
  abbrev then : List (ℕ × Entry)
  then = set_value (is_at (nat_cmp name)) entries new

  abbrev anew : ℕ → ℕ → ℕ
  anew k u = u - name_count k gone

  uses-less : All (λ e. e.1.uses ≡ name_count e.0 (names_used (map entry_object less))) less
  uses-less =
      let before = uses-after next charge entries h name old new found same in
      rw is
      (uses-recounted anew then
      (λ k d below. omega (arith, before k d below, fewer (get_or then k d).0)))

  -- the entries that are left
  pub are-left : AreLeft next then less
  are-left =
      record {
        table = IsTable-kept next less (rw is (entries-recounted anew next then are)) uses-less;
        shown = grind (arith, shown-kept less uses-less, named-recounted anew then);
      }

module _ (next charge : ℕ) (entries : List (ℕ × Entry)) (h : IsTable next charge entries)
    (name : ℕ) (old : Entry) (found : lookup (is_at (nat_cmp name)) entries ≡ Some old)
    (live : old.live ≡ true) (less : List (ℕ × Entry)) where
  -- once a graph has lost a node
  pub removed-left : (object : ObjectValue)
      → object_bytes object ≡ object_bytes old.object
      → object_kind old.object ≡ Kind.Graph
      → (node : Node) (number : ℕ)
      → IsGraph (graph_value old.object)
      → find (λ n. n.number == number) (graph_value old.object).nodes
      ≡ Some (record { number = number; node = node })
      → object ≡ GraphObject (without_node (graph_value old.object) number)
      → less
      ≡ used_less (used_names node)
      (set_value (is_at (nat_cmp name)) entries (record old { object = object }))
      → AreLeft next (set_value (is_at (nat_cmp name)) entries (record old { object = object }))
      less
  removed-left object bytes graph node number holds there is =
      search (rules, are-left, fewer-removed, entries-removed)

  -- once a name isn't live
  pub released-left :
      less
      ≡ used_less (names_in old.object)
      (set_value (is_at (nat_cmp name)) entries (record old { live = false }))
      → AreLeft next (set_value (is_at (nat_cmp name)) entries (record old { live = false })) less
  released-left is =
      let ended = record old { live = false } in
      are-left next charge entries h name old ended found refl (names_in old.object)
      (λ n. omega (
        arith,
        times-after next charge entries h name old ended found refl n,
        ap (name_count n)
            (used_when_live name old live),
      ))
      (entries-after next charge entries h name old ended found refl (λ few. few) refl
      (λ k optional_cells. All-nil (λ n. n < next)))
      less is

-- ---- a table that shows a context

-- an entry that is as it was
pub unchanged : (t : Context) (next : ℕ) (entries : List (ℕ × Entry))
    → ◌≡◌ {A = Context} (record { next = next; objects = map entry_object entries }) t
    → (name : ℕ) (old : Entry)
    → lookup (is_at (nat_cmp name)) entries ≡ Some old
    → (object : ObjectValue) (after : List (ℕ × Entry))
    → object ≡ old.object
    → after ≡ set_value (is_at (nat_cmp name)) entries (record old { object = object })
    → ◌≡◌ {A = Context} (record { next = next; objects = map entry_object after }) t
unchanged t next entries view name old found object after is then =
    grind (arith, set_value_same (is_at (nat_cmp name)) entries old found)

module _ (t : Context) (next charge : ℕ) (entries : List (ℕ × Entry))
    (view : ◌≡◌ {A = Context} (record { next = next; objects = map entry_object entries }) t)
    (h : IsTable next charge entries) where
  -- nothing has a name that isn't found
  pub none_there : (name : ℕ)
      → lookup (is_at (nat_cmp name)) entries ≡ None
      → object_named t.objects name ≡ None
  none_there name none = grind (arith, none_named entries name none)

  -- the object of a live name
  pub named_there : (name : ℕ) (old : Entry)
      → lookup (is_at (nat_cmp name)) entries ≡ Some old
      → object_named t.objects name ≡ if_live old
  named_there name old found = grind (arith, named_is entries name old, in_order)

  pub live_there : (name : ℕ) (old : Entry)
      → lookup (is_at (nat_cmp name)) entries ≡ Some old
      → IsTrue (is_some (object_named t.objects name))
      → old.live ≡ true
  live_there name old found some = grind (arith, named_there name old found, if_live old)

  -- names that are held are below the next
  pub all_below : (names : List ℕ)
      → All (λ name. IsTrue (is_some (object_held t.objects name))) names
      → All (λ n. n < next) names
  all_below names held =
      grind (
        arith,
        All-weaker (λ name. IsTrue (is_some (object_held t.objects name))) (λ n. n < next)
            (λ name some. held_below next entries name h.below
            (ap (λ (c : Context). is_some (object_held c.objects name)) view ∙ some))
            names held,
      )
