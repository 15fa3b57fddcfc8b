-- How often nodes use each object.
use Rattle.std.proofs.Common.{◌≡◌, ℕ, ◌+◌, ◌-◌, ◌<◌, ◌≤◌, Bool, cond, List, [], ◌∷◌, ◌++◌, length, map, get_or, take, Option, Some, None, refl, ap, arith, ◌==◌, All}
use Rattle.object_table.proofs.Common.{nat_cmp, keys_of, lookup, set_value, is_at, flat_map, option_map, map-append, length-map, get_or-map, All-map, sum_by-append, count_by-le-length, sorted_tail, Node, Numbered, Reference, optional_cells, ObjectValue, Entry, used_more, used_names, name_count, flat_map_more, take_more}
use Rattle.object_table.proofs.EntryLemmas.{InOrder, same_name, past_head}

-- how often a name occurs in two lists
pub times-append : (name : ℕ) (first second : List ℕ)
    → name_count name (first ++ second) ≡ name_count name first + name_count name second
times-append name first second = sum_by-append (λ other. cond (name == other) 1 0) first second

-- ---- entries with use counts raised, or lowered, by how often each name occurs in a list

-- an entry of other uses
abbrev pub with_uses : Entry → ℕ → Entry
with_uses n uses = record n { uses = uses }

-- `used_more` or `used_less`, as the operation says
abbrev pub used : (ℕ → ℕ → ℕ) → List ℕ → List (ℕ × Entry) → List (ℕ × Entry)
used op names entries =
    map {A = ℕ × Entry} {B = ℕ × Entry}
    (λ e. (e.0, with_uses e.1 (op e.1.uses (name_count e.0 names)))) entries

-- what it takes to use twice
pub record IsUse (op : ℕ → ℕ → ℕ) : Type 0 where
  pub nothing : (n : ℕ) → op n 0 ≡ n
  pub twice : (n a b : ℕ) → op (op n a) b ≡ op n (a + b)

abbrev pub more : ℕ → ℕ → ℕ
more n k = n + k

abbrev pub less : ℕ → ℕ → ℕ
less n k = n - k

pub more_is : IsUse more
more_is = record { nothing = λ n. omega arith; twice = λ n a b. omega arith }

pub less_is : IsUse less
less_is = record { nothing = λ n. omega arith; twice = λ n a b. omega arith }

module _ (op : ℕ → ℕ → ℕ) (is : IsUse op) where
  -- no names change nothing
  pub used-nil : (entries : List (ℕ × Entry)) → used op [] entries ≡ entries
  used-nil [] = refl
  used-nil (e ∷ entries) = grind (arith, used-nil entries)

  -- names after others
  pub used-append : (first second : List ℕ) (entries : List (ℕ × Entry))
      → used op second (used op first entries) ≡ used op (first ++ second) entries
  used-append first second [] = refl
  used-append first second (e ∷ entries) =
      grind (arith, used-append first second entries, times-append e.0 first second)

  -- a name that isn't there
  pub used-none : (entries : List (ℕ × Entry)) (name : ℕ)
      → lookup (is_at (nat_cmp name)) entries ≡ None
      → entries ≡ used op (name ∷ []) entries
  used-none [] name none = refl
  used-none (e ∷ entries) name none = grind (arith, used-none entries name, same_name name e.0)

  -- a name that is there
  pub used-one : (entries : List (ℕ × Entry)) (name : ℕ) (old : Entry)
      → InOrder entries
      → lookup (is_at (nat_cmp name)) entries ≡ Some old
      → set_value (is_at (nat_cmp name)) entries (with_uses old (op old.uses 1))
      ≡ used op (name ∷ []) entries
  used-one [] name old order found = cc
  used-one (e ∷ entries) name old order found =
      grind (
        arith,
        used-one entries name old (sorted_tail nat_cmp e.0 (keys_of entries) order),
        sorted_tail,
        same_name,
        used-none,
        past_head,
      )

  -- but for the uses each entry stays
  pub shown-used :
      {X : Type 0} (g : Bool → ObjectValue → X) (name : ℕ) (names : List ℕ)
      (entries : List (ℕ × Entry))
      → option_map (λ e. g e.live e.object) (lookup (is_at (nat_cmp name)) (used op names entries))
      ≡ option_map (λ e. g e.live e.object) (lookup (is_at (nat_cmp name)) entries)
  shown-used g name names [] = refl
  shown-used g name names (e ∷ entries) = grind (arith, shown-used g name names entries)

-- ---- what uses do to entries, for some names as for others after them

module _ (after : List ℕ → List (ℕ × Entry) → List (ℕ × Entry))
    (twice : (first second : List ℕ) (entries : List (ℕ × Entry))
    → after second (after first entries) ≡ after (first ++ second) entries)
  where
    -- the operands of a node, one after the other
    pub node_uses : (node : Node) (old first second third last : List (ℕ × Entry))
        → first ≡ after (node.in1.name ∷ []) old
        → second ≡ after (map (λ cell. cell.name) (optional_cells node.in2)) first
        → third ≡ after (map (λ cell. cell.name) (optional_cells node.out1)) second
        → last ≡ after (map (λ cell. cell.name) (optional_cells node.out2)) third
        → last ≡ after (used_names node) old
    node_uses node old first second third last at_first at_second at_third at_last =
        grind (arith, twice, map-append)

    -- one node more
    pub node_more :
        (nodes : List Node) (found : List Numbered) (k : ℕ) (item : Numbered) (node : Node)
        (old now next : List (ℕ × Entry))
        → now ≡ after (flat_map used_names (take k nodes)) old
        → map (λ n. n.node) found ≡ nodes
        → k < length found
        → node ≡ (get_or found k item).node
        → next ≡ after (used_names node) now
        → next ≡ after (flat_map used_names (take (k + 1) nodes)) old
    node_more nodes found k item node old now next so_far nodes_found there is then =
        let within : k < length nodes =
        omega (arith, there, ap length nodes_found, length-map found (λ n. n.node)) in
        let at : get_or nodes k node ≡ node =
        grind (arith, nodes_found, get_or-map (λ (n : Numbered). n.node) found k item node there) in
        let names :
        flat_map used_names (take k nodes) ++ used_names node
        ≡ flat_map used_names (take (k + 1) nodes) =
        cc (flat_map_more used_names [] (take k nodes) node, at, take_more nodes k node within) in
        cc (then, so_far, twice (flat_map used_names (take k nodes)) (used_names node) old, names)

-- more uses are no more than there are names
pub uses_within : (limit : ℕ) (names : List ℕ) (entries : List (ℕ × Entry))
    → All (λ e. e.1.uses ≤ limit) entries
    → All (λ e. e.1.uses ≤ limit + length names) (used_more names entries)
uses_within limit names entries h =
    grind (
      arith,
      All-map {X = ℕ × Entry} (λ e. e.1.uses ≤ limit + length names) {Y = ℕ × Entry}
          (λ e. (e.0, with_uses e.1 (e.1.uses + name_count e.0 names))) entries
          (λ k d below. omega (
            arith,
            h k d below,
            count_by-le-length (λ other. (get_or entries k d).0 == other)
                names,
          )),
    )

-- one operand is one use more at most
pub uses_after : (limit : ℕ) (operand : Option Reference) (entries after : List (ℕ × Entry))
    → All (λ e. e.1.uses ≤ limit) entries
    → after ≡ used_more (map (λ cell. cell.name) (optional_cells operand)) entries
    → All (λ e. e.1.uses ≤ limit + 1) after
uses_after limit operand entries after h then =
    rw then
    (λ k d below. grind (
      arith,
      uses_within limit (map (λ cell. cell.name) (optional_cells operand)) entries h k d
          below,
    ))
