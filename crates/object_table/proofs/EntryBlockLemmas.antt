-- In how many blocks of a pool the entries of a map have their samples.
use Rattle.std.proofs.Common.{◌≡◌, ℕ, ◌+◌, List, [], ◌∷◌, map, Some, refl, arith, rules, sum_by}
use Rattle.object_table.proofs.Common.{lookup, set_value, remove_entry, is_at, nat_cmp, sum_by-cons, Format, Entry, GraphValue, ObjectValue, GraphObject, object_kind, object_blocks, blocks_in, NamedObject, entry_object, Kind}
use Rattle.object_table.proofs.EntryLemmas.{sum-written, sum-removed}

-- in how many blocks of a format they have theirs
abbrev pub entry_blocks : List (ℕ × Entry) → Format → ℕ
entry_blocks entries format = blocks_in (map entry_object entries) format

-- those of the first, and of the rest
pub blocks-cons : (e : ℕ × Entry) (entries : List (ℕ × Entry)) (format : Format)
    → entry_blocks (e ∷ entries) format
    ≡ object_blocks e.1.object format + entry_blocks entries format
blocks-cons e entries format =
    sum_by-cons (λ (o : NamedObject). object_blocks o.object format) (entry_object e)
    (map entry_object entries)

-- they are the sum over the entries
blocks_is : (entries : List (ℕ × Entry)) (format : Format)
    → entry_blocks entries format ≡ sum_by (λ e. object_blocks e.1.object format) entries
blocks_is [] format = refl
blocks_is (e ∷ entries) format = search (rules, blocks_is entries format, sum_by-cons)

-- an entry that is removed leaves those of the others
pub blocks-removed : (entries : List (ℕ × Entry)) (name : ℕ) (old : Entry)
    → lookup (is_at (nat_cmp name)) entries ≡ Some old
    → (format : Format)
    → entry_blocks (remove_entry (is_at (nat_cmp name)) entries) format + object_blocks
    old.object format
    ≡ entry_blocks entries format
blocks-removed entries name old found format =
    omega (
      arith,
      blocks_is entries format,
      blocks_is (remove_entry (is_at (nat_cmp name)) entries) format,
      sum-removed (λ e. object_blocks e.1.object format) entries name old found,
    )

-- an entry that is written leaves those of the others
pub blocks-written : (entries : List (ℕ × Entry)) (name : ℕ) (old new : Entry)
    → lookup (is_at (nat_cmp name)) entries ≡ Some old
    → (format : Format)
    → blocks_in (map entry_object (set_value (is_at (nat_cmp name)) entries new)) format +
    object_blocks old.object format
    ≡ blocks_in (map entry_object entries) format + object_blocks new.object format
blocks-written entries name old new found format =
    omega (
      arith,
      blocks_is entries format,
      blocks_is (set_value (is_at (nat_cmp name)) entries new) format,
      sum-written (λ e. object_blocks e.1.object format) entries name old new found,
    )

-- ---- graphs

-- another graph under the same name occupies as many: none
pub graph_blocks : (old new : ObjectValue) (graph : GraphValue)
    → object_kind old ≡ Kind.Graph
    → new ≡ GraphObject graph
    → (format : Format)
    → object_blocks new format ≡ object_blocks old format
graph_blocks old new graph of_graph is format = grind (arith, of_graph, is)
