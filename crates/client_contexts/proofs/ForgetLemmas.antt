-- The graphs that are kept after a request.
use Rattle.std.proofs.Common.{◌≡◌, ℕ, Bool, false, List, [], ◌∷◌, None, All, ◌==◌, arith, map-id, subst}
use Rattle.client_contexts.proofs.Common.{is_at, lookup, remove_entry, nat_cmp, All-nil, All-cons, exact_unsigned, Request, KeptGraph, forgotten_by, All-map-remove_entry}
use Rattle.std.specs.List.{AllByRecursion}
use Rattle.std.proofs.lemmas.Map.{none_passes_from_lookup}
use Rattle.client_model.specs.declared.request.Request.TheVariants.{AddNode, RemoveNode, Release}

-- a name whose lookup doesn't stop at an entry differs from the entry's name
differs : (name other : ℕ) → is_at (nat_cmp name) other ≡ false → (name == other) ≡ false
differs name other apart = grind arith

-- the lookup of a different name doesn't stop at an entry
pub apart : (name other : ℕ) → (name == other) ≡ false → is_at (nat_cmp name) other ≡ false
apart name other differs = grind (arith, exact_unsigned)

-- if nothing is found under a name, all entries have other names
pub others_left : (name : ℕ) (entries : List (ℕ × KeptGraph))
    → lookup (is_at (nat_cmp name)) entries ≡ None
    → All (λ k. (name == k.0) ≡ false) entries
others_left name entries none =
    each entries (none_passes_from_lookup (is_at (nat_cmp name)) entries none)
  where
    each : (es : List (ℕ × KeptGraph))
        → AllByRecursion (λ e. is_at (nat_cmp name) e.0 ≡ false) es
        → All (λ k. (name == k.0) ≡ false) es
    each [] apart = All-nil (λ k. (name == k.0) ≡ false)
    each (e ∷ es) apart =
        All-cons (λ k. (name == k.0) ≡ false) e es (differs name e.0 apart.0) (each es apart.1)

module _ (P : ℕ × KeptGraph → Type 0) where
  -- a property of all entries holds for the rest
  without : (test : ℕ → Bool) (entries : List (ℕ × KeptGraph))
      → All P entries
      → All P (remove_entry test entries)
  without test entries all =
      subst (All P) (map-id (remove_entry test entries))
      (All-map-remove_entry test (λ (e : ℕ × KeptGraph). e) P entries (rw map-id all))

  pub left_by : (request : Request) (entries : List (ℕ × KeptGraph))
      → All P entries
      → All P (forgotten_by request entries)
  left_by (AddNode graph n) entries all = without (is_at (nat_cmp graph)) entries all
  left_by (RemoveNode graph number) entries all = without (is_at (nat_cmp graph)) entries all
  left_by (Release name) entries all = without (is_at (nat_cmp name)) entries all
  left_by other entries all = all
