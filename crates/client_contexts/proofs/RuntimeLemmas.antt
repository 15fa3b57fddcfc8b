-- The invariant of a runtime, when contexts of clients are opened, change and end.
use Rattle.std.proofs.Common.{◌≡◌, ◌∙◌, ℕ, false, List, [], Result, Option, Some, None, sym, ap, arith, sum, sum_by, unwrap_or, ne_eqb}
use Rattle.client_contexts.proofs.Common.{insert_entry, is_at, lookup, remove_entry, option_map, nat_cmp, sum-map, Format, blocks_in, Request, Reply, LimitsValue, KeepsLimits, AppliesToKept, IsRuntime, KeepsVerified, ClientContext, All-map-remove_entry}
use Rattle.std.proofs.lemmas.Cmp.{nat_cmp_total}
use Rattle.std.specs.List.Sorted.{IsStrictlySortedBy}
use Rattle.std.specs.Map.{keys_of, values_of, set_value}
use Rattle.std.proofs.lemmas.Map.Entries.{sum_by-set_value, sum_by-remove_entry, sum_by-insert_entry}
use Rattle.std.proofs.lemmas.Map.Views.{All-values-insert_entry, All-values-set_value, IfSome-lookup_from_All}
use Rattle.std.proofs.lemmas.Simd.{map-map}
use Rattle.pixel_pool.specs.declared.pool.Pool.{Pool}
use Rattle.object_table.specs.Blocks.{LendsAtLeast, LendsLess, Balances}
use Rattle.object_table.specs.Context.{new_context}
use Rattle.client_model.proofs.StateLaws.{new_context_keeps}
use Rattle.client_contexts.specs.declared.memory.NoMemory.{NoMemory}
use Rattle.client_contexts.specs.Blocks.{clients_blocks}
use Rattle.client_contexts.proofs.ForgetLemmas.{apart}

-- the number of blocks that hold samples of a client's images
abbrev client_blocks : Format → ClientContext → ℕ
client_blocks format o = blocks_in o.context.objects format

-- those of all clients, by their contexts
blocks_of_values : (contexts : List (ℕ × ClientContext)) (format : Format)
    → sum_by (client_blocks format) (values_of contexts) ≡ clients_blocks contexts format
blocks_of_values contexts format =
    let of_entry : ℕ × ClientContext → ℕ = λ e. client_blocks format e.1 in
    sym (sum-map (client_blocks format) (values_of contexts))
    ∙ ap sum (map-map (client_blocks format) (λ (e : ℕ × ClientContext). e.1) contexts)
    ∙ sum-map of_entry contexts

-- a client without a state has no context that is open
pub none_open : (contexts : List (ℕ × ClientContext)) (client : ℕ)
    → option_map (λ (o : ClientContext). o.context) (lookup (is_at (nat_cmp client)) contexts)
    ≡ None
    → lookup (is_at (nat_cmp client)) contexts ≡ None
none_open contexts client none = grind arith

module _ (limits : LimitsValue) (contexts : List (ℕ × ClientContext)) (pool : Pool)
    (h : IsRuntime limits contexts pool) (client : ℕ) where
  -- the samples of a client's images are in lent blocks
  pub lends_to_client : (o : ClientContext)
      → lookup (is_at (nat_cmp client)) contexts ≡ Some o
      → LendsAtLeast pool (blocks_in o.context.objects)
  lends_to_client o found format =
      omega (
        arith,
        h.lent format,
        blocks_of_values contexts format,
        sum_by-remove_entry (client_blocks format) (is_at (nat_cmp client)) contexts,
        ap
            (λ (entry : Option ClientContext). unwrap_or
            (option_map (client_blocks format) entry) 0)
            found,
      )

  -- its context keeps the limits
  pub client_keeps : (o : ClientContext)
      → lookup (is_at (nat_cmp client)) contexts ≡ Some o
      → KeepsLimits limits o.context
  client_keeps o found =
      rw found at
      (IfSome-lookup_from_All (λ entry. KeepsLimits limits entry.context)
      (is_at (nat_cmp client)) contexts h.keeps)

  -- its context changes, and the number of lent blocks by as much
  pub changed_is : (o new : ClientContext) (changed : Pool)
      → lookup (is_at (nat_cmp client)) contexts ≡ Some o
      → KeepsLimits limits new.context
      → Balances pool changed o.context.objects new.context.objects
      → IsRuntime limits (set_value (is_at (nat_cmp client)) contexts new) changed
  changed_is o new changed found keeps balances =
      record {
        keeps =
            All-values-set_value (is_at (nat_cmp client))
            (λ entry. KeepsLimits limits entry.context) contexts new h.keeps keeps;
        lent = λ format.
            omega (
              arith,
              h.lent format,
              balances format,
              blocks_of_values,
              sum_by-set_value (client_blocks format) (is_at (nat_cmp client)) contexts o new found,
            );
      }

  -- its context ends, and its blocks are given back
  pub removed_is : (o : ClientContext) (changed : Pool)
      → lookup (is_at (nat_cmp client)) contexts ≡ Some o
      → LendsLess pool changed (blocks_in o.context.objects)
      → IsRuntime limits (remove_entry (is_at (nat_cmp client)) contexts) changed
  removed_is o changed found less =
      record {
        keeps =
            All-map-remove_entry (is_at (nat_cmp client)) (λ (e : ℕ × ClientContext). e.1)
            (λ entry. KeepsLimits limits entry.context) contexts h.keeps;
        lent = λ format.
            omega (
              arith,
              h.lent format,
              less format,
              blocks_of_values,
              sum_by-remove_entry (client_blocks format) (is_at (nat_cmp client)) contexts,
              ap
                  (λ (entry : Option ClientContext). unwrap_or
                  (option_map (client_blocks format) entry) 0)
                  found,
            );
      }

  -- a client without a context opens an empty one
  pub opened_is : lookup (is_at (nat_cmp client)) contexts ≡ None
      → IsStrictlySortedBy nat_cmp (keys_of contexts)
      → IsRuntime limits
      (insert_entry nat_cmp contexts client (record { context = new_context; verified = [] }))
      pool
  opened_is none sorted =
      let opened : ClientContext = record { context = new_context; verified = [] } in
      record {
        keeps =
            All-values-insert_entry nat_cmp client opened
            (λ entry. KeepsLimits limits entry.context) contexts h.keeps
            (new_context_keeps limits);
        lent = λ format.
            omega (
              arith,
              h.lent format,
              blocks_of_values,
              sum_by-insert_entry (client_blocks format) nat_cmp_total contexts client opened
                  sorted,
              ap
                  (λ (entry : Option ClientContext). unwrap_or
                  (option_map (client_blocks format) entry) 0)
                  none,
            );
      }

-- ---- kept graphs

-- the graphs of a client that are kept as verified; it may have no context
abbrev shown_of : Option ClientContext → List (ℕ × ℕ)
shown_of entry = unwrap_or (option_map (λ o. o.verified) entry) []

module _ (limits : LimitsValue) (client : ℕ) (request : Request)
    (result : Result Reply NoMemory) (old new : List (ℕ × ClientContext)) where
  -- the client's entry changes, and all others stay
  pub applies_to_kept : (before after : Option ClientContext)
      → lookup (is_at (nat_cmp client)) old ≡ before
      → lookup (is_at (nat_cmp client)) new ≡ after
      →
      ((other : ℕ)
      → is_at (nat_cmp client) other ≡ false
      → lookup (is_at (nat_cmp other)) new ≡ lookup (is_at (nat_cmp other)) old)
      → KeepsVerified limits.work request (shown_of before) (shown_of after) result
      → AppliesToKept client request (record { limits = limits; contexts = old })
      (record { limits = limits; contexts = new }) result
  applies_to_kept before after was is others keeps =
      record {
        own = rw (was, is) keeps;
        others =
            λ other differs. ap shown_of
            (others other (apart client other (ne_eqb client other (λ same. differs (sym same)))));
      }
