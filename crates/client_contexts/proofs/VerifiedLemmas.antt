-- The graphs that are kept as verified, through a client's requests.
use Rattle.std.proofs.Common.{◌≡◌, ◌≢◌, ◌∙◌, ℕ, false, cond, All, get_or, refl, List, Some, Result, Ok, ◌⊎◌, inl, inr, sym, subst, IfErr, OnOk, OnErr, arith}
use Rattle.client_contexts.proofs.Common.{cases_Bool, is_at, lookup, nat_cmp, Reply, Request, VerifyGraph, ProcessGraph, RequestFault, KeptGraph, verified_in, IsKeptWithin, KeepsVerified, ends_verification, client_result}
use Rattle.std.proofs.lemmas.Map.Made.{lookup-map_values}
use Rattle.vx_base.specs.declared.code.Code.{Code}
use Rattle.client_model.specs.declared.reply.Reply.TheVariants as reply
use Rattle.client_contexts.specs.declared.memory.NoMemory.{NoMemory}
use Rattle.client_contexts.specs.Kept.{kept_within, runs_graph, StayKept}
use Rattle.client_contexts.specs.Steps.{WantsMemory}

-- ---- entries

-- the work bytes listed for a name are those of its kept graph
pub shown : (graph : ℕ) (kept : List (ℕ × KeptGraph))
    → lookup (is_at (nat_cmp graph)) (verified_in kept) ≡ kept_within graph kept
shown graph kept = lookup-map_values (λ (k : KeptGraph). k.work) (is_at (nat_cmp graph)) kept

-- a graph that is still kept is still listed
pub shown_still : (work graph : ℕ) (old new : List (ℕ × KeptGraph))
    → (kept_within graph old ≡ Some work → kept_within graph new ≡ Some work)
    → IsKeptWithin work graph (verified_in old) → IsKeptWithin work graph (verified_in new)
shown_still work graph old new still is = shown graph new ∙ still (sym (shown graph old) ∙ is)

-- after a graph is kept with the work bytes, all others that were still are
pub stay_with_one : (work graph : ℕ) (k : KeptGraph)
    → k.work ≡ work
    → (old new : List (ℕ × KeptGraph))
    →
    ((q : ℕ) → lookup (is_at (nat_cmp q)) new
    ≡ cond (is_at (nat_cmp graph) q) (Some k) (lookup (is_at (nat_cmp q)) old))
    → StayKept work (verified_in old) (verified_in new)
stay_with_one work graph k same old new updates = λ q.
    shown_still work q old new
    (λ is. elim (cases_Bool (is_at (nat_cmp graph) q))
    [ inl here ↦ rw (updates q, here, same) | inr apart ↦ rw (updates q, apart) is ])

-- ---- requests

-- a fact that holds in any case also holds in the case of an error
on_err : {A E P : Type 0} (result : Result A E) → P → OnErr result P
on_err result said = grind arith

-- VerifyGraph takes no memory while its graph is kept, so it lacks memory only if the graph wasn't
-- kept
lost_unkept :
    (work graph : ℕ) (request : Request) (kept : List (ℕ × KeptGraph))
    (result : Result Reply RequestFault)
    → (request ≡ VerifyGraph graph) ⊎ (request ≡ ProcessGraph graph)
    →
    (request ≡ VerifyGraph graph
    → IfErr result (λ f. WantsMemory f (kept_within graph kept ≢ Some work)))
    → OnErr (client_result result)
    ((name : ℕ) → request ≡ VerifyGraph name → IsKeptWithin work name (verified_in kept) → ⊥)
lost_unkept work graph request kept result is takes = grind (arith, shown, takes)

-- a request to verify or to run a graph
pub ran_keeps :
    (work graph : ℕ) (request : Request) (old new : List (ℕ × KeptGraph))
    (result : Result Reply RequestFault)
    → (request ≡ VerifyGraph graph) ⊎ (request ≡ ProcessGraph graph)
    →
    (request ≡ VerifyGraph graph
    → IfErr result (λ f. WantsMemory f (kept_within graph old ≢ Some work)))
    → OnOk result (kept_within graph new ≡ Some work)
    → StayKept work (verified_in old) (verified_in new)
    → KeepsVerified work request (verified_in old) (verified_in new) (client_result result)
ran_keeps work graph request old new result is takes found stay =
    record {
      lost = lost_unkept work graph request old result is takes;
      found =
          λ told name asks. subst (λ (n : ℕ). IsKeptWithin work n (verified_in new))
          (same_graph name is asks) (of_result result told found);
      stays = λ name _. stay name;
      ends = λ _ _ _ n d _. runs_on is (get_or (verified_in new) n d).0;
      refused = λ code _. stay;
      no_memory = on_err (client_result result) stay;
    }
  where
    same_graph : (name : ℕ)
        → (request ≡ VerifyGraph graph) ⊎ (request ≡ ProcessGraph graph)
        → (request ≡ VerifyGraph name) ⊎ (request ≡ ProcessGraph name)
        → graph ≡ name
    same_graph name first second = grind arith

    runs_on : (request ≡ VerifyGraph graph) ⊎ (request ≡ ProcessGraph graph)
        → (name : ℕ)
        → ends_verification request name ≡ false
    runs_on (inl verifies) name = rw verifies refl
    runs_on (inr runs) name = rw runs refl

    of_result : (r : Result Reply RequestFault)
        → client_result r ≡ Ok reply.Empty
        → OnOk r (kept_within graph new ≡ Some work)
        → IsKeptWithin work graph (verified_in new)
    of_result r told said = grind (arith, shown)

-- another request
module _ (work : ℕ) (request : Request) (others : runs_graph request ≡ false)
    (old new : List (ℕ × ℕ)) where
  asks_none : (name : ℕ) → (request ≡ VerifyGraph name) ⊎ (request ≡ ProcessGraph name) → ⊥
  asks_none name asks = grind (arith, others)

  -- it is done, and forgets only the graphs that it ends
  pub done_keeps : (made : Reply) → ((code : Code) → made ≢ reply.Refused code)
      →
      ((name : ℕ)
      → ends_verification request name ≡ false
      → IsKeptWithin work name old
      → IsKeptWithin work name new)
      → All (λ g. ends_verification request g.0 ≡ false) new
      → KeepsVerified work request old new (Ok made)
  done_keeps made told stays ends =
      record {
        lost = tt;
        found = λ _ name asks. absurd (asks_none name asks);
        stays = stays;
        ends = λ _ _ _. ends;
        refused = λ code refuses. absurd (told code (cc));
        no_memory = tt;
      }

  -- a request that forgets nothing
  pub same_keeps : (result : Result Reply NoMemory)
      → ((name : ℕ) → ends_verification request name ≡ false)
      → new ≡ old
      → KeepsVerified work request old new result
  same_keeps result spares same =
      let stay : StayKept work old new =
      λ name kept. subst (IsKeptWithin work name) (sym same) kept in
      record {
        lost = on_err result (λ name asks _. asks_none name (inl asks));
        found = λ _ name asks. absurd (asks_none name asks);
        stays = λ name _. stay name;
        ends = λ _ _ _ n d _. spares (get_or new n d).0;
        refused = λ code _. stay;
        no_memory = on_err result stay;
      }
