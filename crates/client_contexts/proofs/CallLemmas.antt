-- A kept graph, from call to call.
use Rattle.std.proofs.Common.{◌≡◌, ℕ, false, List, [], ◌∷◌, Result, Ok, inl, inr, refl, sym, subst, All, OnErr, ◌==◌, eqb-true}
use Rattle.client_contexts.proofs.Common.{All-head, All-tail, Reply, Empty, VerifyGraph, IsKeptWithin, ends_verification, World, cases_Bool}
use Rattle.std.proofs.lemmas.Bool.{eqb-false}
use Rattle.std.proofs.lemmas.Result.{on_err_weaker}
use Rattle.client_contexts.specs.declared.memory.NoMemory.{NoMemory}
use Rattle.client_contexts.specs.Calls.{Call, Does, Lead}
use Rattle.client_contexts.specs.World.{verified_of}

module _ (client graph : ℕ) where
  -- the client keeps the graph as verified
  abbrev IsKeptIn : World → Type 0
  IsKeptIn world = IsKeptWithin world.limits.work graph (verified_of client world)

  -- the calls that may come between
  abbrev Spares : Call → Type 0
  Spares call = call.client ≡ client → ends_verification call.request graph ≡ false

  kept_after_call : (call : Call) (old new : World)
      → Does call old new
      → Spares call
      → IsKeptIn old
      → IsKeptIn new
  kept_after_call call old new does spares kept =
      elim (cases_Bool (call.client == client)) [
        | inl is ↦
            let own : call.client ≡ client = eqb-true call.client client is in
            rw (does.applies.limits, ← own) (does.kept.own.stays graph (spares own) (rw own kept))
        | inr is ↦
            rw (
              does.applies.limits,
              does.kept.others client (λ same. eqb-false call.client client is (sym same)),
            ) kept
      ]

  kept_after_calls : (calls : List Call) (old new : World)
      → Lead calls old new
      → All Spares calls
      → IsKeptIn old
      → IsKeptIn new
  kept_after_calls [] old new lead spare kept = subst IsKeptIn (sym lead) kept
  kept_after_calls (call ∷ calls) old new lead spare kept =
      kept_after_calls calls lead.0 new lead.2 (All-tail Spares call calls spare)
      (kept_after_call call old lead.0 lead.1 (All-head Spares call calls spare) kept)

  -- so long VerifyGraph finds memory
  pub finds_memory :
      (first verified later last : World) (calls : List Call) (result : Result Reply NoMemory)
      → Does (record { client = client; request = VerifyGraph graph; result = Ok Empty }) first
      verified
      → Lead calls verified later
      → All Spares calls
      → Does (record { client = client; request = VerifyGraph graph; result = result }) later last
      → OnErr result ⊥
  finds_memory first verified later last calls result found lead spare again =
      let begun : IsKeptIn verified =
      rw found.applies.limits (found.kept.own.found refl graph (inl refl)) in
      on_err_weaker result
      (λ lost. lost graph refl (kept_after_calls calls verified later lead spare begun))
      again.kept.own.lost
