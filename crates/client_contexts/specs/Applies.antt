-- The effect of a call of `apply`.
use Rattle.std.specs.Prelude.{◌≡◌, ◌≢◌, ℕ, Result, IfOk, OnOk, OnErr}
use Rattle.client_model.specs.declared.request.Request.{Request}
use Rattle.client_model.specs.declared.reply.Reply.{Reply}
use Rattle.client_contexts.specs.declared.memory.NoMemory.{NoMemory}
use Rattle.client_model.specs.Request.{TakesMemory}
use Rattle.client_model.specs.Answer.{answer_to}
use Rattle.client_contexts.specs.Kept.{KeepsVerified}
use Rattle.client_contexts.specs.World.{World, state_of, verified_of}

-- the effect of a call of `apply`. If the result is Ok, the reply and the client's new state are
-- those of the model. If there is no memory, no state changes. The states of other clients never
-- change.
pub record Applies (client : ℕ) (request : Request) (old new : World)
    (result : Result Reply NoMemory) : Type 0 where
  pub limits : new.limits ≡ old.limits
  pub reply : IfOk result (λ r. r ≡ (answer_to old.limits (state_of client old) request).0)
  pub own :
      OnOk result (state_of client new ≡ (answer_to old.limits (state_of client old) request).1)
  pub others : (other : ℕ) → other ≢ client → state_of other new ≡ state_of other old
  pub no_memory : OnErr result ((each : ℕ) → state_of each new ≡ state_of each old)
  pub takes : OnErr result (TakesMemory request)

-- the effect of a call of `apply` on the client's cache of verified graphs; the caches of other
-- clients don't change
pub record AppliesToKept (client : ℕ) (request : Request) (old new : World)
    (result : Result Reply NoMemory) : Type 0 where
  pub own :
      KeepsVerified old.limits.work request (verified_of client old) (verified_of client new) result
  pub others : (other : ℕ) → other ≢ client → verified_of other new ≡ verified_of other old

-- a client's request has this reply, and leaves the client's state unchanged
abbrev pub IsAnswered : ℕ → Request → World → Reply → Type 0
IsAnswered client request world reply =
    answer_to world.limits (state_of client world) request ≡ (reply, state_of client world)
