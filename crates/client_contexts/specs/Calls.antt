-- Sequences of calls of `apply`.
use Rattle.std.specs.Prelude.{ℕ, ◌≡◌, List, [], ◌∷◌, Result}
use Rattle.client_model.specs.declared.request.Request.{Request}
use Rattle.client_model.specs.declared.reply.Reply.{Reply}
use Rattle.client_contexts.specs.declared.memory.NoMemory.{NoMemory}
use Rattle.client_contexts.specs.Applies.{Applies, AppliesToKept}
use Rattle.client_contexts.specs.World.{World}

-- a client's request and its result
pub record Call : Type 0 where
  pub client : ℕ
  pub request : Request
  pub result : Result Reply NoMemory

-- the effect of a call
pub record Does (call : Call) (old new : World) : Type 0 where
  pub applies : Applies call.client call.request old new call.result
  pub kept : AppliesToKept call.client call.request old new call.result

-- the calls lead from one world to another
abbrev pub Lead : List Call → World → World → Type 0
Lead [] old new = new ≡ old
Lead (call ∷ calls) old new = (next : World) × Does call old next × Lead calls next new
