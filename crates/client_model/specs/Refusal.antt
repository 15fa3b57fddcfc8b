-- Refusals of requests. A refused request changes nothing.
use Rattle.std.specs.Prelude.{Option, Some, None, Result, Ok, Err}
use Rattle.vx_base.specs.declared.code.Code.{Code}
use Rattle.vx_base.specs.declared.code.Code.TheVariants as code
use Rattle.graph_verify.specs.Verdict.{verdict_code}
use Rattle.client_model.specs.declared.refusal.Refusal.{Refusal}
use Rattle.client_model.specs.declared.refusal.Refusal.TheVariants.{InvalidReference, InvalidType, InvalidValue, InvalidFormat, InvalidDimension, InvalidScope, OptimizedAway, NoResources, Rejected}
use Rattle.client_model.specs.declared.reply.Reply.{Reply}
use Rattle.object_table.specs.Context.{Context}
use Rattle.client_model.specs.Context.{State}

-- the status code of a refusal
abbrev pub refusal_code : Refusal → Code
refusal_code InvalidReference = code.InvalidReference
refusal_code InvalidType = code.InvalidType
refusal_code InvalidValue = code.InvalidValue
refusal_code InvalidFormat = code.InvalidFormat
refusal_code InvalidDimension = code.InvalidDimension
refusal_code InvalidScope = code.InvalidScope
refusal_code OptimizedAway = code.OptimizedAway
refusal_code NoResources = code.NoResources
refusal_code (Rejected verdict) = verdict_code verdict

-- the outcome of a request in a client's context: a reply and the client's new state, or a refusal
abbrev pub Outcome : Type 0
Outcome = Result (Reply × State) Refusal

-- the refusal, if there is one, or else the outcome
abbrev pub refused_or : Option Refusal → Outcome → Outcome
refused_or None outcome = outcome
refused_or (Some refusal) outcome = Err refusal

-- the reply and this new context, unless the request is refused
abbrev pub reply_unless : Option Refusal → Reply → Context → Outcome
reply_unless None reply c = Ok (reply, Some c)
reply_unless (Some refusal) reply c = Err refusal
