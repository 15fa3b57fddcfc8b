-- No answer of the model has the code NO_MEMORY.
use Rattle.std.proofs.Common.{◌≡◌, ◌≢◌, ℕ, false, List, Result, Ok, Err, refl, ◌==◌}
use Rattle.vx_requests.proofs.Common.{Code, NoMemory, Request, Reply, Refused, LimitsValue, State, answer_to, BodyFault, request_of, said_of, answer_spelled}
use Rattle.vx_base.specs.Code.{code_number}
use Rattle.client_laws.proofs.RefusalLaws.{never_no_memory}
use Rattle.vx_wire.specs.declared.body_fault.BodyFault.TheVariants.{InvalidValue}
use Rattle.vx_requests.specs.Serving.Answer.{answer}

-- every other code has another number
other_number : (code : Code) → code ≢ NoMemory → (code_number code == 1) ≡ false
other_number NoMemory other = absurd (other refl)
other_number code other = refl

-- a reply that does not say so has another code
said-other : (reply : Reply) → reply ≢ Refused NoMemory → ((said_of reply).code == 1) ≡ false
said-other (Refused code) other = other_number code (λ e. other cc)
said-other other_reply other = refl

spelled-other : (limits : LimitsValue) (state : State) (spelled : Result Request BodyFault)
    → ((answer_spelled limits state spelled).0.code == 1) ≡ false
spelled-other limits state (Ok request) =
    said-other (answer_to limits state request).0 (never_no_memory limits state request)
spelled-other limits state (Err InvalidValue) = refl
spelled-other limits state other = refl

pub answer-other : (limits : LimitsValue) (state : State) (op : ℕ) (body : List ℕ)
    → ((answer limits state op body).0.code == 1) ≡ false
unfolding answer
answer-other limits state op body = spelled-other limits state (request_of op body)
