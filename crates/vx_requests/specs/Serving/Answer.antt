-- The reply to a frame of one client: the body is parsed, and the model answers the request.
use Rattle.std.specs.Prelude.{ℕ, List, Result, Ok, Err}
use Rattle.client_model.specs.declared.request.Request.{Request}
use Rattle.client_model.specs.Limits.{LimitsValue}
use Rattle.client_model.specs.Context.{State}
use Rattle.client_model.specs.Answer.{answer_to}
use Rattle.vx_wire.specs.declared.body_fault.BodyFault.{BodyFault}
use Rattle.vx_wire.specs.Requests.{request_of}
use Rattle.vx_wire.specs.Replies.{Said, refusal, said_of}
use Rattle.vx_wire.specs.Faults.{parse_fault, fault_code}

-- the reply and the client's new state, given the result of parsing a body; a body that encodes no
-- request is refused, whether or not the client has a context
abbrev pub answer_spelled : LimitsValue → State → Result Request BodyFault → Said × State
answer_spelled limits state (Ok request) =
    (said_of (answer_to limits state request).0, (answer_to limits state request).1)
answer_spelled limits state (Err fault) = (refusal (fault_code (parse_fault fault)), state)

-- the reply to a client's frame of this op and body, and the client's new state
unfoldable pub answer : LimitsValue → State → ℕ → List ℕ → Said × State
answer limits state op body = answer_spelled limits state (request_of op body)
