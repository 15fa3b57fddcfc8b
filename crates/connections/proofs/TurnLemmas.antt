-- The turn of a frame, from its parts.
use Rattle.std.proofs.Common.{◌≡◌, ℕ, List, Option, Err, arith, refl, sym, ap, ◌∙◌}
use Rattle.std.specs.Int.{w32, to_be_bytes}
use Rattle.std.specs.Io.KnownBytes.{Consumes}
use Rattle.client_model.specs.Context.{State}
use Rattle.client_model.specs.Limits.{LimitsValue}
use Rattle.client_contexts.specs.World.{World, state_of}
use Rattle.vx_requests.specs.Frame.Frames.{IsLength}
use Rattle.vx_requests.specs.Frame.Reading.{ReadsPart}
use Rattle.vx_requests.specs.Serving.Clients.{spelled_frame}
use Rattle.vx_requests.specs.Serving.Turn.{AnswersPayload, Turn, said_in, reply_frame}
use Rattle.vx_requests.specs.declared.serving.answered.ReplyContent.{ReplyContent}
use Rattle.vx_requests.specs.declared.stream.fault.StreamFault.{StreamFault}
use Rattle.vx_requests.proofs.Turns.{failed_turn}
use Rattle.connections.specs.Connections.{states_in}
use Rattle.connections.specs.Numbers.{IsNumbering, number_for, connections_view}
use Rattle.connections.specs.declared.numbers.Numbers.{Numbers}
use Rattle.connections.proofs.NumberingLemmas.{states_in-connections_view, state_found}

-- reading stopped within the client and the op
front_failed :
    (limits : LimitsValue) (a b : Option (List ℕ)) (states : ℕ → State) (len : ℕ) (e : StreamFault)
    → IsLength len
    → ReadsPart a b 3 e
    → AnswersPayload limits a b states states len (Err e)
front_failed limits a b states len e ok (part, read, fewer, breaks) =
    ((part, read, omega (arith, fewer, ok.0), breaks), λ client. refl)

pub front_turn :
    (limits : LimitsValue) (a b c to : Option (List ℕ)) (states : ℕ → State) (len : ℕ)
    (e : StreamFault)
    → Consumes a b (to_be_bytes w32 len)
    → IsLength len
    → ReadsPart b c 3 e
    → Turn limits a c to to states states (Err e)
front_turn limits a b c to states len e front ok read =
    failed_turn limits a b c to states states len front e ok
    (front_failed limits b c states len e ok read)

-- the reply under the client's own number, from the state under the number that was found
pub told :
    (limits : LimitsValue) (world : World) (n : Numbers) (connection client number op : ℕ)
    (content : ReplyContent)
    → IsNumbering n world
    → number ≡ number_for n connection client
    → world.limits ≡ limits
    → spelled_frame client op (said_in world.limits (state_of number world) content)
    ≡ reply_frame limits (states_in (connections_view world n) connection)
    (record { client = client; op = op; content = content })
told limits world n connection client number op content h found same =
    ap
    (λ (l : LimitsValue). spelled_frame client op (said_in l (state_of number world) content))
    same
    ∙ ap (λ (s : State). spelled_frame client op (said_in limits s content))
    (sym
    (states_in-connections_view world n connection client
    ∙ state_found connection client number n world h found))
