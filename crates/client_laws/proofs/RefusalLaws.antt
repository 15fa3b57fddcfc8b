-- A reply that is a refusal: what it says, and that it leaves the state.
use Rattle.std.proofs.Common.{◌≡◌, ◌≢◌, Some, None, IfOk, arith, Result, Option, ◌∷◌}
use Rattle.client_laws.proofs.Common.{Context, Request, Refusal, Refused, Empty, LimitsValue, State, Outcome, refusal_code, reply_unless, outcome_of, reply_and_state, answer_to, Reference, reference_to, WriteImagePgm, AddNode, Immediate, graph_named, operands}
use Rattle.vx_base.specs.Image.{ImageValue}
use Rattle.vx_base.specs.declared.code.Code.{Code}
use Rattle.vx_base.specs.declared.code.Code.TheVariants.{Success, NoMemory}
use Rattle.client_model.specs.declared.refusal.Refusal.TheVariants.{InvalidReference}
use Rattle.vx_base.specs.declared.kind.Kind.TheVariants as kind
use Rattle.vx_base.specs.Picture.{PictureValue}
use Rattle.pgm_images.specs.declared.fault.PgmFault.{PgmFault}
use Rattle.pgm_images.specs.Reading.{read_result}
use Rattle.client_model.specs.Operands.{image_of, operands_refusal}
use Rattle.client_model.specs.Images.{write_text_to}
use Rattle.client_model.specs.Refusal.{refused_or}
use Rattle.client_model.specs.Graphs.{add_to}
use Rattle.client_model.specs.Immediate.{node_refusal}

-- ---- a request that succeeds has no refusal as its reply

-- the reply of a successful outcome is no refusal
abbrev pub IsTold : Outcome → Type 0
IsTold outcome = IfOk outcome (λ done. (code : Code) → done.0 ≢ Refused code)

-- nor is that of writing the picture of a text
write_text_told :
    (image : Result ImageValue Refusal) (c : Context) (cell : Reference)
    (picture : Result PictureValue PgmFault)
    → IsTold (write_text_to image c cell picture)
write_text_told image c cell picture = grind arith

-- nor is that of `reply_unless`
unless_told : (refusal : Option Refusal) (c : Context) → IsTold (reply_unless refusal Empty c)
unless_told refusal c = grind arith

-- nor is that of `refused_or`
refused_or_told : (refusal : Option Refusal) (outcome : Outcome)
    → IsTold outcome
    → IsTold (refused_or refusal outcome)
refused_or_told refusal outcome h = grind arith

-- nor is that of any request
pub outcome_told : (limits : LimitsValue) (c : Context) (request : Request)
    → IsTold (outcome_of limits c request)
outcome_told limits c (WriteImagePgm cell text) =
    write_text_told (image_of c.objects cell) c cell (read_result text)
outcome_told limits c (AddNode graph n) =
    refused_or_told
    (operands_refusal (Some graph) c.objects ((reference_to graph, kind.Graph) ∷ operands n))
    (add_to (graph_named c.objects graph) c graph n) (grind arith)
outcome_told limits c (Immediate n) = unless_told (node_refusal c.objects n) _
outcome_told limits c other = grind arith

-- ---- what a refusal says

-- no refusal says success, nor that there is no memory
refusal_says : (refusal : Refusal)
    → (refusal_code refusal ≢ Success) × (refusal_code refusal ≢ NoMemory)
refusal_says refusal = grind arith

-- ---- replies

-- a reply that is a refusal leaves the context
answered_leaves : (c : Context) (outcome : Outcome) (code : Code)
    → IsTold outcome
    → (reply_and_state c outcome).0 ≡ Refused code
    → (reply_and_state c outcome).1 ≡ Some c
answered_leaves c outcome code told e = grind (arith, told)

-- a reply says no code that no refusal says
answered_without : (c : Context) (outcome : Outcome) (code : Code)
    → IsTold outcome
    → ((refusal : Refusal) → refusal_code refusal ≢ code)
    → (reply_and_state c outcome).0 ≢ Refused code
answered_without c outcome code told never = grind (arith, told, never)

-- a reply that is a refusal leaves the state
pub refusal_leaves : (limits : LimitsValue) (state : State) (request : Request) (code : Code)
    → (answer_to limits state request).0 ≡ Refused code
    → (answer_to limits state request).1 ≡ state
refusal_leaves limits None request code e = grind arith
refusal_leaves limits (Some c) request code e =
    answered_leaves c (outcome_of limits c request) code (outcome_told limits c request) e

-- a reply says no code that no refusal says
never_said : (limits : LimitsValue) (state : State) (request : Request) (code : Code)
    → ((refusal : Refusal) → refusal_code refusal ≢ code)
    → (answer_to limits state request).0 ≢ Refused code
never_said limits None request code never = grind (arith, never InvalidReference)
never_said limits (Some c) request code never =
    answered_without c (outcome_of limits c request) code (outcome_told limits c request) never

-- no reply is a refusal that says success
pub never_success : (limits : LimitsValue) (state : State) (request : Request)
    → (answer_to limits state request).0 ≢ Refused Success
never_success limits state request =
    never_said limits state request Success (λ refusal. (refusal_says refusal).0)

-- no reply is a refusal that says that there is no memory
pub never_no_memory : (limits : LimitsValue) (state : State) (request : Request)
    → (answer_to limits state request).0 ≢ Refused NoMemory
never_no_memory limits state request =
    never_said limits state request NoMemory (λ refusal. (refusal_says refusal).1)

-- what no refusal says
pub ruleset refusals = (never_success, never_no_memory)
