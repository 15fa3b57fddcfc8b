-- The effect of a request on the context of its client, and the lookup of a node's operands.
use Rattle.std.specs.Prelude.{ℕ, ◌≡◌, Bool, false, not, is_none, ⊤, if◌then◌else◌, List, ◌∷◌, Option, Some, None, Result, Ok, Err, IfOk, IfErr, OnErr}
use Rattle.vx_base.specs.declared.kind.Kind.{Kind}
use Rattle.vx_base.specs.Object.{ObjectValue, object_kind, same_kind}
use Rattle.graph_verify.specs.declared.operand.Operands.{Operands}
use Rattle.graph_verify.specs.declared.operand.Operand.{Operand}
use Rattle.graph_verify.specs.Operand.{other_operands}
use Rattle.graph_verify.specs.declared.fault.GraphFault.{GraphFault}
use Rattle.graph_verify.specs.declared.fault.GraphFault.TheVariants as graph
use Rattle.graph_verify.specs.declared.verified.VerifyFault.{VerifyFault}
use Rattle.graph_verify.specs.declared.verified.VerifyFault.TheVariants as verified
use Rattle.pgm_images.specs.declared.fault.PgmFault.{PgmFault}
use Rattle.pgm_images.specs.declared.fault.PgmFault.TheVariants as fault
use Rattle.client_model.specs.Images.{fault_refusal}
use Rattle.client_contexts.specs.declared.fault.RequestFault.{RequestFault}
use Rattle.client_contexts.specs.declared.fault.RequestFault.TheVariants.{Refused, NoMemory}
use Rattle.client_contexts.specs.declared.memory.NoMemory as memory
use Rattle.client_model.specs.declared.refusal.Refusal.{Refusal}
use Rattle.client_model.specs.declared.refusal.Refusal.TheVariants.{InvalidReference, InvalidType, InvalidScope, InvalidValue, NoResources, Rejected}
use Rattle.client_model.specs.declared.reply.Reply.{Reply}
use Rattle.client_model.specs.declared.reply.Reply.TheVariants as reply
use Rattle.client_model.specs.Refusal.{Outcome, refusal_code}
use Rattle.client_model.specs.Limits.{LimitsValue}
use Rattle.client_model.specs.States.{KeepsLimits}
use Rattle.object_table.specs.Context.{Context}
use Rattle.object_table.specs.declared.fault.TableFault.{TableFault}
use Rattle.object_table.specs.declared.fault.TableFault.TheVariants as table
use Rattle.object_table.specs.Delay.{in_slot, slot_kind}
use Rattle.client_model.specs.Operands.{is_kind, is_of_other_graph}

-- ---- contexts

-- a context that keeps the limits, for some values of the limits
abbrev pub IsContext : Context → Type 0
IsContext c = (limits : LimitsValue) × KeepsLimits limits c

-- the new context keeps all limits that the old context keeps
abbrev pub Keeps : Context → Context → Type 0
Keeps old new = (limits : LimitsValue) → KeepsLimits limits old → KeepsLimits limits new

-- ---- results

-- a method that takes no memory has this outcome: its reply and the new context, or a refusal that
-- leaves the context unchanged
pub record ComesTo (outcome : Outcome) (old new : Context) (result : Result Reply Refusal) :
    Type 0 where
  pub done : IfOk result (λ reply. outcome ≡ Ok (reply, Some new))
  pub refused : IfErr result (λ refusal. outcome ≡ Err refusal)
  pub unchanged : OnErr result (new ≡ old)

-- the fault is this outcome's refusal, or there is no memory
abbrev pub SaysWhy : Outcome → RequestFault → Type 0
SaysWhy outcome (Refused refusal) = outcome ≡ Err refusal
SaysWhy outcome NoMemory = ⊤

-- a method that may take memory has this outcome, or finds no memory and leaves the context
-- unchanged
pub record MayComeTo (outcome : Outcome) (old new : Context)
    (result : Result Reply RequestFault) : Type 0 where
  pub done : IfOk result (λ reply. outcome ≡ Ok (reply, Some new))
  pub refused : IfErr result (SaysWhy outcome)
  pub unchanged : OnErr result (new ≡ old)

-- the result for the client: a refusal becomes a reply with the refusal's code
abbrev pub client_result : Result Reply RequestFault → Result Reply memory.NoMemory
client_result (Ok r) = Ok r
client_result (Err (Refused refusal)) = Ok (reply.Refused (refusal_code refusal))
client_result (Err NoMemory) = Err (record {})

-- only a request that takes memory has the fault NoMemory. `takes` says that the request takes
-- memory
abbrev pub WantsMemory : RequestFault → Type 0 → Type 0
WantsMemory (Refused refusal) takes = ⊤
WantsMemory NoMemory takes = takes

-- the fault of a request whose text can't be read: the text encodes no picture, or there is no
-- memory
abbrev pub text_fault : PgmFault → RequestFault
text_fault fault.NoMemory = NoMemory
text_fault other = Refused (fault_refusal other)

-- the fault of a request for which a call on the object table fails
abbrev pub table_fault : TableFault → RequestFault
table_fault table.NoMemory = NoMemory
table_fault table.InvalidReference = Refused InvalidReference
table_fault table.NoResources = Refused NoResources
table_fault table.InvalidValue = Refused InvalidValue

-- the fault of a request for which a call on a graph fails
abbrev pub graph_fault : GraphFault → RequestFault
graph_fault graph.NoMemory = NoMemory
graph_fault graph.NoResources = Refused NoResources
graph_fault graph.InvalidReference = Refused InvalidReference

-- the fault of a request for which the verification of a graph fails
abbrev pub verify_fault : VerifyFault → RequestFault
verify_fault verified.NoMemory = NoMemory
verify_fault (verified.Refused verdict) = Refused (Rejected verdict)

-- ---- operands

-- the refusal, if the result is one
abbrev pub refusal_in : {A : Type 0} → Result A Refusal → Option Refusal
refusal_in (Ok value) = None
refusal_in (Err refusal) = Some refusal

-- the reason, if any, why a name can't be used: no object has the name, or the object isn't of the
-- wanted kind
abbrev pub name_refusal : Kind → Option ObjectValue → Option Refusal
name_refusal wanted None = Some InvalidReference
name_refusal wanted (Some object) =
    if same_kind wanted (object_kind object) then None else Some InvalidType

-- whether an object is outside the scope of a graph: the object is a virtual image of another
-- graph. Without a scope, no object is outside.
abbrev pub is_outside : Option ℕ → Option ObjectValue → Bool
is_outside None object = false
is_outside (Some graph) object = is_of_other_graph graph object

-- the reason, if any, why an object, or the image in one of its slots, can't be used
abbrev pub slot_refusal : Kind → Option ℕ → Option ℕ → ObjectValue → Option Refusal
slot_refusal wanted scope slot object =
    if not (is_kind wanted (slot_kind slot object)) then Some InvalidType
    else (if is_outside scope (in_slot slot object) then Some InvalidScope
    else (if is_none (in_slot slot object) then Some InvalidValue else None))

-- of up to two refusals of operands, the one that comes first in this order: InvalidReference,
-- InvalidType, InvalidScope, InvalidValue
abbrev pub first_class : Option Refusal → Option Refusal → Option Refusal
first_class None other = other
first_class one None = one
first_class (Some InvalidReference) (Some other) = Some InvalidReference
first_class (Some one) (Some InvalidReference) = Some InvalidReference
first_class (Some InvalidType) (Some other) = Some InvalidType
first_class (Some one) (Some InvalidType) = Some InvalidType
first_class (Some InvalidScope) (Some other) = Some InvalidScope
first_class (Some one) (Some other) = Some other

-- a node's first input and its other operands
abbrev pub all_operands : Operands → List Operand
all_operands o = o.in1 ∷ other_operands o
