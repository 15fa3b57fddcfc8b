-- Outcomes that keep the limits, and what is held.
use Rattle.std.proofs.Common.{◌≡◌, ℕ, Bool, false, [], Option, Some, None, Ok, Err, IfOk, IfSome, MatchOption, arith}
use Rattle.client_model.proofs.Common.{ObjectValue, IsObject, Refusal, LimitsValue, Context, KeepsLimits, nodes_in, reply_unless}
use Rattle.client_model.specs.declared.reply.Reply.{Reply}
use Rattle.client_model.specs.Context.{State}
use Rattle.client_model.specs.Refusal.{Outcome, refused_or}
use Rattle.client_model.specs.Images.{create}
use Rattle.client_model.proofs.StateLaws.{Leaves, with_new_leaves, same_leaves}

-- the state of a client, where a context keeps the limits
abbrev pub StateKeeps : LimitsValue → State → Type 0
StateKeeps limits state = IfSome state (KeepsLimits limits)

-- where an outcome is a reply and a state, that is a context, with what a request leaves of this
-- one
abbrev pub KeepsBut : (ℕ → Bool) → LimitsValue → Context → Outcome → Type 0
KeepsBut changes limits c outcome =
    IfOk outcome (λ done. MatchOption done.1 ⊥ (Leaves limits changes c))

-- all nodes too
abbrev pub Keeps : LimitsValue → Context → Outcome → Type 0
Keeps limits c outcome = KeepsBut (λ name. false) limits c outcome

-- what is done unless it is refused keeps what its context does, where nothing refuses
pub unless_keeps :
    (limits : LimitsValue) (c : Context) (refusal : Option Refusal) (reply : Reply)
    (after : Context)
    → (refusal ≡ None → Leaves limits (λ name. false) c after)
    → Keeps limits c (reply_unless refusal reply after)
unless_keeps limits c refusal reply after h = grind (arith, h)

-- so does what is done otherwise
pub refused_or_keeps :
    (changes : ℕ → Bool) (limits : LimitsValue) (c : Context) (refusal : Option Refusal)
    (outcome : Outcome)
    → (refusal ≡ None → KeepsBut changes limits c outcome)
    → KeepsBut changes limits c (refused_or refusal outcome)
refused_or_keeps changes limits c refusal outcome h = grind (arith, h)

-- what leaves the context keeps all
pub same_keeps : (limits : LimitsValue) (c : Context) (outcome : Outcome)
    → KeepsLimits limits c
    → IfOk outcome (λ done. done.1 ≡ Some c)
    → Keeps limits c outcome
same_keeps limits c (Ok done) h same = rw same (same_leaves limits (λ name. false) c h)
same_keeps limits c (Err refusal) h same = tt

-- a create of any object without nodes keeps all
pub create_keeps : (limits : LimitsValue) (c : Context) (object : ObjectValue)
    → KeepsLimits limits c
    → IsObject object
    → nodes_in object ≡ []
    → Keeps limits c (create limits c object)
create_keeps limits c object h is none =
    grind (arith, with_new_leaves limits (λ name. false) c h object is none)
