-- What answering a client's frame does to the connection, and to the others.
use Rattle.std.proofs.Common.{◌≡◌, ◌≢◌, ℕ, List, Option, None, Some, if◌then◌else◌, is_some, Ok, Err, sym, ap, ◌∙◌, subst, inl, inr, ◌⊎◌}
use Rattle.std.proofs.lemmas.Bool.{cases_eq}
use Rattle.std.specs.Prelude.{⊤}
use Rattle.std.specs.Option.{option_and_then}
use Rattle.client_model.specs.Context.{State}
use Rattle.client_model.specs.Limits.{LimitsValue}
use Rattle.client_model.specs.declared.reply.Reply.TheVariants.{Refused}
use Rattle.client_contexts.specs.World.{World, state_of}
use Rattle.client_contexts.specs.declared.memory.NoMemory.{NoMemory}
use Rattle.vx_base.specs.declared.code.Code.TheVariants.{NoMemory as CodeNoMemory}
use Rattle.vx_requests.specs.Frame.Frames.{frame_of}
use Rattle.vx_requests.specs.Serving.Clients.{states_of, spelled_frame}
use Rattle.vx_requests.specs.Serving.Turn.{AnswersBody, IsReply, said_in}
use Rattle.vx_requests.specs.declared.serving.answered.ReplyContent.{ReplyContent}
use Rattle.vx_requests.specs.declared.serving.answered.ReplyContent.TheVariants.{Made}
use Rattle.vx_requests.specs.declared.stream.fault.StreamFault.{StreamFault}
use Rattle.vx_requests.proofs.FrameReplies.{lost_reply}
use Rattle.connections.specs.Connections.{states_in, is_open, LeavesOthers}
use Rattle.connections.specs.Numbers.{Assigns, IsNumbering, LeavesOtherNumbers, Releases, Renumbers, Settles, number_for, number_in, connections_view}
use Rattle.connections.specs.declared.numbers.Numbers.{Numbers}
use Rattle.connections.proofs.NumberingLemmas.{states_in-connections_view, is_open-connections_view, state_found, seen_client, seen_others, states_in-same, is_open-same, spare_unused}
use Rattle.connections.proofs.ReplyLemmas.{others_kept, opened_may, own_reply}

-- an answered frame changes no state but that under its number
pub frame_leaves :
    (limits : LimitsValue) (a b : Option (List ℕ)) (number op len : ℕ) (content : ReplyContent)
    (old new : World)
    → new.limits ≡ old.limits
    → AnswersBody limits a b (states_of old) (states_of new) number op len (Ok content)
    → LeavesOtherNumbers number old new
frame_leaves limits a b number op len content old new same (body, read, size, bytes, reply) =
    record {
      limits = same;
      states =
          λ other differs. others_kept limits (frame_of number op body) (states_of old)
          (states_of new) _ reply other differs;
    }

-- if reading stopped, no state changed
pub fault_leaves :
    (limits : LimitsValue) (a b : Option (List ℕ)) (number op len : ℕ) (e : StreamFault)
    (old new : World)
    → AnswersBody limits a b (states_of old) (states_of new) number op len (Err e)
    → (each : ℕ)
    → state_of each new ≡ state_of each old
fault_leaves limits a b number op len e old new (read, same) = same

module _ (connection client number : ℕ) (n : Numbers) (world : World) (h : IsNumbering n world)
    (found : number ≡ number_for n connection client) where
  abbrev before : ℕ → State
  before = states_in (connections_view world n) connection

  before_is : before client ≡ state_of number world
  before_is =
      states_in-connections_view world n connection client
      ∙ state_found connection client number n world h found

  module _ (n' : Numbers) (mid after : World) where
    abbrev later : ℕ → State
    later = states_in (connections_view after n') connection

    module _ (unit : ⊤) (frame : LeavesOtherNumbers number world mid)
        (s : Settles connection client number n n' mid after (Ok unit)) where
      later_is : later client ≡ state_of number mid
      later_is =
          states_in-connections_view after n' connection client
          ∙ seen_client connection client number n world h found n' mid after frame s.renumbers
          ∙ s.ok

      later_others : (other : ℕ) → other ≢ client → later other ≡ before other
      later_others other differs =
          states_in-connections_view after n' connection other
          ∙ seen_others connection client number n world h found n' mid after frame s.renumbers
          connection other (λ same. differs)
          ∙ sym (states_in-connections_view world n connection other)

      -- the frame was answered
      pub answered_is :
          (limits : LimitsValue) (a b : Option (List ℕ)) (op len : ℕ) (content : ReplyContent)
          → AnswersBody limits a b (states_of world) (states_of mid) number op len (Ok content)
          → AnswersBody limits a b before later client op len (Ok content)
      answered_is limits a b op len content (body, read, size, bytes, reply) = (
        body,
        read,
        size,
        bytes,
        subst
            (λ (state : State). IsReply limits (frame_of client op body) before later
            (spelled_frame client op (said_in limits state content)))
            (sym later_is)
            (own_reply limits number client op body (states_of world) (states_of mid) before
            later (said_in limits (state_of number mid) content) before_is later_is later_others
            reply),
      )

    module _ (e : NoMemory) (frame : LeavesOtherNumbers number world mid)
        (s : Settles connection client number n n' mid after (Err e)) where
      was_none : before client ≡ None
      was_none =
          states_in-connections_view world n connection client
          ∙ ap (λ (o : Option ℕ). option_and_then (λ i. state_of i world) o) s.err.2

      each_same : (other : ℕ) → (other ≡ client) ⊎ (other ≢ client) → later other ≡ before other
      each_same other (inl same) =
          let there =
          states_in-connections_view after n' connection client
          ∙ seen_client connection client number n world h found n' mid after frame s.renumbers
          ∙ s.err.0 in
          subst (λ (c : ℕ). later c ≡ before c) (sym same) (there ∙ sym was_none)
      each_same other (inr differs) =
          states_in-connections_view after n' connection other
          ∙ seen_others connection client number n world h found n' mid after frame s.renumbers
          connection other (λ same. differs)
          ∙ sym (states_in-connections_view world n connection other)

      -- the frame was lost
      pub lost_is :
          (limits : LimitsValue) (a b : Option (List ℕ)) (op len : ℕ) (content : ReplyContent)
          → AnswersBody limits a b (states_of world) (states_of mid) number op len (Ok content)
          → AnswersBody limits a b before later client op len (Ok (Made (Refused CodeNoMemory)))
      lost_is limits a b op len content (body, read, size, bytes, reply) =
          let none : state_of number world ≡ None = sym before_is ∙ was_none in (
            body,
            read,
            size,
            bytes,
            lost_reply limits before later client op body
                (opened_may limits number op body (states_of world) (states_of mid) _ reply none
                s.err.1)
                (λ other. each_same other (cases_eq other client)),
          )

  -- other connections
  pub leaves_others : (n' : Numbers) (mid after : World)
      → LeavesOtherNumbers number world mid
      → Renumbers connection client number n n' mid after
      → LeavesOthers connection (connections_view world n) (connections_view after n')
  leaves_others n' mid after frame s = record {
    limits = s.others.limits ∙ frame.limits;
    still_open =
        λ other differs. is_open-connections_view after n' other
        ∙ s.numbers.connections other
        ∙ sym (is_open-connections_view world n other);
    states = λ other differs each.
        states_in-connections_view after n' other each
        ∙ seen_others connection client number n world h found n' mid after frame s other each
        (λ same. absurd (differs same))
        ∙ sym (states_in-connections_view world n other each);
  }

  pub same_open : (n' : Numbers) (mid after : World)
      → Renumbers connection client number n n' mid after
      → is_open (connections_view after n') connection
      ≡ is_open (connections_view world n) connection
  same_open n' mid after s =
      is_open-connections_view after n' connection
      ∙ s.numbers.connections connection
      ∙ sym (is_open-connections_view world n connection)

-- reading stopped within the frame, and no state changed
pub fault_others : (connection : ℕ) (n : Numbers) (world world' : World)
    → world'.limits ≡ world.limits
    → ((each : ℕ) → state_of each world' ≡ state_of each world)
    → LeavesOthers connection (connections_view world n) (connections_view world' n)
fault_others connection n world world' limits same = record {
  limits = limits;
  still_open = λ other differs. is_open-same n world world' other;
  states = λ other differs each. states_in-same n world world' same other each;
}

pub fault_is :
    (limits : LimitsValue) (a b : Option (List ℕ)) (connection client number op len : ℕ)
    (e : StreamFault) (n : Numbers) (world world' : World)
    → AnswersBody limits a b (states_of world) (states_of world') number op len (Err e)
    → AnswersBody limits a b (states_in (connections_view world n) connection)
    (states_in (connections_view world' n) connection) client op len (Err e)
fault_is limits a b connection client number op len e n world world' (read, same) =
    (read, states_in-same n world world' same connection)

-- the context of a client that lost its number was released
pub released_one : (connection client number : ℕ) (n n' : Numbers) (world after : World)
    → IsNumbering n world
    → number_in n connection client ≡ Some number
    → Assigns connection client None n n'
    → n'.spare ≡ n.spare
    → Releases number world after
    → Renumbers connection client number n n' world after
released_one connection client number n n' world after h own assigns spare released =
    let apart : n.spare ≢ number =
    λ same. spare_unused n world h connection client (own ∙ ap (λ (i : ℕ). Some i) (sym same)) in
    record {
      numbers =
          subst
          (λ (s : State). Assigns connection client (if is_some s then Some number else None) n n')
          (sym released.none) assigns;
      spare =
          ap (λ (i : ℕ). state_of i after) spare ∙ released.others.states n.spare apart ∙ h.spare;
      others = released.others;
    }
