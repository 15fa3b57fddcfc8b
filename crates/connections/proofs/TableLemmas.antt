-- Connections that are opened and closed, as callers see them.
use Rattle.std.proofs.Common.{◌≡◌, ℕ, Bool, true, false, List, [], map, Option, Some, None, unwrap_or, is_some, length, ◌<◌, refl, sym, ap, ◌∙◌, subst}
use Rattle.std.specs.BTreeMap.{is_at, BTreeMap}
use Rattle.std.specs.Map.{lookup}
use Rattle.std.specs.Option.{option_map, option_and_then}
use Rattle.std.specs.Ordering.{nat_cmp}
use Rattle.client_model.specs.Context.{State}
use Rattle.client_model.specs.Limits.{LimitsValue}
use Rattle.client_contexts.specs.World.{World, state_of}
use Rattle.connections.specs.Connections.{ConnectionsValue, LeavesOthers, Connects, Closes, clients_of, states_in}
use Rattle.connections.specs.Numbers.{Assigns, HasSameConnections, IsNumbering, LeavesOtherNumbers, Releases, SetsOpen, has_connection, number_for, number_in, numbers_of, connections_view}
use Rattle.connections.specs.declared.numbers.Numbers.{Numbers}
use Rattle.connections.proofs.NumberingLemmas.{clients_of-connections_view, is_open-connections_view, numbered_after, shown_clients, states_in-numbers, states_in-connections_view}
use Rattle.connections.proofs.AnsweredLemmas.{leaves_others, released_one}
use Rattle.std.proofs.lemmas.List.{length-map}

module _ (connection : ℕ) (n n' : Numbers) (world : World) where
  opened_others : (opened : Bool)
      → SetsOpen connection opened n n'
      → LeavesOthers connection (connections_view world n) (connections_view world n')
  opened_others opened s = record {
    limits = refl;
    still_open =
        λ other differs. is_open-connections_view world n' other
        ∙ s.others other differs
        ∙ sym (is_open-connections_view world n other);
    states =
        λ other differs client. states_in-numbers n n' world other client (s.numbers other client);
  }

  unopened : (clients : Option (BTreeMap ℕ ℕ))
      → is_some clients ≡ false
      → (client : ℕ)
      → lookup (is_at (nat_cmp client))
      (unwrap_or (option_map (λ (m : BTreeMap ℕ ℕ). m.entries) clients) [])
      ≡ None
  unopened None none client = refl
  unopened (Some clients) none client = absurd cc

  pub opens : has_connection n connection ≡ false
      → SetsOpen connection true n n'
      → Connects connection (connections_view world n) (connections_view world n')
  opens none s = record {
    was_free = is_open-connections_view world n connection ∙ none;
    opened = is_open-connections_view world n' connection ∙ s.own;
    no_contexts = λ client.
        states_in-connections_view world n' connection client
        ∙ ap (λ (o : Option ℕ). option_and_then (λ i. state_of i world) o)
        (s.numbers connection client
        ∙ unopened (lookup (is_at (nat_cmp connection)) n.connections.entries) none client);
    others = opened_others true s;
  }

  pub closes : SetsOpen connection false n n'
      → Closes connection (connections_view world n) (connections_view world n')
  closes s = record {
    closed = is_open-connections_view world n' connection ∙ s.own;
    others = opened_others false s;
  }

-- the same connections look the same
pub connections_view-same : (world : World) (n n' : Numbers)
    → n'.connections.entries ≡ n.connections.entries
    → connections_view world n' ≡ connections_view world n
connections_view-same world n n' same =
    let see : List (ℕ × BTreeMap ℕ ℕ) → ConnectionsValue =
    λ es. record {
      limits = world.limits;
      connections =
          map {B = ℕ × List (ℕ × State)}
          (λ (e : ℕ × BTreeMap ℕ ℕ). (e.0, shown_clients world e.1.entries)) es;
    } in
    ap see same

-- ---- one context after the other is released

pub others_same : (connection : ℕ) (v : ConnectionsValue) → LeavesOthers connection v v
others_same connection v = record {
  limits = refl;
  still_open = λ other differs. refl;
  states = λ other differs client. refl;
}

pub others_trans : (connection : ℕ) (a b c : ConnectionsValue)
    → LeavesOthers connection a b
    → LeavesOthers connection b c
    → LeavesOthers connection a c
others_trans connection a b c first second = record {
  limits = second.limits ∙ first.limits;
  still_open = λ other differs. second.still_open other differs ∙ first.still_open other differs;
  states =
      λ other differs client. second.states other differs client
      ∙ first.states other differs client;
}

pub closes_after : (connection : ℕ) (a b c : ConnectionsValue)
    → LeavesOthers connection a b
    → Closes connection b c
    → Closes connection a c
closes_after connection a b c first second = record {
  closed = second.closed;
  others = others_trans connection a b c first second.others;
}

module _ (connection : ℕ) (n n' : Numbers) (world : World)
    (same : (c k : ℕ) → number_in n' c k ≡ number_in n c k) where
  pub unchanged_others : HasSameConnections n n'
      → LeavesOthers connection (connections_view world n) (connections_view world n')
  unchanged_others still = record {
    limits = refl;
    still_open =
        λ other differs. is_open-connections_view world n' other
        ∙ still other
        ∙ sym (is_open-connections_view world n other);
    states = λ other differs client. states_in-numbers n n' world other client (same other client);
  }

  pub none_left : ((client : ℕ) → number_in n connection client ≡ None)
      → (client : ℕ)
      → states_in (connections_view world n') connection client ≡ None
  none_left none client =
      states_in-connections_view world n' connection client
      ∙ ap (λ (o : Option ℕ). option_and_then (λ i. state_of i world) o)
      (same connection client ∙ none client)

-- fewer numbers are fewer clients
pub fewer_clients : (connection : ℕ) (n n' : Numbers) (world after : World)
    → length (numbers_of n' connection) < length (numbers_of n connection)
    → length (clients_of (connections_view after n') connection) < length
    (clients_of (connections_view world n) connection)
fewer_clients connection n n' world after fewer =
    let long : (w : World) (m : Numbers)
    → length (numbers_of m connection) ≡ length (clients_of (connections_view w m) connection) =
    λ w m. sym
    (ap (λ (es : List (ℕ × State)). length es) (clients_of-connections_view w m connection)
    ∙ length-map {B = ℕ × State} (numbers_of m connection) _)
    in
    subst (λ (k : ℕ). k < length (clients_of (connections_view world n) connection))
    (long after n')
    (subst (λ (k : ℕ). length (numbers_of n' connection) < k) (long world n) fewer)

module _ (connection client number : ℕ) (n n' : Numbers) (world after : World)
    (h : IsNumbering n world) (own : number_in n connection client ≡ Some number)
    (assigns : Assigns connection client None n n') (spare : n'.spare ≡ n.spare)
    (released : Releases number world after) where
  found : number ≡ number_for n connection client
  found = sym (ap (λ (o : Option ℕ). unwrap_or o n.spare) own)

  frame : LeavesOtherNumbers number world world
  frame = record { limits = refl; states = λ other differs. refl }

  pub numbered_release : IsNumbering n' after
  numbered_release =
      numbered_after connection client number n world h found n' world after frame
      (released_one connection client number n n' world after h own assigns spare released)

  pub others_release :
      LeavesOthers connection (connections_view world n) (connections_view after n')
  others_release =
      leaves_others connection client number n world h found n' world after frame
      (released_one connection client number n n' world after h own assigns spare released)

pub shown_new : (world : World) (n : Numbers) (limits : LimitsValue)
    → n.connections.entries ≡ []
    → world ≡ record { limits = limits; contexts = [] }
    → connections_view world n ≡ record { limits = limits; connections = [] }
shown_new world n limits none is =
    let see : List (ℕ × BTreeMap ℕ ℕ) → ConnectionsValue =
    λ es. record {
      limits = world.limits;
      connections =
          map {B = ℕ × List (ℕ × State)}
          (λ (e : ℕ × BTreeMap ℕ ℕ). (e.0, shown_clients world e.1.entries)) es;
    } in
    let empty : LimitsValue → ConnectionsValue = λ l. record { limits = l; connections = [] } in
    ap see none ∙ ap (λ (w : World). empty w.limits) is
