-- The numbers of clients before and after a frame, and the states that callers see.
use Rattle.std.proofs.Common.{◌≡◌, ◌≢◌, ℕ, Bool, true, false, List, [], map, Option, Some, None, unwrap_or, is_some, if◌then◌else◌, IsSome, Result, Ok, Err, refl, sym, ap, ◌∙◌, subst, inl, inr, ◌⊎◌}
use Rattle.std.proofs.lemmas.Bool.{cases_eq}
use Rattle.std.specs.BTreeMap.{is_at, BTreeMap}
use Rattle.std.specs.Map.{lookup}
use Rattle.std.specs.Option.{option_map, option_and_then}
use Rattle.std.specs.Ordering.{nat_cmp}
use Rattle.std.proofs.lemmas.Map.Made.{lookup-map_values}
use Rattle.client_model.specs.Answer.{answer_to}
use Rattle.client_model.specs.Context.{State}
use Rattle.client_model.specs.Limits.{LimitsValue}
use Rattle.client_model.specs.declared.reply.Reply.{Reply}
use Rattle.client_model.specs.declared.request.Request.TheVariants.{ReleaseContext}
use Rattle.client_contexts.specs.Applies.{Applies}
use Rattle.client_contexts.specs.declared.memory.NoMemory.{NoMemory}
use Rattle.client_contexts.specs.World.{ClientContext, World, state_of}
use Rattle.connections.specs.Connections.{states_in, is_open, clients_of}
use Rattle.connections.specs.Numbers.{number_in, numbers_of, connections_view, IsNumbering, AreTwo, LeavesOtherNumbers, Releases, Renumbers, number_for}
use Rattle.connections.specs.declared.numbers.Numbers.{Numbers}

-- the state of a client, by its number
abbrev pub state_at : World → Numbers → ℕ → ℕ → State
state_at world n connection client =
    option_and_then (λ number. state_of number world) (number_in n connection client)

-- the clients of a connection that callers see
abbrev pub shown_clients : (world : World) → List (ℕ × ℕ) → List (ℕ × State)
shown_clients world clients = map {B = ℕ × State} (λ (p : ℕ × ℕ). (p.0, state_of p.1 world)) clients

joined : (world : World) (number : Option ℕ)
    → unwrap_or (option_map (λ i. state_of i world) number) None
    ≡ option_and_then (λ i. state_of i world) number
joined world None = refl
joined world (Some i) = refl

clients_shown : (world : World) (n : Numbers) (connection : ℕ) (clients : Option (BTreeMap ℕ ℕ)) →
    unwrap_or (option_map (λ (m : BTreeMap ℕ ℕ). shown_clients world m.entries) clients) []
    ≡ shown_clients world (unwrap_or (option_map (λ (m : BTreeMap ℕ ℕ). m.entries) clients) [])
clients_shown world n connection None = refl
clients_shown world n connection (Some m) = refl

-- callers see the clients of a connection that have a number
pub clients_of-connections_view : (world : World) (n : Numbers) (connection : ℕ)
    → clients_of (connections_view world n) connection
    ≡ shown_clients world (numbers_of n connection)
clients_of-connections_view world n connection =
    let shows : BTreeMap ℕ ℕ → List (ℕ × State) = λ m. shown_clients world m.entries in
    ap (λ (o : Option (List (ℕ × State))). unwrap_or o [])
    (lookup-map_values shows (is_at (nat_cmp connection)) n.connections.entries)
    ∙ clients_shown world n connection (lookup (is_at (nat_cmp connection)) n.connections.entries)

-- and the states under these numbers
pub states_in-connections_view : (world : World) (n : Numbers) (connection client : ℕ)
    → states_in (connections_view world n) connection client ≡ state_at world n connection client
states_in-connections_view world n connection client =
    ap (λ (es : List (ℕ × State)). unwrap_or (lookup (is_at (nat_cmp client)) es) None)
    (clients_of-connections_view world n connection)
    ∙ ap (λ (o : Option State). unwrap_or o None)
    (lookup-map_values (λ i. state_of i world) (is_at (nat_cmp client)) (numbers_of n connection))
    ∙ joined world (number_in n connection client)

mapped : {A B : Type 0} (f : A → B) (o : Option A) → is_some (option_map f o) ≡ is_some o
mapped f None = refl
mapped f (Some x) = refl

pub is_open-connections_view : (world : World) (n : Numbers) (connection : ℕ)
    → is_open (connections_view world n) connection
    ≡ is_some (lookup (is_at (nat_cmp connection)) n.connections.entries)
is_open-connections_view world n connection =
    let shows : BTreeMap ℕ ℕ → List (ℕ × State) = λ m. shown_clients world m.entries in
    ap (λ (o : Option (List (ℕ × State))). is_some o)
    (lookup-map_values shows (is_at (nat_cmp connection)) n.connections.entries)
    ∙ mapped shows (lookup (is_at (nat_cmp connection)) n.connections.entries)

no_context : (limits : LimitsValue) (state : State)
    → (answer_to limits state ReleaseContext).1 ≡ None
no_context limits None = refl
no_context limits (Some c) = refl

-- a release takes no memory, so it succeeds
pub released : (number : ℕ) (old new : World) (result : Result Reply NoMemory)
    → Applies number ReleaseContext old new result
    → Releases number old new
released number old new (Ok reply) a = record {
  none = a.own ∙ no_context old.limits (state_of number old);
  others = record { limits = a.limits; states = a.others };
}
released number old new (Err e) a = absurd a.takes

-- ---- a frame of a client

pub found_is : (o : Option ℕ) (spare number : ℕ)
    → number ≡ unwrap_or o spare
    → (o ≡ Some number) ⊎ ((o ≡ None) × (number ≡ spare))
found_is None spare number found = inr (refl, found)
found_is (Some i) spare number found = inl (ap (λ (x : ℕ). Some x) (sym found))

chosen : (b : Bool) (number i : ℕ)
    → (if b then Some number else None) ≡ Some i
    → (number ≡ i) × (b ≡ true)
chosen true number i e = (cc, refl)
chosen false number i e = absurd cc

-- the number that a client has afterwards leads to the state under it
seen_own : (states : ℕ → State) (number : ℕ) (state : State)
    → states number ≡ state
    → option_and_then states (if is_some state then Some number else None) ≡ state
seen_own states number None e = refl
seen_own states number (Some x) e = e

-- no client has the spare number
pub spare_unused : (n : Numbers) (world : World)
    → IsNumbering n world
    → (c k : ℕ)
    → number_in n c k ≢ Some n.spare
spare_unused n world h c k e =
    let there : is_some (state_of n.spare world) ≡ true = h.has_context c k n.spare e in
    let none : is_some (state_of n.spare world) ≡ false = ap (λ (s : State). is_some s) h.spare in
    cc

module _ (c k number : ℕ) (n : Numbers) (world : World) (h : IsNumbering n world)
    (found : number ≡ number_for n c k) where
  -- the state of the client is the one under the number that was found
  pub state_found : state_at world n c k ≡ state_of number world
  state_found = elim (found_is (number_in n c k) n.spare number found) [
    | inl own ↦ ap (λ (o : Option ℕ). option_and_then (λ i. state_of i world) o) own
    | inr none ↦
        ap (λ (o : Option ℕ). option_and_then (λ i. state_of i world) o) none.0
        ∙ sym (ap (λ (i : ℕ). state_of i world) none.1 ∙ h.spare)
  ]

  -- no other client has this number
  unshared : (d j i : ℕ) → AreTwo c k d j → number_in n d j ≡ Some i → i ≢ number
  unshared d j i two e same = elim (found_is (number_in n c k) n.spare number found) [
    | inl own ↦ let one =
        h.one_client c k d j number own (e ∙ ap (λ (x : ℕ). Some x) same) in two one.0 one.1
    | inr none ↦ spare_unused n world h d j (e ∙ ap (λ (x : ℕ). Some x) (same ∙ none.1))
  ]

  -- if the number is another client's or none's, it isn't this client's
  not_own : (i : ℕ) → i ≢ number → number_in n c k ≢ Some i
  not_own i differs e = elim (found_is (number_in n c k) n.spare number found) [
    | inl own ↦ let both : Some i ≡ Some number = sym e ∙ own in differs cc
    | inr none ↦ let both : Some i ≡ None = sym e ∙ none.0 in cc
  ]

  module _ (n' : Numbers) (mid after : World) (frame : LeavesOtherNumbers number world mid)
      (s : Renumbers c k number n n' mid after) where
    elsewhere : (other : ℕ) → other ≢ number → state_of other after ≡ state_of other world
    elsewhere other differs = s.others.states other differs ∙ frame.states other differs

    same_seen : (d j : ℕ)
        → AreTwo c k d j
        → (o : Option ℕ)
        → number_in n d j ≡ o
        → option_and_then (λ i. state_of i after) o ≡ option_and_then (λ i. state_of i world) o
    same_seen d j two None e = refl
    same_seen d j two (Some i) e = elsewhere i (unshared d j i two e)

    -- the states of all other clients are as before
    pub seen_others : (d j : ℕ) → AreTwo c k d j → state_at after n' d j ≡ state_at world n d j
    seen_others d j two =
        ap (λ (o : Option ℕ). option_and_then (λ i. state_of i after) o) (s.numbers.others d j two)
        ∙ same_seen d j two (number_in n d j) refl

    pub seen_client : state_at after n' c k ≡ state_of number after
    seen_client =
        ap (λ (o : Option ℕ). option_and_then (λ i. state_of i after) o) s.numbers.own
        ∙ seen_own (λ i. state_of i after) number (state_of number after) refl

    -- a client with a number is the frame's own, or had the number before
    abbrev IsOwn : ℕ → ℕ → ℕ → Type 0
    IsOwn d j i = (d ≡ c) × (j ≡ k) × (number ≡ i) × IsSome (state_of number after)

    abbrev WasThere : ℕ → ℕ → ℕ → Type 0
    WasThere d j i = (number_in n d j ≡ Some i) × (i ≢ number)

    own_number : (i : ℕ) → number_in n' c k ≡ Some i → (number ≡ i) × IsSome (state_of number after)
    own_number i e = chosen (is_some (state_of number after)) number i (sym s.numbers.own ∙ e)

    other_number : (d j i : ℕ) → AreTwo c k d j → number_in n' d j ≡ Some i → WasThere d j i
    other_number d j i two e =
        let was = sym (s.numbers.others d j two) ∙ e in (was, unshared d j i two was)

    same_place : (d j i : ℕ) → d ≡ c → j ≡ k → number_in n' d j ≡ Some i → IsOwn d j i
    same_place d j i de je e =
        let here =
        own_number i
        (ap (λ (x : ℕ). number_in n' x k) (sym de) ∙ ap (λ (y : ℕ). number_in n' d y) (sym je) ∙ e)
        in
        (de, je, here.0, here.1)

    place : (d j i : ℕ) → number_in n' d j ≡ Some i → IsOwn d j i ⊎ WasThere d j i
    place d j i e = elim (cases_eq d c) [
      | inl de ↦ elim (cases_eq j k) [
        | inl je ↦ inl (same_place d j i de je e)
        | inr apart ↦ inr (other_number d j i (λ _. apart) e)
      ]
      | inr apart ↦ inr (other_number d j i (λ de. absurd (apart de)) e)
    ]

    has_context_after : (d j i : ℕ) → number_in n' d j ≡ Some i → IsSome (state_of i after)
    has_context_after d j i e = elim (place d j i e) [
      | inl own ↦ subst (λ (x : ℕ). IsSome (state_of x after)) own.2 own.3
      | inr was ↦
          subst (λ (x : State). IsSome x) (sym (elsewhere i was.1)) (h.has_context d j i was.0)
    ]

    one_client_after : (d j d' j' i : ℕ)
        → number_in n' d j ≡ Some i
        → number_in n' d' j' ≡ Some i
        → (d' ≡ d) × (j' ≡ j)
    one_client_after d j d' j' i e e' = elim (place d j i e) [
      | inl own ↦ elim (place d' j' i e') [
        | inl own' ↦ (own'.0 ∙ sym own.0, own'.1 ∙ sym own.1)
        | inr was' ↦ absurd (was'.1 (sym own.2))
      ]
      | inr was ↦ elim (place d' j' i e') [
        | inl own' ↦ absurd (was.1 (sym own'.2))
        | inr was' ↦ h.one_client d j d' j' i was.0 was'.0
      ]
    ]

    other_client : (i d j : ℕ) → i ≢ number → number_in n d j ≡ Some i → number_in n' d j ≡ Some i
    other_client i d j differs e =
        s.numbers.others d j
        (λ de je. not_own i differs
        (ap (λ (x : ℕ). number_in n x k) (sym de) ∙ ap (λ (y : ℕ). number_in n d y) (sym je) ∙ e))
        ∙ e

    abbrev HasClient : ℕ → Type 0
    HasClient i = (d : ℕ) × (j : ℕ) × (number_in n' d j ≡ Some i)

    has_client_after : (i : ℕ) → IsSome (state_of i after) → HasClient i
    has_client_after i there = elim (cases_eq i number) [
      | inl same ↦
          let here : is_some (state_of number after) ≡ true =
          subst (λ (x : ℕ). IsSome (state_of x after)) same there in (
            c,
            k,
            s.numbers.own
                ∙ ap (λ (b : Bool). if b then Some number else None) here
                ∙ ap (λ (x : ℕ). Some x) (sym same),
          )
      | inr differs ↦
          let client =
          h.has_client i (subst (λ (x : State). IsSome x) (elsewhere i differs) there) in
          (client.0, client.1, other_client i client.0 client.1 differs client.2)
    ]

    pub numbered_after : IsNumbering n' after
    numbered_after = record {
      has_context = has_context_after;
      one_client = one_client_after;
      has_client = has_client_after;
      spare = s.spare;
    }

-- ---- the same numbers, or the same states

-- only the numbers of clients matter, and the spare number
pub same_numbers : (n n' : Numbers) (world : World)
    → ((c k : ℕ) → number_in n' c k ≡ number_in n c k)
    → n'.spare ≡ n.spare
    → IsNumbering n world
    → IsNumbering n' world
same_numbers n n' world same spare h = record {
  has_context = λ c k i e. h.has_context c k i (sym (same c k) ∙ e);
  one_client = λ c k d j i e e'. h.one_client c k d j i (sym (same c k) ∙ e) (sym (same d j) ∙ e');
  has_client =
      λ i there. let client =
      h.has_client i there in (client.0, client.1, same client.0 client.1 ∙ client.2);
  spare = ap (λ (i : ℕ). state_of i world) spare ∙ h.spare;
}

-- only the states matter
pub same_states : (n : Numbers) (world world' : World)
    → ((each : ℕ) → state_of each world' ≡ state_of each world)
    → IsNumbering n world
    → IsNumbering n world'
same_states n world world' same h = record {
  has_context = λ c k i e. subst (λ (x : State). IsSome x) (sym (same i)) (h.has_context c k i e);
  one_client = h.one_client;
  has_client = λ i there. h.has_client i (subst (λ (x : State). IsSome x) (same i) there);
  spare = same n.spare ∙ h.spare;
}

same_seen_in : (world world' : World)
    → ((each : ℕ) → state_of each world' ≡ state_of each world)
    → (o : Option ℕ)
    → option_and_then (λ i. state_of i world') o ≡ option_and_then (λ i. state_of i world) o
same_seen_in world world' same None = refl
same_seen_in world world' same (Some i) = same i

pub states_in-same : (n : Numbers) (world world' : World)
    → ((each : ℕ) → state_of each world' ≡ state_of each world)
    → (c k : ℕ)
    → states_in (connections_view world' n) c k ≡ states_in (connections_view world n) c k
states_in-same n world world' same c k =
    states_in-connections_view world' n c k
    ∙ same_seen_in world world' same (number_in n c k)
    ∙ sym (states_in-connections_view world n c k)

pub states_in-numbers : (n n' : Numbers) (world : World) (c k : ℕ)
    → number_in n' c k ≡ number_in n c k
    → states_in (connections_view world n') c k ≡ states_in (connections_view world n) c k
states_in-numbers n n' world c k same =
    states_in-connections_view world n' c k
    ∙ ap (λ (o : Option ℕ). option_and_then (λ i. state_of i world) o) same
    ∙ sym (states_in-connections_view world n c k)

pub is_open-same : (n : Numbers) (world world' : World) (c : ℕ)
    → is_open (connections_view world' n) c ≡ is_open (connections_view world n) c
is_open-same n world world' c =
    is_open-connections_view world' n c ∙ sym (is_open-connections_view world n c)

-- no connection is open, and no context
pub numbered_new : (n : Numbers) (world : World)
    → n.connections.entries ≡ []
    → world.contexts ≡ []
    → IsNumbering n world
numbered_new n world none empty =
    let no_number : (c k : ℕ) → number_in n c k ≡ None =
    λ c k. ap
    (λ (es : List (ℕ × BTreeMap ℕ ℕ)). lookup (is_at (nat_cmp k))
    (unwrap_or (option_map (λ (m : BTreeMap ℕ ℕ). m.entries) (lookup (is_at (nat_cmp c)) es)) []))
    none in
    let no_state : (i : ℕ) → state_of i world ≡ None =
    λ i. ap
    (λ (es : List (ℕ × ClientContext)). option_map (λ (o : ClientContext). o.context)
    (lookup (is_at (nat_cmp i)) es))
    empty in
    record {
      has_context = λ c k i e. let both : None ≡ Some i = sym (no_number c k) ∙ e in absurd cc;
      one_client =
          λ c k d j i e e'. let both : None ≡ Some i = sym (no_number c k) ∙ e in absurd cc;
      has_client =
          λ i there. let both : false ≡ true =
          sym (ap (λ (s : State). is_some s) (no_state i)) ∙ there in absurd cc;
      spare = no_state n.spare;
    }

-- a client without a visible context has no number
pub no_number : (n : Numbers) (world : World)
    → IsNumbering n world
    → (c k : ℕ)
    → states_in (connections_view world n) c k ≡ None
    → number_in n c k ≡ None
no_number n world h c k none = by_number (number_in n c k) refl
  where
    by_number : (o : Option ℕ) → number_in n c k ≡ o → o ≡ None
    by_number None e = refl
    by_number (Some i) e =
        let there : is_some (state_of i world) ≡ true = h.has_context c k i e in
        let seen : state_of i world ≡ None =
        sym
        (states_in-connections_view world n c k
        ∙ ap (λ (o : Option ℕ). option_and_then (λ x. state_of x world) o) e)
        ∙ none in
        let both : true ≡ false = sym there ∙ ap (λ (s : State). is_some s) seen in
        absurd cc

-- the same entries have the same numbers
pub number_in-entries : (n n' : Numbers)
    → n'.connections.entries ≡ n.connections.entries
    → (c k : ℕ)
    → number_in n' c k ≡ number_in n c k
number_in-entries n n' same c k =
    ap
    (λ (es : List (ℕ × BTreeMap ℕ ℕ)). lookup (is_at (nat_cmp k))
    (unwrap_or (option_map (λ (m : BTreeMap ℕ ℕ). m.entries) (lookup (is_at (nat_cmp c)) es)) []))
    same
