-- The numbers of clients when a context was opened or ended.
use Rattle.std.proofs.Common.{◌≡◌, ◌≢◌, ℕ, Bool, true, false, Option, Some, None, is_some, if◌then◌else◌, IsSome, Result, Ok, Err, is_ok, OnOk, OnErr, refl, sym, ap, ◌∙◌, subst, inl, inr}
use Rattle.std.specs.Prelude.{⊤}
use Rattle.client_model.specs.Context.{State}
use Rattle.client_contexts.specs.World.{World, state_of}
use Rattle.client_contexts.specs.declared.memory.NoMemory.{NoMemory}
use Rattle.connections.specs.Numbers.{number_in, number_for, Assigns, Releases, Settles}
use Rattle.connections.specs.declared.numbers.Numbers.{Numbers}
use Rattle.connections.proofs.NumberingLemmas.{found_is}

none_if : (state : State) → is_some state ≡ false → state ≡ None
none_if None none = refl
none_if (Some context) none = absurd cc

-- a client that keeps what it has
pub keeps : (c k : ℕ) (n : Numbers) (number : Option ℕ)
    → number_in n c k ≡ number
    → Assigns c k number n n
keeps c k n number is = record { own = is; others = λ d j two. refl; connections = λ d. refl }

-- only the connections matter
pub respared : (c k : ℕ) (number : Option ℕ) (n n' : Numbers) (spare : ℕ)
    → Assigns c k number n n'
    → Assigns c k number n (record { connections = n'.connections; spare = spare })
respared c k number n n' spare a = record {
  own = a.own;
  others = a.others;
  connections = a.connections;
}

pub from_ok : {T E : Type 0} (P : Type 0) (result : Result T E)
    → is_ok result ≡ true
    → OnOk result P
    → P
from_ok P (Ok value) ok h = h
from_ok P (Err e) ok h = absurd cc

pub from_err : {T E : Type 0} (P : Type 0) (result : Result T E)
    → is_ok result ≡ false
    → OnErr result P
    → P
from_err P (Ok value) err h = absurd cc
from_err P (Err e) err h = h

module _ (c k number : ℕ) (n : Numbers) (world : World) where
  abbrev own_number : Option ℕ
  own_number = if is_some (state_of number world) then Some number else None

  -- no state changes
  settled : (n' : Numbers) (unit : ⊤)
      → Assigns c k own_number n n'
      → state_of n'.spare world ≡ None
      → Settles c k number n n' world world (Ok unit)
  settled n' unit assigns spare = record {
    renumbers =
        record {
          numbers = assigns;
          spare = spare;
          others = record
              { limits = refl; states = λ other differs. refl };
        };
    ok = refl;
    err = tt;
  }

  with_context : IsSome (state_of number world) → own_number ≡ Some number
  with_context there = ap (λ (b : Bool). if b then Some number else None) there

  without_context : is_some (state_of number world) ≡ false → own_number ≡ None
  without_context none = ap (λ (b : Bool). if b then Some number else None) none

  -- the client gets a number
  pub took : (n' : Numbers) (unit : ⊤)
      → IsSome (state_of number world)
      → Assigns c k (Some number) n n'
      → state_of n'.spare world ≡ None
      → Settles c k number n n' world world (Ok unit)
  took n' unit there assigns spare =
      settled n' unit
      (subst (λ (o : Option ℕ). Assigns c k o n n') (sym (with_context there)) assigns) spare

  -- the client has none from now on
  pub left : (n' : Numbers) (unit : ⊤)
      → is_some (state_of number world) ≡ false
      → Assigns c k None n n'
      → state_of n'.spare world ≡ None
      → Settles c k number n n' world world (Ok unit)
  left n' unit none assigns spare =
      settled n' unit
      (subst (λ (o : Option ℕ). Assigns c k o n n') (sym (without_context none)) assigns) spare

  -- there was no memory, and the context was released
  pub gave_up : (n' : Numbers) (after : World) (e : NoMemory)
      → number_in n c k ≡ None
      → IsSome (state_of number world)
      → Assigns c k None n n'
      → n'.spare ≡ number
      → Releases number world after
      → Settles c k number n n' world after (Err e)
  gave_up n' after e new there assigns spare released = record {
    renumbers =
        record {
          numbers =
              subst (λ (s : State). Assigns c k (if is_some s then Some number else None) n n')
              (sym released.none) assigns;
          spare = ap (λ (i : ℕ). state_of i after) spare ∙ released.none;
          others = released.others;
        };
    ok = tt;
    err = (released.none, there, new);
  }

  module _ (found : number ≡ number_for n c k) where
    -- a client that is answered under the spare number has none of its own
    pub has_none : number ≡ n.spare → number_in n c k ≢ Some n.spare → number_in n c k ≡ None
    has_none same unused = elim (found_is (number_in n c k) n.spare number found) [
      | inl own ↦ absurd (unused (own ∙ ap (λ (i : ℕ). Some i) same))
      | inr free ↦ free.0
    ]

    -- the number is the client's
    pub still_has : (unit : ⊤)
        → number ≢ n.spare
        → IsSome (state_of number world)
        → state_of n.spare world ≡ None
        → Settles c k number n n world world (Ok unit)
    still_has unit differs there spare = elim (found_is (number_in n c k) n.spare number found) [
      | inl own ↦ took n unit there (keeps c k n (Some number) own) spare
      | inr none ↦ absurd (differs none.1)
    ]

    -- the number is the spare one, and nothing was opened under it
    pub still_none : (unit : ⊤)
        → number ≡ n.spare
        → number_in n c k ≢ Some n.spare
        → is_some (state_of number world) ≡ false
        → Settles c k number n n world world (Ok unit)
    still_none unit same unused none =
        left n unit none (keeps c k n None (has_none same unused))
        (sym (ap (λ (i : ℕ). state_of i world) same) ∙ none_if (state_of number world) none)
