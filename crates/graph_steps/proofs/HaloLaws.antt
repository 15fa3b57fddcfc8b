-- The halo of each step, from the last task back to the first.
use Rattle.std.proofs.Common.{◌≡◌, ◌≢◌, ℕ, zero, suc, ◌+◌, ◌-◌, ◌<◌, ◌≤◌, max, List, [], ◌∷◌, ◌⊎◌, length, drop, set, refl, sym, ◌∙◌, ap, subst, inl, inr, arith}
use Rattle.std.proofs.lemmas.Grind.{get_or-set_at}
use Rattle.graph_steps.proofs.Common.{Plane, ReadsPlane, Reduce, Step, Task, Write, get_or-set_other, length-set}
use Rattle.graph_steps.specs.Halos.{NamesBelow, need, without_halo}

-- ---- raised needs

-- the needs of some planes are raised
pub record Raised (Is : ℕ → Type 0) (rows : ℕ) (old new : List ℕ) : Type 0 where
  pub grows : (c : ℕ) → need old c ≤ need new c
  pub enough : (c : ℕ) → Is c → rows ≤ need new c
  pub only : (c : ℕ) → (need new c ≡ need old c) ⊎ (Is c × (need new c ≡ rows))

raised_at : (rows place : ℕ) (old new : List ℕ)
    → place < length old
    → new ≡ set old place (max (need old place) rows)
    → Raised (λ c. place ≡ c) rows old new
raised_at rows place old new below is = subst (Raised (λ c. place ≡ c) rows old) (sym is) (record {
  grows = λ c. grind (arith, get_or-set_at, get_or-set_other);
  enough = λ c e. grind (arith, get_or-set_at);
  only = λ c. grind (arith, get_or-set_at, get_or-set_other);
})

-- the inputs of a step
pub raised_one : (s : Step) (rows : ℕ) (old new : List ℕ)
    → s.first < length old
    → ((c : ℕ) → s.second ≢ Plane c)
    → new ≡ set old s.first (max (need old s.first) rows)
    → Raised (ReadsPlane s) rows old new
raised_one s rows old new below alone is =
    let r = raised_at rows s.first old new below is in
    record {
      grows = r.grows;
      enough = λ c reads. elim reads [ inl e ↦ r.enough c e | inr e ↦ absurd (alone c e) ];
      only = λ c. elim (r.only c) [ inl e ↦ inl e | inr m ↦ inr (inl m.0, m.1) ];
    }

pub raised_two : (s : Step) (rows second : ℕ) (old between new : List ℕ)
    → s.first < length old
    → second < length old
    → s.second ≡ Plane second
    → between ≡ set old s.first (max (need old s.first) rows)
    → new ≡ set between second (max (need between second) rows) → Raised (ReadsPlane s) rows old new
raised_two s rows second old between new below low two was is =
    let a = raised_at rows s.first old between below was in
    let here : second < length between =
    omega (arith, low, ap length was, length-set old s.first (max (need old s.first) rows)) in
    let b = raised_at rows second between new here is in
    record {
      grows = λ c. (let m = a.grows c in let n = b.grows c in omega arith);
      enough = λ c reads. elim reads [
        | inl e ↦ (let m = a.enough c e in let n = b.grows c in omega arith)
        | inr e ↦ b.enough c (cc)
      ];
      only = λ c. elim (b.only c) [
        | inl e ↦ elim (a.only c) [ inl o ↦ inl (e ∙ o) | inr m ↦ inr (inl m.0, e ∙ m.1) ]
        | inr m ↦ inr (inr (two ∙ ap Plane m.0), m.1)
      ];
    }

-- ---- tasks whose halos are found

-- a task names planes whatever its halo is
pub names_same : (count : ℕ) (t u : Task)
    → without_halo t ≡ without_halo u
    → NamesBelow count t
    → NamesBelow count u
names_same count t u same names = of_bare u (subst (NamesBelow count) same (to_bare t names))
  where
    to_bare : (t : Task) → NamesBelow count t → NamesBelow count (without_halo t)
    to_bare (Write s) n = n
    to_bare (Reduce r) n = n

    of_bare : (t : Task) → NamesBelow count (without_halo t) → NamesBelow count t
    of_bare (Write s) n = n
    of_bare (Reduce r) n = n

-- the tasks from one on, once it is replaced, and those after it
pub from_one_before : (tasks : List Task) (k : ℕ) (t : Task)
    → k < length tasks
    → drop (length tasks - (k + 1)) (set tasks (length tasks - 1 - k) t)
    ≡ t ∷ drop (length tasks - k) tasks
from_one_before tasks k t below =
    let i : length tasks - (k + 1) ≡ length tasks - 1 - k = omega arith in
    let j : length tasks - k ≡ suc (length tasks - 1 - k) = omega arith in
    ap (λ n. drop n (set tasks (length tasks - 1 - k) t)) i
    ∙ dropped tasks (length tasks - 1 - k) (omega arith)
    ∙ ap (λ n. t ∷ drop n tasks) (sym j)
  where
    dropped : (l : List Task) (n : ℕ) → n < length l → drop n (set l n t) ≡ t ∷ drop (suc n) l
    dropped [] n low = absurd (omega arith)
    dropped (u ∷ l) zero low = refl
    dropped (u ∷ l) (suc n) low = dropped l n (omega arith)
