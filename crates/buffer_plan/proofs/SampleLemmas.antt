-- The greatest sample counts of slots.
use Rattle.std.proofs.Common.{◌≡◌, ℕ, ◌+◌, ◌<◌, ◌≤◌, inl, inr, cond, List, [], ◌∷◌, ◌++◌, length, take, get_or, set, map, sym, ◌∙◌, ap, subst, arith, get_or-set_other, get_or-set_same, append-nil, nat_le, ◌==◌}
use Rattle.buffer_plan.proofs.Common.{filter, map-append, take_more, filter-append, cases_Bool, cases_eq, nat_tests, sample_count, In, In-at, Placed, slot_capacity, maximum_of}

greatest-push : (ns : List ℕ) (n : ℕ)
    → maximum_of (ns ++ n ∷ []) ≡ cond (nat_le n (maximum_of ns)) (maximum_of ns) n
greatest-push [] n = grind (arith, nat_tests)
greatest-push (m ∷ ns) n = let h = greatest-push ns n in grind (arith, nat_tests)

module _ (placed : List Placed) (i : ℕ) (q : Placed) (within : i < length placed)
    (here : q ≡ get_or placed i q) where
  one_more : take (i + 1) placed ≡ take i placed ++ q ∷ []
  one_more = take_more placed i q within ∙ ap (λ p. take i placed ++ p ∷ []) (sym here)

  -- its slot is one of those that there are
  pub has_slot : (samples : List ℕ) (count : ℕ)
      → length samples ≡ count
      → ((p : Placed) → In p placed → p.slot < count)
      → q.slot < length samples
  has_slot samples count long below =
      omega (arith, long, below q (subst (λ p. In p placed) (sym here) (In-at placed i q within)))

  -- the slot of the new image, and the others
  samples_more : (k : ℕ) → slot_capacity (take (i + 1) placed) k
      ≡ cond (q.slot == k)
      (cond (nat_le (sample_count q.life.image.desc) (slot_capacity (take i placed) k))
      (slot_capacity (take i placed) k) (sample_count q.life.image.desc))
      (slot_capacity (take i placed) k)
  samples_more k =
      let before =
      map (λ (p : Placed). sample_count p.life.image.desc)
      (filter (λ (p : Placed). p.slot == k) (take i placed)) in
      rw one_more (simp (filter-append, map-append) (elim (cases_Bool (q.slot == k)) [
        | inl here ↦ rw here (greatest-push before (sample_count q.life.image.desc))
        | inr other ↦ rw other (ap maximum_of (append-nil before))
      ]))

  pub samples_grow : (samples : List ℕ)
      → q.slot < length samples
      → ((k : ℕ) → get_or samples k 0 ≡ slot_capacity (take i placed) k)
      → get_or samples q.slot 0 < sample_count q.life.image.desc
      → (k : ℕ)
      → get_or (set samples q.slot (sample_count q.life.image.desc)) k 0
      ≡ slot_capacity (take (i + 1) placed) k
  samples_grow samples there was less k =
      let n = sample_count q.life.image.desc in
      grind (
        arith,
        nat_tests,
        samples_more k,
        was k,
        get_or-set_same samples q.slot n 0 there,
        get_or-set_other samples q.slot k n 0,
        cases_eq k q.slot,
      )

  pub samples_stay : (samples : List ℕ)
      → ((k : ℕ) → get_or samples k 0 ≡ slot_capacity (take i placed) k)
      → sample_count q.life.image.desc ≤ get_or samples q.slot 0
      → (k : ℕ) → get_or samples k 0 ≡ slot_capacity (take (i + 1) placed) k
  samples_stay samples was less k =
      grind (arith, nat_tests, samples_more k, was k, cases_eq k q.slot)
