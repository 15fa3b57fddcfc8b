-- Images that get slots one after the other.
use Rattle.std.proofs.Common.{◌≡◌, ◌≢◌, ℕ, ◌+◌, ◌<◌, ◌≤◌, inl, inr, suc, zero, true, false, List, [], ◌∷◌, ◌++◌, length, take, get_or, set, map, eqb, refl, sym, ◌∙◌, ap, subst, arith, length-append, get_or-set_other, get_or-set_same, length-set, Option, Some, None, if◌then◌else◌, ◌==◌, take_all, eq-eqb, eqb-true, ne_eqb}
use Rattle.buffer_plan.proofs.Common.{filter, map-append, take_more, filter-append, nat_tests, cases_Bool, cases_eq, In, In-from_any, any-from_In, In-filter, In-from_filter, In-map, In-from_map, In-at, Life, Placed, is_in, AreRising, count_in, AllApart, IsReached}
use Rattle.std.specs.List.{IsDistinct}
use Rattle.std.proofs.Math.Seq.{get_or-append_seam}
use Rattle.std.proofs.Math.ListN.{get_or-append}
use Rattle.std.proofs.lemmas.Map.Steps.{le-length_from_below, length-le_from_distinct_below}
use Rattle.graph_verify.proofs.MemberLemmas.{In-left, In-right}
use Rattle.buffer_plan.specs.Placed.{TakesSlot}
use Rattle.buffer_plan.proofs.EachLemmas.{by_recursion-from_In, each-push}

-- ---- steps of a life

pub in_life : (s : ℕ) (l : Life) → is_in s l ≡ true → (l.first ≤ s) × (s ≤ l.last)
in_life s l h = grind (arith, nat_tests)

pub in_life-from : (s : ℕ) (l : Life) → l.first ≤ s → s ≤ l.last → is_in s l ≡ true
in_life-from s l a b = grind (arith, nat_tests)

-- ---- the slots of what is live at a step are distinct

abbrev live_slots : ℕ → List Placed → List ℕ
live_slots s placed = map (λ p. p.slot) (filter (λ p. is_in s p.life) placed)

length-live_slots : (s : ℕ) (placed : List Placed)
    → length (live_slots s placed) ≡ count_in s (map (λ p. p.life) placed)
length-live_slots s [] = refl
length-live_slots s (p ∷ ps) = grind (arith, length-live_slots s ps, cases_Bool (is_in s p.life))

In-live_slots : (s : ℕ) (p : Placed) (ps : List Placed)
    → In p ps
    → is_in s p.life ≡ true
    → In p.slot (live_slots s ps)
In-live_slots s p ps h e =
    In-map (λ (q : Placed). q.slot) p (filter (λ q. is_in s q.life) ps)
    (In-filter (λ q. is_in s q.life) p ps h e)

from_live_slots : (s y : ℕ) (ps : List Placed)
    → In y (live_slots s ps)
    → (q : Placed) × In q ps × (is_in s q.life ≡ true) × (y ≡ q.slot)
from_live_slots s y ps h =
    let r = In-from_map (λ (q : Placed). q.slot) y (filter (λ q. is_in s q.life) ps) h in
    let i = In-from_filter (λ (q : Placed). is_in s q.life) r.0 ps r.1 in
    (r.0, i.0, i.1, r.2)

live_slots_distinct : (s : ℕ) (ps : List Placed) → AllApart ps → IsDistinct eqb (live_slots s ps)
unfolding IsDistinct
live_slots_distinct s [] h = tt
live_slots_distinct s (p ∷ ps) h = elim (cases_Bool (is_in s p.life)) [
  | inl k ↦ rw k (
    by_recursion-from_In (λ y. eqb p.slot y ≡ false) (live_slots s ps)
        (λ y i. let r = from_live_slots s y ps i in ne_eqb p.slot y
        (λ e. h.0 r.0 s r.1 k r.2 (e ∙ r.3))),
    live_slots_distinct s ps h.1,
  )
  | inr k ↦ rw k (live_slots_distinct s ps h.1)
]

-- at least as many slots are needed as images are live at a step
pub count-within : (s : ℕ) (placed : List Placed) (n : ℕ)
    → AllApart placed
    → ((p : Placed) → In p placed → p.slot < n)
    → count_in s (map (λ p. p.life) placed) ≤ n
count-within s placed n apart below =
    let few =
    length-le_from_distinct_below (live_slots s placed) n (live_slots_distinct s placed apart)
    (λ q a.
    let r = In-from_any (eqb q) (live_slots s placed) a in
    let t = from_live_slots s r.0 placed r.1 in
    omega (arith, eqb-true q r.0 r.2, below t.0 t.1, t.3)) in
    omega (arith, few, length-live_slots s placed)

-- ---- an image more

AllApart-push : (ps : List Placed) (q : Placed)
    → AllApart ps
    →
    ((p : Placed) (s : ℕ)
    → In p ps
    → is_in s p.life ≡ true
    → is_in s q.life ≡ true
    → p.slot ≢ q.slot)
    → AllApart (ps ++ q ∷ [])
AllApart-push [] q h new = ((λ r s i. absurd i), tt)
AllApart-push (p ∷ ps) q h new = (
  (λ r s i a. each-push (λ z. is_in s z.life ≡ true → p.slot ≢ z.slot) ps q (λ z j. h.0 z s j a)
      (new p s (inl refl) a) r i),
  AllApart-push ps q h.1 (λ r s i. new r s (inr i)),
)

count-push : (s : ℕ) (ps : List Placed) (q : Placed)
    → count_in s (map (λ p. p.life) ps) ≤ count_in s (map (λ p. p.life) (ps ++ q ∷ []))
count-push s ps q = simp (map-append, filter-append, length-append) (omega arith)

count-push_live : (s : ℕ) (ps : List Placed) (q : Placed)
    → is_in s q.life ≡ true
    → count_in s (map (λ p. p.life) ps) + 1 ≤ count_in s (map (λ p. p.life) (ps ++ q ∷ []))
count-push_live s ps q h = simp (map-append, filter-append, length-append) (rw h (omega arith))

count-push_later : (s : ℕ) (ps : List Placed) (q : Placed)
    → is_in s q.life ≡ false
    → count_in s (map (λ p. p.life) (ps ++ q ∷ [])) ≡ count_in s (map (λ p. p.life) ps)
count-push_later s ps q h = simp (map-append, filter-append, length-append) (rw h (omega arith))

not_yet : (s : ℕ) (l : Life) → s < l.first → is_in s l ≡ false
not_yet s l less = grind (arith, nat_tests)

-- what the slots' ends and the images that have one keep
pub record IsFine (ends : List ℕ) (placed : List Placed) : Type 0 where
  pub held : (p : Placed)
      → In p placed
      → (p.slot < length ends) × (p.life.last ≤ get_or ends p.slot 0)
  pub holder : (k : ℕ)
      → k < length ends
      → (p : Placed) × In p placed × (p.slot ≡ k) × (p.life.last ≡ get_or ends k 0)
  pub apart : AllApart placed

-- as many are live at the step as there are slots, and fewer before it
pub record IsPeaking (step : ℕ) (count : ℕ) (placed : List Placed) : Type 0 where
  pub some : 0 < count
  pub there : count ≤ count_in step (map (λ p. p.life) placed)
  pub fewer : (earlier : ℕ) → earlier < step → count_in earlier (map (λ p. p.life) placed) < count
  pub opener : (p : Placed) × In p placed × (p.life.first ≡ step)

-- the new image takes a slot that is new, or whose holders have ended
fine-more : (ends ends' : List ℕ) (placed : List Placed) (q : Placed)
    → length ends ≤ length ends'
    → q.slot < length ends'
    → get_or ends' q.slot 0 ≡ q.life.last
    →
    ((k : ℕ)
    → k ≢ q.slot
    → k < length ends'
    → (k < length ends) × (get_or ends' k 0 ≡ get_or ends k 0))
    → (q.slot < length ends → get_or ends q.slot 0 < q.life.first)
    → q.life.first ≤ q.life.last
    → IsFine ends placed
    → IsFine ends' (placed ++ q ∷ [])
fine-more ends ends' placed q more there at others free proper fine =
    record {
      held =
          each-push (λ p. (p.slot < length ends') × (p.life.last ≤ get_or ends' p.slot 0)) placed q
          (λ p i.
          let h = fine.held p i in
          let here : p.slot < length ends' = omega (arith, h.0) in (
            here,
            elim (cases_eq p.slot q.slot) [
              | inl e ↦ omega (arith, ended p i e, at, ap (λ k. get_or ends' k 0) e)
              | inr ne ↦ omega (arith, h.1, (others p.slot ne here).1)
            ],
          ))
          (there, omega (arith, at));
      holder = (λ k h. elim (cases_eq k q.slot) [
        | inl e ↦ (
          q,
          In-right q placed (q ∷ []) (inl refl),
          sym e,
          sym (ap (λ j. get_or ends' j 0) e ∙ at),
        )
        | inr ne ↦ (
            let same = others k ne h in
            let r = fine.holder k same.0 in
            (r.0, In-left r.0 placed (q ∷ []) r.1, r.2, r.3 ∙ sym same.1))
      ]);
      apart =
          AllApart-push placed q fine.apart
          (λ p s i a b e. absurd
          (omega (arith, ended p i e, (in_life s p.life a).1, (in_life s q.life b).0)));
    }
  where
    -- the holders have
    ended : (p : Placed) → In p placed → p.slot ≡ q.slot → p.life.last < q.life.first
    ended p i e =
        let h = fine.held p i in
        omega (arith, h.1, free (omega (arith, h.0, e)), ap (λ k. get_or ends k 0) e)

-- where none is free, all slots are live as the new image begins
peaking-new : (ends : List ℕ) (placed : List Placed) (q : Placed)
    → ((k : ℕ) → k < length ends → q.life.first ≤ get_or ends k 0)
    → ((p : Placed) → In p placed → p.life.first ≤ q.life.first)
    → q.life.first ≤ q.life.last
    → IsFine ends placed
    → IsPeaking q.life.first (length ends + 1) (placed ++ q ∷ [])
peaking-new ends placed q full earlier proper fine =
    record {
      some = omega arith;
      there = (
          let all = le-length_from_below (live_slots q.life.first placed) (length ends) (λ k h.
          let r = fine.holder k h in
          let live =
          in_life-from q.life.first r.0.life (earlier r.0 r.1) (omega (arith, full k h, r.3)) in
          any-from_In (eqb k) r.0.slot (live_slots q.life.first placed)
          (In-live_slots q.life.first r.0 placed r.1 live) (eq-eqb k r.0.slot (sym r.2))) in
          omega (
            arith,
            all,
            length-live_slots q.life.first placed,
            count-push_live q.life.first
                placed q (in_life-from q.life.first q.life (omega arith) proper),
          ));
      fewer = (λ s less.
          omega (
            arith,
            count-push_later s placed q (not_yet s q.life less),
            count-within s placed
                (length ends) fine.apart (λ p i. (fine.held p i).0),
          ));
      opener = (q, In-right q placed (q ∷ []) (inl refl), refl);
    }

-- where one is, the peak stays
peaking-reused : (step count : ℕ) (placed : List Placed) (q : Placed)
    → ((p : Placed) → In p placed → p.life.first ≤ q.life.first)
    → IsPeaking step count placed
    → IsPeaking step count (placed ++ q ∷ [])
peaking-reused step count placed q earlier peak =
    let o = peak.opener in
    record {
      some = peak.some;
      there = omega (arith, count-push step placed q, peak.there);
      fewer =
          (λ s less. omega (
            arith,
            count-push_later s placed q
                (not_yet s q.life (omega (arith, less, earlier o.0 o.1, o.2))),
            peak.fewer s less,
          ));
      opener = (o.0, In-left o.0 placed (q ∷ []) o.1, o.2);
    }

-- ---- lives in the order of their beginnings

rising-proper : (lives : List Life) (i : ℕ) (d : Life)
    → AreRising lives
    → i < length lives
    → (get_or lives i d).first ≤ (get_or lives i d).last
rising-proper [] i d rising h = absurd (omega (arith, h))
rising-proper (l ∷ lives) i d rising h = grind (arith, rising-proper lives)

rising-before : (lives : List Life) (i : ℕ) (d m : Life)
    → AreRising lives
    → i < length lives
    → In m (take i lives)
    → m.first ≤ (get_or lives i d).first
rising-before [] i d m rising h before = absurd (omega (arith, h))
rising-before (l ∷ lives) zero d m rising h before = absurd before
rising-before (l ∷ lives) (suc i) d m rising h before =
    grind (arith, rising.1 (get_or lives i d), In-at lives i d, rising-before lives i d m rising.2)

-- the first i images have their slots
pub record IsPlacing (lives : List Life) (i : ℕ) (ends : List ℕ) (placed : List Placed)
    (peak : Option ℕ) : Type 0 where
  pub each : map (λ (p : Placed). p.life) placed ≡ take i lives
  pub below : (p : Placed) → In p placed → p.slot < length ends
  pub none : peak ≡ None → length ends ≡ 0
  pub fine : AreRising lives → IsFine ends placed
  pub peaking : AreRising lives
      → (step : ℕ)
      → peak ≡ Some step
      → IsPeaking step (length ends) placed

module _ (lives : List Life) (i : ℕ) (ends : List ℕ) (placed : List Placed) (peak : Option ℕ)
    (q : Placed)
    (within : i < length lives) (here : q.life ≡ get_or lives i q.life)
    (was : IsPlacing lives i ends placed peak)
  where
    all_lives : map (λ (p : Placed). p.life) (placed ++ q ∷ []) ≡ take (i + 1) lives
    all_lives =
        map-append (λ (p : Placed). p.life) placed (q ∷ []) ∙ ap (λ ls. ls ++ q.life ∷ []) was.each
        ∙ ap (λ l. take i lives ++ l ∷ []) here ∙ sym (take_more lives i q.life within)

    earlier : AreRising lives → (p : Placed) → In p placed → p.life.first ≤ q.life.first
    earlier rising p h =
        let before =
        rising-before lives i q.life p.life rising within
        (subst (In p.life) was.each (In-map (λ (z : Placed). z.life) p placed h)) in
        omega (arith, before, ap (λ (z : Life). z.first) here)

    proper : AreRising lives → q.life.first ≤ q.life.last
    proper rising =
        omega (
          arith,
          rising-proper lives i q.life rising within,
          ap (λ (z : Life). z.first) here,
          ap (λ (z : Life). z.last) here,
        )

    placing_reused : q.slot < length ends
        → get_or ends q.slot 0 < q.life.first
        → IsPlacing lives (i + 1) (set ends q.slot q.life.last) (placed ++ q ∷ []) peak
    placing_reused lt free =
        let len : length (set ends q.slot q.life.last) ≡ length ends =
        length-set ends q.slot q.life.last in
        record {
          each = all_lives;
          below =
              each-push (λ p. p.slot < length (set ends q.slot q.life.last)) placed q
              (λ p k. omega (arith, was.below p k, len)) (omega arith);
          none = (λ e. len ∙ was.none e);
          fine =
              (λ rising. fine-more ends (set ends q.slot q.life.last) placed q (omega arith)
              (omega arith) (get_or-set_same ends q.slot q.life.last 0 lt)
              (λ k ne h. (omega arith, get_or-set_other ends q.slot k q.life.last 0 ne))
              (λ _. free) (proper rising) (was.fine rising));
          peaking =
              (λ rising step e. rw len
              (peaking-reused step (length ends) placed q (earlier rising)
              (was.peaking rising step e)));
        }

    placing_new : q.slot ≡ length ends
        → ((k : ℕ) → k < length ends → q.life.first ≤ get_or ends k 0)
        → IsPlacing lives (i + 1) (ends ++ q.life.last ∷ []) (placed ++ q ∷ []) (Some q.life.first)
    placing_new new full =
        let len : length (ends ++ q.life.last ∷ []) ≡ length ends + 1 =
        length-append ends (q.life.last ∷ []) in
        record {
          each = all_lives;
          below =
              each-push (λ p. p.slot < length (ends ++ q.life.last ∷ [])) placed q
              (λ p k. omega (arith, was.below p k, len)) (omega arith);
          none = (λ e. absurd (cc e));
          fine =
              (λ rising. fine-more ends (ends ++ q.life.last ∷ []) placed q (omega arith)
              (omega arith) (rw new (get_or-append_seam ends q.life.last [] 0))
              (λ k ne h. let less : k < length ends = omega arith in
              (less, get_or-append ends (q.life.last ∷ []) 0 k less))
              (λ lt. absurd (omega arith)) (proper rising) (was.fine rising));
          peaking = (λ rising step e.
              let s : q.life.first ≡ step = cc e in
              rw (len, ← s)
              (peaking-new ends placed q full (earlier rising) (proper rising) (was.fine rising)));
        }

    pub placing_more : (ends' : List ℕ) (placed' : List Placed) (peak' : Option ℕ)
        → TakesSlot q.life ends ends' q.slot
        → placed' ≡ placed ++ q ∷ []
        → peak' ≡ (if q.slot == length ends then Some q.life.first else peak)
        → IsPlacing lives (i + 1) ends' placed' peak'
    placing_more ends' placed' peak' takes more peaks = elim takes [
      | inl reused ↦
          rw (
            more,
            reused.2,
            peaks,
            ne_eqb q.slot (length ends) (λ e. absurd (omega (arith, e, reused.0))),
          ) (placing_reused reused.0 reused.1)
      | inr new ↦
          rw (more, new.1, peaks, eq-eqb q.slot (length ends) new.0) (placing_new new.0 new.2)
    ]

-- what holds in the end
pub reached_in_all :
    (lives : List Life) (i : ℕ) (ends : List ℕ) (placed : List Placed) (peak : Option ℕ) (step : ℕ)
    → length lives ≤ i
    → AreRising lives
    → IsPlacing lives i ends placed peak
    → peak ≡ Some step
    → IsReached lives (length ends) step
reached_in_all lives i ends placed peak step all rising was e =
    let p = was.peaking rising step e in
    let same : map (λ (q : Placed). q.life) placed ≡ lives = was.each ∙ take_all i lives all in
    record {
      some = p.some;
      there = subst (λ ls. length ends ≤ count_in step ls) same p.there;
      fewer_before =
          subst (λ ls. (earlier : ℕ) → earlier < step → count_in earlier ls < length ends) same
          p.fewer;
    }
