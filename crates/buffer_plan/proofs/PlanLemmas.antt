-- What the places of the three formats tell together.
use Rattle.std.proofs.Common.{◌≡◌, ℕ, ◌<◌, ◌≤◌, ◌⊎◌, inl, inr, Bool, true, false, List, [], ◌∷◌, length, map, refl, sym, ◌∙◌, ap, subst, arith, Option, Some, None, IfSome, is_some, ◌||◌, ◌==◌}
use Rattle.buffer_plan.proofs.Common.{filter, list_any, cases_Bool, Format, U8, S16, U32, Node, Reference, same_reference, sample_count, same_format, VirtualOutput, has_twice, In, same_cell-is, same_cell-true, In-map, In-from_map, In-filter, In-from_filter, Life, Plan, Placed, is_live, is_in, AreLives, AreRising, count_in, AllApart, places_in, plan_view, IsPlan, of_format, live_images, IsValid, maximum_of}
use Rattle.std.specs.Option.{option_map, option_or}
use Rattle.std.proofs.lemmas.Simd.{map-map}
use Rattle.graph_verify.proofs.KnownLemmas.{find_cases}
use Rattle.buffer_plan.specs.Placed.{slot_among, ArePlaced}
use Rattle.buffer_plan.specs.Slots.{IsPeak, is_slot}
use Rattle.buffer_plan.proofs.OnceLemmas.{one_of_cell, once-filter}
use Rattle.buffer_plan.proofs.PlacingLemmas.{count-within}

-- ---- formats

pub same_format-refl : (f : Format) → same_format f f ≡ true
same_format-refl f = grind arith

same_format-true : (f g : Format) → same_format f g ≡ true → f ≡ g
same_format-true f g h = grind arith

pub In-format : (f : Format) (o : VirtualOutput) (images : List VirtualOutput)
    → In o images
    → o.desc.format ≡ f
    → In o (of_format f images)
In-format f o images i is =
    In-filter (λ (z : VirtualOutput). same_format z.desc.format f) o images i
    (ap (λ g. same_format g f) is ∙ same_format-refl f)

pub from_format : (f : Format) (o : VirtualOutput) (images : List VirtualOutput)
    → In o (of_format f images)
    → In o images × (o.desc.format ≡ f)
from_format f o images i =
    let r = In-from_filter (λ (z : VirtualOutput). same_format z.desc.format f) o images i in
    (r.0, same_format-true o.desc.format f r.1)

cases_format : (f : Format) → (f ≡ U8) ⊎ ((f ≡ S16) ⊎ (f ≡ U32))
cases_format f = grind arith

-- each image is of one of the formats
any_format : (p : VirtualOutput → Bool) (images : List VirtualOutput)
    → list_any p images
    ≡
    ((list_any p (of_format U8 images) || list_any p (of_format S16 images)) || list_any p
    (of_format U32 images))
any_format p [] = refl
any_format p (o ∷ images) = grind (arith, any_format p images, cases_format o.desc.format)

is_some-or : (a b : Option ℕ) → is_some (option_or a b) ≡ (is_some a || is_some b)
is_some-or a b = grind arith

-- ---- the slot of a cell among those of a format

is_some_slot : (ps : List Placed) (c : Reference)
    → is_some (slot_among ps c)
    ≡ list_any (λ (o : VirtualOutput). same_reference o.cell c)
    (map (λ (l : Life). l.image) (map (λ (p : Placed). p.life) ps))
is_some_slot [] c = refl
is_some_slot (p ∷ ps) c =
    grind (arith, is_some_slot ps c, cases_Bool (same_reference p.life.image.cell c))

-- two that are live at one step and have one slot are one
one_in_slot : (ps : List Placed) (p q : Placed) (s : ℕ)
    → AllApart ps
    → In p ps
    → In q ps
    → is_in s p.life ≡ true
    → is_in s q.life ≡ true
    → p.slot ≡ q.slot
    → p ≡ q
one_in_slot [] p q s a h i l m e = absurd h
one_in_slot (r ∷ ps) p q s a h i l m e = grind (arith, one_in_slot ps p q s a.1, a.0 p s, a.0 q s)

-- ---- lists that pass tests alike

count_lives : (steps : List Node) (step : ℕ) (lives : List Life)
    → ((l : Life) → In l lives → is_live steps l.image.cell step ≡ is_in step l)
    → length
    (filter (λ (o : VirtualOutput). is_live steps o.cell step) (map (λ (l : Life). l.image) lives))
    ≡ count_in step lives
count_lives steps step [] same = refl
count_lives steps step (l ∷ lives) same =
    grind (
      arith,
      count_lives steps step lives (λ m i. same m (inr i)),
      same l (inl refl),
      cases_Bool (is_in step l),
    )

shared : (slot : Reference → Option ℕ) (k : ℕ) (ps : List Placed)
    → ((q : Placed) → In q ps → slot q.life.image.cell ≡ Some q.slot)
    → map (λ (q : Placed). sample_count q.life.image.desc) (filter (λ (q : Placed). q.slot == k) ps)
    ≡ map (λ (o : VirtualOutput). sample_count o.desc)
    (filter (λ (o : VirtualOutput). is_slot k (slot o.cell))
    (map (λ (l : Life). l.image) (map (λ (p : Placed). p.life) ps)))
shared slot k [] has = refl
shared slot k (q ∷ ps) has =
    grind (
      arith,
      shared slot k ps (λ p i. has p (inr i)),
      has q (inl refl),
      cases_Bool (q.slot == k),
    )

cells_placed : (ps : List Placed)
    → map (λ (p : Placed). p.life.image.cell) ps
    ≡ map (λ (o : VirtualOutput). o.cell)
    (map (λ (l : Life). l.image) (map (λ (p : Placed). p.life) ps))
cells_placed ps =
    sym
    (map-map (λ (o : VirtualOutput). o.cell) (λ (l : Life). l.image)
    (map (λ (p : Placed). p.life) ps) ∙ map-map (λ (l : Life). l.image.cell)
    (λ (p : Placed). p.life) ps)

-- ---- the plan

module _ (steps : List Node) (images : List VirtualOutput) (p : Plan) (lives : Format → List Life)
    (are : (f : Format) → AreLives steps (of_format f images) (lives f))
    (placed : (f : Format) → ArePlaced (lives f) (places_in p f))
  where
    all_images : (f : Format)
        → map (λ (l : Life). l.image) (map (λ (q : Placed). q.life) (places_in p f).placed.items)
        ≡ of_format f images
    all_images f = ap (map (λ (l : Life). l.image)) (placed f).each ∙ (are f).each

    -- a slot for each image, and for no other cell
    pub slots_given : (c : Reference)
        → is_some ((plan_view p).slot_of c)
        ≡ list_any (λ (o : VirtualOutput). same_reference o.cell c) images
    slots_given c =
        let each : (f : Format)
        → is_some (slot_among (places_in p f).placed.items c)
        ≡ list_any (λ (o : VirtualOutput). same_reference o.cell c) (of_format f images) =
        λ f. is_some_slot (places_in p f).placed.items c
        ∙ ap (list_any (λ (o : VirtualOutput). same_reference o.cell c)) (all_images f) in
        rw (
          is_some-or,
          is_some-or,
          each U8,
          each S16,
          each U32,
        ) (sym (any_format (λ o. same_reference o.cell c) images))

    placed_life : (f : Format) (q : Placed)
        → In q (places_in p f).placed.items
        → In q.life (lives f)
    placed_life f q i =
        subst (In q.life) (placed f).each
        (In-map (λ (z : Placed). z.life) q (places_in p f).placed.items i)

    placed_image : (f : Format) (q : Placed)
        → In q (places_in p f).placed.items
        → In q.life.image (of_format f images)
    placed_image f q i =
        subst (In q.life.image) (are f).each
        (In-map (λ (l : Life). l.image) q.life (lives f) (placed_life f q i))

    image_placed : (f : Format) (o : VirtualOutput)
        → In o (of_format f images)
        → (q : Placed) × In q (places_in p f).placed.items × (q.life.image ≡ o)
    image_placed f o i =
        let l =
        In-from_map (λ (z : Life). z.image) o (lives f) (subst (In o) (sym (are f).each) i) in
        let q =
        In-from_map (λ (z : Placed). z.life) l.0 (places_in p f).placed.items
        (subst (In l.0) (sym (placed f).each) l.1) in
        (q.0, q.1, ap (λ (z : Life). z.image) (sym q.2) ∙ sym l.2)

    count_live : (f : Format) (step : ℕ)
        → length (live_images steps images f step) ≡ count_in step (lives f)
    count_live f step =
        ap (λ os. length (filter (λ (o : VirtualOutput). is_live steps o.cell step) os))
        (sym (are f).each)
        ∙ count_lives steps step (lives f) (λ l i. ((are f).exact l i).live step)

    module _ (once : has_twice (map (λ o. o.cell) images) ≡ false)
        (rising : (f : Format) → AreRising (lives f)) where
      none_of_others : (f g : Format) (o : VirtualOutput)
          → In o (of_format f images)
          → (f ≡ g → ⊥)
          → slot_among (places_in p g).placed.items o.cell ≡ None
      none_of_others f g o i other =
          elim
          (find_cases (λ (q : Placed). same_reference q.life.image.cell o.cell)
          (places_in p g).placed.items) [
            | inl r ↦ (
                let there = from_format g r.0.life.image images (placed_image g r.0 r.2) in
                let here = from_format f o images i in
                let same =
                one_of_cell (λ (z : VirtualOutput). z.cell) images once r.0.life.image o there.0
                here.0 (same_cell-true r.0.life.image.cell o.cell r.3) in
                absurd
                (other
                (sym here.1 ∙ ap (λ (z : VirtualOutput). z.desc.format) (sym same) ∙ there.1)))
            | inr n ↦ ap (option_map (λ (z : Placed). z.slot)) n.0
          ]

      told_is : (f : Format) (c : Reference) (k : ℕ)
          → slot_among (places_in p f).placed.items c ≡ Some k
          → ((g : Format) → (f ≡ g → ⊥) → slot_among (places_in p g).placed.items c ≡ None)
          → (plan_view p).slot_of c ≡ Some k
      told_is f c k own none = grind (arith, none U8, none S16, cases_format f)

      -- an image has its slot
      found : (f : Format) (o : VirtualOutput)
          → In o (of_format f images)
          → (q : Placed)
          × In q (places_in p f).placed.items
          × (q.life.image ≡ o)
          × ((plan_view p).slot_of o.cell ≡ Some q.slot)
      found f o i =
          elim
          (find_cases (λ (q : Placed). same_reference q.life.image.cell o.cell)
          (places_in p f).placed.items) [
            | inl r ↦ (
                let there = (from_format f r.0.life.image images (placed_image f r.0 r.2)).0 in
                let same = same_cell-true r.0.life.image.cell o.cell r.3 in
                let own = ap (option_map (λ (z : Placed). z.slot)) r.1 in (
                  r.0,
                  r.2,
                  one_of_cell (λ (z : VirtualOutput). z.cell) images once r.0.life.image o
                      there (from_format f o images i).0 same,
                  told_is f o.cell r.0.slot own
                      (λ g other. none_of_others f g o i other),
                ))
            | inr n ↦ (
                let q = image_placed f o i in
                let there =
                same_cell-is q.0.life.image.cell o.cell (ap (λ (z : VirtualOutput). z.cell) q.2) in
                let none = n.1 q.0 q.1 in
                absurd (cc))
          ]

      live_there : (f : Format) (q : Placed) (o : VirtualOutput) (step : ℕ)
          → In q (places_in p f).placed.items
          → q.life.image ≡ o
          → is_live steps o.cell step ≡ true
          → is_in step q.life ≡ true
      live_there f q o step i same live =
          sym (((are f).exact q.life (placed_life f q i)).live step)
          ∙ ap (λ (z : VirtualOutput). is_live steps z.cell step) same
          ∙ live

      valid : IsValid steps images (plan_view p).slot_of
      valid f step a b i j same =
          let a' =
          In-from_filter (λ (o : VirtualOutput). is_live steps o.cell step) a
          (of_format f images) i in
          let b' =
          In-from_filter (λ (o : VirtualOutput). is_live steps o.cell step) b
          (of_format f images) j in
          let q = found f a a'.0 in
          let r = found f b b'.0 in
          let slots : Some q.0.slot ≡ Some r.0.slot = sym q.3 ∙ same ∙ r.3 in
          let one =
          one_in_slot (places_in p f).placed.items q.0 r.0 step ((placed f).apart (rising f))
          q.1 r.1 (live_there f q.0 a step q.1 q.2 a'.1) (live_there f r.0 b step r.1 r.2 b'.1)
          (cc slots) in
          sym q.2 ∙ ap (λ (z : Placed). z.life.image) one ∙ r.2

      most : (f : Format) (step : ℕ)
          → count_in step (lives f) ≤ length (places_in p f).samples.items
      most f step =
          subst (λ ls. count_in step ls ≤ length (places_in p f).samples.items) (placed f).each
          (count-within step (places_in p f).placed.items (length (places_in p f).samples.items)
          ((placed f).apart (rising f)) (placed f).below)

      peak : (f : Format)
          → IsPeak steps images f ((plan_view p).slot_count f) ((plan_view p).peak_step f)
      peak f = record {
        most = (λ step. omega (arith, count_live f step, most f step));
        none = (placed f).none;
        some = (λ step e.
            let r = (placed f).reached (rising f) step e in
            record {
              some = r.some;
              there = omega (arith, count_live f step, most f step, r.there);
              fewer_before =
                  (λ earlier less. omega
                  (arith, count_live f earlier, r.fewer_before earlier less));
            });
      }

      slot_told : (f : Format) (q : Placed)
          → In q (places_in p f).placed.items
          → (plan_view p).slot_of q.life.image.cell ≡ Some q.slot
      slot_told f q i =
          let r = found f q.life.image (placed_image f q i) in
          let cells =
          ap has_twice
          (cells_placed (places_in p f).placed.items
          ∙ ap (map (λ (o : VirtualOutput). o.cell)) (all_images f))
          ∙ once-filter (λ (o : VirtualOutput). o.cell) (λ o. same_format o.desc.format f)
          images once in
          let same =
          one_of_cell (λ (z : Placed). z.life.image.cell) (places_in p f).placed.items cells r.0
          q r.1 i (ap (λ (z : VirtualOutput). z.cell) r.2) in
          r.3 ∙ ap {B = Option ℕ} (λ (z : Placed). Some z.slot) same

      pub is_plan : IsPlan steps images (plan_view p)
      is_plan = record {
        once = once;
        given = slots_given;
        valid = valid;
        below = (λ o i.
            let r = found o.desc.format o (In-format o.desc.format o images i refl) in
            subst (λ s. IfSome s (λ k. k < (plan_view p).slot_count o.desc.format)) (sym r.3)
            ((placed o.desc.format).below r.0 r.1));
        peak = peak;
        samples =
            (λ f k. (placed f).samples k ∙ ap maximum_of
            (shared (plan_view p).slot_of k (places_in p f).placed.items (slot_told f)
            ∙ ap
            (λ os. map (λ (o : VirtualOutput). sample_count o.desc)
            (filter (λ (o : VirtualOutput). is_slot k ((plan_view p).slot_of o.cell)) os))
            (all_images f)));
      }
