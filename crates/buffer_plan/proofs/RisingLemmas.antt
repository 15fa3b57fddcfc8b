-- Lives of images in the order of their first steps.
use Rattle.std.proofs.Common.{◌≡◌, ℕ, ◌+◌, ◌-◌, ◌<◌, ◌≤◌, inl, inr, suc, Bool, true, false, List, [], ◌∷◌, ◌++◌, length, take, drop, map, refl, sym, ◌∙◌, ap, subst, arith, ◌||◌, take_all, ltb-true, lt-ltb}
use Rattle.buffer_plan.proofs.Common.{filter, flat_map, position_or_len, filter-append, cases_Bool, or_left, or_right, and_from, Format, Node, Reference, outputs, same_format, VirtualOutput, reads, writes, is_written, has_twice, In, same-from_In, In-filter, In-from_filter, In-map, In-from_map, In-from_flat_map, any-from_In, Life, is_node_operand, IsLife, AreLives, AreRising, of_format}
use Rattle.graph_verify.proofs.LinkLemmas.{In-from_same, once_across, once_after}
use Rattle.graph_verify.proofs.MemberLemmas.{In-append}
use Rattle.buffer_plan.proofs.LiveLemmas.{written_by}
use Rattle.buffer_plan.proofs.PlacingLemmas.{in_life}

-- the numbers of the references don't decrease
abbrev pub Rise : (Reference → ℕ) → List Reference → Type 0
Rise f [] = Unit {0}
Rise f (c ∷ cs) = ((d : Reference) → In d cs → f c ≤ f d) × Rise f cs

rise-append : (f : Reference → ℕ) (cs ds : List Reference)
    → Rise f cs
    → Rise f ds
    → ((c d : Reference) → In c cs → In d ds → f c ≤ f d)
    → Rise f (cs ++ ds)
rise-append f [] ds a b across = b
rise-append f (c ∷ cs) ds a b across = (
  (λ d i. grind (arith, In-append d cs ds i, a.0 d, across c d)),
  rise-append f cs ds a.1 b (λ e d i j. across e d (inr i) j),
)

rise-zero : (f : Reference → ℕ) (cs : List Reference)
    → ((c : Reference) → In c cs → f c ≡ 0)
    → Rise f cs
rise-zero f [] h = tt
rise-zero f (c ∷ cs) h =
    ((λ d i. let z = h c (inl refl) in omega arith), rise-zero f cs (λ d i. h d (inr i)))

rise-more : (f g : Reference → ℕ) (cs : List Reference)
    → ((c : Reference) → In c cs → g c ≡ f c + 1)
    → Rise f cs
    → Rise g cs
rise-more f g [] h rise = tt
rise-more f g (c ∷ cs) h rise = (
  (λ d i. omega (arith, h c (inl refl), h d (inr i), rise.0 d i)),
  rise-more f g cs (λ d i. h d (inr i)) rise.1,
)

-- how many steps there are before the first that writes a cell
abbrev pub before_writing : List Node → Reference → ℕ
before_writing steps c = position_or_len (λ n. writes n c) steps

first_writes : (n : Node) (steps : List Node) (c : Reference)
    → writes n c ≡ true
    → before_writing (n ∷ steps) c ≡ 0
first_writes n steps c w = rw w refl

later_writes : (n : Node) (steps : List Node) (c : Reference)
    → writes n c ≡ false
    → before_writing (n ∷ steps) c ≡ before_writing steps c + 1
later_writes n steps c w = rw w (omega arith)

-- outputs along steps, no cell twice among them
pub rise-outputs : (p : Reference → Bool) (steps : List Node)
    → has_twice (filter p (flat_map outputs steps)) ≡ false
    → Rise (before_writing steps) (filter p (flat_map outputs steps))
rise-outputs p [] once = tt
rise-outputs p (n ∷ steps) once =
    let all = n ∷ steps in
    let here = filter p (outputs n) in
    let later = filter p (flat_map outputs steps) in
    let split : filter p (flat_map outputs all) ≡ here ++ later =
    filter-append p (outputs n) (flat_map outputs steps) in
    let once' = ap has_twice (sym split) ∙ once in
    let zero_here : (c : Reference) → In c here → before_writing all c ≡ 0 =
    λ c i. first_writes n steps c
    (same-from_In c (outputs n) (In-from_filter p c (outputs n) i).0) in
    let more_later : (c : Reference)
    → In c later
    → before_writing all c ≡ before_writing steps c + 1 =
    λ c i. later_writes n steps c (elim (cases_Bool (writes n c)) [
      | inl w ↦
          absurd
          (once_across c here later once'
          (In-filter p c (outputs n) (In-from_same c (outputs n) w)
          (In-from_filter p c (flat_map outputs steps) i).1)
          i)
      | inr w ↦ w
    ]) in
    let rest =
    rise-more (before_writing steps) (before_writing all) later more_later
    (rise-outputs p steps (once_after here later once')) in
    rw split
    (rise-append (before_writing all) here later (rise-zero (before_writing all) here zero_here)
    rest (λ c d i j. omega (arith, zero_here c i)))

-- images of a format among images
rise-filter : (f : Reference → ℕ) (q : VirtualOutput → Bool) (images : List VirtualOutput)
    → Rise f (map (λ o. o.cell) images)
    → Rise f (map (λ o. o.cell) (filter q images))
rise-filter f q [] rise = tt
rise-filter f q (o ∷ images) rise =
    let rest = rise-filter f q images rise.1 in
    let first =
    λ (d : Reference) (i : In d (map (λ (z : VirtualOutput). z.cell) (filter q images))).
    let r = In-from_map (λ (z : VirtualOutput). z.cell) d (filter q images) i in
    rise.0 d
    (rw r.2 (In-map (λ (z : VirtualOutput). z.cell) r.0 images (In-from_filter q r.0 images r.1).0))
    in
    elim (cases_Bool (q o)) [ inl k ↦ rw k (first, rest) | inr k ↦ rw k rest ]

-- ---- an image that is written is live as it is written

used_at : (steps : List Node) (c : Reference)
    → before_writing steps c < length steps
    → is_node_operand (drop (before_writing steps c) steps) c ≡ true
used_at [] c h = absurd (omega (arith, h))
used_at (n ∷ steps) c h = elim (cases_Bool (writes n c)) [
  | inl w ↦
      rw (first_writes n steps c w)
      (or_left (reads n c || writes n c) (is_node_operand steps c)
      (or_right (reads n c) (writes n c) w))
  | inr w ↦ (
      let next : before_writing (n ∷ steps) c ≡ suc (before_writing steps c) =
      later_writes n steps c w ∙ omega arith in
      subst (λ k. is_node_operand (drop k (n ∷ steps)) c ≡ true) (sym next)
      (used_at steps c (omega arith)))
]

proper : (steps : List Node) (l : Life)
    → IsLife steps l
    → is_written steps l.image.cell ≡ true
    → l.first ≤ l.last
proper steps l life written =
    let c = l.image.cell in
    let k = before_writing steps c in
    let whole =
    ap (λ ns. is_written ns c) (sym (take_all (length steps) steps (omega arith)))
    ∙ written_by steps c (length steps) (omega arith) in
    let within = ltb-true k (length steps) (sym whole ∙ written) in
    let less : k + 1 - 1 ≡ k = omega arith in
    let begun =
    written_by steps c (k + 1) (omega (arith, within)) ∙ lt-ltb k (k + 1) (omega arith) in
    let used = ap (λ j. is_node_operand (drop j steps) c) less ∙ used_at steps c within in
    let live =
    and_from (is_written (take (k + 1) steps) c) (is_node_operand (drop (k + 1 - 1) steps) c)
    begun used in
    omega (arith, life.first, (in_life (k + 1) l (sym (life.live (k + 1)) ∙ live)).1)

rising-from : (steps : List Node) (lives : List Life)
    → ((l : Life) → In l lives → IsLife steps l)
    → ((l : Life) → In l lives → is_written steps l.image.cell ≡ true)
    → Rise (before_writing steps) (map (λ o. o.cell) (map (λ l. l.image) lives)) → AreRising lives
rising-from steps [] exact written rise = tt
rising-from steps (l ∷ lives) exact written rise = (
  proper steps l (exact l (inl refl)) (written l (inl refl)),
  (λ m i.
      let later =
      rise.0 m.image.cell
      (In-map (λ (o : VirtualOutput). o.cell) m.image (map (λ (z : Life). z.image) lives)
      (In-map (λ (z : Life). z.image) m lives i))
      in
      omega (arith, (exact l (inl refl)).first, (exact m (inr i)).first, later)),
  rising-from steps lives (λ m i. exact m (inr i)) (λ m i. written m (inr i)) rise.1,
)

-- the lives of the images of a format, where the images are the outputs that pass a test
pub rising-lives :
    (p : Reference → Bool) (steps : List Node) (images : List VirtualOutput) (format : Format)
    (lives : List Life)
    → map (λ o. o.cell) images ≡ filter p (flat_map outputs steps)
    → has_twice (map (λ o. o.cell) images) ≡ false
    → AreLives steps (of_format format images) lives
    → AreRising lives
rising-lives p steps images format lives are once is =
    rising-from steps lives is.exact
    (λ l i.
    let image : In l.image (of_format format images) =
    subst (In l.image) is.each (In-map (λ (z : Life). z.image) l lives i) in
    let one =
    (In-from_filter (λ (o : VirtualOutput). same_format o.desc.format format) l.image images
    image).0
    in
    let cell : In l.image.cell (filter p (flat_map outputs steps)) =
    subst (In l.image.cell) are (In-map (λ (o : VirtualOutput). o.cell) l.image images one) in
    let writer =
    In-from_flat_map outputs l.image.cell steps
    (In-from_filter p l.image.cell (flat_map outputs steps) cell).0 in
    any-from_In (λ n. writes n l.image.cell) writer.0 steps writer.1
    (same-from_In l.image.cell (outputs writer.0) writer.2))
    (subst (λ os. Rise (before_writing steps) (map (λ (o : VirtualOutput). o.cell) os))
    (sym is.each)
    (rise-filter (before_writing steps) (λ o. same_format o.desc.format format) images
    (subst (Rise (before_writing steps)) (sym are)
    (rise-outputs p steps (ap has_twice (sym are) ∙ once)))))
