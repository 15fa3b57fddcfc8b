-- When images are live, by the first step that writes them and the last that uses them.
use Rattle.std.proofs.Common.{◌≡◌, ℕ, ◌+◌, ◌-◌, ◌<◌, ◌≤◌, suc, zero, Bool, true, false, List, [], ◌∷◌, ◌++◌, length, take, drop, get_or, ltb, not, refl, sym, ap, ◌∙◌, arith, append-nil, ◌||◌, Some, None, position, ltb-false}
use Rattle.buffer_plan.proofs.Common.{position_or_len, cases_Bool, or_right, nat_tests, map-append, take_more, filter-append, Format, Node, Reference, same_format, VirtualOutput, reads, writes, is_written, Life, is_node_operand, is_live, is_in, IsLife, AreLives, of_format}
use Rattle.std.proofs.lemmas.Bool.{cases_lt}
use Rattle.std.proofs.lemmas.List.{drop_all}
use Rattle.std.proofs.lemmas.List.Sums.{prefix_len-le-length}
use Rattle.buffer_plan.proofs.EachLemmas.{each-push}

-- ---- the last use

used_nothing : (c : Reference) (j : ℕ) → is_node_operand (drop j []) c ≡ false
used_nothing c j = grind arith

-- a last node that doesn't use the cell
pub unused_last : (before : List Node) (n : Node) (c : Reference) (j : ℕ)
    → (reads n c || writes n c) ≡ false
    → is_node_operand (drop j (before ++ n ∷ [])) c ≡ is_node_operand (drop j before) c
unused_last [] n c zero h = rw h refl
unused_last [] n c (suc j) h = used_nothing c j
unused_last (m ∷ before) n c zero h =
    ap (λ b. (reads m c || writes m c) || b) (unused_last before n c zero h)
unused_last (m ∷ before) n c (suc j) h = unused_last before n c j h

-- a last node that uses it
pub used_last : (before : List Node) (n : Node) (c : Reference) (j : ℕ)
    → (reads n c || writes n c) ≡ true
    → is_node_operand (drop j (before ++ n ∷ [])) c ≡ ltb j (length before + 1)
used_last [] n c zero h = rw h refl
used_last [] n c (suc j) h = used_nothing c j ∙ grind (arith, nat_tests)
used_last (m ∷ before) n c zero h =
    or_right (reads m c || writes m c) (is_node_operand (before ++ n ∷ []) c)
    (used_last before n c zero h ∙ grind (arith, nat_tests))
    ∙ grind (arith, nat_tests)
used_last (m ∷ before) n c (suc j) h = used_last before n c j h ∙ grind (arith, nat_tests)

-- ---- the first writing

pub written_by : (steps : List Node) (c : Reference) (k : ℕ)
    → k ≤ length steps
    → is_written (take k steps) c ≡ ltb (position_or_len (λ n. writes n c) steps) k
written_by [] c k h = grind (arith, nat_tests)
written_by (n ∷ steps) c zero h = grind (arith, nat_tests)
written_by (n ∷ steps) c (suc k) h =
    grind (arith, nat_tests, written_by steps c k, cases_Bool (writes n c))

unused_past : (steps : List Node) (c : Reference) (j : ℕ)
    → length steps ≤ j
    → is_node_operand (drop j steps) c ≡ false
unused_past steps c j h = rw (drop_all j steps h)

-- ---- lives

pub is_life : (steps : List Node) (l : Life)
    → l.first ≡ position_or_len (λ n. writes n l.image.cell) steps + 1
    → ((j : ℕ) → is_node_operand (drop j steps) l.image.cell ≡ ltb j l.last)
    → IsLife steps l
is_life steps l first last = record { first = first; live = at }
  where
    at : (step : ℕ) → is_live steps l.image.cell step ≡ is_in step l
    at zero = grind (arith, nat_tests)
    at (suc j) =
        let less : suc j - 1 ≡ j = omega arith in
        grind (
          arith,
          nat_tests,
          less,
          last j,
          written_by steps l.image.cell (suc j),
          unused_past steps l.image.cell j,
          cases_lt j (length steps),
        )

-- ---- how lives are found

pub position_found : (p : Node → Bool) (steps : List Node) (k : ℕ)
    → Some k ≡ position p steps
    → k ≡ position_or_len p steps
position_found p steps k h =
    grind (arith, cases_Bool (ltb (position_or_len p steps) (length steps)))

position_within : (p : Node → Bool) (steps : List Node) → position_or_len p steps ≤ length steps
position_within p steps = prefix_len-le-length (λ n. not (p n)) steps

pub position_missing : (p : Node → Bool) (steps : List Node)
    → None ≡ position p steps
    → length steps ≡ position_or_len p steps
position_missing p steps h =
    grind (
      arith,
      ltb-false,
      position_within,
      cases_Bool (ltb (position_or_len p steps) (length steps)),
    )

module _ (steps : List Node) (format : Format) (images : List VirtualOutput) (i : ℕ)
    (image : VirtualOutput) (lives : List Life)
    (within : i < length images) (here : image ≡ get_or images i image)
    (was : AreLives steps (of_format format (take i images)) lives)
  where
    of_format_more :
        of_format format (take (i + 1) images)
        ≡ of_format format (take i images) ++ of_format format (image ∷ [])
    of_format_more =
        ap (of_format format)
        (take_more images i image within ∙ ap (λ o. take i images ++ o ∷ []) (sym here))
        ∙ filter-append (λ o. same_format o.desc.format format) (take i images) (image ∷ [])

    pub lives_more : (lives' : List Life) (l : Life)
        → same_format image.desc.format format ≡ true
        → l.image ≡ image
        → IsLife steps l
        → lives' ≡ lives ++ l ∷ []
        → AreLives steps (of_format format (take (i + 1) images)) lives'
    lives_more lives' l same of_it exact more =
        rw more (record {
          each = rw (of_format_more, map-append, was.each, of_it, same) refl;
          exact = each-push (IsLife steps) lives l was.exact exact;
        })

    pub lives_same : same_format image.desc.format format ≡ false
        → AreLives steps (of_format format (take (i + 1) images)) lives
    lives_same other =
        record {
          each =
              was.each
              ∙ sym (append-nil (of_format format (take i images)))
              ∙ rw (of_format_more, other) refl;
          exact = was.exact;
        }
