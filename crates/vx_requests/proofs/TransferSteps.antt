-- One more read into a buffer, and one more write of a rest.
use Rattle.std.proofs.Common.{◌≡◌, ℕ, ◌+◌, ◌-◌, ◌≤◌, List, ◌++◌, Option, Ok, zero, suc, refl, length, take, drop, sym, ap, ◌∙◌, subst, le_refl, drop_at, length-take-le, append_assoc, take-append-drop}
use Rattle.vx_requests.proofs.Common.{Consumes, Appends, Consumes-trans, Appends-trans, put_mid}
use Rattle.std.proofs.lemmas.Slice.{take-put_mid_below}
use Rattle.std.proofs.lemmas.List.{take_rest}
use Rattle.vx_requests.specs.Stream.Calls.{failed_writes}
use borrow.Rule.Slice.PartMut.{post_of}
use lib.Seq.{take-add, take-append-le}

-- the first from + n items, after a write of ys at from
pub take-put_mid : {A : Type 0} (from n : ℕ) (xs ys : List A) → from ≤ length xs → n ≤ length ys
    → take (from + n) (put_mid from (length xs - from) xs ys) ≡ take from xs ++ take n ys
take-put_mid from n xs ys within fits =
    let count = length xs - from in
    let all = put_mid from count xs ys in
    let front : take from all ≡ take from xs = take-put_mid_below _ _ _ _ _ (le_refl _) within in
    let back : drop from all ≡ ys ++ post_of from count xs =
    drop_at (take from xs) (ys ++ post_of from count xs) from (length-take-le from xs within) in
    take-add from n all
    ∙ ap (λ l. l ++ take n (drop from all)) front
    ∙ ap (λ l. take from xs ++ take n l) back
    ∙ ap (λ l. take from xs ++ l) (take-append-le n ys (post_of from count xs) fits)

-- n more bytes were read, after the first from of the buffer
pub reads_more : (a b c : Option (List ℕ)) (from n : ℕ) (xs ys : List ℕ)
    → from ≤ length xs
    → n ≤ length ys
    → Consumes a b (take from xs)
    → Consumes b c (take n ys)
    → Consumes a c (take (from + n) (put_mid from (length xs - from) xs ys))
reads_more a b c from n xs ys within fits before read =
    subst (Consumes a c) (sym (take-put_mid from n xs ys within fits))
    (Consumes-trans a b c _ _ before read)

-- n more bytes of the rest were taken
pub writes_more : (a b c : Option (List ℕ)) (all done rest : List ℕ) (n : ℕ)
    → all ≡ done ++ rest
    → Appends a b done
    → Appends b c (take n rest)
    → (more : List ℕ) × (all ≡ more ++ take (length rest - n) (drop n rest)) × Appends a c more
writes_more a b c all done rest n e before wrote = (
  done ++ take n rest,
  e
      ∙ ap (λ l. done ++ l) (sym (take-append-drop n rest))
      ∙ sym (append_assoc done (take n rest) (drop n rest))
      ∙ ap (λ l. (done ++ take n rest) ++ l) (sym (take_rest rest n)),
  Appends-trans a b c done (take n rest) before wrote,
)

-- a write that took some bytes didn't fail
pub failed_writes-some : (E : Type 0) (n : ℕ) (bytes : List ℕ)
    → (n ≡ 0 → ⊥)
    → failed_writes {E = E} (Ok n) bytes ≡ 0
failed_writes-some E zero bytes some = absurd (some refl)
failed_writes-some E (suc n) bytes some = refl
