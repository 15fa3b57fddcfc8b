-- Two lists, one after the other, that take bytes from the front on.
use Rattle.std.proofs.Common.{◌≡◌, ℕ, zero, suc, ◌+◌, List, [], ◌∷◌, ◌++◌, length, take, sym, ap, ◌∙◌, append_assoc, arith}

-- all of the first list and some of the second
take_past : (n m : ℕ) (front back : List ℕ)
    → n ≡ length front + m
    → take n (front ++ back) ≡ front ++ take m back
take_past n m [] back e = let same : n ≡ m = omega (arith, e) in ap (λ k. take k back) same
take_past zero m (x ∷ front) back e = absurd (omega (arith, e))
take_past (suc n) m (x ∷ front) back e =
    ap (λ l. x ∷ l) (take_past n m front back (omega (arith, e)))

-- the first list is full, and the bytes went to the second one, from `m` on
pub filled_back : (at m n : ℕ) (front back back' bytes : List ℕ)
    → at ≡ length front + m
    → take (m + n) back' ≡ take m back ++ bytes
    → take (at + n) (front ++ back') ≡ take at (front ++ back) ++ bytes
filled_back at m n front back back' bytes e copied =
    take_past (at + n) (m + n) front back' (omega (arith, e))
    ∙ ap (λ l. front ++ l) copied
    ∙ sym (append_assoc front (take m back) bytes)
    ∙ ap (λ l. l ++ bytes) (sym (take_past at m front back e))
