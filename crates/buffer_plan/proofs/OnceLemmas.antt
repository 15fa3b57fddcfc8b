-- Lists without a repeated reference.
use Rattle.std.proofs.Common.{◌≡◌, arith, Bool, false, List, [], ◌∷◌, map, refl, ◌∙◌}
use Rattle.buffer_plan.proofs.Common.{filter, list_any, cases_Bool, false_from_ne_true, or_parts, Reference, same_reference, has_twice, In, same_cell-is, same_cell-true, In-map, In-from_map, In-from_any, any-from_In, In-from_filter}

module _ {X : Type 0} (f : X → Reference) where
  pub not_again : (x y : X) (xs : List X)
      → list_any (same_reference (f x)) (map f xs) ≡ false
      → In y xs
      → f x ≡ f y
      → ⊥
  not_again x y xs none i same =
      grind (
        arith,
        any-from_In (same_reference (f x)) (f y) (map f xs) (In-map f y xs i)
            (same_cell-is (f x) (f y) same),
      )

  -- two of one cell are one
  pub one_of_cell : (xs : List X)
      → has_twice (map f xs) ≡ false
      → (x y : X)
      → In x xs
      → In y xs
      → f x ≡ f y
      → x ≡ y
  one_of_cell [] once x y i j same = absurd i
  one_of_cell (z ∷ xs) once x y i j same =
      grind (
        arith,
        one_of_cell xs,
        not_again z x xs,
        not_again z y xs,
        or_parts (list_any (same_reference (f z)) (map f xs)) (has_twice (map f xs)) once,
      )

  -- the members that pass a test have no repeated reference either
  pub once-filter : (p : X → Bool) (xs : List X)
      → has_twice (map f xs) ≡ false
      → has_twice (map f (filter p xs)) ≡ false
  once-filter p [] once = refl
  once-filter p (x ∷ xs) once =
      let both =
      or_parts (list_any (same_reference (f x)) (map f xs)) (has_twice (map f xs)) once in
      let none : list_any (same_reference (f x)) (map f (filter p xs)) ≡ false =
      false_from_ne_true (list_any (same_reference (f x)) (map f (filter p xs))) (λ some.
      let r = In-from_any (same_reference (f x)) (map f (filter p xs)) some in
      let y = In-from_map f r.0 (filter p xs) r.1 in
      not_again x y.0 xs both.0 (In-from_filter p y.0 xs y.1).0
      (same_cell-true (f x) r.0 r.2 ∙ y.2)) in
      grind (arith, none, once-filter p xs both.1, cases_Bool (p x))
