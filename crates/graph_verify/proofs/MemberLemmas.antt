-- Members of lists.
use Rattle.std.proofs.Common.{◌≡◌, ℕ, ◌<◌, ◌≤◌, ◌⊎◌, inl, inr, suc, Bool, true, false, List, [], ◌∷◌, ◌++◌, length, get_or, map, refl, sym, ap, subst, arith, position, ◌||◌, None, ltb-false}
use Rattle.graph_verify.proofs.Common.{filter, flat_map, list_any, remove, map-append, IsPermutation, cases_Bool, In, AllIn}
use Rattle.std.specs.List.{Contains, position_or_len}
use Rattle.std.proofs.lemmas.List.{take-map, drop-map}
use Rattle.std.proofs.lemmas.List.Sorted.{Contains-permutation, IsPermutation-sym}

module _ {X : Type 0} where
  pub In-left : (x : X) (xs ys : List X) → In x xs → In x (xs ++ ys)
  In-left x [] ys h = absurd h
  In-left x (y ∷ xs) ys h = grind (arith, In-left x xs ys)

  pub In-right : (x : X) (xs ys : List X) → In x ys → In x (xs ++ ys)
  In-right x [] ys h = h
  In-right x (y ∷ xs) ys h = inr (In-right x xs ys h)

  pub In-append : (x : X) (xs ys : List X) → In x (xs ++ ys) → In x xs ⊎ In x ys
  In-append x [] ys h = inr h
  In-append x (y ∷ xs) ys h = grind (arith, In-append x xs ys)

  -- what some member passes
  pub In-from_any : (p : X → Bool) (xs : List X)
      → list_any p xs ≡ true
      → (x : X) × In x xs × (p x ≡ true)
  In-from_any p [] h = absurd (cc h)
  In-from_any p (x ∷ xs) h = grind (arith, In-from_any p xs, cases_Bool (p x))

  pub any-from_In : (p : X → Bool) (x : X) (xs : List X)
      → In x xs
      → p x ≡ true
      → list_any p xs ≡ true
  any-from_In p x [] h passes = absurd h
  any-from_In p x (y ∷ xs) h passes = grind (arith, any-from_In p x xs, cases_Bool (p y))

  -- what no member passes
  pub fails-from_In : (p : X → Bool) (x : X) (xs : List X)
      → list_any p xs ≡ false
      → In x xs
      → p x ≡ false
  fails-from_In p x xs none h = grind (arith, any-from_In p x xs h)

  pub In-filter : (p : X → Bool) (x : X) (xs : List X) → In x xs → p x ≡ true → In x (filter p xs)
  In-filter p x [] h passes = absurd h
  In-filter p x (y ∷ xs) h passes = grind (arith, In-filter p x xs, cases_Bool (p y))

  pub In-from_filter : (p : X → Bool) (x : X) (xs : List X)
      → In x (filter p xs)
      → In x xs × (p x ≡ true)
  In-from_filter p x [] h = absurd h
  In-from_filter p x (y ∷ xs) h = grind (arith, In-from_filter p x xs, cases_Bool (p y))

  pub In-map : {Y : Type 0} (f : X → Y) (x : X) (xs : List X) → In x xs → In (f x) (map f xs)
  In-map f x [] h = absurd h
  In-map f x (y ∷ xs) h = grind (arith, In-map f x xs)

  pub In-from_map : {Y : Type 0} (f : X → Y) (y : Y) (xs : List X)
      → In y (map f xs)
      → (x : X) × In x xs × (y ≡ f x)
  In-from_map f y [] h = absurd h
  In-from_map f y (x ∷ xs) h = grind (arith, In-from_map f y xs)

  pub any-map : {Y : Type 0} (f : X → Y) (p : Y → Bool) (xs : List X)
      → list_any (λ x. p (f x)) xs ≡ list_any p (map f xs)
  any-map f p [] = refl
  any-map f p (x ∷ xs) = ap (λ b. p (f x) || b) (any-map f p xs)

  pub filter-map : {Y : Type 0} (f : X → Y) (p : X → Bool) (q : Y → Bool)
      → ((x : X) → p x ≡ q (f x))
      → (xs : List X)
      → map f (filter p xs) ≡ filter q (map f xs)
  filter-map f p q same [] = refl
  filter-map f p q same (x ∷ xs) = grind (arith, filter-map f p q same xs, cases_Bool (p x))

  pub map-remove : {Y : Type 0} (f : X → Y) (xs : List X) (i : ℕ)
      → map f (remove xs i) ≡ remove (map f xs) i
  map-remove f xs i = rw (map-append, take-map, drop-map)

  -- ---- members by their indices

  pub In-at : (xs : List X) (k : ℕ) (d : X) → k < length xs → In (get_or xs k d) xs
  In-at [] k d h = absurd (omega (arith, h))
  In-at (y ∷ ys) k d h = grind (arith, In-at ys)

  -- what `position` says where it finds none
  none_pass : (p : X → Bool) (xs : List X)
      → length xs ≤ position_or_len p xs
      → (x : X)
      → In x xs
      → p x ≡ false
  none_pass p [] h x i = absurd i
  none_pass p (y ∷ ys) h x i = grind (arith, none_pass p ys, cases_Bool (p y))

  pub position-None : (p : X → Bool) (xs : List X)
      → position p xs ≡ None
      → (x : X)
      → In x xs
      → p x ≡ false
  position-None p xs h = grind (arith, none_pass, cases_Bool, ltb-false)

  pub Contains-from_In : (x : X) (xs : List X) → In x xs → Contains xs x
  Contains-from_In x [] h = absurd h
  Contains-from_In x (y ∷ ys) (inl same) = (0, omega arith, sym same)
  Contains-from_In x (y ∷ ys) (inr h) =
      let r = Contains-from_In x ys h in (suc r.0, omega (arith, r.1), r.2)

  pub In-from_Contains : (x : X) (xs : List X) → Contains xs x → In x xs
  In-from_Contains x xs c = subst (λ z. In z xs) c.2 (In-at xs c.0 x c.1)

  -- a list of the same members in another order
  pub AllIn-permutation : (xs ys : List X) → IsPermutation xs ys → AllIn xs ys
  AllIn-permutation xs ys same x h =
      In-from_Contains x ys (Contains-permutation xs ys x same (Contains-from_In x xs h))

  pub AllIn-permutation_back : (xs ys : List X) → IsPermutation xs ys → AllIn ys xs
  AllIn-permutation_back xs ys same = AllIn-permutation ys xs (IsPermutation-sym xs ys same)

pub In-flat_map : {X Y : Type 0} (f : X → List Y) (x : X) (y : Y) (xs : List X)
    → In x xs
    → In y (f x)
    → In y (flat_map f xs)
In-flat_map f x y [] h k = absurd h
In-flat_map f x y (z ∷ xs) h k =
    grind (
      arith,
      In-flat_map f x y xs,
      In-left y (f z) (flat_map f xs),
      In-right y (f z) (flat_map f xs),
    )

pub In-from_flat_map : {X Y : Type 0} (f : X → List Y) (y : Y) (xs : List X)
    → In y (flat_map f xs)
    → (x : X) × In x xs × In y (f x)
In-from_flat_map f y [] h = absurd h
In-from_flat_map f y (x ∷ xs) h =
    grind (arith, In-from_flat_map f y xs, In-append y (f x) (flat_map f xs))
