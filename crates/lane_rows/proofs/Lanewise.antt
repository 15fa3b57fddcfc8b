-- Branch-free code over the lanes of two vectors: all lanes, and a single one.
use Rattle.std.proofs.Common.{◌≡◌, ℕ, List, [], ◌∷◌, length, map, Bool, cond, replicate, refl, ap, ◌∙◌, sym, subst, arith, map-id}
use Rattle.lane_rows.proofs.Common.{zip2, Each1, sel_l, length-zip2}
use Rattle.std.proofs.lemmas.Simd.{splat_is_map, Each1-all}

pub record Lanewise (A B C : Type 0) : Type 0 where
  pub all : ℕ → List A → List B → List C
  pub at : A → B → C
  pub same : (n : ℕ) (xs : List A) (ys : List B)
      → length xs ≡ n
      → length ys ≡ n
      → all n xs ys ≡ zip2 at xs ys

-- ---- on lists

pub map-zip2 : {A B C D : Type 0} (h : C → D) (g : A → B → C) (xs : List A) (ys : List B)
    → map h (zip2 g xs ys) ≡ zip2 (λ a b. h (g a b)) xs ys
map-zip2 h g [] ys = refl
map-zip2 h g (x ∷ xs) [] = refl
map-zip2 h g (x ∷ xs) (y ∷ ys) = ap (λ l. h (g x y) ∷ l) (map-zip2 h g xs ys)

pub zip2-zip2 :
    {A B C D E : Type 0} (h : C → D → E) (g : A → B → C) (k : A → B → D) (xs : List A) (ys : List B)
    → zip2 h (zip2 g xs ys) (zip2 k xs ys) ≡ zip2 (λ a b. h (g a b) (k a b)) xs ys
zip2-zip2 h g k [] ys = refl
zip2-zip2 h g k (x ∷ xs) [] = refl
zip2-zip2 h g k (x ∷ xs) (y ∷ ys) = ap (λ l. h (g x y) (k x y) ∷ l) (zip2-zip2 h g k xs ys)

pub sel-zip2 :
    {A B C D : Type 0} (t : D → Bool) (m : A → B → D) (g k : A → B → C) (xs : List A) (ys : List B)
    → sel_l (map t (zip2 m xs ys)) (zip2 g xs ys) (zip2 k xs ys)
    ≡ zip2 (λ a b. cond (t (m a b)) (g a b) (k a b)) xs ys
sel-zip2 t m g k [] ys = refl
sel-zip2 t m g k (x ∷ xs) [] = refl
sel-zip2 t m g k (x ∷ xs) (y ∷ ys) =
    ap (λ l. cond (t (m x y)) (g x y) (k x y) ∷ l) (sel-zip2 t m g k xs ys)

pub left-zip2 : {A B : Type 0} (n : ℕ) (xs : List A) (ys : List B)
    → length xs ≡ n
    → length ys ≡ n
    → xs ≡ zip2 (λ a b. a) xs ys
left-zip2 n [] ys p q = refl
left-zip2 n (x ∷ xs) [] p q = absurd (omega (arith, p, q))
left-zip2 n (x ∷ xs) (y ∷ ys) p q =
    ap (λ l. x ∷ l) (left-zip2 (length xs) xs ys refl (omega (arith, p, q)))

pub right-zip2 : {A B : Type 0} (n : ℕ) (xs : List A) (ys : List B)
    → length xs ≡ n
    → length ys ≡ n
    → ys ≡ zip2 (λ a b. b) xs ys
right-zip2 n [] [] p q = refl
right-zip2 n (x ∷ xs) [] p q = refl
right-zip2 n [] (y ∷ ys) p q = absurd (omega (arith, p, q))
right-zip2 n (x ∷ xs) (y ∷ ys) p q =
    ap (λ l. y ∷ l) (right-zip2 (length xs) xs ys refl (omega (arith, p, q)))

pub const-zip2 : {A B C : Type 0} (c : C) (n : ℕ) (xs : List A) (ys : List B)
    → length xs ≡ n
    → length ys ≡ n
    → replicate n c ≡ zip2 (λ a b. c) xs ys
const-zip2 c n xs ys p q =
    splat_is_map xs n c p
    ∙ ap (map (λ a. c)) (left-zip2 n xs ys p q)
    ∙ map-zip2 (λ a. c) (λ a b. a) xs ys

-- ---- how code is put together

abbrev pub one : {A B : Type 0} → Lanewise A B A
one = record { all = λ n xs ys. xs; at = λ a b. a; same = left-zip2 }

abbrev pub other : {A B : Type 0} → Lanewise A B B
other = record { all = λ n xs ys. ys; at = λ a b. b; same = right-zip2 }

abbrev pub constant : {A B C : Type 0} → C → Lanewise A B C
constant c = record { all = λ n xs ys. replicate n c; at = λ a b. c; same = const-zip2 c }

abbrev pub each : {A B C D : Type 0} → (C → D) → Lanewise A B C → Lanewise A B D
each h e = record {
  all = λ n xs ys. map h (e.all n xs ys);
  at = λ a b. h (e.at a b);
  same = λ n xs ys p q. ap (map h) (e.same n xs ys p q) ∙ map-zip2 h e.at xs ys;
}

abbrev pub both : {A B C D E : Type 0}
    → (C → D → E)
    → Lanewise A B C
    → Lanewise A B D
    → Lanewise A B E
both h e f = record {
  all = λ n xs ys. zip2 h (e.all n xs ys) (f.all n xs ys);
  at = λ a b. h (e.at a b) (f.at a b);
  same =
      λ n xs ys p q. ap (λ l. zip2 h l (f.all n xs ys)) (e.same n xs ys p q)
      ∙ ap (zip2 h (zip2 e.at xs ys)) (f.same n xs ys p q)
      ∙ zip2-zip2 h e.at f.at xs ys;
}

abbrev pub chosen : {A B C D : Type 0}
    → (D → Bool)
    → Lanewise A B D
    → Lanewise A B C
    → Lanewise A B C
    → Lanewise A B C
chosen t m e f = record {
  all = λ n xs ys. sel_l (map t (m.all n xs ys)) (e.all n xs ys) (f.all n xs ys);
  at = λ a b. cond (t (m.at a b)) (e.at a b) (f.at a b);
  same = λ n xs ys p q.
      ap (λ l. sel_l (map t l) (e.all n xs ys) (f.all n xs ys)) (m.same n xs ys p q)
      ∙ ap (λ l. sel_l (map t (zip2 m.at xs ys)) l (f.all n xs ys)) (e.same n xs ys p q)
      ∙ ap (sel_l (map t (zip2 m.at xs ys)) (zip2 e.at xs ys)) (f.same n xs ys p q)
      ∙ sel-zip2 t m.at e.at f.at xs ys;
}

-- the code gives as many lanes as it gets
pub length-all : {A B C : Type 0} (e : Lanewise A B C) (n : ℕ) (xs : List A) (ys : List B)
    → length xs ≡ n
    → length ys ≡ n
    → length (e.all n xs ys) ≡ n
length-all e n xs ys p q = ap length (e.same n xs ys p q) ∙ length-zip2 e.at xs ys (p ∙ sym q) ∙ p

-- ---- from one index to all

pub alike :
    {A B C D E F : Type 0} (P : A → Type 0) (Q : B → Type 0) (u : C → F) (v : A → D) (w : B → E)
    (g : A → B → C) (f : D → E → F) (xs : List A) (ys : List B)
    → Each1 P xs
    → Each1 Q ys
    → ((a : A) (b : B) → P a → Q b → u (g a b) ≡ f (v a) (w b))
    → map u (zip2 g xs ys) ≡ zip2 f (map v xs) (map w ys)
alike P Q u v w g f [] ys ps qs at = refl
alike P Q u v w g f (x ∷ xs) [] ps qs at = refl
alike P Q u v w g f (x ∷ xs) (y ∷ ys) ps qs at =
    cc (at x y ps.0 qs.0, alike P Q u v w g f xs ys ps.1 qs.1 at)

pub same_pairs :
    {A B C D E F : Type 0} (u : C → F) (v : A → D) (w : B → E) (g : A → B → C) (f : D → E → F)
    → ((a : A) (b : B) → u (g a b) ≡ f (v a) (w b))
    → (xs : List A) (ys : List B)
    → map u (zip2 g xs ys) ≡ zip2 f (map v xs) (map w ys)
same_pairs u v w g f at xs ys =
    alike (λ _. Unit {0}) (λ _. Unit {0}) u v w g f xs ys (Each1-all _ (λ _. tt) xs)
    (Each1-all _ (λ _. tt) ys) (λ a b _ _. at a b)

-- the code's result for two vectors, as numbers
pub pairs_are :
    {A B C D E F : Type 0} (e : Lanewise A B C) (P : A → Type 0) (Q : B → Type 0) (u : C → F)
    (v : A → D) (w : B → E) (f : D → E → F) (n : ℕ) (xs : List A) (ys : List B)
    → length xs ≡ n
    → length ys ≡ n
    → Each1 P xs
    → Each1 Q ys
    → ((a : A) (b : B) → P a → Q b → u (e.at a b) ≡ f (v a) (w b))
    → map u (e.all n xs ys) ≡ zip2 f (map v xs) (map w ys)
pairs_are e P Q u v w f n xs ys p q ps qs at =
    ap (map u) (e.same n xs ys p q) ∙ alike P Q u v w e.at f xs ys ps qs at

-- its result for two vectors, as lanes
pub lanes_are :
    {A B C : Type 0} (e : Lanewise A B C) (P : A → Type 0) (Q : B → Type 0) (f : A → B → C)
    (n : ℕ) (xs : List A) (ys : List B)
    → length xs ≡ n
    → length ys ≡ n
    → Each1 P xs
    → Each1 Q ys
    → ((a : A) (b : B) → P a → Q b → e.at a b ≡ f a b)
    → e.all n xs ys ≡ zip2 f xs ys
lanes_are e P Q f n xs ys p q ps qs at =
    sym (map-id (e.all n xs ys)) ∙ pairs_are e P Q (λ c. c) (λ a. a) (λ b. b) f n xs ys p q ps qs at
    ∙ ap (λ l. zip2 f l (map (λ b. b) ys)) (map-id xs) ∙ ap (zip2 f xs) (map-id ys)

one_alike :
    {A C D F : Type 0} (P : A → Type 0) (u : C → F) (v : A → D) (g : A → A → C) (f : D → F)
    (xs : List A)
    → Each1 P xs → ((a : A) → P a → u (g a a) ≡ f (v a)) → map u (zip2 g xs xs) ≡ map f (map v xs)
one_alike P u v g f [] ps at = refl
one_alike P u v g f (x ∷ xs) ps at = cc (at x ps.0, one_alike P u v g f xs ps.1 at)

-- its result for one vector, which the code gets twice
pub items_are :
    {A C D F : Type 0} (e : Lanewise A A C) (P : A → Type 0) (u : C → F) (v : A → D) (f : D → F)
    (n : ℕ) (xs : List A)
    → length xs ≡ n
    → Each1 P xs
    → ((a : A) → P a → u (e.at a a) ≡ f (v a))
    → map u (e.all n xs xs) ≡ map f (map v xs)
items_are e P u v f n xs p ps at = ap (map u) (e.same n xs xs p p) ∙ one_alike P u v e.at f xs ps at

-- the same if the numbers are the lanes themselves
pub numbers_are :
    {A C F : Type 0} (e : Lanewise A A C) (P : A → Type 0) (u : C → F) (f : A → F) (n : ℕ)
    (xs : List A)
    → length xs ≡ n
    → Each1 P xs
    → ((a : A) → P a → u (e.at a a) ≡ f a)
    → map u (e.all n xs xs) ≡ map f xs
numbers_are e P u f n xs p ps at = items_are e P u (λ a. a) f n xs p ps at ∙ ap (map f) (map-id xs)

pub each_of :
    {A B C : Type 0} (P : A → Type 0) (Q : B → Type 0) (R : C → Type 0) (g : A → B → C)
    (xs : List A) (ys : List B)
    → Each1 P xs → Each1 Q ys → ((a : A) (b : B) → P a → Q b → R (g a b)) → Each1 R (zip2 g xs ys)
each_of P Q R g [] ys ps qs at = tt
each_of P Q R g (x ∷ xs) [] ps qs at = tt
each_of P Q R g (x ∷ xs) (y ∷ ys) ps qs at = (at x y ps.0 qs.0, each_of P Q R g xs ys ps.1 qs.1 at)

-- a property of each lane of the result
pub each_is :
    {A B C : Type 0} (e : Lanewise A B C) (P : A → Type 0) (Q : B → Type 0) (R : C → Type 0)
    (n : ℕ) (xs : List A) (ys : List B)
    → length xs ≡ n
    → length ys ≡ n
    → Each1 P xs
    → Each1 Q ys
    → ((a : A) (b : B) → P a → Q b → R (e.at a b))
    → Each1 R (e.all n xs ys)
each_is e P Q R n xs ys p q ps qs at =
    subst (Each1 R) (sym (e.same n xs ys p q)) (each_of P Q R e.at xs ys ps qs at)
