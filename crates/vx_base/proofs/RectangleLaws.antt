-- Rectangles as sets of places.
use Rattle.std.proofs.Common.{◌≡◌, ℕ, ◌+◌, ◌-◌, ◌<◌, ◌≤◌, ◌⊎◌, inl, inr, ap, ◌∙◌, sym, arith, true, false, Bool, IsTrue, ◌↔◌, ◌||◌, ◌==◌, ◌&&◌, nat_lt, min, max}
use Rattle.vx_base.proofs.Common.{nat_tests, Rectangle, has_pixel, meet_of, empty_rectangle, IsCanonical, IsOrdered, IsWithin}
use Rattle.vx_base.specs.Rectangle.{rectangle_or_empty, shrink_of}

-- the bounds decide
same_bounds : (r s : Rectangle) → r.x0 ≡ s.x0 → r.y0 ≡ s.y0 → r.x1 ≡ s.x1 → r.y1 ≡ s.y1 → r ≡ s
same_bounds r s a b c d =
    ap (λ n. let t : Rectangle = record { x0 = n; y0 = r.y0; x1 = r.x1; y1 = r.y1 } in t) a
    ∙ ap (λ n. let t : Rectangle = record { x0 = s.x0; y0 = n; x1 = r.x1; y1 = r.y1 } in t) b
    ∙ ap (λ n. let t : Rectangle = record { x0 = s.x0; y0 = s.y0; x1 = n; y1 = r.y1 } in t) c
    ∙ ap (λ n. let t : Rectangle = record { x0 = s.x0; y0 = s.y0; x1 = s.x1; y1 = n } in t) d

-- a place between the bounds
record Between (r : Rectangle) (x y : ℕ) : Type 0 where
  pub left : r.x0 ≤ x
  pub right : x < r.x1
  pub top : r.y0 ≤ y
  pub bottom : y < r.y1

between : (r : Rectangle) (x y : ℕ) → has_pixel r x y ≡ true → Between r x y
between r x y h = record {
  left = grind (arith, nat_tests);
  right = grind (arith, nat_tests);
  top = grind (arith, nat_tests);
  bottom = grind (arith, nat_tests);
}

in_between : (r : Rectangle) (x y : ℕ) → Between r x y → has_pixel r x y ≡ true
in_between r x y h = grind (arith, nat_tests)

-- the places of one rectangle are places of another
Within : Rectangle → Rectangle → Type 0
Within r s = (x y : ℕ) → Between r x y → Between s x y

record IsProper (r : Rectangle) : Type 0 where
  pub columns : r.x0 < r.x1
  pub rows : r.y0 < r.y1

either : (a b : Bool) → (a || b) ≡ true → (a ≡ true) ⊎ (b ≡ true)
either true b h = inl (grind arith)
either false b h = inr h

empty_or_proper : (r : Rectangle) → IsCanonical r → (r ≡ empty_rectangle) ⊎ IsProper r
empty_or_proper r h = cases (either _ _ h)
  where
    cases :
        ((((r.x0 == 0) && (r.y0 == 0)) && ((r.x1 == 0) && (r.y1 == 0))) ≡ true)
        ⊎ ((nat_lt r.x0 r.x1 && nat_lt r.y0 r.y1) ≡ true)
        → (r ≡ empty_rectangle) ⊎ IsProper r
    cases (inl a) =
        inl
        (same_bounds r empty_rectangle (grind (arith, nat_tests)) (grind (arith, nat_tests))
        (grind (arith, nat_tests)) (grind (arith, nat_tests)))
    cases (inr b) =
        inr (record { columns = grind (arith, nat_tests); rows = grind (arith, nat_tests) })

-- the first place and the last
first_place : (r : Rectangle) → IsProper r → Between r r.x0 r.y0
first_place r h = record {
  left = omega arith;
  right = h.columns;
  top = omega arith;
  bottom = h.rows;
}

last_place : (r : Rectangle) → IsProper r → Between r (r.x1 - 1) (r.y1 - 1)
last_place r h = record {
  left = omega arith;
  right = omega arith;
  top = omega arith;
  bottom = omega arith;
}

-- proper rectangles with the same places have the same bounds
same_proper : (r s : Rectangle)
    → IsProper r
    → IsProper s
    → ((x y : ℕ) → Between r x y → Between s x y)
    → ((x y : ℕ) → Between s x y → Between r x y)
    → r ≡ s
same_proper r s p q there back =
    let a = there r.x0 r.y0 (first_place r p) in
    let b = there (r.x1 - 1) (r.y1 - 1) (last_place r p) in
    let c = back s.x0 s.y0 (first_place s q) in
    let d = back (s.x1 - 1) (s.y1 - 1) (last_place s q) in
    same_bounds r s (omega arith) (omega arith) (omega arith) (omega arith)

nothing_between : (x y : ℕ) → Between empty_rectangle x y → ⊥
nothing_between x y h = omega arith

pub places_decide : (r s : Rectangle)
    → IsCanonical r
    → IsCanonical s
    → ((x y : ℕ) → has_pixel r x y ≡ has_pixel s x y)
    → r ≡ s
places_decide r s p q same = cases (empty_or_proper r p) (empty_or_proper s q)
  where
    there : (x y : ℕ) → Between r x y → Between s x y
    there x y h = between s x y (sym (same x y) ∙ in_between r x y h)

    back : (x y : ℕ) → Between s x y → Between r x y
    back x y h = between r x y (same x y ∙ in_between s x y h)

    cases : (r ≡ empty_rectangle) ⊎ IsProper r → (s ≡ empty_rectangle) ⊎ IsProper s → r ≡ s
    cases (inl a) (inl b) = a ∙ sym b
    cases (inl a) (inr b) =
        absurd (nothing_between s.x0 s.y0 (rw a at (back s.x0 s.y0 (first_place s b))))
    cases (inr a) (inl b) =
        absurd (nothing_between r.x0 r.y0 (rw b at (there r.x0 r.y0 (first_place r a))))
    cases (inr a) (inr b) = same_proper r s a b there back

bounded_inside : (x0 y0 x1 y1 x y : ℕ)
    → has_pixel (rectangle_or_empty x0 y0 x1 y1) x y
    ≡ has_pixel (record { x0 = x0; y0 = y0; x1 = x1; y1 = y1 }) x y
bounded_inside x0 y0 x1 y1 x y = grind (arith, nat_tests)

-- the starts of a rectangle in canonical form are not above its ends
pub rectangle_ordered : (r : Rectangle) → IsCanonical r → IsOrdered r
rectangle_ordered r h = record {
  columns = grind (arith, nat_tests);
  rows = grind (arith, nat_tests);
}

-- a rectangle made from bounds is in canonical form, and it does not exceed the bounds
pub bounded_canonical : (x0 y0 x1 y1 : ℕ) → IsCanonical (rectangle_or_empty x0 y0 x1 y1)
bounded_canonical x0 y0 x1 y1 = grind (arith, nat_tests)

pub bounded_within : (x0 y0 x1 y1 width height : ℕ)
    → x1 ≤ width
    → y1 ≤ height
    → IsWithin (rectangle_or_empty x0 y0 x1 y1) width height
bounded_within x0 y0 x1 y1 width height p q = record {
  columns = grind (arith, nat_tests);
  rows = grind (arith, nat_tests);
}

-- a place that is in both is in their meet
pub inside_meet : (r s : Rectangle) (x y : ℕ)
    → has_pixel r x y ≡ true
    → has_pixel s x y ≡ true
    → has_pixel (meet_of r s) x y ≡ true
inside_meet r s x y p q =
    let a = between r x y p in
    let b = between s x y q in
    bounded_inside (max r.x0 s.x0) (max r.y0 s.y0) (min r.x1 s.x1) (min r.y1 s.y1) x y
    ∙ in_between _ x y
    (record { left = omega arith; right = omega arith; top = omega arith; bottom = omega arith })

-- a place in the meet is in both
pub both_inside : (r s : Rectangle) (x y : ℕ)
    → has_pixel (meet_of r s) x y ≡ true
    → (has_pixel r x y ≡ true) × (has_pixel s x y ≡ true)
both_inside r s x y h =
    let b =
    between _ x y
    (sym (bounded_inside (max r.x0 s.x0) (max r.y0 s.y0) (min r.x1 s.x1) (min r.y1 s.y1) x y)
    ∙ h) in (
      in_between r x y
          (record {
            left = omega (arith, b.left);
            right = omega (arith, b.right);
            top = omega
                (arith, b.top);
            bottom = omega (arith, b.bottom);
          }),
      in_between s x y
          (record {
            left = omega (arith, b.left);
            right = omega (arith, b.right);
            top = omega
                (arith, b.top);
            bottom = omega (arith, b.bottom);
          }),
    )

pub shrunk_places : (r : Rectangle) (rx ry x y : ℕ)
    → IsTrue (has_pixel (shrink_of r rx ry) x y) ↔
    ((rx ≤ x) × (ry ≤ y) ×
    ((i j : ℕ) → x ≤ i + rx → i ≤ x + rx → y ≤ j + ry → j ≤ y + ry → IsTrue (has_pixel r i j)))
shrunk_places r rx ry x y = (there, back)
  where
    there : has_pixel (shrink_of r rx ry) x y ≡ true
        → (rx ≤ x)
        × (ry ≤ y)
        × ((i j : ℕ) → x ≤ i + rx → i ≤ x + rx → y ≤ j + ry → j ≤ y + ry → has_pixel r i j ≡ true)
    there h =
        let b =
        between _ x y
        (sym (bounded_inside (r.x0 + rx) (r.y0 + ry) (r.x1 - rx) (r.y1 - ry) x y) ∙ h) in (
          omega (arith, b.left),
          omega (arith, b.top),
          λ i j p q s t. in_between r i j
              (record
              { left = omega arith; right = omega arith; top = omega arith; bottom = omega arith }),
        )

    back :
        (rx ≤ x)
        × (ry ≤ y)
        × ((i j : ℕ) → x ≤ i + rx → i ≤ x + rx → y ≤ j + ry → j ≤ y + ry → has_pixel r i j ≡ true)
        → has_pixel (shrink_of r rx ry) x y ≡ true
    back h =
        let a =
        between r (x - rx) (y - ry)
        (h.2 (x - rx) (y - ry) (omega arith) (omega arith) (omega arith) (omega arith)) in
        let b =
        between r (x + rx) (y + ry)
        (h.2 (x + rx) (y + ry) (omega arith) (omega arith) (omega arith) (omega arith)) in
        bounded_inside (r.x0 + rx) (r.y0 + ry) (r.x1 - rx) (r.y1 - ry) x y
        ∙ in_between _ x y
        (record {
          left = omega (arith, h.0);
          right = omega arith;
          top = omega (arith, h.1);
          bottom =
              omega arith;
        })
