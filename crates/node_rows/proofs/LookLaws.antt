-- What windows read in rows near a pixel.
use Rattle.std.proofs.Common.{◌≡◌, ℕ, ℤ, pos, ◌+◌, ◌-◌, ◌/◌, ◌<◌, ◌≤◌, ◌+ℤ◌, ◌-ℤ◌, ◌*ℤ◌, ◌≤ℤ◌, true, cond, map, refl, sym, ◌∙◌, ap, arith, zero, suc, unsigned_abs}
use Rattle.node_rows.proofs.Common.{ints, cases_Bool, nat_tests, Border, Undefined, Constant, Replicate, Rectangle, has_pixel, ImageValue, IsImage, pixel_at, ConvolutionValue, holds, clamp_coordinate, sample_or_border, nine_around, row_product, matrix_product, window_valid, AgreeInRows}
use Rattle.std.specs.List.{range_with_len}
use Rattle.vx_base.specs.Convolution.{coefficient}
use Rattle.vx_base.specs.Window.{total}

-- ---- what a window reads, for a rectangle and a function of pixels

abbrev pub elsewhere_of : Rectangle → (ℕ → ℕ → ℤ) → Border → ℤ → ℤ → ℤ
elsewhere_of r f Undefined x y = pos 0
elsewhere_of r f (Constant value) x y = pos value
elsewhere_of r f Replicate x y = f (clamp_coordinate r.x0 r.x1 x) (clamp_coordinate r.y0 r.y1 y)

abbrev pub look_of : Rectangle → (ℕ → ℕ → ℤ) → Border → ℤ → ℤ → ℤ
look_of r f border x y =
    cond (holds r x y) (f (unsigned_abs x) (unsigned_abs y)) (elsewhere_of r f border x y)

pub look-of : (image : ImageValue) (border : Border) (x y : ℤ)
    → sample_or_border image border x y ≡ look_of image.valid (pixel_at image) border x y
look-of image border x y = grind arith

-- a row at most `rows` rows above or below row y
pub record IsNear (rows y : ℕ) (v : ℤ) : Type 0 where
  pub above : pos y ≤ℤ (v +ℤ pos rows)
  pub below : v ≤ℤ (pos y +ℤ pos rows)

-- the same samples at the places of a rectangle in the rows that are near row y
abbrev Agree : Rectangle → ℕ → ℕ → (ℕ → ℕ → ℤ) → (ℕ → ℕ → ℤ) → Type 0
Agree r rows y f g = (x z : ℕ) → x < r.x1 → z < r.y1 → y ≤ z + rows → z ≤ y + rows → f x z ≡ g x z

-- the place that is looked at, where it is valid
held_column : (r : Rectangle) (x v : ℤ) → holds r x v ≡ true → unsigned_abs x < r.x1
held_column r x v h = grind (arith, ints)

held_row : (r : Rectangle) (x v : ℤ) → holds r x v ≡ true → unsigned_abs v < r.y1
held_row r x v h = grind (arith, ints)

held_above : (r : Rectangle) (x v : ℤ) (rows y : ℕ)
    → holds r x v ≡ true
    → pos y ≤ℤ (v +ℤ pos rows)
    → y ≤ unsigned_abs v + rows
held_above r x v rows y h near = grind (arith, ints)

held_below : (r : Rectangle) (x v : ℤ) (rows y : ℕ)
    → holds r x v ≡ true
    → v ≤ℤ (pos y +ℤ pos rows)
    → unsigned_abs v ≤ y + rows
held_below r x v rows y h near = grind (arith, ints)

-- the nearest valid column, and row
nearest_within : (low high : ℕ) (v : ℤ) → low < high → clamp_coordinate low high v < high
nearest_within low high v h = grind (arith, ints)

nearest_above : (low high y rows : ℕ) (v : ℤ)
    → low ≤ y
    → y < high
    → pos y ≤ℤ (v +ℤ pos rows)
    → y ≤ clamp_coordinate low high v + rows
nearest_above low high y rows v a b near = grind (arith, ints)

nearest_below : (low high y rows : ℕ) (v : ℤ)
    → low ≤ y
    → y < high
    → v ≤ℤ (pos y +ℤ pos rows)
    → clamp_coordinate low high v ≤ y + rows
nearest_below low high y rows v a b near = grind (arith, ints)

-- a row in which something is valid
pub record HasRow (r : Rectangle) (y : ℕ) : Type 0 where
  pub columns : r.x0 < r.x1
  pub from : r.y0 ≤ y
  pub to : y < r.y1

module _ (r : Rectangle) (f g : ℕ → ℕ → ℤ) (border : Border) (rows y : ℕ) (row : HasRow r y)
    (agree : Agree r rows y f g) where
  elsewhere_near : (border : Border) (x v : ℤ)
      → IsNear rows y v
      → elsewhere_of r f border x v ≡ elsewhere_of r g border x v
  elsewhere_near Undefined x v near = refl
  elsewhere_near (Constant value) x v near = refl
  elsewhere_near Replicate x v near =
      agree (clamp_coordinate r.x0 r.x1 x) (clamp_coordinate r.y0 r.y1 v)
      (nearest_within r.x0 r.x1 x row.columns)
      (nearest_within r.y0 r.y1 v (omega (arith, row.from, row.to)))
      (nearest_above r.y0 r.y1 y rows v row.from row.to near.above)
      (nearest_below r.y0 r.y1 y rows v row.from row.to near.below)

  look_of_near : (x v : ℤ) → IsNear rows y v → look_of r f border x v ≡ look_of r g border x v
  look_of_near x v near =
      grind (
        arith,
        elsewhere_near border x v near,
        agree (unsigned_abs x) (unsigned_abs v),
        held_column r x v,
        held_row r x v,
        held_above r x v rows y,
        held_below r x v rows y,
        near.above,
        near.below,
        cases_Bool (holds r x v),
      )

-- ---- the samples of a window, of functions that agree near a row

-- the nine samples around a place
pub nine_near : (f g : ℤ → ℤ → ℤ) (x : ℤ) (y : ℕ)
    → ((u v : ℤ) → IsNear 1 y v → f u v ≡ g u v)
    → nine_around f x (pos y) ≡ nine_around g x (pos y)
nine_near f g x y same =
    let above =
    λ (u : ℤ). same u (pos y -ℤ pos 1)
    (record { above = omega (arith, ints); below = omega (arith, ints) }) in
    let here =
    λ (u : ℤ). same u (pos y)
    (record { above = omega (arith, ints); below = omega (arith, ints) }) in
    let below =
    λ (u : ℤ). same u (pos y +ℤ pos 1)
    (record { above = omega (arith, ints); below = omega (arith, ints) }) in
    cc (
      above (x -ℤ pos 1),
      above x,
      above (x +ℤ pos 1),
      here (x -ℤ pos 1),
      here x,
      here (x +ℤ pos 1),
      below (x -ℤ pos 1),
      below x,
      below (x +ℤ pos 1),
    )

-- sums over a run
sums_same : (p q : ℕ → ℤ) (x n : ℕ)
    → ((k : ℕ) → x ≤ k → k < x + n → p k ≡ q k)
    → total (map p (range_with_len x n)) ≡ total (map q (range_with_len x n))
sums_same p q x zero same = refl
sums_same p q x (suc n) same =
    cc (
      same x (omega arith) (omega arith),
      sums_same p q (x + 1) n (λ k a b. same k (omega arith) (omega arith)),
    )

row_same : (c : ConvolutionValue) (f g : ℤ → ℤ) (x : ℤ) (l : ℕ)
    → ((u : ℤ) → f u ≡ g u)
    → row_product c f x l ≡ row_product c g x l
row_same c f g x l same =
    sums_same (λ k. f (x +ℤ pos (c.columns / 2) -ℤ pos k) *ℤ coefficient c l k)
    (λ k. g (x +ℤ pos (c.columns / 2) -ℤ pos k) *ℤ coefficient c l k) 0 c.columns
    (λ k a b. ap (λ z. z *ℤ coefficient c l k) (same (x +ℤ pos (c.columns / 2) -ℤ pos k)))

-- a row of the matrix lies near the place's
matrix_above : (rows y l : ℕ)
    → l < rows
    → pos y ≤ℤ ((pos y +ℤ pos (rows / 2) -ℤ pos l) +ℤ pos (rows / 2))
matrix_above rows y l h = omega (arith, ints)

matrix_below : (rows y l : ℕ) → (pos y +ℤ pos (rows / 2) -ℤ pos l) ≤ℤ (pos y +ℤ pos (rows / 2))
matrix_below rows y l = omega (arith, ints)

-- the samples around a place that a matrix weighs
pub matrix_near : (c : ConvolutionValue) (f g : ℤ → ℤ → ℤ) (x : ℤ) (y : ℕ)
    → ((u v : ℤ) → IsNear (c.rows / 2) y v → f u v ≡ g u v)
    → matrix_product c f x (pos y) ≡ matrix_product c g x (pos y)
matrix_near c f g x y same =
    sums_same (λ l. row_product c (λ u. f u (pos y +ℤ pos (c.rows / 2) -ℤ pos l)) x l)
    (λ l. row_product c (λ u. g u (pos y +ℤ pos (c.rows / 2) -ℤ pos l)) x l) 0 c.rows
    (λ l a b. row_same c (λ u. f u (pos y +ℤ pos (c.rows / 2) -ℤ pos l))
    (λ u. g u (pos y +ℤ pos (c.rows / 2) -ℤ pos l)) x l
    (λ u. same u (pos y +ℤ pos (c.rows / 2) -ℤ pos l)
    (record
    { above = matrix_above c.rows y l (omega (arith, b)); below = matrix_below c.rows y l })))

-- ---- images that agree near a row

-- a row with an output pixel of a window function has a valid pixel in the input
pub valid_row : (border : Border) (rx ry : ℕ) (r : Rectangle) (x y : ℕ)
    → has_pixel (window_valid border rx ry r) x y ≡ true
    → HasRow r y
valid_row border rx ry r x y h = grind (arith, nat_tests)

-- windows read the same in rows near that of a pixel
pub look_near : (a b : ImageValue) (border : Border) (rx ry rows x y : ℕ)
    → IsImage a
    → has_pixel (window_valid border rx ry a.valid) x y ≡ true
    → AgreeInRows (y - rows) (y + rows) a b
    → (u v : ℤ)
    → IsNear rows y v
    → sample_or_border a border u v ≡ sample_or_border b border u v
look_near a b border rx ry rows x y image h agree u v near =
    look-of a border u v
    ∙ look_of_near a.valid (pixel_at a) (pixel_at b) border rows y
    (valid_row border rx ry a.valid x y h)
    (λ i j left high above below. agree.samples i j (omega (arith, image.room.columns))
    (omega (arith, image.room.rows)) (omega arith) below)
    u v near
    ∙ ap (λ r. look_of r (pixel_at b) border u v) agree.alike.valid
    ∙ sym (look-of b border u v)
