-- What windows read along rows.
use Rattle.std.proofs.Common.{inl, inr, ◌≡◌, ℕ, ℤ, pos, ◌+◌, ◌-◌, ◌<◌, ◌≤◌, ◌-ℤ◌, ◌<ℤ◌, ◌≤ℤ◌, true, List, ◌++◌, length, map, replicate, min, max, take, get_or, refl, ap, ◌∙◌, sym, arith, zero-add, Option, Some, None, unsigned_abs}
use Rattle.std.proofs.lemmas.Bool.{cases_Bool}
use Rattle.border_rows.proofs.Common.{border_value, ints, run, run-constant, run-same, sample_or_border, seen_along}
use Rattle.std.proofs.lemmas.List.{take-map, take-replicate}
use Rattle.std.proofs.Math.ListN.{get_or-map}
use Rattle.vx_base.specs.declared.border.Border.{Border}
use Rattle.vx_base.specs.declared.border.Border.TheVariants.{Undefined, Constant, Replicate}
use Rattle.vx_base.specs.Rectangle.{Rectangle}
use Rattle.vx_base.specs.Image.{ImageValue, IsImage, pixel_at}
use Rattle.vx_base.specs.Window.{holds, clamp_coordinate}
use Rattle.vx_base.proofs.TableLaws.{run-append, get_or-run}
use Rattle.vx_base.proofs.WindowLaws.{run_shifted}
use Rattle.border_rows.specs.Seen.{row_seen}

-- ---- along a valid row

pub seen_left : (image : ImageValue) (border : Border) (x : ℤ) (line : ℕ)
    → x <ℤ pos image.valid.x0
    → seen_along image border line x ≡ border_value border (pixel_at image image.valid.x0 line)
seen_left image border x line h = grind (arith, ints)

pub seen_inside : (image : ImageValue) (border : Border) (x : ℤ) (line : ℕ)
    → pos image.valid.x0 ≤ℤ x
    → x <ℤ pos image.valid.x1
    → seen_along image border line x ≡ pixel_at image (unsigned_abs x) line
seen_inside image border x line a b = grind (arith, ints)

pub seen_right : (image : ImageValue) (border : Border) (x : ℤ) (line : ℕ)
    → pos image.valid.x0 ≤ℤ x
    → pos image.valid.x1 ≤ℤ x
    → seen_along image border line x
    ≡ border_value border (pixel_at image (image.valid.x1 - 1) line)
seen_right image border x line a b = grind (arith, ints)

-- the row that is seen, from a test of it
pub row_is : (image : ImageValue) (border : Border) (y z : ℤ) (found o : Option ℕ)
    → y ≡ z
    → found ≡ row_seen image.valid border y
    → found ≡ o
    → row_seen image.valid border z ≡ o
row_is image border y z found o same is at =
    ap (row_seen image.valid border) (sym same) ∙ sym is ∙ at

-- ---- under a replicated border a window reads the nearest valid sample

nearest_held : (r : Rectangle) (x y : ℤ)
    → holds r x y ≡ true
    → (clamp_coordinate r.x0 r.x1 x ≡ unsigned_abs x)
    × (clamp_coordinate r.y0 r.y1 y ≡ unsigned_abs y)
nearest_held r x y h = (grind (arith, ints), grind (arith, ints))

nearest_is : (image : ImageValue) (x y : ℤ)
    → sample_or_border image Replicate x y
    ≡ pixel_at image (clamp_coordinate image.valid.x0 image.valid.x1 x)
    (clamp_coordinate image.valid.y0 image.valid.y1 y)
nearest_is image x y = elim (cases_Bool (holds image.valid x y)) [
  | inl e ↦ let at = nearest_held image.valid x y e in rw (e, at.0, at.1) refl
  | inr e ↦ rw e refl
]

line_is : (r : Rectangle) (y : ℤ) (line : ℕ)
    → row_seen r Replicate y ≡ Some line
    → clamp_coordinate r.y0 r.y1 y ≡ line
line_is r y line e = grind (arith, ints)

nearest_along : (image : ImageValue) (line : ℕ) (x : ℤ)
    → image.valid.x0 < image.valid.x1
    → seen_along image Replicate line x
    ≡ pixel_at image (clamp_coordinate image.valid.x0 image.valid.x1 x) line
nearest_along image line x some = grind (arith, ints)

-- a window reads in row y what it reads along the valid row that the border takes for it
pub look_along : (image : ImageValue) (border : Border) (x y : ℤ) (line : ℕ)
    → image.valid.x0 < image.valid.x1
    → row_seen image.valid border y ≡ Some line
    → sample_or_border image border x y ≡ seen_along image border line x
look_along image Undefined x y line some e = grind (arith, ints)
look_along image (Constant value) x y line some e = grind (arith, ints)
look_along image Replicate x y line some e =
    nearest_is image x y
    ∙ ap (pixel_at image (clamp_coordinate image.valid.x0 image.valid.x1 x))
    (line_is image.valid y line e)
    ∙ sym (nearest_along image line x some)

pub look_inside : (image : ImageValue) (border : Border) (x y : ℤ) (line : ℕ)
    → row_seen image.valid border y ≡ Some line
    → pos image.valid.x0 ≤ℤ x
    → x <ℤ pos image.valid.x1
    → sample_or_border image border x y ≡ pixel_at image (unsigned_abs x) line
look_inside image border x y line e a b =
    look_along image border x y line (omega (arith, ints)) e ∙ seen_inside image border x line a b

-- where the border takes no valid row
pub look_off : (image : ImageValue) (border : Border) (x y : ℤ)
    → row_seen image.valid border y ≡ None
    → sample_or_border image border x y ≡ border_value border (pos 0)
look_off image Undefined x y e = grind (arith, ints)
look_off image (Constant value) x y e = grind (arith, ints)
look_off image Replicate x y e = grind (arith, ints)

-- ---- a part of a row

-- a row from column start - radius on, in three parts: border, valid samples, border
pub seen_in_three :
    (image : ImageValue) (border : Border) (line start radius n b m first left right : ℕ)
    (samples : List ℕ)
    → image.valid.x0 < image.valid.x1 → length samples ≡ m
    → b ≡ min (image.valid.x0 + radius - start) n
    → m ≡ min (image.valid.x1 + radius - start) n - b
    → first ≡ min (max (start - radius) image.valid.x0) image.valid.x1
    → pos left ≡ border_value border (pixel_at image image.valid.x0 line)
    → pos right ≡ border_value border (pixel_at image (image.valid.x1 - 1) line)
    → map pos samples ≡ run first m (λ k. pixel_at image k line)
    → replicate b (pos left)
    ++ (map pos samples ++ replicate (n - (b + length samples)) (pos right))
    ≡ run start n (λ c. seen_along image border line (pos c -ℤ pos radius))
seen_in_three image border line start radius n b m first left right samples some long at_before
    at_middle at_first is_left is_right is_middle =
    let rest = n - (b + m) in
    let parts : n ≡ b + (m + rest) = omega arith in
    let at_left = run-same g (λ _. pos left) start b before ∙ run-constant (pos left) start b in
    let at_right =
    run-same g (λ _. pos right) (start + b + m) rest after
    ∙ run-constant (pos right) (start + b + m) rest in
    sym
    (ap (λ k. run start k g) parts
    ∙ run-append g start b (m + rest)
    ∙ cc (at_left, run-append g (start + b) m rest, between, at_right, is_middle, long))
  where
    g : ℕ → ℤ
    g = λ c. seen_along image border line (pos c -ℤ pos radius)

    before : (c : ℕ) → start ≤ c → c < start + b → g c ≡ pos left
    before c k h =
        seen_left image border (pos c -ℤ pos radius) line (omega (arith, ints)) ∙ sym is_left

    between : run (start + b) m g ≡ run first m (λ k. pixel_at image k line)
    between = run_shifted g (λ k. pixel_at image k line) (start + b) first m place
      where
        place : (k : ℕ) → k < m → g (start + b + k) ≡ pixel_at image (first + k) line
        place k h =
            seen_inside image border (pos (start + b + k) -ℤ pos radius) line
            (omega (arith, ints)) (omega (arith, ints))
            ∙ ap (λ j. pixel_at image j line) (omega (arith, ints))

    after : (c : ℕ) → start + b + m ≤ c → c < start + b + m + (n - (b + m)) → g c ≡ pos right
    after c h k =
        seen_right image border (pos c -ℤ pos radius) line (omega (arith, ints))
        (omega (arith, ints))
        ∙ sym is_right

-- the valid columns, from a rectangle that is lent
pub edges_are : (image : ImageValue) (r : Rectangle)
    → IsImage image
    → r ≡ image.valid
    → (r.x0 ≡ image.valid.x0) × (r.x1 ≡ image.valid.x1) × (image.valid.x1 ≤ image.width)
edges_are image r is same =
    (ap (λ (r : Rectangle). r.x0) same, ap (λ (r : Rectangle). r.x1) same, is.room.columns)

-- a sample of a row
pub item_is : (image : ImageValue) (line : ℕ) (row : List ℕ) (k x : ℕ)
    → map pos row ≡ run 0 image.width (λ x. pixel_at image x line)
    → k ≡ x
    → x < image.width
    → pos (get_or row k 0) ≡ pixel_at image x line
item_is image line row k x same at below =
    ap (λ i. pos (get_or row i 0)) at
    ∙ sym (get_or-map pos row x 0)
    ∙ ap (λ l. get_or l x (pos 0)) same
    ∙ get_or-run (λ x. pixel_at image x line) 0 image.width x (pos 0) below
    ∙ ap (λ i. pixel_at image i line) (zero-add x)

-- ---- rows that are read in place

-- at valid columns of a row in which a valid row is seen
pub seen_there : (image : ImageValue) (border : Border) (x line count : ℕ) (y : ℤ)
    → row_seen image.valid border y ≡ Some line
    → image.valid.x0 ≤ x
    → x + count ≤ image.valid.x1
    → run x count (λ k. pixel_at image k line)
    ≡ run x count (λ c. sample_or_border image border (pos c) y)
seen_there image border x line count y seen left right =
    run-same (λ k. pixel_at image k line) (λ c. sample_or_border image border (pos c) y) x count
    (λ k a b. sym
    (look_inside image border (pos k) y line seen (omega (arith, ints)) (omega (arith, ints))))

-- in a row in which none is seen
pub seen_nowhere : (image : ImageValue) (border : Border) (x count : ℕ) (y : ℤ) (all : List ℕ)
    → row_seen image.valid border y ≡ None
    → map pos all ≡ replicate (length all) (border_value border (pos 0))
    → count ≤ length all
    → map pos (take count all) ≡ run x count (λ c. sample_or_border image border (pos c) y)
seen_nowhere image border x count y all off same room =
    rw (
      ← take-map pos count all,
      same,
      take-replicate count (length all) (border_value border (pos 0)) room,
      ← run-constant (border_value border (pos 0)) x count,
    )
    (run-same (λ _. border_value border (pos 0)) (λ c. sample_or_border image border (pos c) y)
    x count (λ k a b. sym (look_off image border (pos k) y off)))
