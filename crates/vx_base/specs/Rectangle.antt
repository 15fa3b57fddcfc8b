-- Rectangles as sets of pixels: the start is included, the end is not.
use Rattle.std.specs.Prelude.{ℕ, ◌≤◌, ◌<◌, ◌^◌, IsTrue, Bool, ◌&&◌, ◌||◌, ◌==◌, nat_le, nat_lt, min, max, ◌+◌, ◌-◌, if◌then◌else◌, Option, Some, None}

-- the pixels in columns x0 to x1 - 1 and rows y0 to y1 - 1
pub record Rectangle : Type 0 where
  pub x0 : ℕ
  pub y0 : ℕ
  pub x1 : ℕ
  pub y1 : ℕ

-- whether a pixel is in the rectangle
abbrev pub has_pixel : Rectangle → ℕ → ℕ → Bool
has_pixel r x y = (nat_le r.x0 x && nat_lt x r.x1) && (nat_le r.y0 y && nat_lt y r.y1)

-- the rectangle without pixels
abbrev pub empty_rectangle : Rectangle
empty_rectangle = record { x0 = 0; y0 = 0; x1 = 0; y1 = 0 }

-- whether these bounds are in canonical form: all 0, or each start less than its end
abbrev pub is_rectangle : ℕ → ℕ → ℕ → ℕ → Bool
is_rectangle x0 y0 x1 y1 =
    (((x0 == 0) && (y0 == 0)) && ((x1 == 0) && (y1 == 0))) || (nat_lt x0 x1 && nat_lt y0 y1)

-- the rectangle with these bounds, if they are in canonical form
abbrev pub rectangle : ℕ → ℕ → ℕ → ℕ → Option Rectangle
rectangle x0 y0 x1 y1 =
    if is_rectangle x0 y0 x1 y1 then Some (record { x0 = x0; y0 = y0; x1 = x1; y1 = y1 }) else None

-- the rectangle with these bounds, or the empty rectangle if these bounds include no pixel
abbrev pub rectangle_or_empty : ℕ → ℕ → ℕ → ℕ → Rectangle
rectangle_or_empty x0 y0 x1 y1 =
    if nat_lt x0 x1 && nat_lt y0 y1 then record { x0 = x0; y0 = y0; x1 = x1; y1 = y1 } else
    empty_rectangle

-- all pixels of an image of this width and height
abbrev pub whole_rectangle : ℕ → ℕ → Rectangle
whole_rectangle width height = record { x0 = 0; y0 = 0; x1 = width; y1 = height }

-- the intersection of two rectangles
abbrev pub meet_of : Rectangle → Rectangle → Rectangle
meet_of r s = rectangle_or_empty (max r.x0 s.x0) (max r.y0 s.y0) (min r.x1 s.x1) (min r.y1 s.y1)

-- the pixels whose window, of horizontal radius rx and vertical radius ry, lies wholly in the
-- rectangle
abbrev pub shrink_of : Rectangle → ℕ → ℕ → Rectangle
shrink_of r rx ry = rectangle_or_empty (r.x0 + rx) (r.y0 + ry) (r.x1 - rx) (r.y1 - ry)

-- a rectangle in canonical form: all bounds 0, or each start less than its end
abbrev pub IsCanonical : Rectangle → Type 0
IsCanonical r = IsTrue (is_rectangle r.x0 r.y0 r.x1 r.y1)

-- a rectangle in canonical form, whose bounds have 16 bits
pub record IsRectangle (r : Rectangle) : Type 0 where
  pub bounds : IsCanonical r
  pub columns : r.x1 < 2 ^ 16
  pub rows : r.y1 < 2 ^ 16

-- a rectangle with no start greater than its end
pub record IsOrdered (r : Rectangle) : Type 0 where
  pub columns : r.x0 ≤ r.x1
  pub rows : r.y0 ≤ r.y1

-- a rectangle within an image of this width and height
pub record IsWithin (r : Rectangle) (width height : ℕ) : Type 0 where
  pub columns : r.x1 ≤ width
  pub rows : r.y1 ≤ height
