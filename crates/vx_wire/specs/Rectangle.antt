-- Rectangles: the four bounds, which are one field. OpenVX 1.3, `vx_rectangle_t`.
use Rattle.std.specs.Prelude.{ℕ, List, ◌++◌}
use Rattle.std.specs.Int.{w16, to_be_bytes}
use Rattle.vx_base.specs.Rectangle.{Rectangle, rectangle}
use Rattle.vx_wire.specs.declared.body_fault.BodyFault.TheVariants.{InvalidValue}
use Rattle.vx_wire.specs.Fields.{FieldResult, and_then, allowed_or_fault, take_short}

-- reads a rectangle from the front of a body: x0, y0, x1, y1, each a u16; the bounds are checked
-- after all four have been read
abbrev pub take_rectangle : List ℕ → FieldResult Rectangle
take_rectangle body =
    and_then (take_short body) (λ x0 rest. and_then (take_short rest) (λ y0 rest.
    and_then (take_short rest) (λ x1 rest. and_then (take_short rest) (λ y1 rest.
    allowed_or_fault InvalidValue (rectangle x0 y0 x1 y1) rest))))

-- the bytes of a rectangle: x0, y0, x1, y1, each a u16
abbrev pub rectangle_bytes : Rectangle → List ℕ
rectangle_bytes r =
    to_be_bytes w16 r.x0 ++ (to_be_bytes w16 r.y0 ++ (to_be_bytes w16 r.x1 ++ to_be_bytes w16 r.y1))
