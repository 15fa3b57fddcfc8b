-- The reply to QueryImage: the format, the width, the height and the valid rectangle.
use Rattle.std.specs.Prelude.{ℕ, List, ◌∷◌, ◌++◌}
use Rattle.std.specs.Int.{w16, to_be_bytes}
use Rattle.client_model.specs.declared.reply.Described.{Described}
use Rattle.vx_wire.specs.Format.{open_format_number}
use Rattle.vx_wire.specs.Rectangle.{rectangle_bytes}

-- the body of a reply to QueryImage: the format, the width, the height, the valid rectangle
abbrev pub described_bytes : Described → List ℕ
described_bytes d =
    open_format_number d.format
    ∷ (to_be_bytes w16 d.width ++ (to_be_bytes w16 d.height ++ rectangle_bytes d.valid))
