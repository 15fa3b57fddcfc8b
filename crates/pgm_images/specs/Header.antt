-- The header of a PGM text: its encoding, width, height and maxval.
use Rattle.std.specs.Prelude.{◌≡◌, ℕ, ◌==◌, ◌&&◌, Bool, if◌then◌else◌, min, nat_le, nat_lt, List, [], ◌∷◌, Option, Some, None, Result, Ok, Err}
use Rattle.std.specs.Option.{option_map}
use Rattle.vx_base.specs.declared.format.Format.{Format}
use Rattle.vx_base.specs.declared.format.Format.TheVariants.{U8, S16}
use Rattle.vx_base.specs.Description.{Description, is_side}
use Rattle.pgm_images.specs.declared.fault.PgmFault.{PgmFault}
use Rattle.pgm_images.specs.declared.fault.PgmFault.TheVariants.{InvalidFormat, InvalidDimension}
use Rattle.pgm_images.specs.declared.header.Encoding.{Encoding}
use Rattle.pgm_images.specs.declared.header.Encoding.TheVariants.{Plain, Raw}
use Rattle.pgm_images.specs.declared.header.Header.{Header}
use Rattle.pgm_images.specs.Marks.{BeginsWith, then_take, is_space, take_next}

-- the fields of a header; each number is the one in the text, however great
pub record HeaderValue : Type 0 where
  pub encoding : Encoding
  pub width : ℕ
  pub height : ℕ
  pub maxval : ℕ

-- the encoding that `P2` or `P5` at the front of a text stands for
abbrev pub take_magic : List ℕ → BeginsWith Encoding
take_magic [] = None
take_magic (a ∷ []) = None
take_magic (a ∷ b ∷ text) =
    if (a == 80) && (b == 50) then Some (Plain, text) else if (a == 80) && (b == 53) then Some
    (Raw, text) else None

-- The text after the header, given the text after its maxval. A header of P5 ends with one
-- whitespace byte right after the maxval.
abbrev pub past_header : Encoding → List ℕ → Option (List ℕ)
past_header Plain text = Some text
past_header Raw [] = None
past_header Raw (b ∷ text) = if is_space b then Some text else None

-- the rest of a header after its `P2` or `P5`: the width, the height and the maxval, each after a
-- gap, and then the end of the header
abbrev pub take_numbers : Encoding → List ℕ → BeginsWith HeaderValue
take_numbers encoding text =
    then_take (take_next text)
    (λ width rest. then_take (take_next rest)
    (λ height rest. then_take (take_next rest) (λ maxval rest.
    option_map
    (λ rest.
    (record { encoding = encoding; width = width; height = height; maxval = maxval }, rest))
    (past_header encoding rest))))

-- the header that a text begins with: a magic number, then width, height and maxval
abbrev pub take_header : List ℕ → BeginsWith HeaderValue
take_header text = then_take (take_magic text) take_numbers

-- whether this maxval is accepted
abbrev pub is_maxval : ℕ → Bool
is_maxval n = nat_le 1 n && nat_le n 32767

-- the format of a picture with this maxval
abbrev pub format_up_to : ℕ → Format
format_up_to maxval = if nat_lt maxval 256 then U8 else S16

-- the description of a picture with these numbers in its header, or the header's fault
abbrev pub header_description : (width height maxval : ℕ) → Result Description PgmFault
header_description width height maxval =
    if is_side width && is_side height
    then
    (if is_maxval maxval then Ok
    (record { width = width; height = height; format = format_up_to maxval }) else Err
    InvalidFormat)
    else Err InvalidDimension

-- The code read this header, and `rest` is the text after it. A number above 65535 is read as
-- 65535.
pub record TakesHeader (taken : BeginsWith HeaderValue) (header : Header) (rest : List ℕ) : Type
    0 where
  pub value : HeaderValue
  pub is : taken ≡ Some (value, rest)
  pub encoding : header.encoding ≡ value.encoding
  pub width : header.width ≡ min value.width 65535
  pub height : header.height ≡ min value.height 65535
  pub maxval : header.maxval ≡ min value.maxval 65535
