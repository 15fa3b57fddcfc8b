-- The grammar of PGM texts (Netpbm, pgm(5)), as a relation between texts and pictures.
use Rattle.std.specs.Prelude.{◌≡◌, ℕ, pos, ◌+◌, ◌*◌, ◌<◌, ◌⊎◌, ◌≤◌, true, false, List, [], ◌∷◌, ◌++◌, length, map, All, IsTrue}
use Rattle.std.specs.List.{flat_map}
use Rattle.std.specs.Str.{all_ascii_digits}
use Rattle.std.specs.Str.Parse.{digits_value}
use Rattle.vx_base.specs.Description.{IsDescription, sample_count}
use Rattle.vx_base.specs.Picture.{PictureValue}
use Rattle.pgm_images.specs.declared.header.Encoding.{Encoding}
use Rattle.pgm_images.specs.declared.header.Encoding.TheVariants.{Plain, Raw}
use Rattle.pgm_images.specs.Marks.{ends_line, is_space, begins_comment, begins_digit}
use Rattle.pgm_images.specs.Header.{HeaderValue, is_maxval, format_up_to}
use Rattle.pgm_images.specs.Raster.{all_up_to}

-- ---- gaps and numbers

-- the part of a comment after its `#`: bytes other than CR and LF, and then a CR or an LF
abbrev pub IsTail : List ℕ → Type 0
IsTail [] = ⊥
IsTail (b ∷ text) = ((ends_line b ≡ true) × (text ≡ [])) ⊎ ((ends_line b ≡ false) × IsTail text)

-- a whitespace byte or a comment
abbrev pub IsBlank : List ℕ → Type 0
IsBlank [] = ⊥
IsBlank (b ∷ text) = ((is_space b ≡ true) × (text ≡ [])) ⊎ ((begins_comment b ≡ true) × IsTail text)

-- any number of whitespace bytes and comments, possibly none
pub record IsBlanks (text : List ℕ) : Type 0 where
  pub parts : List (List ℕ)
  pub each : All IsBlank parts
  pub spelled : text ≡ flat_map (λ part. part) parts

-- a gap of at least one whitespace byte or comment, and then the number `n` in one or more decimal
-- digits
pub record IsSpaced (text : List ℕ) (n : ℕ) : Type 0 where
  pub gap : List ℕ
  pub digits : List ℕ
  pub spelled : text ≡ gap ++ digits
  pub blanks : IsBlanks gap
  pub some : 0 < length gap
  pub decimal : all_ascii_digits digits ≡ true
  pub one : 0 < length digits
  pub value : digits_value 10 digits ≡ n

-- these numbers, one after the other, each after a gap
abbrev pub AreSpaced : List ℕ → List ℕ → Type 0
AreSpaced text [] = text ≡ []
AreSpaced text (n ∷ numbers) =
    (first rest : List ℕ) × IsSpaced first n × AreSpaced rest numbers × (text ≡ first ++ rest)

-- ---- rasters

-- two bytes for each number, the most significant first
abbrev pub ArePairs : List ℕ → List ℕ → Type 0
ArePairs bytes [] = bytes ≡ []
ArePairs bytes (n ∷ numbers) =
    (a b : ℕ) × (rest : List ℕ) × (bytes ≡ a ∷ b ∷ rest) × (n ≡ 256 * a + b) × ArePairs rest numbers

-- one byte for each number if the maxval is below 256, else two bytes
abbrev pub IsRaster : (maxval : ℕ) → List ℕ → List ℕ → Type 0
IsRaster maxval bytes numbers =
    ((maxval < 256) × (bytes ≡ numbers)) ⊎ ((256 ≤ maxval) × ArePairs bytes numbers)

-- ---- a header, and the samples after it

-- the second byte of a text, after `P`: `2` in a plain text, `5` in a raw text
abbrev pub magic : Encoding → ℕ
magic Plain = 50
magic Raw = 53

-- How a header ends. In a plain text no digit follows the maxval. In a raw text one whitespace byte
-- follows the maxval, and `rest` begins after that byte.
abbrev pub EndsHeader : Encoding → (after rest : List ℕ) → Type 0
EndsHeader Plain after rest = (after ≡ rest) × (begins_digit rest ≡ false)
EndsHeader Raw after rest = (space : ℕ) × (is_space space ≡ true) × (after ≡ space ∷ rest)

-- the text is this header, followed by `rest`
pub record IsHeader (text : List ℕ) (header : HeaderValue) (rest : List ℕ) : Type 0 where
  pub body : List ℕ
  pub after : List ℕ
  pub numbers : AreSpaced body (header.width ∷ header.height ∷ header.maxval ∷ [])
  pub end : EndsHeader header.encoding after rest
  pub spelled : text ≡ 80 ∷ magic header.encoding ∷ (body ++ after)

-- `rest`, the text after a header, encodes exactly these samples
abbrev pub HasSamples : Encoding → (maxval : ℕ) → List ℕ → List ℕ → Type 0
HasSamples Plain maxval rest samples =
    (body end : List ℕ) × AreSpaced body samples × IsBlanks end × (rest ≡ body ++ end)
HasSamples Raw maxval rest samples = IsRaster maxval rest samples

-- ---- whole texts

-- `P2`, the width, the height, the maxval and the samples; whitespace and comments may follow
pub record IsPlainText (text : List ℕ) (width height maxval : ℕ) (samples : List ℕ) : Type 0 where
  pub body : List ℕ
  pub end : List ℕ
  pub numbers : AreSpaced body (width ∷ height ∷ maxval ∷ samples)
  pub blanks : IsBlanks end
  pub spelled : text ≡ 80 ∷ 50 ∷ (body ++ end)

-- `P5`, the width, the height, the maxval, one whitespace byte and the raster
pub record IsRawText (text : List ℕ) (width height maxval : ℕ) (samples : List ℕ) : Type 0 where
  pub body : List ℕ
  pub space : ℕ
  pub raster : List ℕ
  pub numbers : AreSpaced body (width ∷ height ∷ maxval ∷ [])
  pub white : is_space space ≡ true
  pub bytes : IsRaster maxval raster samples
  pub spelled : text ≡ 80 ∷ 53 ∷ (body ++ space ∷ raster)

-- the text encodes the picture
pub record Encodes (text : List ℕ) (p : PictureValue) : Type 0 where
  pub maxval : ℕ
  pub numbers : List ℕ
  pub encoded :
      IsPlainText text p.description.width p.description.height maxval numbers
      ⊎ IsRawText text p.description.width p.description.height maxval numbers
  pub sides : IsDescription p.description
  pub allowed : IsTrue (is_maxval maxval)
  pub format : p.description.format ≡ format_up_to maxval
  pub size : length numbers ≡ sample_count p.description
  pub below : all_up_to maxval numbers ≡ true
  pub samples : p.samples ≡ map pos numbers
