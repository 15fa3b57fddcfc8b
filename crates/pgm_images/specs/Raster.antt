-- The samples of a PGM text, as numbers.
use Rattle.std.specs.Prelude.{◌≡◌, ℕ, zero, suc, ◌+◌, ◌*◌, Bool, true, false, not, if◌then◌else◌, nat_le, nat_lt, List, [], ◌∷◌, ◌++◌, ◌-◌, length, take, map, ℤ, pos, Option, Some, None, Result, Ok, Err, OnOk, IfErr}
use Rattle.std.specs.List.{list_all}
use Rattle.std.specs.Option.{option_map}
use Rattle.pgm_images.specs.declared.fault.PgmFault.{PgmFault}
use Rattle.pgm_images.specs.declared.fault.PgmFault.TheVariants.{InvalidFormat, InvalidValue}
use Rattle.pgm_images.specs.declared.header.Encoding.{Encoding}
use Rattle.pgm_images.specs.declared.header.Encoding.TheVariants.{Plain, Raw}
use Rattle.pgm_images.specs.Marks.{BeginsWith, then_take, take_next, ends}

-- a raster sample of one byte
abbrev pub take_short_sample : List ℕ → BeginsWith ℕ
take_short_sample [] = None
take_short_sample (a ∷ text) = Some (a, text)

-- a raster sample of two bytes, the more significant first
abbrev pub take_long_sample : List ℕ → BeginsWith ℕ
take_long_sample text =
    then_take (take_short_sample text)
    (λ a rest. then_take (take_short_sample rest) (λ b rest. Some (256 * a + b, rest)))

-- a raster sample: one byte if the maxval is below 256, else two
abbrev pub take_raw : (maxval : ℕ) → List ℕ → BeginsWith ℕ
take_raw maxval text = if nat_lt maxval 256 then take_short_sample text else take_long_sample text

-- whether the text has ended
abbrev pub nothing_left : List ℕ → Bool
nothing_left [] = true
nothing_left (b ∷ text) = false

-- `count` numbers, each as `take` reads it, and then an end that `is_end` accepts
abbrev pub take_count : (take : List ℕ → BeginsWith ℕ) (is_end : List ℕ → Bool)
    → ℕ
    → List ℕ
    → Option (List ℕ)
take_count take is_end zero text = if is_end text then Some [] else None
take_count take is_end (suc count) text =
    then_take (take text)
    (λ number rest. option_map (λ numbers. number ∷ numbers) (take_count take is_end count rest))

-- The `count` numbers in the text after a header, or None if the text has fewer numbers or doesn't
-- end after `count` numbers. In a plain text each number comes after a gap, and whitespace and
-- comments may follow the last number.
abbrev pub numbers_in : Encoding → (maxval count : ℕ) → List ℕ → Option (List ℕ)
numbers_in Plain maxval count text = take_count take_next ends count text
numbers_in Raw maxval count text = take_count (take_raw maxval) nothing_left count text

-- whether all numbers are at most the maxval
abbrev pub all_up_to : ℕ → List ℕ → Bool
all_up_to maxval numbers = list_all (λ n. nat_le n maxval) numbers

-- the numbers as samples; InvalidValue if a number is above the maxval, InvalidFormat if None is
-- given instead of numbers
abbrev pub samples_up_to : ℕ → Option (List ℕ) → Result (List ℤ) PgmFault
samples_up_to maxval None = Err InvalidFormat
samples_up_to maxval (Some numbers) =
    if all_up_to maxval numbers then Ok (map pos numbers) else Err InvalidValue

-- The code wrote the samples of `wanted` over existing samples, or returned the fault of `wanted`.
pub record Reads {A : Type 0} (wanted : Result (List ℤ) PgmFault) (samples : List ℤ)
    (result : Result A PgmFault) : Type 0 where
  pub ok : OnOk result (wanted ≡ Ok samples)
  pub err : IfErr result (λ fault. wanted ≡ Err fault)

-- `high` says whether one of the `numbers` is above the maxval. If none is, `written` are these
-- numbers as samples.
pub record HoldsNumbers (maxval : ℕ) (high : Bool) (written : List ℤ) (numbers : List ℕ) : Type
    0 where
  pub above : high ≡ not (all_up_to maxval numbers)
  pub samples : high ≡ false → written ≡ map pos numbers

-- the numbers `done`, followed by the numbers of `o`; None if `o` is None
abbrev pub prepend : List ℕ → Option (List ℕ) → Option (List ℕ)
prepend done o = option_map (λ others. done ++ others) o

-- The first numbers of a text have been read. `above` says whether one of these numbers is above
-- the maxval. If none is, the samples hold these numbers. The remaining `left` numbers are to be
-- read from `rest`. `whole` is all numbers of the text, or None if `rest` doesn't have exactly
-- `left` numbers.
abbrev pub LeftToFill :
    (take : List ℕ → BeginsWith ℕ) (is_end : List ℕ → Bool) (maxval : ℕ) (above : Bool)
    (samples : List ℤ) (left : ℕ) (rest : List ℕ) (whole : Option (List ℕ))
    → Type 0
LeftToFill take is_end maxval above samples left rest whole =
    (numbers : List ℕ)
    × HoldsNumbers maxval above samples numbers
    × (whole ≡ prepend numbers (take_count take is_end left rest))

-- The first numbers of a plain text have been read. `above` says whether one of these numbers is
-- above the maxval. If none is, the first `index` samples hold these numbers. The remaining numbers
-- are to be read from `rest`.
abbrev pub PlainUpTo :
    {T : Type 0} (value : T → ℤ) (maxval index : ℕ) (above : Bool) (samples : List T)
    (rest : List ℕ) (whole : Option (List ℕ))
    → Type 0
PlainUpTo value maxval index above samples rest whole =
    LeftToFill take_next ends maxval above (map value (take index samples))
    (length samples - index) rest whole
