-- Formats of outputs, tables and thresholds.
use Rattle.std.proofs.Common.{◌≡◌, ℕ, ℤ, List, refl, subst, rules, IsTrue, arith, w16, to_z, of_z}
use Rattle.std.proofs.lemmas.Int.{ints}
use Rattle.std.proofs.lemmas.Bool.Decides.{nat_tests}
use Rattle.pixel_kernels.proofs.Common.{Binary, ImageValue, Range, S16, U8, from_one, in_format}
use Rattle.vx_base.specs.declared.format.Format.{Format}
use Rattle.vx_base.specs.declared.format.Format.TheVariants.{U32}
use Rattle.vx_base.specs.Formats.{are_arithmetic}
use Rattle.vx_base.specs.Lut.{LutValue}
use Rattle.vx_base.specs.Threshold.{ThresholdValue, has_limits}
use Rattle.vx_base.specs.Pixelwise.{lookup_result, threshold_result}
use Rattle.image_core.specs.declared.image_mut.ImageMut.{ImageMut}
use Rattle.image_core.specs.Target.{Writes}
use Rattle.vx_base.specs.declared.threshold.ThresholdKind.{ThresholdKind}

-- an output that is not U8 is S16
pub short_output : (a b format : Format)
    → IsTrue (are_arithmetic a b format)
    → (format ≡ U8 → ⊥)
    → format ≡ S16
short_output a b U8 takes other = absurd (other refl)
short_output a b S16 takes other = refl
short_output U8 U8 U32 takes other = search rules
short_output U8 S16 U32 takes other = search rules
short_output U8 U32 U32 takes other = search rules
short_output S16 U8 U32 takes other = search rules
short_output S16 S16 U32 takes other = search rules
short_output S16 U32 U32 takes other = search rules
short_output U32 b U32 takes other = search rules

-- an output by a table's parts
pub table_written :
    (lut : LutValue) (format : Format) (entries : List ℤ) (image : ImageValue) (old new : ImageMut)
    → format ≡ lut.format
    → entries ≡ lut.entries
    → old.desc.format ≡ format
    → Writes
    (from_one format (lookup_result (record { format = format; entries = entries })) image) old
    new
    → Writes (from_one old.desc.format (lookup_result lut) image) old new
table_written lut format entries image old new f e known is =
    let table : record { format = format; entries = entries } ≡ lut = rw (f, e) refl in
    in_format (λ f. from_one f (lookup_result lut) image) old.desc.format format old new known
    (subst (λ (t : LutValue). Writes (from_one format (lookup_result t) image) old new) table is)

-- an output by a threshold's parts
pub rule_written :
    (rule : ThresholdValue) (format : Format) (kind : ThresholdKind) (t f : ℕ)
    (image : ImageValue) (old new : ImageMut)
    → format ≡ rule.format
    → kind ≡ rule.kind
    → t ≡ rule.true_value
    → f ≡ rule.false_value
    → Writes
    (from_one U8
    (threshold_result (record { format = format; kind = kind; true_value = t; false_value = f }))
    image)
    old new
    → Writes (from_one U8 (threshold_result rule) image) old new
rule_written rule format kind t f image old new a b c d is =
    let same : record { format = format; kind = kind; true_value = t; false_value = f } ≡ rule =
    rw (a, b, c, d) refl in
    subst (λ (r : ThresholdValue). Writes (from_one U8 (threshold_result r) image) old new) same is

-- the limits of a threshold are numbers of 16 bits
abbrev pub AreKept : ThresholdKind → Type 0
AreKept (Binary t) = to_z w16 (of_z w16 t) ≡ t
AreKept (Range l u) = (to_z w16 (of_z w16 l) ≡ l) × (to_z w16 (of_z w16 u) ≡ u)

pub limits_kept : (format : Format) (kind : ThresholdKind)
    → IsTrue (has_limits format kind)
    → AreKept kind
limits_kept U8 (Binary t) has = grind (arith, nat_tests, ints, has)
limits_kept S16 (Binary t) has = grind (arith, nat_tests, ints, has)
limits_kept U8 (Range l u) has =
    (grind (arith, nat_tests, ints, has), grind (arith, nat_tests, ints, has))
limits_kept S16 (Range l u) has =
    (grind (arith, nat_tests, ints, has), grind (arith, nat_tests, ints, has))
limits_kept U32 kind has = search rules
