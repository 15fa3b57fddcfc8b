-- Thresholds: the limits of a comparison and its two results. OpenVX 1.3, "Object: Threshold".
use Rattle.std.specs.Prelude.{ℕ, ℤ, ◌<◌, ◌^◌, Bool, false, ◌&&◌, IsTrue, int_lt, int_le, if◌then◌else◌, Option, Some, None}
use Rattle.vx_base.specs.declared.format.Format.{Format}
use Rattle.vx_base.specs.declared.format.Format.TheVariants.{U32}
use Rattle.vx_base.specs.declared.threshold.ThresholdKind.{ThresholdKind}
use Rattle.vx_base.specs.declared.threshold.ThresholdKind.TheVariants.{Binary, Range}
use Rattle.vx_base.specs.Sample.{min_sample, max_sample}

-- a threshold: the format of the samples that it tests, the comparison, and the results for samples
-- that pass and for samples that don't
pub record ThresholdValue : Type 0 where
  pub format : Format
  pub kind : ThresholdKind
  pub true_value : ℕ
  pub false_value : ℕ

-- whether a number is a sample of the format
abbrev pub is_sample : Format → ℤ → Bool
is_sample format z = int_le (min_sample format) z && int_le z (max_sample format)

-- whether these limits are permitted: the format is U8 or S16, each limit is a sample of the
-- format, and the upper limit isn't below the lower
abbrev pub has_limits : Format → ThresholdKind → Bool
has_limits U32 kind = false
has_limits format (Binary t) = is_sample format t
has_limits format (Range lower upper) =
    is_sample format lower && (is_sample format upper && int_le lower upper)

-- the threshold with these limits and results, if its limits are permitted
abbrev pub threshold : Format → ThresholdKind → ℕ → ℕ → Option ThresholdValue
threshold format kind true_value false_value =
    if has_limits format kind
    then Some
    (record { format = format; kind = kind; true_value = true_value; false_value = false_value })
    else None

-- whether a sample passes. It passes a binary threshold if it is above t, and a range threshold if
-- it is from `lower` to `upper`, both included.
abbrev pub passes : ThresholdKind → ℤ → Bool
passes (Binary t) a = int_lt t a
passes (Range lower upper) a = int_le lower a && int_le a upper

-- a threshold with permitted limits, whose results are U8 samples
pub record IsThreshold (t : ThresholdValue) : Type 0 where
  pub limits : IsTrue (has_limits t.format t.kind)
  pub true_value : t.true_value < 2 ^ 8
  pub false_value : t.false_value < 2 ^ 8
