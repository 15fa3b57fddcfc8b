-- The value that a threshold gives for a number.
use Rattle.std.specs.Prelude.{ℕ, ℤ, pos, if◌then◌else◌}
use Rattle.vx_base.specs.declared.threshold.ThresholdKind.{ThresholdKind}
use Rattle.vx_base.specs.Threshold.{passes}

-- the true value if the number passes, and the false value if not
abbrev pub threshold_choice : ThresholdKind → ℕ → ℕ → ℤ → ℤ
threshold_choice kind t f a = if passes kind a then pos t else pos f
