-- Optional outputs.
use Rattle.std.proofs.Common.{inl, inr}
use Rattle.std.specs.Prelude.{◌⊎◌, Option, Some, None}
use Rattle.std.specs.Borrow.{MutBor}
use Rattle.vx_base.specs.Image.{ImageValue}
use Rattle.image_core.specs.declared.image_mut.ImageMut.{ImageMut}
use Rattle.image_core.specs.Target.{Writes}

-- if an output is given, the image `value` is written to it
abbrev pub WritesGiven : ImageValue
    → Option (MutBor ImageMut)
    → Unit {0} ⊎ ((MutBor ImageMut × Unit {0}) ⊎ ⊥)
    → Type 0
WritesGiven value (Some old) (inr (inl new)) = Writes value old.now new.0.now
WritesGiven value (Some old) _ = ⊥
WritesGiven value None _ = Unit {0}
