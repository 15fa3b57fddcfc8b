-- Preconditions that the kernels share.
use Rattle.std.specs.Prelude.{IsTrue, ⊤, Option, Some}
use Rattle.std.specs.Option.{option_and_then}
use Rattle.vx_base.specs.declared.function.Function.{Function}
use Rattle.vx_base.specs.Description.{same_size}
use Rattle.vx_base.specs.Formats.{takes_formats}
use Rattle.vx_base.specs.Image.{ImageValue, description_of}
use Rattle.vx_base.specs.Object.{ObjectValue, ImageObject, object_format}
use Rattle.image_core.specs.declared.image_mut.ImageMut.{ImageMut}
use Rattle.image_core.specs.Target.{target_image, IsTarget}

-- the images have the same width and height
abbrev pub HaveSameSize : ImageValue → ImageValue → Type 0
HaveSameSize a b = IsTrue (same_size (description_of a) (description_of b))

-- if the second input is an image, it has the first input's size
abbrev pub SecondHasSize : ImageValue → Option ObjectValue → Type 0
SecondHasSize a (Some (ImageObject b)) = HaveSameSize b a
SecondHasSize a other = ⊤

-- The function takes the formats of the inputs and of the output. The output has the first input's
-- size. If the second input is an image, it also has this size.
pub record Fits (function : Function) (a : ImageValue) (second : Option ObjectValue)
    (out : ImageMut) : Type 0 where
  pub target : IsTarget out
  pub size : HaveSameSize (target_image out) a
  pub second_size : SecondHasSize a second
  pub formats :
      IsTrue
      (takes_formats function a.format (option_and_then object_format second)
      (Some (target_image out).format))
