-- Preconditions of the window functions.
use Rattle.std.specs.Prelude.{◌≡◌, IsTrue, Some}
use Rattle.vx_base.specs.declared.format.Format.{Format}
use Rattle.vx_base.specs.declared.format.Format.TheVariants.{U8, S16}
use Rattle.vx_base.specs.declared.function.Function.TheVariants.{Convolve}
use Rattle.vx_base.specs.Formats.{takes_formats}
use Rattle.vx_base.specs.Image.{ImageValue}
use Rattle.image_core.specs.declared.image_mut.ImageMut.{ImageMut}
use Rattle.image_core.specs.Fits.{HaveSameSize}
use Rattle.image_core.specs.Target.{target_image, IsTarget}

-- a U8 input, and an output with the input's size and the format `output`
pub record WindowFits (output : Format) (a : ImageValue) (out : ImageMut) : Type 0 where
  pub target : IsTarget out
  pub size : HaveSameSize (target_image out) a
  pub input_format : a.format ≡ U8
  pub format : (target_image out).format ≡ output

-- a U8 input, and a U8 or S16 output of the input's size
pub record ConvolutionFits (a : ImageValue) (out : ImageMut) : Type 0 where
  pub target : IsTarget out
  pub size : HaveSameSize (target_image out) a
  pub formats : IsTrue (takes_formats Convolve a.format (Some S16) (Some (target_image out).format))
