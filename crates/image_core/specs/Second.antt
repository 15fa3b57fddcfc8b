-- A node's second operand.
use Rattle.std.specs.Prelude.{Option, Some, None}
use Rattle.vx_base.specs.Object.{ObjectValue, ImageObject, LutObject, ThresholdObject, ConvolutionObject}
use Rattle.image_core.specs.declared.second.SecondInput.{SecondInput}
use Rattle.image_core.specs.declared.second.SecondInput.TheVariants.{Nothing, Image, Lut, Threshold, Convolution}

-- the second operand as an object, if there is one
abbrev pub second_object : SecondInput → Option ObjectValue
second_object Nothing = None
second_object (Image image) = Some (ImageObject image)
second_object (Lut lut) = Some (LutObject lut.now)
second_object (Threshold threshold) = Some (ThresholdObject threshold)
second_object (Convolution convolution) = Some (ConvolutionObject convolution.now)
