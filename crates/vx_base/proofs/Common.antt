-- The names that several proofs cite, passed on from one place. Declares nothing.
pub use Rattle.std.proofs.lemmas.Bool.Decides.{nat_tests}
pub use Rattle.std.proofs.lemmas.Int.{ints}
pub use Rattle.std.proofs.lemmas.List.{take_more_set}
pub use Rattle.std.proofs.lemmas.List.Elements.{All-from_get_or, All-map}
pub use Rattle.std.specs.Int.{int_div_euclid}
pub use Rattle.std.specs.Simd.Lanes.{Each1}
pub use Rattle.vx_base.specs.Formats.{takes_formats}
pub use Rattle.vx_base.specs.Function.{accumulates, parameters}
pub use Rattle.vx_base.specs.Image.{
  ImageValue,
  IsImage,
  pixel_at,
  band,
  image_from,
  new_image,
  run,
  table,
  zero_outside,
}
pub use Rattle.vx_base.specs.Node.{has_amount}
pub use Rattle.vx_base.specs.Pixelwise.{formula_of_one, formula_of_two, from_one}
pub use Rattle.vx_base.specs.Rectangle.{
  IsCanonical,
  IsOrdered,
  IsWithin,
  Rectangle,
  empty_rectangle,
  has_pixel,
  meet_of,
  whole_rectangle,
}
pub use Rattle.vx_base.specs.Sample.{IsSample, min_sample, wrap}
pub use Rattle.vx_base.specs.Window.{from_nine}
pub use Rattle.vx_base.specs.declared.desc.TheConstants.{GREATEST_SIDE}
pub use Rattle.vx_base.specs.declared.format.Format.{Format}
pub use Rattle.vx_base.specs.declared.format.Format.TheVariants.{S16, U32, U8}
pub use Rattle.vx_base.specs.declared.function.Function.{Function}
pub use Rattle.vx_base.specs.declared.function.Function.TheVariants.{
  AbsoluteDifference,
  Accumulate,
  AccumulateSquare,
  Add,
  AndBits,
  Box,
  ConvertDepth,
  Convolve,
  Dilate,
  Erode,
  Gaussian,
  Histogram,
  Integral,
  MaxPixel,
  Median,
  MinMaxLoc,
  MinPixel,
  Multiply,
  NotBits,
  OrBits,
  Sobel,
  Subtract,
  TableLookup,
  Threshold,
  XorBits,
}
