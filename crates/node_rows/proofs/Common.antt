-- The names that several proofs cite, passed on from one place. Declares nothing.
pub use Rattle.node_rows.specs.Radius.{matrix_in, window_radius}
pub use Rattle.node_rows.specs.Rows.{AgreeInRows}
pub use Rattle.std.proofs.lemmas.Bool.{cases_Bool}
pub use Rattle.std.proofs.lemmas.Bool.Decides.{nat_tests}
pub use Rattle.std.proofs.lemmas.Int.{ints}
pub use Rattle.vx_base.proofs.ImageLaws.{at-made, at-made_outside, column_inside}
pub use Rattle.vx_base.proofs.RectangleLaws.{both_inside}
pub use Rattle.vx_base.specs.Convolution.{ConvolutionValue}
pub use Rattle.vx_base.specs.Description.{Description}
pub use Rattle.vx_base.specs.Image.{ImageValue, IsImage, pixel_at, image_from}
pub use Rattle.vx_base.specs.Object.{
  ConvolutionObject,
  ImageObject,
  IsObject,
  LutObject,
  ObjectValue,
  ThresholdObject,
}
pub use Rattle.vx_base.specs.Outputs.{image_of_one, node_image}
pub use Rattle.vx_base.specs.Pixelwise.{
  formula_of_one,
  formula_of_two,
  from_one,
  from_two,
  lookup_result,
  threshold_result,
}
pub use Rattle.vx_base.specs.Rectangle.{Rectangle, has_pixel, meet_of}
pub use Rattle.vx_base.specs.Sample.{clamp}
pub use Rattle.vx_base.specs.Window.{
  convolution_result,
  formula_of_nine,
  from_matrix,
  from_nine,
  holds,
  sample_or_border,
  matrix_product,
  clamp_coordinate,
  nine_around,
  row_product,
  window_valid,
}
pub use Rattle.vx_base.specs.declared.border.Border.{Border}
pub use Rattle.vx_base.specs.declared.border.Border.TheVariants.{Constant, Replicate, Undefined}
pub use Rattle.vx_base.specs.declared.format.Format.{Format}
pub use Rattle.vx_base.specs.declared.function.Function.{Function}
pub use Rattle.vx_base.specs.declared.function.Function.TheVariants.{ConvertDepth, NotBits}
pub use Rattle.vx_base.specs.declared.node.Node.{Node}
pub use Rattle.vx_base.specs.declared.output.Output.{Output}
