-- The names that several proofs cite, passed on from one place. Declares nothing.
pub use Rattle.image_core.proofs.BandLaws.{in_format, written_for}
pub use Rattle.vx_base.proofs.TableLaws.{zip2_of_runs}
pub use Rattle.vx_base.specs.Image.{ImageValue, pixel_at}
pub use Rattle.vx_base.specs.Pixelwise.{from_one}
pub use Rattle.vx_base.specs.declared.format.Format.TheVariants.{S16, U8}
pub use Rattle.vx_base.specs.declared.threshold.ThresholdKind.TheVariants.{Binary, Range}
