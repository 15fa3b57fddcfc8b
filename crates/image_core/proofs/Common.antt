-- The names that several proofs cite, passed on from one place. Declares nothing.
pub use Rattle.image_core.specs.Bands.{IsInRows, all_rows, has_row}
pub use Rattle.image_core.specs.Fits.{HaveSameSize}
pub use Rattle.image_core.specs.Rows.{row_of, sample_from}
pub use Rattle.image_core.specs.Target.{target_image}
pub use Rattle.image_core.specs.declared.band.Band.{Band}
pub use Rattle.std.proofs.lemmas.Bool.Decides.{nat_tests}
pub use Rattle.std.proofs.lemmas.List.{length-map, map-append}
pub use Rattle.vx_base.proofs.TableLaws.{
  band-same,
  band_written,
  length-band,
  length_part,
  part_of_row,
  row_fits,
  row_part,
}
pub use Rattle.vx_base.specs.Description.{Description}
pub use Rattle.vx_base.specs.Image.{
  ImageValue,
  IsImage,
  band,
  image_over,
  pixel_at,
  run,
  zero_outside,
}
pub use Rattle.vx_base.specs.Rectangle.{Rectangle}
pub use borrow.Rule.Slice.PartMut.{put_mid}
