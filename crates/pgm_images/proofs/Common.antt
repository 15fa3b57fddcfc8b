-- The names that several proofs cite, passed on from one place. Declares nothing.
pub use Rattle.pgm_images.specs.Grammar.{AreSpaced, IsBlank, IsBlanks, IsHeader, IsSpaced, Encodes}
pub use Rattle.pgm_images.specs.Header.{
  HeaderValue,
  format_up_to,
  header_description,
  is_maxval,
  take_header,
}
pub use Rattle.pgm_images.specs.Marks.{
  FindNumbers,
  BeginsWith,
  TakesNumber,
  FindsNumber,
  begins_comment,
  begins_digit,
  begins_gap,
  digits_after,
  ends,
  is_space,
  past_blanks,
  take_next,
  then_take,
}
pub use Rattle.pgm_images.specs.Raster.{
  LeftToFill,
  PlainUpTo,
  all_up_to,
  nothing_left,
  numbers_in,
  samples_up_to,
  take_count,
  take_long_sample,
  take_raw,
  take_short_sample,
}
pub use Rattle.pgm_images.specs.Reading.{
  description_in,
  fault,
  fault_of,
  is_headed,
  picture_after,
  picture_under,
  picture_with,
  read_result,
}
pub use Rattle.pgm_images.specs.Writing.{pgm_text, written_header}
pub use Rattle.pgm_images.specs.declared.fault.PgmFault.{PgmFault}
pub use Rattle.pgm_images.specs.declared.fault.PgmFault.TheVariants.{InvalidFormat, InvalidValue}
pub use Rattle.pgm_images.specs.declared.header.Encoding.{Encoding}
pub use Rattle.pgm_images.specs.declared.header.Encoding.TheVariants.{Plain, Raw}
pub use Rattle.std.proofs.Math.ListN.{set}
pub use Rattle.std.proofs.lemmas.Bool.{and_parts, cases_Bool, cases_eq, cases_lt}
pub use Rattle.std.proofs.lemmas.Bool.Decides.{nat_tests}
pub use Rattle.std.proofs.lemmas.Grind.{common_steps}
pub use Rattle.std.proofs.lemmas.Int.{ints}
pub use Rattle.std.proofs.lemmas.List.{length-map, map-append}
pub use Rattle.std.proofs.lemmas.List.Elements.{All-cons, All-head, All-nil, All-tail}
pub use Rattle.std.specs.Char.{is_ascii_digit}
pub use Rattle.std.specs.Option.{option_map}
pub use Rattle.std.specs.Str.{all_ascii_digits}
pub use Rattle.std.specs.Str.Parse.{digits_value}
pub use Rattle.vx_base.specs.Description.{Description, is_side, sample_count}
pub use Rattle.vx_base.specs.Image.{description_of}
pub use Rattle.vx_base.specs.Picture.{IsPicture, PictureValue}
pub use Rattle.vx_base.specs.Sample.{IsSample}
pub use Rattle.vx_base.specs.declared.format.Format.TheVariants.{U8}
pub use lib.Count.{count_trailing_zeros}
