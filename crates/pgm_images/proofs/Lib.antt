mod Common
pub mod RasterLemmas
pub mod ReadingLemmas
pub mod DescriptionLemmas
pub mod WritingLemmas
pub mod DigitLemmas
pub mod WrittenBack
pub mod GapLemmas
pub mod ShortLemmas
pub mod BlockLemmas
pub mod SpacedLemmas
pub mod StandsLemmas
pub mod PictureLaws
