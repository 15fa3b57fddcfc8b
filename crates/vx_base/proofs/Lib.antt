mod Common
pub mod TableLaws
pub mod SampleLaws
pub mod RectangleLaws
pub mod FormatLaws
pub mod ImageLaws
pub mod PixelLaws
pub mod ZeroLaws
pub mod ResultLaws
pub mod PictureLaws
pub mod WindowLaws
pub mod SumLaws
pub mod NodeLaws
