mod Common
mod RowLaws
mod UpdateLaws
mod PieceLaws
pub mod HeldRows
pub mod SizeLaws
pub mod BandLaws
