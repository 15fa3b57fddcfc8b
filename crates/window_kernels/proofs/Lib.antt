mod Common
mod Computed
mod ProductLaws
mod MatrixLaws
mod RowLaws
mod WindowLaws
