mod ImageLaws
mod RowLaws
