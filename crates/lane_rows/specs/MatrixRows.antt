-- The sums of a matrix's coefficients times the samples under it.
use Rattle.std.specs.Prelude.{ℕ, ℤ}
use Rattle.lane_rows.specs.declared.matrix_rows.MatrixRows.{MatrixRows}
use Rattle.lane_rows.specs.Pairs.{sum_of_rows}

-- the sum over all rows of a matrix, at an index
abbrev pub matrix_sum : MatrixRows → ℕ → ℤ
matrix_sum m p = sum_of_rows m.rows.now m.line m.tables.now m.pairs m.count p
