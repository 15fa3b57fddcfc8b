-- Convolution matrices. OpenVX 1.3, "Object: Convolution"; the permitted sizes and exponents are
-- this project's.
use Rattle.std.specs.Prelude.{ℕ, ℤ, pos, ◌+◌, ◌*◌, ◌==◌, nat_le, Bool, ◌&&◌, ◌||◌, IsTrue, List, length, All, slice_index_or}
use Rattle.vx_base.specs.declared.format.Format.TheVariants.{S16}
use Rattle.vx_base.specs.Sample.{IsSample}

-- a convolution matrix, with its coefficients in row-major order. Each sum of products is divided
-- by 2^exponent.
pub record ConvolutionValue : Type 0 where
  pub columns : ℕ
  pub rows : ℕ
  pub exponent : ℕ
  pub coefficients : List ℤ

-- whether a matrix may have this number of columns or rows
abbrev pub is_odd_side : ℕ → Bool
is_odd_side n = (n == 3 || n == 5) || (n == 7 || n == 9)

-- whether a matrix may have these numbers of columns and rows, this exponent and this number of
-- coefficients
abbrev pub is_convolution : ℕ → ℕ → ℕ → ℕ → Bool
is_convolution columns rows exponent count =
    (is_odd_side columns && is_odd_side rows) && (nat_le exponent 31 && count == rows * columns)

-- the coefficient at a row and a column
abbrev pub coefficient : ConvolutionValue → ℕ → ℕ → ℤ
coefficient c row column = slice_index_or c.coefficients (row * c.columns + column) (pos 0)

-- a matrix of permitted size and exponent, with one S16 coefficient for each element
pub record IsConvolution (c : ConvolutionValue) : Type 0 where
  pub shape : IsTrue (is_convolution c.columns c.rows c.exponent (length c.coefficients))
  pub each : All (IsSample S16) c.coefficients
