-- A convolution matrix with its columns reversed, as pairs of coefficients.
use Rattle.std.specs.Prelude.{ℕ, ℤ, pos, ◌+◌, ◌-◌, ◌*◌, ◌/◌, ◌%◌, List, if◌then◌else◌, nat_lt}
use Rattle.std.specs.List.{flat_map, range_with_len}
use Rattle.vx_base.specs.Convolution.{ConvolutionValue, coefficient}
use Rattle.lane_rows.specs.Pairs.{alternation}

-- coefficient c of row l with the columns reversed, 0 after the last column; the rows are not
-- reversed here
abbrev pub rotated_coefficient : ConvolutionValue → ℕ → ℕ → ℤ
rotated_coefficient m l c =
    if nat_lt c m.columns then coefficient m l (m.columns - 1 - c) else pos 0

-- pair k of the coefficients, repeated eight times; each row has five pairs
abbrev pub rotated_pair : ConvolutionValue → ℕ → List ℤ
rotated_pair m k =
    alternation 8 (rotated_coefficient m (k / 5) (k % 5 * 2))
    (rotated_coefficient m (k / 5) (k % 5 * 2 + 1))

-- the tables of all rows, one after another; a row's table holds its five pairs
abbrev pub rotated_tables : ConvolutionValue → List ℤ
rotated_tables m = flat_map (rotated_pair m) (range_with_len 0 (m.rows * 5))
