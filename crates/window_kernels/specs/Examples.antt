-- The images and matrices of the worked examples.
use Rattle.std.specs.Prelude.{ℕ, ℤ, pos, negsuc, [], ◌∷◌}
use Rattle.vx_base.specs.declared.format.Format.{Format}
use Rattle.vx_base.specs.declared.format.Format.TheVariants.{U8}
use Rattle.vx_base.specs.Rectangle.{whole_rectangle}
use Rattle.vx_base.specs.Image.{ImageValue}
use Rattle.vx_base.specs.Convolution.{ConvolutionValue}

-- the row 0 20 30 0, which is valid except at its ends
abbrev pub row_of_four : ImageValue
row_of_four =
    record {
      width = 4;
      height = 1;
      format = U8;
      valid = record { x0 = 1; y0 = 0; x1 = 3; y1 = 1 };
      samples = pos 0 ∷ pos 20 ∷ pos 30 ∷ pos 0 ∷ [];
    }

-- the rows 10 20 and 30 40
abbrev pub two_by_two : ImageValue
two_by_two = record {
  width = 2;
  height = 2;
  format = U8;
  valid = whole_rectangle 2 2;
  samples = pos 10 ∷ pos 20 ∷ pos 30 ∷ pos 40 ∷ [];
}

-- the rows 1 2 3, 4 5 6 and 7 8 9
abbrev pub three_by_three : ImageValue
three_by_three =
    record {
      width = 3;
      height = 3;
      format = U8;
      valid = whole_rectangle 3 3;
      samples = pos 1 ∷ pos 2 ∷ pos 3 ∷ pos 4 ∷ pos 5 ∷ pos 6 ∷ pos 7 ∷ pos 8 ∷ pos 9 ∷ [];
    }

-- an image of one pixel, with sample 1
abbrev pub single : ImageValue
single = record {
  width = 1;
  height = 1;
  format = U8;
  valid = whole_rectangle 1 1;
  samples = pos 1 ∷ [];
}

-- a 3x3 image with sample z at its centre, the only valid pixel
abbrev pub at_centre : Format → ℤ → ImageValue
at_centre format z =
    record {
      width = 3;
      height = 3;
      format = format;
      valid = record { x0 = 1; y0 = 1; x1 = 2; y1 = 2 };
      samples = pos 0 ∷ pos 0 ∷ pos 0 ∷ pos 0 ∷ z ∷ pos 0 ∷ pos 0 ∷ pos 0 ∷ pos 0 ∷ [];
    }

-- a 3x3 matrix with 1 in its upper left corner, 0 elsewhere
abbrev pub upper_left : ConvolutionValue
upper_left = record {
  columns = 3;
  rows = 3;
  exponent = 0;
  coefficients = pos 1 ∷ pos 0 ∷ pos 0 ∷ pos 0 ∷ pos 0 ∷ pos 0 ∷ pos 0 ∷ pos 0 ∷ pos 0 ∷ [];
}

-- a 3x3 matrix with -3 at its centre, 0 elsewhere
abbrev pub minus_three : (exponent : ℕ) → ConvolutionValue
minus_three exponent =
    record {
      columns = 3;
      rows = 3;
      exponent = exponent;
      coefficients = pos 0 ∷ pos 0 ∷ pos 0 ∷ pos 0 ∷ negsuc 2 ∷ pos 0 ∷ pos 0 ∷ pos 0 ∷ pos 0 ∷ [];
    }
