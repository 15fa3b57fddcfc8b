-- Columns of four pixels, and the results of nodes on them.
use Rattle.std.specs.Prelude.{ℕ, ℤ, pos, List, [], ◌∷◌, Option, Some, None}
use Rattle.vx_base.specs.declared.format.Format.{Format}
use Rattle.vx_base.specs.declared.format.Format.TheVariants.{U8}
use Rattle.vx_base.specs.declared.policy.Policy.TheVariants.{Wrap}
use Rattle.vx_base.specs.declared.border.Border.TheVariants.{Replicate}
use Rattle.vx_base.specs.declared.function.Function.{Function}
use Rattle.vx_base.specs.declared.node.Node.{Node}
use Rattle.vx_base.specs.declared.output.Output.TheVariants.{First}
use Rattle.vx_base.specs.Reference.{reference_to}
use Rattle.vx_base.specs.Convolution.{ConvolutionValue}
use Rattle.vx_base.specs.Image.{ImageValue}
use Rattle.vx_base.specs.Object.{ObjectValue}
use Rattle.vx_base.specs.Outputs.{node_image}
use Rattle.vx_base.specs.Rectangle.{whole_rectangle}

-- an image of one column with these samples, from top to bottom
abbrev pub column : ℕ → ℕ → ℕ → ℕ → ImageValue
column a b c d = record {
  width = 1;
  height = 4;
  format = U8;
  valid = whole_rectangle 1 4;
  samples = pos a ∷ pos b ∷ pos c ∷ pos d ∷ [];
}

-- a matrix of 3 columns and 5 rows whose only non-zero coefficient is a 1 in the middle of its top
-- row. Convolution turns the matrix by 180 degrees, so each output sample is the input sample two
-- rows below.
abbrev pub upper_row : ConvolutionValue
upper_row =
    record {
      columns = 3;
      rows = 5;
      exponent = 0;
      coefficients =
          pos 0
          ∷ pos 1
          ∷ pos 0
          ∷ pos 0
          ∷ pos 0
          ∷ pos 0
          ∷ pos 0
          ∷ pos 0
          ∷ pos 0
          ∷ pos 0
          ∷ pos 0
          ∷ pos 0
          ∷ pos 0
          ∷ pos 0
          ∷ pos 0
          ∷ [];
    }

-- a node of the function, with one input and a replicated border
abbrev pub example_node : Function → Node
example_node function =
    record {
      function = function;
      border = Replicate;
      policy = Wrap;
      amount = 0;
      in1 = reference_to 1;
      in2 = None;
      out1 = Some (reference_to 2);
      out2 = None;
    }

-- the output samples of the function's example node, given an image and an optional second operand
abbrev pub node_samples : Function → Format → ImageValue → Option ObjectValue → List ℤ
node_samples function format image second =
    (node_image (example_node function) First format image second).samples
