-- Small nodes and operands for the examples.
use Rattle.std.specs.Prelude.{ℕ, ◌==◌, nat_lt, if◌then◌else◌, Option, Some, None}
use Rattle.vx_base.specs.declared.format.Format.{Format}
use Rattle.vx_base.specs.declared.format.Format.TheVariants.{U8, S16}
use Rattle.vx_base.specs.declared.policy.Policy.{Policy}
use Rattle.vx_base.specs.declared.policy.Policy.TheVariants.{Wrap, Saturate}
use Rattle.vx_base.specs.declared.border.Border.TheVariants.{Undefined}
use Rattle.vx_base.specs.declared.function.Function.{Function}
use Rattle.vx_base.specs.declared.function.Function.TheVariants.{AndBits, NotBits, Add, ConvertDepth, Accumulate}
use Rattle.vx_base.specs.declared.node.Node.{Node}
use Rattle.vx_base.specs.Reference.{Reference, reference_to}
use Rattle.graph_verify.specs.declared.operand.Operand.{Operand}
use Rattle.graph_verify.specs.declared.operand.Operand.TheVariants.{Image, Virtual}

-- a node with these inputs and one output
abbrev pub node_to : Function → Policy → ℕ → Option Reference → ℕ → Node
node_to function policy input second output =
    record {
      function = function;
      border = Undefined;
      policy = policy;
      amount = 0;
      in1 = reference_to input;
      in2 = second;
      out1 = Some (reference_to output);
      out2 = None;
    }

-- Bitwise Not of an image; in this and the next four definitions the numbers are the names of the
-- operands
abbrev pub not_to : ℕ → ℕ → Node
not_to input output = node_to NotBits Wrap input None output

-- Bitwise And of two images
abbrev pub and_to : ℕ → ℕ → ℕ → Node
and_to input second output = node_to AndBits Wrap input (Some (reference_to second)) output

-- Add of two images, with Wrap
abbrev pub adds : ℕ → ℕ → ℕ → Node
adds input second output = node_to Add Wrap input (Some (reference_to second)) output

-- Convert Bit Depth, with Saturate and without a shift
abbrev pub convert_to : ℕ → ℕ → Node
convert_to input output = node_to ConvertDepth Saturate input None output

-- Accumulate of an image
abbrev pub accumulate_to : ℕ → ℕ → Node
accumulate_to input output = node_to Accumulate Wrap input None output

-- an image of this width, height and format
abbrev pub image_operand : ℕ → ℕ → Format → Operand
image_operand width height format =
    Image (record { width = width; height = height; format = format })

-- a virtual image whose size is open, and whose format may be declared
abbrev pub virtual_of : Option Format → Operand
virtual_of format = Virtual (record { width = None; height = None; format = format })

-- names 1 to 3 are U8 images of one pixel, 4 is an S16 image of one pixel, 5 is a U8 image of two
-- pixels; the names above 5 are virtual images
abbrev pub example_operand : Reference → Operand
example_operand cell =
    if cell.name == 4 then image_operand 1 1 S16
    else (if cell.name == 5 then image_operand 2 1 U8
    else (if nat_lt cell.name 6 then image_operand 1 1 U8 else virtual_of None))

-- name 2 is this operand; all other names are U8 images of this size
abbrev pub operand_except : Operand → ℕ → ℕ → Reference → Operand
operand_except second width height cell =
    if cell.name == 2 then second else image_operand width height U8
