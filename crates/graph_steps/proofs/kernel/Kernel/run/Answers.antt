use Rattle.std.proofs.Common.{refl, rules}
use Rattle.graph_steps.proofs.Common.{S16, U8, held_image}
use Rattle.graph_steps.proofs.KernelLaws.{held_rows, written_by_function}
use Rattle.graph_steps.proofs.kernel.Kernel.run.Goals as goal

pub returns-in-AndBits-Image : goal.returns-in-AndBits-Image
returns-in-AndBits-Image c =
    written_by_function c.args.self.now _ _ _ U8 c.args.output.now _ c.in-AndBits-Image.is-0
    refl c.in-AndBits-Image.is-1 (search rules) c.bit_and.ensures

pub returns-in-OrBits-Image : goal.returns-in-OrBits-Image
returns-in-OrBits-Image c =
    written_by_function c.args.self.now _ _ _ U8 c.args.output.now _ c.in-OrBits-Image.is-0 refl
    c.in-OrBits-Image.is-1 (search rules) c.bit_or.ensures

pub returns-in-XorBits-Image : goal.returns-in-XorBits-Image
returns-in-XorBits-Image c =
    written_by_function c.args.self.now _ _ _ U8 c.args.output.now _ c.in-XorBits-Image.is-0
    refl c.in-XorBits-Image.is-1 (search rules) c.bit_xor.ensures

pub returns-in-Add-Image : goal.returns-in-Add-Image
returns-in-Add-Image c =
    written_by_function c.args.self.now _ _ _ _ c.args.output.now _ c.in-Add-Image.is-0 refl
    c.in-Add-Image.is-1 refl c.add.ensures

pub returns-in-Subtract-Image : goal.returns-in-Subtract-Image
returns-in-Subtract-Image c =
    written_by_function c.args.self.now _ _ _ _ c.args.output.now _ c.in-Subtract-Image.is-0
    refl c.in-Subtract-Image.is-1 refl c.subtract.ensures

pub returns-in-Multiply-Image : goal.returns-in-Multiply-Image
returns-in-Multiply-Image c =
    written_by_function c.args.self.now _ _ _ _ c.args.output.now _ c.in-Multiply-Image.is-0
    refl c.in-Multiply-Image.is-1 refl c.multiply.ensures

pub returns-in-AbsoluteDifference-Image : goal.returns-in-AbsoluteDifference-Image
returns-in-AbsoluteDifference-Image c =
    written_by_function c.args.self.now _ _ _ _ c.args.output.now _
    c.in-AbsoluteDifference-Image.is-0 refl c.in-AbsoluteDifference-Image.is-1 refl
    c.absolute_difference.ensures

pub returns-in-MinPixel-Image : goal.returns-in-MinPixel-Image
returns-in-MinPixel-Image c =
    written_by_function c.args.self.now _ _ _ _ c.args.output.now _ c.in-MinPixel-Image.is-0
    refl c.in-MinPixel-Image.is-1 refl c.minimum.ensures

pub returns-in-MaxPixel-Image : goal.returns-in-MaxPixel-Image
returns-in-MaxPixel-Image c =
    written_by_function c.args.self.now _ _ _ _ c.args.output.now _ c.in-MaxPixel-Image.is-0
    refl c.in-MaxPixel-Image.is-1 refl c.maximum.ensures

pub returns-in-First : goal.returns-in-First
returns-in-First c =
    written_by_function c.args.self.now _ _ _ S16 c.args.output.now _ c.in-Sobel-Nothing.is-0
    c.in-First.is c.in-Sobel-Nothing.is-1 (search rules) c.sobel3.ensures.x

pub returns-in-Second : goal.returns-in-Second
returns-in-Second c =
    written_by_function c.args.self.now _ _ _ S16 c.args.output.now _ c.in-Sobel-Nothing.is-0
    c.in-Second.is c.in-Sobel-Nothing.is-1 (search rules) c.sobel3-in-Second.ensures.y

pub returns-in-Accumulate-Nothing : goal.returns-in-Accumulate-Nothing
returns-in-Accumulate-Nothing c =
    written_by_function c.args.self.now _ _ _ S16 c.args.output.now _
    c.in-Accumulate-Nothing.is-0 refl c.in-Accumulate-Nothing.is-1 (search rules)
    (c.accumulate.ensures (held_image c.args.output.now)
    (held_rows c.args.output.now c.requires.target))

pub returns-in-AccumulateSquare-Nothing : goal.returns-in-AccumulateSquare-Nothing
returns-in-AccumulateSquare-Nothing c =
    written_by_function c.args.self.now _ _ _ S16 c.args.output.now _
    c.in-AccumulateSquare-Nothing.is-0 refl c.in-AccumulateSquare-Nothing.is-1 (search rules)
    (c.accumulate_square.ensures (held_image c.args.output.now)
    (held_rows c.args.output.now c.requires.target))
