use Rattle.std.proofs.Common.{◌≡◌, ℕ, pos, replicate, arith, rules}
use Rattle.object_table.proofs.Common.{Description, new_image, image_over, values, Rectangle, sample_count, whole_rectangle}
use Rattle.vx_base.specs.declared.samples.Samples.{Samples}
use Rattle.vx_base.proofs.ZeroLaws.{samples-new_image}
use Rattle.object_table.proofs.stored.Stored.new.Goals as goal

-- samples that are all 0 make a new image
zeros_are_new : (d : Description) (area : Rectangle) (samples : Samples) (count : ℕ)
    → area ≡ whole_rectangle d.width d.height
    → count ≡ sample_count d
    → values samples ≡ replicate count (pos 0)
    → image_over d area (values samples) ≡ new_image d.width d.height d.format
zeros_are_new d area samples count all long zero =
    grind (arith, samples-new_image d.width d.height d.format)

-- (that the samples are 0 is searched for, not named: a body that takes what is not cleared is
-- refused for the fact that it lacks)
pub returns-clause-value : goal.returns-clause-value
returns-clause-value c =
    zeros_are_new c.args.desc c.whole.result c.in_ok-block.block.samples c.sample_count.result
    c.whole.ensures c.sample_count.ensures.value (search rules)
