use Rattle.std.proofs.Common.{◌≡◌, ℕ, ◌∷◌, [], ◌++◌, length, get_or, ap, ◌∙◌, arith}
use Rattle.std.proofs.Math.Seq.{map-set_same}
use Rattle.std.proofs.lemmas.List.{length_push, length-set}
use Rattle.graph_run.proofs.Common.{Format, samples_format}
use Rattle.graph_steps.specs.Planes.{PlaneValue}
use Rattle.graph_run.specs.Blocks.{lent_size}
use Rattle.graph_run.proofs.BlockLemmas.{planes_more, rest_more}
use Rattle.graph_run.proofs.slot_planes.add_slots.Goals as goal

pub loop-k-preserved : goal.loop-k-preserved
loop-k-preserved c =
    let k = c.loop-k.k in
    let inv = c.loop-k.invariant in
    let b = c.index-blocks-k.result in
    let planes = c.loop-k.planes.items in
    let p : PlaneValue = c.of_block.result in
    let pushed : c.push_reserved.new.self.items ≡ planes ++ p ∷ [] =
    c.push_reserved.ensures.items in
    record {
      room =
          omega (
            arith,
            ap length pushed,
            length_push planes p,
            inv.room,
            c.push_reserved.ensures.capacity,
            length-set c.loop-k.blocks k c.lift.new.self,
          );
      capacity = c.push_reserved.ensures.capacity ∙ inv.capacity;
      sizes =
          planes_more c.args.blocks.now c.loop-k.blocks planes c.push_reserved.new.self.items p
          k b inv.sizes inv.rest (omega (arith, c.loop-k-test.true)) c.loop-k.auto.blocks
          (grind (arith, c.of_block.ensures, c.lift.ensures.format, c.lift.ensures.value))
          pushed;
      rest = rest_more c.args.blocks.now c.loop-k.blocks k c.lift.new.self inv.rest;
      lent_sizes = map-set_same lent_size c.loop-k.blocks k c.lift.new.self b
          (ap (λ (f : Format). (f, c.lift.new.self.count)) c.lift.ensures.left_format ∙ ap
          (λ (n : ℕ). (samples_format (get_or c.loop-k.blocks k b).samples, n))
          c.lift.ensures.count)
          ∙ inv.lent_sizes;
    }
