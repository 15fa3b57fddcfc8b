use Rattle.std.proofs.Common.{◌∙◌, inr, ap, arith, rules}
use Rattle.graph_run.proofs.Common.{Description, second_object}
use Rattle.image_core.specs.Bands.{all_rows}
use Rattle.graph_steps.specs.Steps.{CanMake}
use Rattle.graph_steps.proofs.KernelLaws.{all_size, all_written}
use Rattle.graph_steps.specs.Planes.{PlaneValue}
use Rattle.graph_run.proofs.OnceLemmas.{desc_left, output_can, image_back, plane_whole}
use Rattle.graph_run.proofs.once.write_to.Goals as goal

pub write-requires-clause-can : goal.write-requires-clause-can
write-requires-clause-can c =
    grind (
      arith,
      output_can c.args.table.now c.args.node.now c.args.which c.args.output c.requires.runs
          c.requires.kind c.take_image-plane.new.table c.take_image-plane.ensures.left
          c.take_image-plane.result c.take_image-plane.ensures.plane,
    )

pub put_image-requires-clause-desc : goal.put_image-requires-clause-desc
put_image-requires-clause-desc c =
    let taken = c.take_image-plane in
    ap (λ (p : PlaneValue). p.desc) c.write.ensures
    ∙ desc_left c.args.table.now c.args.node.now c.args.which c.args.output c.requires.runs
    c.requires.kind taken.new.table taken.ensures.left taken.result taken.ensures.plane

pub put_image-requires-clause-size : goal.put_image-requires-clause-size
put_image-requires-clause-size c =
    let t = c.args.table.now in
    let n = c.args.node.now in
    let taken = c.take_image-plane in
    let p = taken.result in
    let whole =
    plane_whole t n c.args.which c.args.output c.requires.runs c.requires.kind taken.new.table
    taken.ensures.left p taken.ensures.plane in
    let held =
    output_can t n c.args.which c.args.output c.requires.runs c.requires.kind taken.new.table
    taken.ensures.left p taken.ensures.plane in
    let can :
    CanMake c.of_lent-step.result c.image-first.result (second_object c.second_of-second.result)
    p.desc =
    search rules in
    let size =
    all_size c.of_lent-step.result c.image-first.result
    (second_object c.second_of-second.result) p whole can c.write.new.self c.whole-rows.result
    (c.whole-rows.ensures ∙ ap (λ (d : Description). all_rows d.height) c.desc.ensures)
    c.write.ensures in
    inr (grind (arith, size, c.write.ensures))

pub returns : goal.returns
returns c =
    let t = c.args.table.now in
    let n = c.args.node.now in
    let taken = c.take_image-plane in
    let p = taken.result in
    let whole =
    plane_whole t n c.args.which c.args.output c.requires.runs c.requires.kind taken.new.table
    taken.ensures.left p taken.ensures.plane in
    let held =
    output_can t n c.args.which c.args.output c.requires.runs c.requires.kind taken.new.table
    taken.ensures.left p taken.ensures.plane in
    let can :
    CanMake c.of_lent-step.result c.image-first.result (second_object c.second_of-second.result)
    p.desc =
    search rules in
    let made =
    all_written c.of_lent-step.result c.image-first.result
    (second_object c.second_of-second.result) p whole can c.write.new.self c.whole-rows.result
    (c.whole-rows.ensures ∙ ap (λ (d : Description). all_rows d.height) c.desc.ensures)
    c.write.ensures in
    image_back t n c.args.which c.args.output c.requires.runs c.requires.kind taken.new.table
    taken.ensures.left p taken.ensures.plane c.write.new.self (search rules)
    c.put_image.new.table c.put_image.ensures
