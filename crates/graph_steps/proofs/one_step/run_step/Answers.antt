use Rattle.std.proofs.Common.{◌≡◌, ◌∙◌, ap, inl, inr, refl, subst, sym}
use Rattle.graph_steps.proofs.Common.{ImageValue, IsInRows, read_images, rows_image, with_rows}
use Rattle.graph_steps.proofs.KernelLaws.{can_sum}
use Rattle.graph_steps.proofs.StepLaws.{after_is, by_kernel, by_scan, can_read, can_write, image_read, plane_read}
use Rattle.graph_steps.proofs.one_step.run_step.Goals as goal
use Rattle.graph_steps.proofs.one_step.run_step.Goals.{then-is_integral, else-is_integral}

pub take_output-output-requires : goal.take_output-output-requires
take_output-output-requires g c = c.requires.output

pub image-first-requires : goal.image-first-requires
image-first-requires g c =
    let s = c.args.step.now in
    let w =
    can_write c.requires c.take_output-output.result c.take_output-output.ensures.value
    c.take_output-output.new.planes _ c.take_output-output.ensures.left in
    let reads = w.reads s.first (inl refl) in
    rw (plane_read _ s.first _ reads.0 c.index-inputs-step.is) reads.1

pub second_input-second-requires : goal.second_input-second-requires
second_input-second-requires g c =
    λ k e.
    (can_write c.requires c.take_output-output.result c.take_output-output.ensures.value
    c.take_output-output.new.planes _ c.take_output-output.ensures.left).reads
    k (inr e)

pub write_sums-requires : goal.write_sums-requires
write_sums-requires g c =
    let s = c.args.step.now in
    let w =
    can_write c.requires c.take_output-output.result c.take_output-output.ensures.value
    c.take_output-output.new.planes _ c.take_output-output.ensures.left in
    let others = c.take_output-output.new.planes in
    let first =
    image_read others s.first _ _ (w.reads s.first (inl refl)).0 c.index-inputs-step.is
    c.image-first.ensures in
    let can =
    can_sum s (read_images others s.first) _ c.take_output-output.result.desc
    (sym c.is_integral.ensures ∙ c.if-is_integral.true) w.makes in
    record {
      input = ap (λ (i : ImageValue). i.format) first ∙ can.0;
      format = w.output.format ∙ can.1;
      width = ap (λ (i : ImageValue). i.width) first ∙ can.2;
      rows =
          subst (λ h. IsInRows h c.args.rows)
          (sym (ap (λ (i : ImageValue). i.height) first ∙ can.3)) w.output.within;
      top = w.output.top;
      room = w.output.room;
    }

pub write-requires : goal.write-requires
write-requires g c =
    let s = c.args.step.now in
    let w =
    can_write c.requires c.take_output-output.result c.take_output-output.ensures.value
    c.take_output-output.new.planes _ c.take_output-output.ensures.left in
    let others = c.take_output-output.new.planes in
    let first =
    image_read others s.first _ _ (w.reads s.first (inl refl)).0 c.index-inputs-step.is
    c.image-first.ensures in
    record {
      format = w.output.format;
      can =
          can_read s _ _ _ _ c.take_output-output.result.desc first
          c.second_input-second.ensures w.makes;
      rows = w.output.within;
      within = w.output.valid;
      top = w.output.top;
      room = w.output.room;
    }

pub returns : goal.returns
returns g c =
    let tables = g.T.Tables.tables c.args.tables.now in
    let s = c.args.step.now in
    let w =
    can_write c.requires c.take_output-output.result c.take_output-output.ensures.value
    c.take_output-output.new.planes _ c.take_output-output.ensures.left in
    let others = c.take_output-output.new.planes in
    let first =
    image_read others s.first _ _ (w.reads s.first (inl refl)).0 c.index-inputs-step.is
    c.image-first.ensures in
    let out = c.take_output-output.result in
    let written :
    c.if-is_integral.output
    ≡ with_rows c.args.rows (rows_image tables s c.args.rows (read_images others) out) out =
    elim c.if-is_integral.branch [
      | then-is_integral b ↦
          b.output-is ∙ b.write_sums.ensures
          ∙ ap (λ i. with_rows c.args.rows i out)
          (by_scan tables s c.args.rows out (read_images others) c.image-first.result
          (sym c.is_integral.ensures ∙ b.if-is_integral.true) first)
      | else-is_integral b ↦
          b.output-is ∙ b.write.ensures
          ∙ ap (λ i. with_rows c.args.rows i out)
          (by_kernel tables s c.args.rows out (read_images others) c.image-first.result _
          (sym c.is_integral.ensures ∙ b.if-is_integral.false) first
          b.second_input-second.ensures)
    ] in
    after_is c.requires c.take_output-output.result c.take_output-output.ensures.value others _
    c.take_output-output.ensures.left _ written
