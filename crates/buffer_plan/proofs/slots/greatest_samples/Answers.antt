use Rattle.std.proofs.Common.{◌∙◌, length, length-set, set, get_or, ap, arith}
use Rattle.buffer_plan.proofs.Common.{common_steps, sample_count}
use Rattle.std.proofs.lemmas.List.{get_or_default}
use Rattle.buffer_plan.proofs.SampleLemmas.{has_slot, samples_grow, samples_stay}
use Rattle.buffer_plan.proofs.slots.greatest_samples.Goals as goal
use Rattle.buffer_plan.proofs.slots.greatest_samples.Goals.{then-index-more, else-index-more}

pub index-requires : goal.index-requires
index-requires c =
    let there =
    has_slot c.args.placed.now c.loop-placed.placed-index c.placed-item.result
    c.loop-placed-test.true c.placed-item.is c.loop-placed.samples.items _
    c.loop-placed.invariant.count c.requires in
    grind (arith, common_steps)

pub index_mut-requires : goal.index_mut-requires
index_mut-requires c =
    let there =
    has_slot c.args.placed.now c.loop-placed.placed-index c.placed-item.result
    c.loop-placed-test.true c.placed-item.is c.loop-placed.samples.items _
    c.loop-placed.invariant.count c.requires in
    grind (arith, common_steps)

pub loop-placed-preserved : goal.loop-placed-preserved
loop-placed-preserved c =
    let q = c.placed-item.result in
    let samples = c.loop-placed.samples.items in
    let was = c.loop-placed.invariant in
    let n = c.sample_count-more.ensures.value in
    let there =
    has_slot c.args.placed.now c.loop-placed.placed-index q c.loop-placed-test.true
    c.placed-item.is samples c.args.count was.count c.requires in
    let at = c.index.ensures ∙ get_or_default samples q.slot c.index.result.now 0 there in
    elim c.if-index-more.branch [
      | then-index-more w ↦ (
          let now = ap (λ v. v.items) w.samples-is ∙ ap (set samples q.slot) n in
          record {
            count =
                ap length now
                ∙ length-set samples q.slot (sample_count q.life.image.desc)
                ∙ was.count;
            greatest = (λ k. ap (λ xs. get_or xs k 0) now
                ∙ samples_grow c.args.placed.now c.loop-placed.placed-index q
                c.loop-placed-test.true c.placed-item.is samples there was.greatest
                (omega (arith, n, at, w.if-index-more.true)) k);
          })
      | else-index-more w ↦ (
          let now = ap (λ v. v.items) w.samples-is in
          record {
            count = ap length now ∙ was.count;
            greatest = (λ k. ap (λ xs. get_or xs k 0) now
                ∙ samples_stay c.args.placed.now c.loop-placed.placed-index q
                c.loop-placed-test.true c.placed-item.is samples was.greatest
                (omega (arith, n, at, w.if-index-more.false)) k);
          })
    ]
