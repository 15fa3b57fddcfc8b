use Rattle.std.proofs.Common.{◌≡◌, ℕ, ◌∙◌, length, sym, ap, arith, subst, ◌==◌, if◌then◌else◌, Some, Option, take_all}
use Rattle.buffer_plan.proofs.Common.{common_steps, In, Placed, IsReached, slot_capacity}
use Rattle.buffer_plan.proofs.PlacingLemmas.{placing_more, reached_in_all}
use Rattle.buffer_plan.proofs.slots.place.Goals as goal

pub loop-life-preserved : goal.loop-life-preserved
loop-life-preserved c =
    let q : Placed = record { life = c.life-item.result; slot = c.in_ok-slot.slot } in
    let n : c.len-count.result ≡ length c.loop-life.ends.items =
    c.len-count.ensures ∙ grind (arith, common_steps) in
    placing_more c.args.lives.now c.loop-life.life-index c.loop-life.ends.items
    c.loop-life.placed.items c.loop-life.peak_step q
    c.loop-life-test.true c.life-item.is c.loop-life.invariant
    c.take_slot.new.ends.items c.push.new.self.items c.peak_after-peak_step.result
    c.in_ok-slot.ensures c.in_ok-push.ensures.items
    (c.peak_after-peak_step.ensures ∙ ap {B = Option ℕ}
    (λ k. if c.in_ok-slot.slot == k then Some c.life-item.result.first else c.loop-life.peak_step)
    n)

pub greatest_samples-requires : goal.greatest_samples-requires
greatest_samples-requires c p h =
    let n : c.len.result ≡ length c.loop-life.ends.items =
    c.len.ensures ∙ grind (arith, common_steps) in
    let b = c.loop-life.invariant.below p (subst (In p) c.deref.ensures.value h) in
    omega arith

pub returns : goal.returns
returns c =
    let n : length c.in_ok-samples.samples.items ≡ length c.loop-life.ends.items =
    c.in_ok-samples.ensures.count ∙ c.len.ensures ∙ grind (arith, common_steps) in
    let all = take_all c.loop-life.life-index c.args.lives.now c.loop-life-test.false in
    let was = c.loop-life.invariant in
    record {
      each = was.each ∙ all;
      below = (λ q i. let b = was.below q i in omega arith);
      apart = (λ rising. (was.fine rising).apart);
      samples =
          (λ k. c.in_ok-samples.ensures.greatest k
          ∙ ap (λ ps. slot_capacity ps k) c.deref.ensures.value);
      none = (λ e. n ∙ was.none e);
      reached = (λ rising step e. subst (λ count. IsReached c.args.lives.now count step) (sym n)
          (reached_in_all c.args.lives.now c.loop-life.life-index c.loop-life.ends.items
          c.loop-life.placed.items c.loop-life.peak_step step c.loop-life-test.false rising was
          e));
    }
