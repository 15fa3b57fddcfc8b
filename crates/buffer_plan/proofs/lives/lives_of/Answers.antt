use Rattle.std.proofs.Common.{◌+◌, take, sym, ◌∙◌, ap, subst}
use Rattle.buffer_plan.proofs.Common.{AreLives, of_format}
use Rattle.buffer_plan.proofs.LiveLemmas.{lives_more, lives_same}
use Rattle.buffer_plan.proofs.lives.lives_of.Goals as goal
use Rattle.buffer_plan.proofs.lives.lives_of.Goals.{then-is_of+in_ok-push, else-is_of}

pub loop-image-preserved : goal.loop-image-preserved
loop-image-preserved c = elim c.if-is_of.branch [
  | then-is_of+in_ok-push w ↦
      lives_more c.args.steps.now c.args.format c.args.images.now c.loop-image.image-index
      c.image-item.result c.loop-image.lives.items
      c.loop-image-test.true c.image-item.is c.loop-image.invariant c.if-is_of.lives.items
      w.life_of.result (sym c.is_of.ensures ∙ w.if-is_of.true)
      w.life_of.ensures.image w.life_of.ensures.life
      (ap (λ v. v.items) w.lives-is ∙ w.in_ok-push.ensures.items)
  | else-is_of w ↦
      subst
      (λ lives. AreLives c.args.steps.now
      (of_format c.args.format (take (c.loop-image.image-index + 1) c.args.images.now)) lives)
      (sym (ap (λ v. v.items) w.lives-is))
      (lives_same c.args.steps.now c.args.format c.args.images.now c.loop-image.image-index
      c.image-item.result c.loop-image.lives.items
      c.loop-image-test.true c.image-item.is c.loop-image.invariant
      (sym c.is_of.ensures ∙ w.if-is_of.false))
]
