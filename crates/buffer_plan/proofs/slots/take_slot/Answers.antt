use Rattle.std.proofs.Common.{◌≡◌, ℕ, ◌+◌, [], ◌∷◌, ◌∙◌, length, position, Some, None, sym, ap, refl, inl, inr, get_or, ltb, arith, length-append, ltb-true, ltb-false}
use Rattle.buffer_plan.proofs.Common.{common_steps, In-at}
use Rattle.std.proofs.lemmas.List.Quantifiers.{position-Some}
use Rattle.graph_verify.proofs.MemberLemmas.{position-None}
use Rattle.buffer_plan.proofs.slots.take_slot.Goals as goal

pub returns-in-Some : goal.returns-in-Some
returns-in-Some c =
    let p = λ (end : ℕ). ltb end c.args.life.now.first in
    let found : position p c.args.ends.now.items ≡ Some c.in-Some.slot =
    sym (c.in-Some.ensures ∙ ap (position p) c.deref.ensures.value) in
    let r = position-Some p c.args.ends.now.items c.in-Some.slot 0 found in
    inl (
      r.0,
      ltb-true (get_or c.args.ends.now.items c.in-Some.slot 0) c.args.life.now.first r.1,
      refl,
    )

pub returns : goal.returns
returns c =
    let p = λ (end : ℕ). ltb end c.args.life.now.first in
    let found : position p c.args.ends.now.items ≡ None =
    sym (c.in_default.ensures ∙ ap (position p) c.deref.ensures.value) in
    let more : length c.push.new.self.items ≡ length c.args.ends.now.items + 1 =
    ap length c.in_ok-push.ensures.items
    ∙ length-append c.args.ends.now.items (c.args.life.now.last ∷ []) in
    let count : c.len.result ≡ length c.push.new.self.items =
    c.len.ensures ∙ grind (arith, common_steps) in
    inr (
      omega arith,
      c.in_ok-push.ensures.items,
      (λ k h. ltb-false (get_or c.args.ends.now.items k 0) c.args.life.now.first
          (position-None p c.args.ends.now.items found (get_or c.args.ends.now.items k 0)
          (In-at c.args.ends.now.items k 0 h))),
    )
