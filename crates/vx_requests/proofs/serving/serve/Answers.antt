use Rattle.std.proofs.Common.{arith, rules, refl, ◌∙◌}
use Rattle.vx_requests.proofs.Common.{err_from_is_err_and}
use Rattle.vx_requests.proofs.Progress.{started, went_on, broke_off, left_there}
use Rattle.vx_requests.proofs.ReadCounts.{KeepsCount-more}
use Rattle.vx_requests.proofs.serving.serve.Goals as goal

pub frames-init : goal.frames-init
frames-init g c = record {
  progress = started _ _ _ _;
  limits = refl;
  counted = search rules;
  few = omega arith;
  refused = omega arith;
  write_failed = refl;
}

pub frames-preserved : goal.frames-preserved
frames-preserved g c =
    let before = c.frames.invariant in
    let turn = rw (c.in-Some.is, before.limits) at c.in_ok-code.ensures.turn in
    let on = went_on _ _ _ _ _ _ _ _ _ _ _ _ c.in-Some.code before.progress turn in
    let counted = c.count.ensures in
    record {
      progress = rw (counted.requests, counted.refused) on;
      limits = c.in_ok-code.ensures.limits ∙ before.limits;
      counted = KeepsCount-more _ _ _ _ _ _ _ 0 before.counted c.in_ok-code.ensures.counted;
      few = omega (arith, before.few, counted.requests, c.in_ok-code.ensures.once);
      refused = search rules;
      write_failed = omega (arith, before.write_failed, c.in_ok-code.ensures.write_failed);
    }

pub returns-in_err-code-clause-session : goal.returns-in_err-code-clause-session
returns-in_err-code-clause-session g c =
    let p = err_from_is_err_and c.from_residual.result c.from_residual.ensures.1 in
    let turn = rw c.frames.invariant.limits at c.in_err-code.ensures.turn in
    rw (p.1, p.2)
    (left_there _ _ _ _ _ _ _ _ _ (search rules)
    (broke_off _ _ _ _ _ _ _ _ _ _ _ _ _ c.frames.invariant.progress turn))
