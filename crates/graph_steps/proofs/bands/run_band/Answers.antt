use Rattle.std.proofs.Common.{◌∷◌, ◌∙◌, ap, refl, subst, sym}
use Rattle.graph_steps.proofs.Common.{CanStep, Task, Write, after_step, images_after}
use Rattle.graph_steps.proofs.ReduceLaws.{task_can, task_done}
use Rattle.graph_steps.proofs.bands.run_band.Goals as goal

pub rows_for-rows-requires : goal.rows_for-rows-requires
rows_for-rows-requires g c =
    let can = c.loop-task.invariant.can in
    let is = c.in-Some.ensures.cases.0 ∙ ap (λ (x : Task). x ∷ c.in-Some.later.now) c.in-Write.is in
    record { fits = can.3.fits; output = (task_can is can.3 can.4).output }

pub run_step-requires : goal.run_step-requires
run_step-requires g c =
    let can = c.loop-task.invariant.can in
    let is = c.in-Some.ensures.cases.0 ∙ ap (λ (x : Task). x ∷ c.in-Some.later.now) c.in-Write.is in
    subst
    (λ rows. CanStep (g.T.Tables.tables c.args.tables.now) c.in-Write.step rows c.loop-task.planes)
    (sym c.rows_for-rows.ensures) (task_can is can.3 can.4)

pub reduce-requires : goal.reduce-requires
reduce-requires g c =
    let can = c.loop-task.invariant.can in
    let is =
    c.in-Some.ensures.cases.0 ∙ ap (λ (x : Task). x ∷ c.in-Some.later.now) c.in-Reduce.is in
    let now = task_can is can.3 can.4 in
    record { fits = can.3.fits; input = now.0; reads = now.1; can = now.2 }

pub loop-task-preserved-in-Write : goal.loop-task-preserved-in-Write
loop-task-preserved-in-Write g c =
    let inv = c.loop-task.invariant in
    let is = c.in-Some.ensures.cases.0 ∙ ap (λ (x : Task). x ∷ c.in-Some.later.now) c.in-Write.is in
    let ran =
    c.run_step.ensures
    ∙ ap
    (λ rows. after_step (g.T.Tables.tables c.args.tables.now) c.in-Write.step rows
    c.loop-task.planes)
    c.rows_for-rows.ensures in
    let done = task_done is inv.can.3 inv.can.4 ran refl inv.same inv.tallied in
    record {
      can = (
        inv.can.0,
        inv.can.1,
        images_after (g.T.Tables.tables c.args.tables.now)
            (Write c.in-Write.step) inv.can.2,
        done.0,
        done.1,
      );
      same = done.2;
      tallied = done.3;
    }

pub loop-task-preserved : goal.loop-task-preserved
loop-task-preserved g c =
    let inv = c.loop-task.invariant in
    let is =
    c.in-Some.ensures.cases.0 ∙ ap (λ (x : Task). x ∷ c.in-Some.later.now) c.in-Reduce.is in
    let done = task_done is inv.can.3 inv.can.4 refl c.reduce.ensures inv.same inv.tallied in
    record {
      can = (inv.can.0, inv.can.1, inv.can.2, done.0, done.1);
      same = done.2;
      tallied = done.3;
    }
