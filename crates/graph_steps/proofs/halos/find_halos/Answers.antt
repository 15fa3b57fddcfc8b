use Rattle.std.proofs.Common.{List, ◌≡◌, ◌+◌, ◌-◌, ◌<◌, ◌∷◌, ◌∙◌, sym, subst, arith, ap, length, drop, set}
use Rattle.std.proofs.lemmas.List.Elements.{All-set}
use Rattle.std.proofs.Math.Seq.{map-set_same}
use Rattle.graph_steps.proofs.Common.{AreEnough, Task, length-set}
use Rattle.graph_steps.specs.Halos.{AreNeeded, Cover, HasOnly, NamesBelow, without_halo}
use Rattle.graph_steps.proofs.HaloLaws.{from_one_before, names_same}
use Rattle.graph_steps.proofs.halos.find_halos.Goals as goal

pub find_task_halo-requires : goal.find_task_halo-requires
find_task_halo-requires c =
    let inv = c.loop-k.invariant in
    let below : length c.loop-k.tasks - 1 - c.loop-k.k < length c.loop-k.tasks =
    omega (arith, c.loop-k-test.true, c.loop-k.auto.tasks) in
    subst (λ n. NamesBelow n c.index-tasks-at.result) (sym (c.loop-k.auto.needs ∙ c.fill.auto.self))
    (subst (NamesBelow (length c.args.needs.now)) (sym c.index-tasks-at.is)
    (inv.names (length c.loop-k.tasks - 1 - c.loop-k.k) c.index-tasks-at.result below))

pub loop-k-preserved : goal.loop-k-preserved
loop-k-preserved c =
    let inv = c.loop-k.invariant in
    let tasks = c.loop-k.tasks in
    let k = c.loop-k.k in
    let f = c.find_task_halo.ensures in
    let new = c.find_task_halo.result in
    let below : k < length tasks = omega (arith, c.loop-k-test.true, c.loop-k.auto.tasks) in
    let place = length tasks - 1 - k in
    let long : length (set tasks place new) ≡ length tasks = length-set tasks place new in
    let later = drop (length tasks - k) tasks in
    let e : drop (length (set tasks place new) - (k + 1)) (set tasks place new) ≡ new ∷ later =
    ap (λ n. drop (n - (k + 1)) (set tasks place new)) long ∙ from_one_before tasks k new below in
    let more = f.more later inv.enough inv.cover in
    let only = f.only later inv.needed inv.only in
    let was = inv.names place c.index-tasks-at.result (omega (arith, below)) in
    record {
      enough = subst (AreEnough c.args.high) (sym e) more.0;
      needed = subst (AreNeeded c.args.high) (sym e) only.0;
      cover =
          subst (λ (l : List Task). Cover c.args.high l c.find_task_halo.new.needs) (sym e) more.1;
      only =
          subst (λ (l : List Task). HasOnly c.args.high l c.find_task_halo.new.needs) (sym e)
          only.1;
      names = All-set (NamesBelow (length c.args.needs.now)) tasks place new
          (names_same (length c.args.needs.now) c.index-tasks-at.result new (sym f.same)
          (subst (NamesBelow (length c.args.needs.now)) (sym c.index-tasks-at.is) was))
          inv.names;
      same =
          map-set_same without_halo tasks place new c.index-tasks-at.result
          (f.same ∙ ap without_halo c.index-tasks-at.is)
          ∙ inv.same;
    }
