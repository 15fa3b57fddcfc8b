use Rattle.std.proofs.Common.{◌≡◌, ◌∷◌, [], ◌++◌, ap, ◌∙◌, arith, length}
use Rattle.std.proofs.lemmas.List.{length_push}
use Rattle.graph_run.proofs.Common.{plan_view, slot_index}
use Rattle.graph_run.specs.Blocks.{band_plan, samples_for}
use Rattle.graph_run.proofs.BlockLemmas.{place_more, slots_more}
use Rattle.graph_run.proofs.blocks.add_capacities.Goals as goal

pub loop-k-preserved : goal.loop-k-preserved
loop-k-preserved c =
    let capacities = c.loop-k.capacities.items in
    let format = c.args.format in
    let k = c.loop-k._k in
    let n = c.samples_for-samples.result in
    let p = plan_view c.args.plan.now in
    let q = band_plan c.args.size c.args.tasks.now p in
    let pushed : c.push_reserved.new.self.items ≡ capacities ++ (format, n) ∷ [] =
    c.push_reserved.ensures.items in
    let place : c.len.result ≡ slot_index p format k =
    omega (
      arith,
      c.len.ensures,
      c.loop-k.capacities.ok.0,
      c.loop-k.invariant.count,
      place_more p format k,
    ) in
    let count : n ≡ q.slot_samples format k =
    c.samples_for-samples.ensures ∙ ap (λ n. samples_for c.args.size n c.args.tasks.now) place in
    record {
      room =
          omega (
            arith,
            ap length pushed,
            length_push capacities (format, n),
            c.loop-k.invariant.room,
            c.push_reserved.ensures.capacity,
          );
      capacities =
          pushed
          ∙ slots_more format (q.slot_samples format) k n c.args.capacities.now.items capacities
          c.loop-k.invariant.capacities count;
      count =
          omega
          (arith, ap length pushed, length_push capacities (format, n), c.loop-k.invariant.count);
    }
