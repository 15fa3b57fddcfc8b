use Rattle.std.proofs.Common.{◌≡◌, ◌≢◌, ℕ, ◌<◌, inr, length, get_or, ap, ◌∙◌, arith}
use Rattle.std.proofs.Math.Seq.{map-set_same}
use Rattle.std.proofs.lemmas.List.{drop-set-lt, length-map, get_or-set_other, take_all}
use Rattle.graph_run.proofs.Common.{Format, samples_format}
use Rattle.graph_steps.specs.Planes.{PlaneValue, no_plane}
use Rattle.graph_steps.specs.Steps.{capacities, capacity}
use Rattle.graph_run.specs.Blocks.{lent_size, samples_size}
use Rattle.graph_run.proofs.BlockLemmas.{back_more, returned_fits, returned_size}
use Rattle.graph_run.proofs.slot_planes.return_blocks.Goals as goal

pub put-requires-clause-format : goal.put-requires-clause-format
put-requires-clause-format c =
    let k = c.loop-k.k in
    let inv = c.loop-k.invariant in
    let below : k < length c.args.blocks.now =
    omega (arith, c.loop-k-test.true, c.loop-k.auto.blocks) in
    let given : samples_size c.give.result ≡ capacity (capacities c.args.planes.now) k =
    returned_size c.args.planes.now c.loop-k.planes k c.give.result c.index-planes-k.result
    c.give.ensures.format c.give.ensures.value
    (omega (arith, below, c.loop-k.auto.planes, c.requires.count)) (inv.planes k (omega arith))
    c.loop-k.auto.planes in
    let fits =
    returned_fits c.args.blocks.now c.loop-k.blocks (capacities c.args.planes.now) k
    c.give.result c.index-blocks-k.result given c.requires.sizes inv.lent_sizes below in
    ap (λ (r : Format × ℕ). r.0) fits

pub put-requires-clause-size : goal.put-requires-clause-size
put-requires-clause-size c =
    let k = c.loop-k.k in
    let inv = c.loop-k.invariant in
    let below : k < length c.args.blocks.now =
    omega (arith, c.loop-k-test.true, c.loop-k.auto.blocks) in
    let given : samples_size c.give.result ≡ capacity (capacities c.args.planes.now) k =
    returned_size c.args.planes.now c.loop-k.planes k c.give.result c.index-planes-k.result
    c.give.ensures.format c.give.ensures.value
    (omega (arith, below, c.loop-k.auto.planes, c.requires.count)) (inv.planes k (omega arith))
    c.loop-k.auto.planes in
    let fits =
    returned_fits c.args.blocks.now c.loop-k.blocks (capacities c.args.planes.now) k
    c.give.result c.index-blocks-k.result given c.requires.sizes inv.lent_sizes below in
    inr (ap (λ (r : Format × ℕ). r.1) fits)

pub loop-k-preserved : goal.loop-k-preserved
loop-k-preserved c =
    let k = c.loop-k.k in
    let inv = c.loop-k.invariant in
    let below : k < length c.args.blocks.now =
    omega (arith, c.loop-k-test.true, c.loop-k.auto.blocks) in
    let given : samples_size c.give.result ≡ capacity (capacities c.args.planes.now) k =
    returned_size c.args.planes.now c.loop-k.planes k c.give.result c.index-planes-k.result
    c.give.ensures.format c.give.ensures.value
    (omega (arith, below, c.loop-k.auto.planes, c.requires.count)) (inv.planes k (omega arith))
    c.loop-k.auto.planes in
    let fits =
    returned_fits c.args.blocks.now c.loop-k.blocks (capacities c.args.planes.now) k
    c.give.result c.index-blocks-k.result given c.requires.sizes inv.lent_sizes below in
    let b = c.index-blocks-k.result in
    let same : lent_size c.put.new.self ≡ lent_size (get_or c.loop-k.blocks k b) =
    ap (λ (f : Format). (f, c.put.new.self.count))
    (ap samples_format c.put.ensures.samples ∙ ap (λ (r : Format × ℕ). r.0) fits)
    ∙ ap (λ (n : ℕ). (samples_format (get_or c.loop-k.blocks k b).samples, n))
    c.put.ensures.count in
    record {
      back =
          back_more (capacities c.args.planes.now) c.loop-k.blocks k c.put.new.self inv.back
          (ap samples_size c.put.ensures.samples ∙ given)
          (omega (arith, below, c.loop-k.auto.blocks))
          (omega (
            arith,
            below,
            c.requires.count,
            length-map c.args.planes.now
                (λ (p : PlaneValue). let r : Format × ℕ = (p.format, length p.samples) in r),
          ));
      lent_sizes = map-set_same lent_size c.loop-k.blocks k c.put.new.self b same ∙ inv.lent_sizes;
      planes = λ j later.
          let ne : j ≢ k = omega (arith, later) in
          get_or-set_other c.loop-k.planes k j c.give.new.self no_plane ne
          ∙ inv.planes j (omega (arith, later));
      others =
          drop-set-lt (length c.args.blocks.now) c.loop-k.planes k c.give.new.self (omega arith)
          ∙ inv.others;
    }

pub returns-clause-back : goal.returns-clause-back
returns-clause-back c = grind (arith, take_all, c.loop-k.invariant.back)
