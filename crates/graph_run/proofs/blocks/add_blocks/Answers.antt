use Rattle.std.proofs.Common.{◌≡◌, ℕ, [], ◌∷◌, ◌++◌, length, map, ap, get_or, refl, sym, ◌∙◌, arith}
use Rattle.graph_run.proofs.Common.{Format, U8, samples_format, values}
use Rattle.std.proofs.lemmas.List.{length_push}
use Rattle.pixel_pool.specs.Block.{BlockValue}
use Rattle.graph_run.specs.Blocks.{block_size, lent_size}
use Rattle.graph_run.proofs.BlockLemmas.{lends_more, capacities_left, sizes_more, taken_adds}
use Rattle.graph_run.proofs.blocks.add_blocks.Goals as goal

pub loop-k-preserved : goal.loop-k-preserved
loop-k-preserved c =
    let blocks = c.loop-k.blocks.items in
    let b : BlockValue = c.in_ok-block.block in
    let capacities = c.args.capacities.now in
    let k = c.loop-k.k in
    let d : Format × ℕ = (U8, 0) in
    let r = get_or capacities k d in
    let pool = c.loop-k.pool in
    let taken = c.in_ok-block.ensures in
    let size : block_size b ≡ r =
    ap (λ (f : Format). (f, length (values b.samples))) taken.format
    ∙ ap (λ (n : ℕ). (r.0, n)) taken.count in
    let pushed : c.push_reserved.new.self.items ≡ blocks ++ b ∷ [] =
    c.push_reserved.ensures.items in
    record {
      room =
          omega (
            arith,
            ap length pushed,
            length_push blocks b,
            c.loop-k.invariant.room,
            c.push_reserved.ensures.capacity,
            c.loop-k-test.true,
          );
      capacities =
          ap (map block_size) pushed
          ∙ sizes_more block_size capacities blocks b k d c.loop-k-test.true size
          c.loop-k.invariant.capacities;
      lent_sizes =
          ap (map lent_size) pushed
          ∙ sizes_more lent_size capacities blocks b k d c.loop-k-test.true
          (ap (λ (n : ℕ). (samples_format b.samples, n)) (sym taken.whole) ∙ size)
          c.loop-k.invariant.lent_sizes;
      lends =
          λ f. grind (
            arith,
            pushed,
            lends_more blocks b r.0 taken.format c.args.pool.now pool
                c.take.new.self f taken.lends.lends (c.loop-k.invariant.lends f),
          );
      adds = λ f.
          omega (
            arith,
            taken_adds pool c.take.new.self r.0 taken.lends.lends taken.lends.most
                taken.lends.other_free f,
            capacities_left capacities k r d c.loop-k-test.true refl f,
            c.loop-k.invariant.adds f,
          );
    }
