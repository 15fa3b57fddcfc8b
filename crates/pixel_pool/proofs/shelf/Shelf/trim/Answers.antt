use Rattle.std.proofs.Common.{length-set, rules, arith}
use Rattle.pixel_pool.specs.Free.{IsTrim}
use Rattle.pixel_pool.proofs.TrimLemmas.{largest_first, no_more}
use Rattle.pixel_pool.proofs.shelf.Shelf.trim.Goals as goal

pub loop-self-preserved : goal.loop-self-preserved
loop-self-preserved g c =
    let old = c.args.self.now.free in
    let mid = c.loop-self.self.free in
    let drops = c.drop_largest.ensures.largest in
    let exceeds : IsTrim mid → ⊥ = search rules in
    record {
      lent = omega arith;
      fewer =
          λ class. omega
          (arith, c.loop-self.invariant.fewer class, c.drop_largest.ensures.fewer class);
      classes = rw (drops.dropped, length-set) c.loop-self.invariant.classes;
      largest = largest_first old mid _ drops c.loop-self.invariant.largest;
      no_more =
          no_more old mid _ c.drop_largest.ensures.classes c.loop-self.invariant.classes drops
          c.loop-self.invariant.largest exceeds;
      kept = λ trim. absurd (exceeds (rw (c.loop-self.invariant.kept trim) trim));
    }
