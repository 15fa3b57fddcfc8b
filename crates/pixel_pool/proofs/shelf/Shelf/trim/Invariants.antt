use Rattle.std.proofs.Common.{◌≡◌, length}
use Rattle.pixel_pool.specs.Free.{IsTrim, IsFewer, LosesLargestFirst, LosesNoMore, free_count}
use Rattle.pixel_pool.proofs.shelf.Shelf.trim.Given as goal

abbrev pub invariant-loop-self : goal.invariant-loop-self
invariant-loop-self g l =
    record {
      lent : l.self.lent ≡ l.initial.self.lent;
      fewer : IsFewer l.self.free l.initial.self.free;
      classes : length l.self.free ≡ length l.initial.self.free;
      largest : LosesLargestFirst l.initial.self.free l.self.free;
      no_more : LosesNoMore l.initial.self.free l.self.free;
      kept : IsTrim l.initial.self.free → l.self ≡ l.initial.self;
    }

abbrev pub decreases-loop-self : goal.decreases-loop-self
decreases-loop-self g l = free_count l.self.free
