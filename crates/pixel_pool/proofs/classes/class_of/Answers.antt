use Rattle.std.proofs.Common.{sym, arith}
use Rattle.pixel_pool.proofs.ClassLemmas.{capacity_zero, capacity_one}
use Rattle.pixel_pool.proofs.classes.class_of.Goals as goal

pub loop-class-init : goal.loop-class-init
loop-class-init c = record {
  known = omega arith;
  next = capacity_one;
  within = sym capacity_zero;
  enough = omega arith;
}
