use Rattle.std.proofs.Common.{◌≡◌, map, take}
use Rattle.graph_verify.proofs.verified.numbers_of.Given as goal

abbrev pub invariant-loop-linked : goal.invariant-loop-linked
invariant-loop-linked l = l.numbers.items ≡ map (λ k. k.number) (take l.linked-index l.linked)
