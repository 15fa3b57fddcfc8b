use Rattle.std.proofs.Common.{◌≡◌, take}
use Rattle.object_table.proofs.Common.{aged_under, with_objects, graph_under}
use Rattle.object_table.proofs.table.Table.age_registered.Given as goal

abbrev pub invariant-loop-k : goal.invariant-loop-k
invariant-loop-k l =
    l.self
    ≡ with_objects l.fn.self
    (aged_under (take l.k (graph_under l.fn.self.objects l.graph).delays) l.fn.self.objects)
