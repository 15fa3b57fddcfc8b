use Rattle.std.proofs.Common.{◌≡◌, take, map}
use Rattle.object_table.proofs.Common.{flat_map, Balances, charge_of, entry_object, nodes_at, used_less, kept_entries, used_names}
use Rattle.object_table.proofs.table.graphs.end_all_uses.Given as goal

abbrev pub invariant-loop-k : goal.invariant-loop-k
invariant-loop-k l = record {
  left_over :
      l.entries.entries
      ≡ kept_entries
      (used_less (flat_map used_names (take l.k (nodes_at l.graph l.fn.entries.entries)))
      l.fn.entries.entries);
  charge : l.left ≡ charge_of (map entry_object l.entries.entries);
  balances :
      Balances l.fn.pool l.pool (map entry_object l.fn.entries.entries)
      (map entry_object l.entries.entries);
}
