use Rattle.std.proofs.Common.{sym, arith}
use Rattle.object_table.proofs.KeptLemmas.{charge-removed}
use Rattle.object_table.proofs.EntryBlockLemmas.{blocks-removed}
use Rattle.object_table.proofs.table.graphs.end_entry.Goals as goal

pub overflow_sub-result : goal.overflow_sub-result
overflow_sub-result c =
    omega (
      arith,
      charge-removed c.args.entries.now.entries c.args.name c.in-Some.entry
          (sym c.in-Some.ensures.value),
      c.bytes-bytes.ensures.value,
      c.requires.charge,
    )

pub end-requires : goal.end-requires
end-requires c format =
    omega (
      arith,
      blocks-removed c.args.entries.now.entries c.args.name c.in-Some.entry
          (sym c.in-Some.ensures.value) format,
      c.requires.owns format,
    )
