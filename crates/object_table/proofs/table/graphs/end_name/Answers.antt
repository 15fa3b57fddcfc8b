use Rattle.std.proofs.Common.{false, arith, sym}
use Rattle.object_table.proofs.KeptLemmas.{charge-written}
use Rattle.object_table.proofs.EntryBlockLemmas.{blocks-written}
use Rattle.object_table.proofs.table.graphs.end_name.Goals as goal

pub returns-then-entry-gt0-clause-charge : goal.returns-then-entry-gt0-clause-charge
returns-then-entry-gt0-clause-charge c =
    rw (c.get_mut.follows.holds (record c.in-Some.entry.now { live = false })).0
    (omega (
      arith,
      c.requires.charge,
      charge-written c.args.entries.now.entries c.args.name _
          (record c.in-Some.entry.now { live = false }) (sym c.in-Some.ensures.value),
    ))

pub end_entry-requires-clause-charge : goal.end_entry-requires-clause-charge
end_entry-requires-clause-charge c =
    rw (c.get_mut.follows.holds (record c.in-Some.entry.now { live = false })).0
    (omega (
      arith,
      c.requires.charge,
      charge-written c.args.entries.now.entries c.args.name _
          (record c.in-Some.entry.now { live = false }) (sym c.in-Some.ensures.value),
    ))

pub returns-then-entry-gt0-clause-balances : goal.returns-then-entry-gt0-clause-balances
returns-then-entry-gt0-clause-balances c format =
    rw (c.get_mut.follows.holds (record c.in-Some.entry.now { live = false })).0
    (omega (
      arith,
      blocks-written c.args.entries.now.entries c.args.name _
          (record c.in-Some.entry.now { live = false }) (sym c.in-Some.ensures.value) format,
    ))

pub end_entry-requires-clause-owns : goal.end_entry-requires-clause-owns
end_entry-requires-clause-owns c format =
    rw (c.get_mut.follows.holds (record c.in-Some.entry.now { live = false })).0
    (omega (
      arith,
      c.requires.owns format,
      blocks-written c.args.entries.now.entries c.args.name _
          (record c.in-Some.entry.now { live = false }) (sym c.in-Some.ensures.value) format,
    ))

pub returns-clause-balances : goal.returns-clause-balances
returns-clause-balances c format =
    omega (
      arith,
      rw (c.get_mut.follows.holds (record c.in-Some.entry.now { live = false })).0 at
          (c.end_entry.ensures.balances format),
      blocks-written c.args.entries.now.entries c.args.name _
          (record c.in-Some.entry.now { live = false }) (sym c.in-Some.ensures.value) format,
    )
