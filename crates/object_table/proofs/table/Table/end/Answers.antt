use Rattle.std.proofs.Common.{arith, ◌≡◌, ℕ, ◌∷◌, ap}
use Rattle.object_table.proofs.Common.{Entry}
use Rattle.std.proofs.lemmas.Map.Iter.{rest_more}
use Rattle.object_table.proofs.EntryBlockLemmas.{entry_blocks, blocks-cons}
use Rattle.object_table.proofs.table.Table.end.Goals as goal

pub end-requires : goal.end-requires
end-requires c =
    let e : ℕ × Entry = (c.in-Some.field-0-0, c.in-Some.entry) in
    let rest : c.loop-entry.entry-iterator ≡ e ∷ c.next.new.self =
    rest_more (λ p. p) c.loop-entry.entry-iterator c.next.new.self c.next.result e c.in-Some.is
    c.next.ensures.steps in
    λ format. omega (
      arith,
      c.requires format,
      c.loop-entry.invariant format,
      blocks-cons e c.next.new.self format,
      ap (λ l. entry_blocks l format) rest,
    )

pub loop-entry-preserved : goal.loop-entry-preserved
loop-entry-preserved c =
    let e : ℕ × Entry = (c.in-Some.field-0-0, c.in-Some.entry) in
    let rest : c.loop-entry.entry-iterator ≡ e ∷ c.next.new.self =
    rest_more (λ p. p) c.loop-entry.entry-iterator c.next.new.self c.next.result e c.in-Some.is
    c.next.ensures.steps in
    λ format. omega (
      arith,
      c.loop-entry.invariant format,
      c.end.ensures format,
      blocks-cons e c.next.new.self format,
      ap (λ l. entry_blocks l format) rest,
    )
