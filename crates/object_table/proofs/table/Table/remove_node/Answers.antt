use Rattle.std.proofs.Common.{arith, ◌≡◌, ℕ, List, map, refl, sym, ap, subst, ◌∙◌, All, IsTrue}
use Rattle.object_table.proofs.Common.{set_value, is_at, nat_cmp, err_from_is_err_and, Format, Node, without_node, GraphObject, object_bytes, object_kind, Entry, object_blocks, blocks_in, Context, charge_of, with_objects, still_held, graph_value, entry_object, used_less, is_kept, kept_entries, nodes_in, used_names, Kind}
use Rattle.object_table.proofs.EntryLemmas.{kind_under, shown_name}
use Rattle.object_table.proofs.EntryBlockLemmas.{blocks-written, graph_blocks}
use Rattle.object_table.proofs.GraphLemmas.{IsTable-written, AreLeft, unchanged, charged-after, held-after, live_there, removed-left}
use Rattle.object_table.proofs.table.Table.remove_node.Goals as goal
use Rattle.object_table.proofs.table.Table.remove_node.Goals.{In_ok-node}

pub invariant_of-self : goal.invariant_of-self
invariant_of-self c =
    let same = c.in_err-node.ensures.err in
    IsTable-written _ _ _ _ _ c.remove_node.new.self _ c.self.invariant
    (sym c.in-Some.ensures.value) (c.get_mut.follows.holds _).0 (ap nodes_in same)
    (ap object_bytes same)

pub returns-in_err-node-clause-err : goal.returns-in_err-node-clause-err
returns-in_err-node-clause-err c =
    let new = record c.in-Some.entry.now { object = c.remove_node.new.self } in
    let p = err_from_is_err_and c.from_residual.result c.from_residual.ensures.1 in
    rw p.1
    (unchanged _ _ _ c.self.view_is c.args.graph _ (sym c.in-Some.ensures.value) _ _
    c.in_err-node.ensures.err (c.get_mut.follows.holds new).0)

pub end_uses-self-inside-requires-clause-held : goal.end_uses-self-inside-requires-clause-held
end_uses-self-inside-requires-clause-held c =
    let new = record c.in-Some.entry.now { object = c.remove_node.new.self } in
    subst (λ (l : List (ℕ × Entry)). All (λ e. IsTrue (is_kept e)) l)
    (sym (c.get_mut.follows.holds new).0)
    (held-after _ _ _ c.self.invariant c.args.graph _ new (sym c.in-Some.ensures.value) refl refl)

pub end_uses-self-inside-requires-clause-charge : goal.end_uses-self-inside-requires-clause-charge
end_uses-self-inside-requires-clause-charge c =
    let new = record c.in-Some.entry.now { object = c.remove_node.new.self } in
    charged-after _ _ _ c.self.invariant c.args.graph _ new (sym c.in-Some.ensures.value) refl
    c.remove_node.ensures.bytes
    ∙ ap (λ (l : List (ℕ × Entry)). charge_of (map entry_object l))
    (sym (c.get_mut.follows.holds new).0)

-- the graph's entry, without the node
abbrev new : In_ok-node → Entry
new c = let old : Entry = c.in-Some.entry.now in record old { object = c.remove_node.new.self }

abbrev changed : In_ok-node → List (ℕ × Entry)
changed c = set_value (is_at (nat_cmp c.args.graph)) c.self.inside.entries.entries (new c)

-- and what is used then
abbrev less : In_ok-node → List (ℕ × Entry)
less c = used_less (used_names c.in_ok-node.node) (changed c)

of_graph : (c : In_ok-node) → object_kind c.in-Some.entry.now.object ≡ Kind.Graph
of_graph c =
    kind_under _ _ _ c.self.view_is _ c.args.graph _ (sym c.in-Some.ensures.value) c.requires.graph

are_left : (c : In_ok-node) → AreLeft c.self.inside.next (changed c) (less c)
are_left c =
    let old = c.in-Some.entry.now in
    let found = sym c.in-Some.ensures.value in
    removed-left _ _ _ c.self.invariant c.args.graph old found
    (live_there _ _ _ _ c.self.view_is c.self.invariant c.args.graph old found c.requires.live)
    (less c)
    c.remove_node.new.self c.remove_node.ensures.bytes (of_graph c)
    c.in_ok-node.node c.args.number c.remove_node.ensures.graph c.in_ok-node.ensures.removed
    c.in_ok-node.ensures.ok refl

left_is : (c : In_ok-node) (node : Node) (written left : List (ℕ × Entry))
    → left ≡ kept_entries (used_less (used_names node) written)
    → node ≡ c.in_ok-node.node
    → written ≡ changed c
    → left ≡ kept_entries (less c)
left_is c node written left is node_is written_is = cc

same_blocks : (c : In_ok-node) (format : Format)
    → object_blocks c.remove_node.new.self format ≡ object_blocks c.in-Some.entry.now.object format
same_blocks c =
    graph_blocks c.in-Some.entry.now.object c.remove_node.new.self
    (without_node (graph_value c.in-Some.entry.now.object) c.args.number) (of_graph c)
    c.in_ok-node.ensures.ok

pub invariant_of-self-2 : goal.invariant_of-self-2
invariant_of-self-2 c =
    let at = (goal.at.invariant_of-self-2 c).In_ok-node in
    let is =
    left_is at _ _ _ c.end_uses-self-inside.ensures.entries c.node.ensures.value
    (c.get_mut.follows.holds (new at)).0 in
    rw (c.end_uses-self-inside.ensures.charge, is) (are_left at).table

pub returns-clause-ok : goal.returns-clause-ok
returns-clause-ok c =
    let at = (goal.at.returns-clause-ok c).In_ok-node in
    rw (
      left_is at _ _ _ c.end_uses-self-inside.ensures.entries c.node.ensures.value
          (c.get_mut.follows.holds (new at)).0,
      (are_left at).shown,
    )
    (ap (λ (t : Context). with_objects t (still_held t.objects))
    (shown_name _ _ _ c.self.view_is c.args.graph _ (sym c.in-Some.ensures.value)
    (λ o. GraphObject (without_node (graph_value o) c.args.number)) c.remove_node.new.self
    (changed at)
    c.get_mut.ensures.ordered refl c.in_ok-node.ensures.ok))

written : (c : In_ok-node)
    → (format : Format)
    → blocks_in (map entry_object (changed c)) format ≡ blocks_in c.args.self.now.objects format
written c format = grind (arith, blocks-written, same_blocks c format, c.self.view_is)

pub returns-in_err-node-clause-balances : goal.returns-in_err-node-clause-balances
returns-in_err-node-clause-balances c format =
    let new = record c.in-Some.entry.now { object = c.remove_node.new.self } in
    let written =
    blocks-written c.self.inside.entries.entries c.args.graph _ new
    (sym c.in-Some.ensures.value) format in
    rw (c.get_mut.follows.holds new).0
    (omega (
      arith,
      written,
      ap (λ o. object_blocks o format) c.in_err-node.ensures.err,
      ap
          (λ (t : Context). blocks_in t.objects format) c.self.view_is,
    ))

pub end_uses-self-inside-requires-clause-owns : goal.end_uses-self-inside-requires-clause-owns
end_uses-self-inside-requires-clause-owns c format =
    let at = (goal.at.end_uses-self-inside-requires-clause-owns c).In_ok-node in
    rw (c.get_mut.follows.holds (new at)).0
    (omega (arith, written at format, c.requires.owns format))

pub returns-clause-balances : goal.returns-clause-balances
returns-clause-balances c format =
    let at = (goal.at.returns-clause-balances c).In_ok-node in
    let balances =
    rw (c.get_mut.follows.holds (new at)).0 at (c.end_uses-self-inside.ensures.balances format) in
    omega (arith, written at format, balances)
