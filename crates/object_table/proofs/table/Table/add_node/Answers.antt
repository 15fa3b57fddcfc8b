use Rattle.std.proofs.Common.{◌≡◌, ℕ, ◌+◌, ◌≤◌, All, refl, sym, ap, subst}
use Rattle.object_table.proofs.Common.{set_value, is_at, nat_cmp, err_from_is_err_and, with_node, GraphObject, object_bytes, Entry, graph_value, IsTable, used_more, nodes_in, used_names, name_count}
use Rattle.object_table.proofs.EntryLemmas.{kind_under, shown_name}
use Rattle.object_table.proofs.GraphLemmas.{IsTable-written, unchanged, live_there, all_below, few-uses, named-recounted, IsTable-added}
use Rattle.object_table.proofs.table.Table.add_node.Goals as goal
use Rattle.object_table.proofs.table.Table.add_node.Goals.{After-begin_uses}

pub invariant_of-self : goal.invariant_of-self
invariant_of-self c =
    let same = c.in_err-number.ensures.err in
    IsTable-written _ _ _ _ _ c.add_node.new.self _ c.self.invariant
    (sym c.in-Some.ensures.value) (c.get_mut.follows.holds _).0 (ap nodes_in same)
    (ap object_bytes same)

pub returns-in_err-number-clause-err : goal.returns-in_err-number-clause-err
returns-in_err-number-clause-err c =
    let new = record c.in-Some.entry.now { object = c.add_node.new.self } in
    let p = err_from_is_err_and c.from_residual.result c.from_residual.ensures.1 in
    rw p.1
    (unchanged _ _ _ c.self.view_is c.args.graph _ (sym c.in-Some.ensures.value) _ _
    c.in_err-number.ensures.err (c.get_mut.follows.holds new).0)

pub begin_uses-requires : goal.begin_uses-requires
begin_uses-requires c =
    let new = record c.in-Some.entry.now { object = c.add_node.new.self } in
    subst (All (λ (e : ℕ × Entry). e.1.uses ≤ 1048576)) (sym (c.get_mut.follows.holds new).0)
    (few-uses _ _ _ c.self.invariant c.args.graph c.in-Some.entry.now new
    (sym c.in-Some.ensures.value) refl)

-- the entries, once the node's uses have begun
begun : (c : After-begin_uses)
    → c.begin_uses.new.entries.entries
    ≡ used_more (used_names c.args.node)
    (set_value (is_at (nat_cmp c.args.graph)) c.self.inside.entries.entries
    (let old : Entry = c.in-Some.entry.now in record old { object = c.add_node.new.self }))
begun c =
    let old : Entry = c.in-Some.entry.now in
    cc (
      c.begin_uses.ensures,
      c.node.ensures.value,
      (c.get_mut.follows.holds (record old { object = c.add_node.new.self })).0,
    )

pub invariant_of-self-2 : goal.invariant_of-self-2
invariant_of-self-2 c =
    let s = c.self.inside in
    let old = c.in-Some.entry.now in
    let found = sym c.in-Some.ensures.value in
    subst (IsTable s.next s.charge) (sym (begun (goal.at.invariant_of-self-2 c).After-begin_uses))
    (IsTable-added s.next s.charge s.entries.entries c.self.invariant c.args.graph old
    (record old { object = c.add_node.new.self }) found refl c.add_node.ensures.bytes
    (live_there _ _ _ _ c.self.view_is c.self.invariant c.args.graph old found c.requires.live) refl
    (kind_under _ _ _ c.self.view_is _ c.args.graph old found c.requires.graph) c.args.node
    c.in_ok-number.ensures.ok c.in_ok-number.ensures.capacity
    (all_below _ _ _ _ c.self.view_is c.self.invariant (used_names c.args.node) c.requires.held))

pub returns-clause-ok : goal.returns-clause-ok
returns-clause-ok c =
    rw (
      begun (goal.at.returns-clause-ok c).After-begin_uses,
      named-recounted (λ k u. u + name_count k (used_names c.args.node)),
    )
    (shown_name _ _ _ c.self.view_is c.args.graph c.in-Some.entry.now
    (sym c.in-Some.ensures.value) (λ o. GraphObject (with_node (graph_value o) c.args.node))
    c.add_node.new.self _
    c.get_mut.ensures.ordered refl c.in_ok-number.ensures.ok)
