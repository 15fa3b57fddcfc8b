use Rattle.std.proofs.Common.{arith, ◌≡◌, ◌≢◌, ℕ, false, [], ◌∷◌, ◌++◌, sym, ap, subst, ◌∙◌, if◌then◌else◌, ◌==◌, filter}
use Rattle.object_table.proofs.Common.{AllPairs, list_any, GraphValue, with_delays, GraphObject, is_there, with_objects, graph_value, graph_under, nodes_in, is_registered, one_more, with_graph}
use Rattle.object_table.proofs.AgeLemmas.{apart_and}
use Rattle.object_table.proofs.EntryLemmas.{kind_under, under_is, shown_name}
use Rattle.object_table.proofs.GraphLemmas.{IsTable-written}
use Rattle.object_table.proofs.table.Table.register.Goals as goal

pub set_delays-requires-clause-distinct : goal.set_delays-requires-clause-distinct
set_delays-requires-clause-distinct c =
    subst (AllPairs (λ (a : ℕ) (b : ℕ). a ≢ b)) (sym c.in_ok-delays.ensures.value)
    (apart_and c.delays.result.now (is_there c.args.self.now.objects) c.args.delay
    c.delays.ensures.distinct
    (ap (λ l. list_any (λ n. n == c.args.delay) l) c.delays.ensures.delays
    ∙ sym c.is_registered.ensures
    ∙ c.if-is_registered.false))

pub invariant_of-self : goal.invariant_of-self
invariant_of-self c =
    IsTable-written _ _ _ _ _ c.set_delays.new.self _ c.self.invariant
    (sym c.in-Some.ensures.value) (c.get_mut.follows.holds _).0
    (ap nodes_in c.set_delays.ensures.value
    ∙ grind (
      arith,
      kind_under _ _ _ c.self.view_is _ c.args.graph _ (sym c.in-Some.ensures.value)
          c.requires,
    ))
    c.set_delays.ensures.bytes

pub returns-clause-ok : goal.returns-clause-ok
returns-clause-ok c =
    let now = c.args.self.now in
    let old = c.in-Some.entry.now.object in
    let under : graph_under now.objects c.args.graph ≡ graph_value old =
    ap graph_value (under_is _ _ _ c.self.view_is c.args.graph _ (sym c.in-Some.ensures.value)) in
    let delays =
    c.delays.ensures.delays ∙ ap (λ (g : GraphValue). g.delays) (c.graph-found.ensures ∙ under) in
    let apart : is_registered (graph_under now.objects c.args.graph) c.args.delay ≡ false =
    ap (λ g. is_registered g c.args.delay) (sym c.graph-found.ensures)
    ∙ sym c.is_registered.ensures
    ∙ c.if-is_registered.false in
    let value :
    c.set_delays.new.self ≡ GraphObject (one_more now.objects (graph_value old) c.args.delay) =
    c.set_delays.ensures.value
    ∙ ap (λ l. GraphObject (with_delays (graph_value old) l))
    (c.in_ok-delays.ensures.value
    ∙ ap (λ l. filter (is_there now.objects) l ++ c.args.delay ∷ []) delays)
    in
    shown_name _ _ _ c.self.view_is c.args.graph _ (sym c.in-Some.ensures.value)
    (λ o. GraphObject (one_more now.objects (graph_value o) c.args.delay)) c.set_delays.new.self
    _ c.get_mut.ensures.ordered (c.get_mut.follows.holds _).0
    value
    ∙ ap
    (λ b. with_objects now
    (if b then now.objects else with_graph now.objects c.args.graph
    (one_more now.objects (graph_under now.objects c.args.graph) c.args.delay)))
    (sym apart)
