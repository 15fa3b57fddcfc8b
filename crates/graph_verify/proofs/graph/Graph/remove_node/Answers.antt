use Rattle.std.proofs.Common.{ap, sym, ◌∙◌, is_none}
use Rattle.graph_verify.proofs.GraphLemmas.{is_none-find, find_numbered, IsGraph-without_node}
use Rattle.graph_verify.proofs.graph.Graph.remove_node.Goals as goal

pub invariant_of-self : goal.invariant_of-self
invariant_of-self c =
    rw c.keep_others.ensures (IsGraph-without_node _ c.args.number c.self.invariant)

pub returns-in-None-clause-missing : goal.returns-in-None-clause-missing
returns-in-None-clause-missing c =
    ap is_none c.in-None.ensures ∙ is_none-find _ c.args.self.now.nodes

pub returns-in-Some-clause-removed : goal.returns-in-Some-clause-removed
returns-in-Some-clause-removed c =
    find_numbered c.args.self.now.nodes c.args.number c.in-Some.found (sym c.in-Some.ensures)

pub returns-in-Some-clause-missing : goal.returns-in-Some-clause-missing
returns-in-Some-clause-missing c =
    ap is_none c.in-Some.ensures ∙ is_none-find _ c.args.self.now.nodes
