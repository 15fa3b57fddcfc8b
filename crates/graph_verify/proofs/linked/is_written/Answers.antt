use Rattle.std.proofs.Common.{◌∙◌, rules, tests}
use Rattle.graph_verify.proofs.Common.{YieldsList-from_slice, any_from_yields_List, Linked, writes}
use Rattle.graph_verify.proofs.MemberLemmas.{any-map}
use Rattle.graph_verify.proofs.linked.is_written.Goals as goal

pub returns : goal.returns
returns c =
    let nodes = c.args.nodes.now in
    any_from_yields_List (λ (l : Linked). writes l.node c.args.cell) _ _ _ c.any.ensures.ran
    (YieldsList-from_slice nodes cc) (λ x b q k. search (rules, tests))
    ∙ any-map (λ (l : Linked). l.node) (λ n. writes n c.args.cell) nodes
