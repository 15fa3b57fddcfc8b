use Rattle.std.proofs.Common.{◌≡◌, refl, not, rules, ◌==◌}
use Rattle.graph_verify.proofs.Common.{Numbered}
use Rattle.graph_verify.proofs.GraphLemmas.{filter_from_retain_by}
use Rattle.graph_verify.proofs.graph.keep_others.Goals as goal

pub returns : goal.returns
returns c =
    filter_from_retain_by _ (λ p. p.0.now ≡ c.args.number)
    (λ (n : Numbered). not (n.number == c.args.number))
    (λ p x b q is called. (search (rules, is), search (rules, is))) _ _ _ refl
    c.retain.ensures.filtered
