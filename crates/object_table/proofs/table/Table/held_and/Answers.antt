use Rattle.std.proofs.Common.{◌≡◌, [], ◌∷◌, ◌++◌, filter, refl, ap, ◌∙◌, rules}
use Rattle.object_table.proofs.Common.{is_there}
use Rattle.graph_verify.proofs.GraphLemmas.{filter_from_retain_by}
use Rattle.object_table.proofs.table.Table.held_and.Goals as goal

pub returns-in-Ok-push-clause-value : goal.returns-in-Ok-push-clause-value
returns-in-Ok-push-clause-value c =
    c.in-Ok-push.ensures.items
    ∙ ap (λ l. l ++ c.args.name ∷ [])
    (filter_from_retain_by _ (λ p. p.0.now ≡ c.args.self.now) (is_there c.args.self.now.objects)
    (λ p x b q is called. (search (rules, is), search (rules, is))) _ _ _ refl
    c.retain.ensures.filtered
    ∙ ap (filter (is_there c.args.self.now.objects))
    (c.in-Ok.ensures.items_if_clones_equal (λ x y same. same)))
