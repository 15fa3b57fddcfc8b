use Rattle.std.proofs.Common.{◌∙◌, ap, sym}
use Rattle.client_contexts.proofs.Common.{list_any, is_virtual, verdict_on, all_operands}
use Rattle.client_contexts.proofs.ImmediateLemmas.{all_of_kind}
use Rattle.client_contexts.proofs.immediate.check_node.Goals as goal

pub returns-in-None-clause-ok : goal.returns-in-None-clause-ok
returns-in-None-clause-ok c =
    let operands = c.in-Ok.ensures.ok in
    record {
      node = c.requires;
      kinds =
          all_of_kind c.args.table.now.objects c.args.node.now c.in-Ok.ensures.found
          (ap (λ o. list_any is_virtual (all_operands o)) (sym operands)
          ∙ sym c.has_virtual.ensures
          ∙ c.if-has_virtual.false);
      verdict =
          ap (verdict_on c.args.node.now) (sym operands) ∙ sym c.verdict_on.ensures ∙ c.in-None.is;
    }
