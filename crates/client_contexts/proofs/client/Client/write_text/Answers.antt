use Rattle.std.proofs.Common.{◌<◌, ◌^◌, refl, sym, subst, arith}
use Rattle.client_contexts.proofs.Common.{ClientContext, KeepsLimits}
use Rattle.std.proofs.lemmas.List.{get_or_default}
use Rattle.client_model.specs.declared.request.Request.TheVariants.{WriteImagePgm}
use Rattle.client_model.specs.Images.{write_text}
use Rattle.client_contexts.proofs.KeptGraphLemmas.{kept_written}
use Rattle.client_contexts.proofs.client.Client.write_text.Goals as goal

pub invariant_of-self : goal.invariant_of-self
invariant_of-self c =
    let s = c.self.inside in
    let text = c.args.text.now in
    kept_written c.requires.0 s.table c.write_text.new.table
    (WriteImagePgm c.args.reference text) (write_text s.table c.args.reference text)
    c.write_text.result s.kept.entries
    (subst (λ (o : ClientContext). KeepsLimits c.requires.0 o.context) (sym c.self.view_is)
    c.requires.1) (
      c.prove_reference.ensures,
      λ k d within. subst (λ b. b < 2 ^ 8) (sym (get_or_default text k d 0 within))
          (omega (arith, c.type_inv.text k)),
    )
    refl (λ name. refl) refl c.write_text.ensures.comes.done
    c.write_text.ensures.comes.unchanged c.self.invariant

pub returns-clause-within_limits : goal.returns-clause-within_limits
returns-clause-within_limits c = rw (← c.self.view_is) c.write_text.ensures.within_limits
