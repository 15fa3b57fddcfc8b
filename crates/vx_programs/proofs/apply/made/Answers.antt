use Rattle.std.proofs.Common.{rules, ◌≡◌, sym, ◌∙◌}
use Rattle.client_model.specs.declared.reply.Reply.TheVariants.{Text}
use Rattle.vx_programs.specs.Apply.{text_made}
use Rattle.vx_programs.proofs.MadeLemmas.{gives_text}
use Rattle.vx_programs.proofs.apply.made.Goals as goal

pub unreachable-requires : goal.unreachable-requires
unreachable-requires c =
    let reply =
    gives_text c.args.job c.args.picture c.requires (search rules) c.new-runtime.result
    c.ask.new.runtime c.ask-2.new.runtime c.ask-3.new.runtime c.ask-4.new.runtime
    c.ask-5.new.runtime (search rules) (record { limits = search rules; state = search rules })
    (record { limits = search rules; state = search rules })
    (record { limits = search rules; state = search rules })
    (record { limits = search rules; state = search rules })
    (record { limits = search rules; state = search rules }) c.new-output.result (search rules)
    c.in_ok-text.field-0 (search rules) in
    c.in_default.not-Text (text_made c.args.job c.args.picture) reply

pub returns : goal.returns
returns c =
    let reply =
    gives_text c.args.job c.args.picture c.requires (search rules) c.new-runtime.result
    c.ask.new.runtime c.ask-2.new.runtime c.ask-3.new.runtime c.ask-4.new.runtime
    c.ask-5.new.runtime (search rules) (record { limits = search rules; state = search rules })
    (record { limits = search rules; state = search rules })
    (record { limits = search rules; state = search rules })
    (record { limits = search rules; state = search rules })
    (record { limits = search rules; state = search rules }) c.new-output.result (search rules)
    c.in_ok-text.field-0 (search rules) in
    let texts : Text c.in-Text.text ≡ Text (text_made c.args.job c.args.picture) =
    sym c.in-Text.is ∙ reply in
    cc
