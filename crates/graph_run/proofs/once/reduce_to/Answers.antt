use Rattle.std.proofs.Common.{◌∙◌, ap}
use Rattle.graph_run.proofs.Common.{ImageValue, with_object, with_objects}
use Rattle.graph_steps.specs.declared.tally.Tally.{Tally}
use Rattle.graph_steps.specs.Tallies.{tally_of}
use Rattle.graph_run.specs.Results.{tally_object}
use Rattle.graph_run.proofs.OnceLemmas.{tally_written}
use Rattle.graph_run.proofs.once.reduce_to.Goals as goal

pub returns : goal.returns
returns c = λ which.
    c.set_tally.ensures
    ∙ ap
    (λ (t : Tally). with_objects c.args.table.now
    (with_object c.args.table.now.objects c.args.output (tally_object t)))
    (c.add_all.ensures ∙ ap (λ (i : ImageValue). tally_of i c.tally_for-tally.result)
    (c.image-2.ensures ∙ c.image.ensures))
    ∙ ap (λ o. with_objects c.args.table.now (with_object c.args.table.now.objects c.args.output o))
    (tally_written c.args.table.now c.args.node.now c.args.output c.requires.runs c.args.wanted
    c.requires.wanted c.requires.other c.tally_for-tally.result c.tally_for-tally.ensures which)
