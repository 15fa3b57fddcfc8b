use Rattle.std.proofs.Common.{◌∙◌, pos, map, rules}
use Rattle.graph_steps.proofs.KernelLaws.{rows_made}
use Rattle.graph_steps.proofs.rows.U32RowSample.make_rows.Goals as goal

pub returns-clause-samples : goal.returns-clause-samples
returns-clause-samples c =
    let made =
    rows_made c.args.kernel.now c.args.desc c.args.valid _ (map pos c.args.samples.now)
    c.of_rows-output.result _ _ c.requires.can
    c.of_rows-output.ensures.value c.set_valid.ensures.value
    (c.set_valid.ensures.slices.rows ∙ c.of_rows-output.ensures.rows) c.run.ensures in
    search (rules, made.0 ∙ c.requires.format, made.1)
