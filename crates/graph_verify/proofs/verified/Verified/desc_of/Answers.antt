use Rattle.std.proofs.Common.{◌∙◌, Some, None}
use Rattle.graph_verify.proofs.VerifyLemmas.{description_found}
use Rattle.graph_verify.proofs.verified.Verified.desc_of.Goals as goal

pub returns-in_err-output : goal.returns-in_err-output
returns-in_err-output c is nodes h =
    c.from_residual.ensures
    ∙ description_found is nodes c.args.self.now h c.args.cell None c.in_err-output.ensures

pub returns : goal.returns
returns c is nodes h =
    description_found is nodes c.args.self.now h c.args.cell (Some c.in_ok-output.output)
    c.in_ok-output.ensures
