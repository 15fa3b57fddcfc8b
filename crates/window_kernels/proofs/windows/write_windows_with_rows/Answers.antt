use Rattle.std.proofs.Common.{◌∙◌, ap}
use Rattle.window_kernels.proofs.Common.{window_valid, written_for}
use Rattle.window_kernels.proofs.windows.write_windows_with_rows.Goals as goal

pub returns : goal.returns
returns g c =
    written_for c.args.image.now g.T.Sample.format _ _ _ c.args.output.now _ c.requires.size
    (c.window_valid-area.ensures.value ∙ ap (window_valid c.args.border 1 1) c.valid.ensures.value)
    c.write_by_rows.ensures
