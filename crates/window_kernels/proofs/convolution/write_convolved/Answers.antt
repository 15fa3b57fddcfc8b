use Rattle.std.proofs.Common.{◌≡◌, ◌/◌, ◌∙◌, arith}
use Rattle.window_kernels.proofs.Common.{written_for}
use Rattle.window_kernels.proofs.convolution.write_convolved.Goals as goal

pub returns : goal.returns
returns g c =
    let m = c.args.convolution.now in
    let wide : c.from.result ≡ m.columns / 2 =
    omega (arith, c.from.ensures, c.columns.ensures.value) in
    let high : c.from-2.result ≡ m.rows / 2 =
    omega (arith, c.from-2.ensures, c.rows.ensures.value) in
    written_for c.args.image.now g.T.Sample.format _ _ _ c.args.output.now _ c.requires.size
    (c.window_valid-area.ensures.value ∙ cc (wide, high, c.valid.ensures.value))
    c.write_by_rows.ensures
