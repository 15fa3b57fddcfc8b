use Rattle.std.proofs.Common.{◌≡◌, ◌∙◌, ◌/◌, ◌-ℤ◌, ap, sym, subst, pos, length, arith, w32, map-id}
use Rattle.window_kernels.proofs.Common.{Each1, IsNear, run, sample_or_border, to_z-of_z}
use Rattle.window_kernels.proofs.RowLaws.{looks_up_to}
use Rattle.window_kernels.proofs.convolution.FromMatrix.load_line.Goals as goal

pub returns-clause-value : goal.returns-clause-value
returns-clause-value c =
    let s = c.args.self.now in
    let r : c.from-radius.result ≡ s.convolution.now.columns / 2 =
    omega (arith, c.from-radius.ensures, c.columns.ensures.value) in
    sym (map-id c.load_row.new.out)
    ∙ c.load_row.ensures
    ∙ ap
    (λ v. run c.args.x (length c.args.line.now)
    (λ c'. sample_or_border s.image.now s.border (pos c' -ℤ pos c.from-radius.result) v))
    (to_z-of_z w32 c.args.row c.ranges.row)
    ∙ ap
    (λ n. run c.args.x (length c.args.line.now)
    (λ c'. sample_or_border s.image.now s.border (pos c' -ℤ pos n) c.args.row))
    r

pub returns-clause-limit : goal.returns-clause-limit
returns-clause-limit c =
    let s = c.args.self.now in
    subst (Each1 (IsNear 255)) (sym (returns-clause-value c))
    (looks_up_to s.image.now s.border (s.convolution.now.columns / 2) c.args.row c.args.x
    (length c.args.line.now) c.valid-limits.ensures.image s.format c.requires.columns
    c.requires.rows c.prove_constant.ensures)
