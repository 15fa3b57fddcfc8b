use Rattle.std.proofs.Common.{◌≡◌, ◌∙◌, ◌-ℤ◌, ◌+◌, ◌*◌, ◌++◌, ap, subst, length, map, take, drop, pos, w32, take_at}
use Rattle.border_rows.proofs.Common.{run, sample_or_border, to_z-of_z}
use Rattle.border_rows.specs.RowWindow.{RowWindowValue}
use Rattle.border_rows.proofs.row_window.RowWindow.load.Goals as goal

pub returns-clause-samples : goal.returns-clause-samples
returns-clause-samples c =
    let image = c.args.image.now in
    let inside = c.self.inside in
    let out = c.load_row.new.out in
    let items = inside.samples.items in
    let P : RowWindowValue → Type 0 =
    λ v. map pos (take inside.samples.len (out ++ drop (length out) items))
    ≡ run 0 (v.width + 2 * v.radius)
    (λ i. sample_or_border image c.args.border (pos i -ℤ pos v.radius) c.args.y) in
    subst P c.self.view_is
    (ap (map pos)
    (take_at out (drop (length out) items) inside.samples.len
    (c.load_row.auto.out ∙ c.as_mut_slice-samples.ensures.len))
    ∙ c.load_row.ensures
    ∙ ap
    (λ z. run 0 (length c.as_mut_slice-samples.result.now)
    (λ i. sample_or_border image c.args.border (pos i -ℤ pos inside.radius) z))
    (to_z-of_z w32 c.args.y c.ranges.y)
    ∙ ap
    (λ n. run 0 n (λ i. sample_or_border image c.args.border (pos i -ℤ pos inside.radius) c.args.y))
    (ap length c.as_mut_slice-samples.ensures.value ∙ c.self.invariant))
