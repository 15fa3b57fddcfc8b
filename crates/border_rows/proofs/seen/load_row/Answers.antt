use Rattle.std.proofs.Common.{◌∙◌, ◌-ℤ◌, ap, sym, length, replicate, pos, w32}
use Rattle.border_rows.proofs.Common.{run-constant, run-same, sample_or_border, seen_along, to_z-of_z}
use Rattle.border_rows.proofs.SeenLaws.{row_is, look_along, look_off}
use Rattle.border_rows.proofs.seen.load_row.Goals as goal

pub returns-in-Some : goal.returns-in-Some
returns-in-Some g c =
    let image = c.args.image.now in
    let border = c.args.border in
    let line = c.in-Some.line in
    let radius = c.args.radius in
    let seen =
    row_is c.args.image.now c.args.border _ _ _ _ (to_z-of_z w32 c.args.y c.ranges.y)
    c.row_seen.ensures.value c.in-Some.is in
    c.load_line.ensures
    ∙ run-same (λ k. seen_along image border line (pos k -ℤ pos radius))
    (λ k. sample_or_border image border (pos k -ℤ pos radius) c.args.y) c.args.start
    (length c.args.out.now)
    (λ k a b. sym
    (look_along image border (pos k -ℤ pos radius) c.args.y line c.requires.columns seen))

pub returns-in-None : goal.returns-in-None
returns-in-None g c =
    let image = c.args.image.now in
    let border = c.args.border in
    let radius = c.args.radius in
    let n = length c.args.out.now in
    let seen =
    row_is c.args.image.now c.args.border _ _ _ _ (to_z-of_z w32 c.args.y c.ranges.y)
    c.row_seen.ensures.value c.in-None.is in
    c.set_all.ensures
    ∙ ap (replicate n) c.loaded.ensures
    ∙ sym (run-constant (pos c.border_value.result) c.args.start n)
    ∙ run-same (λ _. pos c.border_value.result)
    (λ k. sample_or_border image border (pos k -ℤ pos radius) c.args.y) c.args.start n
    (λ k a b. c.border_value.ensures
    ∙ sym (look_off image border (pos k -ℤ pos radius) c.args.y seen))
