use Rattle.std.proofs.Common.{◌+◌, ℤ, ◌≡◌, ◌∙◌, ◌-ℤ◌, ap, sym, pos, w32, arith}
use Rattle.border_rows.proofs.Common.{ints, seen_along, to_z-of_z}
use Rattle.border_rows.proofs.SeenLaws.{row_is, look_along, look_off}
use Rattle.border_rows.proofs.seen.seen_around.Goals as goal

pub returns-in-Some : goal.returns-in-Some
returns-in-Some c =
    let image = c.args.image.now in
    let border = c.args.border in
    let seen =
    row_is c.args.image.now c.args.border _ _ _ _ (to_z-of_z w32 c.args.y c.ranges.y)
    c.row_seen.ensures.value c.in-Some.is in
    let along =
    λ (x : ℤ). sym
    (look_along image border x c.args.y c.in-Some.line (omega (arith, c.requires.columns)) seen)
    in
    record {
      left = c.sample_before.ensures ∙ along (pos c.args.x -ℤ pos 1);
      middle =
          c.sample_before-in-Some.ensures
          ∙ ap (seen_along image border c.in-Some.line)
          (let e : pos (c.args.x + 1) -ℤ pos 1 ≡ pos c.args.x = omega (arith, ints) in e)
          ∙ along (pos c.args.x);
      right =
          c.sample_before-in-Some-2.ensures
          ∙ ap (seen_along image border c.in-Some.line)
          (let e : pos (c.args.x + 2) -ℤ pos 1 ≡ pos (c.args.x + 1) = omega (arith, ints) in e)
          ∙ along (pos (c.args.x + 1));
    }

pub returns-in-None-clause-left : goal.returns-in-None-clause-left
returns-in-None-clause-left c =
    let seen =
    row_is c.args.image.now c.args.border _ _ _ _ (to_z-of_z w32 c.args.y c.ranges.y)
    c.row_seen.ensures.value c.in-None.is in
    c.border_value-off.ensures
    ∙ sym (look_off c.args.image.now c.args.border (pos c.args.x -ℤ pos 1) c.args.y seen)
