use Rattle.std.proofs.Common.{◌≡◌, ℕ, ◌≤◌, ◌+◌, ◌∙◌, ap, sym, subst, arith}
use Rattle.stat_kernels.proofs.Common.{side, ImageValue, IsImage, pixel_at, rectangle_pixels, row_pixels, Band, band_of, columns_in, extremes_of, found_in, Found, merge_found, shift_found}
use Rattle.stat_kernels.specs.Extreme.{found_of}
use Rattle.stat_kernels.proofs.MergeLaws.{MergesAs, merges_more, same_counts}
use Rattle.stat_kernels.proofs.BandLaws.{few_greatest, few_least, no_places, rows_at, rows_more}
use Rattle.stat_kernels.proofs.extremes.add_min_max.Goals as goal

few_found : (image : ImageValue)
    → IsImage image
    → (rows : Band) (down : ℕ) (found : Found)
    → MergesAs (pixel_at image) down (rectangle_pixels (band_of rows image.valid)) found
    → (found.least.count ≤ 67108864) × (found.greatest.count ≤ 67108864)
few_found image is rows down found are =
    let same =
    same_counts (pixel_at image) down (rectangle_pixels (band_of rows image.valid)) found are in (
      omega (arith, same.0, few_least image is rows),
      omega (arith, same.1, few_greatest image is rows),
    )

-- at the end of the loop
ended : (image : ImageValue) (rows : Band) (down k : ℕ) (found : Found)
    → MergesAs (pixel_at image) down
    (rectangle_pixels (band_of (rows_at rows.start k) image.valid)) found
    → k ≡ rows.count
    → MergesAs (pixel_at image) down (rectangle_pixels (band_of rows image.valid)) found
ended image rows down k found are last =
    subst
    (λ n. MergesAs (pixel_at image) down
    (rectangle_pixels (band_of (rows_at rows.start n) image.valid)) found)
    last are

pub loop-k-init : goal.loop-k-init
loop-k-init c a =
    let f = pixel_at c.args.image.now in
    ap (merge_found a) c.nowhere-found.ensures
    ∙ ap (λ ps. merge_found a (shift_found c.args.down (found_in f ps)))
    (sym (no_places c.args.image.now.valid c.args.rows.start))

pub with_row-found-requires-clause-least_room : goal.with_row-found-requires-clause-least_room
with_row-found-requires-clause-least_room c =
    let is = c.valid-valid.ensures.image in
    omega (
      arith,
      (few_found c.args.image.now is (rows_at c.args.rows.start c.loop-k.k) c.args.down
          c.loop-k.found c.loop-k.invariant).0,
      side c.args.image.now.width is.sides.width,
    )

pub with_row-found-requires-clause-greatest_room : goal.with_row-found-requires-clause-greatest_room
with_row-found-requires-clause-greatest_room c =
    let is = c.valid-valid.ensures.image in
    omega (
      arith,
      (few_found c.args.image.now is (rows_at c.args.rows.start c.loop-k.k) c.args.down
          c.loop-k.found c.loop-k.invariant).1,
      side c.args.image.now.width is.sides.width,
    )

pub loop-k-preserved : goal.loop-k-preserved
loop-k-preserved c =
    let image = c.args.image.now in
    let y = c.args.rows.start + c.loop-k.k in
    subst (λ ps. MergesAs (pixel_at image) c.args.down ps c.with_row-found.result)
    (sym (rows_more image.valid c.args.rows.start c.loop-k.k))
    (merges_more (pixel_at image) c.args.down
    (rectangle_pixels (band_of (rows_at c.args.rows.start c.loop-k.k) image.valid))
    c.loop-k.found c.loop-k.invariant (row_pixels image.valid.x0 (columns_in image.valid y) y) _
    c.with_row-found.ensures)

pub merge-requires-clause-least_room : goal.merge-requires-clause-least_room
merge-requires-clause-least_room c =
    let are =
    ended c.args.image.now c.args.rows c.args.down c.loop-k.k c.loop-k.found c.loop-k.invariant
    (omega arith) in
    omega (
      arith,
      ap (λ (f : Found). f.least.count) c.of.ensures,
      (same_counts (pixel_at c.args.image.now) c.args.down
          (rectangle_pixels (band_of c.args.rows c.args.image.now.valid)) c.loop-k.found are).0,
      c.requires.least_room,
    )

pub merge-requires-clause-greatest_room : goal.merge-requires-clause-greatest_room
merge-requires-clause-greatest_room c =
    let are =
    ended c.args.image.now c.args.rows c.args.down c.loop-k.k c.loop-k.found c.loop-k.invariant
    (omega arith) in
    omega (
      arith,
      ap (λ (f : Found). f.greatest.count) c.of.ensures,
      (same_counts (pixel_at c.args.image.now) c.args.down
          (rectangle_pixels (band_of c.args.rows c.args.image.now.valid)) c.loop-k.found are).1,
      c.requires.greatest_room,
    )

pub returns : goal.returns
returns c =
    let are =
    ended c.args.image.now c.args.rows c.args.down c.loop-k.k c.loop-k.found c.loop-k.invariant
    (omega arith) in
    c.extremes_of.ensures
    ∙ ap extremes_of
    (c.merge.ensures
    ∙ ap (λ (a : Found). merge_found a c.loop-k.found) c.of.ensures
    ∙ are (found_of c.args.above))
