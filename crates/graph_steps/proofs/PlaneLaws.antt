-- Planes as images.
use Rattle.std.proofs.Common.{◌<◌, min, true, false, inl, inr, ltb, get_or, get_or-take, get_or-drop, length-take-le, ◌≡◌, ℕ, ℤ, pos, ◌+◌, ◌-◌, ◌*◌, ◌≤◌, List, ◌++◌, map, take, drop, length, arith, drop-drop, take_at, drop_at, refl, ap, ◌∙◌, sym, length-drop, length-append, take_all, append-nil}
use Rattle.std.proofs.Math.Nat.{add-mul, add-sub_cancel_left, mul-le-mul_right}
use Rattle.vx_base.proofs.TableLaws.{row_fits}
use Rattle.graph_steps.proofs.Common.{AgreeInRows, Band, Description, ImageValue, IsInRows, IsWhole, PlaneValue, all_held, all_rows, at_held, at_held_in, band, block_image, cases_Bool, description_of, drop-map, drop_all, get_or-append_right, get_or_append_left, has_row, image_over, image_over_rows, length-band, ltb-false, ltb-true, map-append, nat_tests, pixel_at, plane_image, put_mid, rows_of_block, samples_are_band, take-map, with_read_rows, with_rows, written_among, zero_outside_rows}

-- ---- equal descriptions

pub record SameSides (a b : Description) : Type 0 where
  pub wide : a.width ≡ b.width
  pub tall : a.height ≡ b.height

pub sides_of : {a b : Description} → a ≡ b → SameSides a b
sides_of same = record {
  wide = ap (λ (d : Description). d.width) same;
  tall = ap (λ (d : Description). d.height) same;
}

-- ---- rows that are lent

-- the part of a block that has a plane's rows, as numbers
pub lent_rows :
    {T : Type 0} (value : T → ℤ) (width top : ℕ) (rows : Band) (from n w : ℕ)
    (lent items : List T) (zs : List ℤ)
    → from ≡ rows.start - top
    → n ≡ rows.count
    → w ≡ width
    → lent ≡ items
    → map value items ≡ zs
    → map value (take (from * w + n * w - from * w) (drop (from * w) lent))
    ≡ rows_of_block width top rows zs
lent_rows value width top rows from n w lent items zs a b c same is =
    rw (a, b, c, same, ← is) (simp (take-map, drop-map, add-sub_cancel_left))

-- ---- rows that are written

-- samples of any type, once a part of them is written
pub rows_among :
    {T : Type 0} (value : T → ℤ) (image : ImageValue) (top : ℕ) (rows : Band)
    (from n width start count : ℕ) (out part : List T)
    → from ≡ rows.start - top
    → n ≡ rows.count
    → width ≡ image.width
    → start ≡ from * width → count ≡ start + n * width - start
    → map value part ≡ band image.width rows.start rows.count (pixel_at image)
    → map value (put_mid start count out part) ≡ written_among top rows image (map value out)
rows_among value image top rows from n width start count out part a b w at_start counted made =
    rw (
      counted,
      at_start,
      a,
      b,
      w,
      add-sub_cancel_left,
    ) (simp (map-append, take-map, drop-map, drop-drop, made, add-mul))

-- a vector, once a part of its samples is written
pub held_part : {T : Type 0} (start count len : ℕ) (items block part : List T)
    → length block ≡ len
    → length part ≡ length (take count (drop start block))
    → start + count ≤ length block
    → take len
    (put_mid start count block part ++ drop (length (put_mid start count block part)) items)
    ≡ put_mid start count block part
held_part start count len items block part long written fits =
    take_at (put_mid start count block part)
    (drop (length (put_mid start count block part)) items) len
    (grind (arith, length-append, length-take-le, length-drop))

-- the image whose rows are read from this plane
module _ (p : PlaneValue) (rows : Band) (image : ImageValue)
    (desc : p.desc ≡ description_of image)
    (room : (rows.start - p.top + rows.count) * p.desc.width ≤ length p.samples) where
  abbrev made : List ℤ
  made = band image.width rows.start rows.count (pixel_at image)

  abbrev above : List ℤ
  above = take ((rows.start - p.top) * image.width) p.samples

  wide : p.desc.width ≡ image.width
  wide = ap (λ (d : Description). d.width) desc

  long_above : length above ≡ (rows.start - p.top) * image.width
  long_above =
      length-take-le ((rows.start - p.top) * image.width) p.samples
      (rw (← wide) (omega (arith, add-mul (rows.start - p.top) rows.count p.desc.width)))

  long_made : length made ≡ rows.count * image.width
  long_made = length-band image.width rows.start rows.count (pixel_at image)

  rows_are : rows_of_block p.desc.width p.top rows (written_among p.top rows image p.samples) ≡ made
  rows_are =
      ap (λ w. rows_of_block w p.top rows (written_among p.top rows image p.samples)) wide
      ∙ ap (take (rows.count * image.width))
      (drop_at above (made ++ drop ((rows.start - p.top + rows.count) * image.width) p.samples)
      ((rows.start - p.top) * image.width) long_above)
      ∙ take_at made (drop ((rows.start - p.top + rows.count) * image.width) p.samples)
      (rows.count * image.width) long_made

  -- as many samples as before
  pub written_size : length (written_among p.top rows image p.samples) ≡ length p.samples
  written_size =
      let fits : (rows.start - p.top + rows.count) * image.width ≤ length p.samples =
      rw (← wide) room in
      simp (length-append, length-drop)
      (omega
      (arith, add-mul (rows.start - p.top) rows.count image.width, fits, long_above, long_made))

  -- a plane to which rows of an image are written has these rows of it
  pub written_plane : plane_image (with_rows rows image p) ≡ zero_outside_rows rows image
  written_plane =
      ap (image_over_rows p.desc image.valid rows) rows_are
      ∙ ap (λ d. image_over_rows d image.valid rows made) desc

-- it agrees with the whole image in the plane's rows
pub held_agrees : (image : ImageValue) (rows : Band) (first last : ℕ)
    → IsInRows image.height rows
    → rows.start ≤ first
    → min (last + 1) image.height ≤ rows.start + rows.count
    → AgreeInRows first last (zero_outside_rows rows image) image
held_agrees image rows first last room from to = record {
  alike = record { description = refl; valid = refl };
  samples =
      (λ x y across low above below. at_held_in image rows room x y across
      (grind (arith, nat_tests)));
}

-- ---- client images

-- a sample of a readable row is that of the block
module _ (p : PlaneValue) (whole : IsWhole p) (rows : Band) (room : IsInRows p.desc.height rows)
  where
    abbrev width : ℕ
    width = p.desc.width

    long_rows : length (rows_of_block width p.top rows p.samples) ≡ rows.count * width
    long_rows = length-take-le (rows.count * width) (drop ((rows.start - p.top) * width) p.samples)
        (let most : (rows.count + (rows.start - p.top)) * width ≤ p.desc.height * width =
        mul-le-mul_right width (omega arith) in
        omega (
          arith,
          length-drop ((rows.start - p.top) * width) p.samples,
          add-mul rows.count
              (rows.start - p.top) width,
          whole.size,
        ))

    pub read_at : (x y : ℕ)
        → x < width
        → has_row rows y ≡ true
        → pixel_at (plane_image (with_read_rows rows p)) x y ≡ pixel_at (block_image p) x y
    read_at x y across there =
        let from : rows.start ≤ y = grind (arith, nat_tests) in
        let to : y - rows.start < rows.count = grind (arith, nat_tests) in
        let sum : rows.start - p.top + (y - rows.start) ≡ y = omega (arith, whole.top) in
        let same = ap (λ n. n * width) sum in
        at_held p.desc p.valid rows (rows_of_block width p.top rows p.samples) room long_rows x y
        across there
        ∙ get_or-take (rows.count * width) (drop ((rows.start - p.top) * width) p.samples)
        ((y - rows.start) * width + x) (pos 0)
        (omega (arith, row_fits width rows.count (y - rows.start) to))
        ∙ get_or-drop ((rows.start - p.top) * width) p.samples ((y - rows.start) * width + x)
        (pos 0)
        ∙ ap (λ n. get_or p.samples n (pos 0))
        (omega (arith, add-mul (rows.start - p.top) (y - rows.start) width))

-- where all rows may be read, the image is that of the block
pub all_read : (p : PlaneValue)
    → IsWhole p
    → p.rows ≡ all_rows p.desc.height
    → plane_image p ≡ block_image p
all_read p whole all =
    all_held p.desc p.valid p.rows (rows_of_block p.desc.width p.top p.rows p.samples) p.samples all
    (ap (λ (rows : Band). rows_of_block p.desc.width p.top rows p.samples) all
    ∙ ap (λ n. take (p.desc.height * p.desc.width) (drop n p.samples)) none
    ∙ take_all (p.desc.height * p.desc.width) p.samples (omega (arith, whole.size)))
  where
    none : (0 - p.top) * p.desc.width ≡ 0
    none = rw whole.top (omega arith)

-- ---- rows among those of a client's image

module _ (image : ImageValue) (top : ℕ) (rows : Band) (old : List ℤ)
    (room : IsInRows image.height rows) (none : top ≡ 0)
    (size : length old ≡ image.height * image.width) where
  abbrev columns : ℕ
  columns = image.width

  abbrev between : List ℤ
  between = band columns rows.start rows.count (pixel_at image)

  abbrev rest : List ℤ
  rest = drop ((rows.start - top + rows.count) * columns) old

  long_between : length between ≡ rows.count * columns
  long_between = length-band columns rows.start rows.count (pixel_at image)

  from_top : (rows.start - top) * columns ≡ rows.start * columns
  from_top = let same : rows.start - top ≡ rows.start = omega arith in ap (λ n. n * columns) same

  long_before : length (take ((rows.start - top) * columns) old) ≡ rows.start * columns
  long_before =
      let some : rows.start * columns ≤ image.height * columns =
      mul-le-mul_right columns (omega arith) in
      let same = from_top in
      length-take-le ((rows.start - top) * columns) old (omega (arith, size, same)) ∙ same

  -- the samples of a row that isn't written stay
  pub among_elsewhere : (x y : ℕ)
      → x < columns
      → y < image.height
      → has_row rows y ≡ false
      → get_or (written_among top rows image old) (y * columns + x) (pos 0)
      ≡ get_or old (y * columns + x) (pos 0)
  among_elsewhere x y across low absent = elim (cases_Bool (ltb y rows.start)) [
    | inl e ↦
        let high : y < rows.start = ltb-true y rows.start e in
        let fits = row_fits columns rows.start y high in
        let same = from_top in
        get_or_append_left (take ((rows.start - top) * columns) old) (between ++ rest) (pos 0)
        (y * columns + x) (omega (arith, long_before))
        ∙ get_or-take ((rows.start - top) * columns) old (y * columns + x) (pos 0) (omega arith)
    | inr e ↦
        let from : rows.start ≤ y = ltb-false y rows.start e in
        let past : rows.start + rows.count ≤ y = grind (arith, nat_tests) in
        let sum :
        (rows.start - top + rows.count) * columns ≡ rows.start * columns + rows.count * columns =
        add-mul (rows.start - top) rows.count columns
        ∙ ap (λ n. n + rows.count * columns) from_top in
        let end : (rows.start - top + rows.count) * columns ≤ y * columns =
        mul-le-mul_right columns (omega arith) in
        get_or-append_right (take ((rows.start - top) * columns) old) (between ++ rest)
        (rows.start * columns) (y * columns + x) (pos 0) long_before (omega arith)
        ∙ get_or-append_right between rest (rows.count * columns)
        (y * columns + x - rows.start * columns) (pos 0) long_between (omega arith)
        ∙ get_or-drop ((rows.start - top + rows.count) * columns) old
        (y * columns + x - rows.start * columns - rows.count * columns) (pos 0)
        ∙ ap (λ n. get_or old n (pos 0)) (omega arith)
  ]

-- after rows of a client's image are written, its other rows are as before
pub written_elsewhere : (p : PlaneValue) (rows : Band) (image : ImageValue)
    → p.desc ≡ description_of image
    → IsWhole p
    → IsInRows p.desc.height rows
    → (x y : ℕ)
    → x < p.desc.width
    → y < p.desc.height
    → has_row rows y ≡ false
    → pixel_at (block_image (with_rows rows image p)) x y ≡ pixel_at (block_image p) x y
written_elsewhere p rows image desc whole room x y across low elsewhere =
    let sides = sides_of desc in
    ap (λ n. get_or (written_among p.top rows image p.samples) (y * n + x) (pos 0)) sides.wide
    ∙ among_elsewhere image p.top rows p.samples (omega arith) whole.top
    (whole.size ∙ ap (λ (d : Description). d.height * d.width) desc) x y (omega arith)
    (omega arith) elsewhere
    ∙ ap (λ n. get_or p.samples (y * n + x) (pos 0)) (sym sides.wide)

-- a client's image to which all rows are written is the image that has them
pub written_whole : (p : PlaneValue) (image : ImageValue)
    → p.desc ≡ description_of image
    → IsWhole p
    → length image.samples ≡ image.height * image.width
    → block_image (with_rows (all_rows p.desc.height) image p) ≡ image
written_whole p image desc whole size =
    let sides = sides_of desc in
    let start : (0 - p.top) * image.width ≡ 0 = rw whole.top (omega arith) in
    let end : length p.samples ≤ (0 - p.top + p.desc.height) * image.width =
    rw (whole.top, whole.size, ← sides.wide) (omega arith) in
    ap
    (λ (d : Description). image_over d image.valid
    (written_among p.top (all_rows p.desc.height) image p.samples))
    desc
    ∙ ap (image_over (description_of image) image.valid)
    (ap
    (λ n. take n p.samples ++
    (band image.width 0 p.desc.height (pixel_at image)
    ++ drop ((0 - p.top + p.desc.height) * image.width) p.samples))
    start
    ∙ ap (λ l. band image.width 0 p.desc.height (pixel_at image) ++ l)
    (drop_all ((0 - p.top + p.desc.height) * image.width) p.samples end)
    ∙ append-nil (band image.width 0 p.desc.height (pixel_at image))
    ∙ ap (λ n. band image.width 0 n (pixel_at image)) sides.tall
    ∙ samples_are_band image.samples image.width image.height size)
