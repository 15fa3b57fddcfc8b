-- Rows of an integral image in a block.
use Rattle.std.proofs.Common.{◌≡◌, ℕ, ℤ, pos, ◌+◌, ◌-◌, ◌*◌, ◌<◌, ◌≤◌, true, false, List, ◌++◌, map, take, drop, length, get_or, get_or-take, get_or-drop, refl, ap, ◌∙◌, sym, inl, inr, arith, ◌==◌, unsigned_abs}
use Rattle.graph_steps.proofs.Common.{Band, Description, Format, ImageValue, IsInRows, PlaneValue, Rectangle, U32, band, band-same, cases_lt, get_or-map, image_from, image_over, last_row, nat_tests, row_sums, rows_in, scan_image, sum_on, sums_above, with_rows, written_among, zero_outside}
use Rattle.image_core.proofs.BandLaws.{rows_made}
use Rattle.graph_steps.proofs.PlaneLaws.{rows_among}

-- the sums in the row above, read from the block
lent_sums : (w top start from x : ℕ) (front items : List ℕ)
    → x < w
    → top ≤ start
    → from ≡ start - top
    → length front ≡ from * w
    → front ≡ take (from * w) items
    → row_sums (last_row w front) x ≡ sums_above w top start (map pos items) x
lent_sums w top start from x front items across low from_is long is = elim (cases_lt top start) [
  | inl some ↦
      let more : from * w ≡ (start - top - 1) * w + w =
      times (start - top - 1) from (omega arith) in
      let not_none : (length front == 0) ≡ false = grind (arith, nat_tests, long, more, across) in
      let below : (start - top - 1) * w + x < from * w = omega (arith, more) in
      let not_top : (start == top) ≡ false = grind (arith, nat_tests) in
      let at_row : length front - w ≡ (start - top - 1) * w = omega (arith, long, more) in
      rw (not_none, at_row, not_top)
      (get_or-drop ((start - top - 1) * w) front x 0
      ∙ ap (λ l. get_or l ((start - top - 1) * w + x) 0) is
      ∙ get_or-take (from * w) items ((start - top - 1) * w + x) 0 below
      ∙ ap unsigned_abs (sym (get_or-map pos items ((start - top - 1) * w + x) 0)))
  | inr none ↦
      let nothing : from ≡ 0 = omega arith in
      let empty : length front ≡ 0 = long ∙ ap (λ n. n * w) nothing ∙ omega arith in
      let at_top : (start == top) ≡ true = grind (arith, nat_tests) in
      rw (empty, at_top)
]
  where
    times : (k n : ℕ) → n ≡ k + 1 → n * w ≡ k * w + w
    times k n e = let more : (k + 1) * w ≡ k * w + w = grind arith in ap (λ m. m * w) e ∙ more

-- a sample depends only on the sums above it
follows : (image : ImageValue) (start : ℕ) (f g : ℕ → ℕ) (x y : ℕ)
    → f x ≡ g x
    → zero_outside image.valid (sum_on image start f) x y
    ≡ zero_outside image.valid (sum_on image start g) x y
follows image start f g x y same =
    ap (λ n. zero_outside image.valid (λ u v. sum_on image start (λ _. n) u v) x y) same

-- a block in which rows of an integral image are written below those that are there
pub sums_written :
    (image : ImageValue) (top : ℕ) (rows : Band) (from n w : ℕ) (front back items out : List ℕ)
    (count : ℕ)
    → IsInRows image.height rows
    → top ≤ rows.start
    → from ≡ rows.start - top
    → n ≡ rows.count
    → w ≡ image.width
    → front ≡ take (from * w) items
    → back ≡ drop (from * w) items
    → length front ≡ from * w
    → count ≡ from * w + n * w - from * w
    → map pos out
    ≡ band image.width rows.start rows.count
    (zero_outside image.valid (sum_on image rows.start (row_sums (last_row w front))))
    → map pos (front ++ (out ++ drop count back))
    ≡ written_among top rows
    (image_from image.width image.height U32 image.valid
    (sum_on image rows.start (sums_above image.width top rows.start (map pos items))))
    (map pos items)
sums_written image top rows from n w front back items out count room low from_is n_is wide
    front_is back_is long counted are =
    ap (λ l. map pos (l ++ (out ++ drop count back))) front_is
    ∙ ap (λ l. map pos (take (from * w) items ++ (out ++ drop count l))) back_is
    ∙ rows_among pos whole top rows from n w (from * w) count items out from_is n_is wide refl
    counted (are ∙ same ∙ ap (λ (i : ImageValue). i.samples) made_rows)
  where
    f : ℕ → ℕ → ℤ
    f = sum_on image rows.start (sums_above image.width top rows.start (map pos items))

    drawn : Description
    drawn = record { width = image.width; height = image.height; format = U32 }

    whole : ImageValue
    whole = image_from image.width image.height U32 image.valid f

    same :
        band image.width rows.start rows.count
        (zero_outside image.valid (sum_on image rows.start (row_sums (last_row w front))))
        ≡ band image.width rows.start rows.count (zero_outside image.valid f)
    same =
        band-same image.width rows.start rows.count
        (zero_outside image.valid (sum_on image rows.start (row_sums (last_row w front))))
        (zero_outside image.valid f)
        (λ x y across from_row to. follows image rows.start (row_sums (last_row w front))
        (sums_above image.width top rows.start (map pos items)) x y
        (lent_sums w top rows.start from x front items (omega arith) low from_is long front_is
        ∙ ap (λ k. sums_above k top rows.start (map pos items) x) wide))

    made_rows :
        image_over drawn image.valid
        (band drawn.width rows.start rows.count (zero_outside image.valid f))
        ≡ rows_in rows whole
    made_rows = rows_made drawn U32 image.valid image.valid f rows room refl refl

-- the plane to which they are written
pub plane_summed :
    (p : PlaneValue) (image : ImageValue) (rows : Band) (valid : Rectangle) (format : Format)
    (width : ℕ) (samples new : List ℤ)
    → valid ≡ image.valid
    → format ≡ p.format
    → samples ≡ p.samples
    → width ≡ p.desc.width
    → new
    ≡ written_among p.top rows
    (image_from image.width image.height U32 image.valid
    (sum_on image rows.start (sums_above width p.top rows.start samples)))
    samples
    →
    (let q : PlaneValue = record
    { desc = p.desc; valid = valid; top = p.top; rows = rows; format = format; samples = new }
    in q)
    ≡ with_rows rows (scan_image rows.start image p) p
plane_summed p image rows valid format width samples new valid_is format_is samples_are wide is =
    rw (is, valid_is, format_is, samples_are, wide)
