-- A kernel writes the step's image.
use Rattle.std.proofs.Common.{◌≡◌, ℕ, ℤ, ◌*◌, ◌+◌, ◌-◌, ◌<◌, ◌≤◌, ◌++◌, zero, suc, true, List, length, map, take, drop, Option, Some, None, IfSome, refl, ap, ◌∙◌, sym, arith, cond, ◌==◌, eqb-true, add-zero, subst}
use Rattle.graph_steps.proofs.Common.{Band, CanMake, Description, Format, Function, ImageObject, ImageValue, IsInRows, IsWhole, Node, ObjectValue, Output, PlaneValue, Rectangle, SecondInput, Step, TakesRows, U32, U8, accumulates, all_rows, and_parts, at_held, band, band-same, block_image, description_of, empty_rectangle, has_row, held_image, image_from_inputs, image_over, image_over_rows, is_integral, kernel_image, length-map, length-table, nat_tests, node_image, object_format, object_kind, option_and_then, parameters, pixel_at, plane_image, put_mid, rows_in, rows_of_block, same_size, samples_are_band, scan_image, second_object, second_or_output, takes_formats, with_read_rows, with_rows, written_among}
use Rattle.vx_base.specs.declared.function.Function.TheVariants.{Integral}
use Rattle.image_core.specs.declared.image_mut.ImageMut.{ImageMut}
use Rattle.image_core.specs.Rows.{sample_at}
use Rattle.image_core.specs.Target.{target_image, IsTarget, Writes}
use Rattle.image_core.proofs.BandLaws.{written_same}
use Rattle.node_rows.proofs.RowLaws.{node_description}
use Rattle.graph_steps.specs.declared.kernel.Kernel.{Kernel}
use Rattle.graph_steps.proofs.PlaneLaws.{SameSides, all_read, held_part, lent_rows, rows_among, written_whole}

-- ---- by the function

-- the image of a node if its function is this one
abbrev pub function_image : Function
    → Node
    → Output
    → Format
    → ImageValue
    → Option ObjectValue
    → ImageValue
    → ImageValue
function_image function n which format first second own =
    let node : Node = record n { function = function } in
    node_image node which format first (second_or_output node second (ImageObject own))

-- a kernel's result, once its function, output, second input and output format are known
pub written_by_function :
    (k : Kernel) (function : Function) (which : Output) (second : SecondInput) (format : Format)
    (old new : ImageMut)
    → k.step.now.node.function ≡ function
    → k.step.now.which ≡ which
    → k.second.now ≡ second
    → old.desc.format ≡ format
    → Writes
    (function_image function k.step.now.node which format k.first.now (second_object second)
    (held_image old))
    old new
    → Writes (kernel_image k (held_image old)) old new
written_by_function k function which second format old new function_is which_is second_is known =
    written_same _ _ old new (rw (← function_is, ← which_is, ← second_is, ← known))

-- ---- integral images

pub integral_is : (function : Function) → is_integral function ≡ true → function ≡ Integral
integral_is Integral h = refl
integral_is other h = cc

formats_of_integral : (a : Format) (second : Option Format) (out : Format)
    → takes_formats Integral a second (Some out) ≡ true
    → (a ≡ U8) × (out ≡ U32)
formats_of_integral U8 None U32 t = (refl, refl)
formats_of_integral a second out t = cc

pub integral_formats : (function : Function) (a : Format) (second : Option Format) (out : Format)
    → is_integral function ≡ true
    → takes_formats function a second (Some out) ≡ true
    → (a ≡ U8) × (out ≡ U32)
integral_formats function a second out h t =
    formats_of_integral a second out
    (sym (ap (λ (f : Function). takes_formats f a second (Some out)) (integral_is function h)) ∙ t)

pub integral_second : (function : Function) (second : Option ObjectValue)
    → is_integral function ≡ true
    → IfSome second (λ object. (parameters function).second_input ≡ Some (object_kind object))
    → second ≡ None
integral_second function None h kind = refl
integral_second function (Some object) h kind =
    let none : (parameters function).second_input ≡ None =
    ap (λ (f : Function). (parameters f).second_input) (integral_is function h) in
    absurd (cc)

-- ---- descriptions

pub same_description : (a b : Description) → same_size a b ≡ true → a.format ≡ b.format → a ≡ b
same_description a b size format =
    grind (arith, and_parts (a.width == b.width) (a.height == b.height) size)

-- the step's image has the output's description
pub made_description :
    (s : Step) (first : ImageValue) (second : Option ObjectValue) (out : Description)
    (own : ImageValue)
    → CanMake s first second out
    → own.format ≡ out.format
    → description_of (image_from_inputs s first second own) ≡ out
made_description s first second out own can same =
    node_description s.node s.which own.format first
    (cond (accumulates s.node.function) (Some (ImageObject own)) second)
    ∙ sym
    (same_description out
    (record { width = first.width; height = first.height; format = own.format }) can.size
    (sym same))

-- and so has an integral image
pub scan_description :
    (start : ℕ) (s : Step) (first : ImageValue) (second : Option ObjectValue) (out : PlaneValue)
    → CanMake s first second out.desc
    → description_of (scan_image start first out) ≡ out.desc
scan_description start s first second out can =
    sym
    (same_description out.desc
    (record { width = first.width; height = first.height; format = out.desc.format }) can.size
    refl)

-- ---- the rows that an output holds

band_from : (width start first count : ℕ) (f : ℕ → ℕ → ℤ)
    → band width (start + first) count f ≡ band width first count (λ x y. f x (start + y))
band_from width start first zero f = refl
band_from width start first (suc count) f =
    let next : start + first + 1 ≡ start + (first + 1) = omega arith in
    rw (next, band_from width start (first + 1) count f) refl

-- an image over some rows has these rows
pub rows_held : (d : Description) (valid : Rectangle) (rows : Band) (samples : List ℤ)
    → IsInRows d.height rows
    → length samples ≡ rows.count * d.width
    → rows_in rows (image_over_rows d valid rows samples) ≡ image_over d valid samples
rows_held d valid rows samples room size =
    ap (image_over d valid)
    (ap (λ n. band d.width n rows.count f) (sym (add-zero rows.start))
    ∙ band_from d.width rows.start 0 rows.count f
    ∙ band-same d.width 0 rows.count (λ x y. f x (rows.start + y))
    (λ x y. sample_at d.width samples x y) (λ x y across low high. one x y across (omega arith))
    ∙ samples_are_band samples d.width rows.count size)
  where
    f : ℕ → ℕ → ℤ
    f = pixel_at (image_over_rows d valid rows samples)

    one : (x y : ℕ)
        → x < d.width
        → y < rows.count
        → f x (rows.start + y) ≡ sample_at d.width samples x y
    one x y across high =
        let back : rows.start + y - rows.start ≡ y = omega arith in
        let there : has_row rows (rows.start + y) ≡ true = grind (arith, nat_tests) in
        at_held d valid rows samples room size x (rows.start + y) across there
        ∙ ap (sample_at d.width samples x) back

pub held_rows : (out : ImageMut)
    → IsTarget out
    → rows_in out.rows (held_image out) ≡ target_image out
held_rows out target =
    rows_held out.desc out.valid out.rows (target_image out).samples target.rows target.size

-- the result of a kernel in these samples of an output
pub rows_written :
    (k : Kernel) (d : Description) (valid : Rectangle) (rows : Band) (samples : List ℤ)
    (old new : ImageMut)
    → target_image old ≡ image_over d valid samples
    → old.rows ≡ rows
    → Writes (kernel_image k (held_image old)) old new
    → target_image new ≡ rows_in rows (kernel_image k (image_over_rows d valid rows samples))
rows_written k d valid rows samples old new before same is =
    is.value
    ∙ ap (λ (r : Band). rows_in r (kernel_image k (held_image old))) same
    ∙ ap
    (λ (a : ImageValue). rows_in rows
    (kernel_image k (image_over_rows (description_of a) a.valid old.rows a.samples)))
    before
    ∙ ap (λ (r : Band). rows_in rows (kernel_image k (image_over_rows d valid r samples))) same

-- the result of a kernel in exactly these samples
pub rows_made :
    (k : Kernel) (d : Description) (valid : Rectangle) (rows : Band) (samples : List ℤ)
    (of old new : ImageMut)
    → CanMake k.step.now k.first.now (second_object k.second.now) d
    → target_image of ≡ image_over d empty_rectangle samples
    → target_image old ≡ image_over of.desc valid (target_image of).samples
    → old.rows ≡ rows
    → Writes (kernel_image k (held_image old)) old new
    → (new.desc.format ≡ d.format)
    ×
    ((target_image new).samples
    ≡ (rows_in rows (kernel_image k (image_over_rows d valid rows samples))).samples)
rows_made k d valid rows samples of old new can of_is old_is same is =
    let before =
    old_is ∙ ap (λ (v : ImageValue). image_over (description_of v) valid v.samples) of_is in
    let made = rows_written k d valid rows samples old new before same is in (
      ap (λ (v : ImageValue). v.format) made
          ∙ ap (λ (e : Description). e.format)
          (made_description k.step.now k.first.now (second_object k.second.now) d
          (image_over_rows d valid rows samples) can refl),
      ap (λ (v : ImageValue). v.samples) made,
    )

-- a plane to whose block the result of a kernel in these rows is written; `shown` gives the samples
-- of
-- a block as numbers
module _ {T : Type 0} (value : T → ℤ) (shown : List T → List ℤ)
    (shows : (l : List T) → shown l ≡ map value l) (k : Kernel) (p q : PlaneValue) (same : p ≡ q)
    (rows : Band)
    (room : (rows.start - q.top + rows.count) * q.desc.width ≤ length q.samples)
    (can : CanMake k.step.now k.first.now (second_object k.second.now) q.desc)
    (from n w len : ℕ) (items block part : List T) (format : Format) (after : Rectangle) where
  abbrev start : ℕ
  start = from * w

  abbrev many : ℕ
  many = from * w + n * w - from * w

  abbrev written_to : PlaneValue
  written_to =
      record {
        desc = p.desc;
        valid = after;
        top = p.top;
        rows = rows;
        format = format;
        samples =
            shown
            (take len
            (put_mid start many block part ++ drop (length (put_mid start many block part)) items));
      }

  abbrev made_from : List ℤ → ImageValue
  made_from samples = kernel_image k (image_over_rows p.desc p.valid rows samples)

  pub plane_written : from ≡ rows.start - p.top
      → n ≡ rows.count
      → w ≡ p.desc.width
      → block ≡ items
      → length block ≡ len
      → p.samples ≡ shown items
      → p.format ≡ format
      → length part ≡ length (take many (drop start block))
      → map value part
      ≡ (rows_in rows (made_from (map value (take many (drop start block))))).samples
      → after ≡ (made_from (map value (take many (drop start block)))).valid
      → written_to ≡ with_rows rows (kernel_image k (plane_image (with_read_rows rows q))) q
  plane_written from_is n_is wide block_is long samples_are format_is part_long made valid_is =
      let own =
      image_over_rows p.desc p.valid rows (rows_of_block p.desc.width p.top rows p.samples) in
      let image = kernel_image k own in
      let whole : map value block ≡ p.samples =
      ap (map value) block_is ∙ sym (samples_are ∙ shows items) in
      let lent =
      lent_rows value p.desc.width p.top rows from n w block block p.samples from_is n_is wide
      refl whole in
      let desc =
      made_description k.step.now k.first.now (second_object k.second.now) p.desc own
      (subst
      (λ (o : PlaneValue). CanMake k.step.now k.first.now (second_object k.second.now) o.desc)
      (sym same) can)
      refl in
      let fits : start + many ≤ length block =
      sizes (rows.start - p.top) rows.count p.desc.width from_is n_is wide
      (subst (λ (l : List ℤ). (rows.start - p.top + rows.count) * p.desc.width ≤ length l)
      (sym whole)
      (subst
      (λ (o : PlaneValue). (rows.start - o.top + rows.count) * o.desc.width ≤ length o.samples)
      (sym same) room))
      in
      let samples :
      shown
      (take len
      (put_mid start many block part ++ drop (length (put_mid start many block part)) items))
      ≡ written_among p.top rows image p.samples =
      ap shown (held_part start many len items block part long part_long fits)
      ∙ shows (put_mid start many block part)
      ∙ rows_among value image p.top rows from n w _ _ block part from_is n_is
      (wide ∙ sym (ap (λ (e : Description). e.width) desc)) refl refl
      (made ∙ ap (λ l. (rows_in rows (made_from l)).samples) lent)
      ∙ ap (written_among p.top rows image) whole in
      let of : Format → Rectangle → List ℤ → PlaneValue =
      λ f v l. record {
        desc = p.desc;
        valid = v;
        top = p.top;
        rows = rows;
        format = f;
        samples = l;
      } in
      ap (of format after) samples
      ∙ ap (λ f. of f after (written_among p.top rows image p.samples)) (sym format_is)
      ∙ ap (λ v. of p.format v (written_among p.top rows image p.samples))
      (valid_is ∙ ap (λ l. (made_from l).valid) lent)
      ∙ ap (λ o. with_rows rows (kernel_image k (plane_image (with_read_rows rows o))) o) same
    where
      sizes : (a b c : ℕ)
          → from ≡ a
          → n ≡ b
          → w ≡ c
          → (a + b) * c ≤ length (map value block)
          → start + many ≤ length block
      sizes a b c e f h enough = rw (e, f, h) (let long = length-map block value in grind arith)

pub same_sides : (a b : Description) → same_size a b ≡ true → SameSides a b
same_sides a b h = let p = and_parts (a.width == b.width) (a.height == b.height) h in record {
  wide = eqb-true a.width b.width p.0;
  tall = eqb-true a.height b.height p.1;
}

-- the formats and sides of an integral image and its input
pub can_sum : (s : Step) (first : ImageValue) (second : Option ObjectValue) (out : Description)
    → is_integral s.node.function ≡ true
    → CanMake s first second out
    → (first.format ≡ U8)
    × (out.format ≡ U32)
    × (first.width ≡ out.width)
    × (first.height ≡ out.height)
can_sum s first second out scans can =
    let formats =
    integral_formats s.node.function first.format (option_and_then object_format second)
    out.format scans can.formats in
    let sides = same_sides out (description_of first) can.size in
    (formats.0, formats.1, sym sides.wide, sym sides.tall)

-- the step's image has a sample for each pixel
pub sized_image : (s : Step) (first : ImageValue) (second : Option ObjectValue) (own : ImageValue)
    → length (image_from_inputs s first second own).samples ≡ first.height * first.width
sized_image s first second own =
    sized (cond (accumulates s.node.function) (Some (ImageObject own)) second)
  where
    sized : (elsewhere : Option ObjectValue)
        → length (node_image s.node s.which own.format first elsewhere).samples
        ≡ first.height * first.width
    sized z = grind (arith, length-table)

-- ---- a plane that holds the whole image

-- all its rows can be written
pub whole_takes : (p : PlaneValue) (rows : Band)
    → IsWhole p
    → rows ≡ all_rows p.desc.height
    → TakesRows rows p
whole_takes p rows w is = subst (λ (r : Band). TakesRows r p) (sym is) (record {
  format = w.format;
  within = omega arith;
  valid = w.valid;
  top = (let t = w.top in omega arith);
  room = rw (w.top, w.size) (omega arith);
})

-- and then it holds the step's image
module _ (s : Step) (first : ImageValue) (second : Option ObjectValue) (p : PlaneValue)
    (whole : IsWhole p) (can : CanMake s first second p.desc) where
  abbrev made : ImageValue
  made = image_from_inputs s first second (block_image p)

  made_size : length made.samples ≡ made.height * made.width
  made_size =
      let sides = same_sides p.desc (description_of first) can.size in
      sized_image s first second (block_image p)
      ∙ ap (λ n. n * first.width) (sym sides.tall) ∙ ap (λ n. p.desc.height * n) (sym sides.wide)
      ∙ ap (λ (d : Description). d.height * d.width)
      (sym (made_description s first second p.desc (block_image p) can refl))

  all_own : plane_image (with_read_rows (all_rows p.desc.height) p) ≡ block_image p
  all_own =
      all_read (with_read_rows (all_rows p.desc.height) p)
      (record { format = whole.format; top = whole.top; size = whole.size; valid = whole.valid })
      refl

  pub all_written : (new : PlaneValue) (rows : Band)
      → rows ≡ all_rows p.desc.height
      → new
      ≡ with_rows rows (image_from_inputs s first second (plane_image (with_read_rows rows p))) p
      → block_image new ≡ made
  all_written new rows is written =
      ap block_image written
      ∙ ap
      (λ (r : Band). block_image
      (with_rows r (image_from_inputs s first second (plane_image (with_read_rows r p))) p))
      is
      ∙ ap
      (λ (own : ImageValue). block_image
      (with_rows (all_rows p.desc.height) (image_from_inputs s first second own) p))
      all_own
      ∙ written_whole p made
      (sym (made_description s first second p.desc (block_image p) can refl)) whole made_size

  -- the plane then has as many samples as before
  pub all_size : (new : PlaneValue) (rows : Band)
      → rows ≡ all_rows p.desc.height
      → new
      ≡ with_rows rows (image_from_inputs s first second (plane_image (with_read_rows rows p))) p
      → length new.samples ≡ p.desc.height * p.desc.width
  all_size new rows is written =
      ap (λ (image : ImageValue). length image.samples) (all_written new rows is written)
      ∙ made_size
      ∙ ap (λ (d : Description). d.height * d.width)
      (made_description s first second p.desc (block_image p) can refl)
