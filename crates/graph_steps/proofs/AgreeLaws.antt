-- The rows that a band writes agree with the whole images.
use Rattle.std.proofs.Common.{◌≡◌, ℕ, ℤ, ◌+◌, ◌-◌, ◌<◌, ◌≤◌, min, true, List, [], ◌∷◌, length, Option, Some, None, refl, sym, ◌∙◌, pos, ◌*◌, ◌==◌, false, get_or, unsigned_abs, ap, subst, inl, inr, arith, cond}
use Rattle.graph_steps.proofs.Common.{AgreeInRows, AreAlike, AreEnough, Band, CanRunBand, CanStep, Covers, Description, Format, ImageObject, ImageValue, IsClients, IsImage, IsInRows, IsNeeded, IsStepOf, IsUnwritten, Node, Nothing, ObjectValue, Output, Plane, PlaneValue, ReadsPlane, Rectangle, Reduce, Reduction, SecondSource, SecondsAgree, Step, Table, Task, Write, accumulates, after_step, after_tasks, at-made, at-made_outside, band_rows, output_plane, block_images, cases_Bool, description_of, formula_of_two, from_two, has_pixel, has_row, image_from, images_after, images_at_end, is_integral, matrix_in, meet_of, nat_tests, node_image, output_desc, own_by, pixel_at, plane, plane_image, read_images, rows_image, scan_image, second_in, step_image, sum_on, sum_to, sums_above, sums_in, whole_image, window_radius, with_halo, with_read_rows, zero_outside, ◌⊎◌}
use Rattle.stat_kernels.proofs.ScanLaws.{scan_agrees}
use Rattle.node_rows.proofs.RowLaws.{agree_fewer, agree_in_all, node_rows}
use Rattle.graph_steps.proofs.KernelLaws.{integral_is, integral_second, same_sides}
use Rattle.graph_steps.proofs.PlaneLaws.{SameSides, sides_of, held_agrees, read_at}
use Rattle.graph_steps.proofs.StepLaws.{same_or_other, object_told, matrix_alike, made_is, second_same, image_desc, objects, out_desc, out_own, takes, after_desc, after_output, after_image, after_count}
use Rattle.graph_steps.proofs.BandLaws.{image_there, image_elsewhere, client_output, other_output, output_is, skip_next, stays, step_fits, step_next}

-- ---- images that agree

pub agree_same : (first last : ℕ) (a b : ImageValue) → a ≡ b → AgreeInRows first last a b
agree_same first last a b same =
    subst (AgreeInRows first last a) same
    (record { alike = record { description = refl; valid = refl }; samples = λ x y i j k l. refl })

agree_trans : (first last : ℕ) (a b c : ImageValue)
    → AgreeInRows first last a b
    → AgreeInRows first last b c
    → AgreeInRows first last a c
agree_trans first last a b c p q =
    let sides = sides_of p.alike.description in
    record {
      alike =
          record {
            description = p.alike.description
                ∙ q.alike.description;
            valid = p.alike.valid
                ∙ q.alike.valid;
          };
      samples =
          λ x y i j k l. p.samples x y i j k l ∙ q.samples x y (omega arith) (omega arith) k l;
    }

elsewhere_itself : (first last : ℕ) (second : Option ObjectValue)
    → SecondsAgree first last second second
elsewhere_itself first last (Some (ImageObject a)) = agree_same first last a a refl
elsewhere_itself first last other = refl

-- ---- rectangles that meet again

meet_again : (r s : Rectangle) → meet_of r (meet_of r s) ≡ meet_of r s
meet_again r s = grind (arith, nat_tests)

-- ---- images that accumulate

-- a sample of an image that is made by a function
made_at : (width height : ℕ) (format : Format) (r : Rectangle) (f : ℕ → ℕ → ℤ) (x y : ℕ)
    → x < width
    → y < height
    → pixel_at (image_from width height format r f) x y ≡ zero_outside r f x y
made_at width height format r f x y i j = elim (cases_Bool (has_pixel r x y)) [
  | inl e ↦ at-made width height format r f x y i j e ∙ rw e
  | inr e ↦ at-made_outside width height format r f x y i j e ∙ rw e
]

made_same : (width height : ℕ) (format : Format) (r : Rectangle) (f g : ℕ → ℕ → ℤ) (x y : ℕ)
    → x < width
    → y < height
    → f x y ≡ g x y
    → pixel_at (image_from width height format r f) x y
    ≡ pixel_at (image_from width height format r g) x y
made_same width height format r f g x y i j same =
    rw (made_at width height format r f x y i j, made_at width height format r g x y i j, same)

-- sums agree in the rows in which the images and the old sums agree
sums_agree : (format : Format) (f : ℤ → ℤ → ℤ) (a b own other : ImageValue) (first last : ℕ)
    → AgreeInRows first last a b
    → meet_of a.valid own.valid ≡ meet_of b.valid other.valid
    →
    ((x y : ℕ)
    → x < a.width
    → y < a.height
    → first ≤ y
    → y ≤ last
    → pixel_at own x y ≡ pixel_at other x y)
    → AgreeInRows first last (from_two format f a own) (from_two format f b other)
sums_agree format f a b own other first last agree meets same =
    let sides = sides_of agree.alike.description in
    record {
      alike = record {
        description =
            ap
            (λ (d : Description). let e : Description = record
            { width = d.width; height = d.height; format = format } in e)
            agree.alike.description;
        valid = meets;
      };
      samples = λ x y i j k l.
          made_same a.width a.height format (meet_of a.valid own.valid)
          (λ u v. f (pixel_at a u v) (pixel_at own u v))
          (λ u v. f (pixel_at b u v) (pixel_at other u v)) x y i j
          (ap (λ z. f z (pixel_at own x y)) (agree.samples x y i j k l)
          ∙ ap (f (pixel_at b x y)) (same x y i j k l))
          ∙ rw (sides.wide, sides.tall, meets);
    }

-- ---- integral images

-- rows that follow from the row above them agree with the integral image where that row does
scans_agree : (format : Format) (a b : ImageValue) (start : ℕ) (above : ℕ → ℕ) (first last : ℕ)
    → AgreeInRows first last a b
    → ((y : ℕ) → first ≤ y → y < a.height → start ≡ first)
    → ((x : ℕ) → x < a.width → start ≡ 0 → above x ≡ 0)
    →
    ((x : ℕ)
    → x < a.width
    → 1 ≤ start
    → above x ≡ unsigned_abs (zero_outside b.valid (sum_to b) x (start - 1)))
    → AgreeInRows first last (image_from a.width a.height format a.valid (sum_on a start above))
    (sums_in format b)
scans_agree format a b start above first last agree starts none some =
    let sides = sides_of agree.alike.description in
    record {
      alike = record {
        description =
            ap
            (λ (d : Description). let e : Description = record
            { width = d.width; height = d.height; format = format } in e)
            agree.alike.description;
        valid = agree.alike.valid;
      };
      samples = λ x y i j k l. elim (cases_Bool (has_pixel b.valid x y)) [
        | inl e ↦
            let s = starts y k j in
            at-made a.width a.height format a.valid (sum_on a start above) x y i j
            (ap (λ r. has_pixel r x y) agree.alike.valid ∙ e)
            ∙ scan_agrees a b start x y above agree.alike.valid (omega arith) e
            (λ m n left low high. agree.samples m n (omega arith) (omega arith) (omega arith)
            (omega arith))
            (none x i) (some x i)
            ∙ sym
            (at-made b.width b.height format b.valid (sum_to b) x y (omega arith) (omega arith) e)
        | inr e ↦
            at-made_outside a.width a.height format a.valid (sum_on a start above) x y i j
            (ap (λ r. has_pixel r x y) agree.alike.valid ∙ e)
            ∙ sym
            (at-made_outside b.width b.height format b.valid (sum_to b) x y (omega arith)
            (omega arith) e)
      ];
    }

-- the image of a step with an integral image, by its definition
integral_image :
    (n : Node) (which : Output) (format : Format) (a : ImageValue) (second own : Option ObjectValue)
    → is_integral n.function ≡ true
    → second ≡ None
    → node_image n which format a (cond (accumulates n.function) own second) ≡ sums_in format a
integral_image n which format a second own scans none =
    rw (none, integral_is n.function scans)

-- ---- rows of a band and its halo

pub halo_has : (more height : ℕ) (band : Band) (y : ℕ)
    → has_row (with_halo more height band) y ≡ true
    → (band.start - more ≤ y) × (y < height) × (y < band.start + band.count + more)
halo_has more height band y there =
    (grind (arith, nat_tests), grind (arith, nat_tests), grind (arith, nat_tests))

pub in_halo : (more height : ℕ) (band : Band) (y : ℕ)
    → band.start - more ≤ y
    → y < height
    → y < band.start + band.count + more
    → has_row (with_halo more height band) y ≡ true
in_halo more height band y from low to = grind (arith, nat_tests)

-- ---- images that no step writes

pub unwritten_stays :
    (tables : ℕ → Option ObjectValue) (tasks : List Task) (images : ℕ → ImageValue) (c : ℕ)
    → IsUnwritten tasks c
    → images_at_end tables tasks images c ≡ images c
unwritten_stays tables [] images c none = refl
unwritten_stays tables (Write s ∷ later) images c none =
    unwritten_stays tables later (images_after tables (Write s) images) c (λ t i. none t (inr i))
    ∙ image_elsewhere s.output (whole_image tables s images) images c
    (λ e. none s (inl refl) (sym e))
unwritten_stays tables (Reduce r ∷ later) images c none = unwritten_stays tables later images c none

-- what is needed in the end alone needs no halo
pub needed_by : (kept : ℕ → Type 0) (high : ℕ) (tasks : List Task) (c more : ℕ)
    → IsNeeded kept high tasks c more
    → IsNeeded (λ c. ⊥) high tasks c more ⊎ (more ≡ 0)
needed_by kept high [] c more n = inr n.1
needed_by kept high (Write s ∷ later) c more n = elim n [
  | inl read ↦ inl (inl read)
  | inr (other, rest) ↦ elim (needed_by kept high later c more rest) [
    | inl i ↦ inl (inr (other, i))
    | inr none ↦ inr none
  ]
]
needed_by kept high (Reduce r ∷ later) c more n = elim n [
  | inl read ↦ inl (inl read)
  | inr rest ↦ elim (needed_by kept high later c more rest) [
    | inl i ↦ inl (inr i)
    | inr none ↦ inr none
  ]
]

-- ---- one step

-- the plane's readable rows are those of the image
pub record Knows (image : ImageValue) (p : PlaneValue) : Type 0 where
  pub alike : AreAlike (plane_image p) image
  pub samples : (x y : ℕ)
      → x < p.desc.width
      → y < p.desc.height
      → has_row p.rows y ≡ true
      → pixel_at (plane_image p) x y ≡ pixel_at image x y

-- the plane's readable rows are those of a band with its halo, at least
abbrev pub Reaches : Band → ℕ → PlaneValue → Type 0
Reaches band more p =
    (y : ℕ) → has_row (with_halo more p.desc.height band) y ≡ true → has_row p.rows y ≡ true

-- if the step accumulates, the rows to be written are those of the image before the run; the valid
-- rectangle is as before or already as in the end
pub record IsOwn (band : Band) (images end : ℕ → ImageValue) (planes : List PlaneValue)
    (s : Step) : Type 0 where
  pub row : (x y : ℕ)
      → x < (plane planes s.output).desc.width
      → has_row (band_rows s band planes) y ≡ true
      → pixel_at (block_images planes s.output) x y ≡ pixel_at (images s.output) x y
  pub valid :
      ((plane planes s.output).valid ≡ (images s.output).valid)
      ⊎ ((plane planes s.output).valid ≡ (end s.output).valid)

-- if the output continues from the row above, that row is as in the end, if there is one
abbrev pub HasRowAbove : Band → (ℕ → ImageValue) → List PlaneValue → Step → Type 0
HasRowAbove band end planes s =
    (band.start - s.halo ≡ 0)
    ⊎ ((s.describes ≡ None)
    ×
    ((x y : ℕ)
    → x < (plane planes s.output).desc.width
    → y < band.start - s.halo
    → y < (plane planes s.output).desc.height
    → pixel_at (block_images planes s.output) x y ≡ pixel_at (end s.output) x y))

-- the planes when a band comes to these tasks. `end` has the whole images after the run.
pub record Known (tables : ℕ → Option ObjectValue) (high slots : ℕ) (band : Band)
    (end : ℕ → ImageValue) (tasks : List Task) (images : ℕ → ImageValue) (planes : List PlaneValue)
    : Type 0 where
  pub can : CanRunBand tables high slots band tasks images planes
  pub enough : AreEnough high tasks
  pub ends : (c : ℕ)
      → IsClients slots (length planes) c
      → images_at_end tables tasks images c ≡ end c
  pub was : (s : Step)
      → IsStepOf s tasks
      → accumulates s.node.function ≡ true
      → IsOwn band images end planes s
  pub above : (s : Step)
      → IsStepOf s tasks
      → is_integral s.node.function ≡ true
      → HasRowAbove band end planes s
  pub known : (c more : ℕ)
      → IsNeeded (IsClients slots (length planes)) high tasks c more
      → IsImage (images c) × Knows (images c) (plane planes c) × Reaches band more (plane planes c)

module _ {tables : ℕ → Option ObjectValue} {high slots : ℕ} {band : Band}
    (some : 1 ≤ band.count) (below : band.start < high) {end : ℕ → ImageValue} where
  module _ (s : Step) (later : List Task) (images : ℕ → ImageValue) (planes : List PlaneValue)
      (k : Known tables high slots band end (Write s ∷ later) images planes) where
    abbrev rows : Band
    rows = band_rows s band planes

    abbrev first : ℕ
    first = band.start - s.halo

    abbrev last : ℕ
    last = band.start + band.count - 1 + s.halo

    fits : CanStep tables s rows planes
    fits = step_fits s later images planes k.can

    abbrev after : List PlaneValue
    after = after_step tables s rows planes

    abbrev next : ℕ → ImageValue
    next = images_after tables (Write s) images

    abbrev out : PlaneValue
    out = output_plane s.describes rows.start (plane planes s.output)

    abbrev own : ImageValue
    own = plane_image (with_read_rows rows out)

    abbrev before : ImageValue
    before = own_by s.describes (images s.output)

    abbrev whole : ImageValue
    whole = whole_image tables s images

    input : (c : ℕ)
        → ReadsPlane s c
        → IsImage (images c)
        × Knows (images c) (plane planes c)
        × Reaches band (min high (s.halo + s.radius)) (plane planes c)
    input c reads = k.known c (min high (s.halo + s.radius)) (inl (reads, refl))

    -- an input agrees in the rows within the radius
    near : (c : ℕ)
        → ReadsPlane s c
        → AgreeInRows (first - s.radius) (last + s.radius) (read_images planes c) (images c)
    near c reads =
        let i = input c reads in
        let h = k.can.runs.0.tall c reads in
        let sides = sides_of i.1.alike.description in
        record {
          alike = i.1.alike;
          samples = λ x y across low from to.
              i.1.samples x y across low
              (i.2 y
              (in_halo (min high (s.halo + s.radius)) (plane planes c).desc.height band y
              (omega arith) low (omega (arith, sides.tall))));
        }

    -- if a function reads all rows, its inputs are the whole images
    all_same : high ≤ s.radius → (c : ℕ) → ReadsPlane s c → read_images planes c ≡ images c
    all_same far c reads =
        let i = input c reads in
        let h = k.can.runs.0.tall c reads in
        let sides = sides_of i.1.alike.description in
        agree_in_all (read_images planes c) (images c) (fits.reads c reads).2.image i.0
        (agree_fewer (first - s.radius) 0 (read_images planes c).height (last + s.radius)
        (read_images planes c) (images c) (omega arith) (omega (arith, sides.tall))
        (near c reads))

    elsewhere :
        SecondsAgree first last (second_in tables (read_images planes) s.second)
        (second_in tables images s.second)
    elsewhere = by_source s.second (λ c e. near c (inr e))
      where
        by_source : (source : SecondSource)
            →
            ((c : ℕ) → source ≡ Plane c → AgreeInRows (first - s.radius) (last + s.radius)
            (read_images planes c) (images c))
            → SecondsAgree first last (second_in tables (read_images planes) source)
            (second_in tables images source)
        by_source Nothing image = refl
        by_source (Plane c) image =
            agree_fewer (first - s.radius) first last (last + s.radius) (read_images planes c)
            (images c) (omega arith) (omega arith) (image c refl)
        by_source (Table k) image = elsewhere_itself first last (second_in tables images (Table k))

    own_format : own.format ≡ before.format
    own_format =
        ap (λ (d : Description). d.format) (out_desc fits ∙ output_is s later images planes k.can)

    first_near : AgreeInRows first last (read_images planes s.first) (images s.first)
    first_near =
        agree_fewer (first - s.radius) first last (last + s.radius) (read_images planes s.first)
        (images s.first) (omega arith) (omega arith) (near s.first (inl refl))

    -- a node that doesn't accumulate
    plain_agrees : is_integral s.node.function ≡ false
        → AgreeInRows first last
        (node_image s.node s.which own.format (read_images planes s.first)
        (second_in tables (read_images planes) s.second))
        (node_image s.node s.which own.format (images s.first) (second_in tables images s.second))
    plain_agrees other =
        by_reach
        (window_radius s.node.function (matrix_in (second_in tables (read_images planes) s.second)))
        refl
        (subst (λ m. Covers (window_radius s.node.function m) s.radius high)
        (matrix_alike tables images (read_images planes) s.second)
        (subst
        (λ b. Covers
        (cond b (Some 0)
        (window_radius s.node.function (matrix_in (second_in tables images s.second))))
        s.radius high)
        other k.can.runs.0.near))
      where
        by_reach : (o : Option ℕ)
            → window_radius s.node.function
            (matrix_in (second_in tables (read_images planes) s.second))
            ≡ o
            → Covers o s.radius high
            → AgreeInRows first last
            (node_image s.node s.which own.format (read_images planes s.first)
            (second_in tables (read_images planes) s.second))
            (node_image s.node s.which own.format (images s.first)
            (second_in tables images s.second))
        by_reach (Some far) e covers =
            node_rows s.node s.which own.format (read_images planes s.first) (images s.first)
            (second_in tables (read_images planes) s.second) (second_in tables images s.second)
            far first last
            (fits.reads s.first (inl refl)).2.image (objects fits) e
            (agree_fewer (first - s.radius) (first - far) (last + far) (last + s.radius)
            (read_images planes s.first) (images s.first) (omega arith) (omega arith)
            (near s.first (inl refl)))
            elsewhere
        by_reach None e covers =
            agree_same first last _ _
            (ap
            (λ i. node_image s.node s.which own.format i
            (second_in tables (read_images planes) s.second))
            (all_same covers s.first (inl refl))
            ∙ ap (node_image s.node s.which own.format (images s.first))
            (second_same tables s.second (read_images planes) images
            (λ c q. all_same covers c (inr q))))

    -- the image of a client that the step writes
    whole_end : s.describes ≡ None → end s.output ≡ whole
    whole_end none =
        sym (k.ends s.output (client_output s later images planes k.can none))
        ∙ unwritten_stays tables later next s.output (k.can.one_writer.0 none)
        ∙ image_there s.output whole images

    before_is : s.describes ≡ None → before ≡ images s.output
    before_is none = ap (λ o. own_by o (images s.output)) none

    -- a node that accumulates
    abbrev sum : ℤ → ℤ → ℤ
    sum = formula_of_two s.node.function own.format s.node.policy s.node.amount

    sums_are : accumulates s.node.function ≡ true
        → AgreeInRows first last (from_two own.format sum (read_images planes s.first) own)
        (from_two own.format sum (images s.first) before)
    sums_are sums =
        let o = k.was s (inl refl) sums in
        let none = (k.can.names s (inl refl)).own sums in
        let same : out ≡ plane planes s.output = out_own fits none in
        let height : output_desc s planes ≡ (plane planes s.output).desc =
        sym (out_desc fits) ∙ ap (λ (p : PlaneValue). p.desc) same in
        let a = first_near in
        let sides = same_sides (output_desc s planes) (plane planes s.first).desc fits.makes.size in
        subst
        (λ i. AgreeInRows first last (from_two own.format sum (read_images planes s.first) own)
        (from_two own.format sum (images s.first) i))
        (sym (before_is none))
        (sums_agree own.format sum (read_images planes s.first) (images s.first) own
        (images s.output) first last a
        (ap (λ r. meet_of r own.valid) a.alike.valid
        ∙ ap (λ (p : PlaneValue). meet_of (images s.first).valid p.valid) same
        ∙ met none o.valid)
        (λ x y across low from to.
        let there =
        in_halo s.halo (output_desc s planes).height band y from (omega (arith, sides.tall))
        (omega arith) in
        ap (λ p. pixel_at (plane_image (with_read_rows rows p)) x y) same
        ∙ read_at (plane planes s.output) (fits.whole none) rows
        (subst (λ (d : Description). IsInRows d.height rows) height fits.within) x y
        (omega (arith, sides.wide, ap (λ (d : Description). d.width) height)) there
        ∙ o.row x y (omega (arith, sides.wide, ap (λ (d : Description). d.width) height)) there))
      where
        met : s.describes ≡ None
            → ((plane planes s.output).valid ≡ (images s.output).valid)
            ⊎ ((plane planes s.output).valid ≡ (end s.output).valid)
            → meet_of (images s.first).valid (plane planes s.output).valid
            ≡ meet_of (images s.first).valid (images s.output).valid
        met none (inl e) = ap (meet_of (images s.first).valid) e
        met none (inr e) =
            let w : whole ≡ step_image tables s images (images s.output) =
            ap (λ o. step_image tables s images (own_by o (images s.output))) none in
            let f :
            (step_image tables s images (images s.output)).valid
            ≡ meet_of (images s.first).valid (images s.output).valid =
            rw sums refl in
            ap (meet_of (images s.first).valid)
            (e ∙ ap (λ (i : ImageValue). i.valid) (whole_end none ∙ w) ∙ f)
            ∙ meet_again (images s.first).valid (images s.output).valid

    made_agrees : is_integral s.node.function ≡ false
        → AgreeInRows first last (step_image tables s (read_images planes) own) whole
    made_agrees other = elim (cases_Bool (accumulates s.node.function)) [
      | inl sums ↦ rw (sums, ← own_format) (sums_are sums)
      | inr plain ↦ rw (plain, ← own_format) (plain_agrees other)
    ]

    -- an integral image
    is_sums : (scans : is_integral s.node.function ≡ true)
        → whole ≡ sums_in before.format (images s.first)
    is_sums scans =
        integral_image s.node s.which before.format (images s.first)
        (second_in tables images s.second) (Some (ImageObject before)) scans
        (integral_second s.node.function (second_in tables images s.second) scans
        k.can.runs.0.makes.kind)

    scan_is_near : (scans : is_integral s.node.function ≡ true)
        → AgreeInRows first last (scan_image rows.start (read_images planes s.first) out)
        (sums_in out.desc.format (images s.first))
    scan_is_near scans =
        scans_agree out.desc.format (read_images planes s.first) (images s.first) rows.start
        (sums_above out.desc.width out.top rows.start out.samples) first last first_near
        (λ y from low. omega (arith, sides.tall))
        (λ x across zero_start. at_top x (omega (arith, (takes fits).top)))
        (λ x across some. elim (k.above s (inl refl) scans) [
          | inl none ↦ absurd (omega arith)
          | inr (none, above) ↦ row_above x (omega (arith, sides.wide)) some none above
        ])
      where
        sides : SameSides (output_desc s planes) (plane planes s.first).desc
        sides = same_sides (output_desc s planes) (plane planes s.first).desc fits.makes.size

        at_top : (x : ℕ)
            → rows.start ≡ out.top
            → sums_above out.desc.width out.top rows.start out.samples x ≡ 0
        at_top x same = let e : (rows.start == out.top) ≡ true = grind (arith, nat_tests) in
            ap
            (λ b. cond b 0
            (unsigned_abs
            (get_or out.samples ((rows.start - out.top - 1) * out.desc.width + x) (pos 0))))
            e

        row_above : (x : ℕ) → x < (output_desc s planes).width → 1 ≤ rows.start → s.describes ≡ None
            →
            ((x y : ℕ)
            → x < (plane planes s.output).desc.width
            → y < first
            → y < (plane planes s.output).desc.height
            → pixel_at (block_images planes s.output) x y ≡ pixel_at (end s.output) x y)
            → sums_above out.desc.width out.top rows.start out.samples x
            ≡ unsigned_abs
            (zero_outside (images s.first).valid (sum_to (images s.first)) x (rows.start - 1))
        row_above x across some none above =
            let same : out ≡ plane planes s.output = out_own fits none in
            let own_sides = sides_of (sym (out_desc fits) ∙ ap (λ (p : PlaneValue). p.desc) same) in
            let top = (fits.whole none).top in
            let e : (rows.start == (plane planes s.output).top) ≡ false =
            grind (arith, nat_tests) in
            let in_rows = fits.within in
            let input = sides_of first_near.alike.description in
            let wide : ℕ = (plane planes s.output).desc.width in
            ap (λ (p : PlaneValue). sums_above p.desc.width p.top rows.start p.samples x) same
            ∙ ap
            (λ b. cond b 0
            (unsigned_abs
            (get_or (plane planes s.output).samples
            ((rows.start - (plane planes s.output).top - 1) * wide + x) (pos 0))))
            e
            ∙ ap
            (λ n. unsigned_abs (get_or (plane planes s.output).samples (n * wide + x) (pos 0)))
            (let up : rows.start - (plane planes s.output).top - 1
            ≡ rows.start - 1 = omega arith in up)
            ∙ ap unsigned_abs
            (above x (rows.start - 1) (omega (arith, own_sides.wide)) (omega arith)
            (omega (arith, own_sides.tall))
            ∙ ap (λ i. pixel_at i x (rows.start - 1)) (whole_end none ∙ is_sums scans)
            ∙ made_at (images s.first).width (images s.first).height before.format
            (images s.first).valid (sum_to (images s.first)) x (rows.start - 1)
            (omega (arith, sides.wide)) (omega (arith, sides.tall)))

    rows_agree : AgreeInRows first last (rows_image tables s rows (read_images planes) out) whole
    rows_agree = elim (cases_Bool (is_integral s.node.function)) [
      | inl scans ↦ rw (scans, is_sums scans, ← own_format) (scan_is_near scans)
      | inr other ↦ rw other (made_agrees other)
    ]

    step_agrees : AgreeInRows first last (read_images after s.output) whole
    step_agrees =
        let image : ImageValue = rows_image tables s rows (read_images planes) out in
        let d : description_of image ≡ output_desc s planes = image_desc fits ∙ out_desc fits in
        let h : image.height ≡ (output_desc s planes).height =
        ap (λ (e : Description). e.height) d in
        agree_trans first last _ _ _
        (subst (λ i. AgreeInRows first last i image) (sym (after_image fits))
        (held_agrees image rows first last (subst (λ n. IsInRows n rows) (sym h) fits.within)
        (omega arith) (omega arith)))
        rows_agree

    -- after the step, its rows are those of the whole image
    own_knows : (more : ℕ)
        → more ≤ s.halo
        → IsImage (next s.output)
        × Knows (next s.output) (plane after s.output)
        × Reaches band more (plane after s.output)
    own_knows more few =
        let there : (plane after s.output).rows ≡ rows =
        ap (λ (p : PlaneValue). p.rows) (after_output fits) in
        let tall : (plane after s.output).desc.height ≡ (output_desc s planes).height =
        ap (λ (d : Description). d.height) (after_desc fits) in
        let made =
        made_is s (images s.first) (second_in tables images s.second) (description_of before)
        before k.can.runs.0.makes refl (input s.first (inl refl)).0
        (object_told tables s.second images k.can.runs.0.table (λ c e. (input c (inr e)).0)) in (
          subst IsImage (sym (image_there s.output whole images)) made,
          subst (λ i. Knows i (plane after s.output)) (sym (image_there s.output whole images))
              (record {
                alike =
                    record {
                      description = step_agrees.alike.description;
                      valid =
                          step_agrees.alike.valid;
                    };
                samples = λ x y across low has.
                    let h =
                    halo_has s.halo (output_desc s planes).height band y
                    (ap (λ r. has_row r y) (sym there) ∙ has) in
                    step_agrees.samples x y across low h.0 (let to = h.2 in omega arith);
              }),
          (λ y has.
              let h = halo_has more (plane after s.output).desc.height band y has in
              ap (λ r. has_row r y) there
              ∙ in_halo s.halo (output_desc s planes).height band y
              (let from = h.0 in omega arith) (let low = h.1 in omega arith)
              (let to = h.2 in omega arith)),
        )

    -- after the step, the rows that later steps need are there
    pub known_next : Known tables high slots band end later next after
    known_next =
        let count = after_count fits in
        let unchanged : (t : Step)
        → IsStepOf t later
        → t.describes ≡ None
        → (plane after t.output ≡ plane planes t.output) × (next t.output ≡ images t.output) =
        λ t i none. stays s later images planes k.can t.output
        (other_output s later images planes k.can t i none) in
        record {
          can = step_next s later images planes k.can;
          enough = k.enough.1;
          ends = λ c i. k.ends c (subst (λ n. IsClients slots n c) count i);
          was = λ t i sums.
              let none = (k.can.names t (inr i)).own sums in
              let same = unchanged t i none in
              let o = k.was t (inr i) sums in
              record { row = rw (same.0, same.1) o.row; valid = rw (same.0, same.1) o.valid };
          above = λ t i scans. elim (k.above t (inr i) scans) [
            | inl none ↦ inl none
            | inr (none, row) ↦ (let same = unchanged t i none in inr (none, rw same.0 row))
          ];
          known = λ c more needed. elim (same_or_other c s.output) [
            | inl e ↦
                subst
                (λ d. IsNeeded (IsClients slots (length after)) high later d more → IsImage
                (next d) × Knows (next d) (plane after d) × Reaches band more (plane after d))
                (sym e)
                (λ n. own_knows more (enough_rows more n)) needed
            | inr other ↦
                let same = stays s later images planes k.can c other in
                rw (same.0, same.1)
                (k.known c more
                (inr
                (other, subst (λ n. IsNeeded (IsClients slots n) high later c more) count needed)))
          ];
        }
      where
        enough_rows : (more : ℕ)
            → IsNeeded (IsClients slots (length after)) high later s.output more
            → more ≤ s.halo
        enough_rows more needed =
            elim (needed_by (IsClients slots (length after)) high later s.output more needed) [
              | inl i ↦ k.enough.0 more i
              | inr none ↦ omega arith
            ]

  -- ---- all tasks of a band

  pub known_skip :
      (r : Reduction) (later : List Task) (images : ℕ → ImageValue) (planes : List PlaneValue)
      → Known tables high slots band end (Reduce r ∷ later) images planes
      → Known tables high slots band end later images planes
  known_skip r later images planes k = record {
    can = skip_next r later images planes k.can;
    enough = k.enough;
    ends = k.ends;
    was = k.was;
    above = k.above;
    known = λ c more needed. k.known c more (inr needed);
  }

  pub band_knows : (tasks : List Task) (images : ℕ → ImageValue) (planes : List PlaneValue)
      → Known tables high slots band end tasks images planes
      → Known tables high slots band end [] (images_at_end tables tasks images)
      (after_tasks tables band tasks planes)
  band_knows [] images planes k = k
  band_knows (Write s ∷ later) images planes k =
      band_knows later (images_after tables (Write s) images)
      (after_step tables s (band_rows s band planes) planes)
      (known_next s later images planes k)
  band_knows (Reduce r ∷ later) images planes k =
      band_knows later images planes (known_skip r later images planes k)
