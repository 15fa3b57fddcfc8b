-- One step: the images that it reads, and the rows that it writes.
use Rattle.std.proofs.Common.{◌≡◌, ◌≢◌, ℕ, ◌+◌, ◌-◌, ◌*◌, ◌<◌, ◌≤◌, true, false, List, length, get_or, set, Option, Some, None, IfSome, IsTrue, refl, sym, ◌∙◌, ap, subst, inl, inr, arith, eqb, min, max, unwrap_or}
use Rattle.graph_steps.proofs.Common.{Band, CanMake, CanStep, CanWrite, Description, Format, ImageObject, ImageValue, IsCanonical, IsImage, IsInRows, IsObject, IsReadable, IsWhole, IsWithin, Node, Nothing, ObjectValue, Output, Plane, PlaneValue, ReadsPlane, SecondInput, SecondSource, Step, Table, TakesRows, U8, accumulates, after_step, block_image, capacities, capacity, cases_Bool, description_of, eqb-false, eqb-true, formula_of_two, get_or-map, get_or-set_other, get_or-set_same, get_or_default, has_row, held_in_is, image_from_inputs, is_integral, length-set, made_image, map-set, matrix_in, meet_of, no_plane, node_image, object_format, object_kind, option_and_then, parameters, pixel_at, plane, plane_image, read_images, rows_image, same_size, scan_image, second_in, second_object, set-get_or, set-set, step_image, sum_on, sums_above, with_read_rows, with_rows, written_among, zero_outside_rows, ◌⊎◌, output_plane, output_desc}
use Rattle.vx_base.specs.Sample.{IsSample}
use Rattle.vx_base.proofs.NodeLaws.{node_image_is}
use Rattle.vx_base.proofs.RectangleLaws.{bounded_canonical, bounded_within}
use Rattle.vx_base.proofs.ResultLaws.{accumulated_is}
use Rattle.image_core.specs.Fits.{SecondHasSize}
use Rattle.stat_kernels.proofs.ScanLaws.{scan_sample}
use Rattle.graph_steps.proofs.KernelLaws.{integral_formats, made_description, scan_description}
use Rattle.graph_steps.proofs.PlaneLaws.{written_plane, written_size, written_elsewhere}

pub same_or_other : (a b : ℕ) → (a ≡ b) ⊎ (a ≢ b)
same_or_other a b = elim (cases_Bool (eqb a b)) [
  | inl e ↦ inl (eqb-true a b e)
  | inr e ↦ inr (eqb-false a b e)
]

pub none_or_some : (o : Option Description) → (o ≡ None) ⊎ ((d : Description) × (o ≡ Some d))
none_or_some None = inl refl
none_or_some (Some d) = inr (d, refl)

-- ---- the inputs of a step

pub object_told :
    (tables : ℕ → Option ObjectValue) (source : SecondSource) (images : ℕ → ImageValue)
    → ((k : ℕ) → source ≡ Table k → IfSome (tables k) IsObject)
    → ((c : ℕ) → source ≡ Plane c → IsImage (images c))
    → IfSome (second_in tables images source) IsObject
object_told tables Nothing images table image = tt
object_told tables (Plane c) images table image = image c refl
object_told tables (Table k) images table image = table k refl

-- images of the same descriptions are as good
module _ (tables : ℕ → Option ObjectValue) (a b : ℕ → ImageValue) where
  kind_alike : (n : Node) (source : SecondSource)
      → IfSome (second_in tables a source)
      (λ o. (parameters n.function).second_input ≡ Some (object_kind o))
      → IfSome (second_in tables b source)
      (λ o. (parameters n.function).second_input ≡ Some (object_kind o))
  kind_alike n Nothing h = h
  kind_alike n (Plane c) h = h
  kind_alike n (Table k) h = h

  format_alike : (source : SecondSource)
      → ((c : ℕ) → source ≡ Plane c → description_of (a c) ≡ description_of (b c))
      → option_and_then object_format (second_in tables a source)
      ≡ option_and_then object_format (second_in tables b source)
  format_alike Nothing same = refl
  format_alike (Plane c) same = ap (λ (d : Description). Some d.format) (same c refl)
  format_alike (Table k) same = refl

  size_of : (first other : ImageValue) (second : Option ObjectValue)
      → description_of first ≡ description_of other
      → SecondHasSize first second
      → SecondHasSize other second
  size_of first other None is h = h
  size_of first other (Some object) is h = grind arith

  size_alike : (first other : ImageValue) (source : SecondSource)
      → description_of first ≡ description_of other
      → ((c : ℕ) → source ≡ Plane c → description_of (a c) ≡ description_of (b c))
      → SecondHasSize first (second_in tables a source)
      → SecondHasSize other (second_in tables b source)
  size_alike first other Nothing is same h = h
  size_alike first other (Plane c) is same h = let e = same c refl in grind arith
  size_alike first other (Table k) is same h =
      size_of first other (second_in tables a (Table k)) is h

  pub matrix_alike : (source : SecondSource)
      → matrix_in (second_in tables a source) ≡ matrix_in (second_in tables b source)
  matrix_alike Nothing = refl
  matrix_alike (Plane c) = refl
  matrix_alike (Table k) = refl

  pub makes_alike : (s : Step) (out : Description)
      → ((c : ℕ) → ReadsPlane s c → description_of (a c) ≡ description_of (b c))
      → CanMake s (a s.first) (second_in tables a s.second) out
      → CanMake s (b s.first) (second_in tables b s.second) out
  makes_alike s out same m =
      let first = same s.first (inl refl) in
      record {
        node = m.node;
        kind = kind_alike s.node s.second m.kind;
        formats =
            (let format : (a s.first).format ≡ (b s.first).format = ap
            (λ (d : Description). d.format) first in rw
            (← format, ← format_alike s.second (λ c e. same c (inr e))) m.formats);
        size = subst (λ d. IsTrue (same_size out d)) first m.size;
        second_size =
            size_alike (a s.first) (b s.first) s.second first (λ c e. same c (inr e)) m.second_size;
      }

-- ---- the image that a step makes

-- a node that accumulates makes an image of any rows
accumulated_any : (n : Node) (which : Output) (format : Format) (a own : ImageValue)
    → accumulates n.function ≡ true
    → IsImage a
    → IsImage (node_image n which format a (Some (ImageObject own)))
accumulated_any n which format a own sums is =
    made_image a.width a.height format (meet_of a.valid own.valid)
    (λ x y. formula_of_two n.function format n.policy n.amount (pixel_at a x y) (pixel_at own x y))
    is.sides.width is.sides.height canonical room
    (λ x y inside. accumulated_is n.function format n.policy n.amount (pixel_at a x y)
    (pixel_at own x y) sums)
  where
    canonical : IsCanonical (meet_of a.valid own.valid)
    canonical =
        bounded_canonical (max a.valid.x0 own.valid.x0) (max a.valid.y0 own.valid.y0)
        (min a.valid.x1 own.valid.x1) (min a.valid.y1 own.valid.y1)

    room : IsWithin (meet_of a.valid own.valid) a.width a.height
    room =
        let p : a.valid.x1 ≤ a.width = is.room.columns in
        let q : a.valid.y1 ≤ a.height = is.room.rows in
        bounded_within (max a.valid.x0 own.valid.x0) (max a.valid.y0 own.valid.y0)
        (min a.valid.x1 own.valid.x1) (min a.valid.y1 own.valid.y1) a.width a.height
        (omega (arith, p)) (omega (arith, q))

pub made_is :
    (s : Step) (first : ImageValue) (second : Option ObjectValue) (out : Description)
    (own : ImageValue)
    → CanMake s first second out
    → own.format ≡ out.format
    → IsImage first
    → IfSome second IsObject
    → IsImage (image_from_inputs s first second own)
made_is s first second out own can same is object =
    elim (cases_Bool (accumulates s.node.function)) [
      | inl sums ↦ rw sums (accumulated_any s.node s.which own.format first own sums is)
      | inr plain ↦
          rw plain
          (node_image_is s.node own.format first can.node is s.which second object can.kind
          (rw same can.formats))
    ]

-- a step's image follows from the images that it reads
pub second_same : (tables : ℕ → Option ObjectValue) (source : SecondSource) (a b : ℕ → ImageValue)
    → ((c : ℕ) → source ≡ Plane c → a c ≡ b c)
    → second_in tables a source ≡ second_in tables b source
second_same tables Nothing a b same = refl
second_same tables (Plane c) a b same = ap (λ i. Some (ImageObject i)) (same c refl)
second_same tables (Table k) a b same = refl

pub step_image_same : (tables : ℕ → Option ObjectValue) (s : Step) (a b : ℕ → ImageValue)
    → ((c : ℕ) → ReadsPlane s c → a c ≡ b c)
    → (own : ImageValue)
    → step_image tables s a own ≡ step_image tables s b own
step_image_same tables s a b same own =
    let second = second_same tables s.second a b (λ c e. same c (inr e)) in
    rw (same s.first (inl refl), second)

-- ---- the image of which it writes rows

-- an integral image of any rows is an image
pub scan_is :
    (start : ℕ) (s : Step) (first : ImageValue) (second : Option ObjectValue) (out : PlaneValue)
    → CanMake s first second out.desc
    → is_integral s.node.function ≡ true
    → IsImage first
    → IsImage (scan_image start first out)
scan_is start s first second out can scans is =
    let above : ℕ → ℕ = sums_above out.desc.width out.top start out.samples in
    let known =
    (integral_formats s.node.function first.format (option_and_then object_format second)
    out.desc.format scans can.formats).1
    in
    made_image first.width first.height out.desc.format first.valid (sum_on first start above)
    is.sides.width is.sides.height is.canonical is.room
    (λ x y inside. subst (λ f. IsSample f (sum_on first start above x y)) (sym known)
    (scan_sample first start above x y))

module _ (tables : ℕ → Option ObjectValue) (s : Step) (rows : Band) (out : PlaneValue) where
  abbrev own_rows : ImageValue
  own_rows = plane_image (with_read_rows rows out)

  pub rows_image_same : (a b : ℕ → ImageValue)
      → ((c : ℕ) → ReadsPlane s c → a c ≡ b c)
      → rows_image tables s rows a out ≡ rows_image tables s rows b out
  rows_image_same a b same =
      let first = same s.first (inl refl) in rw (step_image_same tables s a b same own_rows, first)

  pub by_scan : (images : ℕ → ImageValue) (first : ImageValue)
      → is_integral s.node.function ≡ true
      → first ≡ images s.first
      → scan_image rows.start first out ≡ rows_image tables s rows images out
  by_scan images first scans is = rw (is, scans)

  pub by_kernel : (images : ℕ → ImageValue) (first : ImageValue) (second : Option ObjectValue)
      → is_integral s.node.function ≡ false
      → first ≡ images s.first
      → second ≡ second_in tables images s.second
      → image_from_inputs s first second own_rows ≡ rows_image tables s rows images out
  by_kernel images first second other is second_is = rw (is, second_is, other)

  pub rows_description : (images : ℕ → ImageValue)
      → CanMake s (images s.first) (second_in tables images s.second) out.desc
      → description_of (rows_image tables s rows images out) ≡ out.desc
  rows_description images can =
      elim (cases_Bool (is_integral s.node.function)) [
        | inl scans ↦
            rw scans
            (scan_description rows.start s (images s.first) (second_in tables images s.second)
            out can)
        | inr other ↦
            rw other
            (made_description s (images s.first) (second_in tables images s.second) out.desc
            own_rows can refl)
      ]

  pub rows_image_is : (images : ℕ → ImageValue)
      → CanMake s (images s.first) (second_in tables images s.second) out.desc
      → IsImage (images s.first)
      → IfSome (second_in tables images s.second) IsObject
      → IsImage (rows_image tables s rows images out)
  rows_image_is images can is object =
      elim (cases_Bool (is_integral s.node.function)) [
        | inl scans ↦
            rw scans
            (scan_is rows.start s (images s.first) (second_in tables images s.second) out can
            scans is)
        | inr other ↦
            rw other
            (made_is s (images s.first) (second_in tables images s.second) out.desc own_rows can
            refl is object)
      ]

-- an element that is read
pub plane_read : (planes : List PlaneValue) (c : ℕ) (p : PlaneValue)
    → c < length planes
    → p ≡ get_or planes c p
    → p ≡ plane planes c
plane_read planes c p below is = is ∙ get_or_default planes c p no_plane below

pub image_read : (planes : List PlaneValue) (c : ℕ) (p : PlaneValue) (image : ImageValue)
    → c < length planes
    → p ≡ get_or planes c p
    → image ≡ plane_image p
    → image ≡ read_images planes c
image_read planes c p image below is image_is =
    image_is ∙ ap plane_image (plane_read planes c p below is)

-- a step's second input
pub plane_lent :
    (planes : List PlaneValue) (tables : ℕ → Option ObjectValue) (source : SecondSource) (c : ℕ)
    (p : PlaneValue) (image : ImageValue)
    → source ≡ Plane c
    → c < length planes
    → p ≡ get_or planes c p
    → image ≡ plane_image p
    → Some (ImageObject image) ≡ second_in tables (read_images planes) source
plane_lent planes tables source c p image is below there made =
    ap (λ i. Some (ImageObject i)) (image_read planes c p image below there made)
    ∙ ap (second_in tables (read_images planes)) (sym is)

pub table_lent :
    (tables : ℕ → Option ObjectValue) (images : ℕ → ImageValue) (source : SecondSource) (k : ℕ)
    (t : SecondInput)
    → source ≡ Table k
    → second_object t ≡ tables k
    → second_object t ≡ second_in tables images source
table_lent tables images source k t is there = there ∙ ap (second_in tables images) (sym is)

-- a step's premise, by inputs that are read
pub can_read : (s : Step) (a b : ImageValue) (o q : Option ObjectValue) (out : Description)
    → a ≡ b
    → o ≡ q
    → CanMake s b q out
    → CanMake s a o out
can_read s a b o q out first second can = rw (first, second) can

-- ---- the output's plane

pub capacity_at : (planes : List PlaneValue) (c : ℕ)
    → capacity (capacities planes) c ≡ ((plane planes c).format, length (plane planes c).samples)
capacity_at planes c = get_or-map (λ p. (p.format, length p.samples)) planes c no_plane

pub begun_desc : (o : Option Description) (top : ℕ) (p : PlaneValue)
    → (output_plane o top p).desc ≡ unwrap_or o p.desc
begun_desc None top p = refl
begun_desc (Some d) top p = refl

begun_block : (o : Option Description) (top : ℕ) (p : PlaneValue)
    → ((output_plane o top p).format ≡ p.format) × ((output_plane o top p).samples ≡ p.samples)
begun_block None top p = (refl, refl)
begun_block (Some d) top p = (refl, refl)

pub not_more : (a b c : ℕ) → a ≤ b → a * c ≤ b * c
not_more a b c h = grind arith

-- as a step begins, the output's plane can take its rows
takes_by : (o : Option Description) (rows : Band) (p : PlaneValue)
    → IsInRows (unwrap_or o p.desc).height rows
    →
    ((d : Description)
    → o ≡ Some d
    → (p.format ≡ d.format) × (rows.count * d.width ≤ length p.samples))
    → (o ≡ None → IsWhole p)
    → TakesRows rows (output_plane o rows.start p)
takes_by None rows p within block whole =
    let w = whole refl in
    record {
      format = w.format;
      within = within;
      valid = w.valid;
      top = (let t = w.top in omega arith);
      room = (let t = w.top in
          let l = w.size in
          let m =
          not_more (rows.start - p.top + rows.count) p.desc.height p.desc.width (omega arith) in
          omega arith);
    }
takes_by (Some d) rows p within block whole =
    let b = block d refl in
    record {
      format = b.0;
      within = within;
      valid = record { columns = omega arith; rows = omega arith };
      top = omega arith;
      room =
          (let same : rows.start - rows.start + rows.count
          ≡ rows.count = omega arith in rw same b.1);
    }

-- ---- after the step

module _ {tables : ℕ → Option ObjectValue} {s : Step} {rows : Band} {planes : List PlaneValue}
    (fits : CanStep tables s rows planes) where
  abbrev out : PlaneValue
  out = output_plane s.describes rows.start (plane planes s.output)

  abbrev after : List PlaneValue
  after = after_step tables s rows planes

  pub out_desc : out.desc ≡ output_desc s planes
  out_desc = begun_desc s.describes rows.start (plane planes s.output)

  pub out_own : s.describes ≡ None → out ≡ plane planes s.output
  out_own none = ap (λ o. output_plane o rows.start (plane planes s.output)) none

  pub takes : TakesRows rows out
  takes = takes_by s.describes rows (plane planes s.output) fits.within fits.block fits.whole

  can_out :
      CanMake s (read_images planes s.first) (second_in tables (read_images planes) s.second)
      out.desc
  can_out =
      subst
      (CanMake s (read_images planes s.first) (second_in tables (read_images planes) s.second))
      (sym out_desc) fits.makes

  pub objects : IfSome (second_in tables (read_images planes) s.second) IsObject
  objects =
      object_told tables s.second (read_images planes) fits.table
      (λ c e. (fits.reads c (inr e)).2.image)

  -- the output can be written once it is taken out of the planes, and then put back
  module _ (took : PlaneValue) (took_is : took ≡ out) (others : List PlaneValue)
      (rest : PlaneValue) (others_are : others ≡ set planes s.output rest) where
    unread : (c : ℕ) → ReadsPlane s c → plane others c ≡ plane planes c
    unread c reads =
        ap (λ l. plane l c) others_are
        ∙ get_or-set_other planes s.output c rest no_plane (fits.reads c reads).1

    image_unread : (c : ℕ) → ReadsPlane s c → read_images others c ≡ read_images planes c
    image_unread c reads = ap plane_image (unread c reads)

    pub can_write : CanWrite tables s rows others took
    can_write =
        subst (CanWrite tables s rows others) (sym took_is) (record {
          reads = (λ c reads.
              let r = fits.reads c reads in
              let k = ap length others_are ∙ length-set planes s.output rest in
              (omega arith, subst IsReadable (sym (unread c reads)) r.2));
          makes =
              can_read s _ _ _ _ out.desc (image_unread s.first (inl refl))
              (second_same tables s.second (read_images others) (read_images planes)
              (λ c e. image_unread c (inr e)))
              can_out;
          output = takes;
        })

    pub after_is : (new : PlaneValue)
        → new ≡ with_rows rows (rows_image tables s rows (read_images others) took) took
        → set others s.output new ≡ after
    after_is new written =
        ap (λ l. set l s.output new) others_are
        ∙ set-set planes s.output rest new
        ∙ ap (set planes s.output)
        (written
        ∙ ap (λ q. with_rows rows (rows_image tables s rows (read_images others) q) q) took_is
        ∙ ap (λ i. with_rows rows i out)
        (rows_image_same tables s rows out (read_images others) (read_images planes) image_unread))

  pub image_desc : description_of (rows_image tables s rows (read_images planes) out) ≡ out.desc
  image_desc = rows_description tables s rows out (read_images planes) can_out

  pub image_is : IsImage (rows_image tables s rows (read_images planes) out)
  image_is =
      rows_image_is tables s rows out (read_images planes) can_out
      (fits.reads s.first (inl refl)).2.image objects

  pub after_count : length after ≡ length planes
  after_count = length-set planes s.output _

  pub after_output :
      plane after s.output ≡ with_rows rows (rows_image tables s rows (read_images planes) out) out
  after_output = get_or-set_same planes s.output _ no_plane fits.output

  pub after_others : (k : ℕ) → k ≢ s.output → plane after k ≡ plane planes k
  after_others k other = get_or-set_other planes s.output k _ no_plane other

  pub after_desc : (plane after s.output).desc ≡ output_desc s planes
  after_desc = ap (λ (p : PlaneValue). p.desc) after_output ∙ out_desc

  size_same :
      length
      (written_among out.top rows (rows_image tables s rows (read_images planes) out) out.samples)
      ≡ length out.samples
  size_same =
      written_size out rows (rows_image tables s rows (read_images planes) out) (sym image_desc)
      takes.room

  pub after_capacities : capacities after ≡ capacities planes
  after_capacities =
      let b = begun_block s.describes rows.start (plane planes s.output) in
      map-set (λ p. (p.format, length p.samples)) planes s.output _
      ∙ ap (λ n. set (capacities planes) s.output (out.format, n)) (size_same ∙ ap length b.1)
      ∙ ap (λ f. set (capacities planes) s.output (f, length (plane planes s.output).samples)) b.0
      ∙ ap (set (capacities planes) s.output) (sym (capacity_at planes s.output))
      ∙ set-get_or (capacities planes) s.output (U8, 0)

  -- the rows that are written can be read
  pub after_image :
      read_images after s.output
      ≡ zero_outside_rows rows (rows_image tables s rows (read_images planes) out)
  after_image =
      ap plane_image after_output
      ∙ written_plane out rows (rows_image tables s rows (read_images planes) out)
      (sym image_desc) takes.room

  pub after_readable : IsReadable (plane after s.output)
  after_readable = subst IsReadable (sym after_output) (record {
    format = takes.format;
    rows = takes.within;
    top = takes.top;
    room = (let l = size_same in let r = takes.room in omega arith);
    image =
        subst IsImage
        (sym
        (written_plane out rows (rows_image tables s rows (read_images planes) out)
        (sym image_desc) takes.room))
        (held_in_is (rows_image tables s rows (read_images planes) out) rows image_rows image_is);
  })
    where
      image_rows : IsInRows (rows_image tables s rows (read_images planes) out).height rows
      image_rows = subst (λ (d : Description). IsInRows d.height rows) (sym image_desc) takes.within

  -- a client's image still has all its rows
  pub after_whole : s.describes ≡ None → IsWhole (plane after s.output)
  after_whole none =
      let w : IsWhole out = subst IsWhole (sym (out_own none)) (fits.whole none) in
      subst IsWhole (sym after_output) (record {
        format = w.format;
        top = w.top;
        size = size_same ∙ w.size;
        valid =
            subst
            (λ (d : Description). IsWithin
            (rows_image tables s rows (read_images planes) out).valid d.width d.height)
            image_desc image_is.room;
      })

  -- and the rows that are not written stay
  pub after_elsewhere : s.describes ≡ None
      → (x y : ℕ)
      → x < (plane planes s.output).desc.width
      → y < (plane planes s.output).desc.height
      → has_row rows y ≡ false
      → pixel_at (block_image (plane after s.output)) x y
      ≡ pixel_at (block_image (plane planes s.output)) x y
  after_elsewhere none x y across low elsewhere =
      let same = out_own none in
      ap (λ p. pixel_at (block_image p) x y) after_output
      ∙ written_elsewhere out rows (rows_image tables s rows (read_images planes) out)
      (sym image_desc) (subst IsWhole (sym same) (fits.whole none)) takes.within x y
      (subst (λ (p : PlaneValue). x < p.desc.width) (sym same) across)
      (subst (λ (p : PlaneValue). y < p.desc.height) (sym same) low) elsewhere
      ∙ ap (λ p. pixel_at (block_image p) x y) same
