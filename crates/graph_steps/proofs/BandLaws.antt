-- The steps of a band, one after the other: each can run; blocks and other client images stay.
use Rattle.std.proofs.Common.{◌≡◌, ◌≢◌, ℕ, ◌+◌, ◌*◌, ◌<◌, ◌≤◌, false, min, List, [], ◌∷◌, length, Option, Some, None, refl, sym, ◌∙◌, ap, subst, inl, inr, arith, unwrap_or}
use Rattle.graph_steps.proofs.Common.{Band, CanMake, CanRunBand, CanStep, Description, Format, HaveRoom, ImageValue, IsClients, IsInRows, IsNeeded, IsReadable, IsStepOf, IsUnwritten, NamesPlanes, ObjectValue, PlaneValue, ReadsPlane, Reduce, Reduction, Step, Suits, Task, Write, after_step, after_task, after_tasks, band_rows, block_image, block_images, capacities, capacity, description_of, has_row, images_after, images_at_end, nat_tests, output_desc, own_by, pixel_at, plane, read_images, second_in, whole_image, with_halo, with_image}
use Rattle.std.proofs.Math.Nat.{mul-le-mul_right}
use Rattle.graph_steps.proofs.KernelLaws.{made_description}
use Rattle.graph_steps.proofs.StepLaws.{same_or_other, none_or_some, capacity_at, makes_alike, not_more, after_count, after_desc, after_others, after_output, after_capacities, after_readable, after_whole, after_elsewhere}

-- ---- the rows of a band and its halo

pub halo_within : (more height : ℕ) (band : Band) → IsInRows height (with_halo more height band)
halo_within more height band = omega arith

halo_rows : (more height : ℕ) (band : Band)
    → (with_halo more height band).count ≤ min height (band.count + more + more)
halo_rows more height band = omega arith

-- ---- whole images

pub image_there : (c : ℕ) (image : ImageValue) (images : ℕ → ImageValue)
    → with_image c image images c ≡ image
image_there c image images = grind (arith, nat_tests)

pub image_elsewhere : (c : ℕ) (image : ImageValue) (images : ℕ → ImageValue) (k : ℕ)
    → k ≢ c
    → with_image c image images k ≡ images k
image_elsewhere c image images k other = grind (arith, nat_tests)

-- the image that a step makes has the description of its output
pub whole_desc : (tables : ℕ → Option ObjectValue) (high : ℕ) (s : Step) (images : ℕ → ImageValue)
    → Suits tables high s images
    → description_of (whole_image tables s images)
    ≡ description_of (own_by s.describes (images s.output))
whole_desc tables high s images suits =
    made_description s (images s.first) (second_in tables images s.second)
    (description_of (own_by s.describes (images s.output)))
    (own_by s.describes (images s.output)) suits.makes refl

own_desc : (o : Option Description) (image : ImageValue)
    → description_of (own_by o image) ≡ unwrap_or o (description_of image)
own_desc None image = refl
own_desc (Some d) image = refl

-- ---- one step

-- blocks that are large enough for a band are large enough for a smaller one
pub room_less : (size less : ℕ) (tasks : List Task) (blocks : List (Format × ℕ))
    → less ≤ size
    → HaveRoom size tasks blocks
    → HaveRoom less tasks blocks
room_less size less tasks blocks h room = λ s i d e.
    let r = room s i d e in
    let m :
    min d.height (less + s.halo + s.halo) * d.width ≤ min d.height (size + s.halo + s.halo) *
    d.width =
    mul-le-mul_right d.width (omega arith) in
    let k = r.1 in
    (r.0, omega arith)

-- what a band does to the planes
pub record Ran (tables : ℕ → Option ObjectValue) (high slots : ℕ) (band : Band)
    (tasks : List Task) (images : ℕ → ImageValue) (planes after : List PlaneValue) : Type 0 where
  pub can : CanRunBand tables high slots band [] (images_at_end tables tasks images) after
  pub count : length after ≡ length planes
  pub blocks : capacities after ≡ capacities planes
  pub desc : (c : ℕ)
      → IsClients slots (length planes) c
      → (plane after c).desc ≡ (plane planes c).desc
  -- a client's image that no step writes stays
  pub leaves : (c : ℕ)
      → IsClients slots (length planes) c
      → IsUnwritten tasks c
      → plane after c ≡ plane planes c
  -- a client's image can be read in the rows that a step writes
  pub rows : (s : Step)
      → IsStepOf s tasks
      → s.describes ≡ None
      → (plane after s.output).rows ≡ with_halo s.halo (plane planes s.output).desc.height band
  -- the other rows of a client's image stay
  pub keeps : (c : ℕ)
      → IsClients slots (length planes) c
      → (x y : ℕ)
      → x < (plane planes c).desc.width
      → y < (plane planes c).desc.height
      → has_row (plane after c).rows y ≡ false
      → pixel_at (block_images after c) x y ≡ pixel_at (block_images planes c) x y

module _ {tables : ℕ → Option ObjectValue} {high slots : ℕ} {band : Band} where
  module _ (s : Step) (later : List Task) (images : ℕ → ImageValue) (planes : List PlaneValue)
      (can : CanRunBand tables high slots band (Write s ∷ later) images planes) where
    abbrev rows : Band
    rows = band_rows s band planes

    abbrev after : List PlaneValue
    after = after_step tables s rows planes

    abbrev next : ℕ → ImageValue
    next = images_after tables (Write s) images

    names : NamesPlanes slots (length planes) s
    names = can.names s (inl refl)

    pub client_output : s.describes ≡ None → IsClients slots (length planes) s.output
    client_output none = (names.client none, names.output)

    reads_is : (c : ℕ)
        → ReadsPlane s c
        → IsReadable (plane planes c) × ((plane planes c).desc ≡ description_of (images c))
    reads_is c reads = can.reads c (min high (s.halo + s.radius)) (inl (reads, refl))

    -- the output's description is that of its whole image
    pub output_is : output_desc s planes ≡ description_of (own_by s.describes (images s.output))
    output_is = elim (none_or_some s.describes) [
      | inl none ↦
          ap (λ o. unwrap_or o (plane planes s.output).desc) none
          ∙ (can.clients s.output (client_output none)).1
          ∙ sym
          (own_desc s.describes (images s.output)
          ∙ ap (λ o. unwrap_or o (description_of (images s.output))) none)
      | inr (d, some) ↦
          ap (λ o. unwrap_or o (plane planes s.output).desc) some
          ∙ sym
          (own_desc s.describes (images s.output)
          ∙ ap (λ o. unwrap_or o (description_of (images s.output))) some)
    ]

    pub step_fits : CanStep tables s rows planes
    step_fits = record {
      makes =
          makes_alike tables images (read_images planes) s (output_desc s planes)
          (λ c reads. sym (reads_is c reads).1)
          (subst (CanMake s (images s.first) (second_in tables images s.second)) (sym output_is)
          can.runs.0.makes);
      table = can.runs.0.table;
      output = names.output;
      reads = λ c reads. let n = names.reads c reads in (n.0, n.1, (reads_is c reads).0);
      within = halo_within s.halo (output_desc s planes).height band;
      block = λ d some.
          let r = can.room s (inl refl) d some in
          let b = capacity_at planes s.output in
          let same : output_desc s planes ≡ d =
          ap (λ o. unwrap_or o (plane planes s.output).desc) some in
          let more =
          not_more (with_halo s.halo d.height band).count
          (min d.height (band.count + s.halo + s.halo)) d.width (halo_rows s.halo d.height band)
          in
          let len :
          (capacity (capacities planes) s.output).1 ≡ length (plane planes s.output).samples =
          ap (λ (k : Format × ℕ). k.1) b in
          let rest = r.1 in (
            sym (ap (λ (k : Format × ℕ). k.0) b) ∙ r.0,
            subst
                (λ (e : Description). (with_halo s.halo e.height band).count * d.width ≤ length
                (plane planes s.output).samples)
                (sym same) (omega (arith, more, len, rest)),
          );
      whole = λ none. (can.clients s.output (client_output none)).0;
    }

    count : length after ≡ length planes
    count = after_count step_fits

    -- the output's plane has the description of the whole image that the step makes
    after_desc_is : (plane after s.output).desc ≡ description_of (next s.output)
    after_desc_is =
        after_desc step_fits
        ∙ output_is
        ∙ sym
        (ap description_of (image_there s.output (whole_image tables s images) images)
        ∙ whole_desc tables high s images can.runs.0)

    pub stays : (c : ℕ) → c ≢ s.output → (plane after c ≡ plane planes c) × (next c ≡ images c)
    stays c other = (
      after_others step_fits c other,
      image_elsewhere s.output (whole_image tables s images) images c other,
    )

    pub own_is_client : IsClients slots (length planes) s.output → s.describes ≡ None
    own_is_client k = elim (none_or_some s.describes) [
      | inl none ↦ none
      | inr (d, some) ↦ absurd (let low = names.virtual d some in let from = k.0 in omega arith)
    ]

    pub step_next : CanRunBand tables high slots band later next after
    step_next = record {
      fits = can.fits;
      names = λ t i. subst (λ n. NamesPlanes slots n t) (sym count) (can.names t (inr i));
      inputs = λ r i. subst (λ n. r.input < n) (sym count) (can.inputs r i);
      runs = can.runs.1;
      one_writer = can.one_writer.1;
      reads = λ c more needed. elim (same_or_other c s.output) [
        | inl e ↦ rw e (after_readable step_fits, after_desc_is)
        | inr other ↦
            let r =
            can.reads c more
            (inr (other, subst (λ n. IsNeeded (IsClients slots n) high later c more) count needed))
            in
            let k = stays c other in
            rw (k.0, k.1) r
      ];
      clients = λ c k. elim (same_or_other c s.output) [
        | inl e ↦
            rw e (
              after_whole step_fits
                  (own_is_client (rw (← e) (subst (λ n. IsClients slots n c) count k))),
              after_desc_is,
            )
        | inr other ↦
            (let o = stays c other in rw (o.0, o.1)
            (can.clients c (subst (λ n. IsClients slots n c) count k)))
      ];
      room =
          subst (HaveRoom band.count later) (sym (after_capacities step_fits))
          (λ t i. can.room t (inr i));
    }

    -- a later step that writes a client's image writes another one
    pub other_output : (t : Step) → IsStepOf t later → t.describes ≡ None → t.output ≢ s.output
    other_output t i none = elim (none_or_some s.describes) [
      | inl own ↦ can.one_writer.0 own t i
      | inr (d, some) ↦
          (λ e. let low = names.virtual d some in let from = (can.names t (inr i)).client none
          in absurd (omega arith))
    ]

    -- a client's image that the step writes, after later steps that don't
    module _ (none : s.describes ≡ None) (last : List PlaneValue)
        (left : plane last s.output ≡ plane after s.output) where
      same_height : output_desc s planes ≡ (plane planes s.output).desc
      same_height = ap (λ o. unwrap_or o (plane planes s.output).desc) none

      written_rows : (plane last s.output).rows ≡ rows
      written_rows =
          ap (λ (p : PlaneValue). p.rows) left
          ∙ ap (λ (p : PlaneValue). p.rows) (after_output step_fits)

      pub last_rows :
          (plane last s.output).rows ≡ with_halo s.halo (plane planes s.output).desc.height band
      last_rows =
          written_rows ∙ ap (λ (d : Description). with_halo s.halo d.height band) same_height

      pub last_desc : (plane last s.output).desc ≡ (plane planes s.output).desc
      last_desc = ap (λ (p : PlaneValue). p.desc) left ∙ after_desc step_fits ∙ same_height

      pub last_keeps : (x y : ℕ)
          → x < (plane planes s.output).desc.width
          → y < (plane planes s.output).desc.height
          → has_row (plane last s.output).rows y ≡ false
          → pixel_at (block_images last s.output) x y ≡ pixel_at (block_images planes s.output) x y
      last_keeps x y across low elsewhere =
          ap (λ p. pixel_at (block_image p) x y) left
          ∙ after_elsewhere step_fits none x y across low
          (ap (λ r. has_row r y) (sym written_rows) ∙ elsewhere)

  -- a reduction changes no plane
  pub skip_next :
      (r : Reduction) (later : List Task) (images : ℕ → ImageValue) (planes : List PlaneValue)
      → CanRunBand tables high slots band (Reduce r ∷ later) images planes
      → CanRunBand tables high slots band later images planes
  skip_next r later images planes can = record {
    fits = can.fits;
    names = can.names;
    inputs = λ q i. can.inputs q (inr i);
    runs = can.runs.2;
    one_writer = can.one_writer;
    reads = λ c more needed. can.reads c more (inr needed);
    clients = can.clients;
    room = can.room;
  }

  pub task_next :
      (t : Task) (later : List Task) (images : ℕ → ImageValue) (planes : List PlaneValue)
      → CanRunBand tables high slots band (t ∷ later) images planes
      → CanRunBand tables high slots band later (images_after tables t images)
      (after_task tables band t planes)
  task_next (Write s) later images planes can = step_next s later images planes can
  task_next (Reduce r) later images planes can = skip_next r later images planes can

  -- ---- all tasks of the band

  pub band_runs : (tasks : List Task) (images : ℕ → ImageValue) (planes : List PlaneValue)
      → CanRunBand tables high slots band tasks images planes
      → Ran tables high slots band tasks images planes (after_tasks tables band tasks planes)
  band_runs [] images planes can = record {
    can = can;
    count = refl;
    blocks = refl;
    desc = λ c k. refl;
    leaves = λ c k u. refl;
    rows = λ s i. absurd i;
    keeps = λ c k x y a l e. refl;
  }
  band_runs (Reduce r ∷ later) images planes can =
      let ran = band_runs later images planes (skip_next r later images planes can) in
      record {
        can = ran.can;
        count = ran.count;
        blocks = ran.blocks;
        desc = ran.desc;
        leaves = ran.leaves;
        rows = ran.rows;
        keeps = ran.keeps;
      }
  band_runs (Write s ∷ later) images planes can =
      let fits = step_fits s later images planes can in
      let after : List PlaneValue = after_step tables s (band_rows s band planes) planes in
      let last : List PlaneValue = after_tasks tables band later after in
      let ran =
      band_runs later (images_after tables (Write s) images) after
      (step_next s later images planes can) in
      let count = after_count fits in
      let clients : (c : ℕ) → IsClients slots (length planes) c → IsClients slots (length after) c =
      λ c k. subst (λ n. IsClients slots n c) (sym count) k in
      let left : s.describes ≡ None → plane last s.output ≡ plane after s.output =
      λ none. ran.leaves s.output
      (clients s.output (client_output s later images planes can none)) (can.one_writer.0 none)
      in
      record {
        can = ran.can;
        count = ran.count ∙ count;
        blocks = ran.blocks ∙ after_capacities fits;
        desc = λ c k. elim (same_or_other c s.output) [
          | inl e ↦
              (let none = own_is_client s later images planes can (rw (← e) k) in rw e
              (last_desc s later images planes can none last (left none)))
          | inr other ↦
              ran.desc c (clients c k) ∙ ap (λ (p : PlaneValue). p.desc) (after_others fits c other)
        ];
        leaves =
            λ c k unwritten. ran.leaves c (clients c k) (λ t i. unwritten t (inr i))
            ∙ after_others fits c (λ e. unwritten s (inl refl) (sym e));
        rows = λ t i none. elim i [
          | inl e ↦
              (let own : s.describes ≡ None = rw (← e) none in rw e
              (last_rows s later images planes can own last (left own)))
          | inr j ↦
              ran.rows t j none
              ∙ ap (λ (p : PlaneValue). with_halo t.halo p.desc.height band)
              (after_others fits t.output (other_output s later images planes can t j none))
        ];
        keeps = λ c k x y across low elsewhere. elim (same_or_other c s.output) [
          | inl e ↦
              subst
              (λ d. IsClients slots (length planes) d
              → (x y : ℕ)
              → x < (plane planes d).desc.width
              → y < (plane planes d).desc.height
              → has_row (plane last d).rows y ≡ false
              → pixel_at (block_images last d) x y ≡ pixel_at (block_images planes d) x y)
              (sym e)
              (λ own. let none = own_is_client s later images planes can own in last_keeps s
              later images planes can none last (left none))
              k x y across low elsewhere
          | inr other ↦
              let same = after_others fits c other in
              ran.keeps c (clients c k) x y (rw same across) (rw same low) elsewhere
              ∙ ap (λ p. pixel_at (block_image p) x y) same
        ];
      }
