-- Band after band.
use Rattle.std.proofs.Common.{◌≡◌, ℕ, ◌+◌, ◌-◌, ◌*◌, ◌<◌, ◌≤◌, ◌^◌, min, true, false, List, [], ◌∷◌, length, ◌||◌, refl, sym, ◌∙◌, ap, subst, inl, inr, arith, Option, None, unwrap_or}
use Rattle.graph_steps.proofs.Common.{AreAlike, AreNew, AreTallied, Band, CanReduceBand, CanRunBand, Description, Function, HaveRoom, ImageValue, IsClient, IsClients, IsImage, IsInRows, IsNeeded, IsProgram, IsReadable, IsStepOf, IsUnwritten, IsWhole, NamesPlanes, ObjectValue, PlaneValue, Reduce, RunsInTurn, Step, Tally, Task, Write, accumulates, after_tasks, all_rows, all_tallies_after, band-same, block_image, block_images, capacities, cases_Bool, description_of, has_row, images_after, images_at_end, is_integral, nat_tests, output_desc, pixel_at, plane, plane_image, reads_output, same_parts, samples_are_band, tally_at, with_halo, ◌⊎◌}
use Rattle.graph_steps.proofs.TallyLaws.{tally_above, none_above, all_above}
use Rattle.graph_steps.proofs.ReduceLaws.{AboveInTurn, band_tallies}
use Rattle.graph_steps.proofs.PlaneLaws.{sides_of, read_at, all_read}
use Rattle.graph_steps.proofs.BandLaws.{Ran, room_less, band_runs}
use Rattle.graph_steps.proofs.AgreeLaws.{HasRowAbove, IsOwn, Known, Knows, Reaches, band_knows, halo_has}

-- a client's image can be read
pub client_readable : (p : PlaneValue) → IsClient p → IsReadable p
client_readable p c = record {
  format = c.whole.format;
  rows = subst (IsInRows p.desc.height) (sym c.rows) (omega arith);
  top = (let t = c.whole.top in omega arith);
  room = rw (c.rows, c.whole.top, c.whole.size) (omega arith);
  image = rw (all_read p c.whole c.rows) c.image;
}

-- a client's image equals an image with which it agrees in all rows
same_image : (p : PlaneValue) (b : ImageValue)
    → length p.samples ≡ p.desc.height * p.desc.width
    → length b.samples ≡ b.height * b.width
    → AreAlike (block_image p) b
    →
    ((x y : ℕ)
    → x < p.desc.width
    → y < p.desc.height
    → pixel_at (block_image p) x y ≡ pixel_at b x y)
    → block_image p ≡ b
same_image p b size long alike same =
    let sides = sides_of alike.description in
    same_parts (block_image p) b sides.wide sides.tall
    (ap (λ (d : Description). d.format) alike.description) alike.valid
    (sym (samples_are_band p.samples p.desc.width p.desc.height size)
    ∙ band-same p.desc.width 0 p.desc.height (pixel_at (block_image p)) (pixel_at b)
    (λ x y across from low. same x y across (omega arith))
    ∙ rw (sides.wide, sides.tall) (samples_are_band b.samples b.width b.height long))

-- the next band of a run: none of it was run, and it is as high as the size, or goes to the end
pub record IsNext (high size : ℕ) (band : Band) : Type 0 where
  pub fits : band.start + band.count < 2 ^ 16
  pub less : band.count ≤ size
  pub some : 1 ≤ band.count
  pub ends : band.start + band.count ≤ high
  pub wide : min size high ≤ band.start + band.count
  pub begun : (band.start ≡ 0) ⊎ (min size high ≤ band.start)

pub is_next : {high size : ℕ} {band : Band}
    → high < 2 ^ 16
    → 0 < size
    → band.start < high
    → band.count ≡ min size (high - band.start)
    → (band.start ≡ 0) ⊎ (min size high ≤ band.start)
    → IsNext high size band
is_next fit forward below is begun = record {
  fits = omega arith;
  less = omega arith;
  some = omega arith;
  ends = omega arith;
  wide = omega arith;
  begun = begun;
}

module _ {tables : ℕ → Option ObjectValue} {high size slots : ℕ} {tasks : List Task}
    {origin : List PlaneValue} (program : IsProgram tables high size slots tasks origin) where
  abbrev Clients : ℕ → Type 0
  Clients = IsClients slots (length origin)

  abbrev images : ℕ → ImageValue
  images = block_images origin

  abbrev end : ℕ → ImageValue
  end = images_at_end tables tasks images

  -- planes between two bands
  pub record Remains (planes : List PlaneValue) : Type 0 where
    pub count : length planes ≡ length origin
    pub blocks : capacities planes ≡ capacities origin
    pub clients : (c : ℕ)
        → Clients c
        → IsWhole (plane planes c) × ((plane planes c).desc ≡ (plane origin c).desc)
    pub unwritten : (c : ℕ) → Clients c → IsUnwritten tasks c → plane planes c ≡ plane origin c

  pub remains_first : Remains origin
  remains_first = record {
    count = refl;
    blocks = refl;
    clients = λ c k. ((program.clients c k).whole, refl);
    unwritten = λ c k u. refl;
  }

  -- what tasks need as a band begins is as before the run
  begins : (planes : List PlaneValue)
      → Remains planes
      → (c more : ℕ)
      → IsNeeded (IsClients slots (length planes)) high tasks c more
      → Clients c × IsUnwritten tasks c × (plane planes c ≡ plane origin c)
  begins planes r c more needed =
      let b =
      program.begins c more
      (subst (λ n. IsNeeded (IsClients slots n) high tasks c more) r.count needed) in
      (b.1, b.0, r.unwritten c b.1 b.0)

  -- a band can run
  pub can_run : (band : Band) (planes : List PlaneValue)
      → IsNext high size band
      → Remains planes
      → CanRunBand tables high slots band tasks images planes
  can_run band planes next r = record {
    fits = next.fits;
    names = λ s i. subst (λ n. NamesPlanes slots n s) (sym r.count) (program.names s i);
    inputs = λ q i. subst (λ n. q.input < n) (sym r.count) (program.inputs q i);
    runs = program.runs;
    one_writer = program.one_writer;
    reads = λ c more needed.
        let b = begins planes r c more needed in
        rw b.2 (client_readable (plane origin c) (program.clients c b.0), refl);
    clients = λ c k. r.clients c (subst (λ n. IsClients slots n c) r.count k);
    room =
        subst (HaveRoom band.count tasks) (sym r.blocks)
        (room_less size band.count tasks (capacities origin) next.less program.room);
  }

  pub remains_next : (band : Band) (planes : List PlaneValue)
      → IsNext high size band
      → Remains planes
      → Remains (after_tasks tables band tasks planes)
  remains_next band planes next r =
      let ran = band_runs tasks images planes (can_run band planes next r) in
      let now : (c : ℕ) → Clients c → IsClients slots (length planes) c =
      λ c k. subst (λ n. IsClients slots n c) (sym r.count) k in
      record {
        count = ran.count ∙ r.count;
        blocks = ran.blocks ∙ r.blocks;
        clients =
            λ c k. (
              (ran.can.clients c (subst (λ n. IsClients slots n c) (sym ran.count) (now c k))).0,
              ran.desc c (now c k) ∙ (r.clients c k).1,
            );
        unwritten = λ c k u. ran.leaves c (now c k) u ∙ r.unwritten c k u;
      }

  -- before the band that begins with row `first`: the rows above it of each client's image are as
  -- in the end, and where a step accumulates
  -- the others are as before the run
  pub record Stands (first : ℕ) (planes : List PlaneValue) : Type 0 where
    pub alike : (c : ℕ)
        → Clients c
        → (first ≡ 0) ⊎ (AreAlike (block_image (plane planes c)) (end c) × IsImage (end c))
    pub above : (c : ℕ)
        → Clients c
        → (x y : ℕ)
        → x < (plane origin c).desc.width
        → y < first
        → y < (plane origin c).desc.height
        → pixel_at (block_images planes c) x y ≡ pixel_at (end c) x y
    pub own : (s : Step)
        → IsStepOf s tasks
        → accumulates s.node.function ≡ true
        → (x y : ℕ)
        → x < (plane origin s.output).desc.width
        → first ≤ y
        → y < (plane origin s.output).desc.height
        → pixel_at (block_images planes s.output) x y ≡ pixel_at (images s.output) x y
    pub own_valid : (s : Step)
        → IsStepOf s tasks
        → accumulates s.node.function ≡ true
        → ((plane planes s.output).valid ≡ (plane origin s.output).valid)
        ⊎ ((plane planes s.output).valid ≡ (end s.output).valid)

  pub stands_first : Stands 0 origin
  stands_first = record {
    alike = λ c k. inl refl;
    above = λ c k x y across below low. absurd (omega arith);
    own = λ s i e x y across from low. refl;
    own_valid = λ s i e. inl refl;
  }

  -- the plane that a step writes, if the output is a client's image
  client_of : (s : Step) → IsStepOf s tasks → s.describes ≡ None → Clients s.output
  client_of s i none = let n = program.names s i in (n.client none, n.output)

  module _ (band : Band) (planes : List PlaneValue) (is_next : IsNext high size band)
      (r : Remains planes) (stands : Stands band.start planes) where
    below : band.start < high
    below = omega arith

    runs : CanRunBand tables high slots band tasks images planes
    runs = can_run band planes is_next r

    abbrev next : List PlaneValue
    next = after_tasks tables band tasks planes

    now : (c : ℕ) → Clients c → IsClients slots (length planes) c
    now c k = subst (λ n. IsClients slots n c) (sym r.count) k

    reads_own : (function : Function) → accumulates function ≡ true → reads_output function ≡ true
    reads_own function sums = ap (λ b. b || is_integral function) sums

    reads_above : (function : Function) → is_integral function ≡ true → reads_output function ≡ true
    reads_above function scans = grind (arith, cases_Bool (accumulates function))

    -- in a run of one band that is the first
    alone : high ≤ size → band.start ≡ 0
    alone one = elim is_next.begun [ inl z ↦ z | inr k ↦ absurd (omega arith) ]

    -- the output of a step that accumulates
    own_of : (s : Step) → IsStepOf s tasks → accumulates s.node.function ≡ true → s.describes ≡ None
    own_of s i e = (program.names s i).own e

    desc_of : (s : Step)
        → IsStepOf s tasks
        → accumulates s.node.function ≡ true
        → (output_desc s planes ≡ (plane planes s.output).desc)
        × ((plane planes s.output).desc ≡ (plane origin s.output).desc)
    desc_of s i e =
        let none = own_of s i e in (
          ap (λ o. unwrap_or o (plane planes s.output).desc) none,
          (r.clients s.output (client_of s i none)).1,
        )

    -- a step that accumulates writes no row above the band, and none below it
    once_from : (s : Step)
        → IsStepOf s tasks
        → accumulates s.node.function ≡ true
        → (height y : ℕ)
        → has_row (with_halo s.halo height band) y ≡ true
        → band.start ≤ y
    once_from s i e height y near = elim (program.once s i (reads_own s.node.function e)) [
      | inl (none, own) ↦ omega (arith, none, (halo_has s.halo height band y near).0)
      | inr one ↦ (let z = alone one in omega arith)
    ]

    once_below : (s : Step)
        → IsStepOf s tasks
        → accumulates s.node.function ≡ true
        → (height y : ℕ)
        → height ≤ high
        → y < height
        → band.start + band.count ≤ y
        → has_row (with_halo s.halo height band) y ≡ false
    once_below s i e height y tall low from =
        elim (program.once s i (reads_own s.node.function e)) [
          | inl (none, own) ↦ past_last s.halo none
          | inr one ↦ absurd (let z = alone one in omega arith)
        ]
      where
        past_last : (n : ℕ) → n ≡ 0 → has_row (with_halo n height band) y ≡ false
        past_last n none = grind (arith, nat_tests)

    own_is : (s : Step)
        → IsStepOf s tasks
        → accumulates s.node.function ≡ true
        → IsOwn band images end planes s
    own_is s i e =
        let d = desc_of s i e in
        let sides = sides_of d.1 in
        record {
          row = λ x y across near.
              let there =
              ap (λ (d : Description). has_row (with_halo s.halo d.height band) y) (sym d.0)
              ∙ near in
              let low = (halo_has s.halo (plane planes s.output).desc.height band y there).1 in
              let from = once_from s i e (plane planes s.output).desc.height y there in
              stands.own s i e x y (omega (arith, sides.wide)) from (omega (arith, sides.tall));
          valid = stands.own_valid s i e;
        }

    above_is : (s : Step)
        → IsStepOf s tasks
        → is_integral s.node.function ≡ true
        → HasRowAbove band end planes s
    above_is s i e = elim (program.once s i (reads_above s.node.function e)) [
      | inr one ↦ inl (let z = alone one in omega arith)
      | inl (none, own) ↦
          inr (
            own,
            (λ x y across before low.
                let k = client_of s i own in
                let sides = sides_of (r.clients s.output k).1 in
                stands.above s.output k x y (omega (arith, sides.wide)) (omega arith)
                (omega (arith, sides.tall))),
          )
    ]

    knows : (c more : ℕ)
        → IsNeeded (IsClients slots (length planes)) high tasks c more
        → IsImage (images c)
        × Knows (images c) (plane planes c)
        × Reaches band more (plane planes c)
    knows c more needed =
        let b = begins planes r c more needed in
        let client = program.clients c b.0 in
        let image : plane_image (plane planes c) ≡ images c =
        ap plane_image b.2 ∙ all_read (plane origin c) client.whole client.rows in (
          client.image,
          record {
            alike =
                record {
                  description = ap description_of image;
                  valid = ap
                      (λ (i : ImageValue). i.valid) image;
                };
            samples = λ x y across low there. ap (λ i. pixel_at i x y) image;
          },
          (λ y there.
              let low = (halo_has more (plane planes c).desc.height band y there).1 in
              let h : (plane planes c).desc.height ≡ (plane origin c).desc.height =
              ap (λ (p : PlaneValue). p.desc.height) b.2 in
              let all : (plane planes c).rows ≡ all_rows (plane origin c).desc.height =
              ap (λ (p : PlaneValue). p.rows) b.2 ∙ client.rows in
              subst (λ (b : Band). has_row b y ≡ true) (sym all)
              (in_all (plane origin c).desc.height y (omega arith))),
        )
      where
        in_all : (height y : ℕ) → y < height → has_row (all_rows height) y ≡ true
        in_all height y low = grind (arith, nat_tests)

    pub known : Known tables high slots band end tasks images planes
    known = record {
      can = runs;
      enough = program.enough;
      ends = λ c k. refl;
      was = own_is;
      above = above_is;
      known = knows;
    }

    ran : Ran tables high slots band tasks images planes next
    ran = band_runs tasks images planes runs

    solved : (c : ℕ)
        → Clients c
        → IsImage (end c) × Knows (end c) (plane next c) × Reaches band 0 (plane next c)
    solved c k =
        (band_knows is_next.some below tasks images planes known).known c 0 (
          subst (λ n. IsClients slots n c) (sym ran.count) (now c k),
          refl,
        )

    pub stands_next : Stands (band.start + band.count) next
    stands_next = record {
      alike =
          λ c k. inr
          (let s = solved c k in let a = s.1.alike in
          (record { description = a.description; valid = a.valid }, s.0));
      above = λ c k x y across below low.
          let d = ran.desc c (now c k) ∙ (r.clients c k).1 in
          let sides = sides_of d in
          let sides_before = sides_of (r.clients c k).1 in
          let own = solved c k in
          elim (cases_Bool (has_row (plane next c).rows y)) [
            | inl near ↦
                let readable =
                (ran.can.reads c 0
                (subst (λ n. IsClients slots n c) (sym ran.count) (now c k), refl)).0
                in
                sym
                (read_at (plane next c)
                (ran.can.clients c (subst (λ n. IsClients slots n c) (sym ran.count) (now c k))).0
                (plane next c).rows readable.rows x y (omega (arith, sides.wide)) near)
                ∙ own.1.samples x y (omega (arith, sides.wide)) (omega (arith, sides.tall)) near
            | inr elsewhere ↦
                ran.keeps c (now c k) x y (omega (arith, sides_before.wide))
                (omega (arith, sides_before.tall)) elsewhere
                ∙ stands.above c k x y across
                (above_first (plane next c).desc.height (plane next c).rows y own.2 elsewhere
                below (omega (arith, sides.tall)))
                low
          ];
      own = λ s i e x y across from low.
          let none = own_of s i e in
          let k = client_of s i none in
          let sides_before = sides_of (r.clients s.output k).1 in
          let t = program.tall s.output k in
          ran.keeps s.output (now s.output k) x y (omega (arith, sides_before.wide))
          (omega (arith, sides_before.tall))
          (ap (λ b. has_row b y) (ran.rows s i none) ∙ once_below s i e
          (plane planes s.output).desc.height y (omega (arith, sides_before.tall))
          (omega (arith, sides_before.tall)) from)
          ∙ stands.own s i e x y across (omega arith) low;
      own_valid = λ s i e. inr (solved s.output (client_of s i (own_of s i e))).1.alike.valid;
    }
      where
        above_first : (height : ℕ) (rows : Band) (y : ℕ)
            → ((y : ℕ) → has_row (with_halo 0 height band) y ≡ true → has_row rows y ≡ true)
            → has_row rows y ≡ false
            → y < band.start + band.count
            → y < height
            → y < band.start
        above_first height rows y covers elsewhere below low =
            elim (cases_Bool (has_row (with_halo 0 height band) y)) [
              | inl there ↦ absurd (let e = covers y there in cc)
              | inr absent ↦ outside height y absent below low
            ]
          where
            outside : (height y : ℕ)
                → has_row (with_halo 0 height band) y ≡ false
                → y < band.start + band.count
                → y < height
                → y < band.start
            outside height y absent below low = grind (arith, nat_tests)

  -- after the last band
  pub stands_last : (first : ℕ) (planes : List PlaneValue)
      → high ≤ first
      → Remains planes
      → Stands first planes
      → (c : ℕ)
      → Clients c
      → block_image (plane planes c) ≡ end c
  stands_last first planes past r stands c k = elim (stands.alike c k) [
    | inl z ↦ absurd (let f = program.some in omega arith)
    | inr a ↦
        let sides = sides_of (r.clients c k).1 in
        let t = program.tall c k in
        same_image (plane planes c) (end c) (r.clients c k).0.size a.1.size a.0
        (λ x y across low. stands.above c k x y (omega (arith, sides.wide))
        (omega (arith, sides.tall)) (omega (arith, sides.tall)))
  ]

  -- ---- tallies

  tallied_last : (first : ℕ) (old tallies : List Tally)
      → high ≤ first
      → (tasks : List Task) (images : ℕ → ImageValue)
      → RunsInTurn tables high tasks images
      → AboveInTurn tables first tasks images old tallies
      → AreTallied tables tasks images old tallies
  tallied_last first old tallies past [] images runs above = tt
  tallied_last first old tallies past (Write s ∷ later) images runs above =
      tallied_last first old tallies past later (images_after tables (Write s) images) runs.1 above
  tallied_last first old tallies past (Reduce r ∷ later) images runs above = (
    (let tall = runs.1 in
        above.0
        ∙ ap (λ n. tally_above n (images r.input) (tally_at old r.tally))
        {x = min first (images r.input).height} {y = (images r.input).height} (omega arith)
        ∙ all_above (images r.input) (tally_at old r.tally) runs.0),
    tallied_last first old tallies past later images runs.2 above.1,
  )

  tallied_first : (old : List Tally) (tasks : List Task) (images : ℕ → ImageValue)
      → AreNew tasks old
      → AboveInTurn tables 0 tasks images old old
  tallied_first old [] images new = tt
  tallied_first old (Write s ∷ later) images new =
      tallied_first old later (images_after tables (Write s) images) new
  tallied_first old (Reduce r ∷ later) images new = (
    none_above (images r.input) (tally_at old r.tally) (new r (inl refl))
        ∙ ap (λ n. tally_above n (images r.input) (tally_at old r.tally)) {x = 0}
        {y = min 0 (images r.input).height} (omega arith),
    tallied_first old later images (λ q i. new q (inr i)),
  )

  -- ---- between two bands

  -- before the band that begins with row `first`
  pub record Between (first : ℕ) (planes : List PlaneValue) (old tallies : List Tally) : Type 0
    where
      pub remains : Remains planes
      pub stands : Stands first planes
      pub reduces : CanReduceBand tables first tasks images tallies
      pub above : AboveInTurn tables first tasks images old tallies

  pub between_first : (old : List Tally)
      → CanReduceBand tables 0 tasks images old
      → AreNew tasks old
      → Between 0 origin old old
  between_first old reduces new = record {
    remains = remains_first;
    stands = stands_first;
    reduces = reduces;
    above = tallied_first old tasks images new;
  }

  pub between_next : (band : Band) (planes : List PlaneValue) (old tallies : List Tally)
      → IsNext high size band
      → CanReduceBand tables 0 tasks images old
      → Between band.start planes old tallies
      → Between (band.start + band.count) (after_tasks tables band tasks planes) old
      (all_tallies_after tables band tasks planes tallies)
  between_next band planes old tallies is_next takes b =
      let known = known band planes is_next b.remains b.stands in
      let low : band.start < high = omega arith in
      let t =
      band_tallies is_next.some low old tasks images planes tallies known b.reduces
      takes.reduces b.above in
      record {
        remains = remains_next band planes is_next b.remains;
        stands = stands_next band planes is_next b.remains b.stands;
        reduces = record { apart = takes.apart; reduces = t.reduces };
        above = t.above;
      }

  pub all_tallied : (first : ℕ) (planes : List PlaneValue) (old tallies : List Tally)
      → high ≤ first
      → Between first planes old tallies
      → AreTallied tables tasks images old tallies
  all_tallied first planes old tallies past b =
      tallied_last first old tallies past tasks images program.runs b.above
