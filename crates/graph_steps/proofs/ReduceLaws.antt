-- The reductions of a band, one after the other.
use Rattle.std.proofs.Common.{◌≡◌, ◌≢◌, ℕ, ◌+◌, ◌-◌, ◌*◌, ◌<◌, ◌≤◌, min, List, [], ◌∷◌, length, Option, refl, sym, ◌∙◌, ap, subst, inl, inr, arith}
use Rattle.graph_steps.proofs.Common.{AgreeInRows, Band, CanReduce, CanReduceBand, CanRunBand, Description, ImageValue, IsBounded, IsImage, IsInRows, ObjectValue, PlaneValue, Reduce, ReduceInTurn, Reduces, Reduction, TakesFormat, Tally, Task, Write, after_reduction, after_task, after_tasks, all_tallies_after, get_or-set_other, get_or-set_same, images_after, length-set, plane, plane_image, tallies_after, tally_at, with_halo, with_rows_added, no_extremes}
use Rattle.graph_steps.specs.declared.tally.Tally.TheVariants as tally
use Rattle.graph_steps.specs.Runs.{CanDo}
use Rattle.graph_steps.proofs.TallyLaws.{tally_above, added_above, bounded_above, bounded_less, format_above}
use Rattle.graph_steps.proofs.BandLaws.{halo_within, step_fits, task_next}
use Rattle.graph_steps.proofs.AgreeLaws.{Known, in_halo, known_next, known_skip}

-- ---- one reduction

module _ (rows : Band) (planes : List PlaneValue) (r : Reduction) (tallies : List Tally)
    (there : r.tally < length tallies) where
  pub reduced_there :
      tally_at (after_reduction rows planes r tallies) r.tally
      ≡ with_rows_added (with_halo 0 (plane planes r.input).desc.height rows)
      (plane_image (plane planes r.input)) (tally_at tallies r.tally)
  reduced_there = get_or-set_same tallies r.tally _ (tally.Extremes no_extremes) there

  pub reduced_elsewhere : (k : ℕ)
      → k ≢ r.tally
      → tally_at (after_reduction rows planes r tallies) k ≡ tally_at tallies k
  reduced_elsewhere k other =
      get_or-set_other tallies r.tally k _ (tally.Extremes no_extremes) other

module _ (tables : ℕ → Option ObjectValue) (band : Band) where
  tallies_length : (tasks : List Task) (planes : List PlaneValue) (tallies : List Tally)
      → length (all_tallies_after tables band tasks planes tallies) ≡ length tallies
  tallies_length [] planes tallies = refl
  tallies_length (Write s ∷ later) planes tallies =
      tallies_length later (after_task tables band (Write s) planes) tallies
  tallies_length (Reduce r ∷ later) planes tallies =
      tallies_length later planes (after_reduction band planes r tallies)
      ∙ length-set tallies r.tally _

  -- a tally of no reduction stays
  untouched : (tasks : List Task) (planes : List PlaneValue) (tallies : List Tally) (k : ℕ)
      → ((q : Reduction) → Reduces q tasks → q.tally ≢ k)
      → tally_at (all_tallies_after tables band tasks planes tallies) k ≡ tally_at tallies k
  untouched [] planes tallies k other = refl
  untouched (Write s ∷ later) planes tallies k other =
      untouched later (after_task tables band (Write s) planes) tallies k other
  untouched (Reduce r ∷ later) planes tallies k other =
      untouched later planes (after_reduction band planes r tallies) k (λ q i. other q (inr i))
      ∙ get_or-set_other tallies r.tally k _ (tally.Extremes no_extremes)
      (λ e. other r (inl refl) (sym e))

-- ---- tallies of the rows above a band

-- each reduction has added the rows above row `first` of the whole image that it meets to its old
-- tally
abbrev pub AboveInTurn : (ℕ → Option ObjectValue)
    → ℕ
    → List Task
    → (ℕ → ImageValue)
    → List Tally
    → List Tally
    → Type 0
AboveInTurn tables first [] images old tallies = Unit {0}
AboveInTurn tables first (Write s ∷ later) images old tallies =
    AboveInTurn tables first later (images_after tables (Write s) images) old tallies
AboveInTurn tables first (Reduce r ∷ later) images old tallies =
    (tally_at tallies r.tally
    ≡ tally_above (min first (images r.input).height) (images r.input) (tally_at old r.tally))
    × AboveInTurn tables first later images old tallies

module _ (tables : ℕ → Option ObjectValue) (first : ℕ) where
  -- only the tallies of reductions count
  pub reduce_same : (tasks : List Task) (images : ℕ → ImageValue) (a b : List Tally)
      → length a ≡ length b
      → ((q : Reduction) → Reduces q tasks → tally_at a q.tally ≡ tally_at b q.tally)
      → ReduceInTurn tables first tasks images a → ReduceInTurn tables first tasks images b
  reduce_same [] images a b long same r = tt
  reduce_same (Write s ∷ later) images a b long same r =
      reduce_same later (images_after tables (Write s) images) a b long same r
  reduce_same (Reduce q ∷ later) images a b long same r = (
    (let e = same q (inl refl) in record {
      tally = rw (← long) r.0.tally;
      format = rw (← e) r.0.format;
      bounded = rw (← e)
          r.0.bounded;
    }),
    reduce_same later images a b long (λ p i. same p (inr i)) r.1,
  )

  above_same : (tasks : List Task) (images : ℕ → ImageValue) (old a b : List Tally)
      → ((q : Reduction) → Reduces q tasks → tally_at a q.tally ≡ tally_at b q.tally)
      → AboveInTurn tables first tasks images old a → AboveInTurn tables first tasks images old b
  above_same [] images old a b same r = tt
  above_same (Write s ∷ later) images old a b same r =
      above_same later (images_after tables (Write s) images) old a b same r
  above_same (Reduce q ∷ later) images old a b same r =
      (sym (same q (inl refl)) ∙ r.0, above_same later images old a b (λ p i. same p (inr i)) r.1)

-- ---- one task of a band

module _ {tables : ℕ → Option ObjectValue} (band : Band) where
  -- after a task, the other reductions can still add the band
  pub reduces_next :
      (t : Task) (later : List Task) (images : ℕ → ImageValue) (planes : List PlaneValue)
      (tallies : List Tally)
      → CanReduceBand tables band.start (t ∷ later) images tallies
      → CanReduceBand tables band.start later (images_after tables t images)
      (tallies_after band t planes tallies)
  reduces_next (Write s) later images planes tallies reduces = record {
    apart = reduces.apart;
    reduces = reduces.reduces;
  }
  reduces_next (Reduce r) later images planes tallies reduces =
      let there = reduces.reduces.0.tally in
      record {
        apart = reduces.apart.1;
        reduces =
            reduce_same tables band.start later images tallies
            (after_reduction band planes r tallies) (sym (length-set tallies r.tally _))
            (λ q i. sym
            (reduced_elsewhere band planes r tallies there q.tally (reduces.apart.0 q i)))
            reduces.reduces.1;
      }

module _ {tables : ℕ → Option ObjectValue} {high slots : ℕ} {band : Band} where
  -- the next task can be done, and after it the others can
  can_do :
      (t : Task) (later : List Task) (images : ℕ → ImageValue) (planes : List PlaneValue)
      (tallies : List Tally)
      → CanRunBand tables high slots band (t ∷ later) images planes
      → CanReduceBand tables band.start (t ∷ later) images tallies
      → CanDo tables band t planes tallies
  can_do (Write s) later images planes tallies can reduces = step_fits s later images planes can
  can_do (Reduce r) later images planes tallies can reduces =
      let i = can.reads r.input 0 (inl (refl, refl)) in
      let c = reduces.reduces.0 in (
        can.inputs r (inl refl),
        i.0,
        record {
          tally = c.tally;
          format = subst
              (λ (d : Description). TakesFormat d.format (tally_at tallies r.tally)) (sym i.1)
              c.format;
          bounded = c.bounded;
        },
      )

  pub task_can :
      {t : Task} {rest later : List Task} {images : ℕ → ImageValue} {planes : List PlaneValue}
      {tallies : List Tally}
      → rest ≡ t ∷ later
      → CanRunBand tables high slots band rest images planes
      → CanReduceBand tables band.start rest images tallies
      → CanDo tables band t planes tallies
  task_can is can reduces = can_do _ _ _ _ _ (rw is at can) (rw is at reduces)

-- after the next of the remaining tasks, the others can run, and end as all of these do
pub task_done :
    {tables : ℕ → Option ObjectValue} {high slots : ℕ} {band : Band} {t : Task}
    {rest later : List Task} {images : ℕ → ImageValue} {planes new last : List PlaneValue}
    {tallies counted all : List Tally}
    → rest ≡ t ∷ later
    → CanRunBand tables high slots band rest images planes
    → CanReduceBand tables band.start rest images tallies
    → new ≡ after_task tables band t planes
    → counted ≡ tallies_after band t planes tallies
    → after_tasks tables band rest planes ≡ last
    → all_tallies_after tables band rest planes tallies ≡ all
    → CanRunBand tables high slots band later (images_after tables t images) new
    × CanReduceBand tables band.start later (images_after tables t images) counted
    × (after_tasks tables band later new ≡ last)
    × (all_tallies_after tables band later new counted ≡ all)
task_done {tables} {high} {slots} {band} {t} {rest} {later} {images} {planes} {new} {last}
    {tallies} {counted} {all} is can_rest reduces_rest ran added ends sums =
    let can =
    subst (λ (l : List Task). CanRunBand tables high slots band l images planes) is can_rest in
    let reduces =
    subst (λ (l : List Task). CanReduceBand tables band.start l images tallies) is reduces_rest in (
      rw ran (task_next t later images planes can),
      rw added (reduces_next band t later images planes tallies reduces),
      ap (after_tasks tables band later) ran
          ∙ ap (λ (l : List Task). after_tasks tables band l planes) (sym is)
          ∙ ends,
      ap (λ (l : List PlaneValue). all_tallies_after tables band later l counted) ran
          ∙ ap (all_tallies_after tables band later (after_task tables band t planes)) added
          ∙ ap (λ (l : List Task). all_tallies_after tables band l planes tallies) (sym is)
          ∙ sums,
    )

-- ---- all tasks of a band

-- the tallies when a band comes to these tasks
pub record Tallied (tables : ℕ → Option ObjectValue) (first : ℕ) (tasks : List Task)
    (images : ℕ → ImageValue) (old tallies : List Tally) : Type 0 where
  pub reduces : ReduceInTurn tables first tasks images tallies
  pub above : AboveInTurn tables first tasks images old tallies

-- a reduction that has added rows can add more
reduces_more :
    (old : List Tally) (first : ℕ) (image : ImageValue) (r : Reduction) (tallies after : List Tally)
    → IsImage image
    → TakesFormat image.format (tally_at old r.tally)
    → length after ≡ length tallies
    → r.tally < length tallies
    → tally_at after r.tally ≡ tally_above (min first image.height) image (tally_at old r.tally)
    → CanReduce first image after r
reduces_more old first image r tallies after is takes long there added = record {
  tally = omega (arith, long);
  format =
      subst (TakesFormat image.format) (sym added)
      (format_above (min first image.height) image (tally_at old r.tally) takes);
  bounded =
      subst (IsBounded (first * 8192)) (sym added)
      (bounded_less (min first image.height * 8192) (first * 8192)
      (tally_above (min first image.height) image (tally_at old r.tally)) (omega arith)
      (bounded_above (min first image.height) image (tally_at old r.tally) is));
}

module _ {tables : ℕ → Option ObjectValue} {high slots : ℕ} {band : Band}
    (some : 1 ≤ band.count) (below : band.start < high) {end : ℕ → ImageValue} (old : List Tally)
  where
    -- one reduction adds the rows of the band
    module _ (r : Reduction) (later : List Task) (images : ℕ → ImageValue)
        (planes : List PlaneValue) (tallies : List Tally)
        (k : Known tables high slots band end (Reduce r ∷ later) images planes) where
      abbrev image : ImageValue
      image = images r.input

      abbrev height : ℕ
      height = (plane planes r.input).desc.height

      abbrev rows : Band
      rows = with_halo 0 height band

      same_height : height ≡ image.height
      same_height = ap (λ (d : Description). d.height) (k.can.reads r.input 0 (inl (refl, refl))).1

      agrees :
          AgreeInRows band.start (band.start + band.count - 1)
          (plane_image (plane planes r.input)) image
      agrees =
          let i = k.known r.input 0 (inl (refl, refl)) in
          record {
            alike = i.1.alike;
            samples =
                λ x y across low from to. i.1.samples x y across low
                (i.2 y (in_halo 0 height band y (omega arith) low (omega arith)));
          }

      added :
          tally_at tallies r.tally
          ≡ tally_above (min band.start image.height) image (tally_at old r.tally)
          → with_rows_added rows (plane_image (plane planes r.input)) (tally_at tallies r.tally)
          ≡ tally_above (min (band.start + band.count) image.height) image (tally_at old r.tally)
      added before =
          let h = same_height in
          ap (with_rows_added rows (plane_image (plane planes r.input)))
          (before ∙ ap (λ n. tally_above n image (tally_at old r.tally))
          {x = min band.start image.height} {y = rows.start} (omega arith))
          ∙ added_above rows band.start (band.start + band.count - 1)
          (plane_image (plane planes r.input)) image (tally_at old r.tally) k.can.runs.0 agrees
          (λ y from to. (omega arith, omega arith))
          (subst (λ n. IsInRows n rows) h (halo_within 0 height band))
          ∙ ap (λ n. tally_above n image (tally_at old r.tally)) {x = rows.start + rows.count}
          {y = min (band.start + band.count) image.height} (omega arith)

    pub band_tallies :
        (tasks : List Task) (images : ℕ → ImageValue) (planes : List PlaneValue)
        (tallies : List Tally)
        → Known tables high slots band end tasks images planes
        → CanReduceBand tables band.start tasks images tallies
        → ReduceInTurn tables 0 tasks images old
        → AboveInTurn tables band.start tasks images old tallies
        → Tallied tables (band.start + band.count) tasks images old
        (all_tallies_after tables band tasks planes tallies)
    band_tallies [] images planes tallies k reduces takes above = record {
      reduces = tt;
      above = tt;
    }
    band_tallies (Write s ∷ later) images planes tallies k reduces takes above =
        let rest =
        band_tallies later (images_after tables (Write s) images)
        (after_task tables band (Write s) planes) tallies
        (known_next some below s later images planes k)
        (reduces_next band (Write s) later images planes tallies reduces) takes above in
        record { reduces = rest.reduces; above = rest.above }
    band_tallies (Reduce r ∷ later) images planes tallies k reduces takes above =
        let there = reduces.reduces.0.tally in
        let counted : List Tally = after_reduction band planes r tallies in
        let all : List Tally = all_tallies_after tables band later planes counted in
        let other =
        λ (q : Reduction) (i : Reduces q later). reduced_elsewhere band planes r tallies there
        q.tally (reduces.apart.0 q i) in
        let rest =
        band_tallies later images planes counted (known_skip some below r later images planes k)
        (reduces_next band (Reduce r) later images planes tallies reduces) takes.1
        (above_same tables band.start later images old tallies counted (λ q i. sym (other q i))
        above.1)
        in
        let is :
        tally_at all r.tally
        ≡ tally_above (min (band.start + band.count) (images r.input).height) (images r.input)
        (tally_at old r.tally) =
        untouched tables band later planes counted r.tally reduces.apart.0
        ∙ reduced_there band planes r tallies there
        ∙ added r later images planes tallies k above.0 in
        record {
          reduces = (
            reduces_more old (band.start + band.count) (images r.input) r tallies all k.can.runs.0
                takes.0.format
                (tallies_length tables band later planes counted ∙ length-set tallies r.tally _)
                there
                is,
            rest.reduces,
          );
          above = (is, rest.above);
        }
