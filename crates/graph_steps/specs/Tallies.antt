-- Tallies: the results of reductions for the bands that have run so far.
use Rattle.std.specs.Prelude.{ℕ, ◌+◌, ◌*◌, ◌<◌, ◌≤◌, ◌^◌, ◌≡◌, ◌≢◌, List, [], ◌∷◌, length, replicate, slice_index, slice_index_or, slice_set, Option}
use Rattle.vx_base.specs.declared.format.Format.{Format}
use Rattle.vx_base.specs.declared.format.Format.TheVariants.{U8, U32}
use Rattle.vx_base.specs.Image.{ImageValue}
use Rattle.vx_base.specs.Object.{DistributionValue, no_extremes, ObjectValue}
use Rattle.vx_base.specs.Statistics.{extremes, histogram, valid_samples}
use Rattle.image_core.specs.declared.band.Band.{Band}
use Rattle.stat_kernels.specs.Counts.{bin_sums}
use Rattle.stat_kernels.specs.Extreme.{added_extremes}
use Rattle.stat_kernels.specs.Part.{valid_in}
use Rattle.graph_steps.specs.declared.step.Reduction.{Reduction}
use Rattle.graph_steps.specs.declared.step.Task.{Task}
use Rattle.graph_steps.specs.declared.step.Task.TheVariants.{Write, Reduce}
use Rattle.graph_steps.specs.declared.tally.Tally.{Tally}
use Rattle.graph_steps.specs.declared.tally.Tally.TheVariants as tally
use Rattle.graph_steps.specs.Planes.{PlaneValue, plane, plane_image, with_halo}
use Rattle.graph_steps.specs.Program.{Reduces, after_task, images_after}

-- ---- one tally

-- the histogram with these rows of an image added
abbrev pub with_rows_counted : Band → ImageValue → DistributionValue → DistributionValue
with_rows_counted rows image d = record {
  bins = d.bins;
  counts = bin_sums d.counts (histogram d.bins (valid_in rows image));
}

-- a tally with these rows of an image added
abbrev pub with_rows_added : Band → ImageValue → Tally → Tally
with_rows_added rows image (tally.Histogram d) = tally.Histogram (with_rows_counted rows image d)
with_rows_added rows image (tally.Extremes e) =
    tally.Extremes (added_extremes 0 e (extremes (valid_in rows image)))

-- the tally of a whole image
abbrev pub tally_of : ImageValue → Tally → Tally
tally_of image (tally.Histogram d) =
    tally.Histogram (record { bins = d.bins; counts = histogram d.bins image })
tally_of image (tally.Extremes e) = tally.Extremes (extremes image)

-- nothing was added to the tally
abbrev pub IsNew : Tally → Type 0
IsNew (tally.Histogram d) = d.counts ≡ replicate d.bins.bins 0
IsNew (tally.Extremes e) = e ≡ no_extremes

-- images of this format can be added to the tally
abbrev pub TakesFormat : Format → Tally → Type 0
TakesFormat format (tally.Histogram d) = format ≡ U8
TakesFormat format (tally.Extremes e) = format ≢ U32

-- no count exceeds 32 bits when these rows are added, even if one bin gets all their valid samples
abbrev pub CountsFit : Band → ImageValue → Tally → Type 0
CountsFit rows image (tally.Histogram d) =
    (k : ℕ) → slice_index d.counts k + length (valid_samples (valid_in rows image)) < 2 ^ 32
CountsFit rows image (tally.Extremes e) =
    (e.min_count + (extremes (valid_in rows image)).min_count < 2 ^ 32)
    × (e.max_count + (extremes (valid_in rows image)).max_count < 2 ^ 32)

-- these rows of an image can be added to the tally
pub record CanAdd (rows : Band) (image : ImageValue) (t : Tally) : Type 0 where
  pub format : TakesFormat image.format t
  pub room : CountsFit rows image t

-- no count of the tally exceeds `most`, and a histogram has a count for each bin
abbrev pub IsBounded : ℕ → Tally → Type 0
IsBounded most (tally.Histogram d) =
    (length d.counts ≡ d.bins.bins) × ((k : ℕ) → slice_index d.counts k ≤ most)
IsBounded most (tally.Extremes e) = (e.min_count ≤ most) × (e.max_count ≤ most)

-- ---- all tallies

-- the tally at an index
abbrev pub tally_at : List Tally → ℕ → Tally
tally_at tallies k = slice_index_or tallies k (tally.Extremes no_extremes)

-- the tallies after a reduction has run on a band
abbrev pub after_reduction : Band → List PlaneValue → Reduction → List Tally → List Tally
after_reduction rows planes r tallies =
    slice_set tallies r.tally
    (with_rows_added (with_halo 0 (plane planes r.input).desc.height rows)
    (plane_image (plane planes r.input)) (tally_at tallies r.tally))

-- the tallies after a task on a band
abbrev pub tallies_after : Band → Task → List PlaneValue → List Tally → List Tally
tallies_after rows (Write s) planes tallies = tallies
tallies_after rows (Reduce r) planes tallies = after_reduction rows planes r tallies

-- the tallies after all tasks on a band, in order
abbrev pub all_tallies_after : (ℕ → Option ObjectValue)
    → Band
    → List Task
    → List PlaneValue
    → List Tally
    → List Tally
all_tallies_after tables rows [] planes tallies = tallies
all_tallies_after tables rows (t ∷ later) planes tallies =
    all_tallies_after tables rows later (after_task tables rows t planes)
    (tallies_after rows t planes tallies)

-- no two reductions share a tally
abbrev pub HaveOneReduction : List Task → Type 0
HaveOneReduction [] = Unit {0}
HaveOneReduction (Write s ∷ later) = HaveOneReduction later
HaveOneReduction (Reduce r ∷ later) =
    ((q : Reduction) → Reduces q later → q.tally ≢ r.tally) × HaveOneReduction later

-- a reduction can add rows of this image, from row `first` on
pub record CanReduce (first : ℕ) (image : ImageValue) (tallies : List Tally) (r : Reduction) :
    Type 0 where
  pub tally : r.tally < length tallies
  pub format : TakesFormat image.format (tally_at tallies r.tally)
  pub bounded : IsBounded (first * 8192) (tally_at tallies r.tally)

-- each reduction can add rows of the whole image that it meets, from row `first` on
abbrev pub ReduceInTurn : (ℕ → Option ObjectValue)
    → ℕ
    → List Task
    → (ℕ → ImageValue)
    → List Tally
    → Type 0
ReduceInTurn tables first [] images tallies = Unit {0}
ReduceInTurn tables first (Write s ∷ later) images tallies =
    ReduceInTurn tables first later (images_after tables (Write s) images) tallies
ReduceInTurn tables first (Reduce r ∷ later) images tallies =
    CanReduce first (images r.input) tallies r × ReduceInTurn tables first later images tallies

-- the tally of each reduction is new
abbrev pub AreNew : List Task → List Tally → Type 0
AreNew tasks tallies = (r : Reduction) → Reduces r tasks → IsNew (tally_at tallies r.tally)

-- each reduction has made its tally of the whole image that it meets
abbrev pub AreTallied : (ℕ → Option ObjectValue)
    → List Task
    → (ℕ → ImageValue)
    → List Tally
    → List Tally
    → Type 0
AreTallied tables [] images old tallies = Unit {0}
AreTallied tables (Write s ∷ later) images old tallies =
    AreTallied tables later (images_after tables (Write s) images) old tallies
AreTallied tables (Reduce r ∷ later) images old tallies =
    (tally_at tallies r.tally ≡ tally_of (images r.input) (tally_at old r.tally))
    × AreTallied tables later images old tallies
