-- The assignment of images to slots that the planner computes.
use Rattle.std.specs.Prelude.{◌≡◌, ◌≢◌, ℕ, ◌<◌, ◌≤◌, ◌==◌, ◌⊎◌, List, [], ◌∷◌, ◌++◌, length, map, find, slice_index, slice_index_or, slice_set, Option, Some, None, true}
use Rattle.std.specs.List.{filter}
use Rattle.std.specs.Option.{option_map}
use Rattle.vx_base.specs.Reference.{Reference, same_reference}
use Rattle.vx_base.specs.Description.{sample_count}
use Rattle.graph_verify.specs.Members.{In}
use Rattle.buffer_plan.specs.declared.lives.Life.{Life}
use Rattle.buffer_plan.specs.declared.slots.Placed.{Placed}
use Rattle.buffer_plan.specs.declared.slots.Places.{Places}
use Rattle.buffer_plan.specs.Lives.{is_in}
use Rattle.buffer_plan.specs.Slots.{maximum_of}

-- lives in the order of their first steps; each life ends no earlier than it begins
abbrev pub AreRising : List Life → Type 0
AreRising [] = Unit {0}
AreRising (l ∷ ls) = (l.first ≤ l.last) × ((m : Life) → In m ls → l.first ≤ m.first) × AreRising ls

-- the number of images that are live at a step
abbrev pub count_in : ℕ → List Life → ℕ
count_in step lives = length (filter (is_in step) lives)

-- the slot of an image, if it has one
abbrev pub slot_among : List Placed → Reference → Option ℕ
slot_among placed cell =
    option_map (λ p. p.slot) (find (λ p. same_reference p.life.image.cell cell) placed)

-- the greatest sample count of the images that share a slot
abbrev pub slot_capacity : List Placed → ℕ → ℕ
slot_capacity placed k =
    maximum_of (map (λ p. sample_count p.life.image.desc) (filter (λ p. p.slot == k) placed))

-- an image takes a slot that is free again, or a new slot if none is free. For each slot, `ends`
-- has the last step at which the slot is in use. `ends'` is `ends` after the image takes its slot.
abbrev pub TakesSlot : Life → List ℕ → List ℕ → ℕ → Type 0
TakesSlot l ends ends' slot =
    ((slot < length ends) × (slice_index_or ends slot 0 < l.first)
    × (ends' ≡ slice_set ends slot l.last))
    ⊎ ((slot ≡ length ends) × (ends' ≡ ends ++ l.last ∷ [])
    × ((k : ℕ) → k < length ends → l.first ≤ slice_index_or ends k 0))

-- if p and an image of the list are live at the same step, they have different slots
abbrev pub IsApart : Placed → List Placed → Type 0
IsApart p ps = (q : Placed) (step : ℕ) → In q ps → is_in step p.life ≡ true →
    is_in step q.life ≡ true → p.slot ≢ q.slot

-- no two images that are live together share a slot
abbrev pub AllApart : List Placed → Type 0
AllApart [] = Unit {0}
AllApart (p ∷ ps) = IsApart p ps × AllApart ps

-- at this step the number of live images reaches `count` for the first time
pub record IsReached (lives : List Life) (count step : ℕ) : Type 0 where
  pub some : 0 < count
  pub there : count ≤ count_in step lives
  pub fewer_before : (earlier : ℕ) → earlier < step → count_in earlier lives < count

-- lives with their slots, and the sample count of each slot. If the lives are in the order of their
-- first steps, and each ends no earlier than it begins, then overlapping lives have different
-- slots. In that case the peak step is the first step at which as many images are live as there are
-- slots.
pub record ArePlaced (lives : List Life) (p : Places) : Type 0 where
  pub each : map (λ q. q.life) p.placed.items ≡ lives
  pub below : (q : Placed) → In q p.placed.items → q.slot < length p.samples.items
  pub apart : AreRising lives → AllApart p.placed.items
  pub samples : (k : ℕ) → slice_index p.samples.items k ≡ slot_capacity p.placed.items k
  pub none : p.peak_step ≡ None → length p.samples.items ≡ 0
  pub reached : AreRising lives → (step : ℕ) → p.peak_step ≡ Some step →
      IsReached lives (length p.samples.items) step
