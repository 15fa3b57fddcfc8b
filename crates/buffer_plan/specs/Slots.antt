-- Slots of virtual images: valid assignments, and the number of slots that a format needs.
use Rattle.std.specs.Prelude.{◌≡◌, ℕ, ◌<◌, ◌≤◌, ◌==◌, Bool, false, List, [], ◌∷◌, length, nat_le, if◌then◌else◌, Option, Some, None}
use Rattle.std.specs.List.{filter}
use Rattle.vx_base.specs.declared.format.Format.{Format}
use Rattle.vx_base.specs.declared.node.Node.{Node}
use Rattle.vx_base.specs.Reference.{Reference}
use Rattle.vx_base.specs.Sample.{same_format}
use Rattle.graph_verify.specs.declared.known.VirtualOutput.{VirtualOutput}
use Rattle.graph_verify.specs.Members.{In}
use Rattle.buffer_plan.specs.Lives.{is_live}

-- the images of a format
abbrev pub of_format : Format → List VirtualOutput → List VirtualOutput
of_format format images = filter (λ o. same_format o.desc.format format) images

-- the images of a format that are live at a step
abbrev pub live_images : List Node → List VirtualOutput → Format → ℕ → List VirtualOutput
live_images steps images format step =
    filter (λ o. is_live steps o.cell step) (of_format format images)

-- a valid assignment: no two images of one format share a slot if both are live at the same step
abbrev pub IsValid : {S : Type 0} → List Node → List VirtualOutput → (Reference → S) → Type 0
IsValid steps images slot = (format : Format) (step : ℕ) (a b : VirtualOutput) →
    In a (live_images steps images format step) → In b (live_images steps images format step) →
    slot a.cell ≡ slot b.cell → a ≡ b

-- a list that includes the slot of each image of the format
abbrev pub AreSlotsOf : {S : Type 0}
    → (Reference → S)
    → Format
    → List VirtualOutput
    → List S
    → Type 0
AreSlotsOf slot format images slots = (o : VirtualOutput) → In o (of_format format images) →
    In (slot o.cell) slots

-- the first step at which `count` images of the format are live
pub record IsFirstWith (steps : List Node) (images : List VirtualOutput) (format : Format)
    (count step : ℕ) : Type 0 where
  pub some : 0 < count
  pub there : length (live_images steps images format step) ≡ count
  pub fewer_before : (earlier : ℕ) → earlier < step →
      length (live_images steps images format earlier) < count

-- the peak of a format: the greatest number of its images that are live at one step, and the first
-- step with this number of live images. The step is None if the number is 0.
pub record IsPeak (steps : List Node) (images : List VirtualOutput) (format : Format) (count : ℕ)
    (first : Option ℕ) : Type 0 where
  pub most : (step : ℕ) → length (live_images steps images format step) ≤ count
  pub none : first ≡ None → count ≡ 0
  pub some : (step : ℕ) → first ≡ Some step → IsFirstWith steps images format count step

-- the greatest of these numbers, or 0 if there are none
abbrev pub maximum_of : List ℕ → ℕ
maximum_of [] = 0
maximum_of (n ∷ ns) = if nat_le n (maximum_of ns) then maximum_of ns else n

-- whether the slot is k; false if there is no slot
abbrev pub is_slot : ℕ → Option ℕ → Bool
is_slot k None = false
is_slot k (Some slot) = slot == k
