-- Plans: slots for the virtual images that a graph's nodes write.
use Rattle.std.specs.Prelude.{◌≡◌, ℕ, ◌<◌, false, List, map, Option, IfSome, is_some}
use Rattle.std.specs.List.{list_any, filter}
use Rattle.vx_base.specs.declared.format.Format.{Format}
use Rattle.vx_base.specs.declared.node.Node.{Node}
use Rattle.vx_base.specs.Reference.{Reference, same_reference}
use Rattle.vx_base.specs.Description.{sample_count}
use Rattle.graph_verify.specs.declared.known.VirtualOutput.{VirtualOutput}
use Rattle.graph_verify.specs.Links.{has_twice}
use Rattle.graph_verify.specs.Members.{In}
use Rattle.buffer_plan.specs.Slots.{of_format, is_slot, maximum_of, IsValid, IsPeak}

-- a plan's view: the slot of each image, and for each format the number of slots, the sample count
-- of each slot, and the first step that needs all slots
pub record PlanView : Type 0 where
  pub slot_of : Reference → Option ℕ
  pub slot_count : Format → ℕ
  pub slot_samples : Format → ℕ → ℕ
  pub peak_step : Format → Option ℕ

-- a valid plan with a slot for each image and for nothing else. The number of slots of a format is
-- the greatest number of its images that are live at one step. The sample count of a slot is the
-- greatest sample count of the images that share the slot.
pub record IsPlan (steps : List Node) (images : List VirtualOutput) (p : PlanView) : Type 0 where
  pub once : has_twice (map (λ o. o.cell) images) ≡ false
  pub given : (cell : Reference) →
      is_some (p.slot_of cell) ≡ list_any (λ o. same_reference o.cell cell) images
  pub valid : IsValid steps images p.slot_of
  pub below : (o : VirtualOutput) → In o images →
      IfSome (p.slot_of o.cell) (λ k. k < p.slot_count o.desc.format)
  pub peak : (format : Format) →
      IsPeak steps images format (p.slot_count format) (p.peak_step format)
  pub samples : (format : Format) (k : ℕ) →
      p.slot_samples format k ≡ maximum_of (map (λ o. sample_count o.desc)
      (filter (λ o. is_slot k (p.slot_of o.cell)) (of_format format images)))
