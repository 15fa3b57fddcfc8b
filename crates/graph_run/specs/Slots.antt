-- The slots of a plan for the virtual images of a graph, in one list.
use Rattle.std.specs.Prelude.{ℕ, ◌+◌, List, ◌++◌, map, unwrap_or}
use Rattle.std.specs.List.{range_with_len}
use Rattle.vx_base.specs.declared.format.Format.{Format}
use Rattle.vx_base.specs.declared.format.Format.TheVariants.{U8, S16, U32}
use Rattle.graph_verify.specs.declared.known.VirtualOutput.{VirtualOutput}
use Rattle.buffer_plan.specs.Plan.{PlanView}

-- the index of slot k of a format among the slots of all formats: the slots of U8 come first, then
-- the slots of S16, then the slots of U32
abbrev pub slot_index : PlanView → Format → ℕ → ℕ
slot_index p U8 k = k
slot_index p S16 k = p.slot_count U8 + k
slot_index p U32 k = p.slot_count U8 + p.slot_count S16 + k

-- the index of a virtual image's slot among the slots of all formats
abbrev pub slot_index_of : PlanView → VirtualOutput → ℕ
slot_index_of p o = slot_index p o.desc.format (unwrap_or (p.slot_of o.cell) 0)

-- the number of slots of all formats
abbrev pub slot_total : PlanView → ℕ
slot_total p = p.slot_count U8 + p.slot_count S16 + p.slot_count U32

-- for each of a plan's slots of this format: the format and the slot's size
abbrev pub capacities_for : PlanView → Format → List (Format × ℕ)
capacities_for p format =
    map (λ k. (format, p.slot_samples format k)) (range_with_len 0 (p.slot_count format))

-- the format and size of each slot of a plan, U8 first, then S16, then U32
abbrev pub planned_capacities : PlanView → List (Format × ℕ)
planned_capacities p = capacities_for p U8 ++ capacities_for p S16 ++ capacities_for p U32
