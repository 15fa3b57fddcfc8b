-- A plan's view, from the slots of each format.
use Rattle.std.specs.Prelude.{List, length, slice_index}
use Rattle.std.specs.Option.{option_or}
use Rattle.vx_base.specs.declared.format.Format.{Format}
use Rattle.vx_base.specs.declared.format.Format.TheVariants.{U8, S16, U32}
use Rattle.vx_base.specs.declared.node.Node.{Node}
use Rattle.graph_verify.specs.declared.known.VirtualOutput.{VirtualOutput}
use Rattle.buffer_plan.specs.declared.lives.Life.{Life}
use Rattle.buffer_plan.specs.declared.plan.Plan.{Plan}
use Rattle.buffer_plan.specs.declared.slots.Places.{Places}
use Rattle.buffer_plan.specs.Lives.{AreLives}
use Rattle.buffer_plan.specs.Placed.{slot_among, ArePlaced}
use Rattle.buffer_plan.specs.Plan.{PlanView}
use Rattle.buffer_plan.specs.Slots.{of_format}

-- the slots of the images of a format
abbrev pub places_in : Plan → Format → Places
places_in p U8 = p.u8s
places_in p S16 = p.s16s
places_in p U32 = p.u32s

-- the view of a plan
abbrev pub plan_view : Plan → PlanView
plan_view p =
    record {
      slot_of = λ cell. option_or
          (option_or (slot_among p.u8s.placed.items cell) (slot_among p.s16s.placed.items cell))
          (slot_among p.u32s.placed.items cell);
      slot_count = λ format. length (places_in p format).samples.items;
      slot_samples = λ format k. slice_index (places_in p format).samples.items k;
      peak_step = λ format. (places_in p format).peak_step;
    }

-- the images of a format, each with its exact life and its slot
pub record IsPlacedFor (steps : List Node) (images : List VirtualOutput) (format : Format)
    (p : Places) : Type 0 where
  pub lives : List Life
  pub are_lives : AreLives steps (of_format format images) lives
  pub placed : ArePlaced lives p
