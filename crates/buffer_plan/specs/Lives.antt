-- Lives of the virtual images of a graph, along an order of its nodes. Steps are counted from 1.
use Rattle.std.specs.Prelude.{◌≡◌, ℕ, ◌+◌, ◌-◌, Bool, ◌&&◌, ◌||◌, nat_le, List, map, take, drop}
use Rattle.std.specs.List.{list_any, position_or_len}
use Rattle.vx_base.specs.declared.node.Node.{Node}
use Rattle.vx_base.specs.Reference.{Reference}
use Rattle.graph_verify.specs.declared.known.VirtualOutput.{VirtualOutput}
use Rattle.graph_verify.specs.Links.{reads, writes, is_written}
use Rattle.graph_verify.specs.Members.{In}
use Rattle.buffer_plan.specs.declared.lives.Life.{Life}

-- whether a node of the list reads or writes an operand
abbrev pub is_node_operand : List Node → Reference → Bool
is_node_operand nodes cell = list_any (λ n. reads n cell || writes n cell) nodes

-- whether an operand is live at a step: this step or an earlier one writes the operand, and this
-- step or a later one reads or writes it
abbrev pub is_live : List Node → Reference → ℕ → Bool
is_live steps cell step =
    is_written (take step steps) cell && is_node_operand (drop (step - 1) steps) cell

-- ---- the lives that the planner computes

-- whether a step is within a life
abbrev pub is_in : ℕ → Life → Bool
is_in step l = nat_le l.first step && nat_le step l.last

-- a life has exactly the steps at which the image is live. It begins with the first step that
-- writes the image, or after all steps if no step writes the image.
pub record IsLife (steps : List Node) (l : Life) : Type 0 where
  pub first : l.first ≡ position_or_len (λ n. writes n l.image.cell) steps + 1
  pub live : (step : ℕ) → is_live steps l.image.cell step ≡ is_in step l

-- the lives of these images, in the order of the images
pub record AreLives (steps : List Node) (images : List VirtualOutput)
    (lives : List Life) : Type 0 where
  pub each : map (λ l. l.image) lives ≡ images
  pub exact : (l : Life) → In l lives → IsLife steps l
