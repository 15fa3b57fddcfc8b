-- Tasks of a graph over planes.
use Rattle.std.specs.Prelude.{true, ◌≡◌, ◌≢◌, ◌<◌, ◌^◌, ℕ, Bool, false, ◌+◌, List, [], ◌∷◌, ◌++◌, drop, length, map, Option, Some, None}
use Rattle.std.specs.List.{filter, find, flat_map}
use Rattle.std.specs.Option.{option_map}
use Rattle.vx_base.specs.declared.kind.Kind.{Kind}
use Rattle.vx_base.specs.declared.kind.Kind.TheVariants as kind
use Rattle.vx_base.specs.declared.node.Node.{Node}
use Rattle.vx_base.specs.declared.output.Output.{Output}
use Rattle.vx_base.specs.declared.output.Output.TheVariants.{First, Second}
use Rattle.vx_base.specs.Reference.{Reference, same_reference}
use Rattle.vx_base.specs.Description.{Description}
use Rattle.vx_base.specs.Function.{accumulates, parameters}
use Rattle.vx_base.specs.Node.{outputs, second_kind}
use Rattle.graph_steps.specs.declared.step.SecondSource.{SecondSource}
use Rattle.graph_steps.specs.declared.step.SecondSource.TheVariants.{Nothing, Plane, Table}
use Rattle.graph_steps.specs.declared.step.Step.{Step}
use Rattle.graph_steps.specs.declared.step.Task.{Task}
use Rattle.graph_steps.specs.declared.step.Task.TheVariants.{Write, Reduce}
use Rattle.graph_verify.specs.declared.known.VirtualOutput.{VirtualOutput}
use Rattle.graph_verify.specs.Links.{feeds}
use Rattle.graph_verify.specs.Members.{In}
use Rattle.graph_verify.specs.Order.{InTurn}
use Rattle.graph_verify.specs.Verdict.{two_writers}
use Rattle.buffer_plan.specs.Plan.{IsPlan, PlanView}
use Rattle.graph_run.specs.Cells.{images_named, index_of, node_images, with_cells}
use Rattle.graph_run.specs.Slots.{slot_index_of, slot_total}

-- ---- planes of images

-- the virtual image with this reference, if the nodes write it
abbrev pub virtual_output : List VirtualOutput → Reference → Option VirtualOutput
virtual_output outs c = find (λ o. same_reference o.cell c) outs

-- the description of a virtual image; None for any other object
abbrev pub virtual_description : List VirtualOutput → Reference → Option Description
virtual_description outs c = option_map (λ o. o.desc) (virtual_output outs c)

-- the index of an image's plane, given the virtual image: first come the planes of the slots, then
-- those of the client's images
abbrev pub plane_by : PlanView → ℕ → List Reference → Reference → Option VirtualOutput → ℕ
plane_by p slots clients c None = slots + index_of clients c
plane_by p slots clients c (Some o) = slot_index_of p o

-- the index of an image's plane
abbrev pub plane_of : PlanView → List VirtualOutput → ℕ → List Reference → Reference → ℕ
plane_of p outs slots clients c = plane_by p slots clients c (virtual_output outs c)

-- each plane's index is below 2^64
abbrev pub HasIndices : PlanView → List VirtualOutput → ℕ → List Reference → Type 0
HasIndices p outs slots clients =
    ((o : VirtualOutput) → In o outs → slot_index_of p o < 2 ^ 64)
    × (slots + length clients < 2 ^ 64)

-- ---- tasks

-- the source of a step's second input: a plane, or the lookup table, threshold or matrix of the
-- node at index `at`; Nothing if the node has no second input
abbrev pub source : (Reference → ℕ) → ℕ → Kind → Option Reference → SecondSource
source plane at k None = Nothing
source plane at kind.Image (Some c) = Plane (plane c)
source plane at other (Some c) = Table at

-- the step that writes an output of a node, given the plane of each image, the descriptions of the
-- virtual images, and the nodes' radii; its halo isn't known yet
abbrev pub step_for : (Reference → ℕ)
    → (Reference → Option Description)
    → (Node → ℕ)
    → ℕ
    → Node
    → Output
    → Reference
    → Step
step_for plane describes radius at n which output =
    record {
      node = n;
      which = which;
      first = plane n.in1;
      second = source plane at (second_kind n) n.in2;
      output = plane output;
      describes = describes output;
      radius = radius n;
      halo = 0;
    }

-- the task that writes a node's output; none if the output isn't given
abbrev pub write_given : (Reference → ℕ)
    → (Reference → Option Description)
    → (Node → ℕ)
    → ℕ
    → Node
    → Output
    → Option Reference
    → List Task
write_given plane describes radius at n which None = []
write_given plane describes radius at n which (Some output) =
    Write (step_for plane describes radius at n which output) ∷ []

-- the tasks of a node, by the kind of its outputs; `tally` is the index of the next tally
abbrev pub tasks_by : (Reference → ℕ)
    → (Reference → Option Description)
    → (Node → ℕ)
    → ℕ
    → ℕ
    → Node
    → Kind
    → List Task
tasks_by plane describes radius at tally n kind.Image =
    write_given plane describes radius at n First n.out1
    ++ write_given plane describes radius at n Second n.out2
tasks_by plane describes radius at tally n other =
    Reduce (record { input = plane n.in1; tally = tally }) ∷ []

-- the index of the next tally after a node's tasks, if it was `tally` before them
abbrev pub tally_after : ℕ → Kind → ℕ
tally_after tally kind.Image = tally
tally_after tally other = tally + 1

-- the tasks of these nodes; the first node has index `at` in the order of the run
abbrev pub tasks_from : (Reference → ℕ)
    → (Reference → Option Description)
    → (Node → ℕ)
    → ℕ
    → ℕ
    → List Node
    → List Task
tasks_from plane describes radius at tally [] = []
tasks_from plane describes radius at tally (n ∷ nodes) =
    tasks_by plane describes radius at tally n (parameters n.function).output
    ++ tasks_from plane describes radius (at + 1)
    (tally_after tally (parameters n.function).output) nodes

-- the tasks of all nodes
abbrev pub tasks_of : (Reference → ℕ)
    → (Reference → Option Description)
    → (Node → ℕ)
    → List Node
    → List Task
tasks_of plane describes radius nodes = tasks_from plane describes radius 0 0 nodes

-- a node that writes no image has no virtual output
abbrev pub WriteImages : (Reference → Bool) → List Node → Type 0
WriteImages is_virtual nodes =
    (n : Node)
    → In n nodes
    → (parameters n.function).output ≢ kind.Image
    → filter is_virtual (outputs n) ≡ []

-- the list has the references to the images that nodes read or write
abbrev pub AreNamed : List Reference → List Node → Type 0
AreNamed cells nodes = (n : Node) → In n nodes → (c : Reference) → In c (node_images n) → In c cells

-- ---- graphs that have tasks

-- the nodes are in an order in which they can run. `outs` has the virtual images that they write,
-- in the order of writing, and `p` is a plan for these images.
pub record HaveTasks (steps : List Node) (outs : List VirtualOutput) (p : PlanView)
    (is_virtual : Reference → Bool) : Type 0 where
  pub plan : IsPlan steps outs p
  pub order : map (λ o. o.cell) outs ≡ filter is_virtual (flat_map outputs steps)
  pub images : WriteImages is_virtual steps
  pub turn : InTurn feeds steps
  pub writers : two_writers steps ≡ false
  -- a node that accumulates writes a client's image
  pub adds : (n : Node)
      → In n steps
      → accumulates n.function ≡ true
      → (c : Reference)
      → In c (outputs n)
      → is_virtual c ≡ false

-- references to the images of a graph, each image once: first the virtual images in `outs`, then
-- the other images that the nodes in `steps` read or write
abbrev pub graph_cells : List Node → List VirtualOutput → List Reference
graph_cells steps outs = with_cells (map (λ o. o.cell) outs) (images_named steps)

-- references to the client's images that the nodes read or write
abbrev pub client_cells : List Node → List VirtualOutput → List Reference
client_cells steps outs = drop (length outs) (graph_cells steps outs)

-- the plane of each image of the graph
abbrev pub graph_plane : List Node → List VirtualOutput → PlanView → Reference → ℕ
graph_plane steps outs p = plane_of p outs (slot_total p) (client_cells steps outs)

-- the tasks of the graph
abbrev pub graph_tasks : List Node → List VirtualOutput → PlanView → (Node → ℕ) → List Task
graph_tasks steps outs p radius =
    tasks_of (graph_plane steps outs p) (virtual_description outs) radius steps
