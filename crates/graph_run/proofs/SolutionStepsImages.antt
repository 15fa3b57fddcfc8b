-- The images that a graph names, and what its nodes write to them.
use Rattle.std.proofs.Common.{◌≡◌, ◌≢◌, Bool, true, false, List, [], map, length, drop, refl, sym, ap, subst, ◌∙◌, inl, inr, arith, All, Option, Some, ◌⊎◌, unwrap_or, option_map, option_and_then}
use Rattle.graph_run.proofs.Common.{accumulates, second_or_output, Reference, Description, false_from_ne_true, flat_map, Function, object_at, HoldsImage, HoldsKind, image_held, Image, ImageObject, ImageValue, In, In-append, In-filter, In-from_any, In-from_filter, In-from_flat_map, In-from_same, In-left, In-right, is_virtual, is_virtual_object, is_written, Kind, NamedObject, names_cell, Node, node_image, node_output, object_held, object_kind, ObjectValue, operands, Output, First, Second, outputs, parameters, second_kind, has_twice, description_of, Operand, Verified, VirtualOutput, written_from, written_in, writes}
use Rattle.vx_base.specs.declared.kind.Kind.TheVariants as kind
use Rattle.graph_run.specs.declared.schedule.Schedule.{Schedule}
use Rattle.graph_run.specs.Cells.{images_named, node_images}
use Rattle.graph_run.specs.Program.{table_by}
use Rattle.graph_run.specs.Schedule.{CanRunBy}
use Rattle.graph_run.specs.Tasks.{HaveTasks, graph_cells}
use Rattle.graph_run.proofs.CellLemmas.{held_image}
use Rattle.graph_run.proofs.IndexLemmas.{cells_parts, in_either, once_all}
use Rattle.graph_run.proofs.LinkLaws.{In-from_All}
use Rattle.graph_run.proofs.OperandLaws.{virtual_written}
use Rattle.graph_run.proofs.ProgramLemmas.{all_named, image_named}
use Rattle.graph_run.proofs.TaskLemmas.{in_outputs_at, out_at}
use Rattle.graph_run.proofs.ReadyLemmas.{client_outside as outside, second_operand, clients_hold, have_tasks, image_operand, in_with_kind}
use Rattle.graph_run.proofs.RunLemmas.{second_no_delay}
use Rattle.graph_run.proofs.SolutionStepsEnds.{first, first_kinds, first_real, graph_can, in_nodes, in_steps, is, last, last_kinds, named_real, solves}
use Rattle.graph_run.proofs.SolutionStepsTasks.{image_or}
use Rattle.graph_run.proofs.VerifiedLemmas.{named_by_output, operand_named}

-- ---- kinds

-- nodes write images, distributions and extremes, and read none but images of these
abbrev written_kind : Kind → Bool
written_kind kind.Image = true
written_kind kind.Distribution = true
written_kind kind.Extremes = true
written_kind other = false

output_kinds : (f : Function) → written_kind (parameters f).output ≡ true
output_kinds f = grind arith

pub second_kinds : (f : Function)
    → unwrap_or (parameters f).second_input kind.Image ≢ kind.Image
    → written_kind (unwrap_or (parameters f).second_input kind.Image) ≡ false
second_kinds f other = grind arith

-- an output of a node is one of its operands, and so is its second input
pub output_operand : (n : Node) (c : Reference)
    → In c (outputs n)
    → In (c, (parameters n.function).output) (operands n)
output_operand n c i =
    grind (
      arith,
      In-append {X = Reference},
      in_with_kind,
      In-left {X = Reference × Kind},
      In-right {X = Reference × Kind},
    )

pub one_kind : (o : Option ObjectValue) (j k : Kind)
    → option_map object_kind o ≡ Some j
    → option_map object_kind o ≡ Some k
    → j ≡ k
one_kind o j k one other = cc

-- an image is no virtual image
pub image_real : (objects : List NamedObject) (c : Reference)
    → HoldsImage objects c
    → (x : ObjectValue)
    → object_held objects c.name ≡ Some x
    → is_virtual_object x ≡ false
image_real objects c image x there = grind (arith, image, there)

pub no_plane_read : (wanted : Kind) (object : Option ObjectValue)
    → wanted ≢ kind.Image
    → table_by wanted object ≡ object
no_plane_read wanted object other = grind arith

-- ---- what nodes write

pub written_there :
    (n : Node) (which : Output) (c : Reference) (start now : Reference → Option ObjectValue)
    (a b : ObjectValue)
    → out_at n which ≡ Some c
    → now n.in1 ≡ Some a
    → start c ≡ Some b
    → In (c, node_output n which a (option_and_then now n.in2) b) (written_from start n now)
written_there n First c start now a b e read there = rw (e, read, there) (inl refl)
written_there n Second c start now a b e read there =
    In-right _ (written_in n First n.out1 start now) (written_in n Second n.out2 start now)
    (rw (e, read, there) (inl refl))

pub described_format : (image : ImageValue) (d : Description)
    → ◌≡◌ {A = Option Operand} (Some (Image (description_of image))) (Some (Image d))
    → d.format ≡ image.format
described_format image d e = grind arith

-- unless a node accumulates, its result depends only on the format of its output
pub same_image :
    (n : Node) (which : Output) (a own other : ImageValue) (second : Option ObjectValue)
    → (own ≡ other) ⊎ ((own.format ≡ other.format) × (accumulates n.function ≡ false))
    → node_image n which own.format a (second_or_output n second (ImageObject own))
    ≡ node_image n which other.format a (second_or_output n second (ImageObject other))
same_image n which a own other second same = grind arith

-- ---- the cells of a graph

module _ {objects : List NamedObject} {v : Verified} {s : Schedule} (g : CanRunBy objects v s) where
  abbrev pub starts : List NamedObject
  starts = first g

  abbrev pub ends : List NamedObject
  ends = last g

  abbrev pub order : List Node
  order = v.steps

  abbrev pub virtual : List Reference
  virtual = map (λ (o : VirtualOutput). o.cell) v.virtual_outputs

  abbrev pub cells : List Reference
  cells = graph_cells order v.virtual_outputs

  abbrev pub clients : List Reference
  clients = drop (length v.virtual_outputs) cells

  abbrev pub is_virtual_cell : Reference → Bool
  is_virtual_cell c = is_virtual (is g c)

  pub have : HaveTasks order v.virtual_outputs g.slots is_virtual_cell
  have = have_tasks objects g.nodes v g.ready g.slots g.plan

  pub cells_once : has_twice cells ≡ false
  cells_once = once_all virtual (images_named order) g.plan.once

  pub virtual_is : (c : Reference) → In c virtual → is_virtual_cell c ≡ true
  virtual_is c i =
      (In-from_filter is_virtual_cell c (flat_map outputs order) (subst (In c) have.order i)).1

  -- a virtual image is written by a node, as an image
  pub virtual_by : (c : Reference)
      → In c virtual
      → (n : Node) × In n order × In c (outputs n) × ((parameters n.function).output ≡ kind.Image)
  virtual_by c i =
      let among =
      In-from_filter is_virtual_cell c (flat_map outputs order) (subst (In c) have.order i) in
      let n = In-from_flat_map outputs c order among.0 in (
        n.0,
        n.1,
        n.2,
        elim (image_or (parameters n.0.function).output) [
          | inl image ↦ image
          | inr other ↦
              absurd
              (subst (In c) (have.images n.0 n.1 other)
              (In-filter is_virtual_cell c (outputs n.0) n.2 among.1))
        ],
      )

  -- each cell is an image that a node names
  pub cell_by : (c : Reference) → In c cells → (n : Node) × In n order × In c (node_images n)
  cell_by c i = elim (in_either virtual (images_named order) c i) [
    | inl old ↦ (let n = virtual_by c old in (n.0, n.1, image_named n.0 c n.3 n.2))
    | inr more ↦ In-from_flat_map node_images c order more
  ]

  pub cell_there : (n : Node) → In n order → (c : Reference) → In c (node_images n) → In c cells
  cell_there = all_named virtual order

  -- it is a virtual image, or a client's image
  pub virtual_or : (c : Reference) → In c cells → In c virtual ⊎ In c clients
  virtual_or c i =
      In-append c virtual clients (subst (In c) (cells_parts order v.virtual_outputs) i)

  pub virtual_there : (c : Reference) → In c virtual → In c cells
  virtual_there c i =
      subst (In c) (sym (cells_parts order v.virtual_outputs)) (In-left c virtual clients i)

  pub client_there : (c : Reference) → In c clients → In c cells
  client_there c i =
      subst (In c) (sym (cells_parts order v.virtual_outputs)) (In-right c virtual clients i)

  pub client_outside : (c : Reference) → In c clients → In c virtual → ⊥
  client_outside = outside order v.virtual_outputs g.plan.once

  pub client_image : (c : Reference) → In c clients → HoldsImage objects c
  client_image = clients_hold objects g.nodes v g.ready g.slots g.plan

  -- ---- the images that cells hold

  pub ends_image : (c : Reference) → In c cells → HoldsImage ends c
  ends_image c i =
      let n = cell_by c i in last_kinds g n.0 n.1 (c, kind.Image) (image_operand n.0 c n.2)

  pub starts_image : (c : Reference) → In c cells → HoldsImage starts c
  starts_image c i =
      let n = cell_by c i in first_kinds g n.0 n.1 (c, kind.Image) (image_operand n.0 c n.2)

  pub ends_held : (c : Reference)
      → In c cells
      → object_at ends c ≡ Some (ImageObject (image_held ends c))
  ends_held c i = held_image ends c (ends_image c i)

  pub starts_held : (c : Reference)
      → In c cells
      → object_at starts c ≡ Some (ImageObject (image_held starts c))
  starts_held c i = held_image starts c (starts_image c i)

  pub starts_client : (c : Reference) → In c clients → object_at starts c ≡ object_at objects c
  starts_client c i = first_real g c (image_real objects c (client_image c i))

  -- the tables that nodes read stay
  table_written : (n : Node)
      → In n order
      → (c : Reference)
      → n.in2 ≡ Some c
      → second_kind n ≢ kind.Image
      → is_written g.nodes c ≡ false
  table_written n i c e other = false_from_ne_true (is_written g.nodes c) (λ w.
      let m = In-from_any (λ (x : Node). writes x c) g.nodes w in
      let j = in_steps g m.0 m.1 in
      let same : second_kind n ≡ (parameters m.0.function).output =
      one_kind (object_at ends c) (second_kind n) (parameters m.0.function).output
      (last_kinds g n i (c, second_kind n) (second_operand n c e))
      (last_kinds g m.0 j (c, (parameters m.0.function).output)
      (output_operand m.0 c (In-from_same c (outputs m.0) m.2)))
      in
      cc ((output_kinds m.0.function), ap written_kind (sym same) ∙ second_kinds n.function other))

  pub table_stays : (n : Node)
      → In n order
      → (c : Reference)
      → n.in2 ≡ Some c
      → second_kind n ≢ kind.Image
      → object_at ends c ≡ object_at objects c
  table_stays n i c e other =
      let none = table_written n i c e other in
      let named : names_cell n c ≡ true =
      operand_named n (c, second_kind n) (second_operand n c e) in
      let real : is_virtual_cell c ≡ false = false_from_ne_true (is_virtual_cell c) (λ yes_virtual.
      let w =
      virtual_written g.ready.runs.0 (is g) g.nodes (graph_can g) n c (in_nodes g n i) named
      yes_virtual in
      cc (w, none)) in
      let kinds = first_kinds g n i (c, second_kind n) (second_operand n c e) in
      (solves g).others c none
      (λ delay. second_no_delay n.function
      (one_kind (object_at starts c) (second_kind n) kind.Delay kinds delay))
      ∙ first_real g c (named_real g n i c named real)

  -- a node without an output image writes an object of the client
  pub tally_kept : (n : Node)
      → In n order
      → (parameters n.function).output ≢ kind.Image
      → (c : Reference)
      → n.out1 ≡ Some c
      → ((x : ObjectValue) → object_held objects c.name ≡ Some x → is_virtual_object x ≡ false)
      × HoldsKind objects (c, (parameters n.function).output)
  tally_kept n i other c e =
      let j : In c (outputs n) = in_outputs_at n First c e in
      let plain : is_virtual_cell c ≡ false = false_from_ne_true (is_virtual_cell c) (λ yes_virtual.
      (let none : In c [] = subst (In c) (have.images n i other)
      (In-filter is_virtual_cell c (outputs n) j yes_virtual) in none))
      in
      let real = named_real g n i c (named_by_output n c j) plain in (
        real,
        ap (option_map object_kind) (sym (first_real g c real))
            ∙ first_kinds g n i (c, (parameters n.function).output) (output_operand n c j),
      )

  -- ---- the new value of an output

  pub holds_output : (n : Node)
      → In n order
      → (which : Output) (c : Reference) (a b : ObjectValue)
      → out_at n which ≡ Some c
      → object_at ends n.in1 ≡ Some a
      → object_at starts c ≡ Some b
      → object_at ends c ≡ Some (node_output n which a (option_and_then (object_at ends) n.in2) b)
  holds_output n i which c a b e read there =
      In-from_All (λ (x : Reference × ObjectValue). object_at ends x.0 ≡ Some x.1)
      (written_from (object_at starts) n (object_at ends))
      (In-from_All
      (λ (m : Node). All (λ (x : Reference × ObjectValue). object_at ends x.0 ≡ Some x.1)
      (written_from (object_at starts) m (object_at ends)))
      g.nodes (solves g).written n (in_nodes g n i))
      _ (written_there n which c (object_at starts) (object_at ends) a b e read there)

  pub made : (n : Node)
      → In n order
      → (which : Output) (c : Reference)
      → out_at n which ≡ Some c
      → In c cells
      → image_held ends c
      ≡ node_image n which (image_held starts c).format (image_held ends n.in1)
      (second_or_output n (option_and_then (object_at ends) n.in2)
      (ImageObject (image_held starts c)))
  made n i which c e among =
      rw
      (holds_output n i which c (ImageObject (image_held ends n.in1))
      (ImageObject (image_held starts c)) e (ends_held n.in1 (cell_there n i n.in1 (inl refl)))
      (starts_held c among))
      refl
