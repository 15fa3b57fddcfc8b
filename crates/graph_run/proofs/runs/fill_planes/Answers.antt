use Rattle.std.proofs.Common.{◌≡◌, List, ◌++◌, ◌∙◌, ap, arith, drop, length}
use Rattle.graph_run.proofs.Common.{Reference, VirtualOutput, with_objects, with_written}
use Rattle.graph_run.specs.Bind.{bare_images, image_planes}
use Rattle.graph_run.specs.Schedule.{ArePlanes}
use Rattle.graph_run.proofs.MoveLemmas.{cells_enough, clients_are_apart, clients_are_images, lends, reduces, runs}
use Rattle.graph_run.proofs.runs.fill_planes.Goals as goal

-- references to the client's images, as a part of the schedule's cells
clients_taken : (outs images : List VirtualOutput) (cells all clients : List Reference)
    → images ≡ outs
    → all ≡ cells
    → clients ≡ drop (length images) all
    → clients ≡ drop (length outs) cells
clients_taken outs images cells all clients images_are all_are are =
    are
    ∙ ap (λ (l : List VirtualOutput). drop (length l) all) images_are
    ∙ ap (drop (length outs)) all_are

pub clients_of-clients-requires : goal.clients_of-clients-requires
clients_of-clients-requires c =
    omega (
      arith,
      ap length c.virtual_outputs.ensures,
      ap length c.deref.ensures.value,
      cells_enough c.requires.runs,
    )

pub take_out-requires-clause-images : goal.take_out-requires-clause-images
take_out-requires-clause-images c =
    rw
    (clients_taken c.args.verified.now.virtual_outputs _ c.args.schedule.now.cells.items _ _
    c.virtual_outputs.ensures c.deref.ensures.value c.clients_of-clients.ensures)
    (clients_are_images c.requires.runs)

pub take_out-requires-clause-apart : goal.take_out-requires-clause-apart
take_out-requires-clause-apart c =
    rw
    (clients_taken c.args.verified.now.virtual_outputs _ c.args.schedule.now.cells.items _ _
    c.virtual_outputs.ensures c.deref.ensures.value c.clients_of-clients.ensures)
    (clients_are_apart c.requires.runs)

pub returns : goal.returns
returns c =
    let g = c.requires.runs in
    let objects = c.args.table.now.objects in
    let clients =
    clients_taken c.args.verified.now.virtual_outputs _ c.args.schedule.now.cells.items _ _
    c.virtual_outputs.ensures c.deref.ensures.value c.clients_of-clients.ensures in
    let left =
    c.take_out.ensures.left
    ∙ ap
    (λ (l : List Reference). with_objects c.args.table.now
    (with_written objects (bare_images objects l)))
    clients in
    let t :
    ArePlanes objects c.args.verified.now c.args.schedule.now c.args.blocks.now
    c.take_out.new.planes.items =
    record {
      slots = c.add_slots.new.planes.items;
      sizes = c.add_slots.ensures.sizes;
      all =
          c.take_out.ensures.planes
          ∙ ap (λ (l : List Reference). c.add_slots.new.planes.items ++ image_planes objects l)
          clients;
    }
    in
    record {
      planes = t;
      lent = rw left (lends g c.args.blocks.now c.requires.sizes t);
      program = rw left (runs g c.args.blocks.now c.requires.sizes t);
      reduces = rw left (reduces g c.args.blocks.now c.requires.sizes t);
      lent_sizes = c.add_slots.ensures.lent_sizes;
      left = left;
    }
