use Rattle.std.proofs.Common.{rules, sym, subst}
use Rattle.graph_steps.proofs.Common.{IsReadable, read_images}
use Rattle.graph_steps.proofs.StepLaws.{plane_lent, plane_read, table_lent}
use Rattle.graph_steps.proofs.one_step.second_input.Goals as goal

pub bounds-planes-at : goal.bounds-planes-at
bounds-planes-at g c = (c.requires c.in-Plane.at c.in-Plane.is).0

pub offset_bounds-planes-at : goal.offset_bounds-planes-at
offset_bounds-planes-at g c = let below = (c.requires c.in-Plane.at c.in-Plane.is).0 in search rules

pub image-requires : goal.image-requires
image-requires g c =
    let reads = c.requires c.in-Plane.at c.in-Plane.is in
    subst IsReadable
    (sym
    (plane_read c.args.planes.now c.in-Plane.at c.index-planes-at.result reads.0
    c.index-planes-at.is))
    reads.1

pub returns-in-Plane : goal.returns-in-Plane
returns-in-Plane g c =
    plane_lent c.args.planes.now (g.T.Tables.tables c.args.tables.now) c.args.source
    c.in-Plane.at _ _ c.in-Plane.is (c.requires c.in-Plane.at c.in-Plane.is).0
    c.index-planes-at.is c.image.ensures

pub returns-in-Table : goal.returns-in-Table
returns-in-Table g c =
    table_lent (g.T.Tables.tables c.args.tables.now) (read_images c.args.planes.now)
    c.args.source c.in-Table.at _ c.in-Table.is c.table.ensures
