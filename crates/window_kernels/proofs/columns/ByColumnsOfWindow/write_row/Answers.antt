use Rattle.std.proofs.Common.{rules, ◌∙◌, length, arith}
use Rattle.window_kernels.proofs.WindowLaws.{across_columns, bytes_taken, columns_taken}
use Rattle.window_kernels.proofs.columns.ByColumnsOfWindow.write_row.Goals as goal

pub write-requires-clause-taken : goal.write-requires-clause-taken
write-requires-clause-taken g c =
    let taken = bytes_taken g.D.OfColumn.takes g.met.A.Across.takes_bytes.bytes in (
      taken c.args.above.now c.type_inv.above,
      taken c.args.here.now c.type_inv.here,
      taken c.args.below.now c.type_inv.below,
    )

pub write-requires-2-clause-taken : goal.write-requires-2-clause-taken
write-requires-2-clause-taken g c =
    let taken =
    columns_taken g.D.OfColumn.formula g.S.Item.value g.A.OfColumn.takes
    g.met.A.Across.takes_bytes.zero g.met.A.Across.takes_bytes.columns
    c.args.above.now c.args.here.now c.args.below.now _ c.write.new.out c.type_inv.above
    c.type_inv.here c.type_inv.below c.write.ensures in
    (taken 0 _, taken 1 _, taken 2 _)

pub returns : goal.returns
returns g c =
    (rw g.met.T.SampleItem.same at c.write-2.ensures)
    ∙ across_columns g.D.OfColumn.formula g.A.OfColumn.formula g.A.Across.of_nine
    g.met.A.Across.is_of_nine g.S.Item.value
    c.args.above.now c.args.here.now c.args.below.now _ (length c.args.out.now) _ _ _
    c.write.new.out c.write.ensures (search rules) (omega arith) (omega arith) (omega arith)
