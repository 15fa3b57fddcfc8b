use Rattle.std.proofs.Common.{◌+◌, List, sym, subst, arith, ℤ, w16, FitsSigned}
use Rattle.std.proofs.lemmas.Simd.{Each1-weaker}
use Rattle.lane_rows.proofs.Common.{row_fits, IsNear, IsPairTable, fits_signed_from_abs}
use Rattle.lane_rows.proofs.MatrixSumLaws.{each_of_row, length_row, no_rows, row_added, all_rows}
use Rattle.lane_rows.proofs.matrix_rows.MatrixRows.sum_rows.Goals as goal

pub loop-l-init : goal.loop-l-init
loop-l-init c = let none = no_rows c.args.self.now in record {
  even = none c.args.index;
  odd = none (c.args.index + 1);
}

pub row_of-row-requires : goal.row_of-row-requires
row_of-row-requires c =
    let m = c.args.self.now in
    omega (arith, m.rows_len, row_fits m.line m.count c.loop-l.l c.loop-l-test.true)

pub add_row-requires : goal.add_row-requires
add_row-requires c =
    let m = c.args.self.now in
    let l = c.loop-l.l in
    let row = c.row_of-row in
    let table = c.row_of-table in
    record {
      room =
          omega (
            arith,
            c.requires,
            length_row m.rows.now row.result.now m.line l row.ensures
                (omega (arith, m.rows_len, row_fits m.line m.count l c.loop-l-test.true)),
          );
      fit =
          Each1-weaker (IsNear 255) (FitsSigned w16)
          (λ z p. fits_signed_from_abs w16 z (omega arith)) row.result.now
          (each_of_row (IsNear 255) m.rows.now row.result.now m.line l m.near row.ensures);
      table_len =
          omega (
            arith,
            m.few,
            length_row m.tables.now table.result.now 80 l table.ensures
                (omega (arith, m.tables_len, c.loop-l-test.true)),
          );
      table =
          subst (λ (t : List ℤ). IsPairTable m.pairs t) (sym table.ensures)
          (m.paired l c.loop-l-test.true);
      table_fits =
          each_of_row (FitsSigned w16) m.tables.now table.result.now 80 l m.fits table.ensures;
    }

pub loop-l-preserved : goal.loop-l-preserved
loop-l-preserved c =
    let m = c.args.self.now in
    let row = c.row_of-row.ensures in
    let table = c.row_of-table.ensures in
    record {
      even =
          row_added m c.loop-l.l c.args.index _ _ _ _ c.loop-l.invariant.even row table
          c.add_row.ensures.even;
      odd =
          row_added m c.loop-l.l (c.args.index + 1) _ _ _ _ c.loop-l.invariant.odd row table
          c.add_row.ensures.odd;
    }

pub returns : goal.returns
returns c =
    let all = all_rows c.args.self.now c.loop-l.l in
    record {
      even = all c.args.index _ c.loop-l.invariant.even (omega arith);
      odd = all (c.args.index + 1) _ c.loop-l.invariant.odd (omega arith);
    }
