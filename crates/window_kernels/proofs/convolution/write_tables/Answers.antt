use Rattle.std.proofs.Common.{rules, ◌≡◌, ◌≤◌, ◌*◌, ◌∙◌, ap, sym, subst, length, arith, w16, FitsSigned, to_z, of_z, take_all}
use Rattle.window_kernels.proofs.Common.{Each1, Each1-get_or, ints}
use Rattle.window_kernels.proofs.MatrixLaws.{pairs_to, pair_fits, pair_written}
use Rattle.window_kernels.proofs.convolution.write_tables.Goals as goal

pub loop-k-preserved : goal.loop-k-preserved
loop-k-preserved c =
    let k = c.loop-k.k in
    let out = c.loop-k.tables in
    let first :
    to_z w16 (of_z w16 c.rotated_coefficient-first.result) ≡ c.rotated_coefficient-first.result =
    omega (arith, ints, c.rotated_coefficient-first.type_inv) in
    let second :
    to_z w16 (of_z w16 c.rotated_coefficient-second.result) ≡ c.rotated_coefficient-second.result =
    omega (arith, ints, c.rotated_coefficient-second.type_inv) in
    let fits_first : FitsSigned w16 c.rotated_coefficient-first.result = search rules in
    let fits_second : FitsSigned w16 c.rotated_coefficient-second.result = search rules in
    let room : 16 * k ≤ length out =
    omega (
      arith,
      c.requires,
      c.loop-k.auto.tables,
      c.loop-k-test.true,
      c.from-k-end.ensures,
      c.rows.ensures.value,
    ) in
    record {
      value =
          pair_written c.args.convolution.now k _ out c.write_pair.new.out _ _ room
          c.loop-k.invariant.value c.write_pair.ensures
          (first ∙ c.rotated_coefficient-first.ensures)
          (second ∙ c.rotated_coefficient-second.ensures);
      fits =
          pair_fits (FitsSigned w16) k _ out c.write_pair.new.out _ _ room
          c.loop-k.invariant.fits c.write_pair.ensures
          (subst (FitsSigned w16) (sym first) fits_first)
          (subst (FitsSigned w16) (sym second) fits_second);
    }

pub returns : goal.returns
returns c =
    let end : c.loop-k.k ≡ c.args.convolution.now.rows * 5 =
    omega (arith, c.from-k-end.ensures, c.rows.ensures.value) in
    let all = take_all (16 * c.loop-k.k) c.loop-k.tables (omega (arith, c.requires, end)) in
    record {
      value = sym all ∙ c.loop-k.invariant.value ∙ ap (pairs_to c.args.convolution.now) end;
      fits =
          λ i d below. Each1-get_or (FitsSigned w16) c.loop-k.tables i d below
          (subst (Each1 (FitsSigned w16)) all c.loop-k.invariant.fits);
    }
