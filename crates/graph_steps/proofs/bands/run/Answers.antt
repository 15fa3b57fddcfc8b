use Rattle.std.proofs.Common.{inl, inr, refl, arith}
use Rattle.graph_steps.proofs.Common.{Band, block_images}
use Rattle.graph_steps.proofs.RunLaws.{IsNext, is_next, can_run, between_first, between_next, stands_last, all_tallied}
use Rattle.graph_steps.proofs.bands.run.Goals as goal

pub loop-first-init : goal.loop-first-init
loop-first-init g c = record {
  within = omega arith;
  begun = inl refl;
  between =
      λ slots program. between_first program c.args.tallies.now c.requires.reduces c.requires.new;
}

pub run_band-requires : goal.run_band-requires
run_band-requires g c =
    let p = c.requires.program in
    let band : Band = record { start = c.loop-first.first; count = c.min.result } in
    let next : IsNext c.args.high c.args.size band =
    is_next c.ranges.high.fits p.1.forward c.loop-first-test.true c.min.ensures
    c.loop-first.invariant.begun in
    let b = c.loop-first.invariant.between p.0 p.1 in (
      c.args.high,
      p.0,
      block_images c.args.planes.now,
      can_run p.1 band c.loop-first.planes next b.remains,
      b.reduces,
    )

pub loop-first-preserved : goal.loop-first-preserved
loop-first-preserved g c =
    let inv = c.loop-first.invariant in
    let p = c.requires.program in
    let band : Band = record { start = c.loop-first.first; count = c.min.result } in
    let next : IsNext c.args.high c.args.size band =
    is_next c.ranges.high.fits p.1.forward c.loop-first-test.true c.min.ensures inv.begun in
    record {
      within = next.ends;
      begun = inr next.wide;
      between =
          λ slots program. rw (
            c.run_band.ensures.tallies,
            c.run_band.ensures.planes,
          ) (between_next program band c.loop-first.planes c.args.tallies.now
          c.loop-first.tallies next c.requires.reduces (inv.between slots program));
    }

pub returns-clause-images : goal.returns-clause-images
returns-clause-images g c = λ slots program.
    let b = c.loop-first.invariant.between slots program in
    stands_last program c.loop-first.first c.loop-first.planes c.loop-first-test.false b.remains
    b.stands

pub returns-clause-clients : goal.returns-clause-clients
returns-clause-clients g c =
    λ slots program. (c.loop-first.invariant.between slots program).remains.clients

pub returns-clause-tallies : goal.returns-clause-tallies
returns-clause-tallies g c =
    let p = c.requires.program in
    all_tallied p.1 c.loop-first.first c.loop-first.planes c.args.tallies.now
    c.loop-first.tallies c.loop-first-test.false (c.loop-first.invariant.between p.0 p.1)

pub returns-clause-blocks : goal.returns-clause-blocks
returns-clause-blocks g c =
    let p = c.requires.program in (c.loop-first.invariant.between p.0 p.1).remains.blocks
