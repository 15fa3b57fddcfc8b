use Rattle.std.proofs.Common.{◌≡◌, ◌+◌, ◌∷◌, ◌<◌, length, drop, ap, ◌∙◌, arith}
use Rattle.graph_run.proofs.Common.{Context}
use Rattle.graph_run.proofs.ListLemmas.{rest_at}
use Rattle.graph_run.proofs.BindLemmas.{next_context}
use Rattle.graph_run.proofs.TallyLemmas.{enough, next_for, next_set}
use Rattle.graph_run.proofs.tallies.set_tallies.Goals as goal

pub loop-at-preserved : goal.loop-at-preserved
loop-at-preserved c =
    let t : Context = c.loop-at.table in
    let k = c.loop-at.at in
    let cells = c.args.cells.now in
    let tallies = c.args.tallies.now in
    let cell = c.index-cells-at.result in
    let tally = c.index-tallies-at.result in
    let after : Context = c.set_tally.new.table in
    let inv = c.loop-at.invariant in
    let cell_at : drop k cells ≡ cell ∷ drop (k + 1) cells =
    rest_at cells k cell cell c.loop-at-test.true c.index-cells-at.is in
    let below : k < length tallies = omega (arith, c.loop-at-test.true, enough _ _ _ c.requires) in
    let tally_at : drop k tallies ≡ tally ∷ drop (k + 1) tallies =
    rest_at tallies k tally tally below c.index-tallies-at.is in
    let left : after.objects ≡ _ = ap (λ (x : Context). x.objects) c.set_tally.ensures in
    record {
      fit =
          next_for t.objects cells tallies k cell tally cell_at tally_at inv.fit after.objects left;
      next = next_context c.args.table.now t after _ inv.next c.set_tally.ensures;
      written =
          next_set t.objects cells tallies k cell tally cell_at tally_at inv.fit after.objects left
          ∙ inv.written;
    }
