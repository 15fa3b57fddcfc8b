use Rattle.std.proofs.Common.{map, ap, ◌∙◌, subst, sym, w16, w32, FitsSigned}
use Rattle.lane_rows.proofs.Common.{S16, Saturate, narrow, Each1}
use Rattle.lane_rows.proofs.ShortLaws.{of_bits, bits_back}
use Rattle.lane_rows.proofs.NarrowLaws.{narrow_fits, each_wrapped, wrapped_are}
use Rattle.lane_rows.proofs.shorts.narrowed.Goals.{in-Wrap, in-Saturate}
use Rattle.lane_rows.proofs.shorts.narrowed.Goals as goal

pub overflow_cast-result : goal.overflow_cast-result
overflow_cast-result c = each_wrapped c.args.numbers c.requires.len c.requires.fits

pub returns-clause-value : goal.returns-clause-value
returns-clause-value c =
    let ns = c.args.numbers in
    elim c.match-policy.branch [
      | in-Wrap w ↦ rw (w.result-is, w.in-Wrap.is) (wrapped_are ns c.requires.len c.requires.fits)
      | in-Saturate w ↦
          rw (w.result-is, w.in-Saturate.is)
          (bits_back w16 w.clamped.result _
          (w.clamped.ensures ∙ ap (map (narrow S16 Saturate)) (of_bits w32 ns c.requires.fits))
          (narrow_fits Saturate ns c.requires.fits))
    ]

pub returns-clause-result_fits : goal.returns-clause-result_fits
returns-clause-result_fits c =
    subst (Each1 (FitsSigned w16)) (sym (returns-clause-value c))
    (narrow_fits c.args.policy c.args.numbers c.requires.fits)
