use Rattle.std.proofs.Common.{◌≡◌, ◌<◌, ◌++◌, ◌∙◌, sym, ap, pos, map, cond, arith, unsigned_abs, ◌==◌}
use Rattle.stat_kernels.proofs.Common.{All-nil, count_by-le-length, count_at, side, sum_by-append, valid_in, valid_samples}
use Rattle.std.proofs.lemmas.List.Elements.{All-same, All-append}
use Rattle.stat_kernels.proofs.BandLaws.{few_samples, rows_at, samples_more, samples_none}
use Rattle.stat_kernels.proofs.counts.count_values.Goals as goal

pub loop-k-init : goal.loop-k-init
loop-k-init c =
    let none = samples_none c.args.image.now.valid c.args.image.now c.args.rows.start in
    record {
      counted = λ v. c.requires.zeros v ∙ ap (count_at v) (sym none);
      bytes = All-same (λ z. unsigned_abs z < 256) _ _ none (All-nil (λ z. unsigned_abs z < 256));
    }

pub tally_row-requires : goal.tally_row-requires
tally_row-requires c = record {
  room = λ v.
      let image = c.args.image.now in
      let is = c.valid-valid.ensures.image in
      let rows = rows_at c.args.rows.start c.loop-k.k in
      omega (
        arith,
        c.loop-k.invariant.counted v,
        count_by-le-length (λ z. unsigned_abs z == v) (valid_samples (valid_in rows image)),
        few_samples image is rows,
        c.valid_row-row.ensures.within,
        side image.width is.sides.width,
      );
}

pub loop-k-preserved : goal.loop-k-preserved
loop-k-preserved c =
    let image = c.args.image.now in
    let zs = valid_samples (valid_in (rows_at c.args.rows.start c.loop-k.k) image) in
    let ws = map pos c.valid_row-row.result.now in
    let next =
    ap (λ l. zs ++ l) c.valid_row-row.ensures.value
    ∙ sym (samples_more image c.args.rows.start c.loop-k.k) in
    record {
      counted =
          λ v. omega (
            arith,
            c.loop-k.invariant.counted v,
            c.tally_row.ensures.counted v,
            sum_by-append
                (λ z. cond (unsigned_abs z == v) 1 0) zs ws,
            ap (count_at v) next,
          );
      bytes =
          All-same (λ z. unsigned_abs z < 256) _ _ (sym next)
          (All-append (λ z. unsigned_abs z < 256) zs ws c.loop-k.invariant.bytes
          c.tally_row.ensures.bytes);
    }

pub returns-clause-counted : goal.returns-clause-counted
returns-clause-counted c v =
    let last : c.loop-k.k ≡ c.args.rows.count = omega arith in
    c.loop-k.invariant.counted v
    ∙ ap
    (λ n. count_at v (valid_samples (valid_in (rows_at c.args.rows.start n) c.args.image.now)))
    last
