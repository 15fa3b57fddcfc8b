use Rattle.std.proofs.Common.{◌∙◌, List, ℤ, length, inr, All, Some, Ok, ap, sym, subst}
use Rattle.client_contexts.proofs.Common.{Description, Format, ImageValue, KeepsBlocks, Context, Empty, Outcome, KeepsLimits}
use Rattle.vx_base.specs.Description.{sample_count}
use Rattle.vx_base.specs.Picture.{IsPicture, samples_format, values}
use Rattle.vx_base.specs.Sample.{IsSample}
use Rattle.client_contexts.proofs.IncomingLemmas.{picture_in}
use Rattle.client_contexts.proofs.WriteLemmas.{write_done, written_keeps, written_blocks, takes_samples, left_description, given_is}
use Rattle.client_contexts.proofs.incoming.exchange.Goals as goal

pub put-requires-clause-there : goal.put-requires-clause-there
put-requires-clause-there c =
    let found = c.requires.image in
    takes_samples c.args.table.now c.args.reference found.image found.named c.take-left.new.self
    c.take-left.ensures.left

pub put-requires-clause-format : goal.put-requires-clause-format
put-requires-clause-format c =
    let found = c.requires.image in
    let same =
    left_description c.args.table.now c.args.reference found.image found.named
    c.take-left.new.self c.take-left.ensures.left
    ∙ found.same in
    c.lift-samples.ensures.format
    ∙ c.requires.described.format
    ∙ ap (λ (d : Description). d.format) (sym same)

pub put-requires-clause-size : goal.put-requires-clause-size
put-requires-clause-size c =
    let found = c.requires.image in
    let same =
    left_description c.args.table.now c.args.reference found.image found.named
    c.take-left.new.self c.take-left.ensures.left
    ∙ found.same in
    inr
    (ap (λ (xs : List ℤ). length xs) c.lift-samples.ensures.value
    ∙ c.requires.described.size
    ∙ ap sample_count (sym same))

pub returns : goal.returns
returns c =
    let t = c.args.table.now in
    let d = c.args.desc in
    let found = c.requires.image in
    let p = picture_in d c.args.block.now.samples in
    let lift = c.lift-samples.ensures in
    let format = lift.format ∙ c.requires.described.format in
    let sampled : All (IsSample d.format) p.samples =
    subst (λ (xs : List ℤ). All (IsSample d.format) xs) lift.value
    (subst (λ (f : Format). All (IsSample f) (values c.lift-samples.result)) format
    c.prove_samples.ensures)
    in
    let picture : IsPicture p =
    record {
      description = c.prove_sides.ensures;
      size = c.requires.described.size;
      sampled = sampled;
    } in
    let back =
    given_is t c.args.reference found.image found.named c.take-left.new.self
    c.take-left.ensures.left p c.whole.result (values c.lift-samples.result) c.put.new.self
    found.same c.whole.ensures lift.value c.put.ensures in
    record {
      written =
          write_done t c.args.reference p found
          ∙ ap (λ (k : Context). let done : Outcome = Ok (Empty, Some k) in done) (sym back);
      picture = picture;
      within_limits =
          λ limits h. subst (KeepsLimits limits) (sym back)
          (written_keeps t c.args.reference p found limits h picture);
      blocks =
          subst (λ (k : Context). KeepsBlocks t.objects k.objects) (sym back)
          (written_blocks t c.args.reference p found c.requires.context.1.names);
      format =
          ap samples_format c.put-2.ensures.samples
          ∙ c.take-left.ensures.format
          ∙ ap (λ (i : ImageValue). i.format) found.named.held
          ∙ ap (λ (x : Description). x.format) found.same ∙ sym c.requires.described.format;
    }
