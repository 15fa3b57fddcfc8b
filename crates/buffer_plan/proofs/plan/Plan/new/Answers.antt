use Rattle.buffer_plan.proofs.Common.{Plan}
use Rattle.buffer_plan.proofs.VerifiedLemmas.{planned, slots_of}
use Rattle.buffer_plan.proofs.plan.Plan.new.Goals as goal

pub returns-clause-plan : goal.returns-clause-plan
returns-clause-plan c =
    let p : Plan =
    record {
      u8s = c.in_ok-places_of.field-0;
      s16s = c.in_ok-places_of-2.field-0;
      u32s = c.in_ok-places_of-3.field-0;
    } in
    planned c.args.verified.now p c.in_ok-places_of.ensures.places
    c.in_ok-places_of-2.ensures.places c.in_ok-places_of-3.ensures.places
    c.in_ok-places_of.ensures.verified

pub returns-clause-images : goal.returns-clause-images
returns-clause-images c =
    let p : Plan =
    record {
      u8s = c.in_ok-places_of.field-0;
      s16s = c.in_ok-places_of-2.field-0;
      u32s = c.in_ok-places_of-3.field-0;
    } in
    slots_of c.args.verified.now p c.in_ok-places_of.ensures.places
    c.in_ok-places_of-2.ensures.places c.in_ok-places_of-3.ensures.places
