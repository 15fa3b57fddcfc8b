use Rattle.std.proofs.Common.{ℕ, length, ap, rules, refl}
use Rattle.vx_requests.proofs.Common.{Refused, parse_fault, fault_code, states_of, World, state_of}
use Rattle.client_model.specs.declared.reply.Reply.TheVariants.{Empty}
use Rattle.vx_requests.proofs.WrittenImages.{unread, read_in_part, past_rest, unwritten_rest, refused_rest, cut_samples, wrote_picture}
use Rattle.vx_requests.proofs.serving.images.answer_write_image.Goals as goal

pub returns-in-Ok-write_from-clause-answered : goal.returns-in-Ok-write_from-clause-answered
returns-in-Ok-write_from-clause-answered g c =
    let (p, read, did, kept) = c.in-Ok-write_from.ensures.written in
    wrote_picture _ _ _ _ _ _ c.args.client c.args.op c.args.count c.read_exactly.new.buf _ _ p
    Empty
    c.requires.op c.requires.long (search rules) c.read_exactly.ensures.bytes
    c.in_ok-read_exactly.ensures.ok read.described read.came.ok read.size c.in-Ok.ensures.size
    c.in-Ok.ensures.ok
    did.reply did.own did.others

pub returns-in-Err-Source-clause-answered : goal.returns-in-Err-Source-clause-answered
returns-in-Err-Source-clause-answered g c =
    let (p, read) =
    read_in_part _ _ _ _ _ c.in-Err-Source.field-0 c.in-Err-Source.fault
    c.in-Err-Source.field-0-is c.in-Err-Source.ensures.err in
    cut_samples c.args.runtime.now.limits _ _ _ (states_of c.args.runtime.now)
    (states_of c.write_from.new.self) c.args.client c.args.op c.args.count
    c.read_exactly.new.buf _ (length p.samples) c.in-Err-Source.fault
    read.size c.requires.long (search rules) c.in_ok-read_exactly.ensures.ok
    c.in-Ok.ensures.size read.came.err
    (λ each. ap (λ (w : World). state_of each w) c.in-Err-Source.ensures.same)

pub returns-in-Err-Refused-clause-answered : goal.returns-in-Err-Refused-clause-answered
returns-in-Err-Refused-clause-answered g c =
    let (nothing, why) =
    unread _ _ _ _ _ c.in-Err-Refused.field-0 c.in-Err-Refused.code c.in-Err-Refused.field-0-is
    c.in-Err-Refused.ensures.err in
    let past = rw nothing at c.refuse.ensures in
    let same = λ (each : ℕ). ap (λ (w : World). state_of each w) c.in-Err-Refused.ensures.same in
    past_rest _ _ _ _ (states_of c.args.runtime.now) (states_of c.write_from.new.self)
    c.args.client c.args.op c.args.count c.read_exactly.new.buf c.refuse.result
    (Refused c.in-Err-Refused.code)
    c.requires.long (search rules) c.read_exactly.ensures.bytes c.in_ok-read_exactly.ensures.ok
    past.ok past.content past.err same
    (unwritten_rest _ _ _ c.args.client c.args.op c.args.count c.read_exactly.new.buf _ _
    c.in-Err-Refused.code c.requires.op c.requires.long (search rules) c.in-Ok.ensures.ok why
    same)

pub returns-in-Err-clause-answered : goal.returns-in-Err-clause-answered
returns-in-Err-clause-answered g c =
    let past = rw (c.code.ensures, c.from.ensures) at c.refuse-in-Err.ensures in
    past_rest _ _ _ _ _ _ c.args.client c.args.op c.args.count c.read_exactly.new.buf
    c.refuse-in-Err.result (Refused (fault_code (parse_fault c.in-Err.fault)))
    c.requires.long (search rules) c.read_exactly.ensures.bytes c.in_ok-read_exactly.ensures.ok
    past.ok past.content past.err (λ each. refl)
    (refused_rest _ _ _ c.args.client c.args.op c.args.count c.read_exactly.new.buf
    c.in-Err.fault c.requires.op c.in-Err.ensures.err (λ each. refl))
