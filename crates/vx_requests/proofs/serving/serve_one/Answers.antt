use Rattle.std.proofs.Common.{inr}
use Rattle.vx_requests.proofs.Common.{err_from_is_err_and}
use Rattle.vx_requests.proofs.Turns.{failed_turn, cut_turn, served_turn}
use Rattle.vx_requests.proofs.serving.serve_one.Goals as goal

pub returns-in_err-answered-clause-turn : goal.returns-in_err-answered-clause-turn
returns-in_err-answered-clause-turn g c =
    let p =
    err_from_is_err_and c.from_residual-in_err-answered.result
    c.from_residual-in_err-answered.ensures.1 in
    let read = rw c.in-Some.is at c.in_ok-length.ensures.read in
    rw (p.1, p.2)
    (failed_turn _ _ _ _ _ _ _ c.in-Some.length read.1 _ read.0 c.in_err-answered.ensures.answered)

pub returns-in_err-write_answered-clause-turn : goal.returns-in_err-write_answered-clause-turn
returns-in_err-write_answered-clause-turn g c =
    let p =
    err_from_is_err_and c.from_residual-in_err-write_answered.result
    c.from_residual-in_err-write_answered.ensures.1 in
    let read = rw c.in-Some.is at c.in_ok-length.ensures.read in
    let wrote = rw c.in_ok-answered.ensures.limits at c.in_err-write_answered.ensures.sent in
    rw (p.1, p.2)
    (inr
    (cut_turn _ _ _ _ _ _ _ _ c.in-Some.length _ read.1 _ c.in_ok-answered.ensures.answered
    wrote.fault wrote.err))

pub returns-clause-turn : goal.returns-clause-turn
returns-clause-turn g c =
    let read = rw c.in-Some.is at c.in_ok-length.ensures.read in
    let wrote = rw c.in_ok-answered.ensures.limits at c.in_ok-write_answered.ensures.sent in
    let told = rw c.in_ok-answered.ensures.limits at c.in_ok-write_answered.ensures.code in
    served_turn _ _ _ _ _ _ _ _ c.in-Some.length c.in_ok-write_answered.field-0 read.1 _
    c.in_ok-answered.ensures.answered wrote.ok told
