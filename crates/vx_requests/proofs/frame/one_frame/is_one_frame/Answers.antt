use Rattle.std.proofs.Common.{◌<◌, ℕ, List, get_or, All, arith, sym, subst, eq-eqb, eqb-true}
use Rattle.std.proofs.lemmas.List.{get_or_default}
use Rattle.vx_requests.proofs.Common.{All-append}
use Rattle.vx_requests.proofs.WholeFrames.{makes_frame, frame_says}
use Rattle.vx_requests.proofs.frame.one_frame.is_one_frame.Goals as goal

bytes_of : (bytes : List ℕ) → ((k : ℕ) → get_or bytes k 0 < 256) → All (λ b. b < 256) bytes
bytes_of bytes each =
    λ k d within. subst (λ b. b < 256) (sym (get_or_default bytes k d 0 within)) (each k)

pub returns-clause-frame : goal.returns-clause-frame
returns-clause-frame c = λ whole.
    let front = c.args.front.now in
    let back = c.args.back.now in
    let said = c.said_length-length.ensures in
    makes_frame front back
    (All-append (λ b. b < 256) front back
    (bytes_of front (λ k. omega (arith, c.type_inv.front k)))
    (bytes_of back (λ k. omega (arith, c.type_inv.back k))))
    c.if-front-lt4.false (
      omega (arith, said, c.if-length-lt-LEAST_LENGTH.false),
      omega (arith, said, c.if-length-gt-GREATEST_LENGTH.false),
    ) (omega (arith, said, eqb-true _ _ whole))

pub returns-clause-other : goal.returns-clause-other
returns-clause-other c = λ frame is e four.
    let says = frame_says c.args.front.now c.args.back.now frame is e four in
    eq-eqb _ _ (omega (arith, says.1, c.said_length-length.ensures))
