use Rattle.std.proofs.Common.{◌<◌, ◌^◌, ◌-◌, length, drop, arith, sym, subst}
use Rattle.vx_requests.proofs.Common.{All-take, All-drop}
use Rattle.std.proofs.lemmas.List.{get_or_default}
use Rattle.vx_requests.proofs.serving.answering.frame_in.Goals as goal

pub returns-clause-bytes : goal.returns-clause-bytes
returns-clause-bytes c =
    let bytes = c.args.bytes.now in
    All-take (λ b. b < 2 ^ 8) (length bytes - 3) (drop 3 bytes)
    (All-drop (λ b. b < 2 ^ 8) 3 bytes
    (λ k d within. subst (λ b. b < 2 ^ 8) (sym (get_or_default bytes k d 0 within))
    (omega (arith, c.type_inv.bytes k))))
