-- `closed` makes a handle that owns nothing.
use Rattle.vx_embed.proofs.Steps.{[], lit<, ◌∷◌, refl, proved, ftrue, false, ‵, raw, ◌$◌, ◌∵◌, !, qed, done, drop, join, suffices, enter, false_lit, lit, no_more, and_then, returns, alloc_all, pass_all, free_all, look_at, sets, agg, null_ptr, nothing, on_entry, walk_of, says, ends_at, word, H}
use Rattle.vx_embed.proofs.HandleValues.{handle_in}
use Rattle.connections.specs.Connections.{ConnectionsValue}
use Rattle.client_model.specs.Limits.{default_limits}
use Rattle.vx_embed.specs.contracts.handle.Handle.closed as f
use Rattle.vx_embed.proofs.handle.Handle.closed.Statement.{statement}
use Rattle.vx_embed.proofs.handle.Handle.closed.Code as code

pub closed_spec : {M : Type 1} → statement M
closed_spec 𝓤 𝓛 𝓜 𝓡 wired =
    let c = f.clauses 𝓛 𝓜.mem 𝓡.returns in let W = walk_of 𝓛 f.ended tt c in
    proved 𝓛 f.ended tt c 𝓜 𝓡 tt f.Key.name code.function (code.unfolded 𝓤 𝓛.H 𝓜 𝓡 wired)
    (λ κs. tt) (λ κs. tt) (λ κs qs bounds a _ are.
    let none : ConnectionsValue = record { limits = default_limits; connections = [] } in
    let y : W.Ghost = ((κs, qs, bounds, a, tt), tt) in
    let made : H.Denot = record { at = null_ptr; held = false; world = none } in
    qed 𝓛 (raw (on_entry 𝓛 f.signature κs qs a y.0.4) ∷ ‵ ftrue ∷ []) ∵ drop ! $ drop ! $
    enter ! _ _ _ _ _ $ alloc_all ! (λ l. pass_all ! refl tt $
    sets ! (agg ! (and_then ! (lit ! tt) (and_then ! (false_lit !) (no_more !)))) refl (
      tt,
      (record { fits = lit< tt }, (tt, tt)),
    ) $
    returns ! (look_at ! 0 refl) $ free_all ! refl $
    nothing ! $ handle_in ! null_ptr false none $
    suffices ! _ (ends_at 𝓛 f.ended tt c y (word made) made tt tt) $ says ! refl $ nothing ! $
    join ! $ nothing ! $ done !))
