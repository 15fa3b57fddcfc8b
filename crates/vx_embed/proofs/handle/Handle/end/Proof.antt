-- `end` lets the handle go.
use Rattle.vx_embed.proofs.Steps.{[], ◌∷◌, refl, proved, false, ◌≡◌, raw, ◌$◌, ◌∵◌, !, qed, done, drop, join, suffices, enter, of_opd, unit_lit, returns, alloc_all, pass_all, free_all, look_at, sets, nothing, on_entry, walk_of, ends_at, feq_i, vunit, word, lowers, H, Stays, stay_dropped, Goes-dropped, yes, plain, fact, group, the_field_loose}
use Rattle.vx_embed.specs.contracts.handle.Handle.end as f
use Rattle.vx_embed.proofs.handle.Handle.end.Statement.{statement}
use Rattle.vx_embed.proofs.handle.Handle.end.Code as code

abbrev stayed : Stays f.ended.signature.params f.ended.kept
stayed = (stay_dropped _ yes, tt)

pub end_spec : {M : Type 1} → statement M
end_spec 𝓤 𝓛 𝓜 𝓡 wired =
    let c = f.clauses 𝓛 𝓜.mem 𝓡.returns in let W = walk_of 𝓛 f.ended stayed c in
    proved 𝓛 f.ended stayed c 𝓜 𝓡 (
      Goes-dropped 𝓛 0 (plain (λ _. H)) yes (λ κs x w. refl),
      tt,
    ) f.Key.name code.function (code.unfolded 𝓤 𝓛.H 𝓜 𝓡 wired)
    (λ κs. ((λ d. word d ∷ []), tt)) (λ κs. (lowers.val_is, tt)) (λ κs qs bounds a _ are.
    let y : W.Ghost = ((κs, qs, bounds, a, (word a.0 ∷ [], tt)), tt) in
    qed 𝓛 (raw (on_entry 𝓛 f.signature κs qs a y.0.4) ∷ raw (fact 𝓤 (a.0.held ≡ false)) ∷ []) ∵
    drop ! $ drop ! $
    enter ! _ _ _ _ _ $ alloc_all !
    (λ l. pass_all ! refl ((the_field_loose.lawful 𝓛).typed a.0 _ are.0) $
    sets ! (of_opd ! (unit_lit !)) refl (tt, tt) $
    returns ! (look_at ! 0 refl) $ free_all ! refl $
    suffices ! _ (ends_at 𝓛 f.ended stayed c y vunit tt (tt, tt) (tt, tt)) $
    nothing ! $ feq_i ! _ (vunit ∷ []) _ refl $ nothing ! $ nothing ! $ join ! $ nothing ! $
    group ! 3 $ done !))
