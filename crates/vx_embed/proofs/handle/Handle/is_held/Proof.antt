-- `is_held` reads one field through the `&mut`.
use Rattle.vx_embed.proofs.Steps.{List, [], ◌∷◌, refl, sym, proved, full_share, ftrue, flft, named, Val, vbool, ‵, ◌⊛◌, ◌$◌, ◌∵◌, !, qed, done, move, keep, split, join, fsplit3, rewrite, suffices, frame, group, enter, of_opd, load, stop, fld, returns, alloc_all, pass_all, free_all, look_at, through, sets, bool, bool_Makes, shows, owned, MutRef, mut_vals, mut_Tells, plain, nothing, opens, closes, peeks, Stays, walk_of, says, stay_ref, Goes-ref, ends_at, H, lowers, sub, whole}
use types.Part.{look_in}
use denote.Memory.{cell_at}
use Rattle.vx_embed.specs.contracts.handle.Handle.is_held as f
use Rattle.vx_embed.proofs.handle.Handle.is_held.Statement.{statement}
use Rattle.vx_embed.proofs.handle.Handle.is_held.Code as code

abbrev stayed : Stays f.ended.signature.params f.ended.kept
stayed = (stay_ref (0 ∷ []) tt (plain (λ _. H)), tt)

pub is_held_spec : {M : Type 1} → statement M
is_held_spec 𝓤 𝓛 𝓜 𝓡 wired =
    let c = f.clauses 𝓛 𝓜.mem 𝓡.returns in let W = walk_of 𝓛 f.ended stayed c in
    proved 𝓛 f.ended stayed c 𝓜 𝓡 (Goes-ref 𝓛 1 0 tt (plain (λ _. H)), tt)
    f.Key.name code.function (code.unfolded 𝓤 𝓛.H 𝓜 𝓡 wired)
    (λ κs. (mut_vals, tt)) (λ κs. (mut_Tells (named 0) κs.0 H, tt)) (λ κs qs bounds a _ are.
    let b = a.0.ref_ptr.0 in let o = a.0.ref_ptr.1 in let h = a.0.now in let vs = mut_vals a.0 in
    let y : W.Ghost = ((κs, qs, bounds, a, (vs, tt)), tt) in
    qed 𝓛
    (((‵ (flft κs.0 qs.0) ⊛ ‵ ftrue) ⊛ ‵ ((MutRef (named 0) κs.0 H).own_val a.0 vs) ⊛ ‵ ftrue)
    ∷ ‵ ftrue
    ∷ [])
    ∵
    split ! $ split ! $ move ! (2 ∷ []) $ split ! $ keep ! (0 ∷ 2 ∷ []) $
    enter ! _ _ _ _ _ $ alloc_all ! (λ l. pass_all ! refl ((tt, tt), tt) $
    fsplit3 ! $ move ! (1 ∷ 2 ∷ 3 ∷ []) $ opens ! tt H b o (λ us.
    move ! (1 ∷ []) $ peeks ! H _ (shows 𝓛 H) h us (λ is.
    let Cell = λ (ws : List Val). ‵ (cell_at full_share H.mir ws b o) in
    rewrite ! 1 Cell (lowers.val_is h us is) refl $
    -- [what the handle owns; its cell; the open borrow, in three entries]
    sets !
    (of_opd !
    (load ! (through ! refl (fld ! refl (stop !))) (look_in ! 1 (sub ! 1 refl (whole !)))))
    refl (tt, tt) $
    rewrite ! 1 Cell (sym (lowers.val_is h us is)) refl $
    move ! (1 ∷ []) $ closes ! tt H h us b o $
    -- [two parts of self; the token; self's first part]
    returns ! (look_at ! 0 refl) $ free_all ! refl $ move ! (3 ∷ []) $
    suffices ! _ (ends_at 𝓛 f.ended stayed c y (vbool h.held) h.held (h, tt) (tt, tt)) $ says !
    (refl, refl) $
    group ! 3 $ nothing ! $ move ! (1 ∷ 0 ∷ []) $ join ! $ nothing ! $ move ! (2 ∷ 0 ∷ []) $
    join ! $ frame ! $ frame ! $
    owned ! bool _ (bool_Makes 𝓛) h.held _ refl $ done !))))
