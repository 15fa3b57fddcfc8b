-- What the handle owns goes to the loose box.
use Rattle.vx_embed.proofs.Steps.{◌≡◌, Bool, List, [], ◌∷◌, ◌++◌, refl, sym, subst, true, proved_at, id⊢, SProp, ent, ftrue, Val, vptr, tables, WpFn, ‵, raw, ◌⊛◌, ◌$◌, ◌∵◌, !, qed, done, drop, keep, ◌∙◌, move, split, fsplit3, join, suffices, enter, of_opd, no_more, and_then, stop, fld, returns, alloc_all, pass_all, free_all, look_at, get, get_in, sets, agg, whole, sub, owns, block_ptr, plain, yes, nothing, heard, fact, rewrite, Stays, walk_of, says, stay_dropped, Goes-dropped, ends_at, H, word, S, Heap, Heap-laws, Heap-ghosts, Loose-row, both, loose_good, loose_in, heap, box_owns, in_a_block, bare, lone, never, fst∗, sem, null_ptr}
use Rattle.vx_embed.proofs.HandleValues.{handle_out, handle_tells, Al-heap}
use denote.RattleType.{RattleType}
use Rattle.vx_embed.specs.Ownership.{handle_owns}
use Rattle.vx_embed.specs.contracts.handle.Handle.into_loose as f
use Rattle.vx_embed.proofs.handle.Handle.into_loose.Statement.{statement}
use Rattle.vx_embed.proofs.handle.Handle.into_loose.Code as code

abbrev L : RattleType
L = Loose-row S Heap Heap-ghosts

abbrev stayed : Stays f.ended.signature.params f.ended.kept
stayed = (stay_dropped (plain (λ _. H)) yes, (stay_dropped (plain (λ _. Heap)) yes, tt))

pub into_loose_spec : {M : Type 1} → statement M
into_loose_spec 𝓤 𝓛 𝓜 𝓡 wired =
    let c = f.clauses 𝓛 𝓜.mem 𝓡.returns in let 𝓣 = tables 𝓤 𝓛.H 𝓜 𝓡 𝓡.env in
    proved_at 𝓛 f.ended stayed c 𝓜 𝓡 (
      Goes-dropped 𝓛 0 (plain (λ _. H)) yes (λ κs x w. refl),
      (Goes-dropped 𝓛 0 (plain (λ _. Heap)) yes (λ κs x w. refl), tt),
    ) f.Key.name code.function (code.unfolded 𝓤 𝓛.H 𝓜 𝓡 wired) (λ z are.
    let v = z.0.3.0 in
    let a = z.0.3.1.0 in
    let Post : Val → SProp 𝓤 = (walk_of 𝓛 f.ended stayed c).post z in
    let Run : List Val → SProp 𝓤 = λ ws. WpFn 𝓤 𝓛.H 𝓣.C 𝓣.Λ code.function ws Post in
    qed 𝓛 ((‵ ftrue ⊛ ‵ (owns (H ∷ Heap ∷ []) z.0.3 z.0.4)) ∷ raw (fact 𝓤 (v.held ≡ true)) ∷ [])
    ∵ move ! (1 ∷ []) $ heard ! (v.held ≡ true) (λ has. split ! $ drop ! $ fsplit3 ! $
    -- [the handle; the heap; nothing]
    handle_out ! v z.0.4.0
    (λ is. rewrite ! 0 (λ (t : Bool). ‵ (handle_owns t v.at v.world)) has refl $
    in_a_block ! v.at (λ p. box_owns (Heap-ghosts.dealloc_token heap) S p v.world)
    (fst∗ 𝓤 (never 𝓤) (sem 𝓛 (Heap-ghosts.dealloc_token heap (bare (lone S.mir)) null_ptr)))
    (λ b o e.
    -- [the server in its block; the heap; nothing]
    move ! (1 ∷ []) $ handle_tells Al-heap ! a z.0.4.1.0 (λ h ea fits. move ! (1 ∷ 0 ∷ []) $
    let at-block : H.Denot = record { at = block_ptr b o; held = true; world = v.world } in
    let w : Val = word at-block in
    let made : L.Denot = record { at = block_ptr b o; alloc = a; value = v.world } in
    let ws : z.0.4.0 ≡ w ∷ [] =
    is ∙ (λ i. word (record { at = e i; held = has i; world = v.world }) ∷ []) in
    let typed = loose_good S Heap Heap-laws Heap-ghosts b o h fits in
    suffices ! (Run (w ∷ h ∷ []))
    (subst (λ (us : List Val). ent 𝓤 (Run (w ∷ h ∷ [])) (Run us))
    (sym (λ i. ws i ++ (ea i ++ []))) (id⊢ 𝓤 (Run (w ∷ h ∷ []))))
    $
    enter ! 𝓣.C 𝓣.Λ code.function (w ∷ h ∷ []) Post $ alloc_all !
    (λ l. pass_all ! refl ((tt, (tt, (tt, tt))), (fits, tt)) $
    sets ! (of_opd ! (get_in ! (fld ! refl (stop !)) (sub ! 0 refl (whole !)))) refl (tt, tt) $
    sets ! (of_opd ! (get ! refl)) refl (tt, tt) $
    sets ! (agg ! (and_then ! (get ! refl) (and_then ! (get ! refl) (no_more !)))) refl typed $
    returns ! (look_at ! 0 refl) $ free_all ! refl $ loose_in S Heap Heap-laws Heap-ghosts ! b o
    h a v.world $ keep ! (0 ∷ []) $
    suffices ! _
    (ends_at 𝓛 f.ended stayed c z (both (vptr b o) h) made (tt, (tt, tt)) (tt, (tt, tt))) $ says
    ! refl $
    nothing ! $ nothing ! $ join ! $ nothing ! $ join ! $ nothing ! $ done !))))))
