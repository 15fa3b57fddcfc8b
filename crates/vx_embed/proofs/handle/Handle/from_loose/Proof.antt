-- What the loose box owns goes to the handle.
use Rattle.vx_embed.proofs.Steps.{List, [], ◌∷◌, ◌++◌, refl, sym, subst, true, proved_at, id⊢, SProp, ent, ftrue, Val, vptr, tables, WpFn, ‵, raw, ◌⊛◌, ◌$◌, ◌∵◌, !, qed, done, drop, keep, split, fsplit, join, suffices, enter, of_opd, true_lit, no_more, and_then, stop, fld, returns, alloc_all, pass_all, free_all, look_at, get, get_in, sets, agg, whole, sub, owns, block_ptr, plain, yes, nothing, Stays, walk_of, says, stay_dropped, Goes-dropped, ends_at, H, word, S, Heap, Heap-laws, Heap-ghosts, Loose-row, both, loose_good, loose_out}
use Rattle.vx_embed.proofs.HandleValues.{handle_in}
use denote.RattleType.{RattleType}
use Rattle.vx_embed.specs.contracts.handle.Handle.from_loose as f
use Rattle.vx_embed.proofs.handle.Handle.from_loose.Statement.{statement}
use Rattle.vx_embed.proofs.handle.Handle.from_loose.Code as code

abbrev L : RattleType
L = Loose-row S Heap Heap-ghosts

abbrev stayed : Stays f.ended.signature.params f.ended.kept
stayed = (stay_dropped (plain (λ _. L)) yes, tt)

pub from_loose_spec : {M : Type 1} → statement M
from_loose_spec 𝓤 𝓛 𝓜 𝓡 wired =
    let c = f.clauses 𝓛 𝓜.mem 𝓡.returns in let 𝓣 = tables 𝓤 𝓛.H 𝓜 𝓡 𝓡.env in
    proved_at 𝓛 f.ended stayed c 𝓜 𝓡 (
      Goes-dropped 𝓛 0 (plain (λ _. L)) yes (λ κs x w. refl),
      tt,
    ) f.Key.name code.function (code.unfolded 𝓤 𝓛.H 𝓜 𝓡 wired) (λ z are.
    let v = z.0.3.0 in
    let Post : Val → SProp 𝓤 = (walk_of 𝓛 f.ended stayed c).post z in
    let Run : List Val → SProp 𝓤 = λ ws. WpFn 𝓤 𝓛.H 𝓣.C 𝓣.Λ code.function ws Post in
    qed 𝓛 ((‵ ftrue ⊛ ‵ (owns (L ∷ []) z.0.3 z.0.4)) ∷ raw ((c z.0.0 z.0.3).requires z.1) ∷ [])
    ∵ split ! $ drop ! $ fsplit ! $
    loose_out S Heap Heap-laws Heap-ghosts ! v z.0.4.0 (λ b o h e ws fits.
    -- [the server in its block; the heap; nothing; the `requires`]
    let w : Val = both (vptr b o) h in
    let made : H.Denot = record { at = block_ptr b o; held = true; world = v.value } in
    suffices ! (Run (w ∷ []))
    (subst (λ (us : List Val). ent 𝓤 (Run (w ∷ [])) (Run us)) (sym (λ i. ws i ++ []))
    (id⊢ 𝓤 (Run (w ∷ []))))
    $
    enter ! 𝓣.C 𝓣.Λ code.function (w ∷ []) Post $ alloc_all !
    (λ l. pass_all ! refl (loose_good S Heap Heap-laws Heap-ghosts b o h fits, tt) $
    sets ! (of_opd ! (get_in ! (fld ! refl (stop !)) (sub ! 0 refl (whole !)))) refl (tt, tt) $
    sets ! (of_opd ! (get ! refl)) refl (tt, tt) $
    sets ! (agg ! (and_then ! (get ! refl) (and_then ! (true_lit !) (no_more !)))) refl
    (tt, (tt, (tt, tt))) $
    returns ! (look_at ! 0 refl) $ free_all ! refl $ handle_in ! (block_ptr b o) true v.value $
    keep ! (0 ∷ []) $
    suffices ! _ (ends_at 𝓛 f.ended stayed c z (word made) made (tt, tt) (tt, tt)) $ says !
    (refl, refl) $
    nothing ! $ nothing ! $ join ! $ nothing ! $ done !)))
