-- A handle by value: what its fields own, and what it owns.
use Rattle.vx_embed.proofs.Steps.{Bool, List, [], ◌∷◌, refl, Val, vbool, ‵, ◌$◌, fjoin, fpack, feq_i, step, Step, Goal, Item, nothing, Logic, Valss, RawPtr, bool, Ptr, ptr_val, shape, within, H, H-type, word, ◌≡◌, Seq, fsplit, drop, peeks, shows, lowers, S, Heap, Heap-laws, Heap-ghosts}
use Rattle.loose.proofs.Values.{Al, al}
pub use Rattle.loose.proofs.Values.{handle_tells}
use seplogic.Ra.Ura.{Ura}
use Rattle.connections.specs.Connections.{ConnectionsValue}
use Rattle.vx_embed.specs.Ownership.{handle_owns}

module _ {M : Type 1} {𝓤 : Ura M} {𝓛 : Logic 𝓤} {K : Type 0} {Γ : List (Item 𝓤)}
    {G : Goal 𝓤 𝓛.H} where
  pub handle_in : K → (p : Ptr) (h : Bool) (w : ConnectionsValue)
      → Step K 𝓛
      (‵
      (H.own_val (record { at = p; held = h; world = w })
      (word (record { at = p; held = h; world = w }) ∷ []))
      ∷ Γ)
      G (‵ (handle_owns h p w) ∷ Γ) G
  handle_in t p h w = step (λ k. let v : Val = word (record { at = p; held = h; world = w }) in
      nothing t $ feq_i t (List Val) (vbool h ∷ []) (vbool h ∷ []) refl $ fjoin t $ feq_i t
      (List Val) (ptr_val p ∷ []) (ptr_val p ∷ []) refl $ fjoin t $
      feq_i t (List Val) (v ∷ []) (v ∷ []) refl $ fjoin t $
      fpack t (Valss (RawPtr ∷ bool ∷ [])) (within (shape H-type) (p, (h, tt)) (v ∷ []))
      (ptr_val p ∷ [], (vbool h ∷ [], tt)) $ fjoin t $ k)

  pub handle_out : K
      → (d : H.Denot) (vs : List Val)
      → (vs ≡ word d ∷ [] → Seq K 𝓛 (‵ (handle_owns d.held d.at d.world) ∷ Γ) G)
      → Seq K 𝓛 (‵ (H.own_val d vs) ∷ Γ) G
  handle_out t d vs k =
      peeks t H _ (shows 𝓛 H) d vs (λ is. fsplit t $ drop t $ k (lowers.val_is d vs is))

abbrev pub Al-heap : Al
Al-heap = al S Heap Heap-laws Heap-ghosts
