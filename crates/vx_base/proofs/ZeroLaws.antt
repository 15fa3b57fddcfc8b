-- Samples that are all 0.
use Rattle.std.proofs.Common.{◌≡◌, ℕ, pos, ◌∷◌, ◌*◌, ◌<◌, length, get_or, map, replicate, zero, suc, refl, ap, ◌∙◌, sym, arith, ext_get_or}
use Rattle.vx_base.proofs.Common.{Format, whole_rectangle, zero_outside, new_image}
use Rattle.std.proofs.lemmas.List.{get_or-replicate, length-replicate}
use Rattle.vx_base.proofs.TableLaws.{length-table}
use Rattle.vx_base.proofs.ImageLaws.{index_of_place, at-new_image}

pub map-replicate : {A B : Type 0} (f : A → B) (n : ℕ) (x : A)
    → map f (replicate n x) ≡ replicate n (f x)
map-replicate f zero x = refl
map-replicate f (suc n) x = ap (λ l. f x ∷ l) (map-replicate f n x)

pub samples-new_image : (width height : ℕ) (format : Format)
    → (new_image width height format).samples ≡ replicate (height * width) (pos 0)
samples-new_image width height format =
    ext_get_or (pos 0) (new_image width height format).samples (replicate (height * width) (pos 0))
    (length-table width height (zero_outside (whole_rectangle width height) (λ _ _. pos 0))
    ∙ sym (length-replicate (height * width) (pos 0)))
    (λ k h.
    let long : length (new_image width height format).samples ≡ height * width =
    length-table width height (zero_outside (whole_rectangle width height) (λ _ _. pos 0)) in
    let below : k < height * width = omega (arith, h, long) in
    let p = index_of_place width height k below in
    ap (λ n. get_or (new_image width height format).samples n (pos 0)) (sym p.4)
    ∙ at-new_image width height format p.0 p.1 p.2 p.3
    ∙ sym (get_or-replicate (height * width) k (pos 0) (pos 0) below))
