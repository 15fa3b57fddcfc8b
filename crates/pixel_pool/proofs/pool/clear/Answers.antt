use Rattle.std.proofs.Common.{◌≡◌, ℕ, List, length, map, pos, replicate, sym, ap, ◌∙◌}
use Rattle.std.proofs.lemmas.List.{length-map}
use Rattle.vx_base.proofs.ZeroLaws.{map-replicate}
use Rattle.pixel_pool.proofs.pool.clear.Goals as goal

-- numbers that are all 0, as many as there were, are samples that are all 0
zeros_for : (count : ℕ) (old new : List ℕ)
    → count ≡ length old
    → new ≡ replicate count 0
    → map pos new ≡ replicate (length (map pos old)) (pos 0)
zeros_for count old new size filled =
    ap (map pos) filled
    ∙ map-replicate pos count 0
    ∙ ap (λ n. replicate n (pos 0)) (size ∙ sym (length-map old pos))

pub returns-in-U8-clause-zero : goal.returns-in-U8-clause-zero
returns-in-U8-clause-zero c =
    rw c.in-U8.is (zeros_for _ _ _ c.in-U8.samples.ok.0 (c.fill.ensures.items (λ y same. same)))

pub returns-in-U32-clause-zero : goal.returns-in-U32-clause-zero
returns-in-U32-clause-zero c =
    rw c.in-U32.is
    (zeros_for _ _ _ c.in-U32.samples.ok.0 (c.fill-in-U32.ensures.items (λ y same. same)))
