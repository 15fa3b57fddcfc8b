-- Lists from an item on.
use Rattle.std.proofs.Common.{◌≡◌, ℕ, ◌+◌, ◌<◌, List, ◌∷◌, length, drop, get_or, sym, ap, ◌∙◌}
use Rattle.std.proofs.lemmas.List.{drop_more}

-- ---- what is left

-- from an item on
pub rest_at : {X : Type 0} (xs : List X) (k : ℕ) (x d : X)
    → k < length xs
    → x ≡ get_or xs k d
    → drop k xs ≡ x ∷ drop (k + 1) xs
rest_at {X = X} xs k x d below is =
    drop_more xs k d below ∙ ap (λ y. let l : List X = y ∷ drop (k + 1) xs in l) (sym is)
