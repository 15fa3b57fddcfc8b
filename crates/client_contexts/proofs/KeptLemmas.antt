-- The data of a kept graph, as they are lent.
use Rattle.std.proofs.Common.{◌≡◌, ℕ, List, Option, IfSome, Bor, option_copied, arith}
use Rattle.client_contexts.proofs.Common.{is_at, lookup, nat_cmp, option_map, Context, KeptGraph, IsKept, AreKept, verified_in}
use Rattle.client_contexts.proofs.ReadyLemmas.{kept_there}
use Rattle.client_contexts.proofs.VerifiedLemmas.{shown}

-- the entry under a name belongs to the graph of that name
pub lent_is_kept :
    (c : Context) (name : ℕ) (kept : List (ℕ × KeptGraph)) (found : Option (Bor KeptGraph))
    → AreKept c kept
    → option_copied found ≡ lookup (is_at (nat_cmp name)) kept
    → IfSome found (λ k. IsKept c name k.now)
lent_is_kept c name kept found are is = grind (arith, kept_there)

-- its work bytes are those listed for the name
pub lent_shows : (name : ℕ) (kept : List (ℕ × KeptGraph)) (found : Option (Bor KeptGraph))
    → option_copied found ≡ lookup (is_at (nat_cmp name)) kept
    → option_map {T = Bor KeptGraph} (λ k. k.now.work) found
    ≡ lookup (is_at (nat_cmp name)) (verified_in kept)
lent_shows name kept found is = grind (arith, shown)
