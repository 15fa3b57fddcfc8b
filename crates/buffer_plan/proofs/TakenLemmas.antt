-- The earlier content of a slot when another image takes it.
use Rattle.std.proofs.Common.{◌≡◌, ◌≢◌, ℕ, ◌+◌, ◌-◌, true, false, List, [], ◌∷◌, ◌++◌, length, take, Option, refl, ap, arith, ◌||◌}
use Rattle.buffer_plan.proofs.Common.{false_from_ne_true, or_left, or_right, Node, Reference, VirtualOutput, reads, writes, is_written, In, In-filter, is_node_operand, is_live, IsPlan, PlanView, of_format, IsValid}
use Rattle.std.proofs.Math.Bool.{or-false}
use Rattle.std.proofs.Math.Seq.{drop-append_seam}
use Rattle.std.proofs.lemmas.List.Folds.{list_any-append}
use Rattle.buffer_plan.proofs.PlanLemmas.{In-format}

take_one : (before after : List Node) (n : Node)
    → take (length before + 1) (before ++ n ∷ after) ≡ before ++ n ∷ []
take_one [] after n = refl
take_one (m ∷ before) after n = grind (arith, take_one before after n)

-- a cell that has been written, this step's own included, and is used from this step on
live_now : (before after : List Node) (n : Node) (c : Reference)
    → (is_written before c || writes n c) ≡ true
    → is_node_operand (n ∷ after) c ≡ true
    → is_live (before ++ n ∷ after) c (length before + 1) ≡ true
live_now before after n c written used =
    let here : length before + 1 - 1 ≡ length before = omega arith in
    rw (
      take_one before after n,
      here,
      drop-append_seam before (n ∷ after),
      list_any-append (λ m. writes m c) before (n ∷ []),
      or-false (writes n c),
      written,
    ) used

-- if a step writes one of two images in a slot, and the other has been written and is used from
-- that step on, they are the same image
pub one_when_taken :
    (before after : List Node) (n : Node) (images : List VirtualOutput)
    (slot : Reference → Option ℕ)
    → IsValid (before ++ n ∷ after) images slot
    → (taken held : VirtualOutput)
    → In taken images
    → In held images
    → held.desc.format ≡ taken.desc.format
    → writes n taken.cell ≡ true
    → (is_written before held.cell || writes n held.cell) ≡ true
    → is_node_operand (n ∷ after) held.cell ≡ true → slot held.cell ≡ slot taken.cell → held ≡ taken
one_when_taken before after n images slot valid taken held i j format writer written used same =
    let uses =
    or_left (reads n taken.cell || writes n taken.cell) (is_node_operand after taken.cell)
    (or_right (reads n taken.cell) (writes n taken.cell) writer) in
    let a =
    live_now before after n taken.cell
    (or_right (is_written before taken.cell) (writes n taken.cell) writer) uses in
    let live = λ (o : VirtualOutput). is_live (before ++ n ∷ after) o.cell (length before + 1) in
    let f = taken.desc.format in
    let taken_live =
    In-filter live taken (of_format f images) (In-format f taken images i refl) a in
    let held_live =
    In-filter live held (of_format f images) (In-format f held images j format)
    (live_now before after n held.cell written used) in
    valid f (length before + 1) held taken held_live taken_live same

pub free_when_taken :
    (before after : List Node) (n : Node) (images : List VirtualOutput) (p : PlanView)
    → IsPlan (before ++ n ∷ after) images p
    → (taken held : VirtualOutput)
    → In taken images
    → In held images
    → held.desc.format ≡ taken.desc.format
    → writes n taken.cell ≡ true
    → is_written before held.cell ≡ true
    → p.slot_of held.cell ≡ p.slot_of taken.cell
    → held.cell ≢ taken.cell
    → is_node_operand (n ∷ after) held.cell ≡ false
free_when_taken before after n images p plan taken held i j format writer written same other =
    false_from_ne_true (is_node_operand (n ∷ after) held.cell) (λ used.
    let both = or_left (is_written before held.cell) (writes n held.cell) written in
    other
    (ap (λ (o : VirtualOutput). o.cell)
    (one_when_taken before after n images p.slot_of plan.valid taken held i j format writer both
    used same)))
