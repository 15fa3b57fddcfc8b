-- The cells that nodes read and write, and lists of them.
use Rattle.std.proofs.Common.{◌≡◌, true, false, List, get_or, subst, Some, arith}
use Rattle.graph_run.proofs.Common.{list_any, or_left, or_right, false_from_ne_true, Node, Reference, same_reference, optional_cells, In, writes, is_written, same_cell-refl, In-from_any, any-from_In, In-at, Contains-from_In}
use Rattle.graph_verify.specs.Links.{reads}
use Rattle.std.specs.List.{All}

-- ---- members of lists

pub All-from_In : {X : Type 0} (P : X → Type 0) (xs : List X) → ((x : X) → In x xs → P x) → All P xs
All-from_In P xs h = λ k d within. h (get_or xs k d) (In-at xs k d within)

pub In-from_All : {X : Type 0} (P : X → Type 0) (xs : List X) → All P xs → (x : X) → In x xs → P x
In-from_All P xs h x i = let r = Contains-from_In x xs i in subst P r.2 (h r.0 x r.1)

-- ---- nodes

-- a node reads its inputs
pub reads_first : (n : Node) → reads n n.in1 ≡ true
reads_first n =
    or_left (same_reference n.in1 n.in1)
    (list_any (same_reference n.in1) (optional_cells n.in2)) (same_cell-refl n.in1)

pub reads_second : (n : Node) (c : Reference) → n.in2 ≡ Some c → reads n c ≡ true
reads_second n c e = grind (arith, or_right, or_left, same_cell-refl)

-- a cell that no node of the list writes
pub unwritten : (nodes : List Node) (c : Reference)
    → is_written nodes c ≡ false
    → (n : Node)
    → In n nodes
    → writes n c ≡ false
unwritten nodes c h n i =
    false_from_ne_true (writes n c) (λ w. let k = any-from_In (λ m. writes m c) n nodes i w in cc)

pub is_unwritten : (nodes : List Node) (c : Reference)
    → ((n : Node) → In n nodes → writes n c ≡ false)
    → is_written nodes c ≡ false
is_unwritten nodes c h =
    false_from_ne_true (is_written nodes c)
    (λ w. let r = In-from_any (λ m. writes m c) nodes w in let none = h r.0 r.1 in let some =
    r.2 in cc)
