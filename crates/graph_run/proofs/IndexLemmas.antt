-- References to the images of a graph, each once, and their indices.
use Rattle.std.proofs.Common.{◌≡◌, ◌≢◌, ℕ, zero, suc, ◌+◌, ◌^◌, ◌<◌, ◌≤◌, false, List, [], ◌∷◌, ◌++◌, length, map, get_or, refl, sym, ap, subst, ◌∙◌, inl, inr, arith, Option, Some, None, position, ◌⊎◌}
use Rattle.std.proofs.lemmas.List.Recursion.{is_position_or_len}
use Rattle.std.proofs.lemmas.List.{append_assoc, append-nil, length-map}
use Rattle.std.proofs.Math.Seq.{drop-append_seam}
use Rattle.graph_verify.proofs.KnownLemmas.{find_cases}
use Rattle.graph_verify.proofs.MemberLemmas.{position-None}
use Rattle.graph_run.proofs.Common.{In-at, fails-from_In, list_any, list_any-append, cases_Bool, or_parts, Reference, same_reference, has_twice, In, In-append, In-left, In-right, In-from_any, any-from_In, same_cell-true, same_cell-refl, NamedObject, Node, PlanView, VirtualOutput, slot_index_of}
use Rattle.graph_run.specs.Bind.{AreAllApart, HoldImages}
use Rattle.graph_run.specs.Cells.{images_named, index_of, with_cell, with_cells}
use Rattle.graph_run.specs.Tasks.{HasIndices, client_cells, graph_cells, virtual_output}

-- ---- indices

pub index_found : (cells : List Reference) (c : Reference) (k : ℕ)
    → position (λ d. same_reference d c) cells ≡ Some k
    → index_of cells c ≡ k
index_found cells c k found =
    grind (
      arith,
      is_position_or_len (λ l. index_of l c) (λ d. same_reference d c) refl (λ d l. grind arith)
          cells,
    )

none_before : (cells : List Reference) (c : Reference)
    → ((d : Reference) → In d cells → same_reference d c ≡ false)
    → length cells ≡ index_of cells c
none_before [] c none = refl
none_before (d ∷ cells) c none =
    grind (arith, none d (inl refl), none_before cells c (λ e i. none e (inr i)))

pub index_none : (cells : List Reference) (c : Reference)
    → position (λ d. same_reference d c) cells ≡ None
    → index_of cells c ≡ length cells
index_none cells c none =
    sym (none_before cells c (position-None (λ d. same_reference d c) cells none))

pub ruleset index_steps = (index_found, index_none)

pub index_below : (cells : List Reference) (c : Reference)
    → In c cells
    → index_of cells c < length cells
index_below [] c i = elim i [ ]
index_below (d ∷ cells) c i =
    grind (arith, cases_Bool (same_reference d c), same_cell-refl c, index_below cells c)

pub at_index : (cells : List Reference) (c d : Reference)
    → In c cells
    → get_or cells (index_of cells c) d ≡ c
at_index [] c d i = elim i [ ]
at_index (x ∷ cells) c d i =
    grind (
      arith,
      cases_Bool (same_reference x c),
      same_cell-true x c,
      same_cell-refl c,
      at_index cells c d,
    )

index_most : (cells : List Reference) (c : Reference) → index_of cells c ≤ length cells
index_most [] c = omega arith
index_most (x ∷ cells) c = grind (arith, index_most cells c)

-- an image's plane has an index
pub slot_fits : (p : PlanView) (outs : List VirtualOutput) (slots : ℕ) (clients : List Reference)
    → HasIndices p outs slots clients
    → (c : Reference) (o : VirtualOutput)
    → virtual_output outs c ≡ Some o
    → slot_index_of p o < 2 ^ 64
slot_fits p outs slots clients fits c o found =
    elim (find_cases (λ (x : VirtualOutput). same_reference x.cell c) outs) [
      | inl f ↦
          subst (λ (x : VirtualOutput). slot_index_of p x < 2 ^ 64)
          (let e = sym f.1 ∙ found in same_some f.0 o e) (fits.0 f.0 f.2)
      | inr none ↦ absurd (let e = sym none.0 ∙ found in cc)
    ]
  where
    same_some : (a b : VirtualOutput) → ◌≡◌ {A = Option VirtualOutput} (Some a) (Some b) → a ≡ b
    same_some a b e = cc

pub client_fits : (p : PlanView) (outs : List VirtualOutput) (slots : ℕ) (clients : List Reference)
    → HasIndices p outs slots clients
    → (c : Reference)
    → slots + index_of clients c < 2 ^ 64
client_fits p outs slots clients fits c =
    let most = index_most clients c in let room = fits.1 in omega arith

-- cells that differ have other indices
pub indices_differ : (cells : List Reference) (a b : Reference)
    → In a cells
    → In b cells
    → a ≢ b
    → index_of cells a ≢ index_of cells b
indices_differ cells a b i j differ same = grind (arith, at_index cells a a, at_index cells b a)

-- ---- each cell once

once_push : (cells : List Reference) (c : Reference)
    → has_twice cells ≡ false
    → list_any (λ d. same_reference d c) cells ≡ false
    → has_twice (cells ++ c ∷ []) ≡ false
once_push [] c once new = refl
once_push (d ∷ cells) c once new =
    grind (arith, once_push cells c, list_any-append (same_reference d) cells (c ∷ []), or_parts)

pub once_more : (cells : List Reference) (c : Reference)
    → has_twice cells ≡ false
    → has_twice (with_cell cells c) ≡ false
once_more cells c once =
    grind (arith, cases_Bool (list_any (λ d. same_reference d c) cells), once_push)

pub once_all : (cells more : List Reference)
    → has_twice cells ≡ false
    → has_twice (with_cells cells more) ≡ false
once_all cells [] once = once
once_all cells (c ∷ more) once = once_all (with_cell cells c) more (once_more cells c once)

-- ---- the cells that are there

stays_in : (cells : List Reference) (c x : Reference) → In x cells → In x (with_cell cells c)
stays_in cells c x i = grind (arith, cases_Bool (list_any (λ d. same_reference d c) cells), In-left)

added_in : (cells : List Reference) (c : Reference) → In c (with_cell cells c)
added_in cells c = elim (cases_Bool (list_any (λ d. same_reference d c) cells)) [
  | inl there ↦
      (let found = In-from_any (λ d. same_reference d c) cells there in grind
      (arith, there, found.1, same_cell-true found.0 c found.2))
  | inr new ↦ rw new (In-right c cells (c ∷ []) (inl refl))
]

pub in_before : (cells more : List Reference) (x : Reference)
    → In x cells
    → In x (with_cells cells more)
in_before cells [] x i = i
in_before cells (c ∷ more) x i = in_before (with_cell cells c) more x (stays_in cells c x i)

pub in_more : (cells more : List Reference) (x : Reference)
    → In x more
    → In x (with_cells cells more)
in_more cells [] x i = elim i [ ]
in_more cells (c ∷ more) x i =
    grind (
      arith,
      in_more (with_cell cells c) more x,
      in_before (with_cell cells c) more x,
      added_in cells c,
    )

in_one : (cells : List Reference) (c x : Reference)
    → In x (with_cell cells c)
    → In x cells ⊎ (x ≡ c)
in_one cells c x i =
    grind (arith, cases_Bool (list_any (λ d. same_reference d c) cells), In-append x cells (c ∷ []))

pub in_either : (cells more : List Reference) (x : Reference)
    → In x (with_cells cells more)
    → In x cells ⊎ In x more
in_either cells [] x i = inl i
in_either cells (c ∷ more) x i = grind (arith, in_either (with_cell cells c) more x i, in_one)

-- ---- cells of images are apart

pub once_differ : (c : Reference) (cells : List Reference) (x : Reference)
    → list_any (same_reference c) cells ≡ false
    → In x cells
    → x ≢ c
once_differ c cells x none i e =
    grind (
      arith,
      none,
      any-from_In (same_reference c) x cells i (ap (same_reference c) e ∙ same_cell-refl c),
    )

-- so are all of a list, each once
pub all_apart : (objects : List NamedObject) (cells : List Reference)
    → has_twice cells ≡ false
    → HoldImages objects cells
    → AreAllApart cells
all_apart objects [] once holds = tt
all_apart objects (c ∷ cells) once holds =
    grind (
      arith,
      or_parts (list_any (same_reference c) cells) (has_twice cells) once,
      once_differ c cells,
      all_apart objects cells,
    )

-- ---- indices in two lists

-- each cell is added behind those that are there
pub added_behind : (cells more : List Reference)
    → (rest : List Reference) × (with_cells cells more ≡ cells ++ rest)
added_behind cells [] = ([], sym (append-nil cells))
added_behind cells (c ∷ more) =
    grind (
      arith,
      cases_Bool (list_any (λ d. same_reference d c) cells),
      added_behind cells more,
      added_behind (cells ++ c ∷ []) more,
      append_assoc,
    )

-- so those of a graph are the virtual ones, and then the clients'
pub cells_parts : (steps : List Node) (outs : List VirtualOutput)
    → graph_cells steps outs ≡ map (λ (o : VirtualOutput). o.cell) outs ++ client_cells steps outs
cells_parts steps outs =
    let behind = added_behind (map (λ (o : VirtualOutput). o.cell) outs) (images_named steps) in
    rw (
      behind.1,
      ← length-map outs (λ (o : VirtualOutput). o.cell),
      drop-append_seam (map (λ (o : VirtualOutput). o.cell) outs) behind.0,
    ) refl

-- the cell at an index has it
pub index_at : (cells : List Reference) (k : ℕ) (d : Reference)
    → has_twice cells ≡ false
    → k < length cells
    → index_of cells (get_or cells k d) ≡ k
index_at [] k d once below = absurd (omega (arith, below))
index_at (x ∷ cells) zero d once below = rw (same_cell-refl x) refl
index_at (x ∷ cells) (suc k) d once below =
    grind (
      arith,
      or_parts,
      index_at cells k d,
      fails-from_In (same_reference x) (get_or cells k d) cells,
      In-at cells k d,
    )

pub index_left : (xs ys : List Reference) (c : Reference)
    → In c xs
    → index_of (xs ++ ys) c ≡ index_of xs c
index_left [] ys c i = elim i [ ]
index_left (x ∷ xs) ys c i =
    grind (arith, cases_Bool (same_reference x c), same_cell-refl c, index_left xs ys c)

-- the index of a cell that is behind others
pub index_behind : (xs ys : List Reference) (c : Reference)
    → (In c xs → ⊥)
    → index_of (xs ++ ys) c ≡ length xs + index_of ys c
index_behind [] ys c none = omega arith
index_behind (x ∷ xs) ys c none =
    grind (
      arith,
      cases_Bool (same_reference x c),
      same_cell-true,
      index_behind xs ys c (λ i. none (inr i)),
    )
