-- The tasks of a graph: the node, the output and the index in the order of each step, and the node
-- of each reduction.
use Rattle.std.proofs.Common.{◌≡◌, ◌≢◌, Bool, true, false, ◌||◌, List, [], ◌∷◌, length, refl, sym, subst, inl, inr, arith, Option, Some, None, ◌⊎◌, is_some, is_none, ◌&&◌, if◌then◌else◌, unwrap_or}
use Rattle.graph_run.proofs.Common.{and_parts, Reference, Function, In, Kind, Node, ObjectValue, NamedObject, cell_object, is_node, parameters}
use Rattle.graph_verify.proofs.MemberLemmas.{In-flat_map}
use Rattle.std.proofs.lemmas.List.{length-append}
use Rattle.vx_base.specs.declared.kind.Kind.TheVariants as kind
use Rattle.graph_run.specs.Program.{node_tallies, tallies_of, tally_by}
use Rattle.graph_run.specs.Results.{tally_cell, tally_cells}
use Rattle.graph_run.proofs.RunLemmas.{has_of_node}

-- ---- outputs of nodes

pub image_or : (k : Kind) → (k ≡ kind.Image) ⊎ (k ≢ kind.Image)
image_or kind.Image = inl refl
image_or other = inr (λ e. cc)

-- a node that writes no image has one output
pair_of_images : (f : Function)
    → (parameters f).output ≢ kind.Image
    → (parameters f).output_pair ≡ false
pair_of_images f other = grind arith

one_of : (pair : Bool) (one two : Option Reference)
    → pair ≡ false
    → (if pair then (is_some one || is_some two) else (is_some one && is_none two)) ≡ true
    → (c : Reference) × (one ≡ Some c) × (two ≡ None)
one_of pair one two single e = grind arith

pub one_output : (n : Node)
    → is_node n ≡ true
    → (parameters n.function).output ≢ kind.Image
    → (c : Reference) × (n.out1 ≡ Some c) × (n.out2 ≡ None)
one_output n shape other =
    one_of (parameters n.function).output_pair n.out1 n.out2 (pair_of_images n.function other)
    (and_parts _ _ (has_of_node n shape)).1

-- ---- steps

pub one_cell : (wanted : Kind) (n : Node)
    → wanted ≢ kind.Image
    → tally_cell wanted n ≡ unwrap_or n.out1 n.in1 ∷ []
one_cell wanted n other = grind arith

-- each node that writes no image has a tally
pub tally_there : (nodes : List Node) (n : Node)
    → In n nodes
    → (parameters n.function).output ≢ kind.Image
    → In (unwrap_or n.out1 n.in1) (tally_cells nodes)
tally_there nodes n i other =
    In-flat_map (λ (m : Node). tally_cell (parameters m.function).output m) n
    (unwrap_or n.out1 n.in1) nodes i
    (subst (In (unwrap_or n.out1 n.in1)) (sym (one_cell (parameters n.function).output n other))
    (inl refl))

pub tally_each : (wanted : Kind) (n : Node) (object : ObjectValue)
    → length (tally_by wanted object) ≡ length (tally_cell wanted n)
tally_each wanted n object = grind arith

pub tally_count : (objects : List NamedObject) (nodes : List Node)
    → length (tallies_of objects nodes) ≡ length (tally_cells nodes)
tally_count objects [] = refl
tally_count objects (n ∷ nodes) =
    omega (
      arith,
      length-append (node_tallies objects n) (tallies_of objects nodes),
      length-append (tally_cell (parameters n.function).output n) (tally_cells nodes),
      tally_each (parameters n.function).output n (cell_object objects (unwrap_or n.out1 n.in1)),
      tally_count objects nodes,
    )
