-- The verdict on a graph, from the resolved virtual images.
use Rattle.std.proofs.Common.{◌≡◌, ℕ, ◌+◌, ◌*◌, ◌≤◌, Bool, true, false, List, [], ◌∷◌, length, map, get_or, IsTrue, refl, sym, ◌∙◌, ap, subst, inl, inr, arith, rules, unwrap_or, All, find, sum_by, ◌&&◌, if◌then◌else◌, Option, Some, None}
use Rattle.graph_verify.proofs.Common.{option_map, option_or, filter, flat_map, filter_map, IsPermutation, and_parts, false_from_ne_true, filter-append, sum_by-IsPermutation, length_permutation, Format, Function, Node, Reference, same_reference, Description, byte_count, outputs, PartialDescription, partial_desc_of, with_defaults, ResolvedOutput, Linked, Operand, Image, Virtual, Operands, Verdict, InvalidLink, In, has_cycle, described_output, known_operands, AreResolved, linked_nodes, AreOperands, writes, feeds, is_written, is_virtual, is_image, operand_format, operands_of, IsOrder, operand_partial_desc, given_partial_desc, written_partial_desc, partial_descs, as_known, resolved_operand, IsSolution, two_writers, has_unwritten_input, node_fault, first_fault, virtual_outputs, work_bytes, verdict, sum_by-cons, sum_by-append, fun_ext}
use Rattle.std.proofs.lemmas.Bool.{and_from}
use Rattle.std.specs.List.{cons_option}
use Rattle.std.proofs.lemmas.List.Sorted.{All-permutation}
use Rattle.vx_base.specs.Formats.{open_format}
use Rattle.vx_base.specs.PartialDescription.{full_description}
use Rattle.graph_verify.specs.declared.known.VirtualOutput.{VirtualOutput}
use Rattle.graph_verify.specs.declared.verified.Verified.{Verified}
use Rattle.graph_verify.specs.Operand.{resolved_bytes, operand_description}
use Rattle.graph_verify.specs.PartialDescriptions.{virtual_or_image}
use Rattle.graph_verify.specs.Verified.{IsVerified, written_description}
use Rattle.graph_verify.proofs.KnownLemmas.{find_cases, resolved_from_known, operands_known}
use Rattle.graph_verify.proofs.LinkLemmas.{two_writers-permutation, same-from_In, same_cell-true, same_cell-is, In-outputs}
use Rattle.graph_verify.proofs.MemberLemmas.{In-at, In-from_any, any-from_In, In-filter, AllIn-permutation, Contains-from_In, In-map, In-from_map, In-from_filter, In-from_flat_map, AllIn-permutation_back}
use Rattle.graph_verify.proofs.OrderLemmas.{IsOrder-map, no_cycle_from_order}
use Rattle.graph_verify.proofs.VerdictLemmas.{size_fault, unwritten_input, by_fault}
use Rattle.graph_verify.proofs.PartialDescriptionLemmas.{partial_descs_solve, no_cycle_in_steps, resolved-order, image_partial_desc}

-- ---- the bytes of the virtual images

module _ (is : Reference → Operand) where
  -- the sum over the virtual images that nodes write, node by node
  pub sum_of_outputs : (f : Reference → ℕ) (g : List Node)
      → sum_by f (virtual_outputs is g)
      ≡ sum_by (λ n. sum_by f (filter (λ c. is_virtual (is c)) (outputs n))) g
  sum_of_outputs f [] = refl
  sum_of_outputs f (n ∷ ns) =
      let here = filter (λ c. is_virtual (is c)) (outputs n) in
      grind (
        arith,
        filter-append (λ c. is_virtual (is c)) (outputs n) (flat_map outputs ns),
        sum_by-append f here (virtual_outputs is ns),
        sum_of_outputs f ns,
        sum_by-cons (λ m. sum_by f (filter (λ c. is_virtual (is c)) (outputs m))) n ns,
      )

  outputs_sum-permutation : (f : Reference → ℕ) (g steps : List Node)
      → IsPermutation g steps
      → sum_by f (virtual_outputs is steps) ≡ sum_by f (virtual_outputs is g)
  outputs_sum-permutation f g steps same = grind (arith, sum_of_outputs, sum_by-IsPermutation)

described_bytes : (known : List ResolvedOutput)
    → sum_by (λ (o : VirtualOutput). byte_count o.desc) (filter_map described_output known)
    ≡ sum_by
    (λ (k : ResolvedOutput). resolved_bytes
    (virtual_or_image k.partial_desc (full_description k.partial_desc)))
    known
described_bytes [] = refl
described_bytes (k ∷ known) =
    one_more k.cell k.partial_desc (full_description k.partial_desc)
    (filter_map described_output known)
    ∙ ap
    (λ bytes. resolved_bytes (virtual_or_image k.partial_desc (full_description k.partial_desc))
    + bytes)
    (described_bytes known)
    ∙ sym
    (sum_by-cons
    (λ (j : ResolvedOutput). resolved_bytes
    (virtual_or_image j.partial_desc (full_description j.partial_desc)))
    k known)
  where
    one_more :
        (cell : Reference) (o : PartialDescription) (d : Option Description)
        (rest : List VirtualOutput)
        → sum_by (λ (v : VirtualOutput). byte_count v.desc)
        (cons_option (option_map (λ e. record { cell = cell; desc = e }) d) rest)
        ≡ resolved_bytes (virtual_or_image o d) + sum_by
        (λ (v : VirtualOutput). byte_count v.desc) rest
    one_more cell o None rest = omega arith
    one_more cell o (Some d) rest =
        sum_by-cons (λ (v : VirtualOutput). byte_count v.desc)
        (record { cell = cell; desc = d }) rest

sum_agree : {X : Type 0} (f g : X → ℕ) (xs : List X)
    → ((x : X) → In x xs → f x ≡ g x)
    → sum_by f xs ≡ sum_by g xs
sum_agree f g [] same = refl
sum_agree f g (x ∷ xs) same =
    grind (arith, sum_agree f g xs (λ y i. same y (inr i)), sum_by-cons f x xs, sum_by-cons g x xs)

pub sum_map : {X Y : Type 0} (f : Y → ℕ) (h : X → Y) (xs : List X)
    → sum_by (λ x. f (h x)) xs ≡ sum_by f (map h xs)
sum_map f h [] = refl
sum_map f h (x ∷ xs) =
    grind (arith, sum_map f h xs, sum_by-cons (λ y. f (h y)) x xs, sum_by-cons f (h x) (map h xs))

module _ (is : Reference → Operand) where
  -- each resolved object is a virtual image
  pub known_virtual : (all : List Node) (known : List ResolvedOutput)
      → AreResolved is all known
      → (k : ResolvedOutput)
      → In k known
      → is_virtual (is k.cell) ≡ true
  known_virtual all known h k i =
      (In-from_filter (λ c. is_virtual (is c)) k.cell (flat_map outputs all)
      (subst (In k.cell) h.cells (In-map (λ (j : ResolvedOutput). j.cell) k known i))).1

  virtual_resolved : (all : List Node) (c : Reference) (o : Operand)
      → is_virtual o ≡ true
      → as_known o (partial_descs is all c)
      ≡ virtual_or_image (partial_descs is all c) (full_description (partial_descs is all c))
  virtual_resolved all c o e = grind arith

  -- the resolved description of a virtual image is that of the rounds
  pub known_resolved : (all : List Node) (known : List ResolvedOutput)
      → AreResolved is all known
      → (k : ResolvedOutput)
      → In k known
      → virtual_or_image k.partial_desc (full_description k.partial_desc)
      ≡ resolved_operand is all k.cell
  known_resolved all known h k i =
      grind (
        arith,
        resolved_from_known is all known h,
        virtual_resolved all k.cell (is k.cell) (known_virtual all known h k i),
        known_virtual all known h k i,
      )

  pub all_bytes : (nodes steps : List Node) (known : List ResolvedOutput)
      → two_writers nodes ≡ false
      → IsOrder feeds nodes steps
      → AreResolved is steps known
      → sum_by (λ (o : VirtualOutput). byte_count o.desc) (filter_map described_output known)
      ≡ work_bytes is nodes
  all_bytes nodes steps known one order h =
      let bytes : Reference → ℕ = λ c. resolved_bytes (resolved_operand is steps c) in
      described_bytes known
      ∙ sum_agree
      (λ (k : ResolvedOutput). resolved_bytes
      (virtual_or_image k.partial_desc (full_description k.partial_desc)))
      (λ (k : ResolvedOutput). bytes k.cell) known
      (λ k i. ap resolved_bytes (known_resolved steps known h k i))
      ∙ sum_map bytes (λ (k : ResolvedOutput). k.cell) known
      ∙ ap (sum_by bytes) h.cells
      ∙ outputs_sum-permutation is bytes nodes steps order.same_nodes
      ∙ ap
      (λ (r : Reference → Operand). sum_by (λ c. resolved_bytes (r c)) (virtual_outputs is nodes))
      (sym (fun_ext (resolved-order is nodes steps one order)))

-- ---- the fault of a node

pub first_fault-None : (is : Reference → Operand) (nodes : List Node)
    → first_fault is nodes ≡ None
    → (n : Node)
    → In n nodes
    → node_fault n.function (operands_of is n) ≡ None
first_fault-None is [] h n i = absurd i
first_fault-None is (m ∷ nodes) h n i =
    grind (
      arith,
      first_fault-None is nodes,
      neither (node_fault m.function (operands_of is m)) (first_fault is nodes) h,
    )
  where
    neither : (a b : Option Verdict) → option_or a b ≡ None → (a ≡ None) × (b ≡ None)
    neither a b h = grind arith

-- a node without a fault has a first input with a format
pub first_format : (function : Function) (o : Operands)
    → node_fault function o ≡ None
    → (f : Format) × (operand_format o.in1 ≡ Some f)
first_format function o h = grind arith

-- a description without open parts
closed_is : (o : PartialDescription) (d : Description)
    → full_description o ≡ Some d
    → o ≡ partial_desc_of d
closed_is o d h = grind arith

-- what a node gives to a virtual image leaves nothing of it open, where nothing of the first input
-- is
filled_closed : (declared : PartialDescription) (function : Function) (d : Description)
    → (e : Description)
    ×
    (full_description (with_defaults declared (given_partial_desc function (partial_desc_of d)))
    ≡ Some e)
filled_closed declared function d = (
  record {
    width = unwrap_or declared.width d.width;
    height = unwrap_or declared.height d.height;
    format = unwrap_or declared.format (open_format function d.format);
  },
  grind arith,
)

module _ (is : Reference → Operand) where
  -- an image with a format is known
  image_closed : (all : List Node) (c : Reference) (o : Operand) (f : Format)
      → is c ≡ o
      → IsTrue (is_image o)
      → operand_format (as_known o (partial_descs is all c)) ≡ Some f
      → (d : Description) × (partial_descs is all c ≡ partial_desc_of d)
  image_closed all c (Image d) f e image has = (d, image_partial_desc is all c d e)
  image_closed all c (Virtual declared) f e image has =
      by (full_description (partial_descs is all c)) refl
    where
      by : (d : Option Description)
          → full_description (partial_descs is all c) ≡ d
          → (d : Description) × (partial_descs is all c ≡ partial_desc_of d)
      by (Some d) k = (d, closed_is (partial_descs is all c) d k)
      by None k = let fails = rw k at has in absurd (cc)
  image_closed all c other f e image has = absurd (cc image)

  -- what a node without a fault writes is known
  output_closed : (all : List Node)
      → IsSolution writes (written_partial_desc is) all (λ c. operand_partial_desc (is c))
      (partial_descs is all)
      → (n : Node)
      → In n all
      → IsTrue (is_image (is n.in1))
      → node_fault n.function (operands_of (resolved_operand is all) n) ≡ None
      → (c : Reference)
      → writes n c ≡ true
      → (d : Description) × (full_description (partial_descs is all c) ≡ Some d)
  output_closed all solves n i image sound c w =
      let format = first_format n.function (operands_of (resolved_operand is all) n) sound in
      let first = image_closed all n.in1 (is n.in1) format.0 refl image format.1 in
      let gives :
      partial_descs is all c
      ≡ with_defaults (operand_partial_desc (is c))
      (given_partial_desc n.function (partial_desc_of first.0)) =
      solves.written n c i w
      ∙ ap (λ o. with_defaults (operand_partial_desc (is c)) (given_partial_desc n.function o))
      first.1 in
      let d = filled_closed (operand_partial_desc (is c)) n.function first.0 in
      (d.0, ap full_description gives ∙ d.1)

  -- ---- a graph that can run

  -- then nothing is open of the virtual images that are written
  pub all_closed : (all : List Node) (known : List ResolvedOutput)
      → IsSolution writes (written_partial_desc is) all (λ c. operand_partial_desc (is c))
      (partial_descs is all)
      → AreResolved is all known
      → ((n : Node) → In n all → IsTrue (is_image (is n.in1)))
      →
      ((n : Node)
      → In n all
      → node_fault n.function (operands_of (resolved_operand is all) n) ≡ None)
      → (k : ResolvedOutput)
      → In k known
      → (d : Description) × (full_description k.partial_desc ≡ Some d)
  all_closed all known solves h images sound k i =
      let stands =
      In-from_filter (λ c. is_virtual (is c)) k.cell (flat_map outputs all)
      (subst (In k.cell) h.cells (In-map (λ (j : ResolvedOutput). j.cell) k known i)) in
      let writer = In-from_flat_map outputs k.cell all stands.0 in
      let d =
      output_closed all solves writer.0 writer.1 (images writer.0 writer.1)
      (sound writer.0 writer.1) k.cell (same-from_In k.cell (outputs writer.0) writer.2) in
      (d.0, ap full_description ((resolved_from_known is all known h).each k i) ∙ d.1)

described_cells : (known : List ResolvedOutput)
    →
    ((k : ResolvedOutput)
    → In k known
    → (d : Description) × (full_description k.partial_desc ≡ Some d))
    → map (λ (o : VirtualOutput). o.cell) (filter_map described_output known)
    ≡ map (λ (k : ResolvedOutput). k.cell) known
described_cells [] all = refl
described_cells (k ∷ known) all =
    grind (arith, all k (inl refl), described_cells known (λ j i. all j (inr i)))

In-closed_output : (known : List ResolvedOutput) (o : VirtualOutput)
    → In o (filter_map described_output known)
    → (k : ResolvedOutput)
    × In k known
    × (k.cell ≡ o.cell)
    × (full_description k.partial_desc ≡ Some o.desc)
In-closed_output [] o i = absurd i
In-closed_output (k ∷ known) o i = grind (arith, In-closed_output known o)

-- ---- the nodes with their operands, and the steps

abbrev pub links : Linked → Linked → Bool
links a b = feeds a.node b.node

module _ (nodes steps : List Linked) (one : two_writers (linked_nodes nodes) ≡ false)
    (order : IsOrder links nodes steps) where
  pub nodes_order : IsOrder feeds (linked_nodes nodes) (linked_nodes steps)
  nodes_order = IsOrder-map (λ (l : Linked). l.node) feeds nodes steps order

  pub steps_one_writer : two_writers (linked_nodes steps) ≡ false
  steps_one_writer =
      two_writers-permutation (linked_nodes nodes) (linked_nodes steps) nodes_order.same_nodes one

  steps_solve : (is : Reference → Operand)
      → IsSolution writes (written_partial_desc is) (linked_nodes steps)
      (λ c. operand_partial_desc (is c)) (partial_descs is (linked_nodes steps))
  steps_solve is =
      partial_descs_solve is (linked_nodes steps) steps_one_writer
      (no_cycle_in_steps is (linked_nodes steps) nodes_order.in_turn)

  same_resolved : (is : Reference → Operand)
      → resolved_operand is (linked_nodes nodes) ≡ resolved_operand is (linked_nodes steps)
  same_resolved is =
      fun_ext (resolved-order is (linked_nodes nodes) (linked_nodes steps) one nodes_order)

  nodes_no_cycle : has_cycle feeds (linked_nodes nodes) ≡ false
  nodes_no_cycle = no_cycle_from_order feeds (linked_nodes nodes) (linked_nodes steps) nodes_order

  pub unwritten_input_found : (work : ℕ) (is : Reference → Operand)
      → true ≡ has_unwritten_input is (linked_nodes nodes)
      → verdict work is (linked_nodes nodes) ≡ Some InvalidLink
  unwritten_input_found work is loose =
      unwritten_input work is (linked_nodes nodes) one nodes_no_cycle loose

  steps_operands : (is : Reference → Operand) → AreOperands is nodes → AreOperands is steps
  steps_operands is operands =
      All-permutation (λ (l : Linked). l.operands ≡ operands_of is l.node) nodes steps
      order.same_nodes operands

  pub steps_images : All (λ (l : Linked). IsTrue (is_image l.operands.in1)) nodes
      → All (λ (l : Linked). IsTrue (is_image l.operands.in1)) steps
  steps_images images =
      All-permutation (λ (l : Linked). IsTrue (is_image l.operands.in1)) nodes steps
      order.same_nodes images

  -- the resolved virtual images of the steps, whatever objects the operands belong to
  abbrev Told : List ResolvedOutput → Type 0
  Told known =
      (is : Reference → Operand) → AreOperands is steps → AreResolved is (linked_nodes steps) known

  -- the fault that the resolved operands give
  abbrev Finds : List ResolvedOutput → Option Verdict → Type 0
  Finds known fault =
      (is : Reference → Operand)
      → All (λ l. known_operands known l ≡ operands_of is l.node) nodes
      → fault ≡ first_fault is (linked_nodes nodes)

  found_fault :
      (is : Reference → Operand) (known seen : List ResolvedOutput) (fault : Option Verdict)
      → AreOperands is nodes
      → Told known
      → seen ≡ known
      → Finds seen fault
      → fault ≡ first_fault (resolved_operand is (linked_nodes nodes)) (linked_nodes nodes)
  found_fault is known seen fault operands told same finds =
      finds (resolved_operand is (linked_nodes nodes)) (λ k d within.
      let l = get_or nodes k d in
      ap (λ s. known_operands s l) same
      ∙ operands_known is (linked_nodes steps) known (steps_solve is)
      (told is (steps_operands is operands)) l (operands k d within)
      ∙ ap (λ r. operands_of r l.node) (sym (same_resolved is)))

  pub verdict_found :
      (work : ℕ) (is : Reference → Operand) (known seen : List ResolvedOutput)
      (fault : Option Verdict)
      → AreOperands is nodes
      → Told known
      → seen ≡ known
      → Finds seen fault
      → false ≡ has_unwritten_input is (linked_nodes nodes)
      → verdict work is (linked_nodes nodes)
      ≡ option_or fault (size_fault work is (linked_nodes nodes))
  verdict_found work is known seen fault operands told same finds no_unwritten_input =
      search (rules, by_fault, nodes_no_cycle, found_fault)

  pub bytes_found :
      (is : Reference → Operand) (known : List ResolvedOutput) (outputs : List VirtualOutput)
      → AreOperands is nodes
      → Told known
      → outputs ≡ filter_map described_output known
      → sum_by (λ o. byte_count o.desc) outputs ≡ work_bytes is (linked_nodes nodes)
  bytes_found is known outputs operands told is_outputs =
      ap (sum_by (λ (o : VirtualOutput). byte_count o.desc)) is_outputs
      ∙ all_bytes is (linked_nodes nodes) (linked_nodes steps) known one nodes_order
      (told is (steps_operands is operands))

  pub verified_found : (is : Reference → Operand) (known seen : List ResolvedOutput) (v : Verified)
      → AreOperands is nodes
      → Told known
      → seen ≡ known
      → Finds seen None
      → All (λ (l : Linked). IsTrue (is_image l.operands.in1)) nodes
      → v.steps ≡ linked_nodes steps
      → v.virtual_outputs ≡ filter_map described_output known
      → IsVerified is (linked_nodes nodes) v
  verified_found is known seen v operands told same finds images is_steps is_outputs =
      let ns = linked_nodes nodes in
      let ss = linked_nodes steps in
      let h = told is (steps_operands is operands) in
      let sound = sym (found_fault is known seen None operands told same finds) in
      let from : (n : Node) → In n ss → In n ns =
      λ n i. AllIn-permutation_back ns ss nodes_order.same_nodes n i in
      let image : (n : Node) → In n ss → IsTrue (is_image (is n.in1)) = λ n i.
      let l = In-from_map (λ (l : Linked). l.node) n nodes (from n i) in
      let at_l = Contains-from_In l.0 nodes l.1 in
      let in1 : l.0.operands.in1 ≡ is n.in1 =
      ap (λ (o : Operands). o.in1)
      (subst (λ (k : Linked). k.operands ≡ operands_of is k.node) at_l.2
      (operands at_l.0 l.0 at_l.1))
      ∙ ap (λ (m : Node). is m.in1) (sym l.2) in
      subst (λ o. IsTrue (is_image o)) in1
      (subst (λ (k : Linked). IsTrue (is_image k.operands.in1)) at_l.2 (images at_l.0 l.0 at_l.1))
      in
      let no_fault : (n : Node)
      → In n ss
      → node_fault n.function (operands_of (resolved_operand is ss) n) ≡ None =
      λ n i.
      ap (λ r. node_fault n.function (operands_of r n)) (sym (same_resolved is))
      ∙ first_fault-None (resolved_operand is ns) ns sound n (from n i) in
      record {
        order = subst (IsOrder feeds ns) (sym is_steps) nodes_order;
        cells =
            ap (map (λ (o : VirtualOutput). o.cell)) is_outputs
            ∙ described_cells known (all_closed is ss known (steps_solve is) h image no_fault)
            ∙ h.cells
            ∙ ap (virtual_outputs is) (sym is_steps);
        descriptions = (λ k d within.
            let o = get_or v.virtual_outputs k d in
            let found =
            In-closed_output known o
            (subst (In o) is_outputs (In-at v.virtual_outputs k d within)) in
            ap (λ (r : Reference → Operand). r o.cell) (same_resolved is)
            ∙ ap (resolved_operand is ss) (sym found.2)
            ∙ sym (known_resolved is ss known h found.0 found.1)
            ∙ ap (λ (e : Option Description). virtual_or_image found.0.partial_desc e) found.3);
      }

-- no more outputs than two for each node
pub few_outputs :
    (nodes steps : List Linked) (known : List ResolvedOutput) (outputs : List VirtualOutput)
    → length nodes ≤ 256
    → IsOrder links nodes steps
    → length known ≤ 2 * length steps
    → outputs ≡ filter_map described_output known
    → length outputs ≤ 512
few_outputs nodes steps known outputs few order limit is =
    omega (
      arith,
      few,
      length_permutation nodes steps order.same_nodes,
      limit,
      shorter known,
      ap length is,
    )
  where
    shorter : (known : List ResolvedOutput)
        → length (filter_map described_output known) ≤ length known
    shorter [] = omega arith
    shorter (k ∷ known) = grind (arith, shorter known)

-- ---- the description of a cell

pub description_found : (is : Reference → Operand) (nodes : List Node) (v : Verified)
    → IsVerified is nodes v
    → (c : Reference)
    → (r : Option VirtualOutput)
    → r ≡ find (λ o. same_reference o.cell c) v.virtual_outputs
    → option_map (λ (o : VirtualOutput). o.desc) r ≡ written_description is nodes c
description_found is nodes v h c r e =
    elim (find_cases (λ (o : VirtualOutput). same_reference o.cell c) v.virtual_outputs) [
      | inl found ↦ (
          let o = found.0 in
          let same : o.cell ≡ c = same_cell-true o.cell c found.3 in
          let stands =
          In-from_filter (λ d. is_virtual (is d)) c (flat_map outputs v.steps)
          (subst (λ l. In c l) h.cells
          (subst (λ d. In d (map (λ (p : VirtualOutput). p.cell) v.virtual_outputs)) same
          (In-map (λ (p : VirtualOutput). p.cell) o v.virtual_outputs found.2)))
          in
          let writer = In-from_flat_map outputs c v.steps stands.0 in
          let written : is_written nodes c ≡ true =
          any-from_In (λ n. writes n c) writer.0 nodes
          (AllIn-permutation_back nodes v.steps h.order.same_nodes writer.0 writer.1)
          (same-from_In c (outputs writer.0) writer.2) in
          let at_o = Contains-from_In o v.virtual_outputs found.2 in
          let image : resolved_operand is nodes o.cell ≡ Image o.desc =
          subst (λ (p : VirtualOutput). resolved_operand is nodes p.cell ≡ Image p.desc) at_o.2
          (h.descriptions at_o.0 o at_o.1) in
          ap (option_map (λ (p : VirtualOutput). p.desc)) (e ∙ found.1)
          ∙ sym (ap operand_description (ap (resolved_operand is nodes) (sym same) ∙ image))
          ∙ sym
          (ap (λ b. if b then operand_description (resolved_operand is nodes c) else None)
          (and_from (is_virtual (is c)) (is_written nodes c) stands.1 written)))
      | inr none ↦ (
          let no_output : (is_virtual (is c) && is_written nodes c) ≡ false =
          false_from_ne_true (is_virtual (is c) && is_written nodes c) (λ both.
          let parts = and_parts (is_virtual (is c)) (is_written nodes c) both in
          let writer = In-from_any (λ n. writes n c) nodes parts.1 in
          let stands =
          In-filter (λ d. is_virtual (is d)) c (flat_map outputs v.steps)
          (In-outputs writer.0 c v.steps
          (AllIn-permutation nodes v.steps h.order.same_nodes writer.0 writer.1) writer.2)
          parts.0 in
          let output =
          In-from_map (λ (p : VirtualOutput). p.cell) c v.virtual_outputs
          (subst (λ l. In c l) (sym h.cells) stands) in
          let differs = none.1 output.0 output.1 in
          let equal = same_cell-is output.0.cell c (sym output.2) in cc) in
          ap (option_map (λ (p : VirtualOutput). p.desc)) (e ∙ none.0)
          ∙ sym
          (ap (λ b. if b then operand_description (resolved_operand is nodes c) else None)
          no_output))
    ]
