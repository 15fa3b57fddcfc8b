-- A verdict, and how a graph runs, depend on what the cells that its nodes name are, and on nothing
-- else.
use Rattle.std.proofs.Common.{◌≡◌, ℕ, zero, suc, inl, inr, true, List, [], ◌∷◌, length, Some, refl, sym, ap, subst, ◌∙◌, arith, All, Bool, ◌&&◌, sum_by, unwrap_or, not, ◌||◌}
use Rattle.client_laws.proofs.Common.{filter, flat_map, option_map, option_or, or_right, All-tail, All-weaker, Kind, Node, Reference, parameters, inputs, outputs, operands, PartialDescription, NamedObject, object_at, Operand, Missing, Verified, reads, writes, is_written, In, AllIn, operand_of, is_virtual, resolved_bytes, operand_partial_desc, written_partial_desc, partial_descs, as_known, resolved_operand, rounds, reads_unwritten, adds_to_virtual, has_unwritten_input, first_fault, virtual_outputs, work_bytes, verdict, node_fault, is_unwritten_image, In-left, In-right, In-append, AllIn-permutation_back, names_cell, StandsFor, operand_held, IsReady, All-from_In, In-from_All, named_by_input, named_by_output}
use Rattle.graph_verify.specs.declared.operand.Operand.TheVariants.{Image}
use Rattle.std.proofs.lemmas.List.Elements.{All-filter}
use Rattle.std.proofs.lemmas.List.Sums.{sum_by-cons}
use Rattle.vx_base.specs.Function.{accumulates}
use Rattle.object_table.proofs.GraphLemmas.{any_alike}
use Rattle.graph_verify.specs.declared.known.VirtualOutput.{VirtualOutput}
use Rattle.graph_verify.specs.Rounds.{round}
use Rattle.graph_verify.specs.Verified.{IsVerified}
use Rattle.graph_verify.proofs.MemberLemmas.{In-from_filter, In-map, In-from_flat_map}
use Rattle.graph_run.proofs.VerifiedLemmas.{same_operands}

-- ---- lists of elements of which something is the same

filter_alike : {X : Type 0} (p q : X → Bool) (xs : List X)
    → All (λ x. p x ≡ q x) xs
    → filter p xs ≡ filter q xs
filter_alike p q [] h = refl
filter_alike p q (x ∷ xs) h =
    grind (arith, filter_alike p q xs (All-tail (λ y. p y ≡ q y) x xs h), h 0 x (omega arith))

sum_alike : {X : Type 0} (f g : X → ℕ) (xs : List X)
    → All (λ x. f x ≡ g x) xs
    → sum_by f xs ≡ sum_by g xs
sum_alike f g [] h = refl
sum_alike f g (x ∷ xs) h =
    grind (
      arith,
      sum_alike f g xs (All-tail (λ y. f y ≡ g y) x xs h),
      h 0 x (omega arith),
      sum_by-cons f x xs,
      sum_by-cons g x xs,
    )

-- ---- nodes whose cells are the same operands

module _ (nodes : List Node) where
  -- a cell that one of the nodes names
  abbrev pub IsNamed : Reference → Type 0
  IsNamed cell = (n : Node) × In n nodes × (names_cell n cell ≡ true)

  read_named : (n : Node) → In n nodes → All IsNamed (inputs n)
  read_named n i = All-from_In IsNamed (inputs n) (λ cell j. (n, i, named_by_input n cell j))

  written_named : (ns : List Node) → AllIn ns nodes → All IsNamed (flat_map outputs ns)
  written_named ns are =
      All-from_In IsNamed (flat_map outputs ns)
      (λ cell j. let r = In-from_flat_map outputs cell ns j in
      (r.0, are r.0 r.1, named_by_output r.0 cell r.2))

  module _ (one other : Reference → Operand)
      (same : (cell : Reference) → IsNamed cell → one cell ≡ other cell) where
    -- as much is known of each cell
    abbrev Alike : (Reference → PartialDescription) → (Reference → PartialDescription) → Type 0
    Alike a b = (cell : Reference) → IsNamed cell → a cell ≡ b cell

    round_alike : (ns : List Node)
        → ((n : Node) → In n ns → In n nodes)
        → (a b : Reference → PartialDescription)
        → Alike a b
        → Alike (round writes (written_partial_desc one) ns a)
        (round writes (written_partial_desc other) ns b)
    round_alike [] are a b h cell named = h cell named
    round_alike (n ∷ ns) are a b h cell named =
        let rest = round_alike ns (λ m i. are m (inr i)) a b h cell named in
        rw (
          rest,
          same cell named,
          h n.in1 (n, are n (inl refl), named_by_input n n.in1 (inl refl)),
        ) refl

    rounds_alike : (k : ℕ)
        → Alike
        (rounds writes (written_partial_desc one) nodes k (λ c. operand_partial_desc (one c)))
        (rounds writes (written_partial_desc other) nodes k (λ c. operand_partial_desc (other c)))
    rounds_alike zero = λ cell named. ap operand_partial_desc (same cell named)
    rounds_alike (suc k) =
        round_alike nodes (λ n i. i)
        (rounds writes (written_partial_desc one) nodes k (λ c. operand_partial_desc (one c)))
        (rounds writes (written_partial_desc other) nodes k (λ c. operand_partial_desc (other c)))
        (rounds_alike k)

    resolved_alike : (cell : Reference)
        → IsNamed cell
        → resolved_operand one nodes cell ≡ resolved_operand other nodes cell
    resolved_alike cell named =
        ap (λ o. as_known o (partial_descs one nodes cell)) (same cell named)
        ∙ ap (as_known (other cell)) (rounds_alike (length nodes) cell named)

    -- the same nodes have faults
    fault_alike : (ns : List Node)
        → ((n : Node) → In n ns → In n nodes)
        → first_fault (resolved_operand one nodes) ns
        ≡ first_fault (resolved_operand other nodes) ns
    fault_alike [] are = refl
    fault_alike (n ∷ ns) are =
        rw (fault_alike ns (λ m i. are m (inr i)))
        (ap
        (λ o. option_or (node_fault n.function o) (first_fault (resolved_operand other nodes) ns))
        (same_operands n (resolved_operand one nodes) (resolved_operand other nodes)
        (λ cell named. resolved_alike cell (n, are n (inl refl), named))))

    -- the same nodes read what no node writes
    reads_alike : (n : Node)
        → In n nodes
        → reads_unwritten one nodes n ≡ reads_unwritten other nodes n
    reads_alike n i =
        any_alike (is_unwritten_image one nodes) (is_unwritten_image other nodes) (inputs n)
        (All-weaker IsNamed _
        (λ cell named. ap (λ o. is_virtual o && not (is_written nodes cell)) (same cell named))
        (inputs n) (read_named n i))

    -- the same nodes add to what is virtual
    adds_alike : (n : Node) → In n nodes → adds_to_virtual one n ≡ adds_to_virtual other n
    adds_alike n i =
        ap (λ b. accumulates n.function && b)
        (any_alike (λ cell. is_virtual (one cell)) (λ cell. is_virtual (other cell)) (outputs n)
        (All-from_In _ (outputs n)
        (λ cell j. ap is_virtual (same cell (n, i, named_by_output n cell j)))))

    -- the same nodes read unwritten virtual images
    unwritten_alike : has_unwritten_input one nodes ≡ has_unwritten_input other nodes
    unwritten_alike =
        any_alike (λ n. reads_unwritten one nodes n || adds_to_virtual one n)
        (λ n. reads_unwritten other nodes n || adds_to_virtual other n) nodes
        (All-from_In _ nodes
        (λ n i. ap (λ b. b || adds_to_virtual one n) (reads_alike n i)
        ∙ ap (λ b. reads_unwritten other nodes n || b) (adds_alike n i)))

    -- the same nodes write the same virtual images
    virtual_alike : (ns : List Node)
        → AllIn ns nodes
        → virtual_outputs one ns ≡ virtual_outputs other ns
    virtual_alike ns are =
        filter_alike (λ cell. is_virtual (one cell)) (λ cell. is_virtual (other cell))
        (flat_map outputs ns)
        (All-weaker IsNamed _ (λ cell named. ap is_virtual (same cell named))
        (flat_map outputs ns) (written_named ns are))

    -- as many bytes are worked on
    work_alike : work_bytes one nodes ≡ work_bytes other nodes
    work_alike =
        let bytes : (Reference → Operand) → Reference → ℕ =
        λ is cell. resolved_bytes (resolved_operand is nodes cell) in
        let wanted = virtual_outputs other nodes in
        ap (sum_by (bytes one)) (virtual_alike nodes (λ n i. i))
        ∙ sum_alike (bytes one) (bytes other) wanted
        (All-weaker IsNamed (λ cell. bytes one cell ≡ bytes other cell)
        (λ cell named. ap resolved_bytes (resolved_alike cell named)) wanted
        (All-filter (λ cell. is_virtual (other cell)) IsNamed (flat_map outputs nodes)
        (written_named nodes (λ n i. i))))

    pub verdict_alike : (work : ℕ) → verdict work one nodes ≡ verdict work other nodes
    verdict_alike work = rw (unwritten_alike, fault_alike nodes (λ n i. i), work_alike) refl

    -- the same order and the same descriptions are found
    pub verified_alike : (v : Verified) → IsVerified one nodes v → IsVerified other nodes v
    verified_alike v h =
        record {
          order = h.order;
          cells = h.cells ∙ virtual_alike steps are;
          descriptions =
              All-from_In (λ o. resolved_operand other nodes o.cell ≡ Image o.desc) outs
              (λ o i. sym (resolved_alike o.cell (output_named o i)) ∙ In-from_All
              (λ (p : VirtualOutput). resolved_operand one nodes p.cell ≡ Image p.desc) outs
              h.descriptions o i);
        }
      where
        steps : List Node
        steps = v.steps

        outs : List VirtualOutput
        outs = v.virtual_outputs

        are : AllIn steps nodes
        are = AllIn-permutation_back nodes steps h.order.same_nodes

        output_named : (o : VirtualOutput) → In o outs → IsNamed o.cell
        output_named o i =
            In-from_All IsNamed (flat_map outputs steps) (written_named steps are) o.cell
            (In-from_filter (λ cell. is_virtual (one cell)) o.cell (flat_map outputs steps)
            (subst (λ l. In o.cell l) h.cells (In-map (λ (p : VirtualOutput). p.cell) o outs i))).0

-- ---- graphs that are ready to run

-- a node names the cells of its operands
operand_named : (n : Node) (operand : Reference × Kind)
    → In operand (operands n)
    → names_cell n operand.0 ≡ true
operand_named n operand (inl same) =
    named_by_input n operand.0 (inl (ap (λ (o : Reference × Kind). o.0) same))
operand_named n operand (inr i) =
    grind (arith, In-append, named_by_input, named_by_output, In-left, In-right)

-- a graph that is ready is so too where each cell that its nodes name holds the same operand
module _ (nodes : List Node) (before after : List NamedObject)
    (stay : (cell : Reference) → IsNamed nodes cell → option_map operand_of
    (object_at after cell) ≡ option_map operand_of (object_at before cell))
  where
    pub held_alike : (cell : Reference)
        → IsNamed nodes cell
        → operand_held after cell ≡ operand_held before cell
    held_alike cell named = ap (λ o. unwrap_or o Missing) (stay cell named)

    stands_still : (cell : Reference) (wanted : Kind)
        → IsNamed nodes cell
        → StandsFor (operand_held before cell) wanted
        → StandsFor (operand_held after cell) wanted
    stands_still cell wanted named stands =
        subst (λ o. StandsFor o wanted) (sym (held_alike cell named)) stands

    pub ready_alike : (v : Verified) → IsReady before nodes v → IsReady after nodes v
    ready_alike v h =
        record {
          verified =
              verified_alike nodes (operand_held before) (operand_held after)
              (λ cell named. sym (held_alike cell named)) v h.verified;
          runs = (
            h.runs.0,
            verdict_alike nodes (operand_held after) (operand_held before)
                held_alike h.runs.0 ∙ h.runs.1,
          );
          are_nodes = h.are_nodes;
          cells =
              record {
                found =
                    λ n cell i there. stay cell (n, i, there)
                    ∙ h.cells.found n cell i there
                    ∙ ap Some (sym (held_alike cell (n, i, there)));
                kinds =
                    λ n cell i written. stands_still cell (parameters n.function).output (
                      n,
                      i,
                      or_right (reads n cell) (writes n cell) written,
                    ) (h.cells.kinds n cell i written);
              };
          kinds =
              All-from_In
              (λ n. All (λ operand. StandsFor (operand_held after operand.0) operand.1)
              (operands n))
              nodes
              (λ n i. All-from_In (λ operand. StandsFor (operand_held after operand.0) operand.1)
              (operands n)
              (λ operand j. stands_still operand.0 operand.1 (n, i, operand_named n operand j)
              (In-from_All (λ (o : Reference × Kind). StandsFor (operand_held before o.0) o.1)
              (operands n)
              (In-from_All
              (λ m. All (λ operand. StandsFor (operand_held before operand.0) operand.1)
              (operands m))
              nodes h.kinds n i)
              operand j)));
        }
