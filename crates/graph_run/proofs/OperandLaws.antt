-- Objects as operands: when a graph begins to run, and while its nodes write.
use Rattle.std.proofs.Common.{◌≡◌, ◌≢◌, ℕ, Bool, true, false, List, map, refl, sym, ap, subst, ◌∙◌, inl, inr, Option, Some, None, arith, ◌||◌, not, if◌then◌else◌, option_to_list, option_map, option_and_then}
use Rattle.graph_run.proofs.Common.{list_all, cases_Bool, or_cases, or_left, or_parts, or_right, Format, Function, Node, Output, VirtualImage, Reference, Description, parameters, accumulates, ImageValue, description_of, inputs, outputs, ObjectValue, VirtualObject, object_kind, node_image, node_output, written_by, in_slot, NamedObject, object_held, object_at, with_written, skeleton, Operand, Image, Operands, writes, is_written, In, operand_of, operand_kind, operand_format, are_of_one_size, is_virtual, operands_of, partial_descs, resolved_operand, writes_twice, reads_own_output, node_fault, verdict_on, In-from_same, In-from_any, any-from_In, fails-from_In, In-map, In-right, runs_alone, CanRun, named_at_start, HoldsOperand, names_cell, CellsStand, WritesNo}
use Rattle.graph_verify.specs.Links.{reads}
use Rattle.graph_run.specs.Operands.{StandsFor}
use Rattle.std.proofs.lemmas.List.Sums.{AllPass-from_list_all}
use Rattle.vx_base.specs.declared.kind.Kind.TheVariants as kind
use Rattle.vx_base.specs.PartialDescription.{PartialDescription, full_description}
use Rattle.graph_verify.specs.declared.operand.Operand.TheVariants.{Virtual}
use Rattle.graph_verify.specs.declared.verdict.Verdict.TheVariants.{InvalidFormat, InvalidDimension}
use Rattle.graph_verify.specs.Operand.{written_operands, other_operands}
use Rattle.graph_verify.specs.PartialDescriptions.{virtual_or_image, as_known}
use Rattle.graph_verify.specs.Verdict.{takes_operands, is_unwritten_image, reads_unwritten, adds_to_virtual}
use Rattle.graph_verify.proofs.NodeVerdictLemmas.{written_described}
use Rattle.graph_run.proofs.BegunLaws.{begun_under, object_held-begun}
use Rattle.graph_run.proofs.HeldLaws.{last_to, map-or, seen-with_written}
use Rattle.graph_run.proofs.LinkLaws.{In-from_All, reads_first}
use Rattle.graph_run.proofs.NodeLaws.{output_at, output_of, given_in, last_written, AreWrites-written}
use Rattle.graph_run.proofs.ObjectLaws.{shown}

-- ---- operands of objects

-- a cell that holds a virtual image has no slot
pub virtual_there : (slot : Option ℕ) (x : ObjectValue) (declared : PartialDescription)
    → option_map operand_of (in_slot slot x) ≡ Some (Virtual declared)
    → ◌≡◌ {A = Option ℕ} slot None × (v : VirtualImage) × (x ≡ VirtualObject v)
virtual_there x y declared e = grind arith

pub declared_of_virtual : (operand : Operand)
    → is_virtual operand ≡ true
    → (declared : PartialDescription) × (operand ≡ Virtual declared)
declared_of_virtual operand h = grind arith

-- an object that isn't virtual is as it was resolved
pub known_kept : (operand : Operand) (known : PartialDescription)
    → is_virtual operand ≡ false
    → as_known operand known ≡ operand
known_kept operand known h = grind arith

-- ---- a node's outputs as operands

pub written_operand : (is : Reference → Operand) (n : Node) (c : Reference)
    → writes n c ≡ true
    → In (is c) (written_operands (operands_of is n))
written_operand is n c w =
    grind (
      arith,
      In-map is c (outputs n) (In-from_same c (outputs n) w),
      In-from_same c (outputs n) w,
    )

pub no_fault : (n : Node) (is : Reference → Operand)
    → verdict_on n (operands_of is n) ≡ None
    → node_fault n.function (operands_of is n) ≡ None
no_fault n is h = grind (arith, cases_Bool (writes_twice n), cases_Bool (reads_own_output n))

-- ---- as a graph begins to run

module _ (work : ℕ) (is : Reference → Operand) (nodes : List Node) (can : CanRun work is nodes)
  where
    abbrev known : Reference → Operand
    known = resolved_operand is nodes

    -- a virtual image that is written is described
    written_virtual : (n : Node) (c : Reference) (declared : PartialDescription)
        → In n nodes
        → writes n c ≡ true
        → (parameters n.function).output ≡ kind.Image
        → is c ≡ Virtual declared
        → (d : Description) × (known c ≡ Image d)
    written_virtual n c declared i w image e =
        let partial_desc : PartialDescription = partial_descs is nodes c in
        described partial_desc (full_description partial_desc) (ap (λ o. as_known o partial_desc) e)
      where
        described : (partial_desc : PartialDescription) (o : Option Description)
            → known c ≡ virtual_or_image partial_desc o
            → (d : Description) × (known c ≡ Image d)
        described partial_desc (Some d) k = (d, k)
        described partial_desc None k =
            absurd
            (written_described n.function (operands_of known n) image
            (no_fault n known (runs_alone work is nodes n can i)) (known c)
            (written_operand known n c w) (ap operand_format k))

    -- a node reads no unwritten virtual image
    ends_met : (n : Node)
        → In n nodes
        → (reads_unwritten is nodes n ≡ false) × (adds_to_virtual is n ≡ false)
    ends_met n i =
        or_parts (reads_unwritten is nodes n) (adds_to_virtual is n)
        (fails-from_In (λ m. reads_unwritten is nodes m || adds_to_virtual is m) n nodes
        can.no_unwritten_input i)

    -- no node accumulates into a virtual image
    pub adds_to_none : (n : Node) (c : Reference)
        → In n nodes
        → writes n c ≡ true
        → is_virtual (is c) ≡ true
        → accumulates n.function ≡ false
    adds_to_none n c i w v = grind (arith, In-from_same c (outputs n) w, ends_met n i)

    -- a virtual image that is read is written
    pub virtual_written : (n : Node) (c : Reference)
        → In n nodes
        → names_cell n c ≡ true
        → is_virtual (is c) ≡ true
        → is_written nodes c ≡ true
    virtual_written n c i named v =
        grind (
          arith,
          or_cases (reads n c) (writes n c) named,
          fails-from_In (is_unwritten_image is nodes) c (inputs n) (ends_met n i).0,
          ends_met n i,
          In-from_same c (inputs n),
          any-from_In (λ m. writes m c) n nodes i,
        )

    -- an image stands for a virtual one that is written
    virtual_begins : (c : Reference) (x : ObjectValue) (v : VirtualImage) (d : Description)
        → ◌≡◌ {A = Option ℕ} c.slot None
        → x ≡ VirtualObject v
        → is_written nodes c ≡ true
        → known c ≡ Image d
        → option_map operand_of (in_slot c.slot (begun_under known nodes c.name x)) ≡ Some (known c)
    virtual_begins c x v d none same w k = grind arith

    real_stays : (c : Reference) (x : ObjectValue)
        → option_map operand_of (in_slot c.slot x) ≡ Some (is c)
        → is_virtual (is c) ≡ false
        → in_slot c.slot (begun_under known nodes c.name x) ≡ in_slot c.slot x
    real_stays c x e real = grind arith

    module _ (objects : List NamedObject) (stand : CellsStand is nodes objects) where
      abbrev begin : List NamedObject
      begin = map (named_at_start known nodes) objects

      image_written : (n : Node) (c : Reference) (declared : PartialDescription)
          → In n nodes
          → writes n c ≡ true
          → is c ≡ Virtual declared
          → (parameters n.function).output ≡ kind.Image
      image_written n c declared i w e =
          subst (λ o. StandsFor o (parameters n.function).output) e (stand.kinds n c i w)

      -- each cell is then what it was found to be
      holds_known : (n : Node) (c : Reference)
          → In n nodes
          → names_cell n c ≡ true
          → HoldsOperand begin c (known c)
      holds_known n c i named =
          ap (λ o. option_map operand_of (option_and_then (in_slot c.slot) o))
          (object_held-begun known nodes objects c.name)
          ∙ each (object_held objects c.name) (stand.found n c i named)
        where
          each : (o : Option ObjectValue)
              → option_map operand_of (option_and_then (in_slot c.slot) o) ≡ Some (is c)
              → option_map operand_of
              (option_and_then (in_slot c.slot) (option_map (begun_under known nodes c.name) o))
              ≡ Some (known c)
          each None e = absurd (cc e)
          each (Some x) e = elim (cases_Bool (is_virtual (is c))) [
            | inl v ↦
                (let partial_desc = declared_of_virtual (is c) v in
                let there = virtual_there c.slot x partial_desc.0 (e ∙ ap Some partial_desc.1) in
                let w = virtual_written n c i named v in
                let writer = In-from_any (λ m. writes m c) nodes w in
                let image =
                written_virtual writer.0 c partial_desc.0 writer.1 writer.2
                (image_written writer.0 c partial_desc.0 writer.1 writer.2 partial_desc.1)
                partial_desc.1 in
                virtual_begins c x there.1 image.0 there.0 there.2 w image.1)
            | inr real ↦
                ap (option_map operand_of) (real_stays c x e real)
                ∙ e
                ∙ ap Some (sym (known_kept (is c) (partial_descs is nodes c) real))
          ]

      pub begun_stands : CellsStand known nodes begin
      begun_stands = record {
        found = holds_known;
        kinds = (λ n c i w. elim (cases_Bool (is_virtual (is c))) [
          | inl v ↦ grind (arith, declared_of_virtual, image_written, written_virtual)
          | inr real ↦
              subst (λ o. StandsFor o (parameters n.function).output)
              (sym (known_kept (is c) (partial_descs is nodes c) real)) (stand.kinds n c i w)
        ]);
      }

-- ---- as nodes write

-- an operand depends only on the skeleton of the object
pub operand-skeleton : (x : ObjectValue) → operand_of (skeleton x) ≡ operand_of x
operand-skeleton x = grind arith

pub kind-operand : (x : ObjectValue) → operand_kind (operand_of x) ≡ Some (object_kind x)
kind-operand x = grind arith

pub no_delay_written : (function : Function) → (parameters function).output ≢ kind.Delay
no_delay_written function e = grind arith

-- no function writes a delay
pub no_delay : (is : Reference → Operand) (nodes : List Node) (objects : List NamedObject)
    → CellsStand is nodes objects
    → WritesNo kind.Delay nodes objects
no_delay is nodes objects stand c w e = grind (arith, In-from_any, or_right, no_delay_written)

-- what a node gives is of its first input's size, and of the format that is asked for
pub described_node :
    (n : Node) (output : Output) (format : Format) (a : ImageValue) (second : Option ObjectValue)
    → description_of (node_image n output format a second)
    ≡ record { width = a.width; height = a.height; format = format }
described_node n output format a v = grind arith

-- an output of the first input's size stays the operand that it is
output_kept :
    (n : Node) (output : Output) (first : ObjectValue) (second : Option ObjectValue)
    (out : ObjectValue)
    → are_of_one_size (operand_of first) (operand_of out) ≡ true
    → operand_of (node_output n output first second out) ≡ operand_of out
output_kept n output first second out same = grind (arith, described_node)

given_kept : (n : Node) (output : Output) (first second out : Option ObjectValue)
    →
    ((x y : ObjectValue)
    → first ≡ Some x
    → out ≡ Some y
    → are_of_one_size (operand_of x) (operand_of y) ≡ true)
    → option_map operand_of (output_of n output first second out out) ≡ option_map operand_of out
given_kept n output z second out h = grind (arith, output_kept)

operand-shown : (o : Option ObjectValue)
    → option_map operand_of (option_map shown o) ≡ option_map operand_of o
operand-shown x = grind arith

-- what a node writes is of its first input's size
one_size : (n : Node) (is : Reference → Operand) (c : Reference)
    → node_fault n.function (operands_of is n) ≡ None
    → writes n c ≡ true
    → are_of_one_size (is n.in1) (is c) ≡ true
one_size n is c none w =
    let o : Operands = operands_of is n in
    In-from_All (λ z. are_of_one_size (is n.in1) z ≡ true) (other_operands o)
    (AllPass-from_list_all (are_of_one_size (is n.in1)) (other_operands o)
    (sizes (takes_operands n.function o)
    (list_all (are_of_one_size (is n.in1)) (other_operands o)) none))
    (is c)
    (In-right (is c) (option_to_list o.in2) (written_operands o) (written_operand is n c w))
  where
    sizes : (takes same : Bool)
        → (if not takes then Some InvalidFormat else (if same then None else Some InvalidDimension))
        ≡ None
        → same ≡ true
    sizes x same e = grind arith

module _ (is : Reference → Operand) (nodes : List Node) (objects : List NamedObject)
    (stand : CellsStand is nodes objects) (n : Node) (i : In n nodes)
    (none : node_fault n.function (operands_of is n) ≡ None) where
  gives_alike : (c : Reference)
      → writes n c ≡ true
      → option_map operand_of (given_in n (object_at objects) c)
      ≡ option_map operand_of (object_at objects c)
  gives_alike c w = grind (arith, given_kept, output_at, or_left, reads_first, or_right, one_size)

  seen_after : (c : Reference)
      → option_map shown (object_at (with_written objects (written_by n (object_at objects))) c)
      ≡ option_map shown
      (if writes n c then given_in n (object_at objects) c else object_at objects c)
  seen_after c =
      seen-with_written (written_by n (object_at objects)) objects
      (AreWrites-written objects objects n (λ d. refl)
      (λ d w. no_delay is nodes objects stand d (any-from_In (λ m. writes m d) n nodes i w)))
      c
      ∙ sym (map-or shown (last_to c (written_by n (object_at objects))) (object_at objects c))
      ∙ ap (option_map shown) (last_written (object_at objects) n (object_at objects) c)

  -- no cell becomes another operand
  pub operand_after : (c : Reference)
      → option_map operand_of
      (object_at (with_written objects (written_by n (object_at objects))) c)
      ≡ option_map operand_of (object_at objects c)
  operand_after c =
      grind (
        arith,
        operand-shown (object_at (with_written objects (written_by n (object_at objects))) c),
        seen_after c,
        operand-shown,
        given_in n (object_at objects) c,
        gives_alike,
      )

  pub stands_after : CellsStand is nodes (with_written objects (written_by n (object_at objects)))
  stands_after = record {
    found = (λ m c j named. operand_after c ∙ stand.found m c j named);
    kinds = stand.kinds;
  }
