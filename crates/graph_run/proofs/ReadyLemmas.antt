-- A verified graph that is ready to run, with a plan, has tasks.
use Rattle.std.proofs.Common.{◌≡◌, ◌≢◌, Bool, true, false, List, [], ◌∷◌, ◌++◌, map, All, refl, sym, ap, subst, ◌∙◌, inl, inr, arith, Option, Some}
use Rattle.std.specs.List.{filter}
use Rattle.graph_run.proofs.Common.{cases_Bool, false_from_ne_true, AllIn-permutation_back, CanRun, once_after, Kind, Node, Reference, NamedObject, Operand, Verified, IsPlan, IsReady, PlanView, accumulates, optional_cells, outputs, parameters, operand_held, In, same-from_In, two_writers-permutation, VirtualOutput, object_at, HoldsImage, names_cell, operands, second_kind, In-right, In-map, In-from_flat_map, has_twice}
use Rattle.vx_base.specs.Node.{with_kind}
use Rattle.graph_verify.proofs.LinkLemmas.{once_across}
use Rattle.graph_run.specs.Bind.{AreAllApart, HoldImages}
use Rattle.graph_run.specs.Cells.{image_given, images_named, node_images}
use Rattle.graph_run.proofs.LinkLaws.{In-from_All}
use Rattle.graph_run.proofs.VerifiedLemmas.{in_outputs, kind_found, operand_named, real_kind}
use Rattle.graph_run.proofs.IndexLemmas.{all_apart, cells_parts, in_either, once_all}
use Rattle.vx_base.specs.declared.kind.Kind.TheVariants as kind
use Rattle.graph_verify.specs.Operand.{is_virtual}
use Rattle.graph_verify.proofs.VerdictLemmas.{can_run}
use Rattle.graph_run.specs.Operands.{StandsFor}
use Rattle.graph_run.specs.Tasks.{HaveTasks, client_cells}
use Rattle.graph_run.proofs.OperandLaws.{adds_to_none, declared_of_virtual, virtual_written}

-- each cell behind those of the virtual images is another, which a node names as an image
module _ (steps : List Node) (outs : List VirtualOutput)
    (once : has_twice (map (λ (o : VirtualOutput). o.cell) outs) ≡ false) where
  graph_once :
      has_twice (map (λ (o : VirtualOutput). o.cell) outs ++ client_cells steps outs) ≡ false
  graph_once =
      ap has_twice (sym (cells_parts steps outs))
      ∙ once_all (map (λ (o : VirtualOutput). o.cell) outs) (images_named steps) once

  pub client_outside : (c : Reference)
      → In c (client_cells steps outs)
      → In c (map (λ (o : VirtualOutput). o.cell) outs)
      → ⊥
  client_outside c i j =
      once_across c (map (λ (o : VirtualOutput). o.cell) outs) (client_cells steps outs)
      graph_once j i

  pub client_by : (c : Reference)
      → In c (client_cells steps outs)
      → (n : Node) × In n steps × In c (node_images n)
  client_by c i =
      elim
      (in_either (map (λ (o : VirtualOutput). o.cell) outs) (images_named steps) c
      (rw cells_parts
      (In-right c (map (λ (o : VirtualOutput). o.cell) outs) (client_cells steps outs) i))) [
        | inl old ↦ absurd (client_outside c i old)
        | inr more ↦ In-from_flat_map node_images c steps more
      ]

none_pass : (test : Reference → Bool) (cs : List Reference)
    → ((c : Reference) → In c cs → test c ≡ false)
    → filter test cs ≡ []
none_pass test [] fails = refl
none_pass test (c ∷ cs) fails = rw (fails c (inl refl)) (none_pass test cs (λ d i. fails d (inr i)))

pub in_with_kind : (c : Reference) (k : Kind) (o : Option Reference)
    → In c (optional_cells o)
    → In (c, k) (with_kind k o)
in_with_kind c k o i = grind arith

in_given : (c : Reference) (wanted : Kind) (o : Option Reference)
    → In c (image_given wanted o)
    → In (c, kind.Image) (with_kind wanted o)
in_given c wanted o i = grind arith

in_given_more :
    (c : Reference) (wanted : Kind) (o : Option Reference) (cells : List Reference)
    (operands : List (Reference × Kind))
    → (In c cells → In (c, kind.Image) operands)
    → In c (image_given wanted o ++ cells) → In (c, kind.Image) (with_kind wanted o ++ operands)
in_given_more c wanted o cells operands rest i = grind (arith, rest)

-- an image that a node names is one of its operands
pub image_operand : (n : Node) (c : Reference)
    → In c (node_images n)
    → In (c, kind.Image) (operands n)
image_operand n c (inl e) =
    inl (ap (λ (x : Reference). let pair : Reference × Kind = (x, kind.Image) in pair) e)
image_operand n c (inr i) =
    inr
    (in_given_more c (second_kind n) n.in2 _ _
    (in_given_more c (parameters n.function).output n.out1 _ _
    (in_given c (parameters n.function).output n.out2))
    i)

pub second_operand : (n : Node) (c : Reference)
    → n.in2 ≡ Some c
    → In (c, second_kind n) (operands n)
second_operand n c e = inr (rw e (inl refl))

module _ (objects : List NamedObject) (nodes : List Node) (v : Verified)
    (ready : IsReady objects nodes v) where
  abbrev virtual : Reference → Bool
  virtual c = is_virtual (operand_held objects c)

  pub can : CanRun ready.runs.0 (operand_held objects) nodes
  can = can_run ready.runs.0 (operand_held objects) nodes ready.runs.1

  pub own : (n : Node) → In n v.steps → In n nodes
  own n i = AllIn-permutation_back nodes v.steps ready.verified.order.same_nodes n i

  pub operand_stands : (n : Node)
      → In n v.steps
      → (operand : Reference × Kind)
      → In operand (operands n)
      → StandsFor (operand_held objects operand.0) operand.1
  operand_stands n i =
      In-from_All (λ (o : Reference × Kind). StandsFor (operand_held objects o.0) o.1) (operands n)
      (In-from_All
      (λ (m : Node). All (λ (o : Reference × Kind). StandsFor (operand_held objects o.0) o.1)
      (operands m))
      nodes ready.kinds n (own n i))

  -- a cell that a node writes, of which it writes something else than an image, is no virtual image
  plain : (n : Node)
      → In n v.steps
      → (parameters n.function).output ≢ kind.Image
      → (c : Reference)
      → In c (outputs n)
      → virtual c ≡ false
  plain n i other c j = false_from_ne_true (virtual c) (λ yes_virtual.
      let partial_desc = declared_of_virtual (operand_held objects c) yes_virtual in
      let stands : StandsFor (operand_held objects c) (parameters n.function).output =
      ready.cells.kinds n c (own n i) (same-from_In c (outputs n) j) in
      other
      (subst (λ (o : Operand). StandsFor o (parameters n.function).output) partial_desc.1 stands))

  adds : (n : Node)
      → In n v.steps
      → accumulates n.function ≡ true
      → (c : Reference)
      → In c (outputs n)
      → virtual c ≡ false
  adds n i accumulates_there c j = false_from_ne_true (virtual c) (λ yes_virtual.
      let none =
      adds_to_none ready.runs.0 (operand_held objects) nodes can n c (own n i)
      (same-from_In c (outputs n) j) yes_virtual in
      cc (accumulates_there, none))

  pub have_tasks : (p : PlanView)
      → IsPlan v.steps v.virtual_outputs p
      → HaveTasks v.steps v.virtual_outputs p virtual
  have_tasks p plan =
      record {
        plan = plan;
        order = ready.verified.cells;
        images = λ n i other. none_pass virtual (outputs n) (plain n i other);
        turn = ready.verified.order.in_turn;
        writers =
            two_writers-permutation nodes v.steps ready.verified.order.same_nodes can.one_writer;
        adds = adds;
      }

  -- ---- the clients' images

  -- a cell that a node names as an image, and that is none of the virtual ones, holds one
  named_image : (n : Node)
      → In n v.steps
      → (c : Reference)
      → In c (node_images n)
      → (In c (map (λ (o : VirtualOutput). o.cell) v.virtual_outputs) → ⊥)
      → HoldsImage objects c
  named_image n i c j outside =
      let operand = image_operand n c j in
      let names : names_cell n c ≡ true = operand_named n (c, kind.Image) operand in
      let stands : StandsFor (operand_held objects c) kind.Image =
      operand_stands n i (c, kind.Image) operand in
      elim (cases_Bool (virtual c)) [
        | inl yes_virtual ↦
            (let by_node = virtual_written ready.runs.0 (operand_held objects) nodes can n c
            (own n i) names yes_virtual in
            let o =
            in_outputs (operand_held objects) nodes v ready.verified c by_node yes_virtual in
            absurd
            (outside
            (subst
            (λ (x : Reference). In x (map (λ (q : VirtualOutput). q.cell) v.virtual_outputs))
            (sym o.2) (In-map (λ (q : VirtualOutput). q.cell) o.0 v.virtual_outputs o.1))))
        | inr real ↦
            kind_found (object_at objects c) (operand_held objects c) kind.Image
            (ready.cells.found n c (own n i) names)
            (real_kind (operand_held objects c) kind.Image real stands)
      ]

  -- the cells behind those of the virtual images hold images, and are apart
  module _ (p : PlanView) (plan : IsPlan v.steps v.virtual_outputs p) where
    abbrev virtual_ones : List Reference
    virtual_ones = map (λ (o : VirtualOutput). o.cell) v.virtual_outputs

    abbrev clients : List Reference
    clients = client_cells v.steps v.virtual_outputs

    pub clients_hold : HoldImages objects clients
    clients_hold c i =
        let n = client_by v.steps v.virtual_outputs plan.once c i in
        named_image n.0 n.1 c n.2 (client_outside v.steps v.virtual_outputs plan.once c i)

    pub clients_apart : AreAllApart clients
    clients_apart =
        all_apart objects clients
        (once_after virtual_ones clients (graph_once v.steps v.virtual_outputs plan.once))
        clients_hold
