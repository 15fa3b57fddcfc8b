-- The tasks of a graph: which planes they name, and which images are needed as a band begins.
use Rattle.std.proofs.Common.{◌≡◌, ◌≢◌, ℕ, ◌+◌, ◌<◌, true, false, List, [], ◌∷◌, ◌++◌, length, refl, sym, ap, subst, ◌∙◌, inl, inr, arith, Some, None, ◌⊎◌, ◌||◌}
use Rattle.std.proofs.lemmas.List.{append_assoc}
use Rattle.graph_run.proofs.Common.{any-from_In, cases_Bool, feeds, flat_map, has_twice, HoldsKind, In, In-append, In-from_flat_map, In-right, inputs, is_node_operand, is_written, Kind, list_any, NamedObject, Node, object_at, once_after, or_left, or_parts, Output, outputs, parameters, Reference, same_cell-refl, same_cell-true, same-from_In, same_reference, Verified, writes}
use Rattle.graph_verify.specs.Links.{reads}
use Rattle.graph_verify.specs.Order.{InTurn}
use Rattle.vx_base.specs.declared.kind.Kind.TheVariants as kind
use Rattle.graph_steps.specs.declared.step.Step.{Step}
use Rattle.graph_steps.specs.declared.step.Task.{Task}
use Rattle.graph_steps.specs.declared.step.Task.TheVariants.{Reduce, Write}
use Rattle.graph_steps.specs.Program.{HaveOneWriter, IsClients, IsNeeded, IsStepOf, IsUnwritten, NamesPlanes}
use Rattle.graph_run.specs.declared.schedule.Schedule.{Schedule}
use Rattle.graph_run.specs.Cells.{node_images}
use Rattle.graph_run.specs.Schedule.{CanRunBy}
use Rattle.graph_run.specs.Tasks.{step_for, tally_after, tasks_from}
use Rattle.graph_run.proofs.IndexLemmas.{once_differ}
use Rattle.graph_run.proofs.PlaneSteps.{client_alone, client_below, client_desc, client_from, plane_at, plane_below, slots, virtual_alone, virtual_below, virtual_desc, virtual_found}
use Rattle.graph_run.proofs.ProgramLemmas.{image_named, read_cell, unfed}
use Rattle.graph_run.proofs.SolutionStepsEnds.{last_kinds}
use Rattle.graph_run.proofs.SolutionStepsImages.{cell_there, cells, clients, ends, have, one_kind, output_operand, virtual_by, virtual_is, virtual_or}
use Rattle.graph_run.proofs.TaskLemmas.{in_outputs_at, node_keeps, out_at}
use Rattle.graph_run.proofs.TurnSteps.{describes, radius}

module _ {objects : List NamedObject} {v : Verified} {s : Schedule} (g : CanRunBy objects v s) where
  abbrev count : ℕ
  count = slots g + length (clients g)

  -- what a step writes
  pub record IsWriter (left : List Reference) (w : Step) : Type 0 where
    pub cell : Reference
    pub inside : In cell left
    pub among : In cell (cells g)
    pub output : w.output ≡ plane_at g cell
    pub describes_is : w.describes ≡ describes g cell

  -- no image that is still to be written has its plane here
  abbrev Fresh : List Reference → ℕ → Type 0
  Fresh left k =
      (c : Reference) (m : Node)
      → In m v.steps
      → In c (outputs m)
      → (parameters m.function).output ≡ kind.Image
      → (In c left → ⊥)
      → plane_at g c ≢ k

  pub record Fine (left : List Reference) (tasks : List Task) : Type 0 where
    pub one_writer : HaveOneWriter tasks
    pub writes_these : (w : Step) → IsStepOf w tasks → IsWriter left w
    pub names : (w : Step) → IsStepOf w tasks → NamesPlanes (slots g) count w
    pub begins : (k more : ℕ)
        → IsNeeded (IsClients (slots g) count) s.high tasks k more
        → Fresh left k
        → IsUnwritten tasks k × IsClients (slots g) count k

  pub same_or_not : (a b : Reference) → (a ≡ b) ⊎ (a ≢ b)
  same_or_not a b = elim (cases_Bool (same_reference a b)) [
    | inl e ↦ inl (same_cell-true a b e)
    | inr e ↦
        inr
        (λ same. let here = same_cell-refl b in let absent = ap
        (λ (x : Reference). same_reference x b) (sym same) ∙ e in cc)
  ]

  client_is : (c : Reference) → In c (cells g) → describes g c ≡ None → In c (clients g)
  client_is c i none = elim (virtual_or g c i) [
    | inl j ↦ absurd (let d = virtual_desc g c (virtual_found g c j) in cc)
    | inr j ↦ j
  ]

  writer_more : (left : List Reference) (c : Reference) (w : Step)
      → IsWriter left w
      → IsWriter (c ∷ left) w
  writer_more left c w o = record {
    cell = o.cell;
    inside = inr o.inside;
    among = o.among;
    output = o.output;
    describes_is = o.describes_is;
  }

  module _ (before after : List Node) (n : Node) (parts : v.steps ≡ before ++ n ∷ after)
      (turn : (m : Node) → In m (n ∷ after) → feeds m n ≡ false) where
    abbrev Within : List Reference → Type 0
    Within left = (c : Reference) → In c left → (m : Node) × In m (n ∷ after) × In c (outputs m)

    inside : In n v.steps
    inside = subst (In n) (sym parts) (In-right n before (n ∷ after) (inl refl))

    absent : (left : List Reference)
        → Within left
        → (c : Reference)
        → In c (inputs n)
        → In c left
        → ⊥
    absent left within c input j =
        let m = within c j in unfed m.0 n c c (turn m.0 m.1) m.2 input refl

    -- the plane of an input isn't one of its own outputs'
    input_apart : (c d : Reference)
        → In c (outputs n)
        → In c (cells g)
        → In d (inputs n)
        → In d (cells g)
        → plane_at g d ≢ plane_at g c
    input_apart c d output among input there same = elim (virtual_or g c among) [
      | inr i ↦ differ (client_alone g d c there i same)
      | inl i ↦ elim (virtual_or g d there) [
        | inr j ↦ (let low = virtual_below g c i in let from = client_from g d j in omega arith)
        | inl j ↦
            differ
            (virtual_alone g before after n parts c d i j output (written (virtual_by g d j))
            used same)
      ]
    ]
      where
        differ : d ≡ c → ⊥
        differ e = unfed n n c d (turn n (inl refl)) output input (sym e)

        used : is_node_operand (n ∷ after) d ≡ true
        used =
            or_left (reads n d || writes n d) (is_node_operand after d)
            (or_left (reads n d) (writes n d) (same-from_In d (inputs n) input))

        written :
            (m : Node)
            × In m v.steps
            × In d (outputs m)
            × ((parameters m.function).output ≡ kind.Image)
            → (is_written before d || writes n d) ≡ true
        written m = elim (In-append m.0 before (n ∷ after) (subst (In m.0) parts m.1)) [
          | inl early ↦
              or_left (is_written before d) (writes n d)
              (any-from_In (λ x. writes x d) m.0 before early (same-from_In d (outputs m.0) m.2))
          | inr late ↦ absurd (unfed m.0 n d d (turn m.0 late) m.2 input refl)
        ]

    -- what the node reads as a band begins
    reads_begin : (left : List Reference)
        → Within left
        → (tasks : List Task)
        → ((w : Step) → IsStepOf w tasks → IsWriter left w)
        → (k : ℕ)
        → Fresh left k
        → (x : Reference)
        → In x (inputs n)
        → In x (node_images n)
        → k ≡ plane_at g x
        → IsUnwritten tasks k × IsClients (slots g) count k
    reads_begin left within tasks these k fresh x input named here =
        elim (virtual_or g x (cell_there g n inside x named)) [
          | inl i ↦
              (let m = virtual_by g x i in absurd
              (fresh x m.0 m.1 m.2 m.3 (absent left within x input) (sym here)))
          | inr i ↦ (
            (λ w j same.
                let o = these w j in
                let e = client_alone g o.cell x o.among i (sym o.output ∙ same ∙ here) in
                absent left within x input (subst (λ (y : Reference). In y left) e o.inside)),
            (
              (let from = client_from g x i in omega arith),
              (let low = client_below g x i in omega arith),
            ),
          )
        ]

    module _ (at : ℕ) (image : (parameters n.function).output ≡ kind.Image) (which : Output)
        (c : Reference) (output : out_at n which ≡ Some c) where
      abbrev st : Step
      st = step_for (plane_at g) (describes g) (radius g) at n which c

      written : In c (outputs n)
      written = in_outputs_at n which c output

      among : In c (cells g)
      among = cell_there g n inside c (image_named n c image written)

      names_st : NamesPlanes (slots g) count st
      names_st = record {
        output = plane_below g c among;
        reads = λ k read.
            let x = read_cell (plane_at g) (describes g) (radius g) n at which c k read in
            let there = cell_there g n inside x.0 x.2 in (
              subst (λ m. m < count) (sym x.3) (plane_below g x.0 there),
              λ same. input_apart c
                  x.0 written among x.1 there (sym x.3 ∙ same),
            );
        virtual = λ d some. elim (virtual_or g c among) [
          | inl i ↦ virtual_below g c i
          | inr i ↦ absurd (let none = client_desc g c i in cc)
        ];
        client = λ none. client_from g c (client_is c among none);
        own = λ sums. elim (virtual_or g c among) [
          | inl i ↦
              absurd
              (let none = (have g).adds n inside sums c written in let one = virtual_is g c i in cc)
          | inr i ↦ client_desc g c i
        ];
      }

      pub fine_write : (left : List Reference) (tasks : List Task)
          → Within (c ∷ left)
          → has_twice (c ∷ left) ≡ false
          → Fine left tasks
          → Fine (c ∷ left) (Write st ∷ tasks)
      fine_write left tasks within once f = record {
        one_writer = (
          (λ none w i same.
              let o = f.writes_these w i in
              let e =
              client_alone g o.cell c o.among (client_is c among none) (sym o.output ∙ same) in
              once_differ c left o.cell
              (or_parts (list_any (same_reference c) left) (has_twice left) once).0 o.inside e),
          f.one_writer,
        );
        writes_these = these;
        names =
            λ w i. elim i
            [ inl e ↦ subst (NamesPlanes (slots g) count) (sym e) names_st | inr j ↦ f.names w j ];
        begins = λ k more needed fresh. elim needed [
          | inl read ↦
              let x = read_cell (plane_at g) (describes g) (radius g) n at which c k read.0 in
              reads_begin (c ∷ left) within (Write st ∷ tasks) these k fresh x.0 x.1 x.2 x.3
          | inr (other, rest) ↦
              let b = f.begins k more rest (λ d m i j is_image gone. elim (same_or_not d c) [
                | inl e ↦ (λ same. other (sym same ∙ ap (plane_at g) e))
                | inr differ ↦
                    fresh d m i j is_image (λ l. elim l [ inl e ↦ differ e | inr h ↦ gone h ])
              ]) in (
                (λ w i. elim i [
                  | inl e ↦ (λ same. other (sym same ∙ ap (λ (x : Step). x.output) e))
                  | inr j
                      ↦ b.0 w j
                ]),
                b.1,
              )
        ];
      }
        where
          these : (w : Step) → IsStepOf w (Write st ∷ tasks) → IsWriter (c ∷ left) w
          these w (inl e) = record {
            cell = c;
            inside = inl refl;
            among = among;
            output = ap (λ (x : Step). x.output) e;
            describes_is = ap (λ (x : Step). x.describes) e;
          }
          these w (inr i) = writer_more left c w (f.writes_these w i)

    pub fine_reduce : (first : ℕ)
        → (parameters n.function).output ≢ kind.Image
        → (left : List Reference) (tasks : List Task)
        → Within (outputs n ++ left)
        → Fine left tasks
        → Fine (outputs n ++ left)
        (Reduce (record { input = plane_at g n.in1; tally = first }) ∷ tasks)
    fine_reduce first other left tasks within f = record {
      one_writer = f.one_writer;
      writes_these = these;
      names = f.names;
      begins = λ k more needed fresh. elim needed [
        | inl read ↦
            reads_begin (outputs n ++ left) within tasks these k fresh n.in1 (inl refl)
            (inl refl) (sym read.0)
        | inr rest ↦
            f.begins k more rest
            (λ d m i j is_image gone. fresh d m i j is_image
            (λ l. elim (In-append d (outputs n) left l) [
              | inl own ↦
                  other
                  (one_kind (object_at (ends g) d) (parameters n.function).output kind.Image
                  (last_kinds g n inside (d, (parameters n.function).output)
                  (output_operand n d own))
                  (subst (λ (k : Kind). HoldsKind (ends g) (d, k)) is_image
                  (last_kinds g m i (d, (parameters m.function).output) (output_operand m d j))))
              | inr h ↦ gone h
            ]))
      ];
    }
      where
        these : (w : Step) → IsStepOf w tasks → IsWriter (outputs n ++ left) w
        these w i = let o = f.writes_these w i in record {
          cell = o.cell;
          inside = In-right o.cell (outputs n) left o.inside;
          among = o.among;
          output = o.output;
          describes_is = o.describes_is;
        }

  -- what is to be shown of the rest of a node's tasks and of all later ones
  abbrev Rest : Node → List Node → List Reference → List Task → Type 0
  Rest n after left tasks =
      ((d : Reference) → In d left → (m : Node) × In m (n ∷ after) × In d (outputs m))
      × (has_twice left ≡ false → Fine left tasks)

  abbrev Task_list : ℕ → ℕ → List Node → List Task
  Task_list = tasks_from (plane_at g) (describes g) (radius g)

  abbrev next : ℕ → Node → ℕ
  next first n = tally_after first (parameters n.function).output

  fine_node : (before : List Node) (n : Node) (after : List Node) (first : ℕ)
      → v.steps ≡ before ++ n ∷ after
      → ((m : Node) → In m (n ∷ after) → feeds m n ≡ false)
      → (at : ℕ)
      →
      (has_twice (flat_map outputs after) ≡ false
      → Fine (flat_map outputs after) (Task_list (at + 1) (next first n) after))
      → has_twice (flat_map outputs (n ∷ after)) ≡ false
      → Fine (flat_map outputs (n ∷ after)) (Task_list at first (n ∷ after))
  fine_node before n after first parts turn at rest once =
      (node_keeps (plane_at g) (describes g) (radius g) (Rest n after) at first n
      (parameters n.function).output (flat_map outputs after)
      (Task_list (at + 1) (next first n) after) write reduce base).1
      once
    where
      base : Rest n after (flat_map outputs after) (Task_list (at + 1) (next first n) after)
      base = ((λ d i. let m = In-from_flat_map outputs d after i in (m.0, inr m.1, m.2)), rest)

      write : (parameters n.function).output ≡ kind.Image
          → (which : Output) (c : Reference)
          → out_at n which ≡ Some c
          → (left : List Reference) (tasks : List Task)
          → Rest n after left tasks
          → Rest n after (c ∷ left)
          (Write (step_for (plane_at g) (describes g) (radius g) at n which c) ∷ tasks)
      write image which c output left tasks p =
          let within : (d : Reference)
          → In d (c ∷ left)
          → (m : Node) × In m (n ∷ after) × In d (outputs m) =
          λ d i. elim i [
            | inl e ↦ (
              n,
              inl refl,
              subst (λ (x : Reference). In x (outputs n)) (sym e) (in_outputs_at n which c output),
            )
            | inr j ↦ p.0 d j
          ] in (
            within,
            λ one. fine_write before after n parts turn at image which c output left tasks
                within one
                (p.1 (or_parts (list_any (same_reference c) left) (has_twice left) one).1),
          )

      reduce : (parameters n.function).output ≢ kind.Image
          → Rest n after (flat_map outputs after) (Task_list (at + 1) (next first n) after)
          → Rest n after (outputs n ++ flat_map outputs after)
          (Reduce (record { input = plane_at g n.in1; tally = first })
          ∷ Task_list (at + 1) (next first n) after)
      reduce other p =
          let within : (d : Reference)
          → In d (outputs n ++ flat_map outputs after)
          → (m : Node) × In m (n ∷ after) × In d (outputs m) =
          λ d i. elim (In-append d (outputs n) (flat_map outputs after) i) [
            | inl own ↦ (n, inl refl, own)
            | inr j ↦ p.0 d j
          ] in (
            within,
            λ one. fine_reduce before after n parts turn first other (flat_map outputs after)
                (Task_list (at + 1) (next first n) after) within
                (p.1 (once_after (outputs n) (flat_map outputs after) one)),
          )

  pub all_fine : (before nodes : List Node) (at first : ℕ)
      → v.steps ≡ before ++ nodes
      → InTurn feeds nodes
      → has_twice (flat_map outputs nodes) ≡ false
      → Fine (flat_map outputs nodes) (Task_list at first nodes)
  all_fine before [] at first parts turn once = record {
    one_writer = tt;
    writes_these = λ w i. absurd i;
    names = λ w i. absurd i;
    begins = λ k more needed fresh. ((λ w i. absurd i), needed.0);
  }
  all_fine before (n ∷ after) at first parts turn once =
      fine_node before n after first parts turn.0 at
      (λ one. all_fine (before ++ n ∷ []) after (at + 1)
      (tally_after first (parameters n.function).output)
      (parts ∙ sym (append_assoc before (n ∷ []) after)) turn.1 one)
      once
