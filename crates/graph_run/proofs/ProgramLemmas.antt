-- The tasks of a graph: which node each is of, and which planes it reads.
use Rattle.std.proofs.Common.{◌≡◌, ◌≢◌, ℕ, suc, ◌+◌, true, false, List, [], ◌∷◌, ◌++◌, refl, sym, subst, inl, inr, arith, Option, Some}
use Rattle.std.specs.List.{slice_get}
use Rattle.graph_run.proofs.Common.{Description, Kind, Node, Reference, optional_cells, inputs, outputs, parameters, second_kind, feeds, In, In-left, In-right, any-from_In, same-from_In, Output}
use Rattle.graph_verify.proofs.MemberLemmas.{In-flat_map}
use Rattle.graph_verify.specs.Links.{reads}
use Rattle.vx_base.specs.declared.kind.Kind.TheVariants as kind
use Rattle.graph_steps.specs.declared.step.SecondSource.TheVariants.{Plane}
use Rattle.graph_steps.specs.declared.step.Step.{Step}
use Rattle.graph_steps.specs.declared.step.Task.{Task}
use Rattle.graph_steps.specs.Program.{IsStepOf}
use Rattle.graph_steps.specs.Steps.{ReadsPlane}
use Rattle.graph_run.specs.Cells.{image_given, images_named, node_images, with_cells}
use Rattle.graph_run.specs.Tasks.{AreNamed, source, step_for, tally_after, tasks_from}
use Rattle.graph_run.proofs.IndexLemmas.{in_more}
use Rattle.graph_run.proofs.TaskLemmas.{in_outputs_at, node_keeps, out_at}

-- ---- the node of a step

pub tasks-right : (s : Step) (xs ys : List Task) → IsStepOf s ys → IsStepOf s (xs ++ ys)
tasks-right s [] ys i = i
tasks-right s (t ∷ xs) ys i = grind (arith, tasks-right s xs ys)

module _ (plane : Reference → ℕ) (describes : Reference → Option Description)
    (radius : Node → ℕ) where
  -- a step writes an output, which is an image, of the node at a place among these, the first of
  -- which is at an index
  pub record IsStepFor (s : Step) (first : ℕ) (nodes : List Node) : Type 0 where
    pub node : Node
    pub place : ℕ
    pub there : slice_get nodes place ≡ Some node
    pub inside : In node nodes
    pub which : Output
    pub cell : Reference
    pub output : out_at node which ≡ Some cell
    pub written : In cell (outputs node)
    pub image : (parameters node.function).output ≡ kind.Image
    pub at : ℕ
    pub same : at ≡ first + place
    pub is : s ≡ step_for plane describes radius at node which cell

  pub step_node : (nodes : List Node) (first tally : ℕ) (s : Step)
      → IsStepOf s (tasks_from plane describes radius first tally nodes)
      → IsStepFor s first nodes
  step_node [] first tally s = λ i. elim i [ ]
  step_node (n ∷ nodes) first tally s =
      node_keeps plane describes radius
      (λ _ (tasks : List Task). IsStepOf s tasks → IsStepFor s first (n ∷ nodes)) first tally n
      (parameters n.function).output
      []
      (tasks_from plane describes radius (first + 1)
      (tally_after tally (parameters n.function).output) nodes)
      (λ image which c output _ later rest i. elim i [
        | inl e ↦ record {
          node = n;
          place = 0;
          there = refl;
          inside = inl refl;
          which = which;
          cell = c;
          output = output;
          written = in_outputs_at n which c output;
          image = image;
          at = first;
          same = omega arith;
          is = e;
        }
        | inr j ↦ rest j
      ])
      (λ other rest i. rest i)
      (λ i. let r = step_node nodes (first + 1)
      (tally_after tally (parameters n.function).output) s i in
      record {
        node = r.node;
        place = suc r.place;
        there = r.there;
        inside = inr r.inside;
        which =
            r.which;
        cell = r.cell;
        output = r.output;
        written = r.written;
        image = r.image;
        at =
            r.at;
        same = omega (arith, r.same);
        is = r.is;
      })

-- ---- the planes that a step reads

pub image_named : (n : Node) (c : Reference)
    → (parameters n.function).output ≡ kind.Image
    → In c (outputs n)
    → In c (node_images n)
image_named n c image i =
    inr (In-right c (image_given (second_kind n) n.in2) _
    (subst (λ (k : Kind). In c (image_given k n.out1 ++ image_given k n.out2)) (sym image) i))

source_plane : (plane : Reference → ℕ) (at k : ℕ) (wanted : Kind) (o : Option Reference)
    → source plane at wanted o ≡ Plane k
    → (c : Reference) × In c (optional_cells o) × In c (image_given wanted o) × (k ≡ plane c)
source_plane plane at k wanted o e = grind arith

-- a node that doesn't feed another writes none of the cells that that reads
pub unfed : (m n : Node) (o c : Reference)
    → feeds m n ≡ false
    → In o (outputs m)
    → In c (inputs n)
    → o ≢ c
unfed m n o c none i j e =
    let read : reads n o ≡ true =
    same-from_In o (inputs n) (subst (λ (x : Reference). In x (inputs n)) (sym e) j) in
    let fed : feeds m n ≡ true = any-from_In (reads n) o (outputs m) i read in
    cc (none, fed)

module _ (plane : Reference → ℕ) (describes : Reference → Option Description)
    (radius : Node → ℕ) where
  pub read_cell : (n : Node) (at : ℕ) (which : Output) (o : Reference) (k : ℕ)
      → ReadsPlane (step_for plane describes radius at n which o) k
      → (c : Reference) × In c (inputs n) × In c (node_images n) × (k ≡ plane c)
  read_cell n at which o k (inl e) = (n.in1, inl refl, inl refl, sym e)
  read_cell n at which o k (inr e) =
      let r = source_plane plane at k (second_kind n) n.in2 e in
      (r.0, inr r.1, inr (In-left r.0 (image_given (second_kind n) n.in2) _ r.2), r.3)

-- ---- the cells of a graph

-- the images that nodes name are among cells to which they are added
pub all_named : (cells : List Reference) (nodes : List Node)
    → AreNamed (with_cells cells (images_named nodes)) nodes
all_named cells nodes n i c j =
    in_more cells (images_named nodes) c (In-flat_map node_images n c nodes i j)
