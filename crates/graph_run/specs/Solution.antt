-- Runs as solutions of equations, without rounds: each output is its node's result on the objects
-- after the run.
use Rattle.std.specs.Prelude.{ℕ, ◌≡◌, ◌≢◌, Bool, true, false, List, [], map, All, Option, Some}
use Rattle.std.specs.Option.{option_map}
use Rattle.vx_base.specs.declared.kind.Kind.{Kind}
use Rattle.vx_base.specs.declared.kind.Kind.TheVariants as kind
use Rattle.vx_base.specs.declared.node.Node.{Node}
use Rattle.vx_base.specs.Reference.{Reference}
use Rattle.vx_base.specs.Image.{new_image}
use Rattle.vx_base.specs.Object.{ObjectValue, ImageObject, DelayObject, GraphObject, object_kind}
use Rattle.vx_base.specs.Outputs.{written_from}
use Rattle.object_table.specs.NamedObject.{NamedObject, object_at}
use Rattle.object_table.specs.Skeleton.{skeleton}
use Rattle.graph_verify.specs.Links.{is_written}

-- the kind of the object that a reference names
abbrev pub kind_in : List NamedObject → Reference → Option Kind
kind_in objects cell = option_map object_kind (object_at objects cell)

-- no node writes an object of this kind; a delay's slot counts as an image
abbrev pub WritesNo : Kind → List Node → List NamedObject → Type 0
WritesNo k nodes objects =
    (cell : Reference) → is_written nodes cell ≡ true → kind_in objects cell ≢ Some k

-- the first input of each node is an image
abbrev pub ReadImages : List Node → List NamedObject → Type 0
ReadImages nodes objects = All (λ n. kind_in objects n.in1 ≡ Some kind.Image) nodes

-- the part of an object that no node changes: the format of an image, all of a graph, nothing of a
-- delay, and the skeleton of any other object. The images in a delay's slots have references and
-- forms of their own.
abbrev pub form_of : ObjectValue → ObjectValue
form_of (ImageObject image) = ImageObject (new_image 0 0 image.format)
form_of (DelayObject images) = DelayObject []
form_of (GraphObject graph) = GraphObject graph
form_of other = skeleton other

-- the form of the object that a reference names
abbrev pub form_held : List NamedObject → Reference → Option ObjectValue
form_held objects cell = option_map form_of (object_at objects cell)

-- an object's name, and whether the name is live
abbrev pub label_of : NamedObject → ℕ × Bool
label_of o = (o.name, o.live)

-- the objects after a run solve the equations of the nodes. Each output is what its node computes
-- from the objects after the run; an accumulating node adds to its output as it was before the run.
-- All other objects, and all labels and forms, are as before.
pub record Solves (nodes : List Node) (before after : List NamedObject) : Type 0 where
  pub labels : map label_of after ≡ map label_of before
  pub forms : (cell : Reference) → form_held after cell ≡ form_held before cell
  pub written :
      All
      (λ n. All (λ w. object_at after w.0 ≡ Some w.1)
      (written_from (object_at before) n (object_at after)))
      nodes
  pub others : (cell : Reference)
      → is_written nodes cell ≡ false
      → kind_in before cell ≢ Some kind.Delay
      → object_at after cell ≡ object_at before cell
