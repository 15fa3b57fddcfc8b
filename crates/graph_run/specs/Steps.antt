-- Single nodes: the objects that they read, and the objects that they write.
use Rattle.std.specs.Prelude.{ℕ, ◌≡◌, ◌≢◌, IsTrue, is_some, List, Option, Some, None, IfSome}
use Rattle.std.specs.Option.{option_map, option_and_then}
use Rattle.vx_base.specs.declared.kind.Kind.TheVariants as kind
use Rattle.vx_base.specs.declared.node.Node.{Node}
use Rattle.vx_base.specs.declared.output.Output.{Output}
use Rattle.vx_base.specs.Reference.{Reference}
use Rattle.vx_base.specs.Formats.{takes_formats}
use Rattle.vx_base.specs.Function.{parameters}
use Rattle.vx_base.specs.Image.{IsImage}
use Rattle.vx_base.specs.Node.{IsNode}
use Rattle.vx_base.specs.Object.{ObjectValue, IsObject, object_kind, object_format}
use Rattle.vx_base.specs.Outputs.{node_output}
use Rattle.image_core.specs.Fits.{SecondHasSize}
use Rattle.object_table.specs.NamedObject.{NamedObject, object_at, with_object}
use Rattle.object_table.specs.Object.{image_value}
use Rattle.object_table.specs.Table.{cell_object, image_held, HoldsImage}

-- the reference names an object
abbrev pub Holds : List NamedObject → Reference → Type 0
Holds objects cell = IsTrue (is_some (object_at objects cell))

-- the node can run on these inputs and this output, by their kinds, formats and sizes
pub record RunsOn (n : Node) (first : ObjectValue) (second : Option ObjectValue)
    (out : ObjectValue) : Type 0 where
  pub node : IsNode n
  pub first_kind : object_kind first ≡ kind.Image
  pub second_kind :
      IfSome second (λ object. (parameters n.function).second_input ≡ Some (object_kind object))
  pub out_kind : object_kind out ≡ (parameters n.function).output
  pub first_is : IsObject first
  pub second_is : IfSome second IsObject
  pub out_is : IsObject out
  pub formats :
      IsTrue
      (takes_formats n.function (image_value first).format
      (option_and_then object_format second) (object_format out))
  pub second_size : SecondHasSize (image_value first) second
  pub out_size : SecondHasSize (image_value first) (Some out)

-- both slots are given, and they differ
abbrev pub TwoSlots : Option ℕ → Option ℕ → Type 0
TwoSlots (Some j) (Some k) = j ≢ k
TwoSlots j k = ⊥

-- one reference's object can be written without changing the other's: the references have different
-- names, or different slots of one delay
abbrev pub AreApart : Reference → Reference → Type 0
AreApart a b = a.name ≡ b.name → TwoSlots a.slot b.slot

-- the node can write this output, which isn't an input
pub record RunsTo (objects : List NamedObject) (n : Node) (output : Reference) : Type 0 where
  pub in1 : HoldsImage objects n.in1
  pub in2 : IfSome n.in2 (Holds objects)
  pub out : Holds objects output
  pub in1_apart : AreApart n.in1 output
  pub in2_apart : IfSome n.in2 (λ cell. AreApart cell output)
  pub runs :
      RunsOn n (cell_object objects n.in1) (option_map (cell_object objects) n.in2)
      (cell_object objects output)

-- the node's inputs exist: the first is an image, and a second input has the kind that the node's
-- function reads
pub record HasInputs (objects : List NamedObject) (n : Node) : Type 0 where
  pub first : HoldsImage objects n.in1
  pub image : IsImage (image_held objects n.in1)
  pub second : IfSome n.in2 (Holds objects)
  pub object : IfSome (option_map (cell_object objects) n.in2) IsObject
  pub kind :
      IfSome (option_map (cell_object objects) n.in2)
      (λ object. (parameters n.function).second_input ≡ Some (object_kind object))

-- the value of an output after the node has run
abbrev pub output_of : List NamedObject → Node → Output → Reference → ObjectValue
output_of objects n which output =
    node_output n which (cell_object objects n.in1) (option_map (cell_object objects) n.in2)
    (cell_object objects output)

-- the objects after the output is written; the same objects if the output isn't given
abbrev pub with_output_object : List NamedObject
    → Node
    → Output
    → Option Reference
    → List NamedObject
with_output_object objects n which None = objects
with_output_object objects n which (Some output) =
    with_object objects output (output_of objects n which output)
