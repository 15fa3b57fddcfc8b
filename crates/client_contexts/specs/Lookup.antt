-- The lookup of objects in a context, by reference or by name, and of the operands of nodes.
use Rattle.std.specs.Prelude.{ℕ, ◌≡◌, IsTrue, is_some, List, Option, Some, Result, Ok, Err}
use Rattle.vx_base.specs.declared.kind.Kind.{Kind}
use Rattle.vx_base.specs.declared.kind.Kind.TheVariants as kind
use Rattle.vx_base.specs.Reference.{Reference}
use Rattle.vx_base.specs.Description.{Description}
use Rattle.vx_base.specs.Image.{ImageValue, description_of}
use Rattle.vx_base.specs.Object.{ObjectValue, object_kind}
use Rattle.object_table.specs.Context.{object_named}
use Rattle.object_table.specs.Delay.{in_slot, object_in}
use Rattle.object_table.specs.NamedObject.{NamedObject, object_held, object_at}
use Rattle.object_table.specs.Table.{image_held, HoldsImage}
use Rattle.client_model.specs.declared.refusal.Refusal.{Refusal}
use Rattle.client_model.specs.Images.{picture_refusal}
use Rattle.client_model.specs.Operands.{stands_for, image_of}

-- this object has the reference's name, and the reference's cell exists and is of the wanted kind;
-- a virtual image counts as an image
pub record Found (objects : List NamedObject) (cell : Reference) (wanted : Kind)
    (object : ObjectValue) : Type 0 where
  pub live : object_named objects cell.name ≡ Some object
  pub held : object_held objects cell.name ≡ Some object
  pub there : IsTrue (is_some (in_slot cell.slot object))
  pub kind : IsTrue (stands_for (object_kind (object_in cell.slot object)) wanted)

-- this object has this name and the wanted kind
pub record IsNamed (objects : List NamedObject) (name : ℕ) (wanted : Kind)
    (object : ObjectValue) : Type 0 where
  pub live : object_named objects name ≡ Some object
  pub held : object_held objects name ≡ Some object
  pub kind : object_kind object ≡ wanted

-- these are the names of a graph and of a delay
pub record NameGraphAndDelay (objects : List NamedObject) (graph delay : ℕ) : Type 0 where
  pub first : ObjectValue
  pub second : ObjectValue
  pub is_graph : IsNamed objects graph kind.Graph first
  pub live : object_named objects delay ≡ Some second
  pub is_delay : object_kind second ≡ kind.Delay

-- the reference names this image
pub record IsImageOf (objects : List NamedObject) (cell : Reference) (is : ImageValue) : Type 0
  where
    pub there : HoldsImage objects cell
    pub held : image_held objects cell ≡ is
    pub image : image_of objects cell ≡ Ok is

-- the reference names an image of this description
pub record IsImageFor (objects : List NamedObject) (cell : Reference) (d : Description) : Type 0
  where
    pub image : ImageValue
    pub named : IsImageOf objects cell image
    pub same : description_of image ≡ d

-- the reason, if any, why a picture of this description can't be written to an image
abbrev pub refusal_for : Result ImageValue Refusal → Description → Option Refusal
refusal_for (Err refusal) d = Some refusal
refusal_for (Ok image) d = picture_refusal (description_of image) d

-- the operand's reference names an object of the operand's kind; a virtual image counts as an image
abbrev pub IsFound : List NamedObject → Reference × Kind → Type 0
IsFound objects operand =
    (object : ObjectValue)
    × (object_at objects operand.0 ≡ Some object)
    × IsTrue (stands_for (object_kind object) operand.1)
