-- The objects that references name, and the refusals of operands.
use Rattle.std.specs.Prelude.{ℕ, ◌==◌, Bool, true, false, not, List, Option, Some, None, is_none, Result, Ok, Err, if◌then◌else◌}
use Rattle.std.specs.List.{list_any}
use Rattle.std.specs.Option.{option_and_then}
use Rattle.vx_base.specs.declared.kind.Kind.{Kind}
use Rattle.vx_base.specs.declared.kind.Kind.TheVariants as kind
use Rattle.vx_base.specs.Reference.{Reference}
use Rattle.vx_base.specs.Image.{ImageValue}
use Rattle.vx_base.specs.Object.{ObjectValue, ImageObject, VirtualObject, same_kind}
use Rattle.object_table.specs.Delay.{slot_kind}
use Rattle.object_table.specs.NamedObject.{NamedObject, object_at}
use Rattle.object_table.specs.Context.{object_named}
use Rattle.client_model.specs.declared.refusal.Refusal.{Refusal}
use Rattle.client_model.specs.declared.refusal.Refusal.TheVariants.{InvalidReference, InvalidType, InvalidScope, InvalidValue, OptimizedAway}

-- whether a reference's name isn't live
abbrev pub is_unknown : List NamedObject → Reference → Bool
is_unknown objects cell = is_none (object_named objects cell.name)

-- the kind of a reference: the kind of the named object, or Image for a slot of a delay; None for a
-- slot of any other object, or if the name isn't live
abbrev pub kind_of : List NamedObject → Reference → Option Kind
kind_of objects cell = option_and_then (slot_kind cell.slot) (object_named objects cell.name)

-- whether the first kind is accepted where the second is expected: both are the same kind, or a
-- virtual image is given and an image is expected
abbrev pub stands_for : Kind → Kind → Bool
stands_for kind.VirtualImage kind.Image = true
stands_for kind wanted = same_kind wanted kind

-- whether a kind is given, and is accepted as the expected one
abbrev pub is_kind : Kind → Option Kind → Bool
is_kind wanted None = false
is_kind wanted (Some kind) = stands_for kind wanted

-- whether a reference's kind isn't accepted as the expected one
abbrev pub is_of_other_kind : List NamedObject → Reference × Kind → Bool
is_of_other_kind objects operand = not (is_kind operand.1 (kind_of objects operand.0))

-- whether a reference names nothing: no object has the name, or the slot doesn't exist
abbrev pub holds_nothing : List NamedObject → Reference → Bool
holds_nothing objects cell = is_none (object_at objects cell)

-- whether an object is a virtual image of another graph than this one
abbrev pub is_of_other_graph : ℕ → Option ObjectValue → Bool
is_of_other_graph graph (Some (VirtualObject image)) = not (image.graph == graph)
is_of_other_graph graph other = false

-- whether a reference in a node of this graph names a virtual image of another graph; false for an
-- immediate node, which has no graph
abbrev pub is_beyond : Option ℕ → List NamedObject → Reference → Bool
is_beyond None objects cell = false
is_beyond (Some graph) objects cell = is_of_other_graph graph (object_at objects cell)

-- the first refusal of a list of references with their expected kinds: all names are checked first,
-- then all kinds, then all scopes, then all slots
abbrev pub operands_refusal : Option ℕ → List NamedObject → List (Reference × Kind) → Option Refusal
operands_refusal scope objects operands =
    if list_any (λ operand. is_unknown objects operand.0) operands then Some InvalidReference
    else (if list_any (is_of_other_kind objects) operands then Some InvalidType
    else (if list_any (λ operand. is_beyond scope objects operand.0) operands then Some InvalidScope
    else
    (if list_any (λ operand. holds_nothing objects operand.0) operands then Some InvalidValue
    else None)))

-- an object as an image; or the refusal of a virtual image, or of a slot that doesn't exist
abbrev pub as_image : Option ObjectValue → Result ImageValue Refusal
as_image (Some (ImageObject image)) = Ok image
as_image (Some (VirtualObject image)) = Err OptimizedAway
as_image other = Err InvalidValue

-- the image that a reference names, or the refusal
abbrev pub image_of : List NamedObject → Reference → Result ImageValue Refusal
image_of objects cell =
    if is_unknown objects cell then Err InvalidReference
    else
    (if is_of_other_kind objects (cell, kind.Image) then Err InvalidType else as_image
    (object_at objects cell))
