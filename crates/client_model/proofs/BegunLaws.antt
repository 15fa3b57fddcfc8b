-- What an object is as a run begins, and what the verdict took it for.
use Rattle.std.proofs.Common.{◌≡◌, ◌⊎◌, ℕ, zero, suc, Bool, true, List, [], ◌∷◌, Option, Some, None, IfSome, arith, is_some, unwrap_or}
use Rattle.client_model.proofs.Common.{option_map, option_and_then, Kind, Node, Reference, Description, parameters, IsNode, second_kind, ObjectValue, IsObject, object_kind, PartialDescription, in_slot, Operand, Image, operand_of, operand_kind, operand_format, is_kind, stands_for, Suits, kind-operand, cond_both}
use Rattle.vx_base.specs.Object.{VirtualObject}
use Rattle.vx_base.specs.Description.{IsDescription}
use Rattle.vx_base.specs.PartialDescription.{IsPartialDescription, full_description, with_defaults}
use Rattle.vx_base.proofs.ImageLaws.{new_image_is}
use Rattle.graph_verify.specs.declared.operand.Operand.TheVariants.{Missing}
use Rattle.graph_verify.specs.Links.{writes}
use Rattle.graph_verify.specs.Operand.{is_virtual as is_virtual_operand}
use Rattle.graph_verify.specs.PartialDescriptions.{operand_partial_desc, given_partial_desc, written_partial_desc, as_known, virtual_or_image}
use Rattle.graph_verify.specs.Rounds.{round as round_of, rounds as rounds_of}
use Rattle.graph_run.specs.Graph.{is_virtual_object, object_at_start}
use Rattle.client_model.proofs.HoldLaws.{is_taken}
use Rattle.client_model.proofs.NodeStepLaws.{CanGive}
use Rattle.graph_run.proofs.BegunLaws.{begun_if}

-- ---- partial descriptions of virtual images

-- a partial description that is filled from another is one
filled_is : (a b : PartialDescription)
    → IsPartialDescription a
    → IsPartialDescription b
    → IsPartialDescription (with_defaults a b)
filled_is a b h k = grind arith

-- what is declared of an object is one
pub object_partial_desc_is : (object : Option ObjectValue)
    → IfSome object IsObject
    → IsPartialDescription (operand_partial_desc (unwrap_or (option_map operand_of object) Missing))
object_partial_desc_is object is = grind arith

-- so is what is known after rounds
module _ (is : Reference → Operand)
    (are : (cell : Reference) → IsPartialDescription (operand_partial_desc (is cell))) where
  round_is : (nodes : List Node) (known : Reference → PartialDescription)
      → ((cell : Reference) → IsPartialDescription (known cell))
      → (cell : Reference)
      → IsPartialDescription (round_of writes (written_partial_desc is) nodes known cell)
  round_is [] known h cell = h cell
  round_is (n ∷ nodes) known h cell =
      cond_both (writes n cell) (written_partial_desc is n known cell)
      (round_of writes (written_partial_desc is) nodes known cell) IsPartialDescription
      (λ e. filled_is (operand_partial_desc (is cell))
      (given_partial_desc n.function (known n.in1)) (are cell) (h n.in1))
      (λ e. round_is nodes known h cell)

  pub rounds_are : (nodes : List Node) (k : ℕ) (cell : Reference)
      → IsPartialDescription
      (rounds_of writes (written_partial_desc is) nodes k (λ c. operand_partial_desc (is c)) cell)
  rounds_are nodes zero cell = are cell
  rounds_are nodes (suc k) cell =
      round_is nodes
      (rounds_of writes (written_partial_desc is) nodes k (λ c. operand_partial_desc (is c)))
      (rounds_are nodes k) cell

-- an image of which all is known has allowed sides
closed_is : (o : PartialDescription)
    → IsPartialDescription o
    → IfSome (full_description o) IsDescription
closed_is o h = grind arith

-- ---- an object as a run begins

pub begun_is_object : (object : ObjectValue) (known : PartialDescription) (written : Bool)
    → IsObject object
    → IsPartialDescription known
    → IsObject (begun_if written object (as_known (operand_of object) known))
begun_is_object (VirtualObject image) known true is partial_desc =
    of_closed (full_description known) (closed_is known partial_desc)
  where
    of_closed : (d : Option Description)
        → IfSome d IsDescription
        → IsObject (object_at_start (VirtualObject image) (virtual_or_image known d))
    of_closed None sides = is
    of_closed (Some d) sides = new_image_is d.width d.height d.format sides.width sides.height
begun_is_object other known written is partial_desc = grind arith

-- the object in a slot of it does not change
pub slot_as_begun : (k : ℕ) (object : ObjectValue) (written : Bool) (operand : Operand)
    → in_slot (Some k) (begun_if written object operand) ≡ in_slot (Some k) object
slot_as_begun k object written operand = grind arith

-- nor does the image in the slot
pub image_as_begun : (k : ℕ) (object : ObjectValue) (written : Bool) (operand : Operand)
    → option_map (λ x. begun_if written x operand) (in_slot (Some k) object)
    ≡ in_slot (Some k) object
image_as_begun k object written operand = grind arith

-- ---- what the verdict takes an object for

-- the verdict takes an object for what it is as the graph runs, or it knows no format of a virtual
-- image
abbrev pub Taken : Operand → Operand → Type 0
Taken known actual =
    (known ≡ actual) ⊎ ((is_virtual_operand actual ≡ true) × (operand_format known ≡ None))

pub taken_as_begun : (object : ObjectValue) (known : PartialDescription) (written : Bool)
    → (is_virtual_object object ≡ true → written ≡ true)
    → Taken (as_known (operand_of object) known)
    (operand_of (begun_if written object (as_known (operand_of object) known)))
taken_as_begun object known written h = grind arith

-- an object that is accepted as a kind still is
pub kind_as_begun : (object : ObjectValue) (written : Bool) (operand : Operand) (wanted : Kind)
    → is_taken wanted ≡ true
    → stands_for (object_kind object) wanted ≡ true
    → is_kind wanted (operand_kind (operand_of (begun_if written object operand))) ≡ true
kind_as_begun object written operand wanted taken h = grind (arith, is_taken, kind-operand)

-- ---- nodes whose operands suit as the verdict takes them

-- an image is taken for one
taken_image : (known : Operand) (d : Description) → Taken known (Image d) → known ≡ Image d
taken_image known d taken = grind arith

-- a second input as it is taken and as it is, where there is one
abbrev pub SecondTaken : Kind → Option Operand → Option Operand → Type 0
SecondTaken wanted None None = Unit {0}
SecondTaken wanted (Some known) (Some actual) =
    Taken known actual × (is_kind wanted (operand_kind actual) ≡ true)
SecondTaken wanted known actual = ⊥

-- what a node can give to an output that suits as it is taken
pub give_as_taken : (n : Node)
    → IsNode n
    → (dfirst first dout out : Operand) (dsecond second : Option Operand)
    → (is_some dsecond ≡ true → is_some (parameters n.function).second_input ≡ true)
    → Taken dfirst first
    → Taken dout out
    → SecondTaken (second_kind n) dsecond second
    → Suits n.function dfirst (option_and_then operand_format dsecond) dout
    → CanGive n.function first second out
give_as_taken n node dfirst (Image d) dout (Image e) dsecond second there first_taken out_taken
    second_taken suits =
    grind (arith, Suits, taken_image)
give_as_taken n node dfirst first dout out dsecond second there first_taken out_taken
    second_taken suits =
    tt
