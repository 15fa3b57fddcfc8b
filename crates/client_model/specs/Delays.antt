-- Requests on delays. OpenVX 1.3, "Object: Delay", vxCreateDelay, vxAgeDelay and
-- vxRegisterAutoAging.
use Rattle.std.specs.Prelude.{ℕ, Option, Some, None, Result, Ok, Err}
use Rattle.vx_base.specs.Reference.{Reference}
use Rattle.vx_base.specs.Image.{ImageValue, description_of}
use Rattle.vx_base.specs.Object.{ObjectValue, DelayObject, GraphObject}
use Rattle.object_table.specs.Ageing.{with_registration}
use Rattle.object_table.specs.Delay.{new_delay, aged_images}
use Rattle.object_table.specs.Context.{Context, object_named, with_objects}
use Rattle.client_model.specs.declared.refusal.Refusal.{Refusal}
use Rattle.client_model.specs.declared.refusal.Refusal.TheVariants.{InvalidReference, InvalidType}
use Rattle.client_model.specs.declared.reply.Reply.TheVariants.{Empty}
use Rattle.client_model.specs.Limits.{LimitsValue}
use Rattle.object_table.specs.NamedObject.{with_object}
use Rattle.client_model.specs.Refusal.{Outcome}
use Rattle.client_model.specs.Operands.{image_of}
use Rattle.client_model.specs.Images.{create}

-- a new delay of `slots` images with an image's size and format, or the refusal
abbrev pub create_like : LimitsValue → Context → Result ImageValue Refusal → ℕ → Outcome
create_like limits c (Err refusal) slots = Err refusal
create_like limits c (Ok image) slots =
    create limits c (DelayObject (new_delay (description_of image) slots))

-- CreateDelay: a delay of `slots` new images with the size and format of the image that a reference
-- names
abbrev pub create_delay : LimitsValue → Context → Reference → ℕ → Outcome
create_delay limits c cell slots = create_like limits c (image_of c.objects cell) slots

-- the delay of this name with each image moved to the next slot, and the image in the last slot to
-- slot 0; or the refusal
abbrev pub age_named : Context → ℕ → Option ObjectValue → Outcome
age_named c name None = Err InvalidReference
age_named c name (Some (DelayObject images)) =
    Ok (
      Empty,
      Some
          (with_objects c
          (with_object c.objects (record { name = name; slot = None })
          (DelayObject (aged_images images)))),
    )
age_named c name (Some other) = Err InvalidType

-- AgeDelay: each image moves to the next slot, and the image in the last slot to slot 0
abbrev pub age_delay : Context → ℕ → Outcome
age_delay c name = age_named c name (object_named c.objects name)

-- the graph with the delay registered, or the refusal; names are checked before kinds
abbrev pub register_named : Context → ℕ → ℕ → Option ObjectValue → Option ObjectValue → Outcome
register_named c graph delay (Some (GraphObject found)) (Some (DelayObject images)) =
    Ok (Empty, Some (with_objects c (with_registration c.objects graph found delay)))
register_named c graph delay (Some first) (Some second) = Err InvalidType
register_named c graph delay first second = Err InvalidReference

-- RegisterAutoAging: the delay ages after each run of the graph
abbrev pub register_auto_aging : Context → ℕ → ℕ → Outcome
register_auto_aging c graph delay =
    register_named c graph delay (object_named c.objects graph) (object_named c.objects delay)
