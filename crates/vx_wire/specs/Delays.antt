-- The bodies of requests on delays.
use Rattle.std.specs.Prelude.{ℕ, List, Result}
use Rattle.client_model.specs.declared.request.Request.{Request}
use Rattle.client_model.specs.declared.request.Request.TheVariants.{CreateDelay, AgeDelay, RegisterAutoAging}
use Rattle.vx_wire.specs.declared.body_fault.BodyFault.{BodyFault}
use Rattle.vx_wire.specs.Fields.{one_field, two_fields, take_long}
use Rattle.vx_wire.specs.Reference.{take_reference}
use Rattle.vx_wire.specs.Slots.{take_slots}

-- the request CreateDelay that a body encodes: a reference to an exemplar image, then the number of
-- slots
abbrev pub create_delay_in : List ℕ → Result Request BodyFault
create_delay_in body = two_fields take_reference take_slots CreateDelay body

-- the request AgeDelay that a body encodes: a delay's name
abbrev pub age_delay_in : List ℕ → Result Request BodyFault
age_delay_in body = one_field take_long AgeDelay body

-- the request RegisterAutoAging that a body encodes: a graph's name, then a delay's name
abbrev pub register_auto_aging_in : List ℕ → Result Request BodyFault
register_auto_aging_in body = two_fields take_long take_long RegisterAutoAging body
