-- The bodies of requests on objects of any kind.
use Rattle.std.specs.Prelude.{ℕ, List, Result}
use Rattle.client_model.specs.declared.request.Request.{Request}
use Rattle.client_model.specs.declared.request.Request.TheVariants.{Release}
use Rattle.vx_wire.specs.declared.body_fault.BodyFault.{BodyFault}
use Rattle.vx_wire.specs.Fields.{one_field, take_long}

-- the request Release that a body encodes: an object's name
abbrev pub release_in : List ℕ → Result Request BodyFault
release_in body = one_field take_long Release body
