-- The bodies of requests on contexts.
use Rattle.std.specs.Prelude.{ℕ, List, Result}
use Rattle.client_model.specs.declared.request.Request.{Request}
use Rattle.client_model.specs.declared.request.Request.TheVariants.{OpenContext, ReleaseContext}
use Rattle.vx_wire.specs.declared.body_fault.BodyFault.{BodyFault}
use Rattle.vx_wire.specs.Fields.{at_end}

-- the request OpenContext, which only an empty body encodes
abbrev pub open_context_in : List ℕ → Result Request BodyFault
open_context_in body = at_end OpenContext body

-- the request ReleaseContext, which only an empty body encodes
abbrev pub release_context_in : List ℕ → Result Request BodyFault
release_context_in body = at_end ReleaseContext body
