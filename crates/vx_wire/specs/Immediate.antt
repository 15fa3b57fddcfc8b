-- The body of Immediate, which runs a single node.
use Rattle.std.specs.Prelude.{ℕ, List, Result}
use Rattle.client_model.specs.declared.request.Request.{Request}
use Rattle.client_model.specs.declared.request.Request.TheVariants.{Immediate}
use Rattle.vx_wire.specs.declared.body_fault.BodyFault.{BodyFault}
use Rattle.vx_wire.specs.Fields.{one_field}
use Rattle.vx_wire.specs.Node.{take_node}

-- the request Immediate that a body encodes: a node
abbrev pub immediate_in : List ℕ → Result Request BodyFault
immediate_in body = one_field take_node Immediate body
