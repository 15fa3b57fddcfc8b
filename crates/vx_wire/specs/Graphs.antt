-- The bodies of requests on graphs.
use Rattle.std.specs.Prelude.{ℕ, List, Result}
use Rattle.client_model.specs.declared.request.Request.{Request}
use Rattle.client_model.specs.declared.request.Request.TheVariants.{CreateGraph, CreateVirtualImage, AddNode, RemoveNode, VerifyGraph, ProcessGraph}
use Rattle.vx_wire.specs.declared.body_fault.BodyFault.{BodyFault}
use Rattle.vx_wire.specs.Fields.{at_end, one_field, two_fields, take_long}
use Rattle.vx_wire.specs.Node.{take_node}
use Rattle.vx_wire.specs.PartialDescription.{take_partial_desc}

-- the request CreateGraph, which only an empty body encodes
abbrev pub create_graph_in : List ℕ → Result Request BodyFault
create_graph_in body = at_end CreateGraph body

-- the request CreateVirtualImage that a body encodes: a graph's name, then a partial description
abbrev pub create_virtual_image_in : List ℕ → Result Request BodyFault
create_virtual_image_in body = two_fields take_long take_partial_desc CreateVirtualImage body

-- the request AddNode that a body encodes: a graph's name, then a node
abbrev pub add_node_in : List ℕ → Result Request BodyFault
add_node_in body = two_fields take_long take_node AddNode body

-- the request RemoveNode that a body encodes: a graph's name, then a node's number
abbrev pub remove_node_in : List ℕ → Result Request BodyFault
remove_node_in body = two_fields take_long take_long RemoveNode body

-- the request VerifyGraph that a body encodes: a graph's name
abbrev pub verify_graph_in : List ℕ → Result Request BodyFault
verify_graph_in body = one_field take_long VerifyGraph body

-- the request ProcessGraph that a body encodes: a graph's name
abbrev pub process_graph_in : List ℕ → Result Request BodyFault
process_graph_in body = one_field take_long ProcessGraph body
