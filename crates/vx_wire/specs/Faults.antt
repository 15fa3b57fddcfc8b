-- The faults of parsing a body, and the codes of their replies.
use Rattle.std.specs.Prelude.{◌≡◌, Result, Ok, Err}
use Rattle.vx_base.specs.declared.code.Code.{Code}
use Rattle.vx_base.specs.declared.code.Code.TheVariants as codes
use Rattle.client_model.specs.declared.request.Request.{Request}
use Rattle.vx_wire.specs.declared.body_fault.BodyFault.{BodyFault}
use Rattle.vx_wire.specs.declared.body_fault.BodyFault.TheVariants.{InvalidParameters, InvalidFormat, InvalidDimension, InvalidValue}
use Rattle.vx_wire.specs.declared.parse_fault.ParseFault.{ParseFault}
use Rattle.vx_wire.specs.declared.parse_fault.ParseFault.TheVariants as parsing
use Rattle.vx_wire.specs.Requests.{HoldsSamples}

-- the fault that parsing returns for a fault of the body
abbrev pub parse_fault : BodyFault → ParseFault
parse_fault InvalidParameters = parsing.InvalidParameters
parse_fault InvalidFormat = parsing.InvalidFormat
parse_fault InvalidDimension = parsing.InvalidDimension
parse_fault InvalidValue = parsing.InvalidValue

-- Why parsing failed. For a valid body: no memory for its samples, entries or text. For an invalid
-- body: its fault.
abbrev pub MayFailWith : Result Request BodyFault → ParseFault → Type 0
MayFailWith (Ok request) e = (e ≡ parsing.NoMemory) × HoldsSamples request
MayFailWith (Err fault) e = e ≡ parse_fault fault

-- the status code of the reply to a body that could not be parsed
abbrev pub fault_code : ParseFault → Code
fault_code parsing.NoMemory = codes.NoMemory
fault_code parsing.InvalidParameters = codes.InvalidParameters
fault_code parsing.InvalidFormat = codes.InvalidFormat
fault_code parsing.InvalidDimension = codes.InvalidDimension
fault_code parsing.InvalidValue = codes.InvalidValue
