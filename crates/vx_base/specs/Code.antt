-- Status codes of requests: OpenVX's vx_status_e, with numbers of this project.
use Rattle.std.specs.Prelude.{ℕ, List, codes}
use Rattle.vx_base.specs.declared.code.Code.{Code}
use Rattle.vx_base.specs.declared.code.Code.TheVariants.{Success, NoMemory, InvalidParameters, InvalidReference, InvalidScope, InvalidFormat, InvalidDimension, InvalidValue, InvalidType, InvalidGraph, InvalidLink, MultipleWriters, OptimizedAway, NoResources}

-- the code's number in a reply
abbrev pub code_number : Code → ℕ
code_number Success = 0
code_number NoMemory = 1
code_number InvalidParameters = 2
code_number InvalidReference = 3
code_number InvalidScope = 4
code_number InvalidFormat = 5
code_number InvalidDimension = 6
code_number InvalidValue = 7
code_number InvalidType = 8
code_number InvalidGraph = 9
code_number InvalidLink = 10
code_number MultipleWriters = 11
code_number OptimizedAway = 12
code_number NoResources = 13

-- the code's name in the standard, without VX_ or VX_ERROR_
abbrev pub code_name : Code → List ℕ
code_name Success = codes "SUCCESS"
code_name NoMemory = codes "NO_MEMORY"
code_name InvalidParameters = codes "INVALID_PARAMETERS"
code_name InvalidReference = codes "INVALID_REFERENCE"
code_name InvalidScope = codes "INVALID_SCOPE"
code_name InvalidFormat = codes "INVALID_FORMAT"
code_name InvalidDimension = codes "INVALID_DIMENSION"
code_name InvalidValue = codes "INVALID_VALUE"
code_name InvalidType = codes "INVALID_TYPE"
code_name InvalidGraph = codes "INVALID_GRAPH"
code_name InvalidLink = codes "INVALID_LINK"
code_name MultipleWriters = codes "MULTIPLE_WRITERS"
code_name OptimizedAway = codes "OPTIMIZED_AWAY"
code_name NoResources = codes "NO_RESOURCES"
