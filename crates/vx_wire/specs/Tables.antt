-- The bodies of requests on lookup tables, thresholds and convolutions.
use Rattle.std.specs.Prelude.{ℕ, List, Result}
use Rattle.client_model.specs.declared.request.Request.{Request}
use Rattle.client_model.specs.declared.request.Request.TheVariants.{CreateLut, CreateThreshold, CreateConvolution}
use Rattle.vx_wire.specs.declared.body_fault.BodyFault.{BodyFault}
use Rattle.vx_wire.specs.Fields.{one_field}
use Rattle.vx_wire.specs.Lut.{take_lut}
use Rattle.vx_wire.specs.Threshold.{take_threshold}
use Rattle.vx_wire.specs.Convolution.{take_convolution}

-- the request CreateLut that a body encodes: the format, then the entries
abbrev pub create_lut_in : List ℕ → Result Request BodyFault
create_lut_in body = one_field take_lut CreateLut body

-- the request CreateThreshold that a body encodes: the kind, the format, the limits, the true
-- value, the false value
abbrev pub create_threshold_in : List ℕ → Result Request BodyFault
create_threshold_in body = one_field take_threshold CreateThreshold body

-- the request CreateConvolution that a body encodes: the numbers of columns and rows, the
-- exponent, the coefficients
abbrev pub create_convolution_in : List ℕ → Result Request BodyFault
create_convolution_in body = one_field take_convolution CreateConvolution body
