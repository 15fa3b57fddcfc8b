-- The bodies of requests on distributions and extremes.
use Rattle.std.specs.Prelude.{ℕ, List, Result}
use Rattle.client_model.specs.declared.request.Request.{Request}
use Rattle.client_model.specs.declared.request.Request.TheVariants.{CreateDistribution, ReadDistribution, CreateMinMax, ReadMinMax}
use Rattle.vx_wire.specs.declared.body_fault.BodyFault.{BodyFault}
use Rattle.vx_wire.specs.Fields.{at_end, one_field, take_long}
use Rattle.vx_wire.specs.Bins.{take_bins}

-- the request CreateDistribution that a body encodes: the number of bins, the offset, the range
abbrev pub create_distribution_in : List ℕ → Result Request BodyFault
create_distribution_in body = one_field take_bins CreateDistribution body

-- the request ReadDistribution that a body encodes: a distribution's name
abbrev pub read_distribution_in : List ℕ → Result Request BodyFault
read_distribution_in body = one_field take_long ReadDistribution body

-- the request CreateMinMax, which only an empty body encodes
abbrev pub create_min_max_in : List ℕ → Result Request BodyFault
create_min_max_in body = at_end CreateMinMax body

-- the request ReadMinMax that a body encodes: the name of an object for extremes
abbrev pub read_min_max_in : List ℕ → Result Request BodyFault
read_min_max_in body = one_field take_long ReadMinMax body
