-- Requests on distributions and extremes. OpenVX 1.3, "Object: Distribution" and "Min, Max
-- Location".
use Rattle.std.specs.Prelude.{ℕ, Option, Some, None, Ok, Err}
use Rattle.vx_base.specs.Object.{ObjectValue, DistributionObject, ExtremesObject}
use Rattle.client_model.specs.declared.refusal.Refusal.TheVariants.{InvalidReference, InvalidType}
use Rattle.client_model.specs.declared.reply.Reply.TheVariants.{Counts, Extremes}
use Rattle.object_table.specs.Context.{Context, object_named}
use Rattle.client_model.specs.Refusal.{Outcome}

-- the counts of an object that is a distribution, or the refusal
abbrev pub counts_of : Context → Option ObjectValue → Outcome
counts_of c None = Err InvalidReference
counts_of c (Some (DistributionObject distribution)) = Ok (Counts distribution.counts, Some c)
counts_of c (Some other) = Err InvalidType

-- ReadDistribution: the number of samples in each bin
abbrev pub read_distribution : Context → ℕ → Outcome
read_distribution c name = counts_of c (object_named c.objects name)

-- an object as extremes, or the refusal
abbrev pub min_max_of : Context → Option ObjectValue → Outcome
min_max_of c None = Err InvalidReference
min_max_of c (Some (ExtremesObject extremes)) = Ok (Extremes extremes, Some c)
min_max_of c (Some other) = Err InvalidType

-- ReadMinMax: the least and the greatest sample, the count of each, and the first pixel with each
abbrev pub read_min_max : Context → ℕ → Outcome
read_min_max c name = min_max_of c (object_named c.objects name)
