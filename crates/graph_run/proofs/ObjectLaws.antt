-- The parts of objects that nodes don't change: kinds, formats and bins.
use Rattle.std.proofs.Common.{arith, ◌≡◌, Bool, true, false, [], Option}
use Rattle.graph_run.proofs.Common.{Node, Output, ObjectValue, DelayObject, node_output, form_of}

-- ---- a delay as a whole

abbrev pub is_delay : ObjectValue → Bool
is_delay (DelayObject images) = true
is_delay other = false

-- the value of an object as a whole: a delay's images are left out, since each has a reference of
-- its own
abbrev pub shown : ObjectValue → ObjectValue
shown (DelayObject images) = DelayObject []
shown other = other

-- ---- the results of a node

-- an output keeps its form
pub form-node_output :
    (n : Node) (output : Output) (first : ObjectValue) (second : Option ObjectValue)
    (out : ObjectValue)
    → form_of (node_output n output first second out) ≡ form_of out
form-node_output n output first second other = grind arith
