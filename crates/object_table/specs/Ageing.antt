-- Delays that age with graphs. OpenVX 1.3, "Object: Delay", vxRegisterAutoAging.
use Rattle.std.specs.Prelude.{ℕ, Bool, ◌==◌, is_some, if◌then◌else◌, List, [], ◌∷◌, ◌++◌, map, filter}
use Rattle.std.specs.List.{list_any}
use Rattle.vx_base.specs.Graph.{GraphValue, is_registered, with_delays}
use Rattle.object_table.specs.Context.{with_graph}
use Rattle.object_table.specs.NamedObject.{NamedObject, object_held}
use Rattle.object_table.specs.Object.{aged_object}

-- whether an object is held under a name
abbrev pub is_there : List NamedObject → ℕ → Bool
is_there objects name = is_some (object_held objects name)

-- the graph with one more registered delay, and without those that are no longer held
abbrev pub one_more : List NamedObject → GraphValue → ℕ → GraphValue
one_more objects graph delay =
    with_delays graph (filter (is_there objects) graph.delays ++ delay ∷ [])

-- the objects after a delay is registered with the graph of this name; nothing changes if the delay
-- is registered already
abbrev pub with_registration : List NamedObject → ℕ → GraphValue → ℕ → List NamedObject
with_registration objects name graph delay =
    if is_registered graph delay then objects else with_graph objects name
    (one_more objects graph delay)

-- an object, aged if its name is in the list; only delays age
abbrev pub aged_if : List ℕ → NamedObject → NamedObject
aged_if names o =
    if list_any (λ name. name == o.name) names then record o { object = aged_object o.object }
    else o

-- the objects after each delay of these names is aged
abbrev pub aged_under : List ℕ → List NamedObject → List NamedObject
aged_under names objects = map (aged_if names) objects
