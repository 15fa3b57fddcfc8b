-- The objects that a run reads as tables (lookup tables, thresholds and matrices), and the objects
-- to which it writes tallies.
use Rattle.std.specs.Prelude.{◌≡◌, ⊤, Bool, true, false, List, [], ◌∷◌, length, All, IfSome, unwrap_or}
use Rattle.vx_base.specs.declared.kind.Kind.{Kind}
use Rattle.vx_base.specs.declared.kind.Kind.TheVariants as kind
use Rattle.vx_base.specs.declared.node.Node.{Node}
use Rattle.vx_base.specs.Reference.{Reference}
use Rattle.vx_base.specs.Function.{parameters}
use Rattle.vx_base.specs.Object.{object_kind}
use Rattle.object_table.specs.NamedObject.{NamedObject}
use Rattle.object_table.specs.Object.{distribution_value}
use Rattle.object_table.specs.Table.{cell_object}
use Rattle.graph_steps.specs.declared.tally.Tally.{Tally}
use Rattle.graph_steps.specs.declared.tally.Tally.TheVariants as tally
use Rattle.graph_run.specs.Program.{node_table}
use Rattle.graph_run.specs.Turns.{HoldsKind}

-- ---- tables

-- whether nodes read objects of this kind as tables; true for lookup tables, thresholds and
-- matrices
abbrev pub is_lent : Kind → Bool
is_lent kind.Lut = true
is_lent kind.Threshold = true
is_lent kind.Convolution = true
is_lent other = false

-- objects of this kind are read as tables
abbrev pub IsLent : Kind → Type 0
IsLent k = is_lent k ≡ true

-- the second input of each node can be read as a table, unless it is an image
abbrev pub LendTables : List NamedObject → List Node → Type 0
LendTables objects nodes =
    All (λ n. IfSome (node_table objects n) (λ object. IsLent (object_kind object))) nodes

-- ---- tallies

-- the kind is Image, which takes no tally; or it is Distribution or Extremes, and the reference
-- names an object of this kind
abbrev pub KeepsTally : List NamedObject → Kind → Reference → Type 0
KeepsTally objects kind.Image cell = ⊤
KeepsTally objects kind.Distribution cell = HoldsKind objects (cell, kind.Distribution)
KeepsTally objects kind.Extremes cell = HoldsKind objects (cell, kind.Extremes)
KeepsTally objects other cell = ⊥

-- each node's output is an image, or can take the node's tally
abbrev pub KeepTallies : List NamedObject → List Node → Type 0
KeepTallies objects nodes =
    All (λ n. KeepsTally objects (parameters n.function).output (unwrap_or n.out1 n.in1)) nodes

-- the tally fits the object that a reference names
abbrev pub IsTallyFor : List NamedObject → Reference → Tally → Type 0
IsTallyFor objects cell (tally.Histogram d) =
    HoldsKind objects (cell, kind.Distribution)
    × (d.bins ≡ (distribution_value (cell_object objects cell)).bins)
    × (length d.counts ≡ d.bins.bins)
IsTallyFor objects cell (tally.Extremes e) = HoldsKind objects (cell, kind.Extremes)

-- there is a fitting tally for each reference
abbrev pub AreTalliesFor : List NamedObject → List Reference → List Tally → Type 0
AreTalliesFor objects [] tallies = ⊤
AreTalliesFor objects (c ∷ cells) [] = ⊥
AreTalliesFor objects (c ∷ cells) (t ∷ tallies) =
    IsTallyFor objects c t × AreTalliesFor objects cells tallies
