-- How many blocks the objects occupy after a graph has changed.
use Rattle.std.proofs.Common.{◌≡◌, ℕ, ◌==◌, ◌≤◌, Bool, true, false, if◌then◌else◌, List, [], ◌∷◌, Result, Ok, Err, sym, subst, arith, OnOk, OnErr}
use Rattle.std.proofs.lemmas.List.Sums.{sum_by-cons}
use Rattle.vx_base.specs.declared.format.Format.{Format}
use Rattle.vx_base.specs.Graph.{GraphValue}
use Rattle.vx_base.specs.Object.{GraphObject}
use Rattle.pixel_pool.specs.declared.pool.Pool.{Pool}
use Rattle.object_table.specs.Blocks.{LendsAtLeast, blocks_in, object_blocks}
use Rattle.object_table.specs.Context.{Context, with_objects, with_graph}
use Rattle.object_table.specs.NamedObject.{NamedObject}

module _ (format : Format) where
  abbrev weight : NamedObject → ℕ
  weight o = object_blocks o.object format

  -- the one that a graph replaces, or another one
  one : (o : NamedObject) (graph : GraphValue) (same : Bool)
      → weight (if same then record o { object = GraphObject graph } else o) ≤ weight o
  one o graph true = omega arith
  one o graph false = omega arith

  -- replacing an object by a graph does not raise the number of blocks that the objects occupy
  pub with_graph-blocks : (objects : List NamedObject) (name : ℕ) (graph : GraphValue)
      → blocks_in (with_graph objects name graph) format ≤ blocks_in objects format
  with_graph-blocks [] name graph = omega arith
  with_graph-blocks (o ∷ objects) name graph =
      grind (
        arith,
        one o graph (o.name == name),
        with_graph-blocks objects name graph,
        sum_by-cons weight o objects,
        sum_by-cons weight
            (if o.name == name then record o { object = GraphObject graph } else o)
            (with_graph objects name graph),
      )

-- a node is added to a graph, or isn't: what is lent is enough as before
pub enough_with_node :
    {A E : Type 0} (result : Result A E) (old new : Context) (name : ℕ) (graph : GraphValue)
    (pool : Pool)
    → OnOk result (new ≡ with_objects old (with_graph old.objects name graph))
    → OnErr result (new ≡ old)
    → LendsAtLeast pool (blocks_in old.objects) → LendsAtLeast pool (blocks_in new.objects)
enough_with_node (Ok a) old new name graph pool ok err enough =
    subst (λ (c : Context). LendsAtLeast pool (blocks_in c.objects)) (sym ok)
    (λ format. omega (arith, enough format, with_graph-blocks format old.objects name graph))
enough_with_node (Err e) old new name graph pool ok err enough =
    subst (λ (c : Context). LendsAtLeast pool (blocks_in c.objects)) (sym err) enough
