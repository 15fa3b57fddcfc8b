-- Rounds of a graph's nodes: each writes to outputs what they may become.
use Rattle.std.proofs.Common.{ℕ, zero, suc, List, refl, sym, subst, All}
use Rattle.client_laws.proofs.Common.{flat_map, IsStrictlyIncreasing, fun_ext, All-weaker, Node, IsObject, written_from, NamedObject, object_at, names_of, rounds_of_nodes, operand_in, CanRunOn}
use Rattle.object_table.specs.NamedObject.{with_written}
use Rattle.object_table.proofs.GraphLemmas.{All-flat_map}
use Rattle.graph_run.specs.Lasting.{Lasts}
use Rattle.graph_run.proofs.CellLemmas.{IsReplacement, Lasts-with_written}
use Rattle.graph_run.proofs.LastingLemmas.{Lasts-trans, Lasts-names}
use Rattle.client_model.proofs.NodeStepLaws.{operand_alike, written_from_fits}

-- rounds of nodes that can run leave objects of which as much lasts
pub rounds_last : (nodes : List Node) (k : ℕ) (objects : List NamedObject)
    → All (λ o. IsObject o.object) objects
    → IsStrictlyIncreasing (names_of objects)
    → All (CanRunOn (operand_in objects)) nodes
    → Lasts objects (rounds_of_nodes nodes k objects)
rounds_last nodes zero objects is names can = record { objects = is; lasting = refl }
rounds_last nodes (suc k) objects is names can =
    let before : List NamedObject = rounds_of_nodes nodes k objects in
    let kept = rounds_last nodes k objects is names can in
    let still : All (CanRunOn (operand_in before)) nodes =
    subst (λ look. All (CanRunOn look) nodes)
    (sym (fun_ext (operand_alike objects before kept.lasting))) can in
    let written = flat_map (λ n. written_from (object_at objects) n (object_at before)) nodes in
    Lasts-trans objects before (with_written before written) kept
    (Lasts-with_written before written (Lasts-names objects before kept names) kept.objects
    (All-flat_map (λ n. written_from (object_at objects) n (object_at before))
    (IsReplacement before) nodes
    (All-weaker (CanRunOn (operand_in before))
    (λ n. All (IsReplacement before) (written_from (object_at objects) n (object_at before)))
    (λ n runs. written_from_fits objects before n is kept.objects kept.lasting runs) nodes
    still)))
