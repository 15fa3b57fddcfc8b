-- The links between the nodes of a graph, by the objects that they read and write, whatever the
-- order in which nodes were added. OpenVX 1.3, "Graphs".
use Rattle.std.specs.Prelude.{Bool, false, ◌||◌, List, [], ◌∷◌}
use Rattle.std.specs.List.{list_any}
use Rattle.vx_base.specs.declared.node.Node.{Node}
use Rattle.vx_base.specs.Reference.{Reference, same_reference}
use Rattle.vx_base.specs.Node.{inputs, outputs}

-- whether a node reads an object
abbrev pub reads : Node → Reference → Bool
reads n cell = list_any (same_reference cell) (inputs n)

-- whether a node writes an object
abbrev pub writes : Node → Reference → Bool
writes n cell = list_any (same_reference cell) (outputs n)

-- whether node m writes an object that node n reads
abbrev pub feeds : Node → Node → Bool
feeds m n = list_any (reads n) (outputs m)

-- whether any reference occurs twice in the list
abbrev pub has_twice : List Reference → Bool
has_twice [] = false
has_twice (cell ∷ cells) = list_any (same_reference cell) cells || has_twice cells

-- whether an object is written by any node of the list
abbrev pub is_written : List Node → Reference → Bool
is_written nodes cell = list_any (λ n. writes n cell) nodes
