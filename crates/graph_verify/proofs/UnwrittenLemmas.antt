-- Virtual images that are read but not written, or accumulated into.
use Rattle.std.proofs.Common.{◌≡◌, zero, suc, List, [], ◌∷◌, refl, arith, Option, ◌||◌}
use Rattle.graph_verify.proofs.Common.{option_map, list_any, list_any-append, Node, Reference, optional_cells, inputs, Linked, Operand, linked_nodes, AreOperands, reads_unwritten_virtual, has_virtual_sum, operands_of, is_virtual, is_unwritten_image}
use Rattle.graph_verify.specs.Linked.{given_unwritten, is_given_virtual}
use Rattle.graph_verify.specs.Verdict.{reads_unwritten, adds_to_virtual}

module _ (is : Reference → Operand) (all : List Node) where
  given_unwritten_is : (cell : Option Reference)
      → given_unwritten all cell (option_map is cell)
      ≡ list_any (is_unwritten_image is all) (optional_cells cell)
  given_unwritten_is cell = grind arith

  unwritten_input_of : (l : Linked)
      → l.operands ≡ operands_of is l.node
      → reads_unwritten_virtual all l ≡ list_any (is_unwritten_image is all) (inputs l.node)
  unwritten_input_of l operands = grind (arith, given_unwritten_is l.node.in2)

  given_virtual : (cell : Option Reference)
      → is_given_virtual (option_map is cell)
      ≡ list_any (λ c. is_virtual (is c)) (optional_cells cell)
  given_virtual cell = grind arith

  virtual_sum : (l : Linked)
      → l.operands ≡ operands_of is l.node
      → has_virtual_sum l ≡ adds_to_virtual is l.node
  virtual_sum l operands =
      grind (
        arith,
        given_virtual l.node.out1,
        given_virtual l.node.out2,
        list_any-append (λ c. is_virtual (is c)) (optional_cells l.node.out1)
            (optional_cells l.node.out2),
      )

  -- whether a node needs the content of an unwritten virtual image, from the nodes with their
  -- operands
  pub unwritten_input-linked : (nodes : List Linked) → AreOperands is nodes
      → list_any (λ l. reads_unwritten_virtual all l || has_virtual_sum l) nodes
      ≡ list_any (λ n. reads_unwritten is all n || adds_to_virtual is n) (linked_nodes nodes)
  unwritten_input-linked [] operands = refl
  unwritten_input-linked (l ∷ nodes) operands =
      grind (
        arith,
        unwritten_input-linked nodes (λ k d within. operands (suc k) d (omega (arith, within))),
        unwritten_input_of l (operands zero l (omega arith)),
        virtual_sum l (operands zero l (omega arith)),
      )
