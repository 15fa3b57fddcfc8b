-- The names that several proofs cite, passed on from one place. Declares nothing.
pub use Rattle.buffer_plan.specs.Lives.{AreLives, IsLife, is_in, is_live, is_node_operand}
pub use Rattle.buffer_plan.specs.Placed.{AllApart, IsReached, AreRising, count_in, slot_capacity}
pub use Rattle.buffer_plan.specs.Places.{places_in, plan_view}
pub use Rattle.buffer_plan.specs.Plan.{IsPlan, PlanView}
pub use Rattle.buffer_plan.specs.Slots.{IsValid, maximum_of, live_images, of_format}
pub use Rattle.buffer_plan.specs.declared.lives.Life.{Life}
pub use Rattle.buffer_plan.specs.declared.plan.Plan.{Plan}
pub use Rattle.buffer_plan.specs.declared.slots.Placed.{Placed}
pub use Rattle.graph_verify.proofs.LinkLemmas.{same-from_In, same_cell-is, same_cell-true}
pub use Rattle.graph_verify.proofs.MemberLemmas.{
  In-at,
  In-filter,
  In-from_any,
  In-from_filter,
  In-from_flat_map,
  In-from_map,
  In-map,
  any-from_In,
}
pub use Rattle.graph_verify.specs.Links.{has_twice, is_written, reads, writes}
pub use Rattle.graph_verify.specs.Members.{In}
pub use Rattle.graph_verify.specs.declared.known.VirtualOutput.{VirtualOutput}
pub use Rattle.std.proofs.lemmas.Bool.{
  and_from,
  cases_Bool,
  cases_eq,
  false_from_ne_true,
  or_left,
  or_parts,
  or_right,
}
pub use Rattle.std.proofs.lemmas.Bool.Decides.{nat_tests}
pub use Rattle.std.proofs.lemmas.Grind.{common_steps}
pub use Rattle.std.proofs.lemmas.List.{map-append, take_more}
pub use Rattle.std.proofs.lemmas.List.Elements.{filter-append}
pub use Rattle.std.specs.List.{filter, flat_map, list_any, position_or_len}
pub use Rattle.vx_base.specs.Reference.{Reference, same_reference}
pub use Rattle.vx_base.specs.Description.{sample_count}
pub use Rattle.vx_base.specs.Node.{outputs}
pub use Rattle.vx_base.specs.Sample.{same_format}
pub use Rattle.vx_base.specs.declared.format.Format.{Format}
pub use Rattle.vx_base.specs.declared.format.Format.TheVariants.{S16, U32, U8}
pub use Rattle.vx_base.specs.declared.node.Node.{Node}
