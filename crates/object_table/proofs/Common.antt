-- The names that several proofs cite, passed on from one place. Declares nothing.
pub use Rattle.graph_verify.proofs.VerifyLemmas.{sum_map}
pub use Rattle.object_table.specs.Ageing.{aged_under, is_there, aged_if, one_more}
pub use Rattle.object_table.specs.Blocks.{
  Balances,
  LendsAtLeast,
  blocks_in,
  delay_blocks,
  image_blocks,
  object_blocks,
  KeepsBlocks,
}
pub use Rattle.object_table.specs.Context.{
  Context,
  charge_of,
  object_named,
  with_objects,
  can_insert,
  with_new,
  with_graph,
}
pub use Rattle.object_table.specs.Delay.{
  HasImage,
  in_slot,
  new_delay,
  object_in,
  with_slot,
  slot_kind,
}
pub use Rattle.object_table.specs.Holds.{still_held, without_name, uses, is_used}
pub use Rattle.object_table.specs.NamedObject.{NamedObject, object_held, with_object, object_at}
pub use Rattle.object_table.specs.Object.{
  aged_object,
  graph_value,
  image_value,
  with_samples,
  with_counts,
}
pub use Rattle.object_table.specs.Skeleton.{image_skeleton, skeleton}
pub use Rattle.object_table.specs.Table.{
  IsTable,
  IsUnder,
  entries_without_name,
  graph_under,
  is_kept,
  kept_entries,
  entry_object,
  nodes_at,
  used_less,
  used_more,
  object_under,
  cell_object,
  image_held,
  HoldsImage,
}
pub use Rattle.object_table.specs.Uses.{names_used, names_used_by, nodes_in, name_count, used_names}
pub use Rattle.object_table.specs.declared.table.Entry.{Entry}
pub use Rattle.pixel_pool.specs.Pool.{lent_of}
pub use Rattle.std.proofs.lemmas.Bool.{
  and_parts,
  cases_Bool,
  cases_lt,
  eqb-false,
  false≢true,
  or_left,
  or_parts,
  or_from,
}
pub use Rattle.std.proofs.lemmas.Bool.Decides.{nat_tests}
pub use Rattle.std.proofs.lemmas.List.{
  get_or-map,
  length-map,
  map-append,
  get_or_default,
  length-replicate,
  take_more,
  flat_map_more,
}
pub use Rattle.std.proofs.lemmas.List.Elements.{
  All-cons,
  All-filter,
  All-head,
  All-map,
  All-nil,
  All-tail,
  All-weaker,
  filter_passes,
  All-replicate,
  All-push,
  All-append,
  All-take,
  All-drop,
  All-set,
}
pub use Rattle.std.proofs.lemmas.List.Folds.{
  list_any_more,
  list_any_none,
  flat_map-map,
  list_any-append,
}
pub use Rattle.std.proofs.lemmas.List.Kept.{
  AllPairs-from_increasing,
  AllPairs-filter,
  AllPairs-cons,
}
pub use Rattle.std.proofs.lemmas.List.Sums.{
  count_by-le-length,
  sum_by-append,
  sum_by-cons,
  sum_by-le,
  sum_by_push,
  sum-map,
  length-filter,
}
pub use Rattle.std.proofs.lemmas.Map.{keys-set_value, length-set_value, lookup-none}
pub use Rattle.std.proofs.lemmas.Map.Entries.{All-lookup, none_past_head}
pub use Rattle.std.proofs.lemmas.Map.Keys.{
  sorted_tail,
  sorted_from_strictly_increasing,
  IsDistinct-from_sorted,
  IsStrictlyIncreasing-from_sorted,
}
pub use Rattle.std.proofs.lemmas.Option.{
  get_or_from_slice_get,
  IfSome_then,
  slice_get-map,
  slice_get_past,
  slice_get_within,
  slice_get-get_or,
}
pub use Rattle.std.proofs.lemmas.Result.{err_from_is_err_and}
pub use Rattle.std.proofs.lemmas.Simd.{map-map}
pub use Rattle.std.specs.BTreeMap.{is_at, insert_entry}
pub use Rattle.std.specs.List.{AllPairs, flat_map, list_any}
pub use Rattle.std.specs.List.Sorted.{IsStrictlyIncreasing, IsStrictlySortedBy}
pub use Rattle.std.specs.Map.{keys_of, lookup, remove_entry, set_value}
pub use Rattle.std.specs.Option.{option_map, option_and_then}
pub use Rattle.std.specs.Ordering.{nat_cmp}
pub use Rattle.std.specs.Vec.Iter.{into_iter_items, into_iter_len}
pub use Rattle.vx_base.proofs.ImageLaws.{new_image_is}
pub use Rattle.vx_base.specs.Rectangle.{Rectangle, whole_rectangle}
pub use Rattle.vx_base.specs.Reference.{Reference, reference_to}
pub use Rattle.vx_base.specs.Description.{Description, IsDescription, byte_count, sample_count}
pub use Rattle.vx_base.specs.Graph.{
  GraphValue,
  can_add,
  with_delays,
  with_node,
  without_node,
  IsGraph,
  nodes_of,
  is_registered,
}
pub use Rattle.vx_base.specs.Image.{
  ImageValue,
  IsImage,
  description_of,
  image_over,
  new_image,
  with_valid,
}
pub use Rattle.vx_base.specs.Node.{optional_cells, operands}
pub use Rattle.vx_base.specs.Object.{
  DelayObject,
  GraphObject,
  ImageObject,
  IsDelay,
  IsObject,
  ObjectValue,
  image_bytes,
  object_bytes,
  object_kind,
  ExtremesObject,
}
pub use Rattle.vx_base.specs.Picture.{values, picture_image}
pub use Rattle.vx_base.specs.declared.desc.TheConstants.{GREATEST_BYTES}
pub use Rattle.vx_base.specs.declared.format.Format.{Format}
pub use Rattle.vx_base.specs.declared.kind.Kind.{Kind}
pub use Rattle.vx_base.specs.declared.node.Node.{Node}
pub use Rattle.vx_base.specs.declared.numbered.Numbered.{Numbered}
pub use Rattle.vx_base.specs.declared.slots.TheConstants.{GREATEST_SLOTS}
