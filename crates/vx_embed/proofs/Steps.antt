-- The names that the walks cite.
pub use Rattle.std.proofs.Common.{
  ◌≡◌,
  ℕ,
  ◌≤◌,
  Bool,
  true,
  false,
  List,
  [],
  ◌∷◌,
  ◌++◌,
  refl,
  sym,
  ap,
  ◌∙◌,
  subst,
  lit<,
  arith,
}
pub use Rattle.std.proofs.raw_atomic.Walks.{proved, proved_at, leaves}
pub use base.Fraction.{full_share}
pub use base.Logic.{SProp, ent, id⊢}
pub use base.Fml.{Fml, ftrue, fat, flft, fres}
pub use mir.Syntax.{named}
pub use mir.Val.{Val, vunit, vbool, vptr, vstruct, vcons, vnil}
pub use contract.Monad.{fact}
pub use contract.Running.{tables}
pub use prog.Wp.{WpFn}
pub use types.Kit.{
  ‵,
  raw,
  ◌⊛◌,
  some,
  later,
  prop,
  at_ret,
  ◌$◌,
  ◌∵◌,
  !,
  qed,
  by,
  done,
  move,
  keep,
  drop,
  use1,
  use2,
  use3,
  split,
  join,
  fsplit,
  fsplit3,
  fjoin,
  fpack,
  fpick,
  feq_i,
  feq_l,
  pick,
  await,
  rewrite,
  regoal,
  suffices,
  frame,
  group,
  step,
  Step,
  Goal,
  Item,
  Seq,
}
pub use types.Run.{
  enter,
  of_opd,
  lit,
  unit_lit,
  true_lit,
  false_lit,
  addr,
  load,
  look,
  stop,
  fld,
  hop,
  no_more,
  and_then,
  first,
  blocks,
  exec,
  returns,
}
pub use types.ByLocal.{
  alloc_all,
  pass_all,
  free_all,
  look_at,
  get,
  get_in,
  through,
  sets,
  lands_as,
  lands_last,
  env,
}
pub use types.Part.{agg, whole, sub, look_in}
pub use types.Logic.{Logic}
pub use denote.Builtin.{bool, unit}
pub use denote.Exit.{yes, no}
pub use denote.Laws.{shows}
pub use denote.RattleType.{Valss, owns}
pub use denote.Plain.{bool_Makes, bool_vals, bool_Tells, Boolean}
pub use denote.RawPtr.{Ptr, RawPtr, block_ptr, null_ptr, ptr_val}
pub use denote.Ref.{MutRef, mut_vals, mut_Tells}
pub use denote.Signature.{plain}
pub use denote.Struct.Owning.{shape}
pub use denote.Struct.Struct.{within}
pub use denote.Steps.{nothing, owned, opens, closes, peeks, heard, only}
pub use denote.Triple.Call.{calls_at}
pub use denote.Triple.Entry.{on_entry}
pub use denote.Triple.Walked.{
  Stays,
  walk_of,
  says,
  stay_dropped,
  Goes-dropped,
  stay_ref,
  Goes-ref,
  ends_at,
}
pub use Rattle.vx_embed.specs.contracts.handle.Handle.{the_row as H, the_type as H-type}
pub use Rattle.vx_embed.proofs.handle.Handle.TheLaws.{lowers, lowered as word, the_field_loose}
pub use denote.RawPtr.{rawptr_Lawful}
pub use denote.Signature.{types_at}
pub use Rattle.connections.specs.contracts.table.Connections.{the_row as S}
pub use Rattle.std.specs.contracts.alloc.Global.{the_row as Heap}
pub use Rattle.std.proofs.alloc.Global.TheLaws.{the_row_laws as Heap-laws}
pub use Rattle.std.specs.contracts.impls.GlobalAllocator.TheImpl.{ghosts as Heap-ghosts}
pub use Rattle.loose.specs.contracts.Loose.{the_row as Loose-row}
pub use Rattle.loose.proofs.Values.{both, loose_good, loose_out, loose_in}
pub use base.Logic.{never, fst∗}
pub use types.Logic.{sem}
pub use mir.Raw.{raw as bare}
pub use denote.Memory.{lone}
pub use denote.RawPtr.{in_a_block}
pub use Rattle.vx_embed.specs.Ownership.{heap}
pub use Rattle.std.specs.Box.Ownership.{box_owns}
