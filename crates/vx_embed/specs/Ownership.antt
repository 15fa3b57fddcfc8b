-- What a handle owns.
use Rattle.std.specs.Prelude.{Bool, true, false}
use base.Fml.{Fml, ftrue}
use denote.RawPtr.{Ptr}
use Rattle.std.specs.declared.alloc.Global.{Global}
use Rattle.std.specs.contracts.impls.GlobalAllocator.TheImpl.{ghosts}
use Rattle.std.specs.Box.Ownership.{box_owns}
use Rattle.connections.specs.Connections.{ConnectionsValue}
use Rattle.connections.specs.contracts.table.Connections.{the_row}

-- the heap. There is one
abbrev pub heap : Global
heap = record { memory = record { seal = tt } }

-- a handle with a server owns the server in its block, and the right to free the block
abbrev pub handle_owns : Bool → Ptr → ConnectionsValue → Fml
handle_owns true at world = box_owns (ghosts.dealloc_token heap) the_row at world
handle_owns false at world = ftrue
