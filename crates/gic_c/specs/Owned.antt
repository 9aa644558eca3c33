-- What a handle owns.
use base.Fml.{Fml, ftrue}
use denote.RawPtr.{Ptr}
use Rattle.std.specs.Prelude.{Option, Some, None}
use Rattle.std.specs.Box.Ownership.{box_owns}
use Rattle.std.specs.declared.alloc.Global.{Global}
use Rattle.std.specs.contracts.impls.GlobalAllocator.TheImpl.{ghosts}
use Rattle.gic_c.specs.declared.board.Board.{Board}
use Rattle.gic_c.specs.contracts.board.Board.{the_row}

-- a machine at this place, with the right to free its block, or nothing
abbrev pub owned : Global → Ptr → Option Board → Fml
owned alloc at None = ftrue
owned alloc at (Some board) = box_owns (ghosts.dealloc_token alloc) the_row at board
