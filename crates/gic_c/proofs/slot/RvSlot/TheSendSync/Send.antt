-- A slot may go to another thread, since a machine may, and its block may be freed there.
use mir.Raw.{raw}
use base.Fraction.{full_share}
use base.Shift.{Keyless}
use denote.Exit.{Exit, unchanged, leaves, hidden, under}
use denote.Memory.{lone}
use denote.RattleType.{RattleType}
use denote.RawPtr.{Ptr, block_ptr, null_ptr, lies_at}
use denote.Struct.Struct.{exits_of}
use denote.Struct.Owning.{shape, fields, to}
use denote.Param.Send.{IsSend, AllSend, Quiet, part_keyless, owning_send, struct_send, sendable}
use Rattle.std.specs.Prelude.{Option, Some, None}
use Rattle.std.specs.declared.alloc.Global.{Global}
use Rattle.std.proofs.Crossing as heap
use Rattle.std.proofs.alloc.Global.TheSendSync as handle
use Rattle.gic_c.specs.declared.board.Board.{Board}
use Rattle.gic_c.specs.contracts.board.Board as board
use Rattle.gic_c.proofs.board.Board.TheSendSync.{the_send as board-send}
use Rattle.gic_c.specs.Owned.{owned}
use Rattle.gic_c.specs.contracts.slot.RvSlot.{the_row, the_type}

-- a value at a place, of a type that may go to another thread
lies : (R : RattleType) → IsSend R → (p : Ptr) (x : R.Denot) → Keyless (lies_at R full_share p x)
lies R s (block_ptr b o) x = part_keyless R s full_share x b o
lies R s null_ptr x = tt

quiet : {D X : Type 0} (to : D → X) (e : Exit X) → Quiet e → Quiet (hidden (under to e))
quiet to unchanged q = λ x w. tt
quiet to (leaves L l S s r₀) q = λ d. q (to d)

owned_keyless : (alloc : Global) (at : Ptr) (held : Option Board) → Keyless (owned alloc at held)
owned_keyless alloc at None = tt
owned_keyless alloc at (Some it) = (lies board.the_row board-send at it, heap.frees.frees alloc (raw (lone board.the_row.mir)) at)

pub send : IsSend the_row
send =
    let all : AllSend (fields the_type) = (search sendable, (handle.the_field_send, tt)) in
    owning_send the_type all (λ d. owned_keyless d.alloc d.at d.value)
    (λ k. quiet (to the_type) (exits_of k (fields the_type)) ((struct_send (shape the_type) all).leaving k))
