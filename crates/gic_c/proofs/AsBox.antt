-- A box of a board, and what has its pointer, at the same types.
use mathlib.Core.List.{[]}
use mir.Syntax.{impl, tnil, dnil}
use denote.Signature.{Slot, plain}
use Rattle.std.proofs.BoxSteps.Form.{Bx}
use Rattle.std.specs.contracts.alloc.Global as Heap
use Rattle.std.specs.contracts.impls.GlobalAllocator.TheImpl.{ghosts, dict}
use Rattle.std.proofs.alloc.Global.TheLaws as heap
use Rattle.std.proofs.Common.{◌≡◌, Option, Some, None, IsSome, refl}
use Rattle.gic_c.specs.declared.board.Board.{Board}
use Rattle.gic_c.specs.contracts.board.Board as board
use Rattle.gic_c.proofs.board.Board.TheLaws as laws
use Rattle.gic_c.specs.contracts.loose.Loose as Loose
use Rattle.gic_c.specs.contracts.slot.RvSlot as slot

abbrev pub E : Bx
E = record { row = board.the_row; laws = laws.the_row_laws; al = record { row = Heap.the_row; laws = heap.the_row_laws; g = ghosts; d = dict; drops = impl [] tnil dnil } }

abbrev pub FromLoose : Slot 0
FromLoose = plain (λ _. Loose.the_row board.the_row Heap.the_row ghosts)

abbrev pub FromSlot : Slot 0
FromSlot = plain (λ _. slot.the_row)

-- a slot that has something has this
pub held_in : (held : Option Board) → IsSome held → (board : Board) × (held ≡ Some board)
held_in None some = absurd (cc some)
held_in (Some board) some = (board, refl)
