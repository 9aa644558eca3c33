-- What a call wants of the guest's memory, and how it is handed in.
use Rattle.std.specs.Prelude.{ℕ, ◌==◌, Bool, false, List, length, if◌then◌else◌, Option, option_and_then, ℤ, pos}
use Rattle.std.specs.Option.{option_map_or}
use Rattle.vm_saved.specs.GicVm.Mmio.{access_at}
use Rattle.vm_saved.specs.GicVm.State.{MachineState}
use Rattle.vm_saved.specs.GicVm.Wants.{wants_of}
use Rattle.vm_saved.specs.GicVm.GuestMemory.Wants.{spans_in}
use Rattle.vm_saved.specs.GicVm.GuestMemory.declared.access.Access.{Access}
use Rattle.vm_saved.specs.GicVm.GuestMemory.declared.wants.Span.{Span}
use Rattle.gic_c.specs.declared.answer.Refusal.TheVariants.{Invalid}
use Rattle.gic_c.specs.declared.board.Board.{Board}
use Rattle.gic_c.specs.declared.feed.Call.{Call}
use Rattle.gic_c.specs.Answer.{errno_of}
use Rattle.gic_c.specs.Feed.{next_of, fed_with}

-- the access that a call is, if it is one of a register
abbrev pub access_of : MachineState → Call → Option Access
access_of machine call = access_at machine call.vcpu call.address call.size call.write

-- the ranges that it wants: what `wants` of the machine tells
abbrev pub wanted : MachineState → Call → List Span
wanted machine call = spans_in (wants_of machine (access_of machine call))

-- the range that it asks for next, where these bytes were fed
abbrev pub next_for : MachineState → Call → List ℕ → Option Span
next_for machine call bytes = next_of (wanted machine call) (length bytes)

-- the range that the last call asked for
abbrev pub awaited : Board → Option Span
awaited board = option_and_then (λ call. next_for board.machine call board.feed.bytes) board.feed.call

-- so many bytes are that range's
abbrev pub awaits : Board → ℕ → Bool
awaits board count = option_map_or (λ span. span.bytes == count) (awaited board) false

-- bytes are taken where they are, and all stays as it was where they are not
abbrev pub feed_status : List ℕ → Board → ℤ
feed_status bytes board = if awaits board (length bytes) then pos 0 else errno_of Invalid

abbrev pub after_feed : List ℕ → Board → Board
after_feed bytes board = if awaits board (length bytes) then record board { feed = fed_with board.feed bytes } else board
