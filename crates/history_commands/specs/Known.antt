-- What a call that has the ITS knows of it: what it read, stored or left since it took it.
use Rattle.std.specs.Prelude.{ℕ, true, false, List, Option}
use Rattle.history_commands.specs.Calls.{Event, Found, Place, held_at, PlainWord, Ram, ItsCtlr, Cbaser, Cwriter, Happened, View, QueueChange, Done, Stalls, maps_done}
use Rattle.history_commands.specs.GicCall.declared.event.Event.TheVariants.{Queue, Read}
use Rattle.history_commands.specs.Registers.{Maps}
use Rattle.history_commands.specs.HistoryCalls.Found.{found_by}
use Rattle.history_commands.specs.declared.its.Its.{Its}

-- the registers and the queue, as they are in a view
abbrev pub its_in : View → Its
its_in view = record { ctlr = view.words ItsCtlr; cbaser = view.words Cbaser; cwriter = view.words Cwriter; offset = view.offset; is_stalled = view.is_stalled }

-- the plain words as a command finds them: the registers of the ITS as they are known, and all others as these reads found them
abbrev pub word_by : Its → List Happened → PlainWord → ℕ
word_by its reads ItsCtlr = its.ctlr
word_by its reads Cbaser = its.cbaser
word_by its reads Cwriter = its.cwriter
word_by its reads word = (found_by reads).words word

-- the guest as a command finds it, where the ITS has these maps and LPIs are for these vCPUs
abbrev pub view_by : Its → Maps → (ℕ → Option ℕ) → List Happened → View
view_by its maps targets reads = record (found_by reads) { words = word_by its reads; targets = targets; offset = its.offset; is_stalled = its.is_stalled; maps = maps }

-- after the end of a command: the queue goes on, or stalls
abbrev pub its_after : Its → Event → Its
its_after its (Queue offset (Done words)) = record its { offset = offset; is_stalled = false }
its_after its (Queue offset (Stalls fault)) = record its { offset = offset; is_stalled = true }
its_after its event = its

abbrev pub maps_left : Maps → Event → Maps
maps_left maps (Queue offset (Done words)) = maps_done maps words
maps_left maps event = maps

-- the read of a place, as a view has it
abbrev pub read_at : View → Place → Happened
read_at view place = record { event = Read place; found = held_at view place }
