-- Worked histories of a guest with two vCPUs and a device: fresh ones, and for each clause of fresh one that this clause alone refuses.
use Rattle.std.specs.Prelude.{ℕ, Bool, true, false, List, [], ◌∷◌, ◌++◌, Option, Some, None}
use Rattle.ideal_guest.specs.Opening.{opening as opening_guest}
use Rattle.ideal_guest.specs.Words.{IccReg, Iar1, Eoir1, Rpr, Spi, Lpi, Message, Wire, Msi, Dist, Redist, Its, Ram as Memory, Icc, Mem, SetPending, ClearPending, Routing, G1, Irq, Affinity, Target}
use Rattle.ideal_guest.specs.Registers.{Mapd, Mapc, Mapti, Int, Clear, encoded}
use Rattle.ideal_guest.specs.Calls.{Ram, ItsCtlr, Event, Up, Touch, Reach, Take, Leave, Cpu, Enable, Put, ItsBegin, Done, Found, Record, Moment, Begin, Happens, Operation, Access, Device, Residence, Touching, Register, MapLpi, opening_irq, Preset, GuestSpec}
use Rattle.ideal_guest.specs.declared.guest.IdealGuest.{IdealGuest}
use Rattle.ideal_guest.specs.GicCall.declared.event.Event.TheVariants.{Raise, Read, ItsEnd, Queue}
use Rattle.ideal_guest.specs.GicCall.declared.event.Found.TheVariants.{Nothing, Answer, Word as FoundWord, Lpis as FoundLpis}
use Rattle.ideal_guest.specs.GicCall.declared.event.Moment.TheVariants.{End}
use Rattle.ideal_guest.specs.GicCall.declared.event.Place.TheVariants.{Word}
use Rattle.ideal_guest.specs.GicCall.declared.touch.Touching.TheVariants.{Retarget, Forget}

-- two vCPUs and a device, the actor 2; SPIs 40 and 42 are edge and 41 is level, all for vCPU 0, and 42 comes before the others
abbrev preset : ℕ → ℕ → Bool → Preset
preset id prio edge = record { id = id; prio = prio; edge = edge; group = 1; to = Some 0; vcpu = None }

abbrev pub worked_spec : GuestSpec
worked_spec =
    record {
      shape = record { vcpus = 2; spis = 32; espis = 0; devices = 1; lpis = 0; ram = 0 };
      on = true;
      presets = preset 40 0xa0 true ∷ preset 41 0xa0 false ∷ preset 42 0x20 true ∷ [];
    }

-- as it opens
abbrev pub worked_guest : IdealGuest
worked_guest = opening_guest worked_spec

-- Calls with one event.

abbrev pub calls : ℕ → Operation → Event → Found → Option ℕ → List Moment
calls actor operation event found answer = Begin actor operation ∷ Happens actor event found ∷ End actor answer ∷ []

-- a message of an SPI, and the wire of an SPI up
abbrev pub message : ℕ → List Moment
message id = calls 2 (Device (Message id)) (Raise (Spi id)) Nothing None

abbrev pub wire_up : ℕ → List Moment
wire_up id = calls 2 (Device (Wire (Spi id) true)) (Up (Spi id)) Nothing None

-- an SPI gets to a vCPU's interface, and leaves it, as the vCPU enters and leaves a PE
abbrev pub reach : ℕ → ℕ → List Moment
reach vcpu id = calls vcpu Residence (Reach (Spi id) vcpu) Nothing None

abbrev pub leave : ℕ → ℕ → List Moment
leave vcpu id = calls vcpu Residence (Leave (Spi id) vcpu) Nothing None

-- a vCPU reads a register of its CPU interface, and ends an interrupt
abbrev pub reads : ℕ → IccReg → ℕ → List Moment
reads vcpu reg value = calls vcpu (Access (Icc reg None)) (Cpu vcpu reg None) (Answer (Some value)) (Some value)

abbrev pub ends : ℕ → ℕ → List Moment
ends vcpu id = calls vcpu (Access (Icc Eoir1 (Some id))) (Cpu vcpu Eoir1 (Some id)) (Answer None) None

-- Fresh histories.

-- SPI 40 as it is once a message made it pending
abbrev pub pending_irq : Irq
pending_irq =
    record {
      prio = 0xa0;
      enabled = true;
      group = G1;
      edge = true;
      line = false;
      rise = false;
      soft = true;
      act_by = None;
      holder = None;
      want = false;
      en0 = true;
      en1 = true;
      route = Affinity 0;
    }

-- vCPU 1 writes a register of the distributor that touches it
abbrev pub writes : ℕ → ℕ → ℕ → Touching → List Moment
writes offset size value touching = calls 1 (Access (Mem Dist offset size (Some value))) (Touch (Spi 40) touching) (Record pending_irq) None

-- a message is acknowledged once, and ended
abbrev pub served : List Moment
served = message 40 ++ reach 0 40 ++ reads 0 Iar1 40 ++ ends 0 40 ++ reads 0 Iar1 1023 ++ leave 0 40

-- a second one of a higher priority comes while the first is active, and is acknowledged over it, in an access in which the first leaves
abbrev pub takes_over : List Moment
takes_over =
    Begin 0 (Access (Icc Iar1 None))
    ∷ Happens 0 (Leave (Spi 40) 0) Nothing
    ∷ Happens 0 (Reach (Spi 42) 0) Nothing
    ∷ Happens 0 (Cpu 0 Iar1 None) (Answer (Some 42))
    ∷ End 0 (Some 42)
    ∷ []

abbrev pub preempted : List Moment
preempted =
    message 40 ++ reach 0 40 ++ reads 0 Iar1 40 ++ message 42 ++ takes_over ++ reads 0 Rpr 0x20 ++ ends 0 42 ++ reads 0 Rpr 0xa0

-- it is withdrawn by the other vCPU, by CLRSPI_NSR, which takes it back from the interface first
abbrev pub withdrawn : List Moment
withdrawn =
    message 40 ++ reach 0 40 ++ leave 0 40 ++ writes 0x48 4 40 (Register ClearPending 1) ++ reads 0 Iar1 1023

-- it is routed to the other vCPU, which acknowledges it
abbrev pub migrated : List Moment
migrated =
    message 40 ++ writes 0x6140 8 1 (Register Routing 1) ++ reads 0 Iar1 1023 ++ reach 1 40 ++ reads 1 Iar1 40

-- a level interrupt is ended while its wire is up, and leaves before that call ends
abbrev pub ends_and_leaves : List Moment
ends_and_leaves =
    Begin 0 (Access (Icc Eoir1 (Some 41)))
    ∷ Happens 0 (Cpu 0 Eoir1 (Some 41)) (Answer None)
    ∷ Happens 0 (Leave (Spi 41) 0) Nothing
    ∷ End 0 None
    ∷ []

abbrev pub refilled : List Moment
refilled = wire_up 41 ++ reach 0 41 ++ reads 0 Iar1 41 ++ ends_and_leaves ++ reach 0 41 ++ reads 0 Iar1 41

-- a message comes again while the interrupt is active at the interface; it leaves, gets there again, active, and becomes pending there too; it is
-- acknowledged once more, and no third time
abbrev pub take : List Moment
take = calls 0 Residence (Take (Spi 40) 0) Nothing None

abbrev pub repeated : List Moment
repeated =
    message 40 ++ reach 0 40 ++ reads 0 Iar1 40 ++ message 40 ++ leave 0 40 ++ reach 0 40 ++ take ++ ends 0 40 ++ reads 0 Iar1 40 ++ ends 0 40 ++ leave 0 40 ++ reads 0 Iar1 1023

-- what leaves an interface before an acknowledge is still pending
abbrev pub returned : List Moment
returned = message 40 ++ reach 0 40 ++ leave 0 40 ++ reach 0 40 ++ reads 0 Iar1 40

-- an acknowledge finds nothing while the call of the message is open
abbrev pub begins_message : List Moment
begins_message = Begin 2 (Device (Message 40)) ∷ Happens 2 (Raise (Spi 40)) Nothing ∷ []

abbrev pub ends_message : List Moment
ends_message = End 2 None ∷ []

abbrev pub in_flight : List Moment
in_flight = begins_message ++ reads 0 Iar1 1023 ++ ends_message ++ reach 0 40 ++ reads 0 Iar1 40

-- an acknowledge finds nothing while the call of another vCPU is open that is still to clear the interrupt, whose message ended before
abbrev pub begins_clear : List Moment
begins_clear = Begin 1 (Access (Mem Dist 0x48 4 (Some 40))) ∷ []

abbrev pub clears : List Moment
clears = Happens 1 (Touch (Spi 40) (Register ClearPending 1)) (Record pending_irq) ∷ End 1 None ∷ []

abbrev pub awaited : List Moment
awaited = message 40 ++ begins_clear ++ reads 0 Iar1 1023 ++ clears

-- Histories that are not.

-- an acknowledge finds nothing after the call of a message ended
abbrev pub overlooked : List Moment
overlooked = message 40 ++ reads 0 Iar1 1023

-- an interrupt at the interface changed, in a call that ended before an access
abbrev pub outdated : List Moment
outdated = message 40 ++ reach 0 40 ++ message 40 ++ reads 0 Rpr 0xff

-- an active interrupt that has left the interface is ended, and stays active
abbrev pub leaves_and_ends : List Moment
leaves_and_ends =
    Begin 0 (Access (Icc Eoir1 (Some 40)))
    ∷ Happens 0 (Leave (Spi 40) 0) Nothing
    ∷ Happens 0 (Cpu 0 Eoir1 (Some 40)) (Answer None)
    ∷ End 0 None
    ∷ []

abbrev pub unended : List Moment
unended = message 40 ++ reach 0 40 ++ reads 0 Iar1 40 ++ leaves_and_ends

-- a level interrupt is ended while its wire is up, and does not leave
abbrev pub kept : List Moment
kept = wire_up 41 ++ reach 0 41 ++ reads 0 Iar1 41 ++ ends 0 41

-- Windows of a write of EnableLPIs.

-- two vCPUs and three LPIs
abbrev pub lpi_spec : GuestSpec
lpi_spec = record { shape = record { vcpus = 2; spis = 0; espis = 0; devices = 0; lpis = 3; ram = 0 }; on = true; presets = [] }

-- as it opens
abbrev pub lpi_guest : IdealGuest
lpi_guest = opening_guest lpi_spec

-- an LPI that a command has mapped to vCPU 0
abbrev pub mapped_lpi : Irq
mapped_lpi = record (opening_irq true (Lpi 8192)) { route = Target (Some 0) }

-- vCPU 1 is in a call of commands that mapped two LPIs to vCPU 0; vCPU 0 sets EnableLPIs and makes 8193 pending; and then 8192 is moved to vCPU 1
abbrev pub passed_by : List Moment
passed_by =
    Begin 1 (Access (Mem Its 0x88 8 (Some 32)))
    ∷ Happens 1 (Touch (Lpi 8192) (MapLpi 0 false 0)) (Record (opening_irq true (Lpi 8192)))
    ∷ Happens 1 (Touch (Lpi 8193) (MapLpi 0 false 0)) (Record (opening_irq true (Lpi 8193)))
    ∷ Begin 0 (Access (Mem (Redist 0) 0 4 (Some 1)))
    ∷ Happens 0 (Enable 0) (FoundLpis false)
    ∷ Happens 0 (Touch (Lpi 8193) (Register SetPending 1)) (Record mapped_lpi)
    ∷ Happens 1 (Touch (Lpi 8192) (Retarget (Some 1))) (Record mapped_lpi)
    ∷ []

-- From when on a command of the ITS excuses.

-- four vCPUs, an LPI, and memory for three commands
abbrev pub queue_spec : GuestSpec
queue_spec = record { shape = record { vcpus = 4; spis = 0; espis = 0; devices = 0; lpis = 1; ram = 96 }; on = true; presets = [] }

-- as it opens
abbrev pub queue_guest : IdealGuest
queue_guest = opening_guest queue_spec

-- an LPI that is for vCPU 0, and then pending
abbrev pub told_lpi : Irq
told_lpi = record (opening_irq true (Lpi 8192)) { route = Target (Some 0); enabled = true }

abbrev pub waiting_lpi : Irq
waiting_lpi = record told_lpi { soft = true }

-- vCPU 3 sets EnableLPIs of vCPU 0; vCPU 2 does two commands, of which the second makes 8192 pending, and gives the ITS back
abbrev pub pends_lpi : List Moment
pends_lpi =
    Begin 3 (Access (Mem (Redist 0) 0 4 (Some 1)))
    ∷ Happens 3 (Enable 0) (FoundLpis false)
    ∷ Begin 2 (Access (Mem Its 0x88 8 (Some 64)))
    ∷ Happens 2 ItsBegin Nothing
    ∷ Happens 2 (Touch (Lpi 8192) (MapLpi 0 true 0)) (Record (opening_irq true (Lpi 8192)))
    ∷ Happens 2 (Queue 32 (Done (encoded (Mapti 0 0 8192 0)))) Nothing
    ∷ Happens 2 (Raise (Lpi 8192)) Nothing
    ∷ Happens 2 (Queue 64 (Done (encoded (Int 0 0)))) Nothing
    ∷ Happens 2 ItsEnd Nothing
    ∷ []

-- vCPU 1 begins a write of GITS_CWRITER; it takes the ITS; it reads the next command, the third; it does that, which clears 8192
abbrev pub begins_write : List Moment
begins_write = Begin 1 (Access (Mem Its 0x88 8 (Some 96))) ∷ []

abbrev pub gets_its : List Moment
gets_its = Happens 1 ItsBegin Nothing ∷ []

abbrev pub fetches : List Moment
fetches = Happens 1 (Read (Word (Ram 8))) (FoundWord 4) ∷ []

abbrev pub clears_lpi : List Moment
clears_lpi =
    Happens 1 (Touch (Lpi 8192) (Register ClearPending 1)) (Record waiting_lpi)
    ∷ Happens 1 (Queue 96 (Done (encoded (Clear 0 0)))) Nothing
    ∷ Happens 1 ItsEnd Nothing
    ∷ []

-- vCPU 0 stores that command
abbrev pub stores_clear : List Moment
stores_clear = calls 0 (Access (Mem Memory 64 8 (Some 4))) (Put (Ram 8) 4) (FoundWord 0) None

-- vCPU 0 reads no INTID: while vCPU 1 waits for the ITS, and while it has that and has not read the command, which is stored only then; and once it has read it
abbrev pub unbegun : List Moment
unbegun = pends_lpi ++ begins_write ++ reads 0 Iar1 1023 ++ stores_clear ++ gets_its ++ fetches ++ clears_lpi

abbrev pub unread : List Moment
unread = pends_lpi ++ begins_write ++ gets_its ++ reads 0 Iar1 1023 ++ stores_clear ++ fetches ++ clears_lpi

abbrev pub fetched : List Moment
fetched = pends_lpi ++ begins_write ++ stores_clear ++ gets_its ++ fetches ++ reads 0 Iar1 1023 ++ clears_lpi

-- The lone raise of a message-signalled interrupt.

-- two vCPUs, a device, the actor 2, and two LPIs
abbrev pub signal_spec : GuestSpec
signal_spec = record { shape = record { vcpus = 2; spis = 0; espis = 0; devices = 1; lpis = 2; ram = 0 }; on = true; presets = [] }

-- as it opens
abbrev pub signal_guest : IdealGuest
signal_guest = opening_guest signal_spec

-- vCPU 0 has the ITS, which it enables, and maps the events 0 and 1 of device 0 to 8192 and 8193, for itself; it goes on with commands
abbrev pub maps_event : List Moment
maps_event =
    Begin 0 (Access (Mem Its 0x88 8 (Some 160)))
    ∷ Happens 0 ItsBegin Nothing
    ∷ Happens 0 (Put ItsCtlr 1) (FoundWord 0)
    ∷ Happens 0 (Queue 32 (Done (encoded (Mapd 0 1 0 true)))) Nothing
    ∷ Happens 0 (Queue 64 (Done (encoded (Mapc 0 0 true)))) Nothing
    ∷ Happens 0 (Touch (Lpi 8192) (MapLpi 0 true 0)) (Record (opening_irq true (Lpi 8192)))
    ∷ Happens 0 (Queue 96 (Done (encoded (Mapti 0 0 8192 0)))) Nothing
    ∷ Happens 0 (Touch (Lpi 8193) (MapLpi 0 true 0)) (Record (opening_irq true (Lpi 8193)))
    ∷ Happens 0 (Queue 128 (Done (encoded (Mapti 0 1 8193 0)))) Nothing
    ∷ []

-- it forgets 8193, as a DISCARD of event 1 does before the queue goes on
abbrev pub forgets_other : List Moment
forgets_other = Happens 0 (Touch (Lpi 8193) Forget) (Record (record (opening_irq true (Lpi 8193)) { route = Target (Some 0); enabled = true })) ∷ []

-- a message of this event raises 8192 and nothing else, and its call ends
abbrev pub raises_alone : ℕ → List Moment
raises_alone event = Begin 2 (Device (Msi 0 event)) ∷ Happens 2 (Raise (Lpi 8192)) Nothing ∷ []

abbrev pub ends_alone : List Moment
ends_alone = End 2 None ∷ []
