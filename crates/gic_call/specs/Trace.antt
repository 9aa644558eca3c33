-- What an actor's own events have to be for each call, in order, with what each handed out. Beside those that its definition names, a call may
-- read more, and the interrupts may move to and from the actor's own CPU interface; of the reads of one place the last one counts. A call that takes
-- the ITS goes by what it read while it had it, and one that sets EnableLPIs by what it read after that.
use Rattle.std.specs.Prelude.{◌≡◌, ◌⊎◌, ℕ, ◌+◌, ◌==◌, not, fold, List, [], ◌∷◌, ◌++◌, map, filter, All, Contains, Bool, true, false, IsTrue, is_none, if◌then◌else◌, Option, Some, None, slice_index_or}
use Rattle.std.specs.Option.{option_map_or}
use Rattle.std.specs.List.{flat_map}
use Rattle.floor_registers.specs.Words.{GuestShape, IccReg, Frame, Dist, Redist, Its, Ram as Memory, GuestOp, Icc, Mem, DeviceOp, Message, Wire, Msi, Lpi, is_number}
use Rattle.floor_registers.specs.Registers.{has_lpis, Propbaser as PropbaserReg, Pendbaser as PendbaserReg, enable_lpis_after, Cbaser as CbaserReg, Cwriter as CwriterReg, Creadr, Baser0 as Baser0Reg, Baser1 as Baser1Reg, config_address, pending_address, part_of, Maps}
use Rattle.floor_registers.specs.GicDmap.declared.map.RegRef.{RegRef as DistRef}
use Rattle.floor_registers.specs.GicDmap.declared.map.RegRef.TheVariants.{Plain as DistPlain}
use Rattle.floor_registers.specs.GicDmap.declared.map.Reg.TheVariants.{Ctlr as DistCtlr}
use Rattle.floor_registers.specs.GicDmap.Map.{decoded as dist_decoded}
use Rattle.floor_registers.specs.GicRmap.declared.map.RegRef.{RegRef as RedistRef}
use Rattle.floor_registers.specs.GicRmap.declared.map.RegRef.TheVariants.{Plain as RedistPlain}
use Rattle.floor_registers.specs.GicRmap.declared.map.Reg.TheVariants.{Ctlr as RedistCtlr}
use Rattle.floor_registers.specs.GicRmap.Map.{decoded as redist_decoded}
use Rattle.floor_registers.specs.GicImap.declared.map.RegRef.{RegRef as ItsRef}
use Rattle.floor_registers.specs.GicImap.declared.map.RegRef.TheVariants.{Plain as ItsPlain}
use Rattle.floor_registers.specs.GicImap.declared.map.Reg.{Reg as ItsReg}
use Rattle.floor_registers.specs.GicImap.declared.map.Reg.TheVariants.{Ctlr as ItsCtlrReg}
use Rattle.floor_registers.specs.GicImap.Map.{decoded as its_decoded}
use Rattle.gic_open.specs.Plain.{place_of_plain}
use Rattle.gic_open.specs.declared.plain.PlainWord.TheVariants.{Ram, Propbaser, Pendbaser, ItsCtlr, Cbaser, Cwriter, Baser0, Baser1}
use Rattle.gic_call.specs.declared.event.Event.{Event}
use Rattle.gic_call.specs.declared.event.Event.TheVariants.{Raise, Enable, Touch, Reach, Take, Leave, Cpu, Read, Put, ItsBegin, ItsEnd, Queue}
use Rattle.gic_call.specs.declared.event.Place.{Place}
use Rattle.gic_call.specs.declared.event.Place.TheVariants.{Word, Queue as QueuePlace, Ctlr, Lpis}
use Rattle.gic_call.specs.declared.event.Found.{Found}
use Rattle.gic_call.specs.declared.event.Found.TheVariants.{Nothing, Record, Answer, Word as FoundWord, Queue as FoundQueue, Ctlr as FoundCtlr, Lpis as FoundLpis}
use Rattle.gic_call.specs.declared.event.QueueChange.TheVariants.{Runs, Done, Stalls}
use Rattle.gic_call.specs.declared.event.Operation.{Operation}
use Rattle.gic_call.specs.declared.event.Operation.TheVariants.{Access, Device, Residence}
use Rattle.gic_call.specs.declared.command.Part.{Part}
use Rattle.gic_call.specs.declared.command.Part.TheVariants.{Map, Configure}
use Rattle.gic_call.specs.View.{View}
use Rattle.gic_call.specs.Access.{is_table_zero, lpis_of, sets_lpis, pended_events}
use Rattle.gic_call.specs.Command.{lpi_event, command_parts, queue_event, maps_done, takes_command, word_address}
use Rattle.gic_call.specs.Call.{icc_events, takes_turn, access_events, starts_commands, access_value, msi_raises, device_events}

-- an event with what it handed out
pub record Happened : Type 0 where
  pub event : Event
  pub found : Found

-- Which events are a call's own.

-- the vCPU is the actor
abbrev pub is_actor : Option ℕ → ℕ → Bool
is_actor actor vcpu = is_number vcpu actor

-- an event that the definitions of calls do not name: a read, or a move of an interrupt at the actor's own CPU interface, where it is a vCPU
abbrev pub is_beside : Option ℕ → Event → Bool
is_beside actor (Read place) = true
is_beside actor (Reach key vcpu) = is_actor actor vcpu
is_beside actor (Take key vcpu) = is_actor actor vcpu
is_beside actor (Leave key vcpu) = is_actor actor vcpu
is_beside actor event = false

-- the events of a piece that the definitions name
abbrev pub named_of : Option ℕ → List Happened → List Happened
named_of actor piece = filter (λ happened. not (is_beside actor happened.event)) piece

-- what a place holds
abbrev pub held_at : View → Place → Found
held_at view (Word word) = FoundWord (view.words word)
held_at view QueuePlace = FoundQueue view.offset view.is_stalled
held_at view Ctlr = FoundCtlr view.enables view.is_spreading
held_at view (Lpis vcpu) = FoundLpis (view.lpis vcpu)

-- what the actor's events do not tell: the maps that the ITS has as the call takes it; the vCPUs that the LPIs are for as an access comes to them;
-- those that they are for as each of its commands begins; and whether an LPI that a message raises without taking the ITS is the one that the message
-- signals there
pub record Beside : Type 0 where
  pub maps : Maps
  pub targets : ℕ → Option ℕ
  pub commands : List (ℕ → Option ℕ)
  pub signals : Bool

-- the vCPUs that the LPIs are for as the command of a number from 0 begins
abbrev pub command_targets : Beside → ℕ → ℕ → Option ℕ
command_targets beside number = slice_index_or beside.commands number (λ id. None)

-- an event handed out what the view has; an access of a CPU interface register may read anything here
abbrev pub HandsOut : View → Event → Found → Type 0
HandsOut view (Touch key touching) found = found ≡ Record (view.irqs key)
HandsOut view (Put word value) found = found ≡ FoundWord (view.words word)
HandsOut view (Read place) found = found ≡ held_at view place
HandsOut view (Enable vcpu) found = found ≡ FoundLpis (view.lpis vcpu)
HandsOut view (Cpu vcpu reg write) found = (value : Option ℕ) × (found ≡ Answer value)
HandsOut view event found = found ≡ Nothing

-- the last read of a place in a piece found this
pub record IsLastRead (place : Place) (found : Found) (piece : List Happened) : Type 0 where
  pub before : List Happened
  pub after : List Happened
  pub split : piece ≡ before ++ (record { event = Read place; found = found }) ∷ after
  pub last : All (λ happened. happened.event ≡ Read place → ⊥) after

-- a piece of an actor's events, after those that it made before in the same call or command, has these events beside reads and moves, each of
-- which handed out what the view has; and each of these places was read, the last time as the view has it
pub record Makes (actor : Option ℕ) (view : View) (events : List Event) (places : List Place) (before piece : List Happened) : Type 0 where
  pub events_are : map (λ happened. happened.event) (named_of actor piece) ≡ events
  pub found : All (λ happened. HandsOut view happened.event happened.found) (named_of actor piece)
  pub reads : All (λ place. IsLastRead place (held_at view place) (before ++ piece)) places

-- a piece that has this event first, and after it these, and reads: what it read before that event does not count
pub record MakesAfter (actor : Option ℕ) (view : View) (first : Event) (events : List Event) (places : List Place) (piece : List Happened) : Type 0 where
  pub begin : List Happened
  pub rest : List Happened
  pub split : piece ≡ begin ++ rest
  pub begun : Makes actor view (first ∷ []) [] [] begin
  pub made : Makes actor view events places [] rest

-- The places that a call reads.

-- the words of memory that an access of so many bytes is in
abbrev pub memory_places : GuestShape → ℕ → ℕ → List Place
memory_places shape address size = option_map_or (λ part. Word (Ram part.index) ∷ []) (part_of address size shape.ram) []

-- a read of a register of the distributor
abbrev pub dist_places : DistRef → List Place
dist_places (DistPlain DistCtlr half) = Ctlr ∷ []
dist_places ref = []

-- the bits of the LPIs in a pending table
abbrev pub table_places : GuestShape → View → ℕ → List Place
table_places shape view vcpu =
    Word (Pendbaser vcpu)
    ∷ (if is_table_zero (view.words (Pendbaser vcpu)) then []
    else flat_map (λ id. memory_places shape (pending_address (view.words (Pendbaser vcpu)) id).0 1) (lpis_of shape))

-- an access of a register of a redistributor
abbrev pub redist_places : GuestShape → View → ℕ → RedistRef → Option ℕ → List Place
redist_places shape view vcpu (RedistPlain RedistCtlr half) None = if has_lpis shape then Lpis vcpu ∷ [] else []
redist_places shape view vcpu (RedistPlain RedistCtlr half) (Some value) =
    if enable_lpis_after shape false value then (if view.lpis vcpu then [] else table_places shape view vcpu) else []
redist_places shape view vcpu (RedistPlain PropbaserReg half) None = Word (Propbaser vcpu) ∷ []
redist_places shape view vcpu (RedistPlain PendbaserReg half) None = Word (Pendbaser vcpu) ∷ []
redist_places shape view vcpu (RedistPlain PropbaserReg half) (Some value) = Lpis vcpu ∷ []
redist_places shape view vcpu (RedistPlain PendbaserReg half) (Some value) = Lpis vcpu ∷ []
redist_places shape view vcpu ref write = []

-- a read of a register of the ITS
abbrev pub its_read_places : ItsReg → List Place
its_read_places ItsCtlrReg = Word ItsCtlr ∷ []
its_read_places CbaserReg = Word Cbaser ∷ []
its_read_places CwriterReg = Word Cwriter ∷ []
its_read_places Creadr = QueuePlace ∷ []
its_read_places Baser0Reg = Word Baser0 ∷ []
its_read_places Baser1Reg = Word Baser1 ∷ []
its_read_places reg = []

-- a write of one: whether the ITS is enabled, and how the queue is
abbrev pub its_write_places : ItsReg → List Place
its_write_places ItsCtlrReg = Word Cbaser ∷ Word Cwriter ∷ QueuePlace ∷ []
its_write_places CbaserReg = Word ItsCtlr ∷ []
its_write_places CwriterReg = Word ItsCtlr ∷ Word Cbaser ∷ QueuePlace ∷ Word Cwriter ∷ []
its_write_places Baser0Reg = Word ItsCtlr ∷ []
its_write_places Baser1Reg = Word ItsCtlr ∷ []
its_write_places reg = []

-- an access of the ITS, in a guest that has one
abbrev pub its_places : GuestShape → ItsRef → Option ℕ → List Place
its_places shape (ItsPlain reg half) write = if has_lpis shape then (if is_none write then its_read_places reg else its_write_places reg) else []
its_places shape ref write = []

-- an access of memory or of a memory-mapped register
abbrev pub access_places : GuestShape → View → Frame → ℕ → ℕ → Option ℕ → List Place
access_places shape view Dist offset size write = if is_none write then dist_places (dist_decoded offset size) else []
access_places shape view (Redist vcpu) offset size write = redist_places shape view vcpu (redist_decoded offset size) write
access_places shape view Its offset size write = its_places shape (its_decoded offset size) write
access_places shape view Memory offset size write = if is_none write then memory_places shape offset size else []

-- a device
abbrev pub device_places : DeviceOp → List Place
device_places (Message spi) = []
device_places (Wire key up) = []
device_places (Msi device event) = Word ItsCtlr ∷ []

-- The commands that a call takes.

-- the configuration byte that a part reads: the word of memory, and PROPBASER of the vCPU that the LPI is for
abbrev pub byte_places : GuestShape → View → (ℕ → Option ℕ) → Part → List Place
byte_places shape view targets (Map id target) = Word (Propbaser target) ∷ memory_places shape (config_address (view.words (Propbaser target)) id) 1
byte_places shape view targets (Configure id) =
    option_map_or (λ vcpu. Word (Propbaser vcpu) ∷ memory_places shape (config_address (view.words (Propbaser vcpu)) id) 1) (targets id) []
byte_places shape view targets part = []

-- a piece ends with an event
pub record EndsWith (event : Event) (piece : List Happened) : Type 0 where
  pub before : List Happened
  pub found : Found
  pub split : piece ≡ before ++ (record { event = event; found = found }) ∷ []

-- one of the parts of a command, which ends with its event, and what follows it; these reads count before its own
pub record IsPartThen (actor : Option ℕ) (shape : GuestShape) (targets : ℕ → Option ℕ) (part : Part) (before piece : List Happened) (Rest : List Happened → Type 0) : Type 0 where
  pub view : View
  pub own : List Happened
  pub rest : List Happened
  pub split : piece ≡ own ++ rest
  pub made : Makes actor view (lpi_event shape view targets part ∷ []) (byte_places shape view targets part) before own
  pub ends : EndsWith (lpi_event shape view targets part) own
  pub later : Rest rest

-- the parts of a command, one after the other, and what follows them: each reads its configuration byte after the part before it, but for what is
-- in the command's own doublewords, which these reads found
abbrev pub ArePartsThen : Option ℕ → GuestShape → (ℕ → Option ℕ) → List Happened → List Part → (List Happened → Type 0) → List Happened → List Happened → Type 0
ArePartsThen actor shape targets words [] Rest before piece = Rest piece
ArePartsThen actor shape targets words (part ∷ parts) Rest before piece =
    IsPartThen actor shape targets part before piece (ArePartsThen actor shape targets words parts Rest words)

-- the words of memory that the doublewords of the next command are in
abbrev pub command_places : GuestShape → View → List Place
command_places shape view = flat_map (λ number. memory_places shape (word_address view number) 8) (0 ∷ 1 ∷ 2 ∷ 3 ∷ [])

-- the reads of these, as the view has them
abbrev pub words_read : GuestShape → View → List Happened
words_read shape view = map (λ place. record { event = Read place; found = held_at view place }) (command_places shape view)

-- a piece begins with an event that the definitions name
abbrev pub begins_named : Option ℕ → List Happened → Bool
begins_named actor [] = false
begins_named actor (happened ∷ piece) = not (is_beside actor happened.event)

-- a piece is the next command: its doublewords are read, in what comes before the first event that is named; its parts are done, and then the queue
-- goes on
pub record IsCommand (actor : Option ℕ) (shape : GuestShape) (view : View) (piece : List Happened) : Type 0 where
  pub taken : IsTrue (takes_command view)
  pub fetch : List Happened
  pub rest : List Happened
  pub split : piece ≡ fetch ++ rest
  pub whole : IsTrue (begins_named actor rest)
  pub fetched : Makes actor view [] (command_places shape view) [] fetch
  pub done :
      ArePartsThen actor shape view.targets (words_read shape view) (command_parts shape view) (λ after. Makes actor view (queue_event shape view ∷ []) [] [] after) fetch rest

-- what the actor that has the ITS knows of it after an event of its own: what it stored, how the queue went on, and what its commands mapped
abbrev pub left_by : GuestShape → View → Event → View
left_by shape view (Put word value) = record view { words = λ other. if place_of_plain shape other == place_of_plain shape word then value else view.words other }
left_by shape view (Queue offset Runs) = record view { offset = offset; is_stalled = false }
left_by shape view (Queue offset (Done words)) = record view { offset = offset; is_stalled = false; maps = maps_done view.maps words }
left_by shape view (Queue offset (Stalls fault)) = record view { offset = offset; is_stalled = true }
left_by shape view event = view

-- two views have the same ITS: its stored registers, its queue and its maps
pub record HaveSameIts (one other : View) : Type 0 where
  pub ctlr : one.words ItsCtlr ≡ other.words ItsCtlr
  pub cbaser : one.words Cbaser ≡ other.words Cbaser
  pub cwriter : one.words Cwriter ≡ other.words Cwriter
  pub offset : one.offset ≡ other.offset
  pub stalled : one.is_stalled ≡ other.is_stalled
  pub maps : one.maps ≡ other.maps

-- a piece begins with the next command, of an ITS as it was left
pub record IsCommandThen (actor : Option ℕ) (shape : GuestShape) (targets : ℕ → Option ℕ) (its view : View) (piece : List Happened) (Rest : List Happened → Type 0) : Type 0 where
  pub same : HaveSameIts its view
  pub targets_are : view.targets ≡ targets
  pub own : List Happened
  pub rest : List Happened
  pub split : piece ≡ own ++ rest
  pub command : IsCommand actor shape view own
  pub later : Rest rest

-- a piece is all commands that are taken, the first of which has this number, each where the guest is as in one of these views as it begins: no
-- further one can be taken after them
abbrev pub AreCommands : Option ℕ → GuestShape → Beside → ℕ → View → List View → List Happened → Type 0
AreCommands actor shape beside number its [] piece = Makes actor its [] [] [] piece × IsTrue (not (takes_command its))
AreCommands actor shape beside number its (view ∷ views) piece =
    IsCommandThen actor shape (command_targets beside number) its view piece (AreCommands actor shape beside (number + 1) (left_by shape view (queue_event shape view)) views)

-- The calls.

-- an access of a CPU interface register, and after a write of ICC_SGI1R the SGIs
pub record IsIccCall (shape : GuestShape) (vcpu : ℕ) (reg : IccReg) (write : Option ℕ) (piece : List Happened) (answer : Option ℕ) : Type 0 where
  pub view : View
  pub made : Makes (Some vcpu) view (icc_events shape vcpu reg write) [] [] piece
  pub answers : Contains piece (record { event = Cpu vcpu reg write; found = Answer answer })

-- what an access answers: a read what the guest has
abbrev pub read_answer : Option ℕ → ℕ → Option ℕ
read_answer None value = Some value
read_answer (Some written) value = None

-- the vCPU whose EnableLPIs an access sets, if it does
abbrev pub enabled_by : GuestShape → Frame → ℕ → ℕ → Option ℕ → Option ℕ
enabled_by shape (Redist vcpu) offset size write = if sets_lpis shape (redist_decoded offset size) write then Some vcpu else None
enabled_by shape frame offset size write = None

-- the events of an access that does not take the ITS, with what it reads: one that sets EnableLPIs reads the pending table after that
abbrev pub MakesPlain : Option ℕ → GuestShape → View → ℕ → Frame → ℕ → ℕ → Option ℕ → List Happened → Type 0
MakesPlain None shape view actor frame offset size write piece =
    Makes (Some actor) view (access_events shape view frame offset size write) (access_places shape view frame offset size write) [] piece
MakesPlain (Some vcpu) shape view actor frame offset size write piece =
    MakesAfter (Some actor) view (Enable vcpu) (pended_events shape view vcpu) (access_places shape view frame offset size write) piece

-- an access of memory or of a memory-mapped register that does not take the ITS
pub record IsPlainCall (shape : GuestShape) (beside : Beside) (vcpu : ℕ) (frame : Frame) (offset size : ℕ) (write : Option ℕ) (piece : List Happened) (answer : Option ℕ) : Type 0 where
  pub view : View
  pub targets : view.targets ≡ beside.targets
  pub made : MakesPlain (enabled_by shape frame offset size write) shape view vcpu frame offset size write piece
  pub answers : answer ≡ read_answer write (access_value shape view frame offset size)

-- the commands that a write starts, if it does
abbrev pub AreStarted : Bool → Option ℕ → GuestShape → Beside → View → List View → List Happened → Type 0
AreStarted true actor shape beside its views piece = AreCommands actor shape beside 0 its views piece
AreStarted false actor shape beside its views piece = Makes actor its [] [] [] piece

-- the ITS after the events of a write, before any command
abbrev pub its_written_by : GuestShape → View → List Event → View
its_written_by shape view events = fold (left_by shape) view events

-- a write of a register of the ITS that takes it: the turn, the register, the commands, and the end of the turn
pub record IsItsCall (shape : GuestShape) (beside : Beside) (vcpu : ℕ) (offset size value : ℕ) (piece : List Happened) (answer : Option ℕ) : Type 0 where
  pub view : View
  pub maps : view.maps ≡ beside.maps
  pub views : List View
  pub register : List Happened
  pub commands : List Happened
  pub last : List Happened
  pub split : piece ≡ register ++ commands ++ last
  pub written : MakesAfter (Some vcpu) view ItsBegin (access_events shape view Its offset size (Some value)) (access_places shape view Its offset size (Some value)) register
  pub started :
      AreStarted (starts_commands shape view Its offset size (Some value)) (Some vcpu) shape beside
      (its_written_by shape view (access_events shape view Its offset size (Some value))) views commands
  pub ended : Makes (Some vcpu) view (ItsEnd ∷ []) [] [] last
  pub answers : answer ≡ None

-- a write of the ITS that takes it or does not
abbrev pub IsItsWrite : Bool → GuestShape → Beside → ℕ → ℕ → ℕ → ℕ → List Happened → Option ℕ → Type 0
IsItsWrite true shape beside vcpu offset size value piece answer = IsItsCall shape beside vcpu offset size value piece answer
IsItsWrite false shape beside vcpu offset size value piece answer = IsPlainCall shape beside vcpu Its offset size (Some value) piece answer

-- an access of a vCPU
abbrev pub IsAccessCall : GuestShape → Beside → ℕ → GuestOp → List Happened → Option ℕ → Type 0
IsAccessCall shape beside vcpu (Icc reg write) piece answer = IsIccCall shape vcpu reg write piece answer
IsAccessCall shape beside vcpu (Mem Its offset size (Some value)) piece answer =
    IsItsWrite (takes_turn shape (its_decoded offset size) (Some value)) shape beside vcpu offset size value piece answer
IsAccessCall shape beside vcpu (Mem frame offset size write) piece answer = IsPlainCall shape beside vcpu frame offset size write piece answer

-- the events of a message-signalled interrupt: it reads whether the ITS is enabled while it has it
pub record MakesMsi (view : View) (device event : ℕ) (piece : List Happened) : Type 0 where
  pub raising : List Happened
  pub last : List Happened
  pub split : piece ≡ raising ++ last
  pub raised : MakesAfter None view ItsBegin (msi_raises view device event) (device_places (Msi device event)) raising
  pub ended : Makes None view (ItsEnd ∷ []) [] [] last

-- those of one whose translation was found before: its LPI alone, at a moment at which the message signals that (own choice; IHI 0069 lets an ITS keep
-- translations that it has found)
pub record RaisesAlone (signals : Bool) (view : View) (piece : List Happened) : Type 0 where
  pub id : ℕ
  pub raised : Makes None view (Raise (Lpi id) ∷ []) [] [] piece
  pub right : IsTrue signals

-- the events of what a device does: a message-signalled interrupt takes the ITS, or raises its LPI alone
abbrev pub MakesDevice : Bool → View → DeviceOp → List Happened → Type 0
MakesDevice signals view (Msi device event) piece = MakesMsi view device event piece ⊎ RaisesAlone signals view piece
MakesDevice signals view op piece = Makes None view (device_events view op) (device_places op) [] piece

-- what a device does
pub record IsDeviceCall (beside : Beside) (op : DeviceOp) (piece : List Happened) (answer : Option ℕ) : Type 0 where
  pub view : View
  pub maps : view.maps ≡ beside.maps
  pub made : MakesDevice beside.signals view op piece
  pub answers : answer ≡ None

-- a piece of an actor's events is a call with this answer; a vCPU that enters or leaves a PE, or looks whether it was kicked, makes no event
-- that is named
abbrev pub IsCall : GuestShape → Beside → Option ℕ → Operation → List Happened → Option ℕ → Type 0
IsCall shape beside (Some vcpu) (Access op) piece answer = IsAccessCall shape beside vcpu op piece answer
IsCall shape beside None (Device op) piece answer = IsDeviceCall beside op piece answer
IsCall shape beside (Some vcpu) Residence piece answer = (named_of (Some vcpu) piece ≡ []) × (answer ≡ None)
IsCall shape beside actor operation piece answer = ⊥
