-- What a trace says of a guest's moments (own choice): each of its events is one, after those before it, with what is there handed out; beside it stand reads that
-- the definition of calls asks for and a recorder need not have.
use Rattle.std.specs.Prelude.{ℕ, ◌+◌, ◌&&◌, ◌||◌, not, nat_lt, Bool, true, false, List, [], ◌∷◌, ◌++◌, map, fold, Option, Some, None, option_map, option_and_then, if◌then◌else◌}
use Rattle.std.specs.Option.{option_map_or}
use Rattle.trace_read.specs.declared.trace.Act.{Act}
use Rattle.trace_read.specs.declared.trace.Act.TheVariants.{Begin as Begins, End as Ends, Reach as Reaches, Take as Takes, Leave as Leaves, Raise as Raises, Up as GoesUp, Down as GoesDown, Cpu as Accesses, Touch as Touches, Enable as Enables, Read as Reads, Put as Puts, CtlrBegin as BeginsCtlr, CtlrEnd as EndsCtlr, ItsBegin as BeginsIts, ItsEnd as EndsIts, Queue as MovesQueue}
use Rattle.trace_read.specs.declared.trace.TraceCall.{TraceCall}
use Rattle.trace_read.specs.declared.trace.TraceCall.TheVariants.{Vcpu as VcpuCall, Device as DeviceCall, Enter, Exit}
use Rattle.trace_read.specs.declared.trace.TraceEvent.{TraceEvent}
use Rattle.trace_read.specs.declared.place.Place.{Place as TracePlace}
use Rattle.trace_read.specs.ScnRead.ScnBase.Words.{Actor, Vcpu as VcpuNumber, Device as DeviceNumber}
use Rattle.legal_play.specs.Words.{GuestShape, Lpi, Redist, Mem}
use Rattle.legal_play.specs.Registers.{enables_in, fault_number}
use Rattle.legal_play.specs.LegalLists.ItsCmd.Command.{decoded}
use Rattle.legal_play.specs.Calls.{Event, Up, Down, Touch, Reach, Take, Leave, Enable, Cpu, Put, CtlrBegin, CtlrEnd, ItsBegin, Found, Moment, Begin, Happens, Operation, Access, Device, Residence, MapLpi, Happened, View, Place, PlainWord, Ram, Propbaser, Pendbaser, ItsCtlr, Cbaser, Cwriter, QueueChange, Runs, Done, Stalls, held_at, is_beside, command_words}
use Rattle.legal_play.specs.GicCall.declared.event.Event.TheVariants.{Raise, Read, ItsEnd, Queue}
use Rattle.legal_play.specs.GicCall.declared.event.Found.TheVariants.{Lpis as FoundLpis}
use Rattle.legal_play.specs.GicCall.declared.event.Moment.TheVariants.{End}
use Rattle.legal_play.specs.GicCall.declared.event.Place.TheVariants.{Word, Queue as QueuePlace}
use Rattle.legal_play.specs.GicCall.declared.touch.Touching.TheVariants.{Configure}
use Rattle.legal_play.specs.Histories.{Ideal, Course, vcpu_of, call_of, course_of, handed_out, view_at, targets_in, takes_commands}
use Rattle.legal_play.specs.HistoryPlay.HistoryCalls.Found.{reads, word_in}
use Rattle.trace_told.specs.Given.{word_at, place_at, stored_of, is_word, gives}

-- Who acts, and what for.

-- an actor's number in its guest, if it is there: the vCPUs come first, and then the devices
abbrev pub actor_of : GuestShape → Actor → Option ℕ
actor_of shape (VcpuNumber guest vcpu) = if nat_lt vcpu shape.vcpus then Some vcpu else None
actor_of shape (DeviceNumber guest device) = if nat_lt device shape.devices then Some (shape.vcpus + device) else None

abbrev pub operation_of : TraceCall → Operation
operation_of (VcpuCall op) = Access op
operation_of (DeviceCall op) = Device op
operation_of Enter = Residence
operation_of Exit = Residence

-- What a call goes by that has the ITS.

-- the next command may be read after it: the call takes the ITS, stores a register of it, or a command has ended
abbrev pub leads_on : Event → Bool
leads_on ItsBegin = true
leads_on (Put word value) = true
leads_on (Queue offset change) = true
leads_on event = false

-- the last read of a doubleword of the command that a call is at, as long as that has made no part of it
pub record Fetch : Type 0 where
  pub is_open : Bool
  pub word : ℕ

abbrev pub nothing_fetched : Fetch
nothing_fetched = record { is_open = false; word = 0 }

abbrev pub with_read : Place → Happened → Fetch → Fetch
with_read place happened fetch = if fetch.is_open && reads place happened.event then record fetch { word = word_in (Some happened.found) } else fetch

abbrev pub fetching : Option ℕ → Place → Fetch → Happened → Fetch
fetching vcpu place fetch happened =
    if leads_on happened.event then record { is_open = true; word = 0 }
    else (if is_beside vcpu happened.event then with_read place happened fetch else record fetch { is_open = false })

-- what a call has read at a place of the command that it is at: 0 where it has not
abbrev pub word_fetched : Option ℕ → Place → List Happened → ℕ
word_fetched vcpu place piece = (fold (fetching vcpu place) nothing_fetched piece).word

-- the guest as such a call knows it: memory as it has read it for that command, and all else as it is
abbrev pub word_known : Ideal → Option ℕ → List Happened → PlainWord → ℕ
word_known ideal vcpu piece (Ram index) = word_fetched vcpu (Word (Ram index)) piece
word_known ideal vcpu piece word = (view_at ideal).words word

abbrev pub as_fetched : Ideal → Option ℕ → List Happened → View
as_fetched ideal vcpu piece = record (view_at ideal) { words = word_known ideal vcpu piece }

-- a read of a place counts for the next part that a call makes, which begins after the last event that is named
abbrev pub has_read : Option ℕ → Place → List Happened → Bool
has_read vcpu place piece = fold (λ has happened. is_beside vcpu happened.event && (has || reads place happened.event)) false piece

-- Events.

-- the command that a call has read ends: it is done, or the queue stalls where it has a fault
abbrev pub command_end : GuestShape → View → QueueChange
command_end shape view = let words = command_words shape view in option_map_or (λ fault. Stalls fault) (fault_number shape view.maps (decoded words)) (Done words)

-- the change that a call is at: where it takes commands, unless it ends a stall, the end of one; else that the queue runs
abbrev pub change_at : Ideal → Option ℕ → Option Operation → List Happened → QueueChange
change_at ideal vcpu operation piece =
    if option_map_or (takes_commands ideal.guest.shape) operation false && not ideal.guest.is_stalled
    then command_end ideal.guest.shape (as_fetched ideal vcpu piece)
    else Runs

-- the queue stalls exactly where that is given
abbrev pub is_stall : QueueChange → Bool
is_stall (Stalls fault) = true
is_stall change = false

abbrev pub queue_told : ℕ → Bool → QueueChange → Option Event
queue_told offset stalled change = if (if stalled then is_stall change else not (is_stall change)) then Some (Queue offset change) else None

-- EnableLPIs is that of the redistributor that the call accesses
abbrev pub enable_told : Option Operation → Option Event
enable_told (Some (Access (Mem (Redist vcpu) offset size write))) = Some (Enable vcpu)
enable_told operation = None

-- a value is stored that is given so
abbrev pub put_told : TracePlace → ℕ → Option Event
put_told place value = if is_word place value (stored_of place value) then option_map (λ word. Put word (stored_of place value)) (word_at place) else None

-- an actor that has a CPU interface moves an interrupt there, or accesses it
abbrev pub if_vcpu : Option ℕ → (ℕ → Event) → Option Event
if_vcpu vcpu event = option_map event vcpu

-- the event of an actor that is in a call for this, if it is in one, and made this in it; none where it can be no event
abbrev pub event_told : Ideal → Option ℕ → Option Operation → List Happened → Act → Option Event
event_told ideal vcpu operation piece (Reaches key) = if_vcpu vcpu (Reach key)
event_told ideal vcpu operation piece (Takes key) = if_vcpu vcpu (Take key)
event_told ideal vcpu operation piece (Leaves key) = if_vcpu vcpu (Leave key)
event_told ideal vcpu operation piece (Raises key) = Some (Raise key)
event_told ideal vcpu operation piece (GoesUp key) = Some (Up key)
event_told ideal vcpu operation piece (GoesDown key) = Some (Down key)
event_told ideal vcpu operation piece (Accesses reg write answer) = if_vcpu vcpu (λ vcpu. Cpu vcpu reg write)
event_told ideal vcpu operation piece (Touches key what answer) = Some (Touch key what)
event_told ideal vcpu operation piece Enables = enable_told operation
event_told ideal vcpu operation piece (Reads place value) = Some (Read (place_at place))
event_told ideal vcpu operation piece (Puts place value) = put_told place value
event_told ideal vcpu operation piece (BeginsCtlr enables) = Some (CtlrBegin (enables_in enables))
event_told ideal vcpu operation piece EndsCtlr = Some CtlrEnd
event_told ideal vcpu operation piece BeginsIts = Some ItsBegin
event_told ideal vcpu operation piece EndsIts = Some ItsEnd
event_told ideal vcpu operation piece (MovesQueue offset stalled) = queue_told offset stalled (change_at ideal vcpu operation piece)
event_told ideal vcpu operation piece act = None

-- Reads that are put in.

-- before a part that reads a configuration byte: of GICR_PROPBASER of the vCPU that the LPI is for, or is to be for, unless the call has read that for this part
abbrev pub byte_place : Ideal → Event → Option Place
byte_place ideal (Touch (Lpi id) (MapLpi target enabled prio)) = Some (Word (Propbaser target))
byte_place ideal (Touch (Lpi id) (Configure enabled prio)) = option_map (λ vcpu. Word (Propbaser vcpu)) (targets_in ideal id)
byte_place ideal event = None

abbrev pub unless_read : Option ℕ → List Happened → Place → List Place
unless_read vcpu piece place = if has_read vcpu place piece then [] else place ∷ []

abbrev pub places_before : Ideal → Option ℕ → List Happened → Event → List Place
places_before ideal vcpu piece event = option_map_or (unless_read vcpu piece) (byte_place ideal event) []

-- behind the begin of a turn: of the registers that an actor that has the ITS knows; and where EnableLPIs becomes 1, of GICR_PENDBASER
abbrev pub places_after : Event → Found → List Place
places_after ItsBegin found = Word ItsCtlr ∷ Word Cbaser ∷ Word Cwriter ∷ QueuePlace ∷ []
places_after (Enable vcpu) (FoundLpis false) = Word (Pendbaser vcpu) ∷ []
places_after event found = []

-- each finds what is there
abbrev pub reading : Ideal → ℕ → Place → Moment
reading ideal actor place = Happens actor (Read place) (held_at (view_at ideal) place)

-- Moments.

-- an event among these reads
abbrev pub moments_round : Ideal → ℕ → List Happened → Event → List Moment
moments_round ideal actor piece event =
    let found = handed_out ideal event in
    map (reading ideal actor) (places_before ideal (vcpu_of ideal.guest.shape actor) piece event) ++ Happens actor event found ∷ map (reading ideal actor) (places_after event found)

-- if what is given of it is what is there
abbrev pub with_reads : Ideal → ℕ → List Happened → Act → Event → Option (List Moment)
with_reads ideal actor piece act event = if gives act (handed_out ideal event) then Some (moments_round ideal actor piece event) else None

abbrev pub event_moments : Ideal → ℕ → Option Operation → List Happened → Act → Option (List Moment)
event_moments ideal actor operation piece act = option_and_then (with_reads ideal actor piece act) (event_told ideal (vcpu_of ideal.guest.shape actor) operation piece act)

-- the moments of an actor that is in a call for this, if it is in one, and made this in it
abbrev pub moments_told : Ideal → ℕ → Option Operation → List Happened → Act → Option (List Moment)
moments_told ideal actor operation piece (Begins call) = Some (Begin actor (operation_of call) ∷ [])
moments_told ideal actor operation piece (Ends answer) = Some (End actor answer ∷ [])
moments_told ideal actor operation piece act = event_moments ideal actor operation piece act

-- what an actor's event says after a course
abbrev pub told_by : Course → Act → ℕ → Option (List Moment)
told_by course act actor = moments_told course.ideal actor (option_map (λ call. call.operation) (call_of course actor)) (option_map_or (λ call. call.piece) (call_of course actor) []) act

-- what an event of a trace says after a course: none where it can be no moment there
abbrev pub told : Course → TraceEvent → Option (List Moment)
told course event = option_and_then (told_by course event.act) (actor_of course.ideal.guest.shape event.by)

-- and what events say, one after the other
abbrev pub told_from : Course → List TraceEvent → Option (List Moment)
told_from course [] = Some []
told_from course (event ∷ events) = option_and_then (λ moments. option_map (λ later. moments ++ later) (told_from (course_of course moments) events)) (told course event)
