-- Which event of the ideal controller a step stands for, with what that hands out.
use Rattle.std.specs.Prelude.{ℕ, ◌==◌, false, List, if◌then◌else◌, Option, Some, None, is_some}
use Rattle.core_words.specs.Words.{IccReg, GuestShape, Key, irq_of}
use Rattle.core_words.specs.Registers.{interface_answer, enables_in, queue_of}
use Rattle.core_words.specs.Calls.{plain_at, Event, Up, Down, Enable, Touch as TouchEvent, Reach, Take, Leave, Cpu, Put, CtlrBegin, CtlrEnd as CtlrEndEvent, ItsBegin, Found, Record, Happened}
use Rattle.core_words.specs.GicCall.declared.event.Event.TheVariants.{Raise as RaiseEvent, Read, ItsEnd, Queue as QueueEvent}
use Rattle.core_words.specs.GicCall.declared.event.Place.TheVariants.{Word, Queue as QueuePlace, Ctlr as CtlrPlace, Lpis}
use Rattle.core_words.specs.GicCall.declared.event.Found.TheVariants.{Nothing, Answer, Word as FoundWord, Queue as FoundQueue, Ctlr as FoundCtlr, Lpis as FoundLpis}
use Rattle.port_core.specs.declared.local.Local.{Local}
use Rattle.port_core.specs.declared.run.Made.{Made}
use Rattle.port_core.specs.declared.step.CoreStep.{CoreStep}
use Rattle.port_core.specs.declared.step.CoreStep.TheVariants.{Look, Raise, Claim, GiveBack, Release, Poll, Kick, Touch, Want, WireUp, WireDown, EnableLpis, RamLook, RamPut, CtlrTake, CtlrEnd, TurnTake, CommandDone, TurnRelease, Mark, TakeIndex, LineEnter, LineLeave, LineFill, LineClose}
use Rattle.core_words.specs.declared.word_id.WordId.{WordId}
use Rattle.core_words.specs.declared.word_id.WordId.TheVariants.{Vcpu, Queue, Ctlr}
use Rattle.port_core.specs.After.{interface_of}
use Rattle.port_core.specs.Condition.{change_of, fault_place}
use Rattle.port_core.specs.Effect.{succeeds}
use Rattle.core_words.specs.Forms.{vcpu_of, ctlr_of}
use Rattle.port_core.specs.Local.{is_at}

-- an event that hands out something, or nothing
abbrev pub with_found : Event → Found → Option Happened
with_found event found = Some (record { event = event; found = found })

abbrev pub silent : Event → Option Happened
silent event = with_found event Nothing

-- what a word says of the queue, of GICD_CTLR and of EnableLPIs
abbrev pub found_queue : ℕ → Found
found_queue word = FoundQueue (queue_of word).offset (queue_of word).stalled

abbrev pub found_ctlr : ℕ → Found
found_ctlr word = FoundCtlr (ctlr_of word).enables (is_some (ctlr_of word).mark)

abbrev pub found_lpis : ℕ → Found
found_lpis word = FoundLpis (vcpu_of word).lpis

-- the record of an interrupt at no interface, without the core's note that an access waits for it
abbrev pub found_record : ℕ → Found
found_record word = Record (record (irq_of word) { want = false })

-- a look at a word outside of the interrupts
abbrev pub look_event : WordId → ℕ → Option Happened
look_event Queue found = with_found (Read QueuePlace) (found_queue found)
look_event Ctlr found = with_found (Read CtlrPlace) (found_ctlr found)
look_event (Vcpu vcpu) found = with_found (Read (Lpis vcpu)) (found_lpis found)
look_event word found = None

-- a claim: the interrupt gets to the interface, or brings its causes
abbrev pub claim_event : ℕ → Key → Local → Option Happened
claim_event vcpu key local = silent (if is_at key local.at then Take key vcpu else Reach key vcpu)

-- an access of a register of the CPU interface, unless the vCPU is kicked
abbrev pub poll_event : ℕ → Option IccReg → Option ℕ → ℕ → Local → Option Happened
poll_event vcpu None write found local = None
poll_event vcpu (Some reg) write found local =
    if (vcpu_of found).kick then None else with_found (Cpu vcpu reg write) (Answer (interface_answer reg write (interface_of local)))

-- an event of a plain word; the number of a fault is the stall's
abbrev pub plain_event : GuestShape → ℕ → Event → ℕ → Option Happened
plain_event shape index event found = if index == fault_place shape then None else with_found event (FoundWord found)

-- what a step stands for that does what it is for
abbrev pub event_done : GuestShape → ℕ → Local → List Made → CoreStep → ℕ → Option Happened
event_done shape actor local own (Look word) found = look_event word found
event_done shape actor local own (Raise key) found = silent (RaiseEvent key)
event_done shape actor local own (Claim key seen) found = claim_event actor key local
event_done shape actor local own (GiveBack key back) found = None
event_done shape actor local own (Release key) found = silent (Leave key actor)
event_done shape actor local own (Poll reg write) found = poll_event actor reg write found local
event_done shape actor local own (Kick vcpu) found = None
event_done shape actor local own (Touch key seen kind) found = with_found (TouchEvent key kind) (found_record found)
event_done shape actor local own (Want key) found = None
event_done shape actor local own (WireUp key) found = silent (Up key)
event_done shape actor local own (WireDown key) found = silent (Down key)
event_done shape actor local own (EnableLpis vcpu) found = with_found (Enable vcpu) (found_lpis found)
event_done shape actor local own (RamLook index) found = plain_event shape index (Read (Word (plain_at shape index))) found
event_done shape actor local own (RamPut index seen value) found = plain_event shape index (Put (plain_at shape index) value) found
event_done shape actor local own (CtlrTake seen value) found = silent (CtlrBegin (enables_in value))
event_done shape actor local own CtlrEnd found = silent CtlrEndEvent
event_done shape actor local own (TurnTake seen) found = silent ItsBegin
event_done shape actor local own (CommandDone offset stalled ending) found = silent (QueueEvent offset (change_of shape actor own stalled ending))
event_done shape actor local own TurnRelease found = silent ItsEnd
event_done shape actor local own (Mark key vcpu) found = None
event_done shape actor local own (TakeIndex word) found = None
event_done shape actor local own (LineEnter line seen) found = None
event_done shape actor local own (LineLeave line) found = None
event_done shape actor local own (LineFill line device event lpi) found = None
event_done shape actor local own (LineClose line) found = None

-- what a step stands for: nothing where it does not do what it is for
abbrev pub stands_for : GuestShape → ℕ → Local → List Made → CoreStep → ℕ → Option Happened
stands_for shape actor local own step found = if succeeds shape actor local step found then event_done shape actor local own step found else None
