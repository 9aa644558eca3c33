-- What a step asks of its actor: of what the actor has for itself, and of what its steps before handed out.
use Rattle.std.specs.Prelude.{All, ◌≡◌, ℕ, ◌==◌, ◌&&◌, not, Bool, true, false, IsTrue, List, [], length, nat_lt, Option, Some, None, is_none, ◌∷◌}
use Rattle.std.specs.Option.{option_map_or}
use Rattle.core_words.specs.Words.{Key, GuestShape, Back}
use Rattle.core_words.specs.Calls.{Touching, MapLpi, Fault, Cbaser, ItsCtlr, place_of_plain, QueueChange, Runs, Done, Stalls, queue_event, command_places, is_its_enabled}
use Rattle.core_words.specs.Registers.{queue_of, translated}
use Rattle.core_words.specs.GicCall.declared.event.Event.TheVariants.{Queue as QueueEvent}
use Rattle.core_words.specs.GicCall.declared.event.Place.TheVariants.{Word, Queue as QueuePlace}
use Rattle.core_words.specs.GicCall.declared.touch.Touching.TheVariants.{Retarget, Configure, Forget}
use Rattle.port_core.specs.declared.at_list.AtIrq.{AtIrq}
use Rattle.port_core.specs.declared.local.Local.{Local}
use Rattle.port_core.specs.declared.local.Phase.{Phase}
use Rattle.port_core.specs.declared.local.Phase.TheVariants.{Scanning, Claiming, Loaded}
use Rattle.port_core.specs.declared.run.Made.{Made}
use Rattle.port_core.specs.declared.step.CoreStep.{CoreStep}
use Rattle.port_core.specs.declared.step.CoreStep.TheVariants.{Look, Raise, Claim, GiveBack, Release, Poll, Kick, Touch, Want, WireUp, WireDown, EnableLpis, RamLook, RamPut, CtlrTake, CtlrEnd, TurnTake, CommandDone, TurnRelease, Mark, TakeIndex, LineEnter, LineLeave, LineFill, LineClose}
use Rattle.core_words.specs.declared.word_id.WordId.TheVariants.{Queue, Plain}
use Rattle.port_core.specs.Known.{known, known_word, known_view, is_known, last_made}
use Rattle.port_core.specs.Local.{entry_for, back_of, owes_no_kick, owes_no_mark, is_in_line, has_all_shut}

-- an interrupt that is at the interface was not given back, or there is room for another one: an interface has 16 at most
abbrev pub may_claim : Key → Local → Bool
may_claim key local = option_map_or (λ entry. not entry.given) (entry_for key local.at) (nat_lt (length local.at) 16)

-- a step that claims finds room
abbrev pub has_room : CoreStep → Local → Bool
has_room (Claim key seen) local = may_claim key local
has_room step local = true

-- an interrupt is at the interface and not given back yet, and this is what comes back of it
pub record CanGiveBack (key : Key) (back : Back) (local : Local) : Type 0 where
  pub entry : AtIrq
  pub at : entry_for key local.at ≡ Some entry
  pub here : entry.given ≡ false
  pub whole : back ≡ back_of entry

-- an interrupt is at the interface, and was given back
pub record CanRelease (key : Key) (local : Local) : Type 0 where
  pub entry : AtIrq
  pub at : entry_for key local.at ≡ Some entry
  pub given : entry.given ≡ true
  pub marks : IsTrue (owes_no_mark local)

-- the vCPU may do accesses: it has looked at its candidates since it last held nothing
abbrev pub is_ready : Phase → Bool
is_ready Claiming = true
is_ready Loaded = true
is_ready phase = false

-- the vCPU may take its candidate index: where it begins a scan, and in trap mode later too
abbrev pub may_take_index : Phase → Bool
may_take_index Scanning = true
may_take_index Claiming = true
may_take_index Loaded = true
may_take_index phase = false

-- a touch changes what an LPI is for, or whether and how it is delivered
abbrev pub changes_lpi : Touching → Bool
changes_lpi (MapLpi target enabled prio) = true
changes_lpi (Retarget target) = true
changes_lpi (Configure enabled prio) = true
changes_lpi Forget = true
changes_lpi kind = false

-- the interface is empty, and no mark is owed, where the actor touches an interrupt; and where it changes an LPI, it knows all lines to be shut
pub record CanTouchNow (kind : Touching) (local : Local) : Type 0 where
  pub empty : local.at ≡ []
  pub marks : IsTrue (owes_no_mark local)
  pub lines : changes_lpi kind ≡ true → IsTrue (has_all_shut local)

-- the plain word that keeps the number of a fault
abbrev pub fault_place : GuestShape → ℕ
fault_place shape = place_of_plain shape Fault

-- the queue is not stalled, as the actor's last step on it left it
pub record IsKnownRunning (shape : GuestShape) (actor : ℕ) (own : List Made) : Type 0 where
  pub word : ℕ
  pub known_as : known shape actor own Queue ≡ Some word
  pub runs : (queue_of word).stalled ≡ false

-- the number of a fault is stored by the actor that has the ITS, before the queue stalls
pub record CanPutFault (shape : GuestShape) (actor : ℕ) (local : Local) (own : List Made) : Type 0 where
  pub turn : IsTrue local.turn
  pub runs : IsKnownRunning shape actor own

-- a plain word may be stored, which keeps the number of a fault or does not
abbrev pub CanPut : Bool → GuestShape → ℕ → Local → List Made → Type 0
CanPut true shape actor local own = CanPutFault shape actor local own
CanPut false shape actor local own = Unit {0}

-- the plain word of GITS_CTLR
abbrev pub its_ctlr_place : GuestShape → ℕ
its_ctlr_place shape = place_of_plain shape ItsCtlr

-- a plain word is stored so; and GITS_CTLR, by which messages are translated, by an actor that knows all lines to be shut
pub record CanPutWord (shape : GuestShape) (actor : ℕ) (local : Local) (own : List Made) (index : ℕ) : Type 0 where
  pub fault : CanPut (index == fault_place shape) shape actor local own
  pub lines : (index == its_ctlr_place shape) ≡ true → IsTrue (has_all_shut local)

-- the number of the fault that the actor stored last
abbrev pub known_fault : GuestShape → ℕ → List Made → ℕ
known_fault shape actor own = known_word shape actor own (Plain (fault_place shape))

-- how the queue goes on: by a write of a register, by a good command, or by one with the fault that is stored
abbrev pub change_of : GuestShape → ℕ → List Made → Bool → Option (List ℕ) → QueueChange
change_of shape actor own stalled (Some words) = Done words
change_of shape actor own true None = Stalls (known_fault shape actor own)
change_of shape actor own false None = Runs

-- the last step of an actor stored the number of a fault
pub record HasPutFault (shape : GuestShape) (own : List Made) : Type 0 where
  pub seen : ℕ
  pub value : ℕ
  pub last : Made
  pub is_last : last_made own ≡ Some last
  pub put : last.step ≡ RamPut (fault_place shape) seen value
  pub stored : last.found ≡ seen

-- the end of a command is the one that its doublewords and the maps ask for, as the actor's own steps found them since it took the ITS
pub record EndsCommand (shape : GuestShape) (actor : ℕ) (own : List Made) (offset : ℕ) (stalled : Bool) (done : Option (List ℕ)) : Type 0 where
  pub fetched : All (λ place. IsTrue (is_known shape actor own place)) (QueuePlace ∷ Word Cbaser ∷ command_places shape (known_view shape actor own))
  pub ends : queue_event shape (known_view shape actor own) ≡ QueueEvent offset (change_of shape actor own stalled done)

-- the queue goes on so: a command's end is its own, and a stall stores its fault first
abbrev pub IsQueueStep : GuestShape → ℕ → List Made → ℕ → Bool → Option (List ℕ) → Type 0
IsQueueStep shape actor own offset false None = Unit {0}
IsQueueStep shape actor own offset true None = EndsCommand shape actor own offset true None × HasPutFault shape own
IsQueueStep shape actor own offset stalled (Some words) = EndsCommand shape actor own offset stalled (Some words)

-- a command ends, or a register's write moves the queue: the actor knows all lines to be shut
pub record CanEnd (shape : GuestShape) (actor : ℕ) (local : Local) (own : List Made) (offset : ℕ) (stalled : Bool) (done : Option (List ℕ)) : Type 0 where
  pub turn : IsTrue local.turn
  pub kicks : IsTrue (owes_no_kick local)
  pub lines : IsTrue (has_all_shut local)
  pub queue : IsQueueStep shape actor own offset stalled done

-- the LPI that a message becomes by the maps and by GITS_CTLR, as the actor that has the ITS knows them
abbrev pub known_lpi : GuestShape → ℕ → List Made → ℕ → ℕ → Option ℕ
known_lpi shape actor own device event = translated (known_view shape actor own).maps (is_its_enabled (known_view shape actor own)) device event

-- a line is filled by the actor that has the ITS and knows GITS_CTLR since it took it, with the LPI that the message becomes; and not while it knows all
-- lines to be shut, as it does where a command changes LPIs
pub record CanFillNow (shape : GuestShape) (actor : ℕ) (local : Local) (own : List Made) (device event lpi : ℕ) : Type 0 where
  pub turn : IsTrue local.turn
  pub some_open : has_all_shut local ≡ false
  pub looked : IsTrue (is_known shape actor own (Word ItsCtlr))
  pub translates : known_lpi shape actor own device event ≡ Some lpi

-- what a step asks of its actor
abbrev pub Meets : GuestShape → ℕ → Local → List Made → CoreStep → Type 0
Meets shape actor local own (Look word) = Unit {0}
Meets shape actor local own (Raise key) = IsTrue (owes_no_mark local)
Meets shape actor local own (Claim key seen) = IsTrue (may_claim key local)
Meets shape actor local own (GiveBack key back) = CanGiveBack key back local
Meets shape actor local own (Release key) = CanRelease key local
Meets shape actor local own (Poll None write) = local.at ≡ []
Meets shape actor local own (Poll (Some reg) write) = IsTrue (is_ready local.phase)
Meets shape actor local own (Kick vcpu) = IsTrue (owes_no_mark local)
Meets shape actor local own (Touch key seen kind) = CanTouchNow kind local
Meets shape actor local own (Want key) = Unit {0}
Meets shape actor local own (WireUp key) = IsTrue (owes_no_mark local)
Meets shape actor local own (WireDown key) = IsTrue (owes_no_mark local)
Meets shape actor local own (EnableLpis vcpu) = Unit {0}
Meets shape actor local own (RamLook index) = Unit {0}
Meets shape actor local own (RamPut index seen value) = CanPutWord shape actor local own index
Meets shape actor local own (CtlrTake seen value) = Unit {0}
Meets shape actor local own CtlrEnd = IsTrue local.ctlr
Meets shape actor local own (TurnTake seen) = Unit {0}
Meets shape actor local own (CommandDone offset stalled ending) = CanEnd shape actor local own offset stalled ending
Meets shape actor local own TurnRelease = IsTrue local.turn
Meets shape actor local own (Mark key vcpu) = Unit {0}
Meets shape actor local own (TakeIndex word) = IsTrue (may_take_index local.phase && owes_no_mark local)
Meets shape actor local own (LineEnter line seen) = IsTrue (is_none local.line)
Meets shape actor local own (LineLeave line) = IsTrue (is_in_line line local)
Meets shape actor local own (LineFill line device event lpi) = CanFillNow shape actor local own device event lpi
Meets shape actor local own (LineClose line) = IsTrue local.turn
