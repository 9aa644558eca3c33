-- What the actor that has the ITS knows of its queue and of the command that it does (own choice: nobody else changes the ITS meanwhile).
use Rattle.std.specs.Prelude.{◌≡◌, ℕ, ◌+◌, ◌*◌, ◌/◌, ◌<◌, ◌&&◌, ◌==◌, not, Bool, true, false, IsTrue, nat_le, nat_lt, List, [], ◌∷◌, map, find, Option, Some, None, is_none, IfSome}
use Rattle.std.specs.List.{list_all, list_any}
use Rattle.port_call.specs.Words.{Lpi, has_interrupt, target_in, irq_of}
use Rattle.port_call.specs.Calls.{Ram, ItsCtlr, Cbaser, Cwriter, Event, Found, Place, is_queue_valid, queue_address, Happened, IsLastRead, held_at, memory_at, IsOffset}
use Rattle.port_call.specs.GicCall.declared.event.Event.TheVariants.{Read}
use Rattle.port_call.specs.GicCall.declared.event.Found.TheVariants.{Word as FoundWord, Queue as FoundQueue}
use Rattle.port_call.specs.GicCall.declared.event.Place.TheVariants.{Word, Queue as QueuePlace}
use Rattle.port_call.specs.Registers.{enabled_in, Maps, has_target}
use Rattle.port_call.specs.Core.{Made, CoreStep, RamLook, RamPut, CommandDone, TurnRelease, Irq, is_on, is_known, since_command, ends_command, reading_of, Seen, Adds, shape_of, part_events}
use Rattle.port_call.specs.Memory.{view_by}
use Rattle.port_call.specs.Piece.{IsPiece}
use Rattle.its_exec.specs.declared.fetch.Fetched.{Fetched}
use Rattle.its_exec.specs.declared.known.KnownQueue.{KnownQueue}

-- the actor knows what a place holds since it took the ITS: this
pub record Knows (seen : Seen) (place : Place) (found : Found) : Type 0 where
  pub known : IsTrue (is_known (shape_of seen) seen.actor seen.own place)
  pub held : held_at (view_by seen) place ≡ found

-- it knows the same of a place as before
pub record KnowsSame (old new : Seen) (place : Place) : Type 0 where
  pub known : is_known (shape_of new) new.actor new.own place ≡ is_known (shape_of old) old.actor old.own place
  pub held : held_at (view_by new) place ≡ held_at (view_by old) place

-- it knows the registers of the queue
pub record KnowsQueue (seen : Seen) (queue : KnownQueue) : Type 0 where
  pub place : Knows seen QueuePlace (FoundQueue queue.offset queue.stalled)
  pub ctlr : Knows seen (Word ItsCtlr) (FoundWord queue.ctlr)
  pub cbaser : Knows seen (Word Cbaser) (FoundWord queue.cbaser)
  pub cwriter : Knows seen (Word Cwriter) (FoundWord queue.cwriter)
  pub in_range : IsOffset queue.offset

-- a further command is taken, of a queue that is so
abbrev pub takes_next : KnownQueue → Bool
takes_next queue = enabled_in queue.ctlr && is_queue_valid queue.cbaser && not queue.stalled && not (queue.offset == queue.cwriter)

-- an event is a read
abbrev pub is_read_event : Event → Bool
is_read_event (Read place) = true
is_read_event event = false

abbrev pub is_read : Happened → Bool
is_read happened = is_read_event happened.event

-- a step that neither takes the ITS nor ends a command
abbrev pub is_within : Made → Bool
is_within made = is_none made.tables && not (ends_command made.step)

abbrev pub are_within : List Made → Bool
are_within part = list_all is_within part

-- a step that leaves what was read of the next command: it neither takes the ITS nor gives it back, stores no word and does not move the queue
abbrev pub keeps_read : CoreStep → Bool
keeps_read TurnRelease = false
keeps_read (RamPut index seen value) = false
keeps_read (CommandDone offset stalled ending) = false
keeps_read step = true

abbrev pub is_going : Made → Bool
is_going made = is_none made.tables && keeps_read made.step

abbrev pub are_going : List Made → Bool
are_going part = list_all is_going part

-- a look at a word of the memory
abbrev pub is_look_of : ℕ → CoreStep → Bool
is_look_of word (RamLook index) = index == word
is_look_of word step = false

abbrev pub looks_at : ℕ → List Made → Bool
looks_at word part = list_any (λ made. is_look_of word made.step) part

-- the actor has read the first doubleword of the command at an address, in the memory, since it took the ITS, stored a word or moved the queue
pub record HasBegun (seen : Seen) (address : ℕ) : Type 0 where
  pub read : List Made
  pub reading : reading_of seen.own ≡ Some read
  pub looked : IsTrue (looks_at (address / 8) read)
  pub inside : address / 8 < (shape_of seen).ram / 8
  pub queue : IsTrue (is_known (shape_of seen) seen.actor seen.own (Word Cbaser))

-- the first step of the present command on an LPI's word
abbrev pub first_step : Seen → ℕ → Option Made
first_step seen id = find (is_on (shape_of seen) seen.actor (Irq (Lpi id))) (since_command seen.own)

-- the present command made no step on it yet
pub record IsUntouched (seen : Seen) (id : ℕ) : Type 0 where
  pub none : first_step seen id ≡ None

-- a part of a command that only reads
pub record Reading (old new : Seen) (part : List Made) : Type 0 where
  pub adds : Adds old new part
  pub local : new.local ≡ old.local
  pub within : IsTrue (are_within part)
  pub going : IsTrue (are_going part)
  pub reads : IsTrue (list_all is_read (part_events old part))
  pub untouched : (id : ℕ) → IsTrue (has_interrupt (shape_of old) (Lpi id)) → IsUntouched old id → IsUntouched new id
  pub piece : IsPiece old part

-- what is to be seen of looks at the registers of the queue that found this
abbrev pub queue_reads : KnownQueue → List Happened
queue_reads queue =
    (record { event = Read QueuePlace; found = FoundQueue queue.offset queue.stalled })
    ∷ (record { event = Read (Word ItsCtlr); found = FoundWord queue.ctlr })
    ∷ (record { event = Read (Word Cbaser); found = FoundWord queue.cbaser })
    ∷ (record { event = Read (Word Cwriter); found = FoundWord queue.cwriter })
    ∷ []

-- an actor looked at the registers of the queue, and knows them: only these reads are to be seen of it
pub record LooksAtQueue (old new : Seen) (queue : KnownQueue) : Type 0 where
  pub part : List Made
  pub reading : Reading old new part
  pub events : part_events old part ≡ queue_reads queue
  pub knows : KnowsQueue new queue

-- a word of the guest's memory is one of the four doublewords of the command at an address
abbrev pub is_fetched : ℕ → ℕ → Bool
is_fetched address index = nat_le (address / 8) index && nat_lt index (address / 8 + 4)

-- a place is known, and the last read of it in some events found what is known
pub record HasRead (seen : Seen) (place : Place) (events : List Happened) : Type 0 where
  pub known : IsTrue (is_known (shape_of seen) seen.actor seen.own place)
  pub last : IsLastRead place (held_at (view_by seen) place) events

-- what a doubleword of a command is known to hold, where it is in the guest's memory
abbrev pub KnowsDoubleword : Seen → ℕ → ℕ → ℕ → Type 0
KnowsDoubleword seen address number value = address / 8 + number < (shape_of seen).ram / 8 → Knows seen (Word (Ram (address / 8 + number))) (FoundWord value)

-- so it is of each doubleword of the command at an address that is in the guest's memory
pub record HasFetched (seen : Seen) (address : ℕ) (events : List Happened) : Type 0 where
  pub each : (index : ℕ) → IsTrue (is_fetched address index) → index < (shape_of seen).ram / 8 → HasRead seen (Word (Ram index)) events

-- an actor fetched the next command from where the queue is: its doublewords are what its looks found, and 0 outside of the memory
pub record Fetches (old new : Seen) (queue : KnownQueue) (fetched : Fetched) : Type 0 where
  pub part : List Made
  pub reading : Reading old new part
  pub address_is : fetched.address ≡ queue_address queue.cbaser + queue.offset
  pub words_are : fetched.words ≡ map (λ number. memory_at (shape_of old) (view_by new) (fetched.address + 8 * number) 8) (0 ∷ 1 ∷ 2 ∷ 3 ∷ [])
  pub has : HasFetched new fetched.address (part_events old part)
  pub looked : fetched.address / 8 < (shape_of old).ram / 8 → IsTrue (looks_at (fetched.address / 8) part)
  pub knows : KnowsQueue new queue

-- The vCPUs that LPIs are for.

-- of each LPI on whose word the present command made a step, the vCPU is the one that the first of these found
pub record AgreeFound (seen : Seen) (targets : ℕ → Option ℕ) : Type 0 where
  pub each : (id : ℕ) → IsTrue (has_interrupt (shape_of seen) (Lpi id)) → IfSome (first_step seen id) (λ made. targets id ≡ target_in (irq_of made.found).route (shape_of seen))

-- the present command made no step on it, if it is one of the guest
abbrev pub IsLeft : Seen → ℕ → Type 0
IsLeft seen id = IsTrue (has_interrupt (shape_of seen) (Lpi id)) → IsUntouched seen id

-- and of one whose collection is not mapped, and on which it made none, there is none
pub record AgreeWith (seen : Seen) (maps : Maps) (targets : ℕ → Option ℕ) : Type 0 where
  pub found : AgreeFound seen targets
  pub unmapped : (id : ℕ) → has_target maps id ≡ false → IsLeft seen id → targets id ≡ None
