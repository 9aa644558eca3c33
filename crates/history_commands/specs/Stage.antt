-- Commands of an ITS as a call goes through them, one event after the other: how far it has come, which event may be its next, and where that takes it. Reads may
-- come at any time; of those of one place the last counts.
use Rattle.std.specs.Prelude.{◌≡◌, ℕ, ◌+◌, ◌==◌, Bool, true, false, IsTrue, List, [], ◌∷◌, ◌++◌, All, Option, Some, None, if◌then◌else◌}
use Rattle.history_commands.specs.Words.{GuestShape, Lpi}
use Rattle.history_commands.specs.Registers.{Maps}
use Rattle.history_commands.specs.Calls.{Event, Touch, Found, Record, Touching, Happened, Part, View, Place, HandsOut, IsLastRead, held_at, is_beside, takes_command, command_parts, command_places, queue_event, lpi_event, byte_places, words_read}
use Rattle.history_commands.specs.GicCall.declared.event.Event.TheVariants.{ItsEnd}
use Rattle.history_commands.specs.GicCall.declared.event.Found.TheVariants.{Nothing}
use Rattle.history_commands.specs.HistoryCalls.Found.{found_by}
use Rattle.history_commands.specs.declared.its.Its.{Its}
use Rattle.history_commands.specs.Known.{view_by, its_after, maps_left}

-- before the command of a number from 0, with what was read since the one before it; within it, with what was read before its first event, with the parts that are
-- left of it, and with the reads that count for the next one; after the last command, where the ITS is given back next; and after that
pub data Stage : Type 0 where
  Between : ℕ → Its → Maps → List Happened → Stage
  Within : ℕ → Its → Maps → List Happened → List Part → List Happened → Stage
  Ending : Stage
  Over : Stage

-- Which event may be next.

pub record IsGivenBack (happened : Happened) : Type 0 where
  pub event_is : happened.event ≡ ItsEnd
  pub found_is : happened.found ≡ Nothing

-- these places were read, the last time as the view has them
abbrev pub AreReadBy : View → List Happened → List Place → Type 0
AreReadBy view reads places = All (λ place. IsLastRead place (held_at view place) reads) places

-- an event is what a part of a command does to its LPI, by what was read before; of the record that it touches it found any
pub record IsPartMade (shape : GuestShape) (targets : ℕ → Option ℕ) (part : Part) (reads : List Happened) (happened : Happened) : Type 0 where
  pub event_is : happened.event ≡ lpi_event shape (found_by reads) targets part
  pub found_in : View
  pub found : HandsOut found_in happened.event happened.found
  pub read : AreReadBy (found_by reads) reads (byte_places shape (found_by reads) targets part)

pub record IsQueueMade (shape : GuestShape) (view : View) (happened : Happened) : Type 0 where
  pub event_is : happened.event ≡ queue_event shape view
  pub found_is : happened.found ≡ Nothing

-- the next part of a command, or its end where no part is left
abbrev pub FitsParts : GuestShape → View → List Part → List Happened → Happened → Type 0
FitsParts shape view [] reads happened = IsQueueMade shape view happened
FitsParts shape view (part ∷ parts) reads happened = IsPartMade shape view.targets part reads happened

-- the first event of the next command, whose doublewords were read; where none is taken, the ITS is given back
abbrev pub FitsTaken : GuestShape → View → List Happened → Bool → Happened → Type 0
FitsTaken shape view reads true happened = AreReadBy view reads (command_places shape view) × FitsParts shape view (command_parts shape view) reads happened
FitsTaken shape view reads false happened = IsGivenBack happened

abbrev pub FitsNamed : GuestShape → (ℕ → ℕ → Option ℕ) → Stage → Happened → Type 0
FitsNamed shape targets (Between number its maps reads) happened = let view = view_by its maps (targets number) reads in FitsTaken shape view reads (takes_command view) happened
FitsNamed shape targets (Within number its maps fetch parts reads) happened = FitsParts shape (view_by its maps (targets number) fetch) parts reads happened
FitsNamed shape targets Ending happened = IsGivenBack happened
FitsNamed shape targets Over happened = ⊥

abbrev pub FitsUnless : Bool → GuestShape → (ℕ → ℕ → Option ℕ) → Stage → Happened → Type 0
FitsUnless true shape targets stage happened = Unit {0}
FitsUnless false shape targets stage happened = FitsNamed shape targets stage happened

-- an event of the actor may be the next
abbrev pub Fits : GuestShape → (ℕ → ℕ → Option ℕ) → ℕ → Stage → Happened → Type 0
Fits shape targets actor stage happened = FitsUnless (is_beside (Some actor) happened.event) shape targets stage happened

-- Where it takes the call.

-- an event that is not named: a read counts for what comes next
abbrev pub noting : Stage → Happened → Stage
noting (Between number its maps reads) happened = Between number its maps (reads ++ happened ∷ [])
noting (Within number its maps fetch parts reads) happened = Within number its maps fetch parts (reads ++ happened ∷ [])
noting stage happened = stage

-- of the parts one less is left, and what was read before it does not count for the next one but for the doublewords; after the end of the command comes the next
abbrev pub parts_after : GuestShape → (ℕ → ℕ → Option ℕ) → ℕ → Its → Maps → List Happened → List Part → Happened → Stage
parts_after shape targets number its maps fetch [] happened = Between (number + 1) (its_after its happened.event) (maps_left maps happened.event) []
parts_after shape targets number its maps fetch (part ∷ parts) happened = Within number its maps fetch parts (words_read shape (view_by its maps (targets number) fetch))

abbrev pub named_after : GuestShape → (ℕ → ℕ → Option ℕ) → Stage → Happened → Stage
named_after shape targets (Between number its maps reads) happened =
    let view = view_by its maps (targets number) reads in
    if takes_command view then parts_after shape targets number its maps reads (command_parts shape view) happened else Over
named_after shape targets (Within number its maps fetch parts reads) happened = parts_after shape targets number its maps fetch parts happened
named_after shape targets stage happened = Over

abbrev pub stage_after : GuestShape → (ℕ → ℕ → Option ℕ) → ℕ → Stage → Happened → Stage
stage_after shape targets actor stage happened = if is_beside (Some actor) happened.event then noting stage happened else named_after shape targets stage happened

-- Events one after the other.

-- after its last event the ITS was given back; that of an open call may yet be
abbrev pub MayStop : Bool → Stage → Type 0
MayStop is_open Over = Unit {0}
MayStop is_open stage = IsTrue is_open

-- each event of a piece may be the next, up to its last one
abbrev pub Follow : GuestShape → (ℕ → ℕ → Option ℕ) → ℕ → Bool → Stage → List Happened → Type 0
Follow shape targets actor is_open stage [] = MayStop is_open stage
Follow shape targets actor is_open stage (happened ∷ piece) = Fits shape targets actor stage happened × Follow shape targets actor is_open (stage_after shape targets actor stage happened) piece

-- what an event does to an LPI, if it touches it and found a record
abbrev pub touching_in : ℕ → Event → Found → Option Touching
touching_in id (Touch (Lpi other) touching) (Record irq) = if other == id then Some touching else None
touching_in id event found = None
