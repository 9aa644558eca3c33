-- What an actor's port tells of it.
use Rattle.std.specs.Prelude.{◌≡◌, ℕ, ◌<◌, ◌||◌, not, Bool, true, IsTrue, List, [], ◌∷◌, ◌&&◌, ◌++◌, map, Option, option_map, IfSome, is_some, is_none}
use Rattle.std.specs.Option.{option_to_list}
use Rattle.core_words.specs.Words.{GuestShape}
use Rattle.atomic_table.specs.Seated.{TableId}
use Rattle.core_words.specs.Calls.{Happened}
use Rattle.core_words.specs.IdealGuests.CanOpen.{CanOpen}
use Rattle.core_words.specs.IdealGuests.declared.guest.IdealGuest.{IdealGuest}
use Rattle.core_words.specs.Registers.{Maps, IsValid as IsValidMaps}
use Rattle.port_core.specs.declared.local.Local.{Local}
use Rattle.port_core.specs.declared.run.Made.{Made}
use Rattle.port_core.specs.declared.run.Entry.{Entry}
use Rattle.port_core.specs.declared.step.CoreStep.{CoreStep}
use Rattle.port_core.specs.declared.step.CoreStep.TheVariants.{CommandDone, TurnRelease}
use Rattle.port_core.specs.After.{local_after}
use Rattle.port_core.specs.Atomic.{IsSeen}
use Rattle.port_core.specs.Condition.{Meets}
use Rattle.core_words.specs.declared.word_id.WordId.{WordId}
use Rattle.port_core.specs.Effect.{succeeds, word_after}
use Rattle.port_core.specs.Run.{is_taking, opening_local_of}
use Rattle.port_core.specs.Stands.{stands_for}
use Rattle.port_core.specs.Actor.{actor_count}
use Rattle.port_core.specs.Step.{CanStep, word_of}
use Rattle.port_core.specs.Valid.{IsLocal}

-- which words a port is of, the guest whose opening they had and its number, and the actor's number; what the actor has for itself, the steps that it
-- made, oldest first, and whether it has taken the tables of the ITS; and, where the port tells it, the list of all actors' steps
pub record Seen : Type 0 where
  pub home : TableId
  pub guest : IdealGuest
  pub number : ℕ
  pub actor : ℕ
  pub local : Local
  pub own : List Made
  pub taken : Bool
  pub world : Option (List Entry)

abbrev pub shape_of : Seen → GuestShape
shape_of seen = seen.guest.shape

-- what an actor has for itself after some steps of it
abbrev pub local_by : GuestShape → ℕ → Local → List Made → Local
local_by shape actor local [] = local
local_by shape actor local (made ∷ later) = local_by shape actor (local_after shape actor local made.step made.found) later

-- the same after a part: some steps of the actor, with no other actor's between them where the world's list is told
abbrev pub seen_after : Seen → List Made → Seen
seen_after seen part =
    record seen {
      local = local_by (shape_of seen) seen.actor seen.local part;
      own = seen.own ++ part;
      world = option_map (λ world. world ++ map (λ made. record { actor = seen.actor; made = made }) part) seen.world;
    }

-- a call adds a part, and no more
pub record Adds (old new : Seen) (part : List Made) : Type 0 where
  pub new_is : new ≡ seen_after old part

-- two ports are of one actor of the same words
pub record IsSameActor (one other : Seen) : Type 0 where
  pub home : other.home ≡ one.home
  pub guest : other.guest ≡ one.guest
  pub number : other.number ≡ one.number
  pub actor : other.actor ≡ one.actor

-- the ITS is given back with its tables, and they change where the actor has taken them
abbrev pub keeps_tables : Bool → CoreStep → Bool
keeps_tables taken TurnRelease = not taken
keeps_tables taken (CommandDone offset stalled ending) = taken || is_none ending
keeps_tables taken step = true

-- a step that an actor may make
pub record CanMake (seen : Seen) (step : CoreStep) : Type 0 where
  pub can : CanStep (shape_of seen) seen.actor step
  pub seen_is : IsSeen (shape_of seen) step
  pub meets : Meets (shape_of seen) seen.actor seen.local seen.own step
  pub tables : IsTrue (keeps_tables seen.taken step)

-- the word that a step leaves, of the one that it found
abbrev pub left_by : Seen → CoreStep → ℕ → ℕ
left_by seen step found = word_after (shape_of seen) seen.actor seen.local step found

-- the entry of a step in its actor's list
abbrev pub made_by : Seen → CoreStep → ℕ → Option Maps → Made
made_by seen step found tables = record { step = step; found = found; left = left_by seen step found; tables = tables }

-- the word that a step of the actor is on
abbrev pub word_by : Seen → CoreStep → WordId
word_by seen step = word_of (shape_of seen) seen.actor step

-- a step hands out maps of the ITS: it takes the ITS
abbrev pub hands_maps : Seen → CoreStep → ℕ → Bool
hands_maps seen step found = is_taking step && succeeds (shape_of seen) seen.actor seen.local step found

-- the maps that it hands out: valid ones where it does, or else none
pub record AreHanded (seen : Seen) (step : CoreStep) (found : ℕ) (tables : Option Maps) : Type 0 where
  pub where_taken : is_some tables ≡ hands_maps seen step found
  pub valid : IfSome tables (λ maps. IsValidMaps (shape_of seen) maps)

-- a port adds one step to what it tells
pub record AddsStep (old new : Seen) (step : CoreStep) (found : ℕ) : Type 0 where
  pub tables : Option Maps
  pub handed : AreHanded old step found tables
  pub adds : Adds old new (made_by old step found tables ∷ [])

-- what is true of all that a port tells: it is one of a guest that could open, and of one of the guest's actors, whose own state is valid, and is what the actor's
-- steps made of the one with which it opened; and who has taken the tables has the ITS
pub record IsPort (seen : Seen) : Type 0 where
  pub good : CanOpen seen.guest
  pub actor : seen.actor < actor_count (shape_of seen)
  pub local : IsLocal (shape_of seen) seen.actor seen.local
  pub made : seen.local ≡ local_by (shape_of seen) seen.actor (opening_local_of seen.guest seen.number seen.actor) seen.own
  pub turn : IsTrue seen.taken → IsTrue seen.local.turn

-- what the events are for which a part stands, in order
abbrev pub events_of : GuestShape → ℕ → Local → List Made → List Made → List Happened
events_of shape actor local own [] = []
events_of shape actor local own (made ∷ later) =
    option_to_list (stands_for shape actor local own made.step made.found)
    ++ events_of shape actor (local_after shape actor local made.step made.found) (own ++ made ∷ []) later

-- a part of an actor stands for these events
abbrev pub part_events : Seen → List Made → List Happened
part_events seen part = events_of (shape_of seen) seen.actor seen.local seen.own part

-- parts join, and their events do
pub record PartsJoin : Type 0 where
  pub adds : (one two three : Seen) (early late : List Made) → Adds one two early → Adds two three late → Adds one three (early ++ late)
  pub events : (seen : Seen) (early late : List Made) → part_events seen (early ++ late) ≡ part_events seen early ++ part_events (seen_after seen early) late
