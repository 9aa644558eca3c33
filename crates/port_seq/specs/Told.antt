-- What a port of one thread tells: of each guest all steps so far, and which actor is told.
use Rattle.std.specs.Prelude.{◌≡◌, ℕ, ◌<◌, IsTrue, List, [], ◌∷◌, ◌++◌, length, slice_index_or, slice_set, Option, Some, None}
use Rattle.port_ops.specs.Words.{Actor, is_number}
use Rattle.port_ops.specs.GuestWords.{words_at_end}
use Rattle.atomic_table.specs.Seated.{TableId}
use Rattle.port_ops.specs.PortCore.IdealGuests.declared.guest.IdealGuest.{IdealGuest}
use Rattle.port_ops.specs.PortCore.IdealGuests.Opening.{opening}
use Rattle.port_ops.specs.PortCore.declared.end.GuestWords.{GuestWords}
use Rattle.port_ops.specs.PortCore.declared.run.Entry.{Entry}
use Rattle.port_ops.specs.PortCore.declared.step.CoreStep.{CoreStep}
use Rattle.port_ops.specs.PortCore.Actor.{actor_count, guest_of, number_of, has_actor}
use Rattle.port_ops.specs.PortCore.Port.{Seen, local_by}
use Rattle.port_ops.specs.PortCore.Run.{CoreState, opening_local_of, seat_at}
use Rattle.port_ops.specs.Opened.{no_guest}
use Rattle.port_ops.specs.World.{state_after, entry_in}

-- a guest: where its words are, how it opened and its number; the steps of all its actors so far; the actor that has taken the tables of the ITS, if
-- one has; and the actor that is told
pub record GuestTold : Type 0 where
  pub home : TableId
  pub guest : IdealGuest
  pub number : ℕ
  pub world : List Entry
  pub taken : Option ℕ
  pub actor : ℕ

-- its state after those steps
abbrev pub state_of : GuestTold → CoreState
state_of told = state_after told.guest told.number told.world

-- after these steps what each actor of a guest has for itself is what its own steps made of what it opened with
abbrev pub AreMade : IdealGuest → ℕ → List Entry → Type 0
AreMade guest number world =
    (actor : ℕ) → actor < actor_count guest.shape
    → (seat_at (state_after guest number world) actor).local ≡ local_by guest.shape actor (opening_local_of guest number actor) (seat_at (state_after guest number world) actor).own

-- what is told of its actor
abbrev pub seen_of : GuestTold → Seen
seen_of told =
    record {
      home = told.home;
      guest = told.guest;
      number = told.number;
      actor = told.actor;
      local = (seat_at (state_of told) told.actor).local;
      own = (seat_at (state_of told) told.actor).own;
      taken = is_number told.actor told.taken;
      world = Some told.world;
    }

-- a step that its actor makes, and the guest after it
abbrev pub entry_of : GuestTold → CoreStep → ℕ → Entry
entry_of told step found = entry_in told.guest.shape (state_of told) told.actor step found

abbrev pub with_step : GuestTold → CoreStep → ℕ → GuestTold
with_step told step found = record told { world = told.world ++ entry_of told step found ∷ [] }

-- what is told of it at its end: its words, each in its place, and its maps
abbrev pub words_of_end : GuestTold → GuestWords
words_of_end told = words_at_end told.guest.shape (state_of told).words (state_of told).maps

-- a guest as it opens: nothing was done, and its first actor is told
abbrev pub opening_told : TableId → IdealGuest → ℕ → GuestTold
opening_told home guest number = record { home = home; guest = guest; number = number; world = []; taken = None; actor = 0 }

-- All guests of a scenario, and the number of the one whose actor is told
pub record SeqTold : Type 0 where
  pub guests : List GuestTold
  pub guest : ℕ

-- no guest
abbrev pub no_told : GuestTold
no_told = opening_told (record { words = 0; slots = 0; views_name = 0; atom = 0; block = 0; offset = 0; slot_names = [] }) (opening no_guest) 0

-- the guest of a number, and the one whose actor is told
abbrev pub guest_at : SeqTold → ℕ → GuestTold
guest_at told number = slice_index_or told.guests number no_told

abbrev pub current : SeqTold → GuestTold
current told = guest_at told told.guest

-- what is told of that actor
abbrev pub seen_in : SeqTold → Seen
seen_in told = seen_of (current told)

-- the same with another guest in the place of the one whose actor is told
abbrev pub with_current : SeqTold → GuestTold → SeqTold
with_current told guest = record told { guests = slice_set told.guests told.guest guest }

-- there is such an actor
pub record HasActor (told : SeqTold) (actor : Actor) : Type 0 where
  pub guest : guest_of actor < length told.guests
  pub there : IsTrue (has_actor (guest_at told (guest_of actor)).guest.shape actor)

-- another actor is told, and nothing else changes
abbrev pub telling : Actor → SeqTold → SeqTold
telling actor told =
    let number = guest_of actor in
    let guest = guest_at told number in
    record { guests = slice_set told.guests number (record guest { actor = number_of guest.guest.shape actor }); guest = number }

-- the guests as they open, in their order; vCPU 0 of the first is told
pub record IsOpening (guests : List IdealGuest) (told : SeqTold) : Type 0 where
  pub each : length told.guests ≡ length guests
  pub opened : (number : ℕ) → number < length guests → guest_at told number ≡ opening_told (guest_at told number).home (slice_index_or guests number (opening no_guest)) number
  pub first : told.guest ≡ 0
