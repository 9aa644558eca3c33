-- Runs of the core: steps of actors, one after the other, from the words with which a guest opens, which are those of any guest that can open.
use Rattle.std.specs.Prelude.{◌≡◌, ℕ, ◌+◌, ◌*◌, ◌^◌, ◌<◌, ◌==◌, ◌&&◌, ◌||◌, Bool, true, false, IsTrue, List, [], ◌∷◌, ◌++◌, map, filter, fold, length, nat_lt, if◌then◌else◌, Option, Some, None, bit_or, slice_index_or, slice_set}
use Rattle.std.specs.Option.{option_map_or}
use Rattle.std.specs.List.{range_with_len}
use Rattle.core_words.specs.Words.{Vcpu as VcpuActor, GuestShape, Irq as IrqRecord, is_number, is_ripe, packed}
use Rattle.core_words.specs.Registers.{IsValid as IsValidMaps, Maps, packed as packed_queue}
use Rattle.core_words.specs.Calls.{opening_cpu}
use Rattle.core_words.specs.IdealGuests.Ideal.{irq_at, cpu_at}
use Rattle.core_words.specs.IdealGuests.declared.guest.IdealGuest.{IdealGuest}
use Rattle.port_core.specs.declared.local.Local.{Local}
use Rattle.port_core.specs.declared.run.Entry.{Entry}
use Rattle.port_core.specs.declared.run.Made.{Made}
use Rattle.port_core.specs.declared.step.CoreStep.{CoreStep}
use Rattle.port_core.specs.declared.step.CoreStep.TheVariants.{TurnTake}
use Rattle.core_words.specs.declared.word_id.WordId.{WordId}
use Rattle.core_words.specs.declared.word_id.WordId.TheVariants.{Irq, Vcpu, Index, Queue, Ctlr, Plain, Line}
use Rattle.port_core.specs.Actor.{actor_at, actor_count}
use Rattle.port_core.specs.After.{local_after}
use Rattle.port_core.specs.Condition.{Meets}
use Rattle.port_core.specs.Effect.{succeeds, word_after}
use Rattle.core_words.specs.Forms.{packed_vcpu, packed_ctlr, packed_line, empty_line}
use Rattle.port_core.specs.Known.{maps_by_step, known_maps}
use Rattle.port_core.specs.Local.{opening_local}
use Rattle.core_words.specs.Place.{has_word, index_bits, key_of_bit, word_count, word_at, place_of_word}
use Rattle.port_core.specs.Step.{word_of, CanStep}
use Rattle.port_core.specs.Valid.{IsValid, IsLocal, Ties}

-- an actor: what it has for itself, and the steps that it made, oldest first
pub record Seat : Type 0 where
  pub local : Local
  pub own : List Made

-- the state of the core: each word by its place, each actor by its number, and the maps of the ITS
pub record CoreState : Type 0 where
  pub words : List ℕ
  pub seats : List Seat
  pub maps : Maps

-- The opening.

-- an interrupt concerns a vCPU: it is ripe for it, or active by it
abbrev pub concerns : GuestShape → ℕ → IrqRecord → Bool
concerns shape vcpu irq = is_ripe irq vcpu shape || is_number vcpu irq.act_by

-- the bit of a vCPU's candidate index is that of an interrupt that concerns the vCPU
abbrev pub is_asked : IdealGuest → ℕ → ℕ → Bool
is_asked guest vcpu bit = nat_lt bit (index_bits guest.shape) && concerns guest.shape vcpu (irq_at guest (key_of_bit guest.shape vcpu bit))

-- a word of a vCPU's candidate index: exactly such bits
abbrev pub opening_index : IdealGuest → ℕ → ℕ → ℕ
opening_index guest vcpu number = fold (λ word bit. if is_asked guest vcpu (64 * number + bit) then bit_or word (2 ^ bit) else word) 0 (range_with_len 0 64)

-- a word as a guest opens: what the guest has, no vCPU is kicked, nobody holds an interrupt, has the ITS or the mark of GICD_CTLR, and lines are empty
abbrev pub opening_word_of : IdealGuest → WordId → ℕ
opening_word_of guest (Irq key) = packed (irq_at guest key)
opening_word_of guest (Vcpu vcpu) = packed_vcpu (record { lpis = (cpu_at guest vcpu).lpis; kick = false })
opening_word_of guest (Index vcpu number) = opening_index guest vcpu number
opening_word_of guest Queue = packed_queue (record { offset = guest.offset; stalled = guest.is_stalled; turn = None })
opening_word_of guest Ctlr = packed_ctlr (record { enables = guest.enables; mark = None })
opening_word_of guest (Plain index) = slice_index_or guest.words index 0
opening_word_of guest (Line line) = packed_line empty_line

-- the word at a place; 0 where it only fills a line
abbrev pub opening_word : IdealGuest → ℕ → ℕ
opening_word guest place = option_map_or (opening_word_of guest) (word_at guest.shape place) 0

-- what an actor has for itself as its guest opens: a vCPU its CPU interface's record, EnableLPIs among it
abbrev pub opening_local_of : IdealGuest → ℕ → ℕ → Local
opening_local_of guest number actor = opening_local (actor_at guest.shape number actor) (cpu_at guest actor)

-- a guest of a number as it opens
abbrev pub opening_seat : IdealGuest → ℕ → ℕ → Seat
opening_seat guest number actor = record { local = opening_local_of guest number actor; own = [] }

abbrev pub opening : IdealGuest → ℕ → CoreState
opening guest number =
    record {
      words = map (opening_word guest) (range_with_len 0 (word_count guest.shape));
      seats = map (opening_seat guest number) (range_with_len 0 (actor_count guest.shape));
      maps = guest.tables;
    }

-- Steps.

-- no actor: it has nothing
abbrev pub no_seat : Seat
no_seat = record { local = opening_local (VcpuActor 0 0) (opening_cpu false); own = [] }

abbrev pub seat_at : CoreState → ℕ → Seat
seat_at state actor = slice_index_or state.seats actor no_seat

-- a word of the guest
abbrev pub word_in : GuestShape → CoreState → WordId → ℕ
word_in shape state word = slice_index_or state.words (place_of_word shape word) 0

-- the maps of the ITS are handed out by a step that takes it
abbrev pub is_taking : CoreStep → Bool
is_taking (TurnTake seen) = true
is_taking step = false

abbrev pub handed_maps : GuestShape → ℕ → CoreState → CoreStep → ℕ → Option Maps
handed_maps shape actor state step found =
    if is_taking step then (if succeeds shape actor (seat_at state actor).local step found then Some state.maps else None) else None

-- the state after a step of an actor
abbrev pub after : GuestShape → CoreState → Entry → CoreState
after shape state entry =
    let seat = seat_at state entry.actor in
    record {
      words = slice_set state.words (place_of_word shape (word_of shape entry.actor entry.made.step)) entry.made.left;
      seats =
          slice_set state.seats entry.actor
          (record { local = local_after shape entry.actor seat.local entry.made.step entry.made.found; own = seat.own ++ entry.made ∷ [] });
      maps = maps_by_step state.maps entry.made.step;
    }

-- an actor can make a step in a state, and it hands out and leaves this
pub record Takes (shape : GuestShape) (state : CoreState) (entry : Entry) : Type 0 where
  pub actor : entry.actor < actor_count shape
  pub can : CanStep shape entry.actor entry.made.step
  pub meets : Meets shape entry.actor (seat_at state entry.actor).local (seat_at state entry.actor).own entry.made.step
  pub found : entry.made.found ≡ word_in shape state (word_of shape entry.actor entry.made.step)
  pub left : entry.made.left ≡ word_after shape entry.actor (seat_at state entry.actor).local entry.made.step entry.made.found
  pub tables : entry.made.tables ≡ handed_maps shape entry.actor state entry.made.step entry.made.found

-- steps that can be made one after the other
abbrev pub IsRun : GuestShape → CoreState → List Entry → Type 0
IsRun shape state [] = Unit {0}
IsRun shape state (entry ∷ entries) = Takes shape state entry × IsRun shape (after shape state entry) entries

-- the state in which a run ends
abbrev pub end_of : GuestShape → CoreState → List Entry → CoreState
end_of shape state entries = fold (after shape) state entries

-- the steps of an actor in a run
abbrev pub own_steps : ℕ → List Entry → List Made
own_steps actor entries = map (λ entry. entry.made) (filter (λ entry. entry.actor == actor) entries)

-- What is kept.

-- each word is valid, each actor's own state too, and they agree; the commands of the guest can have made the maps, and the actor that has the ITS
-- knows them by its own steps
pub record IsSound (shape : GuestShape) (state : CoreState) : Type 0 where
  pub places : length state.words ≡ word_count shape
  pub actors : length state.seats ≡ actor_count shape
  pub words : (word : WordId) → IsTrue (has_word shape word) → IsValid shape word (word_in shape state word)
  pub locals : (actor : ℕ) → actor < actor_count shape → IsLocal shape actor (seat_at state actor).local
  pub ties : (actor : ℕ) (word : WordId) → actor < actor_count shape → IsTrue (has_word shape word) → Ties shape actor (seat_at state actor).local word (word_in shape state word)
  pub maps : IsValidMaps shape state.maps
  pub known : (actor : ℕ) → actor < actor_count shape → IsTrue (seat_at state actor).local.turn → known_maps (seat_at state actor).own ≡ state.maps
