-- The translation lines of the ITS in runs: what their words say, beside the actors that are in them and the maps of the guest (own choice; the
-- architecture lets an ITS cache what its tables say, as long as each command is done when it ends).
use Rattle.std.specs.Prelude.{◌≡◌, ℕ, ◌^◌, ◌<◌, Bool, false, IsTrue, List, Option, Some, None}
use Rattle.std.specs.List.{list_any}
use Rattle.std.specs.Option.{ForSome}
use Rattle.floor_core.specs.Words.{GuestShape, has_bit}
use Rattle.floor_core.specs.Registers.{enabled_in, translated}
use Rattle.floor_core.specs.Calls.{ItsCtlr, place_of_plain}
use Rattle.floor_core.specs.Histories.{IdealGuest, CanOpen}
use Rattle.floor_core.specs.Core.{Made, CoreStep, Touch, Line, Plain, Entry, actor_count, changes_lpi, has_all_shut, has_word, is_in_line, is_inside, line_of, since_turn, CoreState, opening, seat_at, word_in, IsRun, end_of}

-- GITS_CTLR's word
abbrev pub its_ctlr : GuestShape → CoreState → ℕ
its_ctlr shape state = word_in shape state (Plain (place_of_plain shape ItsCtlr))

-- the LPI that a message becomes, by the maps of the ITS and GITS_CTLR as they are (IHI 0069, "The ITS")
abbrev pub becomes : GuestShape → CoreState → ℕ × ℕ → Option ℕ
becomes shape state pair = translated state.maps (enabled_in (its_ctlr shape state)) pair.0 pair.1

-- a line has no message, and nobody is in it
pub record IsClear (shape : GuestShape) (state : CoreState) (line : ℕ) : Type 0 where
  pub pair : (line_of (word_in shape state (Line line))).pair ≡ None
  pub nobody : (actor : ℕ) → actor < actor_count shape → is_in_line line (seat_at state actor).local ≡ false

-- all are so, and the actor knows it
pub record AreClear (shape : GuestShape) (state : CoreState) (actor : ℕ) : Type 0 where
  pub known : IsTrue (has_all_shut (seat_at state actor).local)
  pub each : (line : ℕ) → IsTrue (has_word shape (Line line)) → IsClear shape state line

-- the actor has changed an LPI since it took the ITS, as commands do before they end: mapped or forgotten it, moved it, or taken its configuration over
abbrev pub changes_one : CoreStep → Bool
changes_one (Touch key seen kind) = changes_lpi kind
changes_one step = false

abbrev pub has_changed : List Made → Bool
has_changed own = list_any (λ made. changes_one made.step) (since_turn own)

-- what the lines say is true
pub record AreTrue (shape : GuestShape) (state : CoreState) : Type 0 where
  -- the devices that a line's word has are those that are in it, and the guest has them
  pub inside : (actor line : ℕ) → actor < actor_count shape → IsTrue (has_word shape (Line line)) → is_inside shape actor (line_of (word_in shape state (Line line))) ≡ is_in_line line (seat_at state actor).local
  pub devices : (line : ℕ) → IsTrue (has_word shape (Line line)) → (line_of (word_in shape state (Line line))).inside < 2 ^ shape.devices
  -- the message of a line becomes its LPI, and the one with which a device is in a line
  pub lines : (line : ℕ) → IsTrue (has_word shape (Line line)) → let word = line_of (word_in shape state (Line line)) in ForSome word.pair (λ pair. becomes shape state pair ≡ Some word.lpi)
  pub actors : (actor : ℕ) → actor < actor_count shape → ForSome (seat_at state actor).local.line (λ entered. becomes shape state entered.pair ≡ Some entered.lpi)
  -- a line that the actor with the ITS knows to be shut is clear
  pub shut : (actor line : ℕ) → actor < actor_count shape → IsTrue (has_word shape (Line line)) → IsTrue (seat_at state actor).local.turn → IsTrue (has_bit (seat_at state actor).local.shut line) → IsClear shape state line
  -- all are where that actor has changed an LPI
  pub changed : (actor : ℕ) → actor < actor_count shape → IsTrue (seat_at state actor).local.turn → IsTrue (has_changed (seat_at state actor).own) → AreClear shape state actor
  -- an actor without the ITS knows none to be shut
  pub idle : (actor : ℕ) → actor < actor_count shape → (seat_at state actor).local.turn ≡ false → (seat_at state actor).local.shut ≡ 0

-- so it is at the end of every run, whatever its actors do
abbrev pub LinesAreTrue : Type 0
LinesAreTrue = (guest : IdealGuest) (number : ℕ) (entries : List Entry) → CanOpen guest → IsRun guest.shape (opening guest number) entries → AreTrue guest.shape (end_of guest.shape (opening guest number) entries)
