-- Messages that no translation line has: once a command has ended, until one is stored there again (own choice of the lines; IHI 0069, "ITS commands", asks of a
-- DISCARD and of a MAPD that the messages which they unmap become no interrupt once they are done).
use Rattle.std.specs.Prelude.{◌≡◌, ◌≢◌, ℕ, ◌<◌, ◌==◌, ◌&&◌, Bool, true, false, IsTrue, List, ◌∷◌, ◌++◌, Some, Result, Ok, Err}
use Rattle.std.specs.List.{list_any}
use Rattle.std.specs.Option.{ForSome}
use Rattle.law_lines_translate.specs.Words.{GuestShape}
use Rattle.law_lines_translate.specs.Registers.{Command, Discard, Mapd, Mapi, Mapti, BadCommand}
use Rattle.law_lines_translate.specs.CoreProper.ItsCmd.Command.{decoded}
use Rattle.law_lines_translate.specs.Histories.{IdealGuest, CanOpen}
use Rattle.law_lines_translate.specs.Core.{Made, CoreStep, Look, LineEnter, LineFill, RamPut, CommandDone, Line, Entry, CoreState, IsRun, Takes, actor_count, after, end_of, has_word, is_empty_line, its_ctlr_place, line_of, opening, seat_at, word_in}

-- Steps that matter to a message, which is a DeviceID and an EventID.

-- the step is to fill a line with the message
abbrev pub is_fill : ℕ × ℕ → CoreStep → Bool
is_fill pair (LineFill line device event lpi) = device == pair.0 && event == pair.1
is_fill pair step = false

-- and it did: it found an empty line
abbrev pub is_stored : ℕ × ℕ → Made → Bool
is_stored pair made = is_fill pair made.step && is_empty_line (line_of made.found)

-- some step of a run did
abbrev pub is_stored_in : ℕ × ℕ → List Entry → Bool
is_stored_in pair entries = list_any (λ entry. is_stored pair entry.made) entries

-- messages may become other LPIs by the step, or none: a command ends, a register's write moves the queue, or GITS_CTLR is stored
abbrev pub may_retranslate : GuestShape → CoreStep → Bool
may_retranslate shape (CommandDone offset stalled ending) = true
may_retranslate shape (RamPut index seen value) = index == its_ctlr_place shape
may_retranslate shape step = false

-- What lines have.

-- each line's message, and the one with which a device is in a line, was stored in a line by one of these steps
pub record AreStoredIn (shape : GuestShape) (state : CoreState) (since : List Entry) : Type 0 where
  pub lines : (line : ℕ) → IsTrue (has_word shape (Line line)) → ForSome (line_of (word_in shape state (Line line))).pair (λ pair. IsTrue (is_stored_in pair since))
  pub devices : (actor : ℕ) → actor < actor_count shape → ForSome (seat_at state actor).local.line (λ entered. IsTrue (is_stored_in entered.pair since))

-- so it is at each moment of every run since such a step
abbrev pub LinesAreFilledAnew : Type 0
LinesAreFilledAnew =
    (guest : IdealGuest) (number : ℕ) (before since : List Entry) (moved : Entry) → CanOpen guest → IsRun guest.shape (opening guest number) (before ++ moved ∷ since) → IsTrue (may_retranslate guest.shape moved.made.step)
    → AreStoredIn guest.shape (end_of guest.shape (opening guest number) (before ++ moved ∷ since)) since

-- Commands that unmap a message, and that map it.

-- a DISCARD of its event, or a MAPD of its device, which unmaps all events of the device, also where it maps the device anew
abbrev pub is_discard : ℕ × ℕ → Command → Bool
is_discard pair (Discard device event) = device == pair.0 && event == pair.1
is_discard pair (Mapd device size itt_addr valid) = device == pair.0
is_discard pair command = false

-- a MAPTI or a MAPI of its event
abbrev pub is_mapping : ℕ × ℕ → Command → Bool
is_mapping pair (Mapti device event id icid) = device == pair.0 && event == pair.1
is_mapping pair (Mapi device event icid) = device == pair.0 && event == pair.1
is_mapping pair command = false

-- the step ends a good command of a kind, as its doublewords say
abbrev pub is_of_kind : (Command → Bool) → Result Command BadCommand → Bool
is_of_kind kind (Ok command) = kind command
is_of_kind kind (Err bad) = false

abbrev pub ends_command : (Command → Bool) → CoreStep → Bool
ends_command kind (CommandDone offset stalled (Some words)) = is_of_kind kind (decoded words)
ends_command kind step = false

-- A device posts a message: it looks at a line, gets into it where it found the message there, raises the LPI that it found, and leaves the line. In a state
-- in which posts of a message miss, no device does any of this for the message.
pub record IsMissed (shape : GuestShape) (state : CoreState) (pair : ℕ × ℕ) : Type 0 where
  -- a look at a line finds another message or none
  pub look : (entry : Entry) (line : ℕ) → Takes shape state entry → entry.made.step ≡ Look (Line line) → (line_of entry.made.found).pair ≢ Some pair
  -- a device that tries to get into a line is in none with it then
  pub enter : (entry : Entry) (line seen : ℕ) → Takes shape state entry → entry.made.step ≡ LineEnter line seen → ForSome (seat_at (after shape state entry) entry.actor).local.line (λ entered. entered.pair ≢ pair)
  -- a device that is in a line is there with another message, and raises for that one
  pub raise : (actor : ℕ) → actor < actor_count shape → ForSome (seat_at state actor).local.line (λ entered. entered.pair ≢ pair)

-- after a discard, until the message is stored again: posts of it miss; and it is not stored before a command has mapped its event again
pub record StaysOut (shape : GuestShape) (state : CoreState) (since : List Entry) (pair : ℕ × ℕ) : Type 0 where
  pub missed : is_stored_in pair since ≡ false → IsMissed shape state pair
  pub unmapped : list_any (λ entry. ends_command (is_mapping pair) entry.made.step) since ≡ false → is_stored_in pair since ≡ false

-- so it is at each moment of every run since such a command has ended
abbrev pub DiscardedStayOut : Type 0
DiscardedStayOut =
    (guest : IdealGuest) (number : ℕ) (before since : List Entry) (done : Entry) (pair : ℕ × ℕ) → CanOpen guest → IsRun guest.shape (opening guest number) (before ++ done ∷ since) → IsTrue (ends_command (is_discard pair) done.made.step)
    → StaysOut guest.shape (end_of guest.shape (opening guest number) (before ++ done ∷ since)) since pair
