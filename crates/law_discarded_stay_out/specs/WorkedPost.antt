-- The worked post as the part of a call over a port: it is that of its message, and not that of another message of the same line; and it would not be one if the device left the
-- line before it raised the LPI.
use Rattle.std.specs.Prelude.{false, List, [], ◌∷◌, map, None}
use Rattle.law_lines_translate.specs.Words.{Msi}
use Rattle.law_lines_translate.specs.Calls.{Device}
use Rattle.law_lines_translate.specs.Core.{Entry, Kick, LineEnter, LineLeave, Line, Look, Made, MakesPost, Mark, Raise, Seat, Seen, end_of, opening, seat_at}
use Rattle.law_discarded_stay_out.specs.Worked.{device_makes, discard_guest, fill, filled_word, inside_word, lpi, opened_word, post, raised_word}

-- what the device's port tells before it
abbrev pub device_seat : Seat
device_seat = seat_at (end_of discard_guest.shape (opening discard_guest 0) fill) 1

abbrev pub seen_before : Seen
seen_before =
    record {
      home = record { words = 576; slots = 1; views_name = 0; atom = 0; block = 0; offset = 0; slot_names = [] };
      guest = discard_guest;
      number = 0;
      actor = 1;
      local = device_seat.local;
      own = device_seat.own;
      taken = false;
      world = None;
    }

abbrev pub steps_of : List Entry → List Made
steps_of entries = map (λ entry. entry.made) entries

-- the same steps where the device leaves too early
abbrev pub left_early : List Entry
left_early =
    device_makes (Look (Line 59)) filled_word filled_word
    ∷ device_makes (LineEnter 59 filled_word) filled_word inside_word
    ∷ device_makes (LineLeave 59) inside_word filled_word
    ∷ device_makes (Raise lpi) opened_word raised_word
    ∷ device_makes (Mark lpi 0) 0 0x800000000
    ∷ device_makes (Kick 0) 0 2
    ∷ []

pub record WorkedPost : Type 0 where
  pub makes : MakesPost seen_before (steps_of post) (Device (Msi 8 3)) None
  -- EventID 67 of this DeviceID has line 59 too, by whichever way they are told apart
  pub other : MakesPost seen_before (steps_of post) (Device (Msi 8 67)) None → ⊥
  pub early : MakesPost seen_before (steps_of left_early) (Device (Msi 8 3)) None → ⊥
