-- A line that is filled (own choice).
use Rattle.std.specs.Prelude.{◌≡◌, ℕ, IsTrue, List, [], ◌∷◌, ◌++◌, Some}
use Rattle.law_lines_translate.specs.Words.{has_bit}
use Rattle.law_lines_translate.specs.Histories.{IdealGuest, CanOpen}
use Rattle.law_lines_translate.specs.Core.{LineFill, Entry, IsRun, end_of, line_of, opening, seat_at}

-- in every run, a step that fills a line which its actor knows to be shut, as it does once a LineClose or a look of it found no device there, stores the message: the line has it
-- then, with its LPI and no device
abbrev pub FillsStore : Type 0
FillsStore =
    (guest : IdealGuest) (number : ℕ) (before : List Entry) (fill : Entry) (line device event lpi : ℕ) → CanOpen guest → IsRun guest.shape (opening guest number) (before ++ fill ∷ []) → fill.made.step ≡ LineFill line device event lpi
    → IsTrue (has_bit (seat_at (end_of guest.shape (opening guest number) before) fill.actor).local.shut line) → line_of fill.made.left ≡ record { pair = Some (device, event); lpi = lpi; inside = 0 }
