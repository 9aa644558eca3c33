-- The copies of the group enables of GICD_CTLR in the words of interrupts.
use Rattle.std.specs.Prelude.{ℕ, List, ◌++◌}
use Rattle.law_lines_translate.specs.Words.{GuestShape, irq_of}
use Rattle.law_lines_translate.specs.Registers.{Enables}
use Rattle.law_lines_translate.specs.Histories.{opening_course, IdealGuest, CanOpen}
use Rattle.law_histories.specs.Enables.{replaced_in, CopiesAgree}
use Rattle.law_lines_translate.specs.Core.{Irq, Ctlr, ctlr_of, CoreState, opening, word_in, end_of_moments, ideal_of, CoreMoment, IsPartedRun}
use Rattle.law_core_is_history.specs.Laws.{AreCalls}
use Rattle.law_core_is_history.specs.Whole.{AreEnded}

-- the interrupts' words have copies of the enables that the word of GICD_CTLR has, or of those that its last write replaced, as its mark says
abbrev pub WordsAgree : GuestShape → CoreState → Enables → Type 0
WordsAgree shape state old = let ctlr = ctlr_of (word_in shape state Ctlr) in CopiesAgree shape (λ key. irq_of (word_in shape state (Irq key))) ctlr.enables old ctlr.mark

-- at each moment of a run that can go on until all its parts ended, each of them the call that it was begun for
abbrev pub EnablesAgree : Type 0
EnablesAgree =
    (guest : IdealGuest) (number : ℕ) (moments more : List CoreMoment) → CanOpen guest → IsPartedRun guest number (moments ++ more) → AreCalls guest.shape (opening guest number) (opening_course guest) (moments ++ more)
    → AreEnded guest.shape (moments ++ more) → WordsAgree guest.shape (end_of_moments guest.shape (opening guest number) moments) (replaced_in guest (ideal_of guest.shape (opening guest number) moments)).1
