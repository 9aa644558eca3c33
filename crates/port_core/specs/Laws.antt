-- Laws of every run.
use Rattle.std.specs.Prelude.{◌≡◌, ℕ, ◌++◌, List}
use Rattle.core_words.specs.Words.{GuestShape, IsShape}
use Rattle.core_words.specs.IdealGuests.CanOpen.{CanOpen}
use Rattle.core_words.specs.IdealGuests.declared.guest.IdealGuest.{IdealGuest}
use Rattle.port_core.specs.declared.run.Entry.{Entry}
use Rattle.port_core.specs.Run.{CoreState, opening, after, Takes, IsRun, end_of, IsSound}

-- a guest that can open opens with valid words and actors
abbrev pub OpeningIsSound : Type 0
OpeningIsSound = (guest : IdealGuest) (number : ℕ) → CanOpen guest → IsSound guest.shape (opening guest number)

-- every step keeps them
abbrev pub StepsKeepSound : Type 0
StepsKeepSound = (shape : GuestShape) (state : CoreState) (entry : Entry) → IsShape shape → IsSound shape state → Takes shape state entry → IsSound shape (after shape state entry)

-- so every run from the opening does
abbrev pub RunsAreSound : Type 0
RunsAreSound = (guest : IdealGuest) (number : ℕ) (entries : List Entry) → CanOpen guest → IsRun guest.shape (opening guest number) entries → IsSound guest.shape (end_of guest.shape (opening guest number) entries)

-- a run and another one from where it ends are one run
pub record RunsJoin : Type 0 where
  pub is_run : (shape : GuestShape) (state : CoreState) (early late : List Entry) → IsRun shape state early → IsRun shape (end_of shape state early) late → IsRun shape state (early ++ late)
  pub end : (shape : GuestShape) (state : CoreState) (early late : List Entry) → end_of shape state (early ++ late) ≡ end_of shape (end_of shape state early) late
