-- What the ITS has done of its queue in runs.
use Rattle.std.specs.Prelude.{◌≡◌, ◌≢◌, ℕ, Bool, true, IsTrue, List, [], ◌∷◌, ◌++◌, Option, None}
use Rattle.law_lines_translate.specs.Words.{GuestShape}
use Rattle.law_lines_translate.specs.Registers.{queue_of}
use Rattle.law_lines_translate.specs.Histories.{opening_course, IdealGuest, CanOpen}
use Rattle.law_histories.specs.Sync.{commands_of, mapped_by, IsSynced}
use Rattle.law_lines_translate.specs.Core.{Made, CommandDone, WordId, Queue, owes_no_kick, has_word, CoreState, opening, seat_at, word_in, end_of_moments, ideal_of, makes, CoreMoment, IsPartedRun}
use Rattle.law_core_is_history.specs.Laws.{AreCalls}
use Rattle.law_core_is_history.specs.Whole.{AreEnded}

-- an actor makes a step
abbrev pub steps : ℕ → Made → CoreMoment
steps actor made = record { actor = actor; act = makes made }

-- a bad command stalls the queue where it is, and changes no other word and no map; the number of its fault was stored before
pub record StallsAlone (shape : GuestShape) (before later : CoreState) : Type 0 where
  pub queue : queue_of (word_in shape later Queue) ≡ record (queue_of (word_in shape before Queue)) { stalled = true }
  pub others : (word : WordId) → IsTrue (has_word shape word) → word ≢ Queue → word_in shape later word ≡ word_in shape before word
  pub maps : later.maps ≡ before.maps

-- at a moment of a run, as after a SYNC: the history so far, and the maps; no actor ends a command before each kick for it is sent; and bad ones stall alone
pub record IsSyncedRun (guest : IdealGuest) (number : ℕ) (moments : List CoreMoment) : Type 0 where
  pub history : IsSynced guest (ideal_of guest.shape (opening guest number) moments)
  pub maps : (end_of_moments guest.shape (opening guest number) moments).maps ≡ mapped_by guest.tables (commands_of (ideal_of guest.shape (opening guest number) moments))
  pub kicks :
      (early late : List CoreMoment) (actor : ℕ) (made : Made) → moments ≡ early ++ steps actor made ∷ late → (offset : ℕ) (stalled : Bool) (ending : Option (List ℕ)) → made.step ≡ CommandDone offset stalled ending →
      IsTrue (owes_no_kick (seat_at (end_of_moments guest.shape (opening guest number) early) actor).local)
  pub stalls :
      (early late : List CoreMoment) (actor : ℕ) (made : Made) → moments ≡ early ++ steps actor made ∷ late → (offset : ℕ) → made.step ≡ CommandDone offset true None →
      StallsAlone guest.shape (end_of_moments guest.shape (opening guest number) early) (end_of_moments guest.shape (opening guest number) (early ++ steps actor made ∷ []))

-- at each moment of a run that can go on until all its parts ended, each of them the call that it was begun for
abbrev pub SyncHolds : Type 0
SyncHolds =
    (guest : IdealGuest) (number : ℕ) (moments more : List CoreMoment) → CanOpen guest → IsPartedRun guest number (moments ++ more) → AreCalls guest.shape (opening guest number) (opening_course guest) (moments ++ more)
    → AreEnded guest.shape (moments ++ more) → IsSyncedRun guest number moments
