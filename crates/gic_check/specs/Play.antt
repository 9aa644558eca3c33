-- What the program knows after some moments of a guest, and when one more goes on with them (own choice).
use Rattle.std.specs.Prelude.{◌≡◌, ◌↔◌, ℕ, ◌+◌, ◌≤◌, ◌<◌, ◌*◌, Bool, true, IsTrue, List, [], ◌∷◌, ◌++◌, length, Some, slice_set, take}
use Rattle.std.specs.Option.{option_map_or}
use Rattle.trace_told.specs.TraceRead.declared.trace.TraceEvent.{TraceEvent}
use Rattle.trace_told.specs.Words.{GuestShape}
use Rattle.trace_told.specs.Calls.{Operation, Moment, Begin, Happens, Event}
use Rattle.trace_told.specs.GicCall.declared.event.Moment.TheVariants.{End}
use Rattle.trace_told.specs.Histories.{IdealGuest, actor_count, doing_of}
use Rattle.trace_told.specs.LegalPlay.LegalSteps.Step.{Pass, pass_of, actor_of, GoesOnLegally, IsActorBegun, may_all_be_answered}
use Rattle.trace_told.specs.LegalPlay.Board.{BoardOf, IsOfPass, IsComingNext, IsRightEnd, IsFreshAt}
use Rattle.trace_told.specs.LegalPlay.Pieces.{piece_of}
use Rattle.trace_told.specs.LegalPlay.Answering.{AreGood}
use Rattle.trace_told.specs.LegalPlay.HistoryPlay.HistoryCalls.Exact.{is_good, are_records}
use Rattle.trace_told.specs.LegalPlay.HistoryPlay.HistoryCheck.Ready.{IsReady}
use Rattle.trace_told.specs.Told.{told}
use Rattle.trace_told.specs.Verdict.{CanBe}
use Rattle.trace_told.specs.declared.verdict.Verdict.{Verdict}
use Rattle.trace_told.specs.declared.verdict.Verdict.TheVariants.{Yes, No}
use Rattle.trace_told.specs.Laws.{CanFollow, GoOnLegally, IsFreshOnceWhole}
use Rattle.history_turns.specs.Noted.{NotedOf}
use Rattle.gic_check.specs.Notes.{AreNoted, AreAllDone, is_midway_in, nothing_noted, noted_of, noted_first, noted_made, noted_later}

-- the operation that a moment begins is one that its guest can do
abbrev pub is_good_moment : GuestShape → Moment → Bool
is_good_moment shape (Begin actor operation) = is_good shape operation
is_good_moment shape moment = true

abbrev pub AreGoodMoments : GuestShape → List Moment → Type 0
AreGoodMoments shape [] = Unit {0}
AreGoodMoments shape (moment ∷ moments) = IsTrue (is_good_moment shape moment) × AreGoodMoments shape moments

-- a board, what is noted of each actor's call, and the doublewords of all commands that were done
pub record PlayOf : Type 0 where
  pub board : BoardOf
  pub notes : List NotedOf
  pub done : List (List ℕ)

-- these are of moments of a guest
pub record IsPlayed (guest : IdealGuest) (moments : List Moment) (board : BoardOf) (notes : List NotedOf) : Type 0 where
  pub of : IsOfPass guest.shape (pass_of guest moments) board
  pub noted : AreNoted guest.shape (pass_of guest moments).course notes
  pub good : AreGood guest.shape board.track
  pub records : (actor : ℕ) → IsTrue (are_records guest.shape (piece_of board.pieces actor))

-- or of some of some guest
pub record IsSomePlay (board : BoardOf) (notes : List NotedOf) : Type 0 where
  pub guest : IdealGuest
  pub moments : List Moment
  pub is : IsPlayed guest moments board notes

-- Notes.

-- a moment can be noted
pub record CanNote (board : BoardOf) (notes : List NotedOf) (moment : Moment) : Type 0 where
  pub ready : IsReady board.state
  pub good : AreGood board.state.guest.shape board.track
  pub begins : IsTrue (is_good_moment board.state.guest.shape moment)
  pub there : actor_of moment < length notes

-- and what calls see after it
pub record CanSee (board : BoardOf) (notes : List NotedOf) : Type 0 where
  pub ready : IsReady board.state
  pub good : AreGood board.state.guest.shape board.track
  pub rooms : length notes ≡ actor_count board.state.guest.shape

-- what is noted before a moment, after all these commands
abbrev pub note_made : BoardOf → List (List ℕ) → ℕ → Event → NotedOf → Operation → NotedOf
note_made board all actor event noted operation = noted_made board.state all (is_midway_in board.state board.pieces) operation (piece_of board.pieces actor) event noted

abbrev pub notes_made : BoardOf → List (List ℕ) → ℕ → Event → List NotedOf → List NotedOf
notes_made board all actor event notes = option_map_or (λ operation. slice_set notes actor (note_made board all actor event (noted_of notes actor) operation)) (doing_of board.track actor).operation notes

abbrev pub notes_before : BoardOf → List (List ℕ) → Moment → List NotedOf → List NotedOf
notes_before board all (Begin actor operation) notes = slice_set notes actor (noted_first board.state operation)
notes_before board all (Happens actor event found) notes = notes_made board all actor event notes
notes_before board all (End actor answer) notes = slice_set notes actor nothing_noted

-- and after an event, of each actor
abbrev pub note_seen : BoardOf → ℕ → NotedOf → NotedOf
note_seen board actor noted = noted_later board.state (doing_of board.track actor).operation (piece_of board.pieces actor) noted

pub record AreSeen (board : BoardOf) (before after : List NotedOf) : Type 0 where
  pub rooms : length after ≡ length before
  pub each : (actor : ℕ) → actor < length before → noted_of after actor ≡ note_seen board actor (noted_of before actor)

abbrev pub AreSeenAfter : BoardOf → Moment → List NotedOf → List NotedOf → Type 0
AreSeenAfter board (Happens actor event found) before after = AreSeen board before after
AreSeenAfter board moment before after = after ≡ before

-- Moments.

-- a moment may come next: what it would leave is not asked
pub record MayCome (pass : Pass) (board : BoardOf) (moment : Moment) : Type 0 where
  pub coming : IsComingNext board.state board.track moment
  pub right : IsRightEnd pass.course moment
  pub fresh : IsFreshAt board.state board.track moment

-- what a moment of an actor left is legal
pub record StaysLegal (guest : IdealGuest) (pass : Pass) (actor : ℕ) : Type 0 where
  pub begun : IsActorBegun guest pass.course actor
  pub answered : IsTrue (may_all_be_answered guest pass)

-- whether a moment goes on with a legal list; and if it does, what is known after it
pub record Goes (guest : IdealGuest) (moments : List Moment) (moment : Moment) (count : ℕ) (play : PlayOf) (goes : Bool) : Type 0 where
  pub value : IsTrue goes ↔ GoesOnLegally guest (pass_of guest moments) moment
  pub played : IsTrue goes → IsPlayed guest (moments ++ moment ∷ []) play.board play.notes
  pub done : IsTrue goes → AreAllDone play.board.state play.done
  pub counted : IsTrue goes → play.board.moments ≡ count + 1

-- and so of moments, one after the other
pub record GoOn (guest : IdealGuest) (before moments : List Moment) (count : ℕ) (play : PlayOf) (go : Bool) : Type 0 where
  pub value : IsTrue go ↔ GoOnLegally guest (pass_of guest before) moments
  pub played : IsTrue go → IsPlayed guest (before ++ moments) play.board play.notes
  pub done : IsTrue go → AreAllDone play.board.state play.done
  pub counted : IsTrue go → play.board.moments ≡ count + length moments

-- Events.

-- after moments, and those that an event says
pub record IsFollowed (guest : IdealGuest) (moments : List Moment) (event : TraceEvent) (count : ℕ) (play : PlayOf) : Type 0 where
  pub own : List Moment
  pub told : told (pass_of guest moments).course event ≡ Some own
  pub played : IsPlayed guest (moments ++ own) play.board play.notes
  pub done : AreAllDone play.board.state play.done
  pub few : play.board.moments ≤ count + 6

-- whether an event can come next; and if it can, what is known after it
pub record Follows (guest : IdealGuest) (moments : List Moment) (event : TraceEvent) (count : ℕ) (play : PlayOf) (follows : Bool) : Type 0 where
  pub value : IsTrue follows ↔ CanFollow guest (pass_of guest moments) event
  pub followed : IsTrue follows → IsFollowed guest moments event count play

-- after events that can be
pub record IsAfter (guest : IdealGuest) (events : List TraceEvent) (count : ℕ) (play : PlayOf) : Type 0 where
  pub can : CanBe guest events
  pub played : IsPlayed guest can.moments play.board play.notes
  pub done : AreAllDone play.board.state play.done
  pub few : play.board.moments ≤ 6 * count

-- Verdicts.

-- more first events than the least that cannot be cannot be either
abbrev pub RefusesMore : IdealGuest → List TraceEvent → Verdict → Type 0
RefusesMore guest events Yes = Unit {0}
RefusesMore guest events (No index) = (count : ℕ) → index ≤ count → CanBe guest (take count events) → ⊥

-- events that can be are a history, and fresh where all calls have ended
abbrev pub IsFreshOnYes : IdealGuest → List TraceEvent → Verdict → Type 0
IsFreshOnYes guest events Yes = (is : CanBe guest events) → IsFreshOnceWhole guest is.moments
IsFreshOnYes guest events (No index) = Unit {0}
