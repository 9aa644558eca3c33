-- What the program knows after some moments of a guest.
use Rattle.std.specs.Prelude.{◌≡◌, ◌<◌, ℕ, IsTrue, List, length, None, is_some}
use Rattle.legal_steps.specs.Words.{GuestShape}
use Rattle.legal_steps.specs.Calls.{Event, Found, Moment, Begin, Happens, Happened, CanHappen}
use Rattle.legal_steps.specs.GicCall.declared.event.Moment.TheVariants.{End}
use Rattle.legal_steps.specs.Histories.{IdealGuest, Ideal, Course, call_of, gone_on, IsCallEnded, Track, actor_count, doing_of, is_allowed, handed_out, of_event, of_end, is_fresh_at_interface, is_fresh_at_end}
use Rattle.legal_steps.specs.Waiting.{Waiting}
use Rattle.legal_steps.specs.Step.{Pass, passed, may_all_be_answered, actor_of, IsActorBegun}
use Rattle.history_play.specs.HistoryCheck.Ready.{IsReady}
use Rattle.history_play.specs.Kept.{IsKept}
use Rattle.legal_play.specs.Pieces.{AreCalls}

-- the state, the track, what each actor made in its call, and which interrupts wait, after so many moments
pub record BoardOf : Type 0 where
  pub state : Ideal
  pub track : Track
  pub pieces : List (List Happened)
  pub waits : List Waiting
  pub moments : ℕ

-- these are of a pass over a guest of this shape
pub record IsOfPass (shape : GuestShape) (pass : Pass) (board : BoardOf) : Type 0 where
  pub state_is : pass.course.ideal ≡ board.state
  pub track_is : pass.track ≡ board.track
  pub waits_are : pass.waits ≡ board.waits
  pub calls : AreCalls pass.course board.track board.pieces
  pub ready : IsReady board.state
  pub kept : IsKept board.state.guest.shape board.moments board.track
  pub shape_is : board.state.guest.shape ≡ shape

-- they have the room that the program needs
pub record HasRoom (board : BoardOf) : Type 0 where
  pub ready : IsReady board.state
  pub kept : IsKept board.state.guest.shape board.moments board.track
  pub rooms : length board.pieces ≡ length board.track.doings

-- Whether a moment goes on with them.

-- an event may happen, in a call of its actor's, and hands out what is there
pub record MayHappen (state : Ideal) (track : Track) (actor : ℕ) (event : Event) (found : Found) : Type 0 where
  pub within : IsTrue (is_some (doing_of track actor).operation)
  pub can : CanHappen state.guest.shape event
  pub allowed : IsTrue (is_allowed state actor event)
  pub hands : found ≡ handed_out state event

-- a moment comes next, but for what an ended call has to be
abbrev pub IsComingNext : Ideal → Track → Moment → Type 0
IsComingNext state track (Begin actor operation) = (actor < actor_count state.guest.shape) × ((doing_of track actor).operation ≡ None)
IsComingNext state track (Happens actor event found) = MayHappen state track actor event found
IsComingNext state track (End actor answer) = IsTrue (is_some (doing_of track actor).operation)

-- three clauses of fresh hold of it
pub record IsFreshAt (state : Ideal) (track : Track) (moment : Moment) : Type 0 where
  pub interface : IsTrue (of_event is_fresh_at_interface state track moment)
  pub end : IsTrue (of_event is_fresh_at_end state track moment)
  pub deactivation : IsTrue (of_end state track moment)

-- of the end of a call: what its actor made is the call, with this answer
abbrev pub IsRightEnd : Course → Moment → Type 0
IsRightEnd course (End actor answer) = IsCallEnded (course.signals actor) course.ideal.guest.shape actor (call_of course actor) answer
IsRightEnd course moment = Unit {0}

-- a moment goes on with a legal list, in parts: the program asks for all but what calls have to be, as they end and as they are open
pub record GoesOnInParts (guest : IdealGuest) (pass : Pass) (board : BoardOf) (moment : Moment) : Type 0 where
  pub coming : IsComingNext board.state board.track moment
  pub right : IsRightEnd pass.course moment
  pub fresh : IsFreshAt board.state board.track moment
  pub begun : IsActorBegun guest (gone_on pass.course moment) (actor_of moment)
  pub answered : IsTrue (may_all_be_answered guest (passed pass moment))
