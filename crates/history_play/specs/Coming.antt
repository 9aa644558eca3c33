-- Which moment may come next in a history, and why one may not.
use Rattle.std.specs.Prelude.{◌≡◌, ℕ, ◌<◌, Bool, true, false, IsTrue, List, is_some, length}
use Rattle.history_check.specs.ItsCmd.Command.{decoded}
use Rattle.history_check.specs.Registers.{fault_number}
use Rattle.history_check.specs.Calls.{Event, Done, Moment, Begin, Happens, CanHappen}
use Rattle.history_check.specs.GicCall.declared.event.Event.TheVariants.{Queue}
use Rattle.history_check.specs.GicCall.declared.event.Moment.TheVariants.{End as EndOfCall}
use Rattle.history_check.specs.Histories.{Ideal, Course, actor_count, call_of, IsNext, Track, doing_of, is_fresh_at_acknowledge, is_fresh_at_interface, is_fresh_at_end, of_event, of_end}
use Rattle.history_play.specs.declared.verdict.Cause.{Cause}
use Rattle.history_play.specs.declared.verdict.Cause.TheVariants.{Unknown, Forbidden, Acknowledge, Interface, End, Deactivation}

-- a moment goes on with a course, but for what an ended call has to be: of an end only that the actor is in a call
abbrev pub IsComing : Course → Moment → Type 0
IsComing course (EndOfCall actor answer) = IsTrue (is_some (call_of course actor))
IsComing course moment = IsNext course moment

-- the program does not know a moment: it is the end of a command that has a fault
abbrev pub is_unknown : Ideal → Moment → Bool
is_unknown state (Happens actor (Queue offset (Done words)) found) = is_some (fault_number state.guest.shape state.guest.tables (decoded words))
is_unknown state moment = false

-- why a moment does not come next in a fresh history, where these come after it
abbrev pub IsCause : Cause → Course → Track → Moment → List Moment → Type 0
IsCause Unknown course track moment later = IsTrue (is_unknown course.ideal moment)
IsCause Forbidden course track moment later = IsComing course moment → ⊥
IsCause Acknowledge course track moment later = of_event (is_fresh_at_acknowledge later) course.ideal track moment ≡ false
IsCause Interface course track moment later = of_event is_fresh_at_interface course.ideal track moment ≡ false
IsCause End course track moment later = of_event is_fresh_at_end course.ideal track moment ≡ false
IsCause Deactivation course track moment later = of_end course.ideal track moment ≡ false

-- an event is fresh, where these moments come after it: each clause of fresh holds of it, but for that of ends of calls
pub record IsEventFresh (state : Ideal) (track : Track) (event : Event) (later : List Moment) : Type 0 where
  pub acknowledge : is_fresh_at_acknowledge later state track event ≡ true
  pub interface : is_fresh_at_interface state track event ≡ true
  pub end : is_fresh_at_end state track event ≡ true

-- one of them does not
abbrev pub IsStale : Cause → Ideal → Track → Event → List Moment → Type 0
IsStale Acknowledge state track event later = is_fresh_at_acknowledge later state track event ≡ false
IsStale Interface state track event later = is_fresh_at_interface state track event ≡ false
IsStale End state track event later = is_fresh_at_end state track event ≡ false
IsStale cause state track event later = ⊥

-- it does
pub record IsFine (course : Course) (track : Track) (moment : Moment) (later : List Moment) : Type 0 where
  pub known : is_unknown course.ideal moment ≡ false
  pub coming : IsComing course moment
  pub acknowledge : IsTrue (of_event (is_fresh_at_acknowledge later) course.ideal track moment)
  pub interface : IsTrue (of_event is_fresh_at_interface course.ideal track moment)
  pub end : IsTrue (of_event is_fresh_at_end course.ideal track moment)
  pub deactivation : IsTrue (of_end course.ideal track moment)

-- a course and a track are of one history: they are of the same actors, and the same ones are in calls
pub record AreOne (course : Course) (track : Track) : Type 0 where
  pub actors : length course.calls ≡ length track.doings
  pub calls : (actor : ℕ) → is_some (call_of course actor) ≡ is_some (doing_of track actor).operation

-- a state can follow a moment: there is such an actor, the guest can have the event, and the program knows it
abbrev pub CanFollow : Ideal → Moment → Type 0
CanFollow state (Begin actor operation) = actor < actor_count state.guest.shape
CanFollow state (Happens actor event found) = (actor < actor_count state.guest.shape) × CanHappen state.guest.shape event × (is_unknown state (Happens actor event found) ≡ false)
CanFollow state (EndOfCall actor answer) = actor < actor_count state.guest.shape
