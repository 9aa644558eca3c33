-- Laws of what traces say.
use Rattle.std.specs.Prelude.{◌≡◌, ◌↔◌, Bool, true, false, IsTrue, List, [], ◌∷◌, ◌++◌, Some}
use Rattle.std.specs.List.{list_all}
use Rattle.trace_read.specs.declared.trace.TraceEvent.{TraceEvent}
use Rattle.legal_play.specs.Calls.{Moment, Happens}
use Rattle.legal_play.specs.GicCall.declared.event.Event.TheVariants.{Read}
use Rattle.legal_play.specs.Histories.{IdealGuest, Course, gone_on, course_of, IsHistory, IsWhole, IsFresh}
use Rattle.legal_play.specs.LegalSteps.Step.{Pass, passed, pass_of, GoesOnLegally}
use Rattle.legal_play.specs.HistoryPlay.Coming.{is_unknown}
use Rattle.trace_told.specs.declared.verdict.Verdict.{Verdict}
use Rattle.trace_told.specs.Told.{told}
use Rattle.trace_told.specs.Verdict.{CanBe, IsVerdict}

-- the first events of some that can be can be
abbrev pub PartsCanBe : Type 0
PartsCanBe = (guest : IdealGuest) (early late : List TraceEvent) → CanBe guest (early ++ late) → CanBe guest early

-- some events have one verdict at most
abbrev pub VerdictsAreOne : Type 0
VerdictsAreOne = (guest : IdealGuest) (events : List TraceEvent) (one other : Verdict) → IsVerdict guest events one → IsVerdict guest events other → one ≡ other

-- events that can be, and after which all calls have ended, are a history, and fresh
pub record IsFreshOnceWhole (guest : IdealGuest) (moments : List Moment) : Type 0 where
  pub history : IsHistory guest moments
  pub fresh : IsWhole guest moments → IsFresh guest moments

abbrev pub WholeOnesAreFresh : Type 0
WholeOnesAreFresh = (guest : IdealGuest) (events : List TraceEvent) (is : CanBe guest events) → IsFreshOnceWhole guest is.moments

-- a moment at which something is read
abbrev pub is_reading : Moment → Bool
is_reading (Happens actor (Read place) found) = true
is_reading moment = false

-- moments are one of them among reads, which leave the guest as it is without them
pub record IsOneAmongReads (course : Course) (moments : List Moment) : Type 0 where
  pub before : List Moment
  pub own : Moment
  pub after : List Moment
  pub split : moments ≡ before ++ own ∷ after
  pub reads_before : IsTrue (list_all is_reading before)
  pub reads_after : IsTrue (list_all is_reading after)
  pub state : (course_of course moments).ideal ≡ (gone_on course own).ideal

-- so is what each event says
abbrev pub OnlyReadsArePutIn : Type 0
OnlyReadsArePutIn = (course : Course) (event : TraceEvent) (moments : List Moment) → told course event ≡ Some moments → IsOneAmongReads course moments

-- One event after the other.

-- moments go on with a legal list
abbrev pub GoOnLegally : IdealGuest → Pass → List Moment → Type 0
GoOnLegally guest pass [] = Unit {0}
GoOnLegally guest pass (moment ∷ moments) = GoesOnLegally guest pass moment × GoOnLegally guest (passed pass moment) moments

-- an event can come next: what it says goes on
pub record CanFollow (guest : IdealGuest) (pass : Pass) (event : TraceEvent) : Type 0 where
  pub moments : List Moment
  pub told : told pass.course event ≡ Some moments
  pub legal : GoOnLegally guest pass moments

-- no events can be; and some that can be can be with one more exactly where that can follow
pub record TracesGoOn : Type 0 where
  pub none : (guest : IdealGuest) → CanBe guest []
  pub one : (guest : IdealGuest) (events : List TraceEvent) (event : TraceEvent) (is : CanBe guest events) → CanBe guest (events ++ event ∷ []) ↔ CanFollow guest (pass_of guest is.moments) event

-- no moment is the end of a command with a fault, where each comes after those before it: so a program can follow them
abbrev pub AreFaultless : Course → List Moment → Type 0
AreFaultless course [] = Unit {0}
AreFaultless course (moment ∷ moments) = (is_unknown course.ideal moment ≡ false) × AreFaultless (gone_on course moment) moments

-- so it is of what each event says
abbrev pub ToldOnesAreFaultless : Type 0
ToldOnesAreFaultless = (course : Course) (event : TraceEvent) (moments : List Moment) → told course event ≡ Some moments → AreFaultless course moments
