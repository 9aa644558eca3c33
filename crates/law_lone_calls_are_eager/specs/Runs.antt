-- A history of calls, one after the other, and what the eager controller makes of their operations (own choice).
use Rattle.std.specs.Prelude.{◌≡◌, ℕ, ◌<◌, IsTrue, List, [], ◌∷◌, ◌++◌, Option}
use Rattle.law_home_commutes.specs.Words.{GuestShape}
use Rattle.law_home_commutes.specs.Calls.{Moment, Operation, Access, Device, Residence, Happened, is_good_op, is_good_event}
use Rattle.law_home_commutes.specs.Histories.{IdealGuest, after_events, home, IsHistory, last_of, CanOpen}
use Rattle.law_lone_calls_are_eager.specs.LoneCalls.{eager_events, eager_read, lone_call, AllShow}

-- a call, during which nobody else acts
pub record LoneCall : Type 0 where
  pub actor : ℕ
  pub operation : Operation
  pub piece : List Happened
  pub answer : Option ℕ

abbrev pub moments_in : LoneCall → List Moment
moments_in call = lone_call call.actor call.operation call.piece call.answer

abbrev pub moments_of : List LoneCall → List Moment
moments_of [] = []
moments_of (call ∷ calls) = moments_in call ++ moments_of calls

-- an operation that the actor can ask for
abbrev pub IsGoodCall : GuestShape → ℕ → Operation → Type 0
IsGoodCall shape actor (Access op) = (actor < shape.vcpus) × IsTrue (is_good_op shape op)
IsGoodCall shape actor (Device op) = IsTrue (is_good_event shape op)
IsGoodCall shape actor Residence = Unit {0}

-- what a call has to be after a history: for an operation that its actor can ask for, where each access shows the guest with all taken back
pub record IsPassing (guest : IdealGuest) (moments : List Moment) (call : LoneCall) : Type 0 where
  pub good : IsGoodCall guest.shape call.actor call.operation
  pub shows : AllShow call.actor (last_of guest moments) call.piece

abbrev pub ArePassing : IdealGuest → List Moment → List LoneCall → Type 0
ArePassing guest moments [] = Unit {0}
ArePassing guest moments (call ∷ calls) = IsPassing guest moments call × ArePassing guest (moments ++ moments_in call) calls

-- the eager controller's guest after a call, and after some
abbrev pub eager_after : LoneCall → IdealGuest → IdealGuest
eager_after call guest = after_events (eager_events call.operation call.actor guest) guest

abbrev pub eager_after_all : List LoneCall → IdealGuest → IdealGuest
eager_after_all [] guest = guest
eager_after_all (call ∷ calls) guest = eager_after_all calls (eager_after call guest)

-- each call answers what the eager controller answers
abbrev pub AnswerEagerly : List LoneCall → IdealGuest → Type 0
AnswerEagerly [] guest = Unit {0}
AnswerEagerly (call ∷ calls) guest = (call.answer ≡ eager_read call.operation call.actor guest) × AnswerEagerly calls (eager_after call guest)

-- a history of such calls from the opening of a guest on is, with all taken back, the eager controller's, answer by answer
abbrev pub RunsPassHome : Type 0
RunsPassHome =
    (guest : IdealGuest) (calls : List LoneCall) → CanOpen guest → IsHistory guest (moments_of calls) → ArePassing guest [] calls
    → (home (last_of guest (moments_of calls)) ≡ eager_after_all calls guest) × AnswerEagerly calls guest
