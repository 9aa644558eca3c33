-- A legal list, one moment after the other (own choice).
use Rattle.std.specs.Prelude.{◌≡◌, ℕ, Bool, IsTrue, List, [], fold, Some}
use Rattle.std.specs.List.{list_all}
use Rattle.legal_lists.specs.Calls.{Moment, Begin, Happens}
use Rattle.legal_lists.specs.GicCall.declared.event.Moment.TheVariants.{End}
use Rattle.legal_lists.specs.Histories.{IdealGuest, Call, Course, opening_course, call_of, gone_on, IsNext, Track, opening_track, tracked, of_event, of_end, is_fresh_at_interface, is_fresh_at_end}
use Rattle.legal_lists.specs.Legal.{IsBegun}
use Rattle.legal_steps.specs.Waiting.{Waiting, waits_after, may_be_answered}

-- what is known after some moments of a guest: its course, who changed what and is open, and which interrupts wait for an answer
pub record Pass : Type 0 where
  pub course : Course
  pub track : Track
  pub waits : List Waiting

abbrev pub opening_pass : IdealGuest → Pass
opening_pass guest = record { course = opening_course guest; track = opening_track guest.shape; waits = [] }

abbrev pub passed : Pass → Moment → Pass
passed pass moment =
    record {
      course = gone_on pass.course moment;
      track = tracked pass.course.ideal moment pass.track;
      waits = waits_after pass.course.ideal pass.track moment pass.waits;
    }

abbrev pub pass_of : IdealGuest → List Moment → Pass
pass_of guest moments = fold passed (opening_pass guest) moments

-- each interrupt that waits may still be answered
abbrev pub may_all_be_answered : IdealGuest → Pass → Bool
may_all_be_answered guest pass = list_all (may_be_answered guest.shape pass.course) pass.waits

-- the actor of a moment
abbrev pub actor_of : Moment → ℕ
actor_of (Begin actor operation) = actor
actor_of (Happens actor event found) = actor
actor_of (End actor answer) = actor

-- an actor's call, if it is in one, can still become it
abbrev pub IsActorBegun : IdealGuest → Course → ℕ → Type 0
IsActorBegun guest course actor = (call : Call) → call_of course actor ≡ Some call → IsBegun (course.signals actor) guest.shape actor call

-- a moment goes on with a legal list: it goes on with its course; the call of its actor can still become it; whatever waits then may still be answered; and the other
-- clauses of fresh hold of it
pub record GoesOnLegally (guest : IdealGuest) (pass : Pass) (moment : Moment) : Type 0 where
  pub next : IsNext pass.course moment
  pub begun : IsActorBegun guest (gone_on pass.course moment) (actor_of moment)
  pub answered : IsTrue (may_all_be_answered guest (passed pass moment))
  pub interface : IsTrue (of_event is_fresh_at_interface pass.course.ideal pass.track moment)
  pub end : IsTrue (of_event is_fresh_at_end pass.course.ideal pass.track moment)
  pub deactivation : IsTrue (of_end pass.course.ideal pass.track moment)
