-- Laws of worked histories: the definitions say of them what a reader expects.
use Rattle.std.specs.Prelude.{◌≡◌, ◌++◌, Bool, true, false, List, [], ◌∷◌, Some, None, option_map}
use Rattle.ideal_guest.specs.Calls.{Moment, Touch, Reach, Take, Leave, ItsBegin, CtlrEnd, Runs, Register}
use Rattle.ideal_guest.specs.declared.guest.IdealGuest.{IdealGuest}
use Rattle.gic_history.specs.Fresh.{IsFresh, is_acknowledged, is_kept, of_event, of_end, is_fresh_at_interface, is_fresh_at_end}
use Rattle.ideal_guest.specs.Words.{Spi, ClearPending}
use Rattle.ideal_guest.specs.GicCall.declared.event.Event.TheVariants.{Queue, ItsEnd}
use Rattle.ideal_guest.specs.GicCall.declared.event.Moment.TheVariants.{End}
use Rattle.gic_history.specs.History.{IsHistory, IsNext, last_of, call_of, course_of, opening_course}
use Rattle.gic_history.specs.Moves.{is_allowed, happened}
use Rattle.gic_history.specs.State.{opening}
use Rattle.gic_history.specs.Worked.{worked_guest, served, preempted, withdrawn, message, wire_up, reach, migrated, refilled, repeated, returned, in_flight, awaited, overlooked, outdated, unended, kept, lpi_guest, passed_by, queue_guest, unbegun, unread, fetched, signal_guest, maps_event, forgets_other, raises_alone, ends_alone}

-- moments are a fresh history of the worked guest
pub record IsFreshHistory (moments : List Moment) : Type 0 where
  pub history : IsHistory worked_guest moments
  pub fresh : IsFresh worked_guest moments

-- a message that is served, one of a higher priority over it, one that is withdrawn, one that is routed to another vCPU, a level interrupt whose wire stays up,
-- a message that comes twice, one whose interrupt leaves an interface and gets there again, one whose call is open at an acknowledge, and one that a call which is open then
-- is still to clear
pub record WorkedHistoriesAreFresh : Type 0 where
  pub served : IsFreshHistory served
  pub preempted : IsFreshHistory preempted
  pub withdrawn : IsFreshHistory withdrawn
  pub migrated : IsFreshHistory migrated
  pub refilled : IsFreshHistory refilled
  pub repeated : IsFreshHistory repeated
  pub returned : IsFreshHistory returned
  pub in_flight : IsFreshHistory in_flight
  pub awaited : IsFreshHistory awaited

-- which of the four clauses of fresh moments of a guest keep
abbrev pub kept_clauses : IdealGuest → List Moment → List Bool
kept_clauses guest moments =
    is_acknowledged guest moments
    ∷ is_kept (of_event is_fresh_at_interface) guest moments
    ∷ is_kept (of_event is_fresh_at_end) guest moments
    ∷ is_kept of_end guest moments
    ∷ []

-- moments are a history of a guest that keeps just these clauses
pub record IsHistoryThatKeeps (guest : IdealGuest) (moments : List Moment) (clauses : List Bool) : Type 0 where
  pub history : IsHistory guest moments
  pub keeps : kept_clauses guest moments ≡ clauses

-- each clause of fresh refuses a history that the other three let pass
pub record EachClauseRefuses : Type 0 where
  pub acknowledge : IsHistoryThatKeeps worked_guest overlooked (false ∷ true ∷ true ∷ true ∷ [])
  pub interface : IsHistoryThatKeeps worked_guest outdated (true ∷ false ∷ true ∷ true ∷ [])
  pub end : IsHistoryThatKeeps worked_guest unended (true ∷ true ∷ false ∷ true ∷ [])
  pub deactivation : IsHistoryThatKeeps worked_guest kept (true ∷ true ∷ true ∷ false ∷ [])

-- what a command of the ITS is to do excuses nothing before its actor has the ITS and has begun to read it, and from there on it does
pub record CommandsExcuseOnceRead : Type 0 where
  pub unbegun : IsHistoryThatKeeps queue_guest unbegun (false ∷ true ∷ true ∷ true ∷ [])
  pub unread : IsHistoryThatKeeps queue_guest unread (false ∷ true ∷ true ∷ true ∷ [])
  pub fetched : IsHistoryThatKeeps queue_guest fetched (true ∷ true ∷ true ∷ true ∷ [])

-- what an actor may not make of an interrupt at an interface, and without a mark
pub record WhatIsNotAllowed : Type 0 where
  -- a write of another vCPU, and another reach of a level interrupt whose wire is up
  pub touches : is_allowed (last_of worked_guest (message 40 ++ reach 0 40)) 1 (Touch (Spi 40) (Register ClearPending 1)) ≡ false
  pub reaches : is_allowed (last_of worked_guest (wire_up 41 ++ reach 0 41)) 0 (Reach (Spi 41) 0) ≡ false
  -- a take of an interrupt that is pending there already, and a move of one that is not there
  pub takes : is_allowed (last_of worked_guest (wire_up 41 ++ reach 0 41)) 0 (Take (Spi 41) 0) ≡ false
  pub leaves : is_allowed (last_of worked_guest (message 40)) 0 (Leave (Spi 40) 0) ≡ false
  -- the queue's and the marks' ends, of an actor that has none
  pub queue : is_allowed (opening worked_guest) 1 (Queue 0 Runs) ≡ false
  pub its : is_allowed (opening worked_guest) 1 ItsEnd ≡ false
  pub ctlr : is_allowed (opening worked_guest) 1 CtlrEnd ≡ false
  -- and a mark that another actor has
  pub second : is_allowed (happened 0 ItsBegin (opening worked_guest)) 1 ItsBegin ≡ false

-- a write of EnableLPIs goes by where each LPI is at its own place: 8192 was vCPU 0's until the write came to 8193, and that it is moved later counts no more; 8194 counts
-- from there on
pub record EachLpiHasItsPlace : Type 0 where
  pub history : IsHistory lpi_guest passed_by
  pub passed : option_map (λ call. call.targets 8192) (call_of (course_of (opening_course lpi_guest) passed_by) 0) ≡ Some (Some 0 ∷ [])
  pub reached : option_map (λ call. call.targets 8193) (call_of (course_of (opening_course lpi_guest) passed_by) 0) ≡ Some (Some 0 ∷ Some 0 ∷ Some 0 ∷ [])
  pub ahead : option_map (λ call. call.targets 8194) (call_of (course_of (opening_course lpi_guest) passed_by) 0) ≡ Some (None ∷ None ∷ [])

-- moments are a history of a guest in which the device's call cannot end
pub record IsRefusedAtEnd (moments : List Moment) : Type 0 where
  pub history : IsHistory signal_guest moments
  pub refused : IsNext (course_of (opening_course signal_guest) moments) (End 2 None) → ⊥

-- a lone raise of an LPI is the call of a message that signals this LPI; it is none while a command that has forgotten another LPI goes on, none of a message that
-- signals another LPI, and none of one whose event is not mapped
pub record LoneRaisesAreRight : Type 0 where
  pub right : IsHistory signal_guest (maps_event ++ raises_alone 0 ++ ends_alone)
  pub midway : IsRefusedAtEnd (maps_event ++ forgets_other ++ raises_alone 0)
  pub other : IsRefusedAtEnd (maps_event ++ raises_alone 1)
  pub unmapped : IsRefusedAtEnd (maps_event ++ raises_alone 3)
