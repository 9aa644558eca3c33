-- What calls are to the program.
use Rattle.std.specs.Prelude.{◌≡◌, ◌↔◌, ℕ, Bool, true, false, IsTrue, List, Option, Some, None, nat_lt}
use Rattle.history_turns.specs.Words.{GuestShape, Redist, Mem, Msi}
use Rattle.history_turns.specs.GicRmap.Map.{decoded as redist_decoded}
use Rattle.history_turns.specs.Calls.{Event, Found, Operation, Access, Device, Happened, Moment, sets_lpis}
use Rattle.history_turns.specs.Histories.{IdealGuest, Ideal, Call, begun, made, seeing, targets_in, call_of, course_of, opening_course, IsEndedAs}
use Rattle.history_turns.specs.LegalLists.Legal.{IsBegun}
use Rattle.history_turns.specs.Noted.{NotedOf, IsNotedOf, IsSeen, place_by, placing, nothing_seen, with_target, seen_on, seen_anew}
use Rattle.history_turns.specs.declared.noted.Seen.{Seen}
use Rattle.history_turns.specs.Risen.{Rises, MayRise}
use Rattle.history_turns.specs.Signalled.{is_signalled}

-- each open call after moments of a guest has come to the LPI of a pending table that its own events say
abbrev pub CallsArePlaced : Type 0
CallsArePlaced = (guest : IdealGuest) (moments : List Moment) (actor : ℕ) (call : Call) → call_of (course_of (opening_course guest) moments) actor ≡ Some call → call.place ≡ place_by call.piece

-- a call that sets EnableLPIs of a vCPU is over exactly where its events and what it noted say so, and it answers nothing; and so of what it may become
pub record IsEnablingExact (shape : GuestShape) (actor vcpu : ℕ) (noted : NotedOf) (call : Call) : Type 0 where
  pub ended : (signals : Bool) (answer : Option ℕ) → IsEndedAs signals shape actor call answer ↔ (Rises shape actor vcpu noted call.piece × (answer ≡ None))
  pub begun : (signals : Bool) → IsBegun signals shape actor call ↔ MayRise shape actor vcpu noted call.piece

abbrev pub EnablingCallsAreExact : Type 0
EnablingCallsAreExact =
    (shape : GuestShape) (actor vcpu offset size : ℕ) (write : Option ℕ) (piece : List Happened) (noted : NotedOf) (call : Call) → sets_lpis shape (redist_decoded offset size) write ≡ true → nat_lt actor shape.vcpus ≡ true
    → IsNotedOf shape (Access (Mem (Redist vcpu) offset size write)) piece noted call → IsEnablingExact shape actor vcpu noted call

-- and so is one of a message-signalled interrupt, by whether it signalled
pub record IsSignallingExact (shape : GuestShape) (actor : ℕ) (lpi : Option ℕ) (call : Call) : Type 0 where
  pub ended : (signals : Bool) (answer : Option ℕ) → IsEndedAs signals shape actor call answer ↔ (IsTrue (is_signalled false signals lpi call.piece) × (answer ≡ None))
  pub begun : (signals : Bool) → IsBegun signals shape actor call ↔ IsTrue (is_signalled true signals lpi call.piece)

abbrev pub SignallingCallsAreExact : Type 0
SignallingCallsAreExact =
    (shape : GuestShape) (actor device event : ℕ) (piece : List Happened) (noted : NotedOf) (call : Call) → nat_lt actor shape.vcpus ≡ false → IsNotedOf shape (Device (Msi device event)) piece noted call → IsSignallingExact shape actor noted.lpi call

-- of an LPI a call notes for which vCPUs it is: as the call begins, at each event of its own, and at each of others
pub record IsNotedOn (vcpu id : ℕ) (call : Call) (seen : Seen) : Type 0 where
  pub own : (before after : Ideal) (event : Event) (found : Found)
      → IsSeen vcpu ((seeing after (made before event found call)).targets id) (seen_on vcpu (placing call.place event) id (targets_in after id) (seen_anew call.place event id seen))
  pub other : (after : Ideal) → IsSeen vcpu ((seeing after call).targets id) (seen_on vcpu call.place id (targets_in after id) seen)

pub record NotesGoOn : Type 0 where
  pub begins : (ideal : Ideal) (operation : Operation) (vcpu id : ℕ) → IsSeen vcpu ((begun ideal operation).targets id) (with_target vcpu (targets_in ideal id) nothing_seen)
  pub goes_on : (vcpu id : ℕ) (call : Call) (seen : Seen) → IsSeen vcpu (call.targets id) seen → IsNotedOn vcpu id call seen
