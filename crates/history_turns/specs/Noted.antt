-- What a call is judged by beside its own events: what it noted of its guest as they happened.
use Rattle.std.specs.Prelude.{◌≡◌, ◌↔◌, ℕ, ◌+◌, ◌<◌, Bool, true, false, IsTrue, List, map, fold, length, Contains, Option, Some, None, slice_get, unwrap_or, if◌then◌else◌}
use Rattle.std.specs.List.{list_any}
use Rattle.history_turns.specs.Words.{GuestShape, Redist, Its, Mem, Msi, is_number}
use Rattle.history_turns.specs.Registers.{translated}
use Rattle.history_turns.specs.GicImap.Map.{decoded as its_decoded}
use Rattle.history_turns.specs.GicRmap.Map.{decoded as redist_decoded}
use Rattle.history_turns.specs.Calls.{Event, Enable, Touch, ItsBegin, Operation, Access, Device, Happened, sets_lpis, takes_turn}
use Rattle.history_turns.specs.Histories.{Call, come_to, is_ahead, is_passed}
use Rattle.history_turns.specs.HistoryCalls.Exact.{IsCallOf}
use Rattle.history_turns.specs.Mapped.{mapped_by}
use Rattle.history_turns.specs.Begun.{AreTargets, begun_by}
use Rattle.history_turns.specs.declared.noted.Seen.{Seen}

-- whether a message-signalled interrupt has raised what it signals; the LPI that it signals while the ITS is enabled, by the maps as its call took that; of a
-- call that sets EnableLPIs for which vCPUs each LPI was, in rising INTID; and of a write of a register of the ITS that takes it the doublewords of all commands
-- that were done before that, oldest first, and for which vCPU each LPI was as each of its own commands began, in rising INTID
pub record NotedOf : Type 0 where
  pub signals : Bool
  pub lpi : Option ℕ
  pub targets : List Seen
  pub done : List (List ℕ)
  pub commands : List (List (Option ℕ))

-- what is noted of the LPI of a number from 0
abbrev pub seen_at : NotedOf → ℕ → Seen
seen_at noted number = unwrap_or (slice_get noted.targets number) (record { is_own = false; is_other = false })

-- it was for the vCPU, and it was for another one or for none
pub record IsSeen (vcpu : ℕ) (targets : List (Option ℕ)) (seen : Seen) : Type 0 where
  pub own : IsTrue seen.is_own ↔ Contains targets (Some vcpu)
  pub other : IsTrue seen.is_other ↔ ((target : Option ℕ) × Contains targets target × (target ≡ Some vcpu → ⊥))

abbrev pub takes : Event → Bool
takes ItsBegin = true
takes event = false

-- those commands left the maps that a call took, and the LPIs were for these vCPUs as its own commands began
pub record HasTaken (shape : GuestShape) (noted : NotedOf) (call : Call) : Type 0 where
  pub maps : call.maps ≡ mapped_by shape noted.done
  pub commands : AreTargets call.commands noted.commands

-- a call noted that: of one that sets EnableLPIs for which vCPUs the LPIs were, of a message-signalled interrupt that took the ITS what it signals, and of a
-- write of a register of the ITS that takes it the commands before and the vCPUs of its own
abbrev pub HasNoted : GuestShape → NotedOf → Operation → Call → Type 0
HasNoted shape noted (Access (Mem (Redist vcpu) offset size write)) call =
    sets_lpis shape (redist_decoded offset size) write ≡ true → (number : ℕ) → number < shape.lpis → IsSeen vcpu (call.targets (8192 + number)) (seen_at noted number)
HasNoted shape noted (Device (Msi device event)) call = list_any (λ happened. takes happened.event) call.piece ≡ true → noted.lpi ≡ translated call.maps true device event
HasNoted shape noted (Access (Mem Its offset size write)) call = takes_turn shape (its_decoded offset size) write ≡ true → HasTaken shape noted call
HasNoted shape noted operation call = Unit {0}

-- the LPI of the pending table to which a call has come, by its own events
abbrev pub placing : Option ℕ → Event → Option ℕ
placing place (Enable vcpu) = Some 0
placing place (Touch key touching) = come_to place key
placing place event = place

abbrev pub place_by : List Happened → Option ℕ
place_by piece = fold placing None (map (λ happened. happened.event) piece)

-- a call of a course that is for this, made this so far and noted that; as many commands of it began as its own events say
pub record IsNotedOf (shape : GuestShape) (operation : Operation) (piece : List Happened) (noted : NotedOf) (call : Call) : Type 0 where
  pub of : IsCallOf operation piece call
  pub place : call.place ≡ place_by call.piece
  pub counted : length call.commands ≡ begun_by call.piece
  pub has : HasNoted shape noted operation call

-- How that goes on.

abbrev pub nothing_seen : Seen
nothing_seen = record { is_own = false; is_other = false }

-- with a further moment at which an LPI is for this vCPU, or for none
abbrev pub with_target : ℕ → Option ℕ → Seen → Seen
with_target vcpu target seen = if is_number vcpu target then record { is_own = true; is_other = seen.is_other } else record { is_own = seen.is_own; is_other = true }

-- an event of the call's own from which on an LPI is noted anew
abbrev pub restarts : Option ℕ → Event → ℕ → Bool
restarts place (Enable vcpu) id = true
restarts place (Touch key touching) id = is_ahead place key id
restarts place event id = false

-- what is noted of an LPI after any event, where the call has come to this place
abbrev pub seen_on : ℕ → Option ℕ → ℕ → Option ℕ → Seen → Seen
seen_on vcpu place id target seen = if is_passed place id then seen else with_target vcpu target seen

abbrev pub seen_anew : Option ℕ → Event → ℕ → Seen → Seen
seen_anew place event id seen = if restarts place event id then nothing_seen else seen
