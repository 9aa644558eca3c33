-- What an access finds of the vCPUs that LPIs are for (own choice): its events are those of its call with whatever vCPUs agree with that.
use Rattle.std.specs.Prelude.{◌≡◌, ℕ, ◌&&◌, ◌||◌, not, Bool, true, false, IsTrue, List, ◌++◌, Option, Some}
use Rattle.std.specs.List.{list_all}
use Rattle.its_exec.specs.Words.{Frame, Redist, Its, GuestOp, Mem, GuestShape}
use Rattle.its_exec.specs.GicRmap.declared.map.Reg.TheVariants.{Ctlr}
use Rattle.its_exec.specs.GicRmap.declared.map.RegRef.{RegRef}
use Rattle.its_exec.specs.GicRmap.declared.map.RegRef.TheVariants.{Plain}
use Rattle.its_exec.specs.Registers.{enable_lpis_after}
use Rattle.its_exec.specs.GicRmap.Map.{decoded}
use Rattle.its_exec.specs.GicImap.Map.{decoded as its_decoded}
use Rattle.its_exec.specs.Calls.{Pendbaser, is_in_table, is_table_zero, takes_turn, Event, Touch, Operation, Access, Runs, Beside, Happened, IsCall, View}
use Rattle.its_exec.specs.GicCall.declared.event.Event.TheVariants.{Queue}
use Rattle.its_exec.specs.Core.{Made, Seen, local_by, shape_of, part_events, maps_taken, vcpu_of_actor}
use Rattle.its_exec.specs.Queue.{AreTaken, Taken}
use Rattle.its_exec.specs.Run.{AgreeAll}
use Rattle.pe_mem.specs.Looked.{IsLookedAt}

-- as EnableLPIs of a vCPU becomes 1, its pending table is read, and an LPI has its bit there
abbrev pub reads_bit : GuestShape → View → ℕ → ℕ → Bool
reads_bit shape view vcpu id = not (view.lpis vcpu || is_table_zero (view.words (Pendbaser vcpu))) && is_in_table shape view vcpu id

-- an access of a redistributor goes by the vCPU that an LPI is for: EnableLPIs becomes 1, and its bit is read
abbrev pub goes_by : GuestShape → View → ℕ → RegRef → Option ℕ → ℕ → Bool
goes_by shape view vcpu (Plain Ctlr half) (Some value) id = enable_lpis_after shape false value && reads_bit shape view vcpu id
goes_by shape view vcpu reference write id = false

-- an access that does not take the ITS does
abbrev pub goes_by_target : GuestShape → View → Frame → ℕ → ℕ → Option ℕ → ℕ → Bool
goes_by_target shape view (Redist vcpu) offset size write id = goes_by shape view vcpu (decoded offset size) write id
goes_by_target shape view frame offset size write id = false

-- Calls as they are found.

-- an event that touches no interrupt and ends no command
abbrev pub is_before : Event → Bool
is_before (Touch key touching) = false
is_before (Queue offset Runs) = true
is_before (Queue offset change) = false
is_before event = true

abbrev pub are_before : List Happened → Bool
are_before events = list_all (λ (happened : Happened). is_before happened.event) events

-- commands that an access took among its steps: what its actor had for itself and in its list as the first began, before which nothing was touched and no
-- command ended, and what its list was as the last ended
pub record TookAmong (seen : Seen) (part : List Made) (commands : List Taken) : Type 0 where
  pub from : Seen
  pub to : Seen
  pub are : AreTaken from commands to
  pub guest : from.guest ≡ seen.guest
  pub actor : from.actor ≡ seen.actor
  pub early : List Made
  pub late : List Made
  pub before : IsTrue (are_before (part_events seen early))
  pub local : from.local ≡ local_by (shape_of seen) seen.actor seen.local early
  pub begins : from.own ≡ seen.own ++ early
  pub ends : seen.own ++ part ≡ to.own ++ late

-- by what the events of an access go beside its words: the vCPUs that its looks at these LPIs found; where it takes the ITS, what each of the commands found that
-- it took
pub data Finding : Type 0 where
  by_looks : (goes_by : ℕ → Bool) (targets : ℕ → Option ℕ) → Finding
  by_commands : List Taken → Finding

abbrev pub is_by_commands : Finding → Bool
is_by_commands (by_looks goes_by targets) = false
is_by_commands (by_commands commands) = true

-- an access takes the ITS: a write of one of its registers that does
abbrev pub takes_turn_by : GuestShape → GuestOp → Bool
takes_turn_by shape (Mem Its offset size write) = takes_turn shape (its_decoded offset size) write
takes_turn_by shape op = false

abbrev pub takes_its_by : GuestShape → Operation → Bool
takes_its_by shape (Access op) = takes_turn_by shape op
takes_its_by shape operation = false

-- it looked at each of these LPIs in its place; or it took the commands among its steps
abbrev pub IsFinding : Seen → List Made → Finding → Type 0
IsFinding seen part (by_looks goes_by targets) = (id : ℕ) → goes_by id ≡ true → IsLookedAt seen part id (targets id)
IsFinding seen part (by_commands commands) = TookAmong seen part commands

-- the vCPUs that LPIs are for agree with that
abbrev pub Agrees : Finding → Beside → Type 0
Agrees (by_looks goes_by targets) beside = (id : ℕ) → goes_by id ≡ true → beside.targets id ≡ targets id
Agrees (by_commands commands) beside = AgreeAll beside 0 commands

-- they are those of the call, of an ITS with the maps as it was taken, whatever vCPUs the LPIs are for that agree with that
pub record IsCallAsFound (seen : Seen) (part : List Made) (operation : Operation) (answer : Option ℕ) : Type 0 where
  pub finding : Finding
  pub kind : is_by_commands finding ≡ takes_its_by (shape_of seen) operation
  pub is_finding : IsFinding seen part finding
  pub call :
      (beside : Beside) → beside.maps ≡ maps_taken part → Agrees finding beside → IsCall (shape_of seen) beside (vcpu_of_actor (shape_of seen) seen.actor) operation (part_events seen part) answer
