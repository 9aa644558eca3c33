-- Calls of a course that write a register of the ITS that takes it.
use Rattle.std.specs.Prelude.{◌≡◌, ◌↔◌, ℕ, nat_lt, Bool, true, length, Option, Some, None, slice_index_or}
use Rattle.history_commands.specs.Words.{GuestShape, Its as ItsFrame, Mem}
use Rattle.history_commands.specs.GicImap.Map.{decoded as its_decoded}
use Rattle.history_commands.specs.Calls.{Access, takes_turn}
use Rattle.history_commands.specs.Histories.{Call, IsEndedAs}
use Rattle.history_commands.specs.HistoryCalls.Exact.{IsOpen}
use Rattle.history_commands.specs.LegalLists.Legal.{IsBegun}
use Rattle.history_commands.specs.Written.{IsItsMade}
use Rattle.history_commands.specs.Begun.{begun_by}
use Rattle.history_commands.specs.Opened.{IsItsBegun}

-- the vCPUs that the LPIs were for as a command of the call began
abbrev pub targets_of : Call → ℕ → ℕ → Option ℕ
targets_of call number = slice_index_or call.commands number (λ id. None)

-- such a call is over exactly where it is made so, by the maps that it took and by these vCPUs, and it answers nothing; whatever it signalled
abbrev pub TakingCallsEnd : Type 0
TakingCallsEnd =
    (shape : GuestShape) (actor offset size value : ℕ) (call : Call) (signals : Bool) (answer : Option ℕ) → takes_turn shape (its_decoded offset size) (Some value) ≡ true → nat_lt actor shape.vcpus ≡ true
    → call.operation ≡ Access (Mem ItsFrame offset size (Some value)) → IsOpen call → IsEndedAs signals shape actor call answer ↔ (IsItsMade shape call.maps (targets_of call) actor offset size value call.piece × (answer ≡ None))

-- and it can still become one exactly where it is begun so, where as many of its commands began as its own events say
abbrev pub TakingCallsBegin : Type 0
TakingCallsBegin =
    (shape : GuestShape) (actor offset size value : ℕ) (call : Call) (signals : Bool) → takes_turn shape (its_decoded offset size) (Some value) ≡ true → nat_lt actor shape.vcpus ≡ true
    → call.operation ≡ Access (Mem ItsFrame offset size (Some value)) → IsOpen call → length call.commands ≡ begun_by call.piece → IsBegun signals shape actor call ↔ IsItsBegun shape call.maps (targets_of call) actor offset size value call.piece
