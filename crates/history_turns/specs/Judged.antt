-- Which of the calls that take the ITS or set EnableLPIs one is.
use Rattle.std.specs.Prelude.{ℕ, ◌&&◌, not, nat_lt, Bool, false, Option, Some, None, if◌then◌else◌}
use Rattle.history_turns.specs.Words.{GuestShape, Redist, Its, Mem, Msi}
use Rattle.history_turns.specs.GicRmap.Map.{decoded as redist_decoded}
use Rattle.history_turns.specs.Calls.{Operation, Access, Device, sets_lpis}
use Rattle.history_turns.specs.declared.calls.ItsWrite.{ItsWrite}

-- the vCPU whose EnableLPIs a vCPU's operation sets
abbrev pub rising_vcpu : GuestShape → ℕ → Operation → Option ℕ
rising_vcpu shape actor (Access (Mem (Redist vcpu) offset size write)) = if nat_lt actor shape.vcpus && sets_lpis shape (redist_decoded offset size) write then Some vcpu else None
rising_vcpu shape actor operation = None

-- the write of a register of the ITS that a vCPU's operation is
abbrev pub its_write : GuestShape → ℕ → Operation → Option ItsWrite
its_write shape actor (Access (Mem Its offset size (Some value))) = if nat_lt actor shape.vcpus then Some (record { offset = offset; size = size; value = value }) else None
its_write shape actor operation = None

-- a device's operation is a message-signalled interrupt
abbrev pub is_message : GuestShape → ℕ → Operation → Bool
is_message shape actor (Device (Msi device event)) = not (nat_lt actor shape.vcpus)
is_message shape actor operation = false
