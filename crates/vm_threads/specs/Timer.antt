-- The line of a vCPU's own timer.
use Rattle.std.specs.Prelude.{ℕ, not, Bool, if◌then◌else◌}
use Rattle.dev_port.specs.Words.{Private, Wire as WireOp}
use Rattle.dev_port.specs.Core.{Seen}
use Rattle.dev_port.specs.Device.{Changes, wire_step}

-- a line that is so has this level
abbrev pub has_level : Bool → Bool → Bool
has_level is up = if up then is else not is

-- a device moved the line of a PPI of a vCPU to a level
abbrev pub Moves : Seen → Seen → ℕ → ℕ → Bool → Type 0
Moves old new vcpu ppi up = Changes old new (WireOp (Private vcpu ppi) up) (wire_step (Private vcpu ppi) up) (Private vcpu ppi)
