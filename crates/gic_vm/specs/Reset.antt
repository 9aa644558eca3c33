-- The resets of a machine and of a vCPU (own choice of how far each goes).
use Rattle.std.specs.Prelude.{ℕ, false, nat_lt, if◌then◌else◌, Option, Some, None}
use Rattle.ideal_guest.specs.Calls.{opening_cpu}
use Rattle.ideal_guest.specs.declared.guest.IdealGuest.{IdealGuest}
use Rattle.ideal_guest.specs.Ideal.{cpu_at, with_cpu}
use Rattle.ideal_guest.specs.Opening.{opening}
use Rattle.guest_memory.specs.Bases.{no_bases}
use Rattle.gic_vm.specs.State.{MachineState, after_reset}

-- the guest after a reset of the machine: as it opened, with every wire down
abbrev pub reset_of : IdealGuest → IdealGuest
reset_of guest = opening (after_reset guest.shape)

-- the machine after it
abbrev pub reset_machine : MachineState → MachineState
reset_machine machine = record { layout = machine.layout; guest = reset_of machine.guest; bases = no_bases }

-- the guest with the CPU interface of a vCPU as it opened, without an active priority. The interrupts stay pending and active, and the redistributor stays as
-- it is, with its EnableLPIs
abbrev pub with_cpu_reset : ℕ → IdealGuest → IdealGuest
with_cpu_reset vcpu guest = with_cpu guest vcpu (record (opening_cpu false) { lpis = (cpu_at guest vcpu).lpis })

-- the same, if the guest has the vCPU
abbrev pub reset_cpu_of : ℕ → IdealGuest → Option IdealGuest
reset_cpu_of vcpu guest = if nat_lt vcpu guest.shape.vcpus then Some (with_cpu_reset vcpu guest) else None
