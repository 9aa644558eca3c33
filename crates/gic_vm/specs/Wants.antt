-- Where the guest has what an access of a machine may make the GIC read.
use Rattle.std.specs.Prelude.{Option, None, Some}
use Rattle.guest_memory.specs.declared.access.Access.{Access}
use Rattle.guest_memory.specs.declared.wants.Wants.{Wants}
use Rattle.guest_memory.specs.Wants.{wanted_by, no_wants}
use Rattle.gic_vm.specs.State.{MachineState}

-- of an access, or of none
abbrev pub wants_of : MachineState → Option Access → Wants
wants_of machine None = no_wants
wants_of machine (Some access) = wanted_by machine.guest machine.bases access
