-- A machine that goes on from another state of its guest.
use Rattle.ideal_guest.specs.declared.guest.IdealGuest.{IdealGuest}
use Rattle.guest_memory.specs.declared.base.Bases.{Bases}
use Rattle.gic_vm.specs.State.{MachineState}

-- the machine with this guest, and these registers that tell where the guest has its queue and tables: its frames stay where they are
abbrev pub put_in : IdealGuest → Bases → MachineState → MachineState
put_in guest bases machine = record { layout = machine.layout; guest = guest; bases = bases }
