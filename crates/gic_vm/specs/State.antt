-- What a machine is, and how it opens.
use Rattle.std.specs.Prelude.{ℕ, ◌==◌, if◌then◌else◌, [], false}
use Rattle.ideal_guest.specs.Words.{GuestShape}
use Rattle.ideal_guest.specs.Calls.{GuestSpec}
use Rattle.ideal_guest.specs.declared.guest.IdealGuest.{IdealGuest}
use Rattle.ideal_guest.specs.Opening.{opening}
use Rattle.gic_vm.specs.declared.layout.Layout.{Layout}
use Rattle.gic_vm.specs.declared.layout.MachineSpec.{MachineSpec}
use Rattle.guest_memory.specs.declared.base.Bases.{Bases}
use Rattle.guest_memory.specs.Bases.{memory_bytes, no_bases}

-- where the frames are, the guest under the ideal controller, and the registers that tell where that has its queue and tables, as they read back
pub record MachineState : Type 0 where
  pub layout : Layout
  pub guest : IdealGuest
  pub bases : Bases

-- the bytes of the GIC's own memory, which there are where there are LPIs
abbrev pub memory_of : ℕ → ℕ
memory_of lpis = if lpis == 0 then 0 else memory_bytes

-- what the guest of a machine has; any number of devices may call, so none is counted
abbrev pub shape_of : MachineSpec → GuestShape
shape_of spec = record { vcpus = spec.vcpus; spis = spec.spis; espis = spec.espis; devices = 0; lpis = spec.lpis; ram = memory_of spec.lpis }

-- a guest of this shape opens with nothing enabled (IHI 0069, "Reset": the group enables, the masks and the enables of interrupts are 0)
abbrev pub after_reset : GuestShape → GuestSpec
after_reset shape = record { shape = shape; on = false; presets = [] }

-- the machine as it opens
abbrev pub opening_of : MachineSpec → MachineState
opening_of spec = record { layout = spec.layout; guest = opening (after_reset (shape_of spec)); bases = no_bases }

-- the machine with this guest
abbrev pub with_guest : MachineState → IdealGuest → MachineState
with_guest machine guest = record machine { guest = guest }
