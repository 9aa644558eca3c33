-- Accesses of the registers that a machine answers itself, and of all others, which are the ideal controller's.
use Rattle.std.specs.Prelude.{ℕ, not, Bool, if◌then◌else◌, Option, Some, None}
use Rattle.ideal_guest.specs.Words.{GuestShape, Frame, Dist, Redist, Its, Ram}
use Rattle.ideal_guest.specs.Registers.{Half, half_read, half_written, has_lpis}
use Rattle.ideal_guest.specs.GicDmap.declared.map.RegRef.{RegRef as DistRef}
use Rattle.ideal_guest.specs.GicDmap.declared.map.RegRef.TheVariants.{Plain as DistPlain}
use Rattle.ideal_guest.specs.GicDmap.declared.map.Reg.TheVariants.{Typer as DistTyper}
use Rattle.ideal_guest.specs.GicDmap.Map.{decoded as dist_decoded}
use Rattle.ideal_guest.specs.GicRmap.declared.map.RegRef.{RegRef as RedistRef}
use Rattle.ideal_guest.specs.GicRmap.declared.map.RegRef.TheVariants.{Plain as RedistPlain}
use Rattle.ideal_guest.specs.GicRmap.declared.map.Reg.TheVariants.{Propbaser, Pendbaser}
use Rattle.ideal_guest.specs.GicRmap.Map.{decoded as redist_decoded}
use Rattle.ideal_guest.specs.GicImap.declared.map.RegRef.{RegRef as ItsRef}
use Rattle.ideal_guest.specs.GicImap.declared.map.RegRef.TheVariants.{Plain as ItsPlain}
use Rattle.ideal_guest.specs.GicImap.declared.map.Reg.TheVariants.{Cbaser}
use Rattle.ideal_guest.specs.GicImap.Map.{decoded as its_decoded}
use Rattle.ideal_guest.specs.Calls.{is_its_enabled}
use Rattle.ideal_guest.specs.declared.guest.IdealGuest.{IdealGuest}
use Rattle.ideal_guest.specs.Ideal.{cpu_at, view_of}
use Rattle.ideal_guest.specs.Call.{after_op, op_answer}
use Rattle.guest_memory.specs.declared.base.Base.{Base}
use Rattle.guest_memory.specs.declared.base.Bases.{Bases}
use Rattle.guest_memory.specs.declared.base.Base.TheVariants.{Queue, Properties, Pending}
use Rattle.gic_vm.specs.declared.own.Own.{Own}
use Rattle.gic_vm.specs.declared.own.Own.TheVariants.{Typer, Of}
use Rattle.guest_memory.specs.declared.access.Access.{Access}
use Rattle.gic_vm.specs.Identity.{typer_told}
use Rattle.guest_memory.specs.Bases.{kept_of, read_of, placed_op, vcpu_of, base_in, with_base}
use Rattle.guest_memory.specs.Access.{op_of}
use Rattle.gic_vm.specs.State.{MachineState, with_guest}
use Rattle.gic_vm.specs.Calls.{value_in}

-- the register that the machine answers itself, by what an access is to in each frame
abbrev pub own_in_dist : DistRef → Option Own
own_in_dist (DistPlain DistTyper half) = Some (Typer half)
own_in_dist ref = None

abbrev pub own_in_redist : ℕ → RedistRef → Option Own
own_in_redist vcpu (RedistPlain Propbaser half) = Some (Of (Properties vcpu) half)
own_in_redist vcpu (RedistPlain Pendbaser half) = Some (Of (Pending vcpu) half)
own_in_redist vcpu ref = None

abbrev pub own_in_its : ItsRef → Option Own
own_in_its (ItsPlain Cbaser half) = Some (Of Queue half)
own_in_its ref = None

-- the same by frame and offset; a machine without LPIs has no ITS
abbrev pub own_at : GuestShape → Frame → ℕ → ℕ → Option Own
own_at shape Dist offset size = own_in_dist (dist_decoded offset size)
own_at shape (Redist vcpu) offset size = own_in_redist vcpu (redist_decoded offset size)
own_at shape Its offset size = if has_lpis shape then own_in_its (its_decoded offset size) else None
own_at shape Ram offset size = None

-- the vCPU whose register it is, if it is one's
abbrev pub own_vcpu : Own → ℕ
own_vcpu (Typer half) = 0
own_vcpu (Of base half) = vcpu_of base

-- the half of it that is accessed
abbrev pub own_half : Own → Half
own_half (Typer half) = half
own_half (Of base half) = half

-- what the register reads
abbrev pub own_read : MachineState → Own → ℕ
own_read machine (Typer half) = half_read half (typer_told machine.guest.shape)
own_read machine (Of base half) = half_read half (read_of base (base_in machine.bases base))

-- a write of the register is taken: GITS_CBASER is not written while the ITS is enabled, the others once EnableLPIs is 1
abbrev pub takes_base : IdealGuest → Base → Bool
takes_base guest Queue = not (is_its_enabled (view_of guest))
takes_base guest (Properties vcpu) = not (cpu_at guest vcpu).lpis
takes_base guest (Pending vcpu) = not (cpu_at guest vcpu).lpis

-- what a register keeps after a write of a half
abbrev pub kept_after : MachineState → Base → Half → ℕ → ℕ
kept_after machine base half value = kept_of base (half_written half (base_in machine.bases base) value)

-- the registers after such a write
abbrev pub bases_after : MachineState → Base → ℕ → Bases
bases_after machine base kept = if takes_base machine.guest base then with_base machine.bases base kept else machine.bases

-- the machine after such a write: the ideal controller's register ignores it where it is ignored here
abbrev pub after_base : Base → Half → ℕ → MachineState → ℕ → MachineState
after_base base half value machine vcpu =
    let kept = kept_after machine base half value in
    record { layout = machine.layout; guest = after_op (placed_op base kept) machine.guest vcpu; bases = bases_after machine base kept }

-- the machine after a read or a write of an own register: GICD_TYPER ignores a write
abbrev pub after_write : Own → Option ℕ → Access → MachineState → ℕ → MachineState
after_write own None access machine vcpu = machine
after_write (Of base half) (Some value) access machine vcpu = after_base base half value machine vcpu
after_write (Typer half) (Some value) access machine vcpu = with_guest machine (after_op (op_of access) machine.guest vcpu)

-- the machine after an access, where it is of this own register or of none
abbrev pub after_own : Option Own → Access → MachineState → ℕ → MachineState
after_own (Some own) access machine vcpu = after_write own access.write access machine vcpu
after_own None access machine vcpu = with_guest machine (after_op (op_of access) machine.guest vcpu)

-- what a read or a write of an own register reads
abbrev pub read_write : Own → Option ℕ → MachineState → ℕ
read_write own None machine = own_read machine own
read_write own (Some value) machine = 0

-- what an access reads
abbrev pub read_own : Option Own → Access → MachineState → ℕ → ℕ
read_own (Some own) access machine vcpu = read_write own access.write machine
read_own None access machine vcpu = value_in (op_answer (op_of access) machine.guest vcpu)

-- the own register that the access is of
abbrev pub own_of : Access → MachineState → Option Own
own_of access machine = own_at machine.guest.shape access.frame access.offset access.size

-- the machine after an access, and what it reads
abbrev pub after_access : Access → MachineState → ℕ → MachineState
after_access access machine vcpu = after_own (own_of access machine) access machine vcpu

abbrev pub access_read : Access → MachineState → ℕ → ℕ
access_read access machine vcpu = read_own (own_of access machine) access machine vcpu
