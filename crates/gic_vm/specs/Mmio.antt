-- Accesses by guest physical addresses: what they read, and the machine after them.
use Rattle.std.specs.Prelude.{ℕ, ◌%◌, ◌*◌, ◌^◌, ◌==◌, ◌≡◌, ◌&&◌, nat_lt, if◌then◌else◌, Option, Some, None, option_and_then}
use Rattle.std.specs.Option.{option_map, option_map_or}
use Rattle.ideal_guest.specs.Words.{Frame}
use Rattle.ideal_guest.specs.Registers.{is_size}
use Rattle.gic_vm.specs.declared.done.Done.{Done}
use Rattle.guest_memory.specs.declared.access.Access.{Access}
use Rattle.gic_vm.specs.Layout.{frame_at}
use Rattle.ideal_guest.specs.declared.guest.IdealGuest.{IdealGuest}
use Rattle.gic_vm.specs.State.{MachineState, with_guest}
use Rattle.guest_memory.specs.Memory.{IsCopied}
use Rattle.guest_memory.specs.Wants.{Wanted, wanted_by}
use Rattle.gic_vm.specs.Calls.{done_by}
use Rattle.gic_vm.specs.Own.{after_access, access_read}

-- the low bytes of a value, so many
abbrev pub low_bytes : ℕ → ℕ → ℕ
low_bytes size value = value % 2 ^ (8 * size)

-- the access of a place in a frame; none where it has another size than 1, 2, 4 or 8, or is not aligned to it (own choice: such an access reads 0 and
-- writes nothing)
abbrev pub access_of : Frame × ℕ → ℕ → Option ℕ → Option Access
access_of place size write =
    if is_size size && place.1 % size == 0 then Some (record { frame = place.0; offset = place.1; size = size; write = option_map (low_bytes size) write }) else None

-- the place that a vCPU of the machine accesses at an address
abbrev pub place_at : MachineState → ℕ → ℕ → Option (Frame × ℕ)
place_at machine vcpu address = if nat_lt vcpu machine.guest.shape.vcpus then frame_at machine.guest.shape machine.layout address else None

-- the access that a vCPU makes at an address, if it is one of a register
abbrev pub access_at : MachineState → ℕ → ℕ → ℕ → Option ℕ → Option Access
access_at machine vcpu address size write = option_and_then (λ place. access_of place size write) (place_at machine vcpu address)

-- the machine after an access, or after none
abbrev pub after_some : Option Access → MachineState → ℕ → MachineState
after_some access machine vcpu = option_map_or (λ access. after_access access machine vcpu) access machine

-- what an access answers, or none, which reads 0
abbrev pub read_some : Option Access → MachineState → ℕ → ℕ
read_some access machine vcpu = option_map_or (λ access. access_read access machine vcpu) access 0

-- before an access, or none, the guest is as it was but for what the GIC may read, by reads of addresses that the access wants
abbrev pub IsReady : (ℕ → Option ℕ → Type 0) → Option Access → MachineState → IdealGuest → Type 0
IsReady May None machine copied = copied ≡ machine.guest
IsReady May (Some access) machine copied = IsCopied (Wanted (wanted_by machine.guest machine.bases access) May) machine.bases access machine.guest copied

-- an access, or none, is made of a machine, and answered: what the GIC may read was copied first, of answers that reads of the guest's memory may have
pub record IsMade (May : ℕ → Option ℕ → Type 0) (access : Option Access) (vcpu : ℕ) (before after : MachineState) (done : Done) : Type 0 where
  pub copied : IdealGuest
  pub ready : IsReady May access before copied
  pub machine : after ≡ after_some access (with_guest before copied) vcpu
  pub answers : done ≡ done_by (read_some access (with_guest before copied) vcpu) before.guest after.guest
