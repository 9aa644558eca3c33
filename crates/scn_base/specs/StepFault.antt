-- The code of a step that cannot be done: the least of those that it has (own choice).
use Rattle.std.specs.Prelude.{ℕ, ◌&&◌, ◌||◌, not, nat_lt, List, [], ◌∷◌, length, Bool, Option, is_some, slice_get}
use Rattle.gic_guest.specs.Words.{GuestShape, Icc, Mem, Message, Wire, Msi, Enter, Exit, Lrs, has_interrupt, Spi, Frame}
use Rattle.gic_guest.specs.GicRam.Access.{is_size}
use Rattle.scn_base.specs.declared.step.Step.{Step}
use Rattle.scn_base.specs.declared.step.Step.TheVariants.{Vcpu, Device, Pe}
use Rattle.scn_base.specs.declared.step.Mode.{Mode}
use Rattle.scn_base.specs.declared.standing.Standing.{Standing}
use Rattle.scn_base.specs.Codes.{limit_code, unknown_register_code, unknown_actor_code, not_loaded_code, pe_busy_code, pe_step_code, wire_level_code, address_code, first_met}
use Rattle.gic_guest.specs.Good.{passes, is_usable, fits, has_frame, is_inside, has_wire}
use Rattle.scn_base.specs.Standing.{has_vcpu, resident_of, wire_of}
use Rattle.scn_base.specs.Good.{is_threads, is_loaded, may_enter, may_move}

-- a guest has the vCPU and what the vCPU accesses
abbrev pub has_access : List GuestShape → ℕ → ℕ → Frame → Bool
has_access shapes guest vcpu frame = passes (λ shape. nat_lt vcpu shape.vcpus && has_frame shape frame) (slice_get shapes guest)

-- a guest has the device, and passes a test
abbrev pub has_device : (GuestShape → Bool) → List GuestShape → ℕ → ℕ → Bool
has_device test shapes guest device = passes (λ shape. nat_lt device shape.devices && test shape) (slice_get shapes guest)

-- the PE is there; on threads that is not asked
abbrev pub has_pe : Mode → Standing → ℕ → Bool
has_pe mode standing pe = is_threads mode || nat_lt pe (length standing.pes)

-- a step that has no fault of shape, judged by the standing before it
abbrev pub step_fault : Mode → Standing → Step → Option ℕ
step_fault mode standing (Vcpu guest vcpu (Icc reg write)) =
    first_met
    ((not (is_usable reg write), unknown_register_code)
    ∷ (not (has_vcpu standing.shapes guest vcpu), unknown_actor_code)
    ∷ (not (is_loaded mode standing guest vcpu), not_loaded_code)
    ∷ [])
step_fault mode standing (Vcpu guest vcpu (Mem frame offset size write)) =
    first_met
    ((not (is_size size && fits size write), limit_code)
    ∷ (not (has_access standing.shapes guest vcpu frame), unknown_actor_code)
    ∷ (not (is_loaded mode standing guest vcpu), not_loaded_code)
    ∷ (not (passes (λ shape. is_inside shape frame offset size) (slice_get standing.shapes guest)), address_code)
    ∷ [])
step_fault mode standing (Device guest device (Message spi)) =
    first_met ((not (has_device (λ shape. has_interrupt shape (Spi spi)) standing.shapes guest device), unknown_actor_code) ∷ [])
step_fault mode standing (Device guest device (Wire key up)) =
    first_met
    ((not (has_device (λ shape. has_wire key && has_interrupt shape key) standing.shapes guest device), unknown_actor_code)
    ∷ (not (may_move device up (wire_of standing guest key)), wire_level_code)
    ∷ [])
step_fault mode standing (Device guest device (Msi number event)) =
    first_met ((not (has_device (λ shape. nat_lt 0 shape.lpis) standing.shapes guest device), unknown_actor_code) ∷ [])
step_fault mode standing (Pe pe (Enter guest vcpu)) =
    first_met
    ((not (has_pe mode standing pe && has_vcpu standing.shapes guest vcpu), unknown_actor_code)
    ∷ (not (is_threads mode || may_enter standing pe guest vcpu), pe_busy_code)
    ∷ (is_threads mode, pe_step_code)
    ∷ [])
step_fault mode standing (Pe pe Exit) =
    first_met
    ((not (has_pe mode standing pe), unknown_actor_code)
    ∷ (not (is_threads mode || is_some (resident_of standing.pes pe)), not_loaded_code)
    ∷ (is_threads mode, pe_step_code)
    ∷ [])
step_fault mode standing (Pe pe Lrs) =
    first_met ((not (has_pe mode standing pe), unknown_actor_code) ∷ (is_threads mode, pe_step_code) ∷ [])
