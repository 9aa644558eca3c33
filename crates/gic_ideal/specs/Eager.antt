-- The ideal controller over a whole scenario: each step is done whole, and nothing ever waits at an interface.
use Rattle.std.specs.Prelude.{ℕ, ◌+◌, List, [], ◌∷◌, map, replicate, slice_get, slice_set, Option, Some, None}
use Rattle.std.specs.List.{slice_index_or}
use Rattle.std.specs.Option.{option_map_or}
use Rattle.ideal_guest.specs.Words.{GuestShape, PeOp, Enter, Exit, Lrs}
use Rattle.scn_base.specs.declared.scenario.Scenario.{Scenario}
use Rattle.scn_base.specs.declared.step.Step.{Step}
use Rattle.scn_base.specs.declared.step.Step.TheVariants.{Vcpu, Device, Pe}
use Rattle.ideal_guest.specs.declared.guest.IdealGuest.{IdealGuest}
use Rattle.ideal_guest.specs.Calls.{RunOut, Regs, shapes_of}
use Rattle.ideal_guest.specs.GicGuest.declared.outcome.Answer.{Answer}
use Rattle.ideal_guest.specs.GicGuest.declared.outcome.Answer.TheVariants.{Nothing}
use Rattle.gic_ideal.specs.Shown.{registers_of}
use Rattle.ideal_guest.specs.Opening.{opening}
use Rattle.ideal_guest.specs.Call.{after_op, op_answer, after_device}
use Rattle.scn_base.specs.declared.pes.VcpuName.{VcpuName}
use Rattle.scn_base.specs.Standing.{opening_pes, pes_after}
use Rattle.gic_ideal.specs.Ends.{ends_of}

-- what each guest has of each kind
abbrev pub state_shapes : List IdealGuest → List GuestShape
state_shapes guests = map (λ guest. guest.shape) guests

-- the guests after something happened to one of them, where there is such a guest
abbrev pub at_guest : ℕ → (IdealGuest → IdealGuest) → List IdealGuest → List IdealGuest
at_guest n change guests = option_map_or (λ guest. slice_set guests n (change guest)) (slice_get guests n) guests

-- the guests after a step; the list registers of a PE are only shown
abbrev pub after_step : Step → List IdealGuest → List IdealGuest
after_step (Vcpu guest vcpu op) guests = at_guest guest (λ state. after_op op state vcpu) guests
after_step (Device guest device op) guests = at_guest guest (after_device op) guests
after_step (Pe pe op) guests = guests

-- what is shown of a PE with n list registers, on which this vCPU stands, or none: then zeros
abbrev pub shown : ℕ → Option VcpuName → List IdealGuest → Answer
shown n None guests = Regs (replicate (n + 1) 0)
shown n (Some name) guests = option_map_or (λ state. Regs (registers_of n state name.vcpu)) (slice_get guests name.guest) Nothing

-- what a step of a PE answers, where these vCPUs stand on the PEs
abbrev pub pe_answer : ℕ → List (Option VcpuName) → ℕ → PeOp → List IdealGuest → Answer
pe_answer n pes pe Lrs guests = shown n (slice_index_or pes pe None) guests
pe_answer n pes pe Exit guests = Nothing
pe_answer n pes pe (Enter guest vcpu) guests = Nothing

-- what a step answers
abbrev pub step_answer : ℕ → List (Option VcpuName) → Step → List IdealGuest → Answer
step_answer n pes (Vcpu guest vcpu op) guests = option_map_or (λ state. op_answer op state vcpu) (slice_get guests guest) Nothing
step_answer n pes (Device guest device op) guests = Nothing
step_answer n pes (Pe pe op) guests = pe_answer n pes pe op guests

-- the guests after some steps, one after the other
abbrev pub after_steps : List Step → List IdealGuest → List IdealGuest
after_steps [] guests = guests
after_steps (step ∷ steps) guests = after_steps steps (after_step step guests)

-- what each of the steps answers
abbrev pub answers_of : ℕ → List (Option VcpuName) → List Step → List IdealGuest → List Answer
answers_of n pes [] guests = []
answers_of n pes (step ∷ steps) guests = step_answer n pes step guests ∷ answers_of n (pes_after step pes) steps (after_step step guests)

-- the run of some steps by the ideal controller from states on, with the vCPUs so on the PEs, of guests that opened so
abbrev pub eager_from : ℕ → List (Option VcpuName) → List Step → List IdealGuest → List IdealGuest → RunOut
eager_from lrs pes steps opened states =
    record { answers = answers_of lrs pes steps states; ends = ends_of opened (after_steps steps states) }

-- the run of a scenario: from the states in which its guests open
abbrev pub eager : Scenario → RunOut
eager scenario =
    let guests = map opening scenario.guests in
    eager_from scenario.lrs (opening_pes scenario.pes (shapes_of scenario.guests)) scenario.steps guests guests
