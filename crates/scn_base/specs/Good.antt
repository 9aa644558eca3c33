-- What holds of each scenario that has no fault (own choice).
use Rattle.std.specs.Prelude.{◌≡◌, ℕ, ◌≤◌, ◌&&◌, ◌||◌, ◌==◌, List, [], ◌∷◌, length, All, Bool, true, false, not, IsTrue, nat_lt, if◌then◌else◌, Option, Some, None, is_some, is_none, slice_get}
use Rattle.gic_guest.specs.Words.{GuestShape, Message, Wire, Msi, PeOp, Enter, Exit, Lrs}
use Rattle.gic_guest.specs.Good.{passes, IsGoodGuest, shapes_of, is_good_op, is_good_event}
use Rattle.scn_base.specs.declared.scenario.Scenario.{Scenario}
use Rattle.scn_base.specs.declared.step.Step.{Step}
use Rattle.scn_base.specs.declared.step.Step.TheVariants.{Vcpu, Device, Pe}
use Rattle.scn_base.specs.declared.step.Mode.{Mode}
use Rattle.scn_base.specs.declared.step.Mode.TheVariants.{Schedule, Threads}
use Rattle.scn_base.specs.declared.standing.MovedWire.{MovedWire}
use Rattle.scn_base.specs.declared.standing.Standing.{Standing}
use Rattle.scn_base.specs.Standing.{has_vcpu, is_resident, resident_of, wire_of, opening_standing, standing_after}

-- ---- steps, each by itself

-- a vCPU that is entered is there
abbrev pub is_good_pe_op : List GuestShape → PeOp → Bool
is_good_pe_op shapes (Enter guest vcpu) = has_vcpu shapes guest vcpu
is_good_pe_op shapes Exit = true
is_good_pe_op shapes Lrs = true

-- the scenario is run on threads
abbrev pub is_threads : Mode → Bool
is_threads Schedule = false
is_threads Threads = true

-- all of a step that does not depend on the steps before it: who acts is there, and what it does can be done; on threads, which place
-- the vCPUs themselves, no step is of a PE
abbrev pub is_formed : Mode → ℕ → List GuestShape → Step → Bool
is_formed mode pes shapes (Vcpu guest vcpu op) = passes (λ shape. nat_lt vcpu shape.vcpus && is_good_op shape op) (slice_get shapes guest)
is_formed mode pes shapes (Device guest device op) = passes (λ shape. nat_lt device shape.devices && is_good_event shape op) (slice_get shapes guest)
is_formed mode pes shapes (Pe pe op) = not (is_threads mode) && nat_lt pe pes && is_good_pe_op shapes op

-- ---- steps, each after those before it

-- a wire may be moved: to the other level, by the device that moved it before, if any did; it opens down
abbrev pub may_move : ℕ → Bool → Option MovedWire → Bool
may_move device up None = up
may_move device up (Some wire) = wire.device == device && (if up then not wire.up else wire.up)

-- a vCPU that acts is on a PE; on threads it is put on one
abbrev pub is_loaded : Mode → Standing → ℕ → ℕ → Bool
is_loaded mode standing guest vcpu = is_threads mode || is_resident standing.pes guest vcpu

-- a vCPU that is on no PE may enter one that has none
abbrev pub may_enter : Standing → ℕ → ℕ → ℕ → Bool
may_enter standing pe guest vcpu = is_none (resident_of standing.pes pe) && not (is_resident standing.pes guest vcpu)

-- a step may follow the steps before it
abbrev pub stands : Mode → Standing → Step → Bool
stands mode standing (Vcpu guest vcpu op) = is_loaded mode standing guest vcpu
stands mode standing (Device guest device (Message spi)) = true
stands mode standing (Device guest device (Wire key up)) = may_move device up (wire_of standing guest key)
stands mode standing (Device guest device (Msi number event)) = true
stands mode standing (Pe pe (Enter guest vcpu)) = is_threads mode || may_enter standing pe guest vcpu
stands mode standing (Pe pe Exit) = is_threads mode || is_some (resident_of standing.pes pe)
stands mode standing (Pe pe Lrs) = true

-- each step may follow those before it, from a standing on
abbrev pub stand_in_turn : Mode → Standing → List Step → Bool
stand_in_turn mode standing [] = true
stand_in_turn mode standing (step ∷ steps) = stands mode standing step && stand_in_turn mode (standing_after step standing) steps

-- the scenario has no fault in this mode
pub record IsGood (mode : Mode) (scenario : Scenario) : Type 0 where
  pub some_pe : 1 ≤ scenario.pes
  pub pes : scenario.pes ≤ 8
  pub some_list_register : 1 ≤ scenario.lrs
  pub list_registers : scenario.lrs ≤ 16
  pub some_guest : 1 ≤ length scenario.guests
  pub guests : length scenario.guests ≤ 4
  pub each_guest : All IsGoodGuest scenario.guests
  pub steps : length scenario.steps ≤ 100000
  pub each_step : All (λ step. IsTrue (is_formed mode scenario.pes (shapes_of scenario.guests) step)) scenario.steps
  pub in_turn : IsTrue (stand_in_turn mode (opening_standing scenario.pes (shapes_of scenario.guests)) scenario.steps)
