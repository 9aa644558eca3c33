-- A vCPU on its way from PE to PE (own choice).
use Rattle.std.specs.Prelude.{◌≡◌, ℕ, ◌≤◌, ◌==◌, Bool, IsTrue, All, List, length, Option, Some, slice_get}
use Rattle.gic_io.specs.Words.{GuestOp}
use Rattle.pe_place.specs.PeLoop.Enter.{IsBetween}
use Rattle.pe_place.specs.PeLoop.Stay.{IsOff}
use Rattle.pe_place.specs.Core.{Seen, shape_of, IsSameActor}
use Rattle.port_table.specs.Told.{WordsTold, PortIsOf, words_at, opening_seen}
use Rattle.port_table.specs.ScnBase.declared.step.Step.{Step}
use Rattle.port_table.specs.Calls.{is_good_op}
use Rattle.pe_place.specs.VcpuState.declared.shelved.Shelved.{Shelved}
use Rattle.thr_trip.specs.Gone.{HasGone}
use Rattle.thr_trip.specs.Script.{all_vcpus, calls_answered, vcpu_ops}

-- what a vCPU on its way has: itself, its place, its script, the answers so far, and what its port tells
pub record TripTold : Type 0 where
  pub vcpu : Shelved
  pub place : ℕ
  pub script : List GuestOp
  pub answers : List (Option ℕ)
  pub seen : Seen

-- its port as it was split off
abbrev pub opened : List WordsTold → TripTold → Seen
opened words trip = opening_seen (words_at words trip.vcpu.guest) trip.vcpu.vcpu

-- a vCPU of a run is on no PE, at its own place, with its own script and port; and it did the first operations of the script, with these answers, and beside them
-- only entered and left, each time a PE with so many list registers
pub record IsTrip (words : List WordsTold) (lrs : ℕ) (steps : List Step) (trip : TripTold) : Type 0 where
  pub of : PortIsOf words trip.seen
  pub actor : IsSameActor (opened words trip) trip.seen
  pub off : IsOff trip.seen trip.vcpu
  pub place : slice_get (all_vcpus words) trip.place ≡ Some (record { guest = trip.vcpu.guest; vcpu = trip.vcpu.vcpu })
  pub script : trip.script ≡ vcpu_ops trip.vcpu.guest trip.vcpu.vcpu steps
  pub good : All (λ op. IsTrue (is_good_op (shape_of trip.seen) op)) trip.script
  pub next : trip.vcpu.next ≡ length trip.answers
  pub most : length trip.answers ≤ length trip.script
  pub gone : ∥ HasGone lrs (opened words trip) trip.seen (IsBetween trip.seen) (calls_answered trip.script trip.answers) ∥₁

-- it is done: its script is
abbrev pub is_done : TripTold → Bool
is_done trip = length trip.answers == length trip.script
