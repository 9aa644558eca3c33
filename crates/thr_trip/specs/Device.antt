-- A device of a run (own choice).
use Rattle.std.specs.Prelude.{◌≡◌, ℕ, ◌+◌, Bool, true, false, IsTrue, All, List, []}
use Rattle.pe_place.specs.Core.{IsAtRest, Seen, shape_of, IsSameActor}
use Rattle.pe_place.specs.DevPort.Device.{CanCall}
use Rattle.pe_place.specs.LawEagerIsHistory.Calls.{Made}
use Rattle.gic_io.specs.Words.{DeviceOp}
use Rattle.port_table.specs.Told.{WordsTold, PortIsOf, words_at, opening_seen}
use Rattle.port_table.specs.ScnBase.declared.step.Step.{Step}
use Rattle.port_table.specs.Calls.{is_good_event}
use Rattle.thr_trip.specs.Gone.{HasGone}
use Rattle.thr_trip.specs.Script.{calls_received, device_ops}

-- what a device has: its guest, its number there, its script, whether that is done, and what its port tells
pub record DeviceTold : Type 0 where
  pub guest : ℕ
  pub device : ℕ
  pub script : List DeviceOp
  pub done : Bool
  pub seen : Seen

-- its port as it was split off
abbrev pub opened : List WordsTold → DeviceTold → Seen
opened words device = let guest = words_at words device.guest in opening_seen guest (guest.guest.shape.vcpus + device.device)

-- the calls that it made: all of its script, or none
abbrev pub calls_done : Bool → List DeviceOp → List Made
calls_done true script = calls_received script
calls_done false script = []

-- a device of a run has its own script and port, and did the operations of the script, or nothing yet; it can do a further one
pub record IsDevice (words : List WordsTold) (steps : List Step) (device : DeviceTold) : Type 0 where
  pub of : PortIsOf words device.seen
  pub actor : IsSameActor (opened words device) device.seen
  pub number : device.seen.number ≡ device.guest
  pub ready : CanCall device.seen
  pub script : device.script ≡ device_ops device.guest device.device steps
  pub good : All (λ op. IsTrue (is_good_event (shape_of device.seen) op)) device.script
  pub gone : ∥ HasGone 0 (opened words device) device.seen (IsAtRest device.seen) (calls_done device.done device.script) ∥₁

-- operations of a device: it went on by their calls, and can do a further one
pub record Receives (script : List DeviceOp) (old new : Seen) : Type 0 where
  pub actor : IsSameActor old new
  pub ready : CanCall new
  pub goes_on : (from : Seen) → HasGone 0 from old (IsAtRest old) [] → HasGone 0 from new (IsAtRest new) (calls_received script)
