-- The events of an operation, but those of commands, move no LPI and map nothing.
use Rattle.std.proofs.Common.{◌≡◌, ℕ, true, Option, Some, None, refl}
use Rattle.std.specs.List.{list_all}
use Rattle.law_lone_calls_are_eager.specs.Words.{IccReg, DeviceOp, Frame, Dist, Redist, Its, Ram as Memory, GuestShape}
use Rattle.law_lone_calls_are_eager.specs.GicDmap.Map.{decoded as dist_decoded}
use Rattle.law_lone_calls_are_eager.specs.GicImap.declared.map.RegRef.{RegRef as ItsRef}
use Rattle.law_lone_calls_are_eager.specs.GicImap.declared.map.RegRef.TheVariants.{Plain as ItsPlain, Reserved as ItsReserved}
use Rattle.law_lone_calls_are_eager.specs.GicImap.Map.{decoded as its_decoded}
use Rattle.law_lone_calls_are_eager.specs.GicRmap.Map.{decoded as redist_decoded}
use Rattle.law_lone_calls_are_eager.specs.Calls.{access_events, device_events, icc_events, its_events, View}
use Rattle.law_lone_calls_are_eager.proofs.PassLemmas.{PassesNamed, device_all, dist_all, memory_all, raises_all, redist_all}
use Rattle.law_lone_calls_are_eager.proofs.TurnLemmas.{its_all}
use Rattle.law_unmapped_lpis.proofs.EventLemmas.{is_calm}

calm_named : PassesNamed is_calm
calm_named = record {
  raise = λ key. refl;
  up = λ key. refl;
  down = λ key. refl;
  touch = λ key touching plain. plain;
  enable = λ vcpu. refl;
  ctlr_begin = λ enables. refl;
  ctlr_end = refl;
  its_begin = refl;
  its_end = refl;
  ram = λ index value. refl;
  propbaser = λ vcpu value. refl;
  pendbaser = λ vcpu value. refl;
}

its_calm : (shape : GuestShape) (view : View) (ref : ItsRef) (write : Option ℕ) → list_all is_calm (its_events shape view ref write) ≡ true
its_calm shape view ref (Some value) = its_all is_calm (λ word v. refl) (λ offset. refl) shape view ref value
its_calm shape view (ItsPlain reg half) None = refl
its_calm shape view ItsReserved None = refl

pub access_calm : (shape : GuestShape) (view : View) (frame : Frame) (offset size : ℕ) (write : Option ℕ) → list_all is_calm (access_events shape view frame offset size write) ≡ true
access_calm shape view Dist offset size write = dist_all is_calm calm_named shape view (dist_decoded offset size) write
access_calm shape view (Redist vcpu) offset size write = redist_all is_calm calm_named shape view vcpu (redist_decoded offset size) write
access_calm shape view Its offset size write = its_calm shape view (its_decoded offset size) write
access_calm shape view Memory offset size None = refl
access_calm shape view Memory offset size (Some value) = memory_all is_calm calm_named shape view offset size value

pub icc_calm : (shape : GuestShape) (vcpu : ℕ) (reg : IccReg) (write : Option ℕ) → list_all is_calm (icc_events shape vcpu reg write) ≡ true
icc_calm shape vcpu reg write = raises_all is_calm calm_named shape vcpu reg write

pub device_calm : (view : View) (op : DeviceOp) → list_all is_calm (device_events view op) ≡ true
device_calm view op = device_all is_calm calm_named view op
