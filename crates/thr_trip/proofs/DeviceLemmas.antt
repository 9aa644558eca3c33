-- A device does one more operation.
use Rattle.std.proofs.Common.{◌≡◌, ℕ, ◌<◌, suc, All, true, false, IsTrue, List, length, take, None, Some, refl, sym, ap, subst, ◌∙◌}
use Rattle.std.specs.Prelude.{slice_get}
use Rattle.std.proofs.Math.Logic.{∥∥₁_map}
use Rattle.pe_place.specs.Core.{IsAtRest, Seen, shape_of}
use Rattle.pe_place.proofs.CoreProper.RestLemmas.{rests_again}
use Rattle.gic_io.specs.Words.{DeviceOp, GuestShape}
use Rattle.port_table.specs.Calls.{Device, is_good_event}
use Rattle.port_table.specs.PortOps.PortCore.IdealGuests.declared.guest.IdealGuest.{IdealGuest}
use Rattle.pe_place.specs.Device.{DoesEvent}
use Rattle.pe_place.specs.Parts.{IsSent, Part}
use Rattle.pe_place.proofs.FoundLemmas.{device_found}
use Rattle.port_table.specs.Told.{WordsTold, words_at}
use Rattle.port_table.specs.ScnBase.declared.step.Step.{Step}
use Rattle.pe_place.specs.DevPort.Device.{CanCall}
use Rattle.thr_trip.specs.Device.{DeviceTold, IsDevice, Receives, calls_done, opened}
use Rattle.thr_trip.specs.Gone.{HasGone}
use Rattle.thr_trip.specs.Script.{calls_received}
use Rattle.thr_trip.proofs.CallLemmas.{received_more}
use Rattle.thr_trip.proofs.GoneLemmas.{goes_on_by}
use Rattle.port_table.proofs.PortCore.SameLemmas.{same_after, same_twice}

-- None.
pub receives_none : (script : List DeviceOp) (seen : Seen) → CanCall seen → Receives (take 0 script) seen seen
receives_none script seen ready = record { actor = record { home = refl; guest = refl; number = refl; actor = refl }; ready = ready; goes_on = λ from gone. gone }

-- One more.
pub receives_more : (script : List DeviceOp) (first old new : Seen) (done : ℕ) (op : DeviceOp) → slice_get script done ≡ Some op → Receives (take done script) first old → DoesEvent old new op → Receives (take (suc done) script) first new
receives_more script first old new done op there so does =
    let part : Part = record { operation = Device op; lrs = 0; steps = does.part; answer = None } in
    record {
      actor = same_twice first old new so.actor (same_after old new does.part does.adds);
      ready = does.after;
      goes_on = λ from gone.
          let here = so.goes_on from gone in
          let calls = calls_received (take done script) in
          let SentIn : GuestShape → Type 0 = λ shape. IsSent shape (Device op) does.part in
          subst (HasGone 0 from new (IsAtRest new)) (sym (received_more script done op there))
          (goes_on_by 0 from old new (IsAtRest old) (IsAtRest new) calls part refl (subst SentIn (ap shape_of here.adds.new_is) does.sent) does.adds (device_found old op does.part does.call) does.proper
          (λ p rest. rests_again old new p does.part (Device op) 0 None rest (does.proper p rest) does.adds) here);
    }

-- All of its script.
pub device_done : (words : List WordsTold) (steps : List Step) (device : DeviceTold) (new : Seen) → IsDevice words steps device → device.done ≡ false → Receives device.script device.seen new → IsDevice words steps (record device { done = true; seen = new })
device_done words steps device new is none receives =
    let same = receives.actor in
    let from = opened words device in
    record {
      of = record { guest = subst (λ number. number < length words) (sym same.number) is.of.guest; home = ap (λ number. (words_at words number).home) same.number ∙ is.of.home ∙ sym same.home };
      actor = same_twice from device.seen new is.actor same;
      number = same.number ∙ is.number;
      ready = receives.ready;
      script = is.script;
      good = subst (λ (guest : IdealGuest). All (λ op. IsTrue (is_good_event guest.shape op)) device.script) (sym same.guest) is.good;
      gone = ∥∥₁_map is.gone (λ gone. receives.goes_on from (subst (HasGone 0 from device.seen (IsAtRest device.seen)) (ap (λ done. calls_done done device.script) none) gone));
    }
