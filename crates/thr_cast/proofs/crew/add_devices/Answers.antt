-- One more device is there.
use Rattle.std.proofs.Common.{◌≡◌, false, List, [], ◌∷◌, ◌++◌, length, map, sym, ap, subst, ◌∙◌, arith}
use Rattle.std.specs.Vec.Iter.{into_iter_items}
use Rattle.std.proofs.lemmas.List.{map-append}
use Rattle.thr_trip.specs.declared.device.DeviceRun.{DeviceRun}
use Rattle.thr_trip.specs.Device.{DeviceTold}
use Rattle.thr_trip.specs.Told.{device_told}
use Rattle.thr_cast.specs.Crew.{HaveWorkers, pe_numbers}
use Rattle.guest_end.proofs.EndsLemmas.{nothing_left}
use Rattle.thr_cast.proofs.WorkerLemmas.{device_came, numbers_stay, one_of, yielded_all, yielded_more}
use Rattle.thr_cast.proofs.crew.add_devices.Goals as goal

pub loop-device-preserved : goal.loop-device-preserved
loop-device-preserved g c =
    let at = c.loop-device in
    let all = c.args.devices.items in
    let device = c.in-Some.device in
    let Fresh : DeviceRun g.row.J.Denot g.J.Naming → Type 0 = λ device. device.done ≡ false in
    let fresh = one_of Fresh all at.yielded _ _ device at.invariant.rest c.in-Some.ensures.steps.0 c.requires.fresh in
    let told : DeviceRun g.row.J.Denot g.J.Naming → DeviceTold = λ device. device_told device in
    record {
      next = tt;
      finite = tt;
      rest = yielded_more all at.yielded _ _ device at.invariant.rest c.in-Some.ensures.steps.0;
      left =
          let was = at.invariant.left in
          let gone = c.in-Some.ensures.steps.1 in
          let short = ap length c.in-Some.ensures.steps.0 in
          omega (arith, was, gone, short);
      have = λ shelf pes before.
          let more = device_came shelf at.workers.items (map told at.yielded) pes device (at.invariant.have shelf pes before) fresh in
          subst (λ (devices : List DeviceTold). HaveWorkers shelf c.push.new.self.items devices pes) (sym (map-append told at.yielded (device ∷ [])))
          (subst (λ items. HaveWorkers shelf items (map told at.yielded ++ told device ∷ []) pes) (sym c.in_ok-push.ensures.items) more);
      numbers = ap (λ items. pe_numbers items) c.in_ok-push.ensures.items ∙ numbers_stay at.workers.items device ∙ at.invariant.numbers;
    }

pub returns : goal.returns
returns g c =
    let at = c.loop-device in
    let Run : Type 0 = DeviceRun g.row.J.Denot g.J.Naming in
    let told : Run → DeviceTold = λ device. device_told device in
    let empty : into_iter_items at.device-iterator ≡ [] = nothing_left _ (sym at.invariant.left ∙ c.in-None.ensures.steps.0) in
    let all = yielded_all c.args.devices.items at.yielded _ at.invariant.rest empty in
    record { workers = λ shelf pes before. subst (λ (devices : List Run). HaveWorkers shelf at.workers.items (map told devices) pes) all (at.invariant.have shelf pes before); numbers = at.invariant.numbers }
