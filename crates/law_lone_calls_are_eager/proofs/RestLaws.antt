-- What calls rest on stays under the eager controller.
use Rattle.std.proofs.Common.{◌≡◌, ℕ, ◌<◌, IsTrue, sym}
use Rattle.law_home_commutes.specs.Words.{DeviceOp, GuestOp}
use Rattle.law_home_commutes.specs.Calls.{device_events, is_good_op, is_good_event}
use Rattle.law_home_commutes.proofs.GicCall.CallLemmas.{device_valid}
use Rattle.law_home_commutes.specs.Histories.{IdealGuest, view_of, after_events}
use Rattle.law_eager_is_history.specs.GicIdeal.Deeds.{op_events}
use Rattle.law_eager_is_history.proofs.GicIdeal.SoundEvents.{sound_events}
use Rattle.law_eager_is_history.proofs.GicIdeal.StepLemmas.{free_follow, op_follows}
use Rattle.law_eager_is_history.proofs.QueueLemmas.{order_as}
use Rattle.law_eager_is_history.proofs.StepLemmas.{op_call}
use Rattle.law_lone_calls_are_eager.specs.LoneCalls.{IsAtRest}
use Rattle.law_lone_calls_are_eager.specs.Laws.{RestStays}
use Rattle.law_lone_calls_are_eager.proofs.RestLemmas.{is_apart, apart_passes, its_same}
use Rattle.law_lone_calls_are_eager.proofs.PassLemmas.{device_all}

module _ (guest : IdealGuest) (rest : IsAtRest guest) where
  access_rest : (vcpu : ℕ) (op : GuestOp) → vcpu < guest.shape.vcpus → IsTrue (is_good_op guest.shape op) → IsAtRest (after_events (op_events op guest vcpu) guest)
  access_rest vcpu op there good = record {
    sound = sound_events guest (op_events op guest vcpu) rest.sound (op_follows op guest vcpu rest.sound there good);
    order = (op_call guest rest.sound rest.order vcpu there op good).order rest.order;
  }

  device_rest : (op : DeviceOp) → IsTrue (is_good_event guest.shape op) → IsAtRest (after_events (device_events (view_of guest) op) guest)
  device_rest op good =
      let events = device_events (view_of guest) op in
      let same = its_same events guest (device_all is_apart apart_passes (view_of guest) op) in
      record {
        sound = sound_events guest events rest.sound (free_follow guest events (device_valid guest.shape (view_of guest) op rest.sound.maps good));
        order = order_as guest (after_events events guest) rest.order (sym same.cbaser) (sym same.cwriter) (sym same.offset);
      }

pub rest_stays : RestStays
rest_stays = record { opens = λ guest good. record { sound = good.sound; order = good.queue }; accesses = λ guest vcpu op rest there good. access_rest guest rest vcpu op there good; devices = λ guest op rest good. device_rest guest rest op good }
