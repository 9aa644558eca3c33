-- What holds of a guest in each state that the ideal controller reaches.
use Rattle.std.proofs.Common.{ℕ, ◌<◌, false, cond, IsTrue, refl, sym, ap, ◌∙◌, subst, arith}
use Rattle.std.specs.List.{slice_index}
use Rattle.std.proofs.lemmas.List.{length-replicate}
use Rattle.std.proofs.lemmas.List.Elements.{All-nil, All-replicate}
use Rattle.eager_rest.specs.LawSavesGoOn.RunsSplit.GicIdeal.IdealGuests.Words.{GuestOp, DeviceOp}
use Rattle.eager_rest.specs.LawSavesGoOn.RunsSplit.GicIdeal.IdealGuests.Calls.{GuestSpec, IsGoodGuest, PlainWord, Ram, Propbaser, Pendbaser, ItsCtlr, Cbaser, Cwriter, Baser0, Baser1, Fault, place_of_plain, plain_count, opening_cpu, is_good_op, is_good_event, device_events}
use Rattle.eager_rest.specs.LawSavesGoOn.RunsSplit.GicIdeal.IdealGuests.CanOpen.{AreForNone}
use Rattle.eager_rest.specs.LawSavesGoOn.RunsSplit.GicIdeal.IdealGuests.declared.guest.IdealGuest.{IdealGuest}
use Rattle.eager_rest.specs.LawSavesGoOn.RunsSplit.GicIdeal.IdealGuests.Ideal.{view_of, after_events}
use Rattle.eager_rest.specs.LawSavesGoOn.RunsSplit.GicIdeal.IdealGuests.Opening.{opening}
use Rattle.eager_rest.specs.LawSavesGoOn.RunsSplit.GicIdeal.Deeds.{op_events}
use Rattle.eager_rest.proofs.LawSavesGoOn.OwnLemmas.{may_move}
use Rattle.eager_rest.proofs.LawSavesGoOn.RunsSplit.GicIdeal.IdealGuests.OpeningLemmas.{word_opening}
use Rattle.eager_rest.proofs.LawSavesGoOn.RunsSplit.GicIdeal.IdealGuests.CanOpenLemmas.{openings_can_open}
use Rattle.eager_rest.proofs.LawSavesGoOn.RunsSplit.GicIdeal.IdealGuests.GicCall.CallLemmas.{device_valid}
use Rattle.eager_rest.proofs.LawSavesGoOn.RunsSplit.GicIdeal.StepLemmas.{free_follow, op_follows, op_is_events}
use Rattle.law_unmapped_lpis.specs.LawLoneCallsAreEager.LoneCalls.{IsAtRest}
use Rattle.law_unmapped_lpis.proofs.LawLoneCallsAreEager.RestLaws.{rest_stays}
use Rattle.law_unmapped_lpis.proofs.OperationLaws.{accesses_leave_none, devices_leave_none}
use Rattle.law_saved_runs_are_valid.proofs.CpuLemmas.{IsInRange, opens_in_range}
use Rattle.law_saved_runs_are_valid.proofs.RangeLemmas.{IsDoubleword, FitsWord, IsFit, events_fit}
use Rattle.law_saved_runs_are_valid.proofs.OwnerLemmas.{IsOwned, events_owned}
use Rattle.law_saved_runs_are_valid.proofs.OpLemmas.{op_own, device_own_events}
use Rattle.law_saved_runs_are_valid.proofs.TargetLaws.{AreForSome, op_some, device_some}

pub record IsReached (guest : IdealGuest) : Type 0 where
  pub rest : IsAtRest guest
  pub none : AreForNone guest
  pub some : AreForSome guest
  pub fit : IsFit guest
  pub owned : IsOwned guest

-- wires may move
abbrev Moving : Type 0
Moving = Unit {0}

pub op_reached : (op : GuestOp) (guest : IdealGuest) (vcpu : ℕ) → vcpu < guest.shape.vcpus → IsTrue (is_good_op guest.shape op) → IsReached guest → IsReached (after_events (op_events op guest vcpu) guest)
op_reached op guest vcpu there good is =
    record {
      rest = rest_stays.accesses guest vcpu op is.rest there good;
      none = accesses_leave_none guest vcpu op is.rest.sound is.none;
      some = subst AreForSome (sym (op_is_events op guest vcpu)) (op_some op guest vcpu is.rest.sound good is.some);
      fit = events_fit Moving (op_events op guest vcpu) guest (op_own Moving op guest vcpu is.fit good) is.fit;
      owned = events_owned (op_events op guest vcpu) guest is.rest.sound (op_follows op guest vcpu is.rest.sound there good) is.owned;
    }

pub device_reached : (op : DeviceOp) (guest : IdealGuest) → IsTrue (is_good_event guest.shape op) → IsReached guest → IsReached (after_events (device_events (view_of guest) op) guest)
device_reached op guest good is =
    record {
      rest = rest_stays.devices guest op is.rest good;
      none = devices_leave_none guest op is.rest.sound is.none;
      some = device_some op guest is.rest.sound is.some;
      fit = events_fit Moving (device_events (view_of guest) op) guest (device_own_events Moving op guest (may_move guest.shape IsDoubleword op)) is.fit;
      owned = events_owned (device_events (view_of guest) op) guest is.rest.sound (free_follow guest (device_events (view_of guest) op) (device_valid guest.shape (view_of guest) op is.rest.sound.maps good)) is.owned;
    }

-- ---- as a guest opens

zero_fits : (word : PlainWord) → FitsWord false word 0
zero_fits (Ram index) = omega arith
zero_fits (Propbaser vcpu) = tt
zero_fits (Pendbaser vcpu) = tt
zero_fits ItsCtlr = tt
zero_fits Cbaser = tt
zero_fits Cwriter = tt
zero_fits Baser0 = tt
zero_fits Baser1 = tt
zero_fits Fault = λ e. absurd (cc)

pub opens_reached : (guest : GuestSpec) → IsGoodGuest guest → IsReached (opening guest)
opens_reached guest good =
    let can = openings_can_open guest good in
    let words = (opening guest).words in
    record {
      rest = rest_stays.opens (opening guest) can;
      none = can.none;
      some = λ id there has. absurd (cc);
      fit = record {
        long = length-replicate (plain_count guest.shape) 0;
        each_cpu = All-replicate (IsInRange guest.shape) guest.shape.vcpus (opening_cpu guest.on) (opens_in_range guest.shape guest.on);
        each_word = λ word there. subst (FitsWord false word) (sym (ap (λ b. cond b (slice_index words (place_of_plain guest.shape word)) 0) (sym there) ∙ word_opening guest word)) (zero_fits word);
        short = (All-nil _, All-nil _);
        bare = λ none. record { devices = refl; collections = refl };
      };
      owned = can.own;
    }
