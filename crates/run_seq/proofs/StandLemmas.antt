-- Where the vCPUs of a guest stand, by what was done to it.
use Rattle.std.proofs.Common.{◌≡◌, ℕ, ◌<◌, Bool, true, false, List, Option, Some, sym, ap, ◌∙◌, subst}
use Rattle.std.proofs.Math.Logic.{∥∥₁_map}
use Rattle.std.specs.Prelude.{slice_get}
use Rattle.std.specs.Option.{option_map_or}
use Rattle.std.proofs.lemmas.Option.{slice_get_within}
use Rattle.law_ends_agree.specs.Histories.{IdealGuest}
use Rattle.law_ends_agree.specs.Core.{CoreState, Local, opening, end_of_moments, is_paid, is_ready}
use Rattle.law_ends_agree.specs.ScnBase.declared.pes.VcpuName.{VcpuName}
use Rattle.law_ends_agree.specs.ScnBase.Standing.{is_resident}
use Rattle.law_one_thread_is_eager.specs.PortSeq.Told.{GuestTold, SeqTold, guest_at, state_of}
use Rattle.law_one_thread_is_eager.specs.LawSerialIsEager.LawRegistersStand.Asks.{IsUnkicked}
use Rattle.law_one_thread_is_eager.specs.LawSerialIsEager.Lists.{IchRegs}
use Rattle.law_one_thread_is_eager.specs.LawSerialIsEager.Serial.{WholePart, moments_of}
use Rattle.law_one_thread_is_eager.specs.SeqGuest.declared.vcpus.Vcpus.{Vcpus}
use Rattle.law_one_thread_is_eager.specs.PePlace.declared.place.Place.{Place}
use Rattle.law_one_thread_is_eager.specs.PePlace.declared.place.Place.TheVariants.{Shelf, Aside, Pe}
use Rattle.law_one_thread_is_eager.specs.PePlace.Place.{shelf, spot_of}
use Rattle.law_one_thread_is_eager.specs.SeqGuest.Guest.{NoneKicked, spot_at}
use Rattle.law_one_thread_is_eager.specs.Done.{HasDone}
use Rattle.law_one_thread_is_eager.proofs.EaseLemmas.{placed}
use Rattle.law_one_thread_is_eager.proofs.FollowLemmas.{state_is}
use Rattle.law_one_thread_is_eager.proofs.MomentLemmas.{entries_parts}
use Rattle.run_seq.specs.declared.machine.Machine.{Machine}
use Rattle.run_seq.specs.Machine.{IsGuestAt, IsMachineAt, place_by}
use Rattle.run_seq.specs.Steps.{StandSo, StandsAs}
use Rattle.run_seq.proofs.StepLemmas.{there_in}

-- A guest, as it is told.

module _ (told : GuestTold) (vcpus : Vcpus) (lrs : ℕ) (parts : List WholePart) (done : HasDone told.guest told.number told vcpus parts) (quiet : NoneKicked told vcpus) (lrs_is : vcpus.lrs ≡ lrs) where
  state : end_of_moments told.guest.shape (opening told.guest told.number) (moments_of parts) ≡ state_of told
  state = state_is told (moments_of parts) (entries_parts parts ∙ sym done.world)

  stands_as : (vcpu : ℕ) (place : Place) (on : Bool) → slice_get vcpus.places.items vcpu ≡ Some place → spot_of place ≡ place_by on → StandsAs told.guest told.number lrs (moments_of parts) vcpu on
  stands_as vcpu (Shelf shelved) true has e = absurd (cc)
  stands_as vcpu (Shelf shelved) false has e =
      ap (λ (local : Local). local.at) (done.followed.places vcpu (Shelf shelved) has).rest.local ∙ (done.at.places vcpu (Shelf shelved) has).0.empty
  stands_as vcpu (Aside shelved) true has e = absurd (cc)
  stands_as vcpu (Aside shelved) false has e = absurd (cc)
  stands_as vcpu (Pe loaded) false has e = absurd (cc)
  stands_as vcpu (Pe loaded) true has e =
      let so = done.followed.places vcpu (Pe loaded) has in
      let at = done.at.places vcpu (Pe loaded) has in
      record {
        loaded = record { scan = so.rest.scan; ready = ap (λ (local : Local). is_ready local.phase) so.rest.local ∙ at.0.ready };
        paid = ap is_paid so.debt;
        has_all =
            record {
              none_failed = so.none_failed;
              unkicked = subst (λ (state : CoreState). IsUnkicked told.guest.shape state vcpu) (sym state) (quiet.each vcpu (ap (λ o. option_map_or spot_of o shelf) has));
            };
        lrs_is = ap (λ (regs : IchRegs). regs.n) so.regs ∙ at.1 ∙ lrs_is;
      }

  told_stand : (pes : List (Option VcpuName)) → ((vcpu : ℕ) → spot_at vcpus vcpu ≡ place_by (is_resident pes told.number vcpu)) → StandSo told.guest told.number lrs pes parts
  told_stand pes spots = record {
    each = λ vcpu there.
        let has = placed vcpus vcpu (subst (λ n. vcpu < n) (sym done.at.each) there) in
        stands_as vcpu has.place (is_resident pes told.number vcpu) has.is (sym (ap (λ o. option_map_or spot_of o shelf) has.is) ∙ spots vcpu);
  }

-- A guest of a machine.

module _ (pes : List (Option VcpuName)) (lrs : ℕ) (guest : IdealGuest) (number : ℕ) (told : GuestTold) (vcpus : Vcpus) (parts : List WholePart) (ideal : IdealGuest) (at : IsGuestAt pes lrs guest number told vcpus parts ideal) where
  abbrev Stand : IdealGuest → ℕ → Type 0
  Stand g n = HasDone g n told vcpus parts → ((vcpu : ℕ) → spot_at vcpus vcpu ≡ place_by (is_resident pes n vcpu)) → StandSo g n lrs pes parts

  here : Stand told.guest told.number
  here done spots = told_stand told vcpus lrs parts done at.quiet at.lrs_is pes spots

  of_done : HasDone guest number told vcpus parts → StandSo guest number lrs pes parts
  of_done done = subst (λ g. Stand g number) done.guest_is (subst (Stand told.guest) done.number_is here) done at.spots

  guest_stands : ∥ StandSo guest number lrs pes parts ∥₁
  guest_stands = ∥∥₁_map at.done of_done

-- Each of them.
pub all_stand : (states : List IdealGuest) (lrs : ℕ) (machine : Machine) (told : SeqTold) (parts : ℕ → List WholePart) (ideals : List IdealGuest) → IsMachineAt states lrs machine told parts ideals → (number : ℕ) (guest : IdealGuest) → slice_get states number ≡ Some guest
    → ∥ StandSo guest number lrs machine.pes (parts number) ∥₁
all_stand states lrs machine told parts ideals at number guest spec =
    let there = slice_get_within states number guest spec in
    let vcpus = there_in machine.guests.items number (subst (λ n. number < n) (sym at.guests) there) in
    let ideal = there_in ideals number (subst (λ n. number < n) (sym at.ideals_each) there) in
    guest_stands machine.pes lrs guest number (guest_at told number) vcpus.one (parts number) ideal.one (at.each number guest vcpus.one ideal.one spec vcpus.is ideal.is)
