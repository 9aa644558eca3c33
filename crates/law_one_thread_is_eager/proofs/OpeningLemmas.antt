-- A guest as it opens: nothing was done.
use Rattle.std.proofs.Common.{◌≡◌, ℕ, ◌<◌, [], refl, sym, ap, ◌∙◌, subst, arith}
use Rattle.std.specs.Option.{option_map_or}
use Rattle.std.proofs.lemmas.Option.{slice_get_within}
use Rattle.std.proofs.lemmas.List.Elements.{All-nil}
use Rattle.law_found_parts_are_calls.specs.Histories.{IdealGuest, CanOpen}
use Rattle.law_found_parts_are_calls.specs.Core.{actor_count, Seat, opening_seat, seat_at, IsAtRest, opening_progress}
use Rattle.law_found_parts_are_calls.proofs.PortCore.OpeningLemmas.{seat_opens}
use Rattle.seq_guest.specs.PortSeq.Told.{GuestTold, opening_told, state_of}
use Rattle.law_found_parts_are_calls.proofs.LawSerialIsEager.SerialRuns.{serial_runs_are_eager}
use Rattle.seq_guest.specs.PePlace.declared.place.Place.{Place}
use Rattle.seq_guest.specs.PePlace.declared.place.Place.TheVariants.{Shelf, Aside, Pe}
use Rattle.seq_guest.specs.declared.vcpus.Vcpus.{Vcpus}
use Rattle.seq_guest.specs.PePlace.Parts.{IsOfGuest}
use Rattle.seq_guest.specs.PePlace.Place.{IsFollowed, shelf, spot_of}
use Rattle.seq_guest.specs.Guest.{seen_by, spot_at, AreAt}
use Rattle.law_one_thread_is_eager.proofs.MomentLemmas.{IsThere}
use Rattle.law_one_thread_is_eager.specs.Done.{AreSerial, HasDone, home_after}

opens_serial : (guest : IdealGuest) (number lrs : ℕ) → CanOpen guest → AreSerial guest number lrs []
opens_serial guest number lrs good = record {
  good = good;
  formed = All-nil (IsOfGuest guest.shape lrs);
  proper = record { parted = record { run = tt; actors = All-nil (IsThere guest.shape); parts = λ actor there. refl }; proper = λ actor there. tt };
  found = tt;
  fits = tt;
}

opens_rest : (guest : IdealGuest) (number : ℕ) (told : GuestTold) (actor : ℕ) → told ≡ record (opening_told told.home guest number) { actor = told.actor } → actor < actor_count guest.shape → IsAtRest (seen_by told actor) (opening_progress guest number actor)
opens_rest guest number told actor is there =
    let opened : seat_at (state_of told) actor ≡ opening_seat guest number actor = ap (λ (t : GuestTold). seat_at (state_of t) actor) is ∙ seat_opens guest number actor there in
    record { local = ap (λ (seat : Seat). seat.local) (sym opened); own = ap (λ (seat : Seat). seat.own) (sym opened); scan = refl; wants = refl }

opens_place : (guest : IdealGuest) (number : ℕ) (told : GuestTold) (vcpu : ℕ) (place : Place) → told ≡ record (opening_told told.home guest number) { actor = told.actor } → vcpu < actor_count guest.shape → spot_of place ≡ shelf → IsFollowed (seen_by told vcpu) place (opening_progress guest number vcpu)
opens_place guest number told vcpu (Shelf shelved) is there spot = record { rest = opens_rest guest number told vcpu is there; none_failed = refl; debt = refl }
opens_place guest number told vcpu (Aside shelved) is there spot = absurd (cc)
opens_place guest number told vcpu (Pe loaded) is there spot = absurd (cc)

pub opens_done : (guest : IdealGuest) (number : ℕ) (told : GuestTold) (vcpus : Vcpus) → CanOpen guest → told ≡ record (opening_told told.home guest number) { actor = told.actor } → AreAt told vcpus → ((vcpu : ℕ) → spot_at vcpus vcpu ≡ shelf) → HasDone guest number told vcpus []
opens_done guest number told vcpus good is at spots =
    let same : told.guest ≡ guest = ap (λ (t : GuestTold). t.guest) is in
    record {
      guest_is = same;
      number_is = ap (λ (t : GuestTold). t.number) is;
      world = ap (λ (t : GuestTold). t.world) is;
      serial = opens_serial guest number vcpus.lrs good;
      at = at;
      followed =
          record {
            places = λ vcpu place has.
                let few : vcpu < guest.shape.vcpus = subst (λ n. vcpu < n) (at.each ∙ ap (λ (g : IdealGuest). g.shape.vcpus) same) (slice_get_within vcpus.places.items vcpu place has) in
                opens_place guest number told vcpu place is (omega (arith, few)) (ap (λ o. option_map_or spot_of o shelf) (sym has) ∙ spots vcpu);
            devices = λ actor low high. opens_rest guest number told actor is (subst (λ (g : IdealGuest). actor < actor_count g.shape) same high);
          };
    }

pub opens_home : (guest : IdealGuest) (number : ℕ) → CanOpen guest → home_after guest number [] ≡ guest
opens_home guest number good =
    let serial = opens_serial guest number 1 good in
    (serial_runs_are_eager guest number [] good serial.proper tt tt).ends
