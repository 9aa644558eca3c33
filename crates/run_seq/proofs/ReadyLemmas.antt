-- What a step that can be done is about is there.
use Rattle.std.proofs.Common.{◌≡◌, ◌≢◌, ℕ, ◌<◌, ◌&&◌, Bool, true, false, IsTrue, List, length, Option, Some, None, refl, sym, ap, ◌∙◌, subst}
use Rattle.std.specs.Prelude.{nat_lt, slice_get}
use Rattle.std.proofs.lemmas.Bool.{and_parts, ltb-true}
use Rattle.std.proofs.lemmas.List.{length-map}
use Rattle.std.proofs.lemmas.List.Elements.{All-get_or}
use Rattle.std.proofs.lemmas.Option.{get_or_from_slice_get, slice_get_within}
use Rattle.law_ends_agree.specs.Words.{DeviceOp, GuestOp, Enter, GuestShape}
use Rattle.law_ends_agree.specs.Histories.{IdealGuest}
use Rattle.law_ends_agree.specs.Calls.{is_good_event, is_good_op, passes}
use Rattle.law_ends_agree.specs.ScnBase.declared.pes.VcpuName.{VcpuName}
use Rattle.law_ends_agree.specs.ScnBase.declared.step.Step.TheVariants.{Vcpu, Device, Pe}
use Rattle.law_ends_agree.specs.ScnBase.Standing.{has_vcpu, is_resident, resident_of, vcpu_name}
use Rattle.law_one_thread_is_eager.specs.PortSeq.Told.{SeqTold, guest_at}
use Rattle.law_one_thread_is_eager.specs.LawSerialIsEager.Serial.{WholePart}
use Rattle.law_one_thread_is_eager.specs.PePlace.Place.{aside, pe}
use Rattle.law_one_thread_is_eager.specs.SeqGuest.Guest.{spot_at}
use Rattle.run_seq.specs.declared.machine.Machine.{Machine}
use Rattle.run_seq.specs.Acts.{CanOperate, CanReceive, HasLoaded, HasVcpu}
use Rattle.run_seq.specs.Machine.{HasGuest, IsGuestAt, IsMachineAt, IsReady, place_by}
use Rattle.run_seq.proofs.ActLemmas.{IsThere, found_on, of_shape}
use Rattle.run_seq.proofs.ResidentLemmas.{stands_resident}
use Rattle.run_seq.proofs.StepLemmas.{IsThereIn, there_in}
use Rattle.law_ends_agree.specs.GicIdeal.Eager.{state_shapes}

-- a test of what is found passes where it is found
pub record Finds {X : Type 0} (test : X → Bool) (found : Option X) : Type 0 where
  pub one : X
  pub is : found ≡ Some one
  pub passes : test one ≡ true

pub finds : {X : Type 0} (test : X → Bool) (found : Option X) → IsTrue (passes test found) → Finds test found
finds test None h = absurd (cc)
finds test (Some one) h = record { one = one; is = refl; passes = h }

place_apart : (b : Bool) → place_by b ≡ aside → ⊥
place_apart true e = cc
place_apart false e = cc

module _ (states : List IdealGuest) (lrs : ℕ) (machine : Machine) (told : SeqTold) (parts : ℕ → List WholePart) (ideals : List IdealGuest) (at : IsMachineAt states lrs machine told parts ideals) where
  module _ (number : ℕ) (there : number < length states) where
    abbrev spec : IsThereIn states number
    spec = there_in states number there

    abbrev vcpus : IsThereIn machine.guests.items number
    vcpus = there_in machine.guests.items number (subst (λ n. number < n) (sym at.guests) there)

    ideal : IsThereIn ideals number
    ideal = there_in ideals number (subst (λ n. number < n) (sym at.ideals_each) there)

    here : IsGuestAt machine.pes lrs spec.one number (guest_at told number) vcpus.one (parts number) ideal.one
    here = at.each number spec.one vcpus.one ideal.one spec.is vcpus.is ideal.is

    abbrev has_guest : HasGuest machine told number
    has_guest = record { vcpus = vcpus.one; vcpus_are = vcpus.is; port = subst (λ n. number < n) (sym at.ports) there; at = here.at }

    -- what is asked of the guest's shape is true of what the port tells of it
    of_told : (test : GuestShape → Bool) → IsTrue (passes test (slice_get (state_shapes states) number)) → test (guest_at told number).guest.shape ≡ true
    of_told test h = ap (λ (g : IdealGuest). test g.shape) here.guest_is ∙ of_shape states number spec.one test spec.is h

    loaded : (vcpu : ℕ) → is_resident machine.pes number vcpu ≡ true → spot_at vcpus.one vcpu ≡ pe
    loaded vcpu on = here.spots vcpu ∙ ap place_by on

    apart : (vcpu : ℕ) → spot_at vcpus.one vcpu ≢ aside
    apart vcpu e = place_apart (is_resident machine.pes number vcpu) (sym (here.spots vcpu) ∙ e)

  -- the guest of a test that passes is there
  within : (number : ℕ) (test : GuestShape → Bool) → IsTrue (passes test (slice_get (state_shapes states) number)) → number < length states
  within number test h = let found = finds test (slice_get (state_shapes states) number) h in subst (λ n. number < n) (length-map states (λ (g : IdealGuest). g.shape)) (slice_get_within (state_shapes states) number found.one found.is)

  abbrev named : (name : VcpuName) → IsTrue (has_vcpu (state_shapes states) name.guest name.vcpu) → HasVcpu machine told name
  named name h =
      let test : GuestShape → Bool = λ shape. nat_lt name.vcpu shape.vcpus in
      let there = within name.guest test h in
      record { guest = has_guest name.guest there; there = ltb-true name.vcpu (guest_at told name.guest).guest.shape.vcpus (of_told name.guest there test h) }

  -- whoever stands on a PE is on it
  pub stands_loaded : (number : ℕ) (name : VcpuName) → resident_of machine.pes number ≡ Some name → HasLoaded machine told name
  stands_loaded number name e =
      let on = found_on machine.pes number name e in
      let exists = subst (IsThere (state_shapes states)) (get_or_from_slice_get machine.pes number (Some name) None on) (All-get_or (IsThere (state_shapes states)) machine.pes number None (slice_get_within machine.pes number (Some name) on) at.residents) in
      let test : GuestShape → Bool = λ shape. nat_lt name.vcpu shape.vcpus in
      record { one = named name exists; on = loaded name.guest (within name.guest test exists) name.vcpu (stands_resident machine.pes number name on) }

pub can_operate : (machine : Machine) (told : SeqTold) (guest vcpu : ℕ) (op : GuestOp) → IsReady machine told (Vcpu guest vcpu op) → CanOperate machine told (vcpu_name guest vcpu) op
can_operate machine told guest vcpu op ready =
    let of = ready.of in
    let test : GuestShape → Bool = λ shape. nat_lt vcpu shape.vcpus && is_good_op shape op in
    let there = within of.states of.lrs machine told of.parts of.ideals of.at guest test ready.can.formed in
    let both = and_parts (nat_lt vcpu (guest_at told guest).guest.shape.vcpus) (is_good_op (guest_at told guest).guest.shape op) (of_told of.states of.lrs machine told of.parts of.ideals of.at guest there test ready.can.formed) in
    let on = ap (λ pes. is_resident pes guest vcpu) (sym ready.can.pes) ∙ ready.can.stands in
    record {
      loaded =
          record {
            one = record { guest = has_guest of.states of.lrs machine told of.parts of.ideals of.at guest there; there = ltb-true vcpu (guest_at told guest).guest.shape.vcpus both.0 };
            on = loaded of.states of.lrs machine told of.parts of.ideals of.at guest there vcpu on;
          };
      none = apart of.states of.lrs machine told of.parts of.ideals of.at guest there;
      good = both.1;
    }

pub can_receive : (machine : Machine) (told : SeqTold) (guest device : ℕ) (op : DeviceOp) → IsReady machine told (Device guest device op) → CanReceive machine told guest device op
can_receive machine told guest device op ready =
    let of = ready.of in
    let test : GuestShape → Bool = λ shape. nat_lt device shape.devices && is_good_event shape op in
    let there = within of.states of.lrs machine told of.parts of.ideals of.at guest test ready.can.formed in
    let both = and_parts (nat_lt device (guest_at told guest).guest.shape.devices) (is_good_event (guest_at told guest).guest.shape op) (of_told of.states of.lrs machine told of.parts of.ideals of.at guest there test ready.can.formed) in
    record { guest = has_guest of.states of.lrs machine told of.parts of.ideals of.at guest there; there = ltb-true device (guest_at told guest).guest.shape.devices both.0; good = both.1 }

pub can_enter : (machine : Machine) (told : SeqTold) (number guest vcpu : ℕ) → IsReady machine told (Pe number (Enter guest vcpu)) → HasVcpu machine told (vcpu_name guest vcpu)
can_enter machine told number guest vcpu ready =
    let of = ready.of in
    let both = and_parts (nat_lt number (length machine.pes)) (has_vcpu (state_shapes of.states) guest vcpu) ready.can.formed in
    named of.states of.lrs machine told of.parts of.ideals of.at (vcpu_name guest vcpu) both.1
