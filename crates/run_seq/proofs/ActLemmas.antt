-- A step that can be done, by what it did.
use Rattle.std.proofs.Common.{◌≡◌, ℕ, ◌+◌, ◌&&◌, ◌||◌, not, zero, suc, Bool, true, false, IsTrue, List, [], ◌∷◌, ◌++◌, length, set, replicate, Option, Some, None, is_none, is_some, refl, sym, ap, ◌∙◌, subst}
use Rattle.std.specs.Prelude.{nat_lt, slice_get}
use Rattle.std.proofs.lemmas.Bool.{and_parts, ltb-true}
use Rattle.std.proofs.lemmas.List.{append-nil}
use Rattle.std.proofs.lemmas.List.Elements.{All-get_or, All-set}
use Rattle.std.proofs.lemmas.Option.{get_or_from_slice_get, slice_get-map, slice_get_within}
use Rattle.std.specs.Option.{option_map, option_map_or, option_to_list}
use Rattle.law_ends_agree.specs.Words.{DeviceOp, GuestOp, Enter, Exit, Lrs, GuestShape}
use Rattle.law_ends_agree.specs.Calls.{Access, Device as DeviceCall, Regs, is_good_event, is_good_op, passes}
use Rattle.law_ends_agree.specs.Histories.{IdealGuest}
use Rattle.law_ends_agree.specs.GicIdeal.Eager.{after_step, shown, state_shapes, step_answer}
use Rattle.law_ends_agree.specs.GicGuest.declared.outcome.Answer.{Answer}
use Rattle.law_ends_agree.specs.ScnBase.declared.pes.VcpuName.{VcpuName}
use Rattle.law_ends_agree.specs.ScnBase.declared.step.Step.{Step}
use Rattle.law_ends_agree.specs.ScnBase.declared.step.Step.TheVariants.{Vcpu, Device, Pe}
use Rattle.law_ends_agree.specs.ScnBase.Standing.{has_vcpu, is_resident, pes_after, resident_of, vcpu_name}
use Rattle.law_one_thread_is_eager.specs.PortSeq.Told.{SeqTold, guest_at}
use Rattle.law_one_thread_is_eager.specs.LawSerialIsEager.Serial.{WholePart}
use Rattle.law_one_thread_is_eager.specs.PePlace.Place.{entered, left}
use Rattle.run_seq.specs.declared.machine.Machine.{Machine}
use Rattle.run_seq.specs.Acts.{ActsAs, Exits, Operates, Places, Receives, ShowsPe, CallsOnce, ShowsVcpu}
use Rattle.run_seq.specs.StepCalls.{step_call}
use Rattle.run_seq.specs.Steps.{IsOfPe, enters_in}
use Rattle.run_seq.specs.Machine.{CanDo, HasDoneStep, IsGuestAt, IsMachineAt}
use Rattle.run_seq.proofs.MachineLemmas.{more_same}
use Rattle.run_seq.proofs.ResidentLemmas.{enters_once, enters_resident, leaves_once, leaves_resident}
use Rattle.run_seq.proofs.StepLemmas.{device_step, entered_in, moved, one_enters, one_leaves, other_guests, shown_step, spec, vcpu_step}

-- what is asked of a guest's shape is true of the guest
pub of_shape : (states : List IdealGuest) (number : ℕ) (guest : IdealGuest) (test : GuestShape → Bool) → slice_get states number ≡ Some guest → IsTrue (passes test (slice_get (state_shapes states) number)) → test guest.shape ≡ true
of_shape states number guest test is h = sym (ap (passes test) (slice_get-map (λ (g : IdealGuest). g.shape) states number ∙ ap (option_map (λ (g : IdealGuest). g.shape)) is)) ∙ h

none_is : {X : Type 0} (o : Option X) → IsTrue (is_none o) → o ≡ None
none_is None h = refl
none_is (Some x) h = absurd (cc)

not_is : (b : Bool) → IsTrue (not b) → b ≡ false
not_is true h = absurd (cc)
not_is false h = refl

-- whoever stands on a PE is there
abbrev pub IsThere : List GuestShape → Option VcpuName → Type 0
IsThere shapes resident = IsTrue (option_map_or (λ name. has_vcpu shapes name.guest name.vcpu) resident true)

-- whoever is found on a PE stands on it
pub found_on : (pes : List (Option VcpuName)) (pe : ℕ) (name : VcpuName) → resident_of pes pe ≡ Some name → slice_get pes pe ≡ Some (Some name)
found_on [] pe name e = absurd (cc)
found_on (x ∷ pes) zero name e = ap Some e
found_on (x ∷ pes) (suc pe) name e = found_on pes pe name e

module _ (states : List IdealGuest) (lrs : ℕ) (machine next : Machine) (told later : SeqTold) (parts : ℕ → List WholePart) (ideals : List IdealGuest) (at : IsMachineAt states lrs machine told parts ideals) where
  abbrev Done : Step → Answer → Type 0
  Done step answer = HasDoneStep states lrs machine (record next { pes = pes_after step machine.pes }) later parts ideals step answer

  operates : (guest vcpu : ℕ) (op : GuestOp) (answer : Answer) → CanDo states machine (Vcpu guest vcpu op) → Operates machine next told later (record { guest = guest; vcpu = vcpu }) op answer → Done (Vcpu guest vcpu op) answer
  operates guest vcpu op answer can does =
      let mine = spec states lrs machine next told later parts ideals at guest (CallsOnce vcpu (Access op) does.value) does.acts in
      let formed = of_shape states guest mine.one (λ shape. nat_lt vcpu shape.vcpus && is_good_op shape op) mine.is can.formed in
      let both = and_parts (nat_lt vcpu mine.one.shape.vcpus) (is_good_op mine.one.shape op) formed in
      subst (Done (Vcpu guest vcpu op)) (sym does.answer_is) (vcpu_step states lrs machine next told later parts ideals at guest vcpu op does.value does.acts (ltb-true vcpu mine.one.shape.vcpus both.0, both.1))

  receives : (guest device : ℕ) (op : DeviceOp) (answer : Answer) → CanDo states machine (Device guest device op) → Receives machine next told later guest device op answer → Done (Device guest device op) answer
  receives guest device op answer can does =
      let mine = spec states lrs machine next told later parts ideals at guest (CallsOnce ((guest_at told guest).guest.shape.vcpus + device) (DeviceCall op) None) does.acts in
      let formed = of_shape states guest mine.one (λ shape. nat_lt device shape.devices && is_good_event shape op) mine.is can.formed in
      let both = and_parts (nat_lt device mine.one.shape.devices) (is_good_event mine.one.shape op) formed in
      subst (Done (Device guest device op)) (sym does.answer_is) (device_step states lrs machine next told later parts ideals at guest device op does.acts both.1)

  enters : (pe guest vcpu : ℕ) (answer : Answer) → CanDo states machine (Pe pe (Enter guest vcpu)) → Places machine next told later (record { guest = guest; vcpu = vcpu }) entered answer → Done (Pe pe (Enter guest vcpu)) answer
  enters pe guest vcpu answer can does =
      let name = vcpu_name guest vcpu in
      let formed = and_parts (nat_lt pe (length machine.pes)) (has_vcpu (state_shapes states) guest vcpu) can.formed in
      let stands = and_parts (is_none (resident_of machine.pes pe)) (not (is_resident machine.pes guest vcpu)) (subst (λ pes. IsTrue (is_none (resident_of pes pe) && not (is_resident pes guest vcpu))) can.pes can.stands) in
      let there = ltb-true pe (length machine.pes) formed.0 in
      let free = none_is (resident_of machine.pes pe) stands.0 in
      let pes = set machine.pes pe (Some name) in
      subst (Done (Pe pe (Enter guest vcpu))) (sym does.answer_is)
      (moved states lrs machine next told later parts ideals at name entered does.acts (Pe pe (Enter guest vcpu)) pes refl (All-set (IsThere (state_shapes states)) machine.pes pe (Some name) formed.1 at.residents)
      (enters_once machine.pes pe name (not_is (is_resident machine.pes guest vcpu) stands.1) at.once) refl (λ n other. refl) refl
      (λ n v apart. enters_resident machine.pes pe n v name there free ∙ ap (λ b. b || is_resident machine.pes n v) (other_guests guest n v name refl apart)) (one_enters machine.pes pe name there free)
      (λ n other same.
      ap (enters_in vcpu) (more_same guest n does.acts.does.goes_on.parts (sym same))
      ∙ entered_in states lrs machine next told later parts ideals at name does.acts (not_is (is_resident machine.pes guest vcpu) stands.1)))

  exits : (pe : ℕ) (answer : Answer) → CanDo states machine (Pe pe Exit) → Exits machine next told later (resident_of machine.pes pe) answer → Done (Pe pe Exit) answer
  exits pe answer can does = of (resident_of machine.pes pe) refl does
    where
      never : (o : Option VcpuName) → o ≡ None → IsTrue (is_some o) → ⊥
      never None e h = cc
      never (Some name) e h = cc

      of : (o : Option VcpuName) → resident_of machine.pes pe ≡ o → Exits machine next told later o answer → Done (Pe pe Exit) answer
      of None e does = absurd (never (resident_of machine.pes pe) e (subst (λ pes. IsTrue (is_some (resident_of pes pe))) can.pes can.stands))
      of (Some name) e does =
          let on = found_on machine.pes pe name e in
          let pes = set machine.pes pe None in
          subst (Done (Pe pe Exit)) (sym does.answer_is)
          (moved states lrs machine next told later parts ideals at name left does.acts (Pe pe Exit) pes refl (All-set (IsThere (state_shapes states)) machine.pes pe None refl at.residents)
          (leaves_once machine.pes pe at.once) refl (λ n other. refl) refl
          (λ n v apart. leaves_resident machine.pes pe n v name at.once on ∙ ap (λ b. not b && is_resident machine.pes n v) (other_guests name.guest n v name refl apart)) (one_leaves machine.pes pe name at.once on) (λ n other. tt))

  -- nothing was done
  idle : (step : Step) (answer : Answer) → next ≡ machine → later ≡ told → pes_after step machine.pes ≡ machine.pes → after_step step ideals ≡ ideals → ((n : ℕ) (guest : IdealGuest) → step_call n guest.shape step answer ≡ None)
      → ((n : ℕ) (guest : IdealGuest) → IsOfPe guest n lrs machine.pes step answer (parts n) []) → answer ≡ step_answer lrs machine.pes step ideals → Done step answer
  idle step answer same told_same pes_same still uncalls of_pe answer_is = record {
    more = λ n. [];
    calls = λ n guest is. ap option_to_list (sym (uncalls n guest));
    of_pe = λ n guest is. of_pe n guest;
    pes = refl;
    answer_is = answer_is;
    at =
        subst (λ (m : Machine). IsMachineAt states lrs (record m { pes = pes_after step machine.pes }) later (λ n. parts n ++ []) (after_step step ideals)) (sym same)
        (subst (λ pes. IsMachineAt states lrs (record machine { pes = pes }) later (λ n. parts n ++ []) (after_step step ideals)) (sym pes_same)
        (subst (λ t. IsMachineAt states lrs machine t (λ n. parts n ++ []) (after_step step ideals)) (sym told_same)
        (subst (IsMachineAt states lrs machine told (λ n. parts n ++ [])) (sym still) as_was)));
  }
    where
      as_was : IsMachineAt states lrs machine told (λ n. parts n ++ []) ideals
      as_was = record {
        lrs_is = at.lrs_is;
        few_lrs = at.few_lrs;
        guests = at.guests;
        ports = at.ports;
        ideals_each = at.ideals_each;
        residents = at.residents;
        once = at.once;
        each = λ n guest vcpus ideal a b d. subst (λ ps. IsGuestAt machine.pes lrs guest n (guest_at told n) vcpus ps ideal) (sym (append-nil (parts n))) (at.each n guest vcpus ideal a b d);
      }

  shows : (pe : ℕ) (answer : Answer) → CanDo states machine (Pe pe Lrs) → ShowsPe machine next told later (resident_of machine.pes pe) answer → Done (Pe pe Lrs) answer
  shows pe answer can does = of (resident_of machine.pes pe) refl does
    where
      nobody : (name : VcpuName) → None ≡ Some name → ⊥
      nobody name e = cc

      of : (o : Option VcpuName) → resident_of machine.pes pe ≡ o → ShowsPe machine next told later o answer → Done (Pe pe Lrs) answer
      of None e does =
          idle (Pe pe Lrs) answer does.0.machine_is does.0.told_is refl refl (λ n guest. refl) (λ n guest vcpu on. absurd (nobody (vcpu_name n vcpu) (sym e ∙ on))) (does.1 ∙ ap (λ n. Regs (replicate (n + 1) 0)) at.lrs_is ∙ ap (λ o. shown lrs o ideals) (sym e))
      of (Some name) e does =
          let mine = spec states lrs machine next told later parts ideals at name.guest (ShowsVcpu name.vcpu does.list) does.acts in
          let on = found_on machine.pes pe name e in
          let exists = All-get_or (IsThere (state_shapes states)) machine.pes pe None (slice_get_within machine.pes pe (Some name) on) at.residents in
          let few = of_shape states name.guest mine.one (λ shape. nat_lt name.vcpu shape.vcpus) mine.is (subst (IsThere (state_shapes states)) (get_or_from_slice_get machine.pes pe (Some name) None on) exists) in
          subst (Done (Pe pe Lrs)) (sym does.answer_is) (shown_step states lrs machine next told later parts ideals at pe name does.list does.acts e (ltb-true name.vcpu mine.one.shape.vcpus few))

  pub acts_step : (step : Step) (answer : Answer) → CanDo states machine step → ActsAs machine next told later step answer → Done step answer
  acts_step (Vcpu guest vcpu op) answer can does = operates guest vcpu op answer can does
  acts_step (Device guest device op) answer can does = receives guest device op answer can does
  acts_step (Pe pe (Enter guest vcpu)) answer can does = enters pe guest vcpu answer can does
  acts_step (Pe pe Exit) answer can does = exits pe answer can does
  acts_step (Pe pe Lrs) answer can does = shows pe answer can does
