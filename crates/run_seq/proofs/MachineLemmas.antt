-- A machine of which one guest acts.
use Rattle.std.proofs.Common.{◌≡◌, ◌≢◌, ℕ, ◌<◌, ◌==◌, Bool, if◌then◌else◌, inl, inr, List, [], ◌++◌, length, set, get_or, Option, Some, refl, sym, ap, ◌∙◌, subst}
use Rattle.std.specs.Prelude.{slice_get}
use Rattle.std.proofs.lemmas.Bool.{eq-eqb, ne_eqb}
use Rattle.std.proofs.lemmas.List.{append-nil, length-set, get_or-set_same, get_or-set_other}
use Rattle.std.proofs.lemmas.Option.{slice_get_within}
use Rattle.law_ends_agree.specs.Histories.{IdealGuest}
use Rattle.law_ends_agree.specs.ScnBase.declared.pes.VcpuName.{VcpuName}
use Rattle.law_ends_agree.specs.ScnBase.Standing.{ResidentsExist, is_resident}
use Rattle.law_one_thread_is_eager.specs.PortSeq.Told.{GuestTold, SeqTold, guest_at, no_told}
use Rattle.law_one_thread_is_eager.specs.LawSerialIsEager.Serial.{WholePart}
use Rattle.law_one_thread_is_eager.specs.SeqGuest.declared.vcpus.Vcpus.{Vcpus}
use Rattle.law_one_thread_is_eager.proofs.SeqGuest.SeatLemmas.{set_get}
use Rattle.run_seq.specs.declared.machine.Machine.{Machine}
use Rattle.run_seq.specs.Machine.{GuestActs, IsGuestAt, IsMachineAt, place_by}
use Rattle.run_seq.specs.Agenda.{StandsOnce}
use Rattle.law_ends_agree.specs.GicIdeal.Eager.{state_shapes}

-- more was done to one guest alone
abbrev pub more_of : ℕ → List WholePart → ℕ → List WholePart
more_of number more n = if n == number then more else []

pub more_same : (number n : ℕ) (more : List WholePart) → n ≡ number → more_of number more n ≡ more
more_same number n more same = ap (λ (b : Bool). if b then more else []) (eq-eqb n number same)

more_other : (number n : ℕ) (more : List WholePart) → n ≢ number → more_of number more n ≡ []
more_other number n more apart = ap (λ (b : Bool). if b then more else []) (ne_eqb n number apart)

-- the guests of the ideal controller but for one are the same
pub record IsButFor (number : ℕ) (ideal : IdealGuest) (before after : List IdealGuest) : Type 0 where
  pub each : length after ≡ length before
  pub mine : (one : IdealGuest) → slice_get after number ≡ Some one → one ≡ ideal
  pub others : (n : ℕ) (one : IdealGuest) → n ≢ number → slice_get after n ≡ Some one → slice_get before n ≡ Some one

some_is : {A : Type 0} (a b : A) → Some a ≡ Some b → a ≡ b
some_is a b e = cc

pub but_for_none : (number : ℕ) (ideal : IdealGuest) (ideals : List IdealGuest) → slice_get ideals number ≡ Some ideal → IsButFor number ideal ideals ideals
but_for_none number ideal ideals is = record { each = refl; mine = λ one e. some_is one ideal (sym e ∙ is); others = λ n one apart e. e }

pub but_for_set : (number : ℕ) (ideal : IdealGuest) (ideals : List IdealGuest) → IsButFor number ideal ideals (set ideals number ideal)
but_for_set number ideal ideals = record {
  each = length-set ideals number ideal;
  mine = λ one e. elim (set_get ideals number number ideal one e) [
    | inl both ↦ both.1
    | inr other ↦ absurd (other.0 refl)
  ];
  others = λ n one apart e. elim (set_get ideals number n ideal one e) [
    | inl both ↦ absurd (apart both.0)
    | inr other ↦ other.1
  ];
}

-- the same guest on other PEs on which its vCPUs stand alike
stands_alike : (pes other : List (Option VcpuName)) (lrs : ℕ) (guest : IdealGuest) (number : ℕ) (told : GuestTold) (vcpus : Vcpus) (parts : List WholePart) (ideal : IdealGuest) → ((vcpu : ℕ) → is_resident other number vcpu ≡ is_resident pes number vcpu)
    → IsGuestAt pes lrs guest number told vcpus parts ideal → IsGuestAt other lrs guest number told vcpus parts ideal
stands_alike pes other lrs guest number told vcpus parts ideal alike at = record {
  done = at.done;
  at = at.at;
  guest_is = at.guest_is;
  lrs_is = at.lrs_is;
  spots = λ vcpu. at.spots vcpu ∙ ap place_by (sym (alike vcpu));
  quiet = at.quiet;
  home_is = at.home_is;
}

module _ (states : List IdealGuest) (lrs number : ℕ) (Does : GuestTold → GuestTold → Vcpus → Vcpus → Type 0) (machine next : Machine) (told later : SeqTold) (parts : ℕ → List WholePart) (ideals after : List IdealGuest) (at : IsMachineAt states lrs machine told parts ideals)
    (acts : GuestActs number Does machine next told later) where
  there : number < length told.guests
  there = subst (λ n. number < n) (at.guests ∙ sym at.ports) (slice_get_within machine.guests.items number acts.before acts.before_is)

  told_mine : guest_at later number ≡ acts.guest
  told_mine = ap (λ guests. get_or guests number no_told) acts.told_is ∙ get_or-set_same told.guests number acts.guest no_told there

  told_other : (n : ℕ) → n ≢ number → guest_at later n ≡ guest_at told n
  told_other n apart = ap (λ guests. get_or guests n no_told) acts.told_is ∙ get_or-set_other told.guests number n acts.guest no_told apart

  module _ (pes : List (Option VcpuName)) (ideal : IdealGuest) (more : List WholePart) (residents : ResidentsExist (state_shapes states) pes) (once : StandsOnce pes) (but : IsButFor number ideal ideals after)
      (alike : (n vcpu : ℕ) → n ≢ number → is_resident pes n vcpu ≡ is_resident machine.pes n vcpu)
      (mine : (guest : IdealGuest) → slice_get states number ≡ Some guest → IsGuestAt pes lrs guest number acts.guest acts.after (parts number ++ more) ideal) where
    all_parts : ℕ → List WholePart
    all_parts n = parts n ++ more_of number more n

    other_is : (n : ℕ) (guest : IdealGuest) (vcpus : Vcpus) (one : IdealGuest) → n ≢ number → slice_get states n ≡ Some guest → slice_get machine.guests.items n ≡ Some vcpus → slice_get ideals n ≡ Some one
        → IsGuestAt pes lrs guest n (guest_at later n) vcpus (parts n ++ more_of number more n) one
    other_is n guest vcpus one apart spec vcpus_are ideal_is =
        let nothing : parts n ++ more_of number more n ≡ parts n = ap (λ xs. parts n ++ xs) (more_other number n more apart) ∙ append-nil (parts n) in
        subst (λ t. IsGuestAt pes lrs guest n t vcpus (parts n ++ more_of number more n) one) (sym (told_other n apart))
        (subst (λ ps. IsGuestAt pes lrs guest n (guest_at told n) vcpus ps one) (sym nothing)
        (stands_alike machine.pes pes lrs guest n (guest_at told n) vcpus (parts n) one (λ vcpu. alike n vcpu apart) (at.each n guest vcpus one spec vcpus_are ideal_is)))

    mine_is : (n : ℕ) (guest : IdealGuest) (vcpus : Vcpus) (one : IdealGuest) → n ≡ number → slice_get states n ≡ Some guest → vcpus ≡ acts.after → slice_get after n ≡ Some one → IsGuestAt pes lrs guest n (guest_at later n) vcpus (parts n ++ more_of number more n) one
    mine_is n guest vcpus one same spec vcpus_are ideal_is =
        let all : parts number ++ more ≡ parts number ++ more_of number more number = ap (λ xs. parts number ++ xs) (sym (more_same number number more refl)) in
        let here : IsGuestAt pes lrs guest number (guest_at later number) vcpus (parts number ++ more_of number more number) one
        = subst (λ t. IsGuestAt pes lrs guest number t vcpus (parts number ++ more_of number more number) one) (sym told_mine)
        (subst (λ v. IsGuestAt pes lrs guest number acts.guest v (parts number ++ more_of number more number) one) (sym vcpus_are)
        (subst (λ ps. IsGuestAt pes lrs guest number acts.guest acts.after ps one) all
        (subst (IsGuestAt pes lrs guest number acts.guest acts.after (parts number ++ more)) (sym (but.mine one (subst (λ m. slice_get after m ≡ Some one) same ideal_is)))
        (mine guest (subst (λ m. slice_get states m ≡ Some guest) same spec))))) in
        subst (λ m. IsGuestAt pes lrs guest m (guest_at later m) vcpus (parts m ++ more_of number more m) one) (sym same) here

    pub machine_acts : IsMachineAt states lrs (record next { pes = pes }) later (λ n. parts n ++ more_of number more n) after
    machine_acts = record {
      lrs_is = acts.lrs ∙ at.lrs_is;
      few_lrs = at.few_lrs;
      guests = ap length acts.next_is ∙ length-set machine.guests.items number acts.after ∙ at.guests;
      ports = ap length acts.told_is ∙ length-set told.guests number acts.guest ∙ at.ports;
      ideals_each = but.each ∙ at.ideals_each;
      residents = residents;
      once = once;
      each = λ n guest vcpus one spec vcpus_are ideal_is.
          elim (set_get machine.guests.items number n acts.after vcpus (ap (λ items. slice_get items n) (sym acts.next_is) ∙ vcpus_are)) [
            | inl both ↦ mine_is n guest vcpus one both.0 spec both.1 ideal_is
            | inr other ↦ other_is n guest vcpus one other.0 spec other.1 (but.others n one other.0 ideal_is)
          ];
    }
