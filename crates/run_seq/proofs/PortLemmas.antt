-- The guests of a port while one after the other is lent.
use Rattle.std.proofs.Common.{◌≡◌, ◌≢◌, ◌⊎◌, ℕ, zero, suc, ◌+◌, ◌<◌, inl, inr, List, [], ◌∷◌, ◌++◌, length, set, take, get_or, Some, refl, sym, ap, ◌∙◌, subst, arith}
use Rattle.std.specs.Prelude.{slice_get}
use Rattle.std.specs.List.{flat_map}
use Rattle.std.proofs.lemmas.Bool.{cases_eq}
use Rattle.std.proofs.lemmas.List.{append-nil, append_assoc, get_or-set_same, get_or-set_other, length-set, length_push, set-set}
use Rattle.std.proofs.lemmas.Option.{get_or_from_slice_get, slice_get_within}
use Rattle.law_ends_agree.specs.Histories.{IdealGuest}
use Rattle.law_ends_agree.specs.Words.{Vcpu as VcpuActor}
use Rattle.law_ends_agree.specs.Registers.{CpuRec}
use Rattle.law_one_thread_is_eager.specs.PortSeq.declared.guest.GuestPort.{GuestPort}
use Rattle.law_one_thread_is_eager.specs.PortSeq.declared.port.SeqPort.{SeqPort}
use Rattle.law_one_thread_is_eager.specs.PortSeq.Lending.{with_guest}
use Rattle.law_one_thread_is_eager.specs.PortSeq.Ports.{told, told_all}
use Rattle.law_one_thread_is_eager.specs.PortSeq.Told.{GuestTold, IsOpening, SeqTold, current, guest_at, no_told, opening_told, telling}
use Rattle.law_one_thread_is_eager.proofs.PortSeq.GuestsLemmas.{told_lent}
use Rattle.law_one_thread_is_eager.specs.SeqGuest.declared.vcpus.Vcpus.{Vcpus}
use Rattle.law_one_thread_is_eager.specs.PePlace.Place.{shelf}
use Rattle.law_one_thread_is_eager.specs.SeqGuest.Guest.{AreAt, cpus_of, spot_at}
use Rattle.run_seq.specs.Opened.{AreOpened, IsOpened}
use Rattle.run_seq.specs.Run.{SamePorts}

-- The guests of a port are the same, whichever of their actors are told.

-- one guest is lent, and another of its actors is told once it is back
pub record IsBack (first : SeqTold) (number : ℕ) (guest : GuestTold) (last : SeqTold) : Type 0 where
  pub there : number < length first.guests
  pub guests : last.guests ≡ set first.guests number guest
  pub guest_is : guest ≡ record (guest_at first number) { actor = guest.actor }

module _ (first : SeqTold) (number : ℕ) (guest : GuestTold) (last : SeqTold) (back : IsBack first number guest last) where
  pub back_mine : guest_at last number ≡ guest
  back_mine = ap (λ guests. get_or guests number no_told) back.guests ∙ get_or-set_same first.guests number guest no_told back.there

  pub back_other : (n : ℕ) → n ≢ number → guest_at last n ≡ guest_at first n
  back_other n apart = ap (λ guests. get_or guests n no_told) back.guests ∙ get_or-set_other first.guests number n guest no_told apart

  pub same_back : SamePorts first last
  same_back = record {
    ports = ap length back.guests ∙ length-set first.guests number guest;
    same = λ n. elim (cases_eq n number) [
      | inl same ↦ subst (λ m. guest_at last m ≡ record (guest_at first m) { actor = (guest_at last m).actor }) (sym same) mine
      | inr apart ↦ other n apart
    ];
  }
    where
      mine : guest_at last number ≡ record (guest_at first number) { actor = (guest_at last number).actor }
      mine = subst (λ (t : GuestTold). t ≡ record (guest_at first number) { actor = t.actor }) (sym back_mine) back.guest_is

      other : (n : ℕ) → n ≢ number → guest_at last n ≡ record (guest_at first n) { actor = (guest_at last n).actor }
      other n apart = subst (λ (t : GuestTold). t ≡ record (guest_at first n) { actor = t.actor }) (sym (back_other n apart)) refl

pub same_then : (first mid last : SeqTold) → SamePorts first mid → SamePorts mid last → SamePorts first last
same_then first mid last early late = record {
  ports = late.ports ∙ early.ports;
  same = λ n. late.same n ∙ ap (λ (t : GuestTold). record t { actor = (guest_at last n).actor }) (early.same n);
}

-- the guest that is lent, and how it comes back
pub record IsOut (port again : SeqPort) (lent : GuestPort) (number : ℕ) : Type 0 where
  pub there : number < length (told_all port).guests
  pub again_is : told_all again ≡ telling (VcpuActor number 0) (told_all port)
  pub lent_is : told lent ≡ current (told_all again)

module _ (port again : SeqPort) (lent : GuestPort) (number : ℕ) (out : IsOut port again lent number) where
  abbrev first_told : GuestTold
  first_told = record (guest_at (told_all port) number) { actor = 0 }

  pub out_told : told lent ≡ first_told
  out_told = out.lent_is ∙ ap current out.again_is ∙ get_or-set_same (told_all port).guests number first_told no_told out.there

  pub comes_back : (last : GuestPort) → told last ≡ record (told lent) { actor = (told last).actor } → IsBack (told_all port) number (told last) (told_all (with_guest again last))
  comes_back last same = record {
    there = out.there;
    guests =
        ap (λ (t : SeqTold). t.guests) (told_lent again last)
        ∙ ap (λ (t : SeqTold). set t.guests t.guest (told last)) out.again_is
        ∙ set-set (told_all port).guests number first_told (told last);
    guest_is = same ∙ ap (λ (t : GuestTold). record t { actor = (told last).actor }) out_told;
  }

  pub goes_back : (first : SeqTold) (last : GuestPort) → SamePorts first (told_all port) → told last ≡ record (told lent) { actor = (told last).actor } → SamePorts first (told_all (with_guest again last))
  goes_back first last so same = same_then first (told_all port) (told_all (with_guest again last)) so (same_back (told_all port) number (told last) (told_all (with_guest again last)) (comes_back last same))

-- The guests that opened.

-- a guest that opened, whichever actor is told
pub still_opening : (states : List IdealGuest) (first last : SeqTold) (number : ℕ) (guest : IdealGuest) → IsOpening states first → SamePorts first last → slice_get states number ≡ Some guest
    → guest_at last number ≡ record (opening_told (guest_at last number).home guest number) { actor = (guest_at last number).actor }
still_opening states first last number guest opening same is =
    let home : (guest_at last number).home ≡ (guest_at first number).home = ap (λ (t : GuestTold). t.home) (same.same number) in
    same.same number
    ∙ ap (λ (t : GuestTold). record t { actor = (guest_at last number).actor }) (opening.opened number (slice_get_within states number guest is))
    ∙ ap (λ (g : IdealGuest). record (opening_told (guest_at first number).home g number) { actor = (guest_at last number).actor }) (get_or_from_slice_get states number guest _ is)
    ∙ ap (λ home. record (opening_told home guest number) { actor = (guest_at last number).actor }) (sym home)

push_get : {A : Type 0} (xs : List A) (x : A) (i : ℕ) (y : A) → slice_get (xs ++ x ∷ []) i ≡ Some y → (slice_get xs i ≡ Some y) ⊎ ((i ≡ length xs) × (y ≡ x))
push_get [] x zero y e = inr (refl, cc)
push_get [] x (suc i) y e = absurd (cc)
push_get (z ∷ xs) x zero y e = inl e
push_get (z ∷ xs) x (suc i) y e = elim (push_get xs x i y e) [
  | inl before ↦ inl before
  | inr last ↦ inr (ap suc last.0, last.1)
]

same_actor : (guest : IdealGuest) (number lrs : ℕ) (told : GuestTold) (vcpus : Vcpus) → told ≡ record (opening_told told.home guest number) { actor = told.actor } → AreAt told vcpus → vcpus.lrs ≡ lrs → ((vcpu : ℕ) → spot_at vcpus vcpu ≡ shelf) → IsOpened guest number lrs told vcpus
same_actor guest number lrs told vcpus is at lrs_is spots = record { opened = record { is = is }; at = at; lrs_is = lrs_is; spots = spots }

-- one more has
pub opened_more :
    (states : List IdealGuest) (lrs : ℕ) (opened first last : SeqTold) (number : ℕ) (guest : GuestTold) (guests all : List Vcpus) (vcpus : Vcpus) → IsOpening states opened → SamePorts opened first → number < length states → IsBack first number guest last → AreOpened states lrs first guests number
    → all ≡ guests ++ vcpus ∷ [] → AreAt guest vcpus → vcpus.lrs ≡ lrs → ((vcpu : ℕ) → spot_at vcpus vcpu ≡ shelf) → AreOpened states lrs last all (number + 1)
opened_more states lrs opened first last number guest guests all vcpus opening same there back so pushed at lrs_is spots = record {
  ports = (same_back first number guest last back).ports ∙ so.ports;
  each = ap length pushed ∙ length_push guests vcpus ∙ ap (λ n. n + 1) so.each;
  ones = λ n state one state_is one_is.
      elim (push_get guests vcpus n one (ap (λ items. slice_get items n) (sym pushed) ∙ one_is)) [
        | inl before ↦ early n state one state_is before
        | inr after ↦ late n state one (after.0 ∙ so.each) state_is after.1
      ];
}
  where
    early : (n : ℕ) (state : IdealGuest) (one : Vcpus) → slice_get states n ≡ Some state → slice_get guests n ≡ Some one → IsOpened state n lrs (guest_at last n) one
    early n state one state_is before =
        let few : n < number = subst (λ m. n < m) so.each (slice_get_within guests n one before) in
        subst (λ (t : GuestTold). IsOpened state n lrs t one) (sym (back_other first number guest last back n (λ e. absurd (omega (arith, few, e))))) (so.ones n state one state_is before)

    late : (n : ℕ) (state : IdealGuest) (one : Vcpus) → n ≡ number → slice_get states n ≡ Some state → one ≡ vcpus → IsOpened state n lrs (guest_at last n) one
    late n state one n_is state_is one_is =
        let is = still_opening states opened last number state opening (same_then opened first last same (same_back first number guest last back)) (subst (λ m. slice_get states m ≡ Some state) n_is state_is) in
        let here : IsOpened state number lrs (guest_at last number) vcpus = same_actor state number lrs (guest_at last number) vcpus is (subst (λ t. AreAt t vcpus) (sym (back_mine first number guest last back)) at) lrs_is spots in
        subst (λ m. IsOpened state m lrs (guest_at last m) one) (sym n_is) (subst (IsOpened state number lrs (guest_at last number)) (sym one_is) here)

-- The records of the CPU interfaces so far.

taken_more : (guests : List GuestTold) (n : ℕ) → n < length guests → flat_map cpus_of (take (suc n) guests) ≡ flat_map cpus_of (take n guests) ++ cpus_of (get_or guests n no_told)
taken_more [] n there = absurd (omega (arith, there))
taken_more (t ∷ guests) zero there = append-nil (cpus_of t)
taken_more (t ∷ guests) (suc n) there =
    ap (λ cpus. cpus_of t ++ cpus) (taken_more guests n (omega (arith, there)))
    ∙ sym (append_assoc (cpus_of t) (flat_map cpus_of (take n guests)) (cpus_of (get_or guests n no_told)))

pub cpus_more : (first : SeqTold) (port again : SeqPort) (lent : GuestPort) (number : ℕ) (cpus all : List CpuRec) → SamePorts first (told_all port) → number < length first.guests → IsOut port again lent number → cpus ≡ flat_map cpus_of (take number first.guests) → all ≡ cpus ++ cpus_of (told lent)
    → all ≡ flat_map cpus_of (take (number + 1) first.guests)
cpus_more first port again lent number cpus all same there out so more =
    let one : cpus_of (told lent) ≡ cpus_of (guest_at first number) = ap cpus_of (out_told port again lent number out) ∙ ap cpus_of (same.same number) in
    more
    ∙ ap (λ early. early ++ cpus_of (told lent)) so
    ∙ ap (λ late. flat_map cpus_of (take number first.guests) ++ late) one
    ∙ sym (taken_more first.guests number there)
    ∙ ap (λ n. flat_map cpus_of (take n first.guests)) next
  where
    next : suc number ≡ number + 1
    next = omega arith
