-- What a step does to an interrupt that stands at a vCPU's interface after it.
use Rattle.std.proofs.Common.{◌≡◌, ℕ, ◌==◌, inl, inr, Bool, true, false, IsTrue, [], Option, Some, None, is_none, if◌then◌else◌, refl, sym, ap, ◌∙◌, subst}
use Rattle.std.proofs.lemmas.Bool.{and_parts}
use Rattle.law_registers_stand.specs.Words.{Key, GuestShape, has_interrupt, is_same_key, has_bit, Irq as IrqRecord, irq_of}
use Rattle.law_registers_stand.proofs.GicBase.KeyLemmas.{same_itself}
use Rattle.law_registers_stand.specs.Calls.{Reach, Take, Happened}
use Rattle.law_registers_stand.specs.Histories.{Ideal}
use Rattle.law_registers_stand.specs.Registers.{Maps}
use Rattle.law_registers_stand.specs.Core.{Local, CoreStep, Look, Raise, Claim, GiveBack, Release, Touch, Want, WireUp, WireDown, Irq, local_after, concerned, holder_or_active, target_of, succeeds, is_at, with_all, with_some, CoreState, seat_at, word_in, silent, event_done, stands_for, word_of}
use Rattle.law_registers_stand.proofs.PortCore.OwnLemmas.{touched_holder}
use Rattle.law_registers_stand.proofs.PortCore.StepTies.{number_is, none_is}
use Rattle.law_registers_stand.proofs.LawCoreIsHistory.StepContext.{IsStep, finds}
use Rattle.law_scans_miss_none.specs.Index.{owes_kick}
use Rattle.law_scans_miss_none.specs.Waiting.{record_in}
use Rattle.law_registers_stand.proofs.LawCoreIsHistory.AfterLemmas.{later, word_cases}
use Rattle.law_scans_miss_none.proofs.TellSteps.{first_has, raised_word, up_word, down_word, claim_held, claim_missed, give_back_word, release_word, touch_word, touch_missed, want_word}
use Rattle.law_scans_miss_none.proofs.ToldLemmas.{event_subject, step_changes, apart_subject}

module _ {shape : GuestShape} {state : CoreState} {ideal : Ideal} {actor : ℕ} {step : CoreStep} {found left : ℕ} {tables : Option Maps} (is : IsStep shape state ideal actor step found left tables) where
  abbrev pub event : Option Happened
  event = stands_for shape actor (seat_at state actor).local (seat_at state actor).own step found

  -- it stood there before, and the step is of another one or says nothing of it; or it is a cause that comes or goes, of which its actor owes the vCPU a kick; or the
  -- vCPU just took it there
  pub data HeldSo (key : Key) (vcpu : ℕ) : Type 0 where
    stays : (record_in shape state key).holder ≡ Some vcpu → (event_subject event ≡ Some key → ⊥) → HeldSo key vcpu
    alters : (record_in shape state key).holder ≡ Some vcpu → step_changes shape state actor step found key ≡ true → IsTrue (owes_kick vcpu (local_after shape actor (seat_at state actor).local step found)) → HeldSo key vcpu
    arrives : actor ≡ vcpu → event ≡ silent (Reach key actor) → HeldSo key vcpu

nothing_of : {k : Key} → None ≡ Some k → ⊥
nothing_of e = absurd (cc)

key_same : (k key : Key) → Irq k ≡ Irq key → k ≡ key
key_same k key e = cc

some_same : (v w : ℕ) → Some v ≡ Some w → v ≡ w
some_same v w e = cc

named : (k key : Key) → Irq k ≡ Irq key → is_same_key key k ≡ true
named k key on = subst (λ j. is_same_key j k ≡ true) (key_same k key on) (same_itself k)

none_held : {v : ℕ} {T : Type 0} → None ≡ Some v → T
none_held e = absurd (cc)

-- the holder is told of a cause
holder_bit : (shape : GuestShape) (irq : IrqRecord) (vcpu : ℕ) (local : Local) → irq.holder ≡ Some vcpu → IsTrue (has_bit (with_all local.owes (concerned shape irq)).0 vcpu)
holder_bit shape irq vcpu local held = first_has (with_some local.owes (target_of shape irq)) (holder_or_active irq) [] vcpu (ap (λ o. if is_none o then irq.act_by else o) held)

module _ {shape : GuestShape} {state : CoreState} {ideal : Ideal} {actor found left : ℕ} {tables : Option Maps} where
  -- by the kind of step on the interrupt's word
  held_on : (step : CoreStep) (is : IsStep shape state ideal actor step found left tables) (key : Key) (vcpu : ℕ) → word_of shape actor step ≡ Irq key → (irq_of left).holder ≡ Some vcpu → record_in shape state key ≡ irq_of found → HeldSo is key vcpu
  held_on (Look (Irq k)) is key vcpu on held before = stays (ap (λ (i : IrqRecord). i.holder) before ∙ ap (λ n. (irq_of n).holder) (sym is.takes.left) ∙ held) nothing_of
  held_on (Raise k) is key vcpu on held before =
      let was = sym (ap (λ (i : IrqRecord). i.holder) (raised_word k is)) ∙ held in
      alters (ap (λ (i : IrqRecord). i.holder) before ∙ was) (named k key on) (holder_bit shape (irq_of found) vcpu (seat_at state actor).local was)
  held_on (WireUp k) is key vcpu on held before =
      let was = sym (ap (λ (i : IrqRecord). i.holder) (up_word k is)) ∙ held in
      alters (ap (λ (i : IrqRecord). i.holder) before ∙ was) (named k key on) (holder_bit shape (irq_of found) vcpu (seat_at state actor).local was)
  held_on (WireDown k) is key vcpu on held before =
      let was = sym (ap (λ (i : IrqRecord). i.holder) (down_word k is)) ∙ held in
      alters (ap (λ (i : IrqRecord). i.holder) before ∙ was) (named k key on) (holder_bit shape (irq_of found) vcpu (seat_at state actor).local was)
  held_on (Want k) is key vcpu on held before = stays (ap (λ (i : IrqRecord). i.holder) before ∙ sym (ap (λ (i : IrqRecord). i.holder) (want_word k is)) ∙ held) nothing_of
  held_on (GiveBack k back) is key vcpu on held before = stays (ap (λ (i : IrqRecord). i.holder) before ∙ sym (ap (λ (i : IrqRecord). i.holder) (give_back_word k back is)) ∙ held) nothing_of
  held_on (Release k) is key vcpu on held before = none_held (sym (ap (λ (i : IrqRecord). i.holder) (release_word k is)) ∙ held)
  held_on (Touch k seen kind) is key vcpu on held before = of (succeeds shape actor (seat_at state actor).local (Touch k seen kind) found) refl
    where
      of : (b : Bool) → succeeds shape actor (seat_at state actor).local (Touch k seen kind) found ≡ b → HeldSo is key vcpu
      of true e = none_held (sym (ap (λ (i : IrqRecord). i.holder) (touch_word k seen kind is e) ∙ touched_holder shape k kind (irq_of found) ∙ none_is (irq_of found).holder (and_parts (found == seen) (is_none (irq_of found).holder) e).1) ∙ held)
      of false e =
          stays (ap (λ (i : IrqRecord). i.holder) before ∙ ap (λ n. (irq_of n).holder) (sym (touch_missed k seen kind is e)) ∙ held)
          (λ h. nothing_of (sym (ap (λ b. event_subject (if b then event_done shape actor (seat_at state actor).local (seat_at state actor).own (Touch k seen kind) found else None)) e) ∙ h))
  held_on (Claim k seen) is key vcpu on held before = of (succeeds shape actor (seat_at state actor).local (Claim k seen) found) refl
    where
      of : (b : Bool) → succeeds shape actor (seat_at state actor).local (Claim k seen) found ≡ b → HeldSo is key vcpu
      of true e = moved (is_at k (seat_at state actor).local.at) refl
        where
          made : event is ≡ silent (if is_at k (seat_at state actor).local.at then Take k actor else Reach k actor)
          made = ap (λ b. if b then event_done shape actor (seat_at state actor).local (seat_at state actor).own (Claim k seen) found else None) e

          ties : is_at k (seat_at state actor).local.at ≡ true → (irq_of found).holder ≡ Some actor
          ties here = number_is actor (irq_of found).holder ((finds is).ties ∙ here)

          moved : (b : Bool) → is_at k (seat_at state actor).local.at ≡ b → HeldSo is key vcpu
          moved true here =
              stays (ap (λ (i : IrqRecord). i.holder) before ∙ ties here ∙ sym (claim_held k seen is e) ∙ held)
              (λ h. nothing_of (sym (ap event_subject (made ∙ ap (λ b. silent (if b then Take k actor else Reach k actor)) here)) ∙ h))
          moved false away = arrives (some_same actor vcpu (sym (claim_held k seen is e) ∙ held)) (made ∙ ap (λ b. silent (if b then Take k actor else Reach k actor)) away ∙ ap (λ j. silent (Reach j actor)) (key_same k key on))
      of false e =
          stays (ap (λ (i : IrqRecord). i.holder) before ∙ ap (λ n. (irq_of n).holder) (sym (claim_missed k seen is e)) ∙ held)
          (λ h. nothing_of (sym (ap (λ b. event_subject (if b then event_done shape actor (seat_at state actor).local (seat_at state actor).own (Claim k seen) found else None)) e) ∙ h))
  held_on step is key vcpu on held before = absurd (cc)

-- every step
pub held_so : {shape : GuestShape} {state : CoreState} {ideal : Ideal} {actor : ℕ} {step : CoreStep} {found left : ℕ} {tables : Option Maps} (is : IsStep shape state ideal actor step found left tables) (key : Key) (vcpu : ℕ) → IsTrue (has_interrupt shape key)
    → (record_in shape (later is) key).holder ≡ Some vcpu → HeldSo is key vcpu
held_so {shape} {state} {step = step} is key vcpu there held = elim (word_cases is (Irq key) there) [
  | inl here ↦ held_on step is key vcpu here.0 (ap (λ n. (irq_of n).holder) (sym here.1) ∙ held) (ap irq_of (sym (is.takes.found ∙ ap (word_in shape state) here.0)))
  | inr apart ↦ stays (ap (λ n. (irq_of n).holder) (sym apart.1) ∙ held) (apart_subject is key apart.0)
]
