-- Kicks of a vCPU stay until it looks for one.
use Rattle.std.proofs.Common.{◌≡◌, ◌≢◌, ℕ, ◌<◌, ◌==◌, ◌&&◌, inl, inr, true≢false, Bool, true, false, Option, refl, sym, ap, ◌∙◌}
use Rattle.std.proofs.lemmas.Bool.{eq-eqb, eqb-true, lt-ltb, false_from_ne_true}
use Rattle.law_lines_translate.specs.Words.{GuestShape}
use Rattle.law_lines_translate.specs.Histories.{Ideal}
use Rattle.law_lines_translate.specs.Registers.{Maps}
use Rattle.law_lines_translate.specs.Core.{CoreStep, Look, Raise, Claim, GiveBack, Release, Poll, Kick, Touch, Want, WireUp, WireDown, EnableLpis, RamLook, RamPut, CtlrTake, CtlrEnd, TurnTake, CommandDone, TurnRelease, Mark, TakeIndex, LineEnter, LineLeave, LineFill, LineClose, Vcpu, packed_vcpu, vcpu_of, CoreState, word_in, word_of}
use Rattle.law_core_is_history.proofs.AfterLemmas.{later, word_cases}
use Rattle.law_core_is_history.proofs.StepContext.{IsStep}

-- a vCPU's own look for a kick
abbrev pub is_poll : CoreStep → Bool
is_poll (Poll reg write) = true
is_poll step = false

abbrev pub is_poll_by : ℕ → ℕ → CoreStep → Bool
is_poll_by vcpu actor step = is_poll step && actor == vcpu

-- a vCPU's word after a kick
kicked_word : (lpis : Bool) → (vcpu_of (packed_vcpu (record { lpis = lpis; kick = true }))).kick ≡ true
kicked_word true = refl
kicked_word false = refl

-- a step is a kick of the vCPU
abbrev pub is_kick_of : ℕ → CoreStep → Bool
is_kick_of vcpu (Kick other) = other == vcpu
is_kick_of vcpu step = false

vcpu_of_word : (v w : ℕ) → Vcpu v ≡ Vcpu w → v ≡ w
vcpu_of_word v w e = cc

-- a kick is on its vCPU's word
kick_word : (shape : GuestShape) (actor vcpu : ℕ) (step : CoreStep) → word_of shape actor step ≢ Vcpu vcpu → is_kick_of vcpu step ≡ false
kick_word shape actor vcpu (Kick other) apart = false_from_ne_true (other == vcpu) (λ e. apart (ap Vcpu (eqb-true other vcpu e)))
kick_word shape actor vcpu (Look word) apart = refl
kick_word shape actor vcpu (Raise key) apart = refl
kick_word shape actor vcpu (Claim key seen) apart = refl
kick_word shape actor vcpu (GiveBack key back) apart = refl
kick_word shape actor vcpu (Release key) apart = refl
kick_word shape actor vcpu (Poll reg write) apart = refl
kick_word shape actor vcpu (Touch key seen kind) apart = refl
kick_word shape actor vcpu (Want key) apart = refl
kick_word shape actor vcpu (WireUp key) apart = refl
kick_word shape actor vcpu (WireDown key) apart = refl
kick_word shape actor vcpu (EnableLpis other) apart = refl
kick_word shape actor vcpu (RamLook index) apart = refl
kick_word shape actor vcpu (RamPut index seen value) apart = refl
kick_word shape actor vcpu (CtlrTake seen value) apart = refl
kick_word shape actor vcpu CtlrEnd apart = refl
kick_word shape actor vcpu (TurnTake seen) apart = refl
kick_word shape actor vcpu (CommandDone offset stalled ending) apart = refl
kick_word shape actor vcpu TurnRelease apart = refl
kick_word shape actor vcpu (Mark key other) apart = refl
kick_word shape actor vcpu (TakeIndex word) apart = refl
kick_word shape actor vcpu (LineEnter line seen) apart = refl
kick_word shape actor vcpu (LineLeave line) apart = refl
kick_word shape actor vcpu (LineFill line device event lpi) apart = refl
kick_word shape actor vcpu (LineClose line) apart = refl

module _ {shape : GuestShape} {state : CoreState} {ideal : Ideal} {actor found left : ℕ} {tables : Option Maps} where
  -- a step on a vCPU's word that is no look of the vCPU's own leaves it unkicked only where it was, and is no kick
  on_vcpu : (step : CoreStep) (is : IsStep shape state ideal actor step found left tables) (vcpu : ℕ) → word_of shape actor step ≡ Vcpu vcpu → is_poll_by vcpu actor step ≡ false → (vcpu_of left).kick ≡ false → ((vcpu_of found).kick ≡ false) × (is_kick_of vcpu step ≡ false)
  on_vcpu (Look word) is vcpu on own free = (ap (λ n. (vcpu_of n).kick) (sym is.takes.left) ∙ free, refl)
  on_vcpu (Poll reg write) is vcpu on own free = absurd (true≢false (sym (eq-eqb actor vcpu (vcpu_of_word actor vcpu on)) ∙ own))
  on_vcpu (Kick other) is vcpu on own free = absurd (true≢false (sym (ap (λ n. (vcpu_of n).kick) is.takes.left ∙ kicked_word (vcpu_of found).lpis) ∙ free))
  on_vcpu (EnableLpis other) is vcpu on own free = absurd (true≢false (sym (ap (λ n. (vcpu_of n).kick) is.takes.left ∙ kicked_word true) ∙ free))
  on_vcpu (Raise key) is vcpu on own free = absurd (cc)
  on_vcpu (Claim key seen) is vcpu on own free = absurd (cc)
  on_vcpu (GiveBack key back) is vcpu on own free = absurd (cc)
  on_vcpu (Release key) is vcpu on own free = absurd (cc)
  on_vcpu (Touch key seen kind) is vcpu on own free = absurd (cc)
  on_vcpu (Want key) is vcpu on own free = absurd (cc)
  on_vcpu (WireUp key) is vcpu on own free = absurd (cc)
  on_vcpu (WireDown key) is vcpu on own free = absurd (cc)
  on_vcpu (RamLook index) is vcpu on own free = absurd (cc)
  on_vcpu (RamPut index seen value) is vcpu on own free = absurd (cc)
  on_vcpu (CtlrTake seen value) is vcpu on own free = absurd (cc)
  on_vcpu CtlrEnd is vcpu on own free = absurd (cc)
  on_vcpu (TurnTake seen) is vcpu on own free = absurd (cc)
  on_vcpu (CommandDone offset stalled ending) is vcpu on own free = absurd (cc)
  on_vcpu TurnRelease is vcpu on own free = absurd (cc)
  on_vcpu (Mark key other) is vcpu on own free = absurd (cc)
  on_vcpu (TakeIndex word) is vcpu on own free = absurd (cc)
  on_vcpu (LineEnter line seen) is vcpu on own free = absurd (cc)
  on_vcpu (LineLeave line) is vcpu on own free = absurd (cc)
  on_vcpu (LineFill line device event lpi) is vcpu on own free = absurd (cc)
  on_vcpu (LineClose line) is vcpu on own free = absurd (cc)

module _ {shape : GuestShape} {state : CoreState} {ideal : Ideal} {actor : ℕ} {step : CoreStep} {found left : ℕ} {tables : Option Maps} (is : IsStep shape state ideal actor step found left tables) (vcpu : ℕ) (within : vcpu < shape.vcpus) where
  -- the word, and whether the step is a kick of the vCPU
  pub unkicked_before : is_poll_by vcpu actor step ≡ false → (vcpu_of (word_in shape (later is) (Vcpu vcpu))).kick ≡ false → ((vcpu_of (word_in shape state (Vcpu vcpu))).kick ≡ false) × (is_kick_of vcpu step ≡ false)
  unkicked_before own free = elim (word_cases is (Vcpu vcpu) (lt-ltb vcpu shape.vcpus within)) [
    | inl here ↦
        (let before = on_vcpu step is vcpu here.0 own (ap (λ n. (vcpu_of n).kick) (sym here.1) ∙ free) in
        (ap (λ n. (vcpu_of n).kick) (sym (is.takes.found ∙ ap (word_in shape state) here.0)) ∙ before.0, before.1))
    | inr apart ↦ (ap (λ n. (vcpu_of n).kick) (sym apart.1) ∙ free, kick_word shape actor vcpu step apart.0)
  ]
