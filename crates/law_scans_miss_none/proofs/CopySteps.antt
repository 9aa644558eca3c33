-- A vCPU's own copy of EnableLPIs, at every moment of every proper run.
use Rattle.std.proofs.Common.{◌≡◌, ◌≢◌, ℕ, ◌<◌, ◌==◌, ◌&&◌, inl, inr, true≢false, true, false, map, Option, Some, None, if◌then◌else◌, refl, sym, ap, ◌∙◌, subst}
use Rattle.std.proofs.lemmas.Bool.{lt-ltb}
use Rattle.law_registers_stand.specs.Words.{IccReg, GuestShape, IsShape}
use Rattle.law_registers_stand.specs.Histories.{Ideal, IdealGuest, CanOpen, cpu_at}
use Rattle.law_registers_stand.specs.Registers.{CpuRec, Maps}
use Rattle.law_registers_stand.specs.Core.{Local, Folding, CoreStep, Look, Poll, Kick, EnableLpis, Vcpu, local_after, accessed, shown, vcpu_of, CoreState, opening, seat_at, word_in, word_of, after_moment, Act, begins, makes, ends, Progress, opening_progress, progressed}
use Rattle.law_registers_stand.proofs.PortCore.OpeningLemmas.{word_opens}
use Rattle.law_registers_stand.specs.LawCoreIsHistory.Related.{is_folding}
use Rattle.law_registers_stand.proofs.LawCoreIsHistory.CpuLemmas.{same_lpis}
use Rattle.law_registers_stand.proofs.LawCoreIsHistory.StepContext.{IsStep, lpis_back}
use Rattle.law_scans_miss_none.specs.Copies.{CopiesAreCurrent}
use Rattle.law_registers_stand.specs.Followed.{Followed, opening_followed}
use Rattle.law_registers_stand.specs.Asks.{IsUnkicked}
use Rattle.law_registers_stand.proofs.LawCoreIsHistory.AfterLemmas.{later, word_cases, left_in}
use Rattle.law_scans_miss_none.proofs.CalmSteps.{no_poll_by, cpu_kept, OwnCalm, scans, accesses, goes_on, own_calm}
use Rattle.law_scans_miss_none.proofs.Frame.{follow, IsAt, IsActing, is_step, IsKeptBy, runs_keep}
use Rattle.law_scans_miss_none.proofs.ProgressLemmas.{local_on}
use Rattle.law_registers_stand.proofs.LawCoreIsHistory.KickSteps.{is_poll_by, unkicked_before}

-- a vCPU that is not kicked keeps EnableLPIs over the steps of others, and over its own but looks for a kick
module _ {shape : GuestShape} {state : CoreState} {ideal : Ideal} {actor found left : ℕ} {tables : Option Maps} where
  lpis_left : (step : CoreStep) (is : IsStep shape state ideal actor step found left tables) (vcpu : ℕ) → word_of shape actor step ≡ Vcpu vcpu → is_poll_by vcpu actor step ≡ false → (vcpu_of left).kick ≡ false → (vcpu_of left).lpis ≡ (vcpu_of found).lpis
  lpis_left (Look word) is vcpu on own free = ap (λ n. (vcpu_of n).lpis) is.takes.left
  lpis_left (Poll reg write) is vcpu on own free = ap (λ n. (vcpu_of n).lpis) is.takes.left ∙ lpis_back (record (vcpu_of found) { kick = false })
  lpis_left (Kick other) is vcpu on own free = ap (λ n. (vcpu_of n).lpis) is.takes.left ∙ lpis_back (record (vcpu_of found) { kick = true })
  lpis_left (EnableLpis other) is vcpu on own free = absurd (true≢false (sym (ap (λ n. (vcpu_of n).kick) is.takes.left ∙ refl) ∙ free))
  lpis_left step is vcpu on own free = absurd (cc)

module _ {shape : GuestShape} {state : CoreState} {ideal : Ideal} {actor : ℕ} {step : CoreStep} {found left : ℕ} {tables : Option Maps} (is : IsStep shape state ideal actor step found left tables) (vcpu : ℕ) (within : vcpu < shape.vcpus) where
  lpis_word : is_poll_by vcpu actor step ≡ false → IsUnkicked shape (later is) vcpu → (vcpu_of (word_in shape (later is) (Vcpu vcpu))).lpis ≡ (vcpu_of (word_in shape state (Vcpu vcpu))).lpis
  lpis_word own free = elim (word_cases is (Vcpu vcpu) (lt-ltb vcpu shape.vcpus within)) [
    | inl here ↦
        ap (λ n. (vcpu_of n).lpis) here.1 ∙ lpis_left step is vcpu here.0 own (ap (λ n. (vcpu_of n).kick) (sym here.1) ∙ free)
        ∙ ap (λ n. (vcpu_of n).lpis) (is.takes.found ∙ ap (word_in shape state) here.0)
    | inr apart ↦ ap (λ n. (vcpu_of n).lpis) apart.1
  ]

-- a vCPU's own step
module _ {shape : GuestShape} {state : CoreState} {ideal : Ideal} {vcpu found left : ℕ} {tables : Option Maps} (within : vcpu < shape.vcpus) (local : Local) (mine : local ≡ (seat_at state vcpu).local)
    (copied : IsUnkicked shape state vcpu → is_folding local.phase ≡ false → local.cpu.lpis ≡ (vcpu_of (word_in shape state (Vcpu vcpu))).lpis) where
  own_step : (step : CoreStep) (is : IsStep shape state ideal vcpu step found left tables) → IsUnkicked shape (later is) vcpu → is_folding (local_after shape vcpu local step found).phase ≡ false
      → (local_after shape vcpu local step found).cpu.lpis ≡ (vcpu_of (word_in shape (later is) (Vcpu vcpu))).lpis
  own_step step is free phase = of (own_calm within local mine step is free phase)
    where
      cleared : (s : CoreStep) (reg : Option IccReg) (write : Option ℕ) → s ≡ Poll reg write → IsStep shape state ideal vcpu s found left tables → (vcpu_of left).lpis ≡ (vcpu_of found).lpis
      cleared s reg write e at = ap (λ n. (vcpu_of n).lpis) (subst (λ t. IsStep shape state ideal vcpu t found left tables) e at).takes.left ∙ lpis_back (record (vcpu_of found) { kick = false })

      own_word : (reg : Option IccReg) (write : Option ℕ) → step ≡ Poll reg write → (vcpu_of (word_in shape (later is) (Vcpu vcpu))).lpis ≡ (vcpu_of found).lpis
      own_word reg write e = ap (λ n. (vcpu_of n).lpis) (ap (word_in shape (later is)) (sym (ap (word_of shape vcpu) e)) ∙ left_in is) ∙ cleared step reg write e is

      of : OwnCalm shape state vcpu step found local → (local_after shape vcpu local step found).cpu.lpis ≡ (vcpu_of (word_in shape (later is) (Vcpu vcpu))).lpis
      of (scans write e) = ap (λ s. (local_after shape vcpu local s found).cpu.lpis) e ∙ sym (own_word None write e)
      of (accesses reg write e free calm) =
          ap (λ s. (local_after shape vcpu local s found).cpu.lpis) e ∙ ap (λ b. (if b then record local { phase = Folding } else accessed reg write local).cpu.lpis) free
          ∙ same_lpis local.cpu local.cpu (record { same = refl; lpis = λ h. h }) reg write (map shown local.at)
          ∙ copied calm.unkicked calm.stays
          ∙ sym (own_word (Some reg) write e ∙ ap (λ n. (vcpu_of n).lpis) (is.takes.found ∙ ap (word_in shape state) (ap (word_of shape vcpu) e)))
      of (goes_on no_poll calm) =
          ap (λ (c : CpuRec). c.lpis) (cpu_kept shape vcpu local step found no_poll).cpu ∙ copied calm.unkicked calm.stays ∙ sym (lpis_word is vcpu within (ap (λ b. b && vcpu == vcpu) no_poll) free)

abbrev Copied : GuestShape → ℕ → CoreState → Followed → Progress → Type 0
Copied shape vcpu state at p = IsUnkicked shape state vcpu → is_folding p.local.phase ≡ false → p.local.cpu.lpis ≡ (vcpu_of (word_in shape state (Vcpu vcpu))).lpis

module _ (shape : GuestShape) (good : IsShape shape) (vcpu : ℕ) (within : vcpu < shape.vcpus) where
  kept : IsKeptBy shape vcpu (Copied shape vcpu)
  kept = record { other = other; own = own }
    where
      other :
          (state : CoreState) (at : Followed) (progress : ℕ → Progress) (actor : ℕ) (act : Act) → actor ≢ vcpu → IsAt shape state at progress → IsActing shape state progress actor act → Copied shape vcpu state at (progress vcpu)
          → Copied shape vcpu (after_moment shape state (record { actor = actor; act = act })) (follow shape state at (record { actor = actor; act = act })) (progress vcpu)
      other state at progress actor (begins operation lrs) apart here acts copied = copied
      other state at progress actor (makes made) apart here acts copied = λ free phase.
          let is = is_step shape good state at progress actor made here acts in
          let none = no_poll_by vcpu actor made.step apart in
          copied (unkicked_before is vcpu within none free).0 phase ∙ sym (lpis_word is vcpu within none free)
      other state at progress actor (ends answer) apart here acts copied = copied

      own : (state : CoreState) (at : Followed) (progress : ℕ → Progress) (act : Act) → IsAt shape state at progress → IsActing shape state progress vcpu act → Copied shape vcpu state at (progress vcpu)
          → Copied shape vcpu (after_moment shape state (record { actor = vcpu; act = act })) (follow shape state at (record { actor = vcpu; act = act })) (progressed shape vcpu (progress vcpu) act)
      own state at progress (begins operation lrs) here acts copied = copied
      own state at progress (ends answer) here acts copied = copied
      own state at progress (makes made) here acts copied = λ free phase.
          ap (λ (l : Local). l.cpu.lpis) (local_on shape vcpu made p) ∙ own_step within p.local (here.seats vcpu acts.there).local (copied) made.step is free (sym (ap (λ (l : Local). is_folding l.phase) (local_on shape vcpu made p)) ∙ phase)
        where
          p : Progress
          p = progress vcpu

          is : IsStep shape state at.ideal vcpu made.step made.found made.left made.tables
          is = is_step shape good state at progress vcpu made here acts

opens : (guest : IdealGuest) (number vcpu : ℕ) → CanOpen guest → vcpu < guest.shape.vcpus → Copied guest.shape vcpu (opening guest number) (opening_followed guest) (opening_progress guest number vcpu)
opens guest number vcpu good within free phase =
    sym (lpis_back (record { lpis = (cpu_at guest vcpu).lpis; kick = false })) ∙ sym (ap (λ n. (vcpu_of n).lpis) (word_opens guest number (Vcpu vcpu) good (lt-ltb vcpu guest.shape.vcpus within)))

pub copies_are_current : CopiesAreCurrent
copies_are_current guest number moments vcpu good proper within free phase =
    (runs_keep guest number vcpu (Copied guest.shape vcpu) good (kept guest.shape good.sound.shape vcpu within) (opens guest number vcpu good within) moments proper).keeps free phase
