-- What a step leaves of the interrupts that are due to a vCPU, while that is not kicked.
use Rattle.std.proofs.Common.{◌≡◌, ℕ, ◌<◌, inl, inr, true≢false, Bool, true, false, IsTrue, Option, if◌then◌else◌, refl, sym, ap, ◌∙◌, subst, arith}
use Rattle.std.proofs.lemmas.Bool.{cases_eq, eq-eqb}
use Rattle.law_registers_stand.specs.Words.{Key, GuestShape, has_bit, Irq as IrqRecord, irq_of, IsShape, has_interrupt}
use Rattle.law_registers_stand.specs.Calls.{touched}
use Rattle.law_registers_stand.specs.Histories.{Ideal, Track}
use Rattle.law_registers_stand.specs.Registers.{Maps}
use Rattle.law_registers_stand.specs.Core.{Local, CoreStep, Look, Raise, Release, Poll, Kick, Touch, WireUp, WireDown, LineClose, Irq, local_after, concerned, concerned_by, told_of_release, succeeds, is_active_at, CoreState, Seat, seat_at, word_in, word_of, CanStep, local_done}
use Rattle.law_registers_stand.proofs.LawCoreIsHistory.LineSteps.{line_done}
use Rattle.law_registers_stand.proofs.LawCoreIsHistory.StepContext.{IsStep}
use Rattle.law_scans_miss_none.specs.Index.{waits_for, owes_kick}
use Rattle.law_scans_miss_none.specs.Excuse.{changed_last, IsExcused}
use Rattle.law_scans_miss_none.specs.Waiting.{record_in, IsWaiting, IsDue}
use Rattle.law_registers_stand.specs.Asks.{IsUnkicked}
use Rattle.law_registers_stand.proofs.LawCoreIsHistory.KickSteps.{is_poll_by, is_kick_of, unkicked_before}
use Rattle.law_registers_stand.proofs.LawCoreIsHistory.AfterLemmas.{later, word_cases, local_mine, seat_other}
use Rattle.law_scans_miss_none.proofs.ToldLemmas.{waiting_concerns, IsOwnRelease, step_changes, Lasts, apart_quiet}
use Rattle.law_scans_miss_none.proofs.TellSteps.{all_keep, tells}
use Rattle.law_scans_miss_none.proofs.IndexSteps.{look_owes, poll_owes, still_in}

-- what a history says of who changed an interrupt last
abbrev pub last_in : GuestShape → Track → ℕ → Key → Type 0
last_in shape track actor key = IsTrue (changed_last shape track key actor)

-- kicks that are owed are owed on after a step that does what it is for, but for one that is sent
owes_done : (shape : GuestShape) (actor vcpu : ℕ) (local : Local) (step : CoreStep) (found : ℕ) → IsShape shape → vcpu < shape.vcpus → CanStep shape actor step → is_kick_of vcpu step ≡ false → IsTrue (owes_kick vcpu local) → IsTrue (owes_kick vcpu (local_done shape actor local step found))
owes_done shape actor vcpu local (Look word) found good within can e h = subst (λ o. IsTrue (has_bit o.0 vcpu)) (sym (look_owes shape actor word found local)) h
owes_done shape actor vcpu local (Poll reg write) found good within can e h = subst (λ o. IsTrue (has_bit o.0 vcpu)) (sym (poll_owes reg write found local)) h
owes_done shape actor vcpu local (Raise key) found good within can e h = all_keep local.owes (concerned shape (irq_of found)) vcpu h
owes_done shape actor vcpu local (WireUp key) found good within can e h = all_keep local.owes (concerned shape (irq_of found)) vcpu h
owes_done shape actor vcpu local (WireDown key) found good within can e h = all_keep local.owes (concerned shape (irq_of found)) vcpu h
owes_done shape actor vcpu local (Release key) found good within can e h = all_keep local.owes (told_of_release shape actor (is_active_at key local) (irq_of found)) vcpu h
owes_done shape actor vcpu local (Touch key seen kind) found good within can e h = all_keep local.owes (concerned_by shape (irq_of found) (touched shape key kind (irq_of found))) vcpu h
owes_done shape actor vcpu local (Kick other) found good within can e h =
    still_in local.owes other vcpu (omega (arith, can, good.vcpus)) (omega (arith, within, good.vcpus)) (λ same. true≢false (sym (eq-eqb other vcpu (sym same)) ∙ e)) h
owes_done shape actor vcpu local (LineClose line) found good within can e h = subst (λ o. IsTrue (has_bit o.0 vcpu)) (sym (line_done shape actor found local (λ l. l.owes) (λ l n s. refl) (LineClose line) refl)) h
owes_done shape actor vcpu local step found good within can e h = h

-- and after any other
pub owes_on : (shape : GuestShape) (actor vcpu : ℕ) (local : Local) (step : CoreStep) (found : ℕ) → IsShape shape → vcpu < shape.vcpus → CanStep shape actor step → is_kick_of vcpu step ≡ false → IsTrue (owes_kick vcpu local) → IsTrue (owes_kick vcpu (local_after shape actor local step found))
owes_on shape actor vcpu local step found good within can e h = of (succeeds shape actor local step found)
  where
    of : (b : Bool) → IsTrue (owes_kick vcpu (if b then local_done shape actor local step found else local))
    of true = owes_done shape actor vcpu local step found good within can e h
    of false = h

module _ {shape : GuestShape} {state : CoreState} {ideal : Ideal} {actor : ℕ} {step : CoreStep} {found left : ℕ} {tables : Option Maps} (is : IsStep shape state ideal actor step found left tables) (vcpu : ℕ) (within : vcpu < shape.vcpus) where
  -- Excuses.

  module _ (track later_track : Track) (lasts : Lasts is (last_in shape track) (last_in shape later_track)) where
    -- a change of which the vCPU is still to be told stays so, unless the step changes the interrupt, or kicks the vCPU
    pub excused_on : (key : Key) → IsTrue (has_interrupt shape key) → step_changes shape state actor step found key ≡ false → is_kick_of vcpu step ≡ false → IsExcused shape state track vcpu key → IsExcused shape (later is) later_track vcpu key
    excused_on key there quiet no_kick x = record {
      actor = x.actor;
      there = x.there;
      last = lasts.kept key x.actor vcpu there quiet x.owes x.last;
      owes = elim (cases_eq x.actor actor) [
        | inl same ↦
            subst (λ n. IsTrue (owes_kick vcpu (seat_at (later is) n).local)) (sym same)
            (subst (λ (l : Local). IsTrue (owes_kick vcpu l)) (sym (local_mine is)) (owes_on shape actor vcpu (seat_at state actor).local step found is.good within is.takes.can no_kick (subst (λ n. IsTrue (owes_kick vcpu (seat_at state n).local)) same x.owes)))
        | inr differ ↦ subst (λ (s : Seat). IsTrue (owes_kick vcpu s.local)) (sym (seat_other is x.actor differ)) x.owes
      ];
    }

    -- and one that the step makes is so
    pub excused_now : (key : Key) → IsTrue (has_interrupt shape key) → step_changes shape state actor step found key ≡ true → IsTrue (owes_kick vcpu (local_after shape actor (seat_at state actor).local step found)) → IsExcused shape (later is) later_track vcpu key
    excused_now key there changes owes = record { actor = actor; there = is.takes.actor; last = lasts.made key there changes; owes = subst (λ (l : Local). IsTrue (owes_kick vcpu l)) (sym (local_mine is)) owes }

    -- an interrupt that is due after a step, which is no release of the vCPU's own, was due before it, with the same record
    pub record DueSo (key : Key) : Type 0 where
      pub due : IsDue shape state track vcpu key
      pub same : record_in shape (later is) key ≡ record_in shape state key

    pub due_so : (IsOwnRelease step actor vcpu → ⊥) → is_kick_of vcpu step ≡ false → (key : Key) → IsDue shape (later is) later_track vcpu key → DueSo key
    due_so other no_kick key due = elim (word_cases is (Irq key) due.waiting.there) [
      | inl here ↦ on here
      | inr apart ↦ so (ap irq_of apart.1) (apart_quiet is key apart.0)
    ]
      where
        waiting : IsWaiting shape (later is) vcpu key
        waiting = due.waiting

        so : record_in shape (later is) key ≡ record_in shape state key → step_changes shape state actor step found key ≡ false → DueSo key
        so same quiet = record {
          due = record {
            waiting = record {
              there = waiting.there;
              home = ap (λ (i : IrqRecord). i.holder) (sym same) ∙ waiting.home;
              unwanted = ap (λ (i : IrqRecord). i.want) (sym same) ∙ waiting.unwanted;
              waits = subst (λ i. IsTrue (waits_for shape vcpu i)) same waiting.waits;
            };
            told = λ excused. due.told (excused_on key waiting.there quiet no_kick excused);
          };
          same = same;
        }

        on : (word_of shape actor step ≡ Irq key) × (word_in shape (later is) (Irq key) ≡ left) → DueSo key
        on here =
            let word : record_in shape (later is) key ≡ irq_of left = ap irq_of here.1 in
            let waits = subst (λ i. IsTrue (waits_for shape vcpu i)) word waiting.waits in
            elim (tells step is key vcpu here.0 within (ap (λ (i : IrqRecord). i.holder) (sym word) ∙ waiting.home) (waiting_concerns shape vcpu (irq_of left) waits)) [
              | inl before ↦ so (word ∙ before.kept (ap (λ (i : IrqRecord). i.want) (sym word) ∙ waiting.unwanted) ∙ ap irq_of (is.takes.found ∙ ap (word_in shape state) here.0)) before.quiet
              | inr owed ↦
                  elim (owed.kick waits) [
                    | inl kick ↦ absurd (due.told (excused_now key waiting.there owed.changes kick))
                    | inr own ↦ absurd (other own)
                  ]
            ]

    pub due_before : (IsOwnRelease step actor vcpu → ⊥) → is_poll_by vcpu actor step ≡ false → IsUnkicked shape (later is) vcpu → (key : Key) → IsDue shape (later is) later_track vcpu key → DueSo key
    due_before other no_poll free key due = due_so other (unkicked_before is vcpu within no_poll free).1 key due
