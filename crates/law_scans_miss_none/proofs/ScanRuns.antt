-- Scans overlook no interrupt that is due, at any moment of any proper run.
use Rattle.std.proofs.Common.{◌≡◌, ◌≢◌, ℕ, ◌<◌, ◌≤◌, ◌/◌, ◌⊎◌, inl, inr, true, false, IsTrue, Contains, refl, sym, ap, ◌∙◌, subst}
use Rattle.law_registers_stand.specs.Words.{Key, GuestShape, IsShape}
use Rattle.law_registers_stand.specs.Histories.{Track}
use Rattle.law_registers_stand.specs.Core.{Local, Made, succeeds, is_cand, index_bit, CoreState, after, after_moment, Act, begins, makes, ends, entry_by, Progress, progressed, Scan, idle, taking, looking, claiming}
use Rattle.law_registers_stand.specs.CoreProper.Progress.{changed_by}
use Rattle.law_registers_stand.proofs.LawCoreIsHistory.StepContext.{IsStep}
use Rattle.law_registers_stand.specs.Followed.{Followed}
use Rattle.law_scans_miss_none.specs.Waiting.{IsDue}
use Rattle.law_registers_stand.specs.Asks.{IsUnkicked}
use Rattle.law_scans_miss_none.specs.Scan.{Covers, ScanOverlooksNone}
use Rattle.law_registers_stand.proofs.LawCoreIsHistory.AfterLemmas.{later}
use Rattle.law_scans_miss_none.proofs.CalmSteps.{no_poll_by}
use Rattle.law_scans_miss_none.proofs.Frame.{follow, IsAt, IsActing, is_part, excused_part, is_step, lasts, IsKeptBy, runs_keep}
use Rattle.law_registers_stand.proofs.LawCoreIsHistory.KickSteps.{unkicked_before}
use Rattle.law_scans_miss_none.proofs.WaitingSteps.{DueSo, due_before}
use Rattle.law_registers_stand.proofs.CoreProper.ScanLemmas.{failed_on}
use Rattle.law_scans_miss_none.proofs.ScanLemmas.{covers_on}
use Rattle.law_scans_miss_none.proofs.ScanSteps.{with_made, as_filled, leaves}

-- what a vCPU has still to find is so while it is not kicked, and no claim failed
abbrev Going : GuestShape → ℕ → CoreState → Followed → Progress → Type 0
Going shape vcpu state at p = IsUnkicked shape state vcpu → p.failed ≡ false → Covers shape state at.track vcpu p p.scan

-- the begin and the end of a part leave a scan as it is
covers_as :
    (shape : GuestShape) (state : CoreState) (track later_track : Track) (vcpu : ℕ) (p q : Progress) (scan : Scan) → q.local ≡ p.local → q.regs ≡ p.regs → q.trapping ≡ p.trapping
    → ((key : Key) → IsDue shape state later_track vcpu key → IsDue shape state track vcpu key) → Covers shape state track vcpu p scan → Covers shape state later_track vcpu q scan
covers_as shape state track later_track vcpu p q idle local regs trapping due c = tt
covers_as shape state track later_track vcpu p q (taking purpose words) local regs trapping due c = λ key is. subst (λ (l : Local). IsTrue (is_cand l.cands (index_bit shape key)) ⊎ (words ≤ index_bit shape key / 64)) (sym local) (c key (due key is))
covers_as shape state track later_track vcpu p q (looking purpose from offers) local regs trapping due c = λ key is. elim (c key (due key is)) [
  | inl ahead ↦ inl (record { cand = subst (λ (l : Local). IsTrue (is_cand l.cands (index_bit shape key))) (sym local) ahead.cand; ahead = ahead.ahead })
  | inr there ↦ inr there
]
covers_as shape state track later_track vcpu p q (claiming claims takes) local regs trapping due c = record {
  offers = c.offers;
  lrs = c.lrs;
  purpose = c.purpose;
  filled = as_filled shape vcpu p q c.offers c.lrs c.purpose regs trapping (ap (λ (l : Local). l.cpu) local) c.filled;
  covers = λ key is. c.covers key (due key is);
}

module _ (shape : GuestShape) (good : IsShape shape) (vcpu : ℕ) (within : vcpu < shape.vcpus) where
  -- a step of another actor
  others :
      (state : CoreState) (at : Followed) (progress : ℕ → Progress) (actor : ℕ) (made : Made) → actor ≢ vcpu → IsAt shape state at progress → IsActing shape state progress actor (makes made) → Going shape vcpu state at (progress vcpu)
      → Going shape vcpu (after shape state (entry_by actor made)) (follow shape state at (record { actor = actor; act = makes made })) (progress vcpu)
  others state at progress actor made apart here acts going free failed = of p.scan (going (unkicked_before is vcpu within (no_poll_by vcpu actor made.step apart) free).0 failed)
    where
      p : Progress
      p = progress vcpu

      is : IsStep shape state at.ideal actor made.step made.found made.left made.tables
      is = is_step shape good state at progress actor made here acts

      next : Followed
      next = follow shape state at (record { actor = actor; act = makes made })

      was : (key : Key) → IsDue shape (later is) next.track vcpu key → DueSo is vcpu within at.track next.track (lasts shape good state at progress actor made here acts) key
      was key due = due_before is vcpu within at.track next.track (lasts shape good state at progress actor made here acts) (λ own. apart own.1) (no_poll_by vcpu actor made.step apart) free key due

      of : (scan : Scan) → Covers shape state at.track vcpu p scan → Covers shape (later is) next.track vcpu p scan
      of idle c = tt
      of (taking purpose words) c = λ key due. c key (was key due).due
      of (looking purpose from offers) c = λ key due.
          let before = was key due in
          elim (c key before.due) [ inl ahead ↦ inl ahead | inr there ↦ inr (subst (Contains offers) (ap (λ irq. record { key = key; irq = irq }) (sym before.same)) there) ]
      of (claiming claims takes) c = record {
        offers = c.offers;
        lrs = c.lrs;
        purpose = c.purpose;
        filled = c.filled;
        covers = λ key due.
            let before = was key due in
            subst (Contains c.offers) (ap (λ irq. record { key = key; irq = irq }) (sym before.same)) (c.covers key before.due);
      }

  -- the begin or the end of a part
  parts :
      (state : CoreState) (at : Followed) (progress : ℕ → Progress) (actor : ℕ) (act : Act) → IsAt shape state at progress → IsActing shape state progress actor act → is_part act ≡ true → (q : Progress) → q.local ≡ (progress vcpu).local
      → q.regs ≡ (progress vcpu).regs → q.trapping ≡ (progress vcpu).trapping → q.failed ≡ (progress vcpu).failed → q.scan ≡ (progress vcpu).scan → Going shape vcpu state at (progress vcpu)
      → Going shape vcpu state (follow shape state at (record { actor = actor; act = act })) q
  parts state at progress actor act here acts e q local regs trapping failed scan going free none =
      subst (Covers shape state (follow shape state at (record { actor = actor; act = act })).track vcpu q) (sym scan)
      (covers_as shape state at.track (follow shape state at (record { actor = actor; act = act })).track vcpu (progress vcpu) q (progress vcpu).scan local regs trapping
      (λ key due. record { waiting = due.waiting; told = λ x. due.told (excused_part shape state at progress actor act here acts e vcpu key x) }) (going free (sym failed ∙ none)))

  kept : IsKeptBy shape vcpu (Going shape vcpu)
  kept = record { other = other; own = own }
    where
      other :
          (state : CoreState) (at : Followed) (progress : ℕ → Progress) (actor : ℕ) (act : Act) → actor ≢ vcpu → IsAt shape state at progress → IsActing shape state progress actor act → Going shape vcpu state at (progress vcpu)
          → Going shape vcpu (after_moment shape state (record { actor = actor; act = act })) (follow shape state at (record { actor = actor; act = act })) (progress vcpu)
      other state at progress actor (begins operation lrs) apart here acts going = parts state at progress actor (begins operation lrs) here acts refl (progress vcpu) refl refl refl refl refl going
      other state at progress actor (makes made) apart here acts going = others state at progress actor made apart here acts going
      other state at progress actor (ends answer) apart here acts going = parts state at progress actor (ends answer) here acts refl (progress vcpu) refl refl refl refl refl going

      own : (state : CoreState) (at : Followed) (progress : ℕ → Progress) (act : Act) → IsAt shape state at progress → IsActing shape state progress vcpu act → Going shape vcpu state at (progress vcpu)
          → Going shape vcpu (after_moment shape state (record { actor = vcpu; act = act })) (follow shape state at (record { actor = vcpu; act = act })) (progressed shape vcpu (progress vcpu) act)
      own state at progress (begins operation lrs) here acts going =
          parts state at progress vcpu (begins operation lrs) here acts refl (progressed shape vcpu (progress vcpu) (begins operation lrs)) refl refl refl refl refl going
      own state at progress (ends answer) here acts going =
          parts state at progress vcpu (ends answer) here acts refl (progressed shape vcpu (progress vcpu) (ends answer)) refl refl refl refl refl going
      own state at progress (makes made) here acts going = λ free failed.
          covers_on shape (later is) next.track vcpu good q
          (leaves within at.track next.track here.told (progress vcpu) (here.seats vcpu acts.there) made.step is (lasts shape good state at progress vcpu made here acts) acts.proper going free (sym (failed_on shape vcpu q) ∙ failed))
        where
          is : IsStep shape state at.ideal vcpu made.step made.found made.left made.tables
          is = is_step shape good state at progress vcpu made here acts

          next : Followed
          next = follow shape state at (record { actor = vcpu; act = makes made })

          q : Progress
          q = with_made shape vcpu made (progress vcpu) (changed_by shape vcpu made.step made.found (succeeds shape vcpu (progress vcpu).local made.step made.found) (progress vcpu))

pub scans_overlook_none : ScanOverlooksNone
scans_overlook_none guest number moments vcpu good proper within free failed =
    (runs_keep guest number vcpu (Going guest.shape vcpu) good (kept guest.shape good.sound.shape vcpu within) (λ free failed. tt) moments proper).keeps free failed
