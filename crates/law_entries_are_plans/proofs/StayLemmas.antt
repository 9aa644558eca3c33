-- What was so before a step of a vCPU that is no look for a kick, and what is so after each step of a call that ends nothing.
use Rattle.std.proofs.Common.{◌≡◌, ℕ, ◌==◌, ◌&&◌, ◌||◌, true≢false, not, Bool, true, false, IsTrue, Some, None, unwrap_or, if◌then◌else◌, refl, sym, ap, ◌∙◌, subst}
use Rattle.std.proofs.lemmas.Bool.{and_parts}
use Rattle.law_serial_is_eager.specs.Words.{Key, GuestShape, is_number, irq_of}
use Rattle.law_serial_is_eager.specs.Core.{CoreStep, Look, Claim, Poll, Kick, TakeIndex, Irq, Vcpu, Queue, Ctlr, Plain, Index, Line, vcpu_of, Progress, after_claim, after_poll, begun, is_end_of, IsProperStep, is_empty, Scan, idle, taking, looking, claiming, is_idle, scan_allows}
use Rattle.law_serial_is_eager.specs.CoreProper.Progress.{changed_by}
use Rattle.law_serial_is_eager.proofs.LawCoreIsHistory.KickSteps.{is_kick_of, is_poll}

left_false : (a b : Bool) → (a || b) ≡ false → a ≡ false
left_false true b h = absurd (true≢false h)
left_false false b h = refl

module _ (shape : GuestShape) (vcpu found : ℕ) (done : Bool) (p : Progress) where
  -- a claim or take that failed is over only with a kick of the vCPU itself
  pub failed_before : (step : CoreStep) → is_poll step ≡ false → is_kick_of vcpu step ≡ false → (changed_by shape vcpu step found done p).failed ≡ false → p.failed ≡ false
  failed_before (Claim k seen) no_poll no_kick h = of p.scan h
    where
      of : (scan : Scan) → (after_claim k (irq_of found) done scan p).failed ≡ false → p.failed ≡ false
      of idle h = left_false p.failed (not done) h
      of (taking purpose words) h = left_false p.failed (not done) h
      of (looking purpose from offers) h = left_false p.failed (not done) h
      of (claiming claims takes) h = left_false p.failed (not done) h
  failed_before (Kick other) no_poll no_kick h = of p.failed refl
    where
      of : (b : Bool) → p.failed ≡ b → b ≡ false
      of false e = refl
      of true e = sym (ap (λ a. a && not (other == vcpu)) e ∙ ap not no_kick) ∙ h
  failed_before (Look (Irq k)) no_poll no_kick h = h
  failed_before (Look (Vcpu v)) no_poll no_kick h = h
  failed_before (Look Queue) no_poll no_kick h = h
  failed_before (Look Ctlr) no_poll no_kick h = h
  failed_before (Look (Plain i)) no_poll no_kick h = h
  failed_before (Look (Index v n)) no_poll no_kick h = h
  failed_before (Look (Line n)) no_poll no_kick h = h
  failed_before (Poll reg write) no_poll no_kick h = absurd (true≢false no_poll)
  failed_before step no_poll no_kick h = h

  -- a scan of trap mode stays begun
  pub untrapped_before : (step : CoreStep) → is_poll step ≡ false → (changed_by shape vcpu step found done p).scanned ≡ false → p.scanned ≡ false
  untrapped_before (TakeIndex w) no_poll h = left_false p.scanned (is_idle p.scan) h
  untrapped_before (Claim k seen) no_poll h = of p.scan h
    where
      of : (scan : Scan) → (after_claim k (irq_of found) done scan p).scanned ≡ false → p.scanned ≡ false
      of idle h = h
      of (taking purpose words) h = h
      of (looking purpose from offers) h = h
      of (claiming claims takes) h = h
  untrapped_before (Look (Irq k)) no_poll h = h
  untrapped_before (Look (Vcpu v)) no_poll h = h
  untrapped_before (Look Queue) no_poll h = h
  untrapped_before (Look Ctlr) no_poll h = h
  untrapped_before (Look (Plain i)) no_poll h = h
  untrapped_before (Look (Index v n)) no_poll h = h
  untrapped_before (Look (Line n)) no_poll h = h
  untrapped_before (Poll reg write) no_poll h = absurd (true≢false no_poll)
  untrapped_before step no_poll h = h

  -- a call that ends no interrupt looks at none to end it
  pub far_stays : (step : CoreStep) → IsProperStep shape vcpu p step → ((key : Key) → is_end_of shape vcpu p.operation key ≡ false) → p.far ≡ None → (changed_by shape vcpu step found done p).far ≡ None
  far_stays (Look (Irq k)) proper no_end none = ap (λ b. if b then Some (is_number vcpu (irq_of found).act_by) else p.far) (no_end k) ∙ none
  far_stays (Claim k seen) proper no_end none = of p.scan refl
    where
      allowed : (scan : Scan) → p.scan ≡ scan → IsTrue (scan_allows shape vcpu p.local scan (Claim k seen))
      allowed scan e = subst (λ s. IsTrue (scan_allows shape vcpu p.local s (Claim k seen))) e proper.scan

      never : (a b c : Bool) → b ≡ false → IsTrue (a && b && c) → ⊥
      never a b c e h = true≢false (sym (and_parts a b (and_parts (a && b) c h).0).1 ∙ e)

      of : (scan : Scan) → p.scan ≡ scan → (after_claim k (irq_of found) done scan p).far ≡ None
      of (claiming claims takes) e = none
      of (taking purpose words) e = absurd (true≢false (sym (allowed (taking purpose words) e)))
      of (looking purpose from offers) e = absurd (true≢false (sym (allowed (looking purpose from offers) e)))
      of idle e =
          absurd (never (unwrap_or p.far false) (is_end_of shape vcpu p.operation k) (is_empty p.local.at) (no_end k) (subst (λ s. IsTrue (not (is_idle s) || (unwrap_or p.far false && is_end_of shape vcpu p.operation k && is_empty p.local.at))) e proper.far))
  far_stays (Poll None write) proper no_end none = of (unwrap_or p.far false)
    where
      of : (b : Bool) → (begun b p).far ≡ None
      of true = none
      of false = refl
  far_stays (Poll (Some reg) write) proper no_end none = of (vcpu_of found).kick
    where
      of : (b : Bool) → (after_poll (Some reg) write b p).far ≡ None
      of true = refl
      of false = refl
  far_stays (Look (Vcpu v)) proper no_end none = none
  far_stays (Look Queue) proper no_end none = none
  far_stays (Look Ctlr) proper no_end none = none
  far_stays (Look (Plain i)) proper no_end none = none
  far_stays (Look (Index v n)) proper no_end none = none
  far_stays (Look (Line n)) proper no_end none = none
  far_stays step proper no_end none = none
