-- What an access leaves of what a vCPU's registers leave out, and any step of its own, before its scan goes on.
use Rattle.std.proofs.Common.{◌≡◌, ℕ, ◌<◌, ◌==◌, ◌||◌, true≢false, not, Bool, true, false, IsTrue, [], ◌∷◌, ◌++◌, map, Option, Some, None, unwrap_or, if◌then◌else◌, refl, sym, ap, ◌∙◌, subst}
use Rattle.std.proofs.lemmas.Bool.{not-false, not-true, or_parts}
use Rattle.law_registers_stand.specs.Words.{IccReg, Key, GuestShape, irq_of}
use Rattle.law_registers_stand.specs.Histories.{Track, Ideal}
use Rattle.law_registers_stand.specs.Lists.{IchRegs, misr_of, registers_after}
use Rattle.law_registers_stand.specs.Registers.{Maps}
use Rattle.law_registers_stand.specs.Core.{Local, Folding, CoreStep, Look, Claim, Poll, Kick, Mark, TakeIndex, Irq, local_after, accessed, claimed, shown, is_ready, succeeds, vcpu_of, CoreState, seat_at, IsLocal, IsSeatOf, Progress, Debt, paid, before_next, after_claim, after_icc, after_poll, begun, claim_left, is_paid, is_to_scan, owing_after, IsProperStep, RegistersAgree, after_operation, planned, Scan, idle, taking, looking, claiming, is_idle, scan_allows, scan_looked, word_taken}
use Rattle.law_registers_stand.specs.CoreProper.Progress.{changed_by}
use Rattle.law_registers_stand.proofs.LawCoreIsHistory.AfterLemmas.{later}
use Rattle.law_registers_stand.proofs.LawCoreIsHistory.CpuLemmas.{same_lpis}
use Rattle.law_registers_stand.proofs.LawCoreIsHistory.KickSteps.{is_poll, unkicked_before}
use Rattle.law_registers_stand.specs.Asks.{IsMirrored, IsUnkicked}
use Rattle.law_registers_stand.proofs.LawCoreIsHistory.StepContext.{one, IsStep}
use Rattle.law_registers_stand.proofs.AskLemmas.{Asks, mirrors_after}
use Rattle.law_registers_stand.proofs.AskSteps.{quiet_after}
use Rattle.law_registers_stand.proofs.MisrLemmas.{holds_groups, groups_kept}
use Rattle.law_registers_stand.proofs.StandLemmas.{Standing}
use Rattle.law_registers_stand.proofs.StandSteps.{paid_before}
use Rattle.law_scans_miss_none.proofs.CalmSteps.{takes_index, kick_failed}
use Rattle.law_scans_miss_none.proofs.FirstLemmas.{unlisted}
use Rattle.law_scans_miss_none.proofs.IndexSteps.{either_way}
use Rattle.law_scans_miss_none.proofs.LeftLemmas.{IsBounded}
use Rattle.law_scans_miss_none.proofs.LeftMade.{LeavesIf, quiet_leaves, claiming_leaves}
use Rattle.law_scans_miss_none.proofs.LeftRuns.{Leaves, BeganWith, began_like}
use Rattle.law_scans_miss_none.proofs.LeftSteps.{DueBefore, bounded_access}
use Rattle.law_scans_miss_none.proofs.ScanSteps.{with_made, only_idle, is_scan_step, still_claiming}
use Rattle.law_scans_miss_none.proofs.ToldLemmas.{Lasts}
use Rattle.law_scans_miss_none.proofs.WaitingSteps.{last_in, due_so}

-- an access after which no scan is owed is one out of trap mode
untrapped : (regs : IchRegs) (trapping : Bool) (debt : Debt) → IsTrue (is_paid (if is_to_scan regs trapping debt then before_next else paid)) → trapping ≡ false
untrapped regs trapping debt h = of (not (misr_of regs == 0)) trapping debt h
  where
    of : (a b : Bool) (debt : Debt) → IsTrue (is_paid (if a || b || not (is_paid debt) then before_next else paid)) → b ≡ false
    of true b debt h = absurd (cc)
    of false true debt h = absurd (cc)
    of false false debt h = refl

-- how far a vCPU is after a step, before its scan goes on
abbrev pub Now : GuestShape → ℕ → ℕ → ℕ → Option Maps → Progress → CoreStep → Progress
Now shape vcpu found left tables p step = with_made shape vcpu (one vcpu step found left tables).made p (changed_by shape vcpu step found (succeeds shape vcpu p.local step found) p)

module _ {shape : GuestShape} {state : CoreState} {ideal : Ideal} {vcpu found left : ℕ} {tables : Option Maps} (within : vcpu < shape.vcpus) (track later_track : Track) (p : Progress) (seat : IsSeatOf p (seat_at state vcpu)) where
  access_leaves :
      (reg : IccReg) (write : Option ℕ) (is : IsStep shape state ideal vcpu (Poll (Some reg) write) found left tables) → IsProperStep shape vcpu p (Poll (Some reg) write) → Lasts is (last_in shape track) (last_in shape later_track) → (vcpu_of found).kick ≡ false → p.scan ≡ idle
      → Standing false shape vcpu p p.scan → Asks shape state vcpu p p.scan → IsLocal shape vcpu (accessed reg write p.local) → (IsTrue (is_paid (after_icc reg write p).debt) → RegistersAgree (after_icc reg write p).regs (accessed reg write p.local)) → LeavesIf shape state track vcpu p
      → IsTrue (is_paid (after_icc reg write p).debt) → IsBounded shape (later is) later_track vcpu p.trapping (after_icc reg write p).regs (accessed reg write p.local).cpu
  access_leaves reg write is proper lasted free e stands asks after_local after_agrees before owed =
      let regs = after_operation p.trapping reg write p.regs in
      let plain : p.trapping ≡ false = untrapped regs p.trapping p.debt owed in
      let settled : IsTrue (is_paid p.debt) = paid_before regs p.trapping p.debt owed in
      let ready : IsTrue (is_ready p.local.phase) = subst (λ (l : Local). IsTrue (is_ready l.phase)) (sym seat.local) is.takes.meets in
      let agrees : RegistersAgree p.regs p.local = subst (Standing false shape vcpu p) e stands ready settled in
      let after = after_agrees owed in
      let mirrored = (subst (Asks shape state vcpu p) e asks ready plain settled).0 in
      let regs_are : regs ≡ registers_after reg write p.regs = ap (λ b. after_operation b reg write p.regs) plain in
      let groups = holds_groups regs (accessed reg write p.local).cpu after_local.points after.holds in
      let same = groups_kept regs after.holds.enabled (quiet_after regs p.trapping p.debt owed) p.local.cpu (accessed reg write p.local).cpu
      (subst (λ (r : IchRegs). IsMirrored r.hcr p.local.cpu) (sym regs_are) (mirrors_after reg write p.regs p.local.cpu mirrored)) groups.0 groups.1 in
      let unkicked : IsUnkicked shape state vcpu = ap (λ n. (vcpu_of n).kick) (sym is.takes.found) ∙ free in
      let was = subst (Leaves shape state track vcpu p) e (before unkicked (not-true p.failed proper.failed) settled (ap (λ b. not b || p.scanned) plain)) ready in
      let due : DueBefore shape state track (later is) later_track vcpu = λ key d. let so = due_so is vcpu within track later_track lasted (λ own. true≢false (sym own.0)) refl key d in (so.due, so.same) in
      subst (λ t. IsBounded shape (later is) later_track vcpu t regs (accessed reg write p.local).cpu) (sym plain)
      (subst (λ r. IsBounded shape (later is) later_track vcpu false r (accessed reg write p.local).cpu) (sym regs_are)
      (bounded_access shape state (later is) track later_track vcpu reg write p.regs p.local.cpu (accessed reg write p.local).cpu same.0 same.1 (same_lpis p.local.cpu p.local.cpu (record { same = refl; lpis = λ h. h }) reg write (map shown p.local.at))
      (unlisted shape state track vcpu p.local p.regs is.good is.sound is.takes.actor seat.local agrees) due
      (subst (λ t. IsBounded shape state track vcpu t p.regs p.local.cpu) plain was)))

  -- Any step of its own.

  module _ (stands : Standing false shape vcpu p p.scan) (asks : Asks shape state vcpu p p.scan) (before : LeavesIf shape state track vcpu p) where
    by_quiet :
        (step : CoreStep) (is : IsStep shape state ideal vcpu step found left tables) → IsProperStep shape vcpu p step → Lasts is (last_in shape track) (last_in shape later_track) → is_scan_step step ≡ false → is_poll step ≡ false
        → (Now shape vcpu found left tables p step).scan ≡ p.scan → (Now shape vcpu found left tables p step).regs ≡ p.regs → (Now shape vcpu found left tables p step).trapping ≡ p.trapping → (Now shape vcpu found left tables p step).debt ≡ p.debt
        → (Now shape vcpu found left tables p step).failed ≡ p.failed → (Now shape vcpu found left tables p step).scanned ≡ p.scanned → LeavesIf shape (later is) later_track vcpu (Now shape vcpu found left tables p step)
    by_quiet step is proper lasted quiet no_poll scan regs trapping debt failed scanned =
        quiet_leaves within track later_track p seat step is (Now shape vcpu found left tables p step) lasted (no_take step quiet) no_poll (only_idle shape vcpu p.local step quiet p.scan proper.scan) scan regs trapping debt (λ h. sym failed ∙ h) scanned refl before
      where
        no_take : (step : CoreStep) → is_scan_step step ≡ false → takes_index step ≡ false
        no_take (TakeIndex w) quiet = absurd (true≢false quiet)
        no_take step quiet = refl

    look_leaves : (k : Key) (is : IsStep shape state ideal vcpu (Look (Irq k)) found left tables) → IsProperStep shape vcpu p (Look (Irq k)) → Lasts is (last_in shape track) (last_in shape later_track) → LeavesIf shape (later is) later_track vcpu (Now shape vcpu found left tables p (Look (Irq k)))
    look_leaves k is proper lasted = of p.scan refl proper.scan
      where
        q : Progress
        q = Now shape vcpu found left tables p (Look (Irq k))

        of : (scan : Scan) → p.scan ≡ scan → IsTrue (scan_allows shape vcpu p.local scan (Look (Irq k))) → LeavesIf shape (later is) later_track vcpu q
        of idle e allowed = quiet_leaves within track later_track p seat (Look (Irq k)) is q lasted refl refl e (ap (scan_looked shape k (irq_of found)) e ∙ sym e) refl refl refl (λ h. h) refl refl before
        of (looking purpose from offers) e allowed = λ free none owed asked. subst (Leaves shape (later is) later_track vcpu q) (sym (ap (scan_looked shape k (irq_of found)) e)) tt
        of scan e allowed = absurd (true≢false (sym allowed))

    take_leaves : (w : ℕ) (is : IsStep shape state ideal vcpu (TakeIndex w) found left tables) → IsProperStep shape vcpu p (TakeIndex w) → LeavesIf shape (later is) later_track vcpu (Now shape vcpu found left tables p (TakeIndex w))
    take_leaves w is proper = of p.scan refl proper.scan
      where
        q : Progress
        q = Now shape vcpu found left tables p (TakeIndex w)

        of : (scan : Scan) → p.scan ≡ scan → IsTrue (scan_allows shape vcpu p.local scan (TakeIndex w)) → LeavesIf shape (later is) later_track vcpu q
        of idle e allowed = λ free none owed asked. subst (Leaves shape (later is) later_track vcpu q) (sym (ap word_taken e)) tt
        of (taking purpose words) e allowed = λ free none owed asked. subst (Leaves shape (later is) later_track vcpu q) (sym (ap word_taken e)) tt
        of scan e allowed = absurd (true≢false (sym allowed))

    kick_leaves : (other : ℕ) (is : IsStep shape state ideal vcpu (Kick other) found left tables) → Lasts is (last_in shape track) (last_in shape later_track) → LeavesIf shape (later is) later_track vcpu (Now shape vcpu found left tables p (Kick other))
    kick_leaves other is lasted = λ free none owed asked. of p.scan refl free none owed asked
      where
        q : Progress
        q = Now shape vcpu found left tables p (Kick other)

        failed_before : IsUnkicked shape (later is) vcpu → q.failed ≡ false → p.failed ≡ false
        failed_before free none = kick_failed p.failed other vcpu ((unkicked_before is vcpu within refl free).1) none

        of : (scan : Scan) → p.scan ≡ scan → LeavesIf shape (later is) later_track vcpu q
        of idle e = λ free none. quiet_leaves within track later_track p seat (Kick other) is q lasted refl refl e refl refl refl refl (λ h. failed_before free h) refl refl before free none
        of (claiming claims takes) e = λ free none.
            claiming_leaves within track later_track p seat (Kick other) is q claims takes claims takes lasted (λ own. true≢false (sym own)) refl e e refl refl refl (λ h. failed_before free h) refl refl before free none
        of scan e = λ free none owed asked. subst (Leaves shape (later is) later_track vcpu q) (sym e) tt

    mark_leaves : (k : Key) (v : ℕ) (is : IsStep shape state ideal vcpu (Mark k v) found left tables) → IsProperStep shape vcpu p (Mark k v) → Lasts is (last_in shape track) (last_in shape later_track) → LeavesIf shape (later is) later_track vcpu (Now shape vcpu found left tables p (Mark k v))
    mark_leaves k v is proper lasted = of p.scan refl proper.scan
      where
        q : Progress
        q = Now shape vcpu found left tables p (Mark k v)

        of : (scan : Scan) → p.scan ≡ scan → IsTrue (scan_allows shape vcpu p.local scan (Mark k v)) → LeavesIf shape (later is) later_track vcpu q
        of idle e allowed = quiet_leaves within track later_track p seat (Mark k v) is q lasted refl refl e refl refl refl refl (λ h. h) refl refl before
        of (claiming [] []) e allowed = claiming_leaves within track later_track p seat (Mark k v) is q [] [] [] [] lasted (λ own. true≢false (sym own)) refl e e refl refl refl (λ h. h) refl refl before
        of scan e allowed = absurd (true≢false (sym allowed))

    claim_leaves : (k : Key) (seen : ℕ) (is : IsStep shape state ideal vcpu (Claim k seen) found left tables) → IsProperStep shape vcpu p (Claim k seen) → Lasts is (last_in shape track) (last_in shape later_track) → LeavesIf shape (later is) later_track vcpu (Now shape vcpu found left tables p (Claim k seen))
    claim_leaves k seen is proper lasted = of p.scan refl proper.scan
      where
        done : Bool
        done = succeeds shape vcpu p.local (Claim k seen) found

        q : Progress
        q = Now shape vcpu found left tables p (Claim k seen)

        after : Scan → Progress
        after scan = with_made shape vcpu (one vcpu (Claim k seen) found left tables).made p (after_claim k (irq_of found) done scan p)

        cpu : (local_after shape vcpu p.local (Claim k seen) found).cpu ≡ p.local.cpu
        cpu = either_way (λ (l : Local). l.cpu) done (claimed shape vcpu k found p.local) p.local refl

        unpaid : (debt : Debt) → IsTrue (is_paid (owing_after debt)) → ⊥
        unpaid before_next h = true≢false (sym h)
        unpaid debt h = true≢false (sym h)

        of : (scan : Scan) → p.scan ≡ scan → IsTrue (scan_allows shape vcpu p.local scan (Claim k seen)) → LeavesIf shape (later is) later_track vcpu q
        of idle e allowed = λ free none owed asked. absurd (unpaid p.debt (subst (λ (r : Progress). IsTrue (is_paid r.debt)) (ap after e) owed))
        of (claiming claims takes) e allowed = λ free none.
            let same : q ≡ after (claiming claims takes) = ap after e in
            let failed : (p.failed || not done) ≡ false = sym (ap (λ (r : Progress). r.failed) same) ∙ none in
            let tries = still_claiming k done claims takes in
            claiming_leaves within track later_track p seat (Claim k seen) is q claims takes tries.claims tries.takes lasted (λ own. true≢false (sym own)) refl e (ap (λ (r : Progress). r.scan) same ∙ tries.is)
            (ap (λ (r : Progress). r.regs) same ∙ ap (λ b. claim_left k b claims p.regs) (not-false done (or_parts p.failed (not done) failed).1)) (ap (λ (r : Progress). r.trapping) same) (ap (λ (r : Progress). r.debt) same)
            (λ h. (or_parts p.failed (not done) failed).0) (ap (λ (r : Progress). r.scanned) same) cpu before free none
        of scan e allowed = absurd (true≢false (sym allowed))

    poll_leaves :
        (reg : Option IccReg) (write : Option ℕ) (is : IsStep shape state ideal vcpu (Poll reg write) found left tables) → IsProperStep shape vcpu p (Poll reg write) → Lasts is (last_in shape track) (last_in shape later_track)
        → IsLocal shape vcpu (Now shape vcpu found left tables p (Poll reg write)).local → Standing false shape vcpu (Now shape vcpu found left tables p (Poll reg write)) (Now shape vcpu found left tables p (Poll reg write)).scan
        → LeavesIf shape (later is) later_track vcpu (Now shape vcpu found left tables p (Poll reg write))
    poll_leaves None write is proper lasted after_local after_stands = of (unwrap_or p.far false)
      where
        of : (b : Bool) → LeavesIf shape (later is) later_track vcpu (with_made shape vcpu (one vcpu (Poll None write) found left tables).made p (begun b p))
        of true = λ free none owed asked. tt
        of false = λ free none owed asked. tt
    poll_leaves (Some reg) write is proper lasted after_local after_stands = of (vcpu_of found).kick refl after_local after_stands
      where
        e : p.scan ≡ idle
        e = only_idle shape vcpu p.local (Poll (Some reg) write) refl p.scan proper.scan

        -- with and without a kick
        q : Bool → Progress
        q b = record (after_poll (Some reg) write b p) { local = if b then record p.local { phase = Folding } else accessed reg write p.local; own = p.own ++ (one vcpu (Poll (Some reg) write) found left tables).made ∷ [] }

        of : (b : Bool) → (vcpu_of found).kick ≡ b → IsLocal shape vcpu (q b).local → Standing false shape vcpu (q b) (q b).scan → LeavesIf shape (later is) later_track vcpu (q b)
        of true kicked after_local after_stands = λ free none owed asked. subst (Leaves shape (later is) later_track vcpu (q true)) (sym e) (λ ready. absurd (true≢false (sym ready)))
        of false free after_local after_stands = λ unkicked none owed asked.
            subst (Leaves shape (later is) later_track vcpu (q false)) (sym e)
            (λ ready. access_leaves reg write is proper lasted free e stands asks after_local (λ owed. subst (Standing false shape vcpu (q false)) e after_stands refl owed) before owed)

    pub made_leaves :
        (step : CoreStep) (is : IsStep shape state ideal vcpu step found left tables) → IsProperStep shape vcpu p step → Lasts is (last_in shape track) (last_in shape later_track) → IsLocal shape vcpu (Now shape vcpu found left tables p step).local
        → Standing false shape vcpu (Now shape vcpu found left tables p step) (Now shape vcpu found left tables p step).scan → LeavesIf shape (later is) later_track vcpu (Now shape vcpu found left tables p step)
    made_leaves (Look (Irq k)) is proper lasted after_local after_stands = look_leaves k is proper lasted
    made_leaves (Claim k seen) is proper lasted after_local after_stands = claim_leaves k seen is proper lasted
    made_leaves (Kick other) is proper lasted after_local after_stands = kick_leaves other is lasted
    made_leaves (Mark k v) is proper lasted after_local after_stands = mark_leaves k v is proper lasted
    made_leaves (TakeIndex w) is proper lasted after_local after_stands = take_leaves w is proper
    made_leaves (Poll reg write) is proper lasted after_local after_stands = poll_leaves reg write is proper lasted after_local after_stands
    made_leaves step is proper lasted after_local after_stands = by_quiet step is proper lasted refl refl refl refl refl refl refl refl

-- A scan by the plan that is in progress began with the last look for a kick.

module _ (shape : GuestShape) (vcpu found left : ℕ) (tables : Option Maps) (p : Progress) (before : BeganWith p p.scan) where
  began_idle : (q : Progress) → q.scan ≡ idle → BeganWith q q.scan
  began_idle q e = subst (BeganWith q) (sym e) tt

  began_as : (q : Progress) → q.scan ≡ p.scan → q.scanned ≡ p.scanned → BeganWith q q.scan
  began_as q scan scanned = subst (BeganWith q) (sym scan) (began_like p q p.scan scanned before)

  pub made_began : (step : CoreStep) → IsProperStep shape vcpu p step → let q = Now shape vcpu found left tables p step in BeganWith q q.scan
  made_began (Look (Irq k)) proper = of p.scan refl before
    where
      q : Progress
      q = Now shape vcpu found left tables p (Look (Irq k))

      of : (s : Scan) → p.scan ≡ s → BeganWith p s → BeganWith q q.scan
      of (taking planned words) e h = subst (BeganWith q) (sym (ap (scan_looked shape k (irq_of found)) e)) h
      of (looking planned from offers) e h = subst (BeganWith q) (sym (ap (scan_looked shape k (irq_of found)) e)) h
      of s e h = subst (BeganWith q) (sym (ap (scan_looked shape k (irq_of found)) e)) tt
  made_began (TakeIndex w) proper = of p.scan refl before
    where
      q : Progress
      q = Now shape vcpu found left tables p (TakeIndex w)

      of : (s : Scan) → p.scan ≡ s → BeganWith p s → BeganWith q q.scan
      of (taking planned words) e h = subst (BeganWith q) (sym (ap word_taken e)) (ap (λ s. p.scanned || is_idle s) e ∙ ap (λ b. b || false) h)
      of (looking planned from offers) e h = subst (BeganWith q) (sym (ap word_taken e)) (ap (λ s. p.scanned || is_idle s) e ∙ ap (λ b. b || false) h)
      of s e h = subst (BeganWith q) (sym (ap word_taken e)) tt
  made_began (Claim k seen) proper = of p.scan refl proper.scan
    where
      done : Bool
      done = succeeds shape vcpu p.local (Claim k seen) found

      after : Scan → Progress
      after scan = with_made shape vcpu (one vcpu (Claim k seen) found left tables).made p (after_claim k (irq_of found) done scan p)

      of : (s : Scan) → p.scan ≡ s → IsTrue (scan_allows shape vcpu p.local s (Claim k seen)) → let q = after p.scan in BeganWith q q.scan
      of idle e allowed = subst (λ s. BeganWith (after s) (after s).scan) (sym e) (began_idle (after idle) e)
      of (claiming claims takes) e allowed = subst (λ s. BeganWith (after s) (after s).scan) (sym e) (subst (BeganWith (after (claiming claims takes))) (sym (still_claiming k done claims takes).is) tt)
      of s e allowed = absurd (true≢false (sym allowed))
  made_began (Poll None write) proper = of (unwrap_or p.far false)
    where
      of : (b : Bool) → let q = with_made shape vcpu (one vcpu (Poll None write) found left tables).made p (begun b p) in BeganWith q q.scan
      of true = tt
      of false = refl
  made_began (Poll (Some reg) write) proper = of (vcpu_of found).kick
    where
      e : p.scan ≡ idle
      e = only_idle shape vcpu p.local (Poll (Some reg) write) refl p.scan proper.scan

      of : (b : Bool) → let q = with_made shape vcpu (one vcpu (Poll (Some reg) write) found left tables).made p (after_poll (Some reg) write b p) in BeganWith q q.scan
      of true = began_idle (with_made shape vcpu (one vcpu (Poll (Some reg) write) found left tables).made p (after_poll (Some reg) write true p)) e
      of false = began_idle (with_made shape vcpu (one vcpu (Poll (Some reg) write) found left tables).made p (after_poll (Some reg) write false p)) e
  made_began step proper = began_as (Now shape vcpu found left tables p step) refl refl
