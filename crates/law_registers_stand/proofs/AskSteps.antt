-- A vCPU's own steps keep what its registers ask for.
use Rattle.std.proofs.Common.{◌≡◌, ℕ, ◌<◌, ◌==◌, ◌&&◌, ◌||◌, true≢false, not, Bool, true, false, IsTrue, List, [], ◌∷◌, ◌++◌, Option, Some, None, unwrap_or, if◌then◌else◌, refl, sym, ap, subst, ◌∙◌}
use Rattle.std.proofs.lemmas.Bool.{and_parts, eqb-true}
use Rattle.law_core_is_history.specs.Words.{IccReg, Key, GuestShape, irq_of}
use Rattle.law_core_is_history.specs.Histories.{Ideal}
use Rattle.law_core_is_history.specs.Lists.{IchRegs, misr_of, Active, with_state, Offer}
use Rattle.law_core_is_history.specs.Registers.{CpuRec, HasBinaryPoints, Maps}
use Rattle.law_core_is_history.specs.Calls.{touched as touched_of}
use Rattle.law_core_is_history.specs.Core.{Local, Folding, Made, CoreStep, Look, Raise, Claim, GiveBack, Release, Poll, Kick, Touch, Want, WireUp, WireDown, EnableLpis, RamLook, RamPut, CtlrTake, CtlrEnd, TurnTake, CommandDone, TurnRelease, Mark, TakeIndex, LineEnter, LineLeave, LineFill, LineClose, Irq, Vcpu, Queue, Ctlr, Plain, Index, Line, accessed, claimed, concerned_by, local_after, is_ready, succeeds, vcpu_of, owing_both, CoreState, seat_at, IsLocal, IsSeatOf, Progress, Debt, paid, before_next, after_claim, after_icc, after_poll, begun, claim_left, is_paid, is_to_scan, IsProperStep, is_empty, after_operation, without_claim, without_take, Purpose, planned, trapped, bare, Scan, idle, taking, looking, claiming, has_key, is_idle, scan_allows, scan_looked, word_taken}
use Rattle.law_core_is_history.proofs.AfterLemmas.{later}
use Rattle.law_core_is_history.proofs.KickSteps.{is_kick_of, is_poll_by, unkicked_before}
use Rattle.law_core_is_history.proofs.LineSteps.{line_part}
use Rattle.law_core_is_history.proofs.StepContext.{one, IsStep}
use Rattle.law_registers_stand.specs.Asks.{IsMirrored, HasAll}
use Rattle.law_registers_stand.proofs.AskLemmas.{Asking, Asks, IsMeant, asking_as, changed_hcr, mirrors_after}
use Rattle.law_registers_stand.proofs.MisrLemmas.{groups_kept, holds_groups}
use Rattle.law_registers_stand.proofs.StandLemmas.{Standing}
use Rattle.law_registers_stand.proofs.StandSteps.{access_agrees, after_made, either, look_part, paid_before, unpaid_end}

-- no maintenance interrupt is asserted after an access with which no scan is owed
pub quiet_after : (regs : IchRegs) (trapping : Bool) (debt : Debt) → IsTrue (is_paid (if is_to_scan regs trapping debt then before_next else paid)) → misr_of regs ≡ 0
quiet_after regs trapping debt h = eqb-true (misr_of regs) 0 (of (misr_of regs == 0) trapping (is_paid debt) h)
  where
    of : (a b c : Bool) → IsTrue (is_paid (if not a || b || not c then before_next else paid)) → a ≡ true
    of true b c h = refl
    of false b c h = absurd (cc)

-- the same enables are mirrored alike
mirrors_same : (hcr : ℕ) (cpu after : CpuRec) → after.en0 ≡ cpu.en0 → after.en1 ≡ cpu.en1 → IsMirrored hcr cpu → IsMirrored hcr after
mirrors_same hcr cpu after en0 en1 mirrored = record {
  enabled0 = mirrored.enabled0 ∙ ap not (sym en0);
  disabled0 = mirrored.disabled0 ∙ sym en0;
  enabled1 = mirrored.enabled1 ∙ ap not (sym en1);
  disabled1 = mirrored.disabled1 ∙ sym en1;
}

module _ (shape : GuestShape) (state : CoreState) (ideal : Ideal) (vcpu found left : ℕ) (tables : Option Maps) (within : vcpu < shape.vcpus) (p : Progress) (seat : IsSeatOf p (seat_at state vcpu)) (is_local : IsLocal shape vcpu p.local) (stands : Standing false shape vcpu p p.scan) where
  abbrev made_by : CoreStep → Made
  made_by step = (one vcpu step found left tables).made

  abbrev now : CoreStep → Progress
  now step = after_made shape vcpu (made_by step) p

  -- What has been so before a step.

  -- it claimed all before a step that is neither a look for a kick nor a claim
  pub all_before : (step : CoreStep) (is : IsStep shape state ideal vcpu step found left tables) → is_poll_by vcpu vcpu step ≡ false → ((now step).failed ≡ false → is_kick_of vcpu step ≡ false → p.failed ≡ false) → HasAll shape (later is) vcpu (now step) → HasAll shape state vcpu p
  all_before step is poll failed all = let before = unkicked_before is vcpu within poll all.unkicked in record { none_failed = failed all.none_failed before.1; unkicked = before.0 }

  quiet_idle :
      (step : CoreStep) (is : IsStep shape state ideal vcpu step found left tables) → p.scan ≡ idle → Asks shape state vcpu p p.scan → is_poll_by vcpu vcpu step ≡ false → ((now step).failed ≡ false → is_kick_of vcpu step ≡ false → p.failed ≡ false) → (now step).scan ≡ p.scan → (now step).regs ≡ p.regs → (now step).local.cpu ≡ p.local.cpu
      → (now step).trapping ≡ p.trapping → (IsTrue (is_paid (now step).debt) → IsTrue (is_paid p.debt)) → (IsTrue (is_ready (now step).local.phase) → IsTrue (is_ready p.local.phase)) → Asks shape (later is) vcpu (now step) (now step).scan
  quiet_idle step is e asks poll failed same regs cpu trapping debt phase =
      subst (Asks shape (later is) vcpu (now step)) (sym (same ∙ e))
      (asking_as shape state (later is) vcpu (is_ready p.local.phase) (is_ready (now step).local.phase) p (now step) regs cpu trapping debt phase (all_before step is poll failed) (subst (Asks shape state vcpu p) e asks))

  pub kick_failed : (v : ℕ) → (p.failed && not (v == vcpu)) ≡ false → (v == vcpu) ≡ false → p.failed ≡ false
  kick_failed v e f = sym (and_true p.failed) ∙ sym (ap (λ b. p.failed && not b) f) ∙ e
    where
      and_true : (b : Bool) → (b && true) ≡ b
      and_true true = refl
      and_true false = refl

  -- With no scan in progress.

  -- an access
  access_asks : (reg : IccReg) (write : Option ℕ) (is : IsStep shape state ideal vcpu (Poll (Some reg) write) found left tables) → p.scan ≡ idle → HasBinaryPoints (accessed reg write p.local).cpu → Asks shape state vcpu p p.scan
      → let q = record (after_icc reg write p) { local = accessed reg write p.local; own = p.own ++ made_by (Poll (Some reg) write) ∷ [] } in Asking shape (later is) vcpu true q
  access_asks reg write is e points asks now_ready untrapped owed =
      let regs = after_operation p.trapping reg write p.regs in
      let before = paid_before regs p.trapping p.debt owed in
      let ready : IsTrue (is_ready p.local.phase) = subst (λ (l : Local). IsTrue (is_ready l.phase)) (sym seat.local) is.takes.meets in
      let was = subst (Asks shape state vcpu p) e asks ready untrapped before in
      let agrees = access_agrees shape vcpu p.trapping reg write p.regs p.local is.good is_local (subst (Standing false shape vcpu p) e stands ready before) in
      let misr = quiet_after regs p.trapping p.debt owed in
      let mirrored : IsMirrored regs.hcr p.local.cpu = subst (λ t. IsMirrored (after_operation t reg write p.regs).hcr p.local.cpu) (sym untrapped) (mirrors_after reg write p.regs p.local.cpu was.0) in
      let held = holds_groups regs (accessed reg write p.local).cpu points agrees.holds in
      let groups = groups_kept regs agrees.holds.enabled misr p.local.cpu (accessed reg write p.local).cpu mirrored held.0 held.1 in
      (mirrors_same regs.hcr p.local.cpu (accessed reg write p.local).cpu groups.0 groups.1 mirrored, λ all. misr)

  poll_asks : (reg : Option IccReg) (write : Option ℕ) (is : IsStep shape state ideal vcpu (Poll reg write) found left tables) → p.scan ≡ idle → HasBinaryPoints (now (Poll reg write)).local.cpu → Asks shape state vcpu p p.scan → Asks shape (later is) vcpu (now (Poll reg write)) (now (Poll reg write)).scan
  poll_asks None write is e points asks = of (unwrap_or p.far false)
    where
      of : (b : Bool) → let q = record (begun b p) { local = local_after shape vcpu p.local (Poll None write) found; own = p.own ++ made_by (Poll None write) ∷ [] } in Asks shape (later is) vcpu q q.scan
      of true = refl
      of false = tt
  poll_asks (Some reg) write is e points asks = of (vcpu_of found).kick points
    where
      of : (b : Bool) → HasBinaryPoints (if b then record p.local { phase = Folding } else accessed reg write p.local).cpu
          → let q = record (after_poll (Some reg) write b p) { local = if b then record p.local { phase = Folding } else accessed reg write p.local; own = p.own ++ made_by (Poll (Some reg) write) ∷ [] } in Asks shape (later is) vcpu q q.scan
      of true points =
          let q : Progress = record (after_poll (Some reg) write true p) { local = record p.local { phase = Folding }; own = p.own ++ made_by (Poll (Some reg) write) ∷ [] } in
          subst (Asks shape (later is) vcpu q) (sym e) (λ ready. absurd (true≢false (sym ready)))
      of false points = subst (Asks shape (later is) vcpu (record (after_poll (Some reg) write false p) { local = accessed reg write p.local; own = p.own ++ made_by (Poll (Some reg) write) ∷ [] })) (sym e) (access_asks reg write is e points asks)

  idle_asks : (step : CoreStep) (is : IsStep shape state ideal vcpu step found left tables) → p.scan ≡ idle → IsProperStep shape vcpu p step → HasBinaryPoints (now step).local.cpu → Asks shape state vcpu p p.scan → Asks shape (later is) vcpu (now step) (now step).scan
  idle_asks (Look (Irq key)) is e proper points asks =
      quiet_idle (Look (Irq key)) is e asks refl (λ f k. f) (ap (scan_looked shape key (irq_of found)) e ∙ sym e) refl (look_part shape vcpu found p.local (λ l. l.cpu) key (λ l c. refl)) refl (λ h. h) (subst (λ phase. IsTrue (is_ready phase)) (look_part shape vcpu found p.local (λ l. l.phase) key (λ l c. refl)))
  idle_asks (Look (Vcpu v)) is e proper points asks = quiet_idle (Look (Vcpu v)) is e asks refl (λ f k. f) refl refl refl refl (λ h. h) (λ h. h)
  idle_asks (Look Queue) is e proper points asks = quiet_idle (Look Queue) is e asks refl (λ f k. f) refl refl refl refl (λ h. h) (λ h. h)
  idle_asks (Look Ctlr) is e proper points asks = quiet_idle (Look Ctlr) is e asks refl (λ f k. f) refl refl refl refl (λ h. h) (λ h. h)
  idle_asks (Look (Plain i)) is e proper points asks = quiet_idle (Look (Plain i)) is e asks refl (λ f k. f) refl refl refl refl (λ h. h) (λ h. h)
  idle_asks (Look (Index v n)) is e proper points asks = quiet_idle (Look (Index v n)) is e asks refl (λ f k. f) refl refl refl refl (λ h. h) (λ h. h)
  idle_asks (Look (Line n)) is e proper points asks =
      quiet_idle (Look (Line n)) is e asks refl (λ f k. f) refl refl (line_part shape vcpu found p.local (λ l. l.cpu) (λ l n s. refl) (Look (Line n)) refl) refl (λ h. h) (subst (λ phase. IsTrue (is_ready phase)) (line_part shape vcpu found p.local (λ l. l.phase) (λ l n s. refl) (Look (Line n)) refl))
  idle_asks (Raise key) is e proper points asks = quiet_idle (Raise key) is e asks refl (λ f k. f) refl refl refl refl (λ h. h) (λ h. h)
  idle_asks (Claim key seen) is e proper points asks =
      let done = succeeds shape vcpu p.local (Claim key seen) found in
      let by : Scan → Progress = λ s. record (after_claim key (irq_of found) done s p) { local = local_after shape vcpu p.local (Claim key seen) found; own = p.own ++ made_by (Claim key seen) ∷ [] } in
      subst (λ s. Asks shape (later is) vcpu (by s) (by s).scan) (sym e) (subst (Asks shape (later is) vcpu (by idle)) (sym e) (λ ready untrapped owed. absurd (true≢false (sym (unpaid_end false p.debt owed)))))
  idle_asks (GiveBack key back) is e proper points asks = quiet_idle (GiveBack key back) is e asks refl (λ f k. f) refl refl refl refl (λ h. h) (λ h. absurd (true≢false (sym h)))
  idle_asks (Release key) is e proper points asks = quiet_idle (Release key) is e asks refl (λ f k. f) refl refl refl refl (λ h. h) (λ h. h)
  idle_asks (Poll reg write) is e proper points asks = poll_asks reg write is e points asks
  idle_asks (Kick v) is e proper points asks = quiet_idle (Kick v) is e asks refl (kick_failed v) refl refl refl refl (λ h. h) (λ h. h)
  idle_asks (Touch key seen kind) is e proper points asks =
      let done = succeeds shape vcpu p.local (Touch key seen kind) found in
      let touched = owing_both key (concerned_by shape (irq_of found) (touched_of shape key kind (irq_of found))) p.local in
      quiet_idle (Touch key seen kind) is e asks refl (λ f k. f) refl refl (either (λ l. l.cpu) done touched p.local refl) refl (λ h. h) (subst (λ phase. IsTrue (is_ready phase)) (either (λ l. l.phase) done touched p.local refl))
  idle_asks (Want key) is e proper points asks = quiet_idle (Want key) is e asks refl (λ f k. f) refl refl refl refl (λ h. h) (λ h. h)
  idle_asks (WireUp key) is e proper points asks = quiet_idle (WireUp key) is e asks refl (λ f k. f) refl refl refl refl (λ h. h) (λ h. h)
  idle_asks (WireDown key) is e proper points asks = quiet_idle (WireDown key) is e asks refl (λ f k. f) refl refl refl refl (λ h. h) (λ h. h)
  idle_asks (EnableLpis v) is e proper points asks = quiet_idle (EnableLpis v) is e asks refl (λ f k. f) refl refl refl refl (λ h. h) (λ h. h)
  idle_asks (RamLook i) is e proper points asks = quiet_idle (RamLook i) is e asks refl (λ f k. f) refl refl refl refl (λ h. h) (λ h. h)
  idle_asks (RamPut i seen value) is e proper points asks =
      let done = succeeds shape vcpu p.local (RamPut i seen value) found in
      quiet_idle (RamPut i seen value) is e asks refl (λ f k. f) refl refl (either (λ l. l.cpu) done p.local p.local refl) refl (λ h. h) (subst (λ phase. IsTrue (is_ready phase)) (either (λ l. l.phase) done p.local p.local refl))
  idle_asks (CtlrTake seen value) is e proper points asks =
      let done = succeeds shape vcpu p.local (CtlrTake seen value) found in
      let taken = record p.local { ctlr = true } in
      quiet_idle (CtlrTake seen value) is e asks refl (λ f k. f) refl refl (either (λ l. l.cpu) done taken p.local refl) refl (λ h. h) (subst (λ phase. IsTrue (is_ready phase)) (either (λ l. l.phase) done taken p.local refl))
  idle_asks CtlrEnd is e proper points asks = quiet_idle CtlrEnd is e asks refl (λ f k. f) refl refl refl refl (λ h. h) (λ h. h)
  idle_asks (TurnTake seen) is e proper points asks =
      let done = succeeds shape vcpu p.local (TurnTake seen) found in
      let taken = record p.local { turn = true } in
      quiet_idle (TurnTake seen) is e asks refl (λ f k. f) refl refl (either (λ l. l.cpu) done taken p.local refl) refl (λ h. h) (subst (λ phase. IsTrue (is_ready phase)) (either (λ l. l.phase) done taken p.local refl))
  idle_asks (CommandDone offset stalled ending) is e proper points asks = quiet_idle (CommandDone offset stalled ending) is e asks refl (λ f k. f) refl refl refl refl (λ h. h) (λ h. h)
  idle_asks TurnRelease is e proper points asks = quiet_idle TurnRelease is e asks refl (λ f k. f) refl refl refl refl (λ h. h) (λ h. h)
  idle_asks (Mark key v) is e proper points asks = quiet_idle (Mark key v) is e asks refl (λ f k. f) refl refl refl refl (λ h. h) (λ h. h)
  idle_asks (LineEnter line seen) is e proper points asks =
      quiet_idle (LineEnter line seen) is e asks refl (λ f k. f) refl refl (line_part shape vcpu found p.local (λ l. l.cpu) (λ l n s. refl) (LineEnter line seen) refl) refl (λ h. h) (subst (λ phase. IsTrue (is_ready phase)) (line_part shape vcpu found p.local (λ l. l.phase) (λ l n s. refl) (LineEnter line seen) refl))
  idle_asks (LineLeave line) is e proper points asks =
      quiet_idle (LineLeave line) is e asks refl (λ f k. f) refl refl (line_part shape vcpu found p.local (λ l. l.cpu) (λ l n s. refl) (LineLeave line) refl) refl (λ h. h) (subst (λ phase. IsTrue (is_ready phase)) (line_part shape vcpu found p.local (λ l. l.phase) (λ l n s. refl) (LineLeave line) refl))
  idle_asks (LineFill line device event lpi) is e proper points asks =
      quiet_idle (LineFill line device event lpi) is e asks refl (λ f k. f) refl refl (line_part shape vcpu found p.local (λ l. l.cpu) (λ l n s. refl) (LineFill line device event lpi) refl) refl (λ h. h) (subst (λ phase. IsTrue (is_ready phase)) (line_part shape vcpu found p.local (λ l. l.phase) (λ l n s. refl) (LineFill line device event lpi) refl))
  idle_asks (LineClose line) is e proper points asks =
      quiet_idle (LineClose line) is e asks refl (λ f k. f) refl refl (line_part shape vcpu found p.local (λ l. l.cpu) (λ l n s. refl) (LineClose line) refl) refl (λ h. h) (subst (λ phase. IsTrue (is_ready phase)) (line_part shape vcpu found p.local (λ l. l.phase) (λ l n s. refl) (LineClose line) refl))
  idle_asks (TakeIndex word) is e proper points asks =
      subst (λ s. Asks shape (later is) vcpu (now (TakeIndex word)) (word_taken s)) (sym e)
      (and_parts p.trapping (word == 0) (and_parts (p.trapping && word == 0) (is_empty p.local.at) (subst (λ s. IsTrue (not (is_idle s) || (p.trapping && word == 0 && is_empty p.local.at))) e proper.trap)).0).0

  -- While it takes its index, and looks.

  meant_on : (purpose : Purpose) (q : Progress) → q.trapping ≡ p.trapping → q.debt ≡ p.debt → IsMeant purpose p → IsMeant purpose q
  meant_on planned q trapping debt h = h
  meant_on trapped q trapping debt h = trapping ∙ h
  meant_on bare q trapping debt h = ap is_paid debt ∙ h

  taking_asks : (purpose : Purpose) (words : ℕ) (step : CoreStep) (is : IsStep shape state ideal vcpu step found left tables) → p.scan ≡ taking purpose words → IsTrue (scan_allows shape vcpu p.local (taking purpose words) step) → IsMeant purpose p → Asks shape (later is) vcpu (now step) (now step).scan
  taking_asks purpose words (TakeIndex word) is e h meant = subst (λ s. Asks shape (later is) vcpu (now (TakeIndex word)) (word_taken s)) (sym e) (meant_on purpose (now (TakeIndex word)) refl refl meant)
  taking_asks purpose words (Kick v) is e h meant = subst (Asks shape (later is) vcpu (now (Kick v))) (sym e) (meant_on purpose (now (Kick v)) refl refl meant)
  taking_asks purpose words step is e h meant = absurd (true≢false (sym h))

  looking_asks :
      (purpose : Purpose) (from : ℕ) (offers : List Offer) (step : CoreStep) (is : IsStep shape state ideal vcpu step found left tables) → p.scan ≡ looking purpose from offers → IsTrue (scan_allows shape vcpu p.local (looking purpose from offers) step) → IsMeant purpose p → Asks shape (later is) vcpu (now step) (now step).scan
  looking_asks purpose from offers (Look (Irq key)) is e h meant = subst (λ s. Asks shape (later is) vcpu (now (Look (Irq key))) (scan_looked shape key (irq_of found) s)) (sym e) (meant_on purpose (now (Look (Irq key))) refl refl meant)
  looking_asks purpose from offers (Kick v) is e h meant = subst (Asks shape (later is) vcpu (now (Kick v))) (sym e) (meant_on purpose (now (Kick v)) refl refl meant)
  looking_asks purpose from offers (Look (Vcpu v)) is e h meant = absurd (true≢false (sym h))
  looking_asks purpose from offers (Look Queue) is e h meant = absurd (true≢false (sym h))
  looking_asks purpose from offers (Look Ctlr) is e h meant = absurd (true≢false (sym h))
  looking_asks purpose from offers (Look (Plain i)) is e h meant = absurd (true≢false (sym h))
  looking_asks purpose from offers (Look (Index v n)) is e h meant = absurd (true≢false (sym h))
  looking_asks purpose from offers (Look (Line n)) is e h meant = absurd (true≢false (sym h))
  looking_asks purpose from offers step is e h meant = absurd (true≢false (sym h))

  -- While it claims.

  left_hcr : (key : Key) (done : Bool) (claims : List Key) (regs : IchRegs) → (claim_left key done claims regs).hcr ≡ regs.hcr
  left_hcr key true claims regs = refl
  left_hcr key false claims regs = of (has_key key claims)
    where
      of : (b : Bool) → (if b then without_claim key regs else without_take key regs).hcr ≡ regs.hcr
      of true = changed_hcr key (λ word. 0) regs
      of false = changed_hcr key (λ word. with_state word Active) regs

  claim_asks : (claims takes : List Key) (key : Key) (seen : ℕ) (is : IsStep shape state ideal vcpu (Claim key seen) found left tables) → p.scan ≡ claiming claims takes → Asking shape state vcpu true p → Asks shape (later is) vcpu (now (Claim key seen)) (now (Claim key seen)).scan
  claim_asks claims takes key seen is e asking =
      let by : Bool → Scan → Progress = λ done s. record (after_claim key (irq_of found) done s p) { local = if done then claimed shape vcpu key found p.local else p.local; own = p.own ++ made_by (Claim key seen) ∷ [] } in
      subst (λ s. Asks shape (later is) vcpu (by (succeeds shape vcpu p.local (Claim key seen) found) s) (by (succeeds shape vcpu p.local (Claim key seen) found) s).scan) (sym e) (of (succeeds shape vcpu p.local (Claim key seen) found))
    where
      as_claiming : (q : Progress) (b : Bool) (c d k t : List Key) → Asking shape (later is) vcpu true q → Asks shape (later is) vcpu q (if b then claiming c d else claiming k t)
      as_claiming q true c d k t asking = asking
      as_claiming q false c d k t asking = asking

      or_false : (b : Bool) → (b || false) ≡ false → b ≡ false
      or_false true e = absurd (cc)
      or_false false e = refl

      or_true : (b : Bool) → (b || true) ≡ false → ⊥
      or_true true e = absurd (cc)
      or_true false e = absurd (cc)

      of : (done : Bool) → let q = record (after_claim key (irq_of found) done (claiming claims takes) p) { local = if done then claimed shape vcpu key found p.local else p.local; own = p.own ++ made_by (Claim key seen) ∷ [] } in Asks shape (later is) vcpu q q.scan
      of true =
          let q : Progress = record (after_claim key (irq_of found) true (claiming claims takes) p) { local = claimed shape vcpu key found p.local; own = p.own ++ made_by (Claim key seen) ∷ [] } in
          as_claiming q (has_key key claims) _ _ _ _
          (asking_as shape state (later is) vcpu true true p q refl refl refl (λ h. h) (λ h. h) (λ all. record { none_failed = or_false p.failed all.none_failed; unkicked = (unkicked_before is vcpu within refl all.unkicked).0 }) asking)
      of false =
          let q : Progress = record (after_claim key (irq_of found) false (claiming claims takes) p) { local = p.local; own = p.own ++ made_by (Claim key seen) ∷ [] } in
          as_claiming q (has_key key claims) _ _ _ _
          (λ ready untrapped owed. (subst (λ hcr. IsMirrored hcr p.local.cpu) (sym (left_hcr key false claims p.regs)) (asking ready untrapped owed).0, λ all. absurd (or_true p.failed all.none_failed)))

  quiet_claiming : (claims takes : List Key) (step : CoreStep) (is : IsStep shape state ideal vcpu step found left tables) → p.scan ≡ claiming claims takes → Asking shape state vcpu true p → is_poll_by vcpu vcpu step ≡ false → ((now step).failed ≡ false → is_kick_of vcpu step ≡ false → p.failed ≡ false) → (now step).scan ≡ p.scan → (now step).regs ≡ p.regs
      → (now step).local.cpu ≡ p.local.cpu → (now step).trapping ≡ p.trapping → (now step).debt ≡ p.debt → Asks shape (later is) vcpu (now step) (now step).scan
  quiet_claiming claims takes step is e asking poll failed same regs cpu trapping debt =
      subst (Asks shape (later is) vcpu (now step)) (sym (same ∙ e)) (asking_as shape state (later is) vcpu true true p (now step) regs cpu trapping (subst (λ d. IsTrue (is_paid d)) debt) (λ h. h) (all_before step is poll failed) asking)

  claiming_asks : (claims takes : List Key) (step : CoreStep) (is : IsStep shape state ideal vcpu step found left tables) → p.scan ≡ claiming claims takes → IsTrue (scan_allows shape vcpu p.local (claiming claims takes) step) → Asking shape state vcpu true p → Asks shape (later is) vcpu (now step) (now step).scan
  claiming_asks claims takes (Claim key seen) is e h asking = claim_asks claims takes key seen is e asking
  claiming_asks claims takes (Kick v) is e h asking = quiet_claiming claims takes (Kick v) is e asking refl (kick_failed v) refl refl refl refl refl
  claiming_asks claims takes (Mark key v) is e h asking = quiet_claiming claims takes (Mark key v) is e asking refl (λ f k. f) refl refl refl refl refl
  claiming_asks claims takes (Look (Irq key)) is e h asking = absurd (true≢false (sym h))
  claiming_asks claims takes (Look (Vcpu v)) is e h asking = absurd (true≢false (sym h))
  claiming_asks claims takes (Look Queue) is e h asking = absurd (true≢false (sym h))
  claiming_asks claims takes (Look Ctlr) is e h asking = absurd (true≢false (sym h))
  claiming_asks claims takes (Look (Plain i)) is e h asking = absurd (true≢false (sym h))
  claiming_asks claims takes (Look (Index v n)) is e h asking = absurd (true≢false (sym h))
  claiming_asks claims takes (Look (Line n)) is e h asking = absurd (true≢false (sym h))
  claiming_asks claims takes step is e h asking = absurd (true≢false (sym h))

  -- Any of its own steps.

  pub own_asks : (step : CoreStep) (is : IsStep shape state ideal vcpu step found left tables) → IsProperStep shape vcpu p step → HasBinaryPoints (now step).local.cpu → Asks shape state vcpu p p.scan → Asks shape (later is) vcpu (now step) (now step).scan
  own_asks step is proper points asks = by p.scan refl
    where
      by : (s : Scan) → p.scan ≡ s → Asks shape (later is) vcpu (now step) (now step).scan
      by idle e = idle_asks step is e proper points asks
      by (taking purpose words) e = taking_asks purpose words step is e (subst (λ s. IsTrue (scan_allows shape vcpu p.local s step)) e proper.scan) (subst (Asks shape state vcpu p) e asks)
      by (looking purpose from offers) e = looking_asks purpose from offers step is e (subst (λ s. IsTrue (scan_allows shape vcpu p.local s step)) e proper.scan) (subst (Asks shape state vcpu p) e asks)
      by (claiming claims takes) e = claiming_asks claims takes step is e (subst (λ s. IsTrue (scan_allows shape vcpu p.local s step)) e proper.scan) (subst (Asks shape state vcpu p) e asks)
