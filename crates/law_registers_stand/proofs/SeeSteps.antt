-- A vCPU's own steps keep which ends its list registers see.
use Rattle.std.proofs.Common.{◌≡◌, ℕ, ◌<◌, ◌≤◌, true≢false, not, Bool, true, false, IsTrue, List, [], ◌∷◌, ◌++◌, fold, Contains, Option, Some, None, unwrap_or, if◌then◌else◌, refl, sym, ap, subst, ◌∙◌}
use Rattle.law_core_is_history.specs.Words.{IccReg, Key, GuestShape, has_interrupt, intid_of, is_number, irq_of}
use Rattle.law_core_is_history.specs.Calls.{touched as touched_of}
use Rattle.law_core_is_history.specs.Histories.{changes_of, Ideal}
use Rattle.law_core_is_history.specs.Lists.{IchRegs, listed_of}
use Rattle.law_core_is_history.specs.Registers.{deactivated_by, taken_by, candidates_at, Maps}
use Rattle.law_core_is_history.specs.Core.{AtIrq, Local, Folding, Made, CoreStep, Look, Raise, Claim, GiveBack, Release, Poll, Kick, Touch, Want, WireUp, WireDown, EnableLpis, RamLook, RamPut, CtlrTake, CtlrEnd, TurnTake, CommandDone, TurnRelease, Mark, TakeIndex, LineEnter, LineLeave, LineFill, LineClose, Irq as IrqWord, Vcpu, Queue, Ctlr, Plain, Index, Line, accessed, acknowledged_entry, changed_id, concerned_by, deactivated_entry, id_of, interface_of, local_after, is_ready, succeeds, vcpu_of, known, is_at, owing_both, CoreState, seat_at, word_in, IsLocal, event_moments, IsSeatOf, Progress, after_claim, after_poll, begun, is_paid, IsProperStep, after_operation, Scan, idle, has_key, scan_looked, word_taken}
use Rattle.law_core_is_history.proofs.PortCore.AtLemmas.{is_at_mapped}
use Rattle.law_core_is_history.specs.Known.{IsKnown}
use Rattle.law_core_is_history.specs.Related.{bare as bare_irq}
use Rattle.law_core_is_history.specs.Simulates.{event_of}
use Rattle.law_core_is_history.proofs.AfterLemmas.{later}
use Rattle.law_core_is_history.proofs.KickSteps.{is_kick_of, is_poll_by}
use Rattle.law_core_is_history.proofs.LineSteps.{line_part}
use Rattle.law_core_is_history.proofs.StepContext.{one, IsStep}
use Rattle.law_registers_stand.specs.Asks.{HasAll}
use Rattle.law_registers_stand.specs.Ends.{SeesEnd}
use Rattle.law_registers_stand.specs.Followed.{Followed, follows}
use Rattle.law_registers_stand.proofs.AskSteps.{all_before, kick_failed}
use Rattle.law_registers_stand.proofs.EoiLemmas.{KeepsEoi, access_keeps}
use Rattle.law_registers_stand.proofs.HeldSteps.{record_same}
use Rattle.law_registers_stand.proofs.SeeLemmas.{Seeing, Sees, seeing_on}
use Rattle.law_registers_stand.proofs.StandLemmas.{Standing}
use Rattle.law_registers_stand.proofs.StandSteps.{after_made, either, look_part, paid_before, releases, unpaid_end}
use Rattle.law_registers_stand.proofs.TellLemmas.{IsTold}

module _ (shape : GuestShape) (state : CoreState) (ideal : Ideal) (vcpu found left : ℕ) (tables : Option Maps) (within : vcpu < shape.vcpus) (p : Progress) (seat : IsSeatOf p (seat_at state vcpu)) (some : 1 ≤ p.lrs) (few : p.lrs ≤ 16) (is_local : IsLocal shape vcpu p.local) (stands : Standing false shape vcpu p p.scan) (known_its : IsKnown shape state) (telling : Followed)
    (told : IsTold shape telling) where
  abbrev made_by : CoreStep → Made
  made_by step = (one vcpu step found left tables).made

  abbrev now : CoreStep → Progress
  now step = after_made shape vcpu (made_by step) p

  abbrev told_now : CoreStep → Followed
  told_now step = fold follows telling (event_moments vcpu (event_of shape state (one vcpu step found left tables)))

  -- an interrupt that is at the interface before and after a step that is no claim of it
  own_record :
      (step : CoreStep) (is : IsStep shape state ideal vcpu step found left tables) → (now step).local ≡ (seat_at (later is) vcpu).local → (key : Key) → IsTrue (has_interrupt shape key) → is_at key (now step).local.at ≡ true → IsTrue (is_ready (now step).local.phase) → is_at key p.local.at ≡ true → IsTrue (is_ready p.local.phase)
      → ((seen : ℕ) → step ≡ Claim key seen → ⊥) → (changes_of shape (told_now step).track key).since ≡ []
      → ((changes_of shape telling.track key).since ≡ []) × (bare_irq (irq_of (word_in shape (later is) (IrqWord key))) ≡ bare_irq (irq_of (word_in shape state (IrqWord key))))
  own_record step is mine key there at_now ready_now at ready no_claim none =
      record_same is known_its vcpu within key there (ap (λ (l : Local). is_at key l.at) (sym mine) ∙ at_now) (subst (λ (l : Local). IsTrue (is_ready l.phase)) mine ready_now) (ap (λ (l : Local). is_at key l.at) (sym seat.local) ∙ at) (subst (λ (l : Local). IsTrue (is_ready l.phase)) seat.local ready)
      (λ seen e. absurd (no_claim seen e)) telling told none

  -- What a step changes nothing of.

  pub quiet_sees :
      (step : CoreStep) (is : IsStep shape state ideal vcpu step found left tables) → (now step).local ≡ (seat_at (later is) vcpu).local → (claims takes : List Key) → Seeing shape state vcpu telling p claims takes → is_poll_by vcpu vcpu step ≡ false → ((now step).failed ≡ false → is_kick_of vcpu step ≡ false → p.failed ≡ false)
      → (now step).local.at ≡ p.local.at → (now step).regs ≡ p.regs → (now step).trapping ≡ p.trapping → (now step).debt ≡ p.debt → (now step).local.phase ≡ p.local.phase → ((key : Key) → has_key key claims ≡ true → known shape vcpu (p.own ++ made_by step ∷ []) (IrqWord key) ≡ known shape vcpu p.own (IrqWord key))
      → ((key : Key) (seen : ℕ) → step ≡ Claim key seen → ⊥) → Seeing shape (later is) vcpu (told_now step) (now step) claims takes
  quiet_sees step is mine claims takes seeing poll failed at regs trapping debt phase knows no_claim = λ ready untrapped owed all.
      let ready_before = subst (λ phase. IsTrue (is_ready phase)) phase ready in
      let before = seeing ready_before (sym trapping ∙ untrapped) (subst (λ d. IsTrue (is_paid d)) debt owed) (all_before shape state ideal vcpu found left tables within p seat is_local stands step is poll failed all) in
      seeing_on shape vcpu state (later is) telling (told_now step) p.local (now step).local p.own (p.own ++ made_by step ∷ []) p.regs (now step).regs claims takes (λ key h. ap (is_at key) (sym at) ∙ h) (λ key sees. subst (λ r. SeesEnd r key) (sym regs) sees)
      (λ key h word among. subst (λ (r : IchRegs). Contains (listed_of r) word) regs among) knows (λ key there h none. own_record step is mine key there h ready (ap (is_at key) (sym at) ∙ h) ready_before (no_claim key) none) before

  quiet_idle :
      (step : CoreStep) (is : IsStep shape state ideal vcpu step found left tables) → (now step).local ≡ (seat_at (later is) vcpu).local → p.scan ≡ idle → Sees shape state vcpu telling p p.scan → is_poll_by vcpu vcpu step ≡ false → ((now step).failed ≡ false → is_kick_of vcpu step ≡ false → p.failed ≡ false) → (now step).scan ≡ p.scan
      → (now step).local.at ≡ p.local.at → (now step).regs ≡ p.regs → (now step).trapping ≡ p.trapping → (now step).debt ≡ p.debt → (now step).local.phase ≡ p.local.phase → ((key : Key) (seen : ℕ) → step ≡ Claim key seen → ⊥) → Sees shape (later is) vcpu (told_now step) (now step) (now step).scan
  quiet_idle step is mine e sees poll failed same at regs trapping debt phase no_claim =
      subst (Sees shape (later is) vcpu (told_now step) (now step)) (sym (same ∙ e)) (quiet_sees step is mine [] [] (subst (Sees shape state vcpu telling p) e sees) poll failed at regs trapping debt phase (λ key h. absurd (true≢false (sym h))) no_claim)

  -- With no scan in progress.

  -- an access leaves the same interrupts there
  same_there : (reg : IccReg) (write : Option ℕ) (key : Key) → is_at key (accessed reg write p.local).at ≡ is_at key p.local.at
  same_there reg write key =
      let candidates = candidates_at (interface_of p.local) in
      let taken = id_of (taken_by reg write p.local.cpu candidates) in
      let ended = deactivated_by reg write p.local.cpu in
      is_at_mapped (λ entry. if is_number (intid_of entry.key) ended then deactivated_entry entry else entry) (keeps deactivated_entry (λ entry. refl) ended) key (changed_id acknowledged_entry taken p.local.at)
      ∙ is_at_mapped (λ entry. if is_number (intid_of entry.key) taken then acknowledged_entry entry else entry) (keeps acknowledged_entry (λ entry. refl) taken) key p.local.at
    where
      keeps : (change : AtIrq → AtIrq) → ((entry : AtIrq) → (change entry).key ≡ entry.key) → (id : Option ℕ) (entry : AtIrq) → (if is_number (intid_of entry.key) id then change entry else entry).key ≡ entry.key
      keeps change same id entry = of (is_number (intid_of entry.key) id)
        where
          of : (b : Bool) → (if b then change entry else entry).key ≡ entry.key
          of true = same entry
          of false = refl

  poll_sees : (reg : Option IccReg) (write : Option ℕ) (is : IsStep shape state ideal vcpu (Poll reg write) found left tables) → (now (Poll reg write)).local ≡ (seat_at (later is) vcpu).local → p.scan ≡ idle → IsProperStep shape vcpu p (Poll reg write) → Sees shape state vcpu telling p p.scan
      → Sees shape (later is) vcpu (told_now (Poll reg write)) (now (Poll reg write)) (now (Poll reg write)).scan
  poll_sees None write is mine e proper sees = of (unwrap_or p.far false)
    where
      of : (b : Bool) → let q = record (begun b p) { local = local_after shape vcpu p.local (Poll None write) found; own = p.own ++ made_by (Poll None write) ∷ [] } in Sees shape (later is) vcpu (told_now (Poll None write)) q q.scan
      of true = tt
      of false = tt
  poll_sees (Some reg) write is mine e proper sees = of (vcpu_of found).kick refl mine
    where
      of : (b : Bool) → (vcpu_of found).kick ≡ b → (if b then record p.local { phase = Folding } else accessed reg write p.local) ≡ (seat_at (later is) vcpu).local
          → let q = record (after_poll (Some reg) write b p) { local = if b then record p.local { phase = Folding } else accessed reg write p.local; own = p.own ++ made_by (Poll (Some reg) write) ∷ [] } in Sees shape (later is) vcpu (told_now (Poll (Some reg) write)) q q.scan
      of true kicked mine =
          subst (Sees shape (later is) vcpu (told_now (Poll (Some reg) write)) (record (after_poll (Some reg) write true p) { local = record p.local { phase = Folding }; own = p.own ++ made_by (Poll (Some reg) write) ∷ [] })) (sym e) (λ ready. absurd (true≢false (sym ready)))
      of false unkicked mine =
          subst (Sees shape (later is) vcpu (told_now (Poll (Some reg) write)) (record (after_poll (Some reg) write false p) { local = accessed reg write p.local; own = p.own ++ made_by (Poll (Some reg) write) ∷ [] })) (sym e) (λ ready untrapped owed all.
          let regs = after_operation p.trapping reg write p.regs in
          let ready_before : IsTrue (is_ready p.local.phase) = subst (λ (l : Local). IsTrue (is_ready l.phase)) (sym seat.local) is.takes.meets in
          let all_before : HasAll shape state vcpu p = record { none_failed = not_true p.failed proper.failed; unkicked = ap (λ n. (vcpu_of n).kick) (sym is.takes.found) ∙ unkicked } in
          let before = subst (Sees shape state vcpu telling p) e sees ready_before untrapped (paid_before regs p.trapping p.debt owed) all_before in
          seeing_on shape vcpu state (later is) telling (told_now (Poll (Some reg) write)) p.local (accessed reg write p.local) p.own (p.own ++ made_by (Poll (Some reg) write) ∷ []) p.regs regs [] [] (λ key h. sym (same_there reg write key) ∙ h)
          (λ key sees word among live. let was = kept untrapped word (intid_of key) among live in was.eoi ∙ sees was.word was.among was.live) (λ key h. absurd (true≢false (sym h))) (λ key h. absurd (true≢false (sym h)))
          (λ key there h none. record_same is known_its vcpu within key there (ap (λ (l : Local). is_at key l.at) (sym mine) ∙ h) (subst (λ (l : Local). IsTrue (is_ready l.phase)) mine ready) (ap (λ (l : Local). is_at key l.at) (sym seat.local) ∙ sym (same_there reg write key) ∙ h) is.takes.meets (λ seen e. absurd (cc)) telling told none) before)
        where
          not_true : (b : Bool) → IsTrue (not b) → b ≡ false
          not_true true h = absurd (cc)
          not_true false h = refl

          kept : p.trapping ≡ false → KeepsEoi (listed_of p.regs) (listed_of (after_operation p.trapping reg write p.regs))
          kept untrapped = subst (λ t. KeepsEoi (listed_of p.regs) (listed_of (after_operation t reg write p.regs))) (sym untrapped) (access_keeps reg write p.regs)

  pub idle_sees :
      (step : CoreStep) (is : IsStep shape state ideal vcpu step found left tables) → (now step).local ≡ (seat_at (later is) vcpu).local → p.scan ≡ idle → IsProperStep shape vcpu p step → Sees shape state vcpu telling p p.scan → Sees shape (later is) vcpu (told_now step) (now step) (now step).scan
  idle_sees (Look (IrqWord key)) is mine e proper sees =
      quiet_idle (Look (IrqWord key)) is mine e sees refl (λ f k. f) (ap (scan_looked shape key (irq_of found)) e ∙ sym e) (look_part shape vcpu found p.local (λ l. l.at) key (λ l c. refl)) refl refl refl (look_part shape vcpu found p.local (λ l. l.phase) key (λ l c. refl)) (λ key seen e. absurd (cc))
  idle_sees (Look (Vcpu v)) is mine e proper sees = quiet_idle (Look (Vcpu v)) is mine e sees refl (λ f k. f) refl refl refl refl refl refl (λ key seen e. absurd (cc))
  idle_sees (Look Queue) is mine e proper sees = quiet_idle (Look Queue) is mine e sees refl (λ f k. f) refl refl refl refl refl refl (λ key seen e. absurd (cc))
  idle_sees (Look Ctlr) is mine e proper sees = quiet_idle (Look Ctlr) is mine e sees refl (λ f k. f) refl refl refl refl refl refl (λ key seen e. absurd (cc))
  idle_sees (Look (Plain i)) is mine e proper sees = quiet_idle (Look (Plain i)) is mine e sees refl (λ f k. f) refl refl refl refl refl refl (λ key seen e. absurd (cc))
  idle_sees (Look (Index v n)) is mine e proper sees = quiet_idle (Look (Index v n)) is mine e sees refl (λ f k. f) refl refl refl refl refl refl (λ key seen e. absurd (cc))
  idle_sees (Look (Line n)) is mine e proper sees =
      quiet_idle (Look (Line n)) is mine e sees refl (λ f k. f) refl (line_part shape vcpu found p.local (λ l. l.at) (λ l n s. refl) (Look (Line n)) refl) refl refl refl (line_part shape vcpu found p.local (λ l. l.phase) (λ l n s. refl) (Look (Line n)) refl) (λ key seen e. absurd (cc))
  idle_sees (Raise k) is mine e proper sees = quiet_idle (Raise k) is mine e sees refl (λ f k. f) refl refl refl refl refl refl (λ key seen e. absurd (cc))
  idle_sees (Claim k seen) is mine e proper sees =
      let done = succeeds shape vcpu p.local (Claim k seen) found in
      let by : Scan → Progress = λ s. record (after_claim k (irq_of found) done s p) { local = local_after shape vcpu p.local (Claim k seen) found; own = p.own ++ made_by (Claim k seen) ∷ [] } in
      subst (λ s. Sees shape (later is) vcpu (told_now (Claim k seen)) (by s) (by s).scan) (sym e) (subst (Sees shape (later is) vcpu (told_now (Claim k seen)) (by idle)) (sym e) (λ ready untrapped owed. absurd (true≢false (sym (unpaid_end false p.debt owed)))))
  idle_sees (GiveBack k back) is mine e proper sees = subst (Sees shape (later is) vcpu (told_now (GiveBack k back)) (now (GiveBack k back))) (sym e) (λ ready. absurd (true≢false (sym ready)))
  idle_sees (Release k) is mine e proper sees =
      subst (Sees shape (later is) vcpu (told_now (Release k)) (now (Release k))) (sym e) (λ ready. absurd (releases false shape state ideal vcpu found left tables within p seat some few k is ready))
  idle_sees (Poll reg write) is mine e proper sees = poll_sees reg write is mine e proper sees
  idle_sees (Kick v) is mine e proper sees = quiet_idle (Kick v) is mine e sees refl (kick_failed shape state ideal vcpu found left tables within p seat is_local stands v) refl refl refl refl refl refl (λ key seen e. absurd (cc))
  idle_sees (Touch k seen kind) is mine e proper sees =
      let done = succeeds shape vcpu p.local (Touch k seen kind) found in
      let touched = owing_both k (concerned_by shape (irq_of found) (touched_of shape k kind (irq_of found))) p.local in
      quiet_idle (Touch k seen kind) is mine e sees refl (λ f k. f) refl (either (λ l. l.at) done touched p.local refl) refl refl refl (either (λ l. l.phase) done touched p.local refl) (λ key seen e. absurd (cc))
  idle_sees (Want k) is mine e proper sees = quiet_idle (Want k) is mine e sees refl (λ f k. f) refl refl refl refl refl refl (λ key seen e. absurd (cc))
  idle_sees (WireUp k) is mine e proper sees = quiet_idle (WireUp k) is mine e sees refl (λ f k. f) refl refl refl refl refl refl (λ key seen e. absurd (cc))
  idle_sees (WireDown k) is mine e proper sees = quiet_idle (WireDown k) is mine e sees refl (λ f k. f) refl refl refl refl refl refl (λ key seen e. absurd (cc))
  idle_sees (EnableLpis v) is mine e proper sees = quiet_idle (EnableLpis v) is mine e sees refl (λ f k. f) refl refl refl refl refl refl (λ key seen e. absurd (cc))
  idle_sees (RamLook i) is mine e proper sees = quiet_idle (RamLook i) is mine e sees refl (λ f k. f) refl refl refl refl refl refl (λ key seen e. absurd (cc))
  idle_sees (RamPut i seen value) is mine e proper sees =
      let done = succeeds shape vcpu p.local (RamPut i seen value) found in
      quiet_idle (RamPut i seen value) is mine e sees refl (λ f k. f) refl (either (λ l. l.at) done p.local p.local refl) refl refl refl (either (λ l. l.phase) done p.local p.local refl) (λ key seen e. absurd (cc))
  idle_sees (CtlrTake seen value) is mine e proper sees =
      let done = succeeds shape vcpu p.local (CtlrTake seen value) found in
      let taken = record p.local { ctlr = true } in
      quiet_idle (CtlrTake seen value) is mine e sees refl (λ f k. f) refl (either (λ l. l.at) done taken p.local refl) refl refl refl (either (λ l. l.phase) done taken p.local refl) (λ key seen e. absurd (cc))
  idle_sees CtlrEnd is mine e proper sees = quiet_idle CtlrEnd is mine e sees refl (λ f k. f) refl refl refl refl refl refl (λ key seen e. absurd (cc))
  idle_sees (TurnTake seen) is mine e proper sees =
      let done = succeeds shape vcpu p.local (TurnTake seen) found in
      let taken = record p.local { turn = true } in
      quiet_idle (TurnTake seen) is mine e sees refl (λ f k. f) refl (either (λ l. l.at) done taken p.local refl) refl refl refl (either (λ l. l.phase) done taken p.local refl) (λ key seen e. absurd (cc))
  idle_sees (CommandDone offset stalled ending) is mine e proper sees = quiet_idle (CommandDone offset stalled ending) is mine e sees refl (λ f k. f) refl refl refl refl refl refl (λ key seen e. absurd (cc))
  idle_sees TurnRelease is mine e proper sees = quiet_idle TurnRelease is mine e sees refl (λ f k. f) refl refl refl refl refl refl (λ key seen e. absurd (cc))
  idle_sees (Mark k v) is mine e proper sees = quiet_idle (Mark k v) is mine e sees refl (λ f k. f) refl refl refl refl refl refl (λ key seen e. absurd (cc))
  idle_sees (LineEnter line seen) is mine e proper sees =
      quiet_idle (LineEnter line seen) is mine e sees refl (λ f k. f) refl (line_part shape vcpu found p.local (λ l. l.at) (λ l n s. refl) (LineEnter line seen) refl) refl refl refl (line_part shape vcpu found p.local (λ l. l.phase) (λ l n s. refl) (LineEnter line seen) refl) (λ key seen e. absurd (cc))
  idle_sees (LineLeave line) is mine e proper sees =
      quiet_idle (LineLeave line) is mine e sees refl (λ f k. f) refl (line_part shape vcpu found p.local (λ l. l.at) (λ l n s. refl) (LineLeave line) refl) refl refl refl (line_part shape vcpu found p.local (λ l. l.phase) (λ l n s. refl) (LineLeave line) refl) (λ key seen e. absurd (cc))
  idle_sees (LineFill line device event lpi) is mine e proper sees =
      quiet_idle (LineFill line device event lpi) is mine e sees refl (λ f k. f) refl (line_part shape vcpu found p.local (λ l. l.at) (λ l n s. refl) (LineFill line device event lpi) refl) refl refl refl (line_part shape vcpu found p.local (λ l. l.phase) (λ l n s. refl) (LineFill line device event lpi) refl) (λ key seen e. absurd (cc))
  idle_sees (LineClose line) is mine e proper sees =
      quiet_idle (LineClose line) is mine e sees refl (λ f k. f) refl (line_part shape vcpu found p.local (λ l. l.at) (λ l n s. refl) (LineClose line) refl) refl refl refl (line_part shape vcpu found p.local (λ l. l.phase) (λ l n s. refl) (LineClose line) refl) (λ key seen e. absurd (cc))
  idle_sees (TakeIndex word) is mine e proper sees = subst (λ s. Sees shape (later is) vcpu (told_now (TakeIndex word)) (now (TakeIndex word)) (word_taken s)) (sym e) tt
