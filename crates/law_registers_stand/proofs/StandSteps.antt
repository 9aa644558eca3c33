-- A vCPU's own steps keep what its registers stand for.
use Rattle.std.proofs.Common.{◌≡◌, ℕ, ◌^◌, ◌<◌, ◌≤◌, ◌==◌, ◌&&◌, ◌||◌, true≢false, not, Bool, true, false, IsTrue, List, [], ◌∷◌, ◌++◌, map, Option, Some, None, is_some, unwrap_or, if◌then◌else◌, refl, sym, ap, subst, ◌∙◌}
use Rattle.std.specs.List.{list_all}
use Rattle.std.proofs.lemmas.Bool.{and_parts}
use Rattle.std.proofs.lemmas.Option.{same_Some}
use Rattle.law_core_is_history.specs.Words.{IccReg, Key, GuestShape, has_interrupt, is_of_vcpu, is_same_key, IsShape, irq_of}
use Rattle.law_core_is_history.specs.Histories.{Ideal}
use Rattle.law_core_is_history.specs.Lists.{IchRegs, hcr_en, misr_of, Agrees, Active, chosen_as}
use Rattle.law_core_is_history.proofs.GicIcv.FollowLemmas.{follows}
use Rattle.law_core_is_history.specs.Registers.{InterfaceState, Maps}
use Rattle.law_core_is_history.specs.Core.{AtIrq, Local, Phase, Off, Scanning, Claiming, Loaded, Folding, Made, CoreStep, Look, Raise, Claim, GiveBack, Release, Poll, Kick, Touch, Want, WireUp, WireDown, EnableLpis, RamLook, RamPut, CtlrTake, CtlrEnd, TurnTake, CommandDone, TurnRelease, Mark, TakeIndex, LineEnter, LineLeave, LineFill, LineClose, Irq, Vcpu, Queue, Ctlr, Plain, Index, Line, Cands, accessed, claimed, concerned_by, interface_of, is_settled_by_look, local_after, shown, is_ready, succeeds, vcpu_of, is_vcpu, settled, entry_for, owing_both, CoreState, seat_at, IsLocal, IsSeatOf, Progress, Debt, paid, after_end, before_next, after_claim, after_poll, begun, is_end_of, is_paid, is_to_scan, owing_after, IsProperStep, is_empty, after_operation, alone, RegistersAgree, Scan, idle, is_idle, scan_looked, word_taken}
use Rattle.law_core_is_history.specs.Calls.{touched as touched_of}
use Rattle.law_core_is_history.specs.CoreProper.Progress.{changed_by}
use Rattle.law_core_is_history.proofs.CoreProper.InterfaceLemmas.{interface_accessed, is_interface}
use Rattle.law_core_is_history.specs.Related.{is_folding}
use Rattle.law_core_is_history.proofs.LineSteps.{line_part}
use Rattle.law_core_is_history.proofs.StepContext.{one, IsStep, finds as can_find}
use Rattle.law_registers_stand.specs.Stands.{takes_active}
use Rattle.law_registers_stand.proofs.EndLemmas.{far_agrees, settled_agrees}
use Rattle.law_registers_stand.proofs.FillLemmas.{alone_claims}
use Rattle.law_registers_stand.proofs.LookSteps.{fits_register}
use Rattle.law_registers_stand.proofs.StandLemmas.{Standing}

-- an actor after a step, before its scan goes on
abbrev pub after_made : GuestShape → ℕ → Made → Progress → Progress
after_made shape actor made p =
    record (changed_by shape actor made.step made.found (succeeds shape actor p.local made.step made.found) p) { local = local_after shape actor p.local made.step made.found; own = p.own ++ made ∷ [] }

-- Lists and phases.

empty_is : (at : List AtIrq) → IsTrue (is_empty at) → at ≡ []
empty_is [] h = refl
empty_is (one ∷ at) h = absurd (cc)

pub some_is : {X : Type 0} (o : Option X) → is_some o ≡ true → (x : X) × (o ≡ Some x)
some_is None e = absurd (cc)
some_is (Some x) e = (x, refl)

ready_unfolded : (phase : Phase) → IsTrue (is_folding phase) → IsTrue (is_ready phase) → ⊥
ready_unfolded Off h r = absurd (cc)
ready_unfolded Scanning h r = absurd (cc)
ready_unfolded Claiming h r = absurd (cc)
ready_unfolded Loaded h r = absurd (cc)
ready_unfolded Folding h r = absurd (cc)

-- where something was given back, not all is whole
given_there : (key : Key) (at : List AtIrq) (entry : AtIrq) → entry_for key at ≡ Some entry → entry.given ≡ true → list_all (λ (at : AtIrq). not at.given) at ≡ true → ⊥
given_there key [] entry e given whole = absurd (cc)
given_there key (first ∷ at) entry e given whole = of (is_same_key first.key key) e (and_parts (not first.given) (list_all (λ (at : AtIrq). not at.given) at) whole) (given_there key at entry)
  where
    of : (b : Bool) → (if b then Some first else entry_for key at) ≡ Some entry → (not first.given ≡ true) × (list_all (λ (at : AtIrq). not at.given) at ≡ true) → (entry_for key at ≡ Some entry → entry.given ≡ true → list_all (λ (at : AtIrq). not at.given) at ≡ true → ⊥) → ⊥
    of true e parts later = true≢false (sym parts.0 ∙ ap (λ (x : AtIrq). not x.given) (same_Some first entry e) ∙ ap not given)
    of false e parts later = later e given parts.1

pub either : {X : Type 0} (part : Local → X) (b : Bool) (x y : Local) → part x ≡ part y → part (if b then x else y) ≡ part y
either part true x y e = e
either part false x y e = refl

-- what a look at an interrupt leaves
pub look_part : (shape : GuestShape) (vcpu found : ℕ) (before : Local) {X : Type 0} (part : Local → X) (key : Key) → ((local : Local) (cands : Cands) → part (record local { cands = cands }) ≡ part local) → part (local_after shape vcpu before (Look (Irq key)) found) ≡ part before
look_part shape vcpu found before part key same = either part (is_settled_by_look shape vcpu (irq_of found)) (record before { cands = settled shape vcpu key before.cands }) before (same before (settled shape vcpu key before.cands))

-- Debts.

pub or_paid : (finds : Bool) (d e : Debt) → (IsTrue (is_paid d) → IsTrue (is_paid e)) → IsTrue (finds || is_paid d) → IsTrue (finds || is_paid e)
or_paid true d e to h = refl
or_paid false d e to h = to h

pub paid_before : (regs : IchRegs) (trapping : Bool) (debt : Debt) → IsTrue (is_paid (if is_to_scan regs trapping debt then before_next else paid)) → IsTrue (is_paid debt)
paid_before regs trapping debt h = of (not (misr_of regs == 0)) trapping debt h
  where
    of : (a b : Bool) (debt : Debt) → IsTrue (is_paid (if a || b || not (is_paid debt) then before_next else paid)) → IsTrue (is_paid debt)
    of true b debt h = absurd (cc)
    of false true debt h = absurd (cc)
    of false false paid h = refl
    of false false after_end h = absurd (cc)
    of false false before_next h = absurd (cc)

pub unpaid_end : (finds : Bool) (debt : Debt) → IsTrue (finds || is_paid (owing_after debt)) → IsTrue finds
unpaid_end true debt h = refl
unpaid_end false paid h = absurd (cc)
unpaid_end false after_end h = absurd (cc)
unpaid_end false before_next h = absurd (cc)

-- What a step changes nothing of.

pub quiet :
    (finds : Bool) (shape : GuestShape) (vcpu : ℕ) (p q : Progress) → p.scan ≡ idle → Standing finds shape vcpu p p.scan → q.scan ≡ p.scan → q.regs ≡ p.regs → q.local.at ≡ p.local.at → q.local.cpu ≡ p.local.cpu → (IsTrue (is_ready q.local.phase) → IsTrue (is_ready p.local.phase))
    → (IsTrue (finds || is_paid q.debt) → IsTrue (finds || is_paid p.debt)) → Standing finds shape vcpu q q.scan
quiet finds shape vcpu p q e is same regs at cpu phase debt =
    subst (Standing finds shape vcpu q) (sym (same ∙ e)) (λ ready owed.
    subst (λ r. Agrees r (interface_of q.local)) (sym regs)
    (subst (λ c. Agrees p.regs (record { cpu = c; at = map shown q.local.at })) (sym cpu)
    (subst (λ at. Agrees p.regs (record { cpu = p.local.cpu; at = map shown at })) (sym at) (subst (Standing finds shape vcpu p) e is (phase ready) (debt owed)))))

-- An access.

opened : (trapping : Bool) (regs : IchRegs) (interface : InterfaceState) → Agrees regs interface → Agrees (if trapping then record regs { hcr = 2 ^ hcr_en } else regs) interface
opened true regs interface agrees = record { holds = record { enabled = refl; vmcr = agrees.holds.vmcr; ap0 = agrees.holds.ap0; ap1 = agrees.holds.ap1 }; same = agrees.same; once = agrees.once }
opened false regs interface agrees = agrees

pub access_agrees : (shape : GuestShape) (vcpu : ℕ) (trapping : Bool) (reg : IccReg) (write : Option ℕ) (regs : IchRegs) (local : Local) → IsShape shape → IsLocal shape vcpu local → RegistersAgree regs local → RegistersAgree (after_operation trapping reg write regs) (accessed reg write local)
access_agrees shape vcpu trapping reg write regs local good is_local agrees =
    let open_regs = if trapping then record regs { hcr = 2 ^ hcr_en } else regs in
    subst (Agrees (after_operation trapping reg write regs)) (sym (interface_accessed reg write local))
    (follows reg write open_regs (interface_of local) (is_interface shape vcpu local good is_local) (opened trapping regs (interface_of local) agrees)).registers

module _ (finds : Bool) (shape : GuestShape) (state : CoreState) (ideal : Ideal) (vcpu found left : ℕ) (tables : Option Maps) (within : vcpu < shape.vcpus) (p : Progress) (seat : IsSeatOf p (seat_at state vcpu)) (some : 1 ≤ p.lrs) (few : p.lrs ≤ 16) where
  abbrev made_by : CoreStep → Made
  made_by step = (one vcpu step found left tables).made

  abbrev now : CoreStep → Progress
  now step = after_made shape vcpu (made_by step) p

  -- With no scan in progress.

  -- an end of interrupt of one that is not at the interface
  far_end : (key : Key) (seen : ℕ) (is : IsStep shape state ideal vcpu (Claim key seen) found left tables) → p.scan ≡ idle → IsProperStep shape vcpu p (Claim key seen) → (IsTrue finds → IsTrue (takes_active vcpu p.scan (Claim key seen) found)) → IsLocal shape vcpu p.local → IsLocal shape vcpu (now (Claim key seen)).local
      → Standing finds shape vcpu (now (Claim key seen)) (now (Claim key seen)).scan
  far_end key seen is e proper active is_local after =
      let done = succeeds shape vcpu p.local (Claim key seen) found in
      let by : Scan → Progress = λ s. record (after_claim key (irq_of found) done s p) { local = local_after shape vcpu p.local (Claim key seen) found; own = p.own ++ made_by (Claim key seen) ∷ [] } in
      subst (λ s. Standing finds shape vcpu (by s) (by s).scan) (sym e) (subst (Standing finds shape vcpu (by idle)) (sym e) (λ ready owed. of done (unpaid_end finds p.debt owed) after))
    where
      empty : p.local.at ≡ []
      empty =
          let test : IsTrue (not (is_idle p.scan) || (unwrap_or p.far false && is_end_of shape vcpu p.operation key && is_empty p.local.at)) = proper.far in
          let parts : IsTrue (unwrap_or p.far false && is_end_of shape vcpu p.operation key && is_empty p.local.at) = subst (λ s. IsTrue (not (is_idle s) || (unwrap_or p.far false && is_end_of shape vcpu p.operation key && is_empty p.local.at))) e test in
          empty_is p.local.at (and_parts (unwrap_or p.far false && is_end_of shape vcpu p.operation key) (is_empty p.local.at) parts).1

      there : IsTrue (has_interrupt shape key)
      there = (and_parts (is_vcpu shape vcpu && is_of_vcpu vcpu key) (has_interrupt shape key) is.takes.can).1

      of : (b : Bool) → IsTrue finds → IsLocal shape vcpu (if b then claimed shape vcpu key found p.local else p.local)
          → RegistersAgree (alone (if b then Some (chosen_as Active (record { key = key; irq = irq_of found })) else None) p.local.cpu p.lrs) (if b then claimed shape vcpu key found p.local else p.local)
      of true f later =
          far_agrees shape vcpu p.lrs p.local key (irq_of found) some few empty (fits_register shape key found is.good there (can_find is).valid) (subst (λ s. IsTrue (takes_active vcpu s (Claim key seen) found)) e (active f)) is.good later
      of false f later = settled_agrees shape vcpu p.local p.own (alone None p.local.cpu p.lrs) is.good is_local (alone_claims shape vcpu p.lrs some few p.local empty p.own None (λ offer e. absurd (cc)))

  -- an access, or a look for a kick with which a scan begins
  polls : (reg : Option IccReg) (write : Option ℕ) (is : IsStep shape state ideal vcpu (Poll reg write) found left tables) → p.scan ≡ idle → IsLocal shape vcpu p.local → Standing finds shape vcpu p p.scan → Standing finds shape vcpu (now (Poll reg write)) (now (Poll reg write)).scan
  polls None write is e is_local before = of (unwrap_or p.far false)
    where
      empty : p.local.at ≡ []
      empty = ap (λ (l : Local). l.at) seat.local ∙ is.takes.meets

      of : (b : Bool) → let q = record (begun b p) { local = local_after shape vcpu p.local (Poll None write) found; own = p.own ++ made_by (Poll None write) ∷ [] } in Standing finds shape vcpu q q.scan
      of true = empty
      of false = empty
  polls (Some reg) write is e is_local before = of (vcpu_of found).kick
    where
      of : (b : Bool) → let q = record (after_poll (Some reg) write b p) { local = if b then record p.local { phase = Folding } else accessed reg write p.local; own = p.own ++ made_by (Poll (Some reg) write) ∷ [] } in Standing finds shape vcpu q q.scan
      of true = subst (λ s. Standing finds shape vcpu (record (after_poll (Some reg) write true p) { local = record p.local { phase = Folding }; own = p.own ++ made_by (Poll (Some reg) write) ∷ [] }) s) (sym e) (λ ready owed. absurd (cc))
      of false =
          let regs = after_operation p.trapping reg write p.regs in
          let ready_now : IsTrue (is_ready p.local.phase) = subst (λ (l : Local). IsTrue (is_ready l.phase)) (sym seat.local) is.takes.meets in
          subst (λ s. Standing finds shape vcpu (record (after_poll (Some reg) write false p) { local = accessed reg write p.local; own = p.own ++ made_by (Poll (Some reg) write) ∷ [] }) s) (sym e) (λ ready owed.
          access_agrees shape vcpu p.trapping reg write p.regs p.local is.good is_local
          (subst (Standing finds shape vcpu p) e before ready_now (or_paid finds (if is_to_scan regs p.trapping p.debt then before_next else paid) p.debt (paid_before regs p.trapping p.debt) owed)))

  -- a release comes after what it releases was given back, while the vCPU folds
  pub releases : (key : Key) (is : IsStep shape state ideal vcpu (Release key) found left tables) → IsTrue (is_ready p.local.phase) → ⊥
  releases key is ready =
      let can = is.takes.meets in
      let local = (seat_at state vcpu).local in
      let given : IsTrue (is_folding local.phase || list_all (λ (at : AtIrq). not at.given) local.at) = (is.related.seats vcpu within).given in
      of local.phase (list_all (λ (at : AtIrq). not at.given) local.at) given (subst (λ (l : Local). IsTrue (is_ready l.phase)) seat.local ready) (λ whole. given_there key local.at can.entry can.at can.given whole)
    where
      of : (phase : Phase) (b : Bool) → IsTrue (is_folding phase || b) → IsTrue (is_ready phase) → (b ≡ true → ⊥) → ⊥
      of Off b h r never = never h
      of Scanning b h r never = never h
      of Claiming b h r never = never h
      of Loaded b h r never = never h
      of Folding b h r never = absurd (cc)

  pub idle_step :
      (step : CoreStep) (is : IsStep shape state ideal vcpu step found left tables) → p.scan ≡ idle → IsProperStep shape vcpu p step → (IsTrue finds → IsTrue (takes_active vcpu p.scan step found)) → IsLocal shape vcpu p.local → IsLocal shape vcpu (now step).local → Standing finds shape vcpu p p.scan
      → Standing finds shape vcpu (now step) (now step).scan
  idle_step (Look (Irq key)) is e proper active is_local after before =
      quiet finds shape vcpu p (now (Look (Irq key))) e before (ap (scan_looked shape key (irq_of found)) e ∙ sym e) refl (look_part shape vcpu found p.local (λ l. l.at) key (λ l c. refl)) (look_part shape vcpu found p.local (λ l. l.cpu) key (λ l c. refl)) (subst (λ phase. IsTrue (is_ready phase)) (look_part shape vcpu found p.local (λ l. l.phase) key (λ l c. refl))) (λ h. h)
  idle_step (Look (Vcpu v)) is e proper active is_local after before = quiet finds shape vcpu p (now (Look (Vcpu v))) e before refl refl refl refl (λ h. h) (λ h. h)
  idle_step (Look Queue) is e proper active is_local after before = quiet finds shape vcpu p (now (Look Queue)) e before refl refl refl refl (λ h. h) (λ h. h)
  idle_step (Look Ctlr) is e proper active is_local after before = quiet finds shape vcpu p (now (Look Ctlr)) e before refl refl refl refl (λ h. h) (λ h. h)
  idle_step (Look (Plain i)) is e proper active is_local after before = quiet finds shape vcpu p (now (Look (Plain i))) e before refl refl refl refl (λ h. h) (λ h. h)
  idle_step (Look (Index v n)) is e proper active is_local after before = quiet finds shape vcpu p (now (Look (Index v n))) e before refl refl refl refl (λ h. h) (λ h. h)
  idle_step (Look (Line n)) is e proper active is_local after before =
      quiet finds shape vcpu p (now (Look (Line n))) e before refl refl (line_part shape vcpu found p.local (λ l. l.at) (λ l n s. refl) (Look (Line n)) refl) (line_part shape vcpu found p.local (λ l. l.cpu) (λ l n s. refl) (Look (Line n)) refl) (subst (λ phase. IsTrue (is_ready phase)) (line_part shape vcpu found p.local (λ l. l.phase) (λ l n s. refl) (Look (Line n)) refl)) (λ h. h)
  idle_step (Raise key) is e proper active is_local after before = quiet finds shape vcpu p (now (Raise key)) e before refl refl refl refl (λ h. h) (λ h. h)
  idle_step (Claim key seen) is e proper active is_local after before = far_end key seen is e proper active is_local after
  idle_step (GiveBack key back) is e proper active is_local after before = subst (Standing finds shape vcpu (now (GiveBack key back))) (sym e) (λ ready owed. absurd (cc))
  idle_step (Release key) is e proper active is_local after before = subst (Standing finds shape vcpu (now (Release key))) (sym e) (λ ready owed. absurd (releases key is ready))
  idle_step (Poll reg write) is e proper active is_local after before = polls reg write is e is_local before
  idle_step (Kick v) is e proper active is_local after before = quiet finds shape vcpu p (now (Kick v)) e before refl refl refl refl (λ h. h) (λ h. h)
  idle_step (Touch key seen kind) is e proper active is_local after before =
      let done = succeeds shape vcpu p.local (Touch key seen kind) found in
      let touched = owing_both key (concerned_by shape (irq_of found) (touched_of shape key kind (irq_of found))) p.local in
      quiet finds shape vcpu p (now (Touch key seen kind)) e before refl refl (either (λ l. l.at) done touched p.local refl) (either (λ l. l.cpu) done touched p.local refl) (subst (λ phase. IsTrue (is_ready phase)) (either (λ l. l.phase) done touched p.local refl)) (λ h. h)
  idle_step (Want key) is e proper active is_local after before = quiet finds shape vcpu p (now (Want key)) e before refl refl refl refl (λ h. h) (λ h. h)
  idle_step (WireUp key) is e proper active is_local after before = quiet finds shape vcpu p (now (WireUp key)) e before refl refl refl refl (λ h. h) (λ h. h)
  idle_step (WireDown key) is e proper active is_local after before = quiet finds shape vcpu p (now (WireDown key)) e before refl refl refl refl (λ h. h) (λ h. h)
  idle_step (EnableLpis v) is e proper active is_local after before = quiet finds shape vcpu p (now (EnableLpis v)) e before refl refl refl refl (λ h. h) (λ h. h)
  idle_step (RamLook i) is e proper active is_local after before = quiet finds shape vcpu p (now (RamLook i)) e before refl refl refl refl (λ h. h) (λ h. h)
  idle_step (RamPut i seen value) is e proper active is_local after before =
      let done = succeeds shape vcpu p.local (RamPut i seen value) found in
      quiet finds shape vcpu p (now (RamPut i seen value)) e before refl refl (either (λ l. l.at) done p.local p.local refl) (either (λ l. l.cpu) done p.local p.local refl) (subst (λ phase. IsTrue (is_ready phase)) (either (λ l. l.phase) done p.local p.local refl)) (λ h. h)
  idle_step (CtlrTake seen value) is e proper active is_local after before =
      let done = succeeds shape vcpu p.local (CtlrTake seen value) found in
      let taken = record p.local { ctlr = true } in
      quiet finds shape vcpu p (now (CtlrTake seen value)) e before refl refl (either (λ l. l.at) done taken p.local refl) (either (λ l. l.cpu) done taken p.local refl) (subst (λ phase. IsTrue (is_ready phase)) (either (λ l. l.phase) done taken p.local refl)) (λ h. h)
  idle_step CtlrEnd is e proper active is_local after before = quiet finds shape vcpu p (now CtlrEnd) e before refl refl refl refl (λ h. h) (λ h. h)
  idle_step (TurnTake seen) is e proper active is_local after before =
      let done = succeeds shape vcpu p.local (TurnTake seen) found in
      let taken = record p.local { turn = true } in
      quiet finds shape vcpu p (now (TurnTake seen)) e before refl refl (either (λ l. l.at) done taken p.local refl) (either (λ l. l.cpu) done taken p.local refl) (subst (λ phase. IsTrue (is_ready phase)) (either (λ l. l.phase) done taken p.local refl)) (λ h. h)
  idle_step (CommandDone offset stalled ending) is e proper active is_local after before = quiet finds shape vcpu p (now (CommandDone offset stalled ending)) e before refl refl refl refl (λ h. h) (λ h. h)
  idle_step TurnRelease is e proper active is_local after before = quiet finds shape vcpu p (now TurnRelease) e before refl refl refl refl (λ h. h) (λ h. h)
  idle_step (Mark key v) is e proper active is_local after before = quiet finds shape vcpu p (now (Mark key v)) e before refl refl refl refl (λ h. h) (λ h. h)
  idle_step (LineEnter line seen) is e proper active is_local after before =
      quiet finds shape vcpu p (now (LineEnter line seen)) e before refl refl (line_part shape vcpu found p.local (λ l. l.at) (λ l n s. refl) (LineEnter line seen) refl) (line_part shape vcpu found p.local (λ l. l.cpu) (λ l n s. refl) (LineEnter line seen) refl) (subst (λ phase. IsTrue (is_ready phase)) (line_part shape vcpu found p.local (λ l. l.phase) (λ l n s. refl) (LineEnter line seen) refl)) (λ h. h)
  idle_step (LineLeave line) is e proper active is_local after before =
      quiet finds shape vcpu p (now (LineLeave line)) e before refl refl (line_part shape vcpu found p.local (λ l. l.at) (λ l n s. refl) (LineLeave line) refl) (line_part shape vcpu found p.local (λ l. l.cpu) (λ l n s. refl) (LineLeave line) refl) (subst (λ phase. IsTrue (is_ready phase)) (line_part shape vcpu found p.local (λ l. l.phase) (λ l n s. refl) (LineLeave line) refl)) (λ h. h)
  idle_step (LineFill line device event lpi) is e proper active is_local after before =
      quiet finds shape vcpu p (now (LineFill line device event lpi)) e before refl refl (line_part shape vcpu found p.local (λ l. l.at) (λ l n s. refl) (LineFill line device event lpi) refl) (line_part shape vcpu found p.local (λ l. l.cpu) (λ l n s. refl) (LineFill line device event lpi) refl) (subst (λ phase. IsTrue (is_ready phase)) (line_part shape vcpu found p.local (λ l. l.phase) (λ l n s. refl) (LineFill line device event lpi) refl)) (λ h. h)
  idle_step (LineClose line) is e proper active is_local after before =
      quiet finds shape vcpu p (now (LineClose line)) e before refl refl (line_part shape vcpu found p.local (λ l. l.at) (λ l n s. refl) (LineClose line) refl) (line_part shape vcpu found p.local (λ l. l.cpu) (λ l n s. refl) (LineClose line) refl) (subst (λ phase. IsTrue (is_ready phase)) (line_part shape vcpu found p.local (λ l. l.phase) (λ l n s. refl) (LineClose line) refl)) (λ h. h)
  idle_step (TakeIndex word) is e proper active is_local after before =
      subst (λ s. Standing finds shape vcpu (now (TakeIndex word)) (word_taken s)) (sym e)
      (empty_is p.local.at (and_parts (p.trapping && word == 0) (is_empty p.local.at) (subst (λ s. IsTrue (not (is_idle s) || (p.trapping && word == 0 && is_empty p.local.at))) e proper.trap)).1)
