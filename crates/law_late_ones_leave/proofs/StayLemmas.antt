-- What a vCPU's own step keeps: what stands at its interface, a scan that it owes, and whether it owes itself a kick.
use Rattle.std.proofs.Common.{◌≡◌, ℕ, ◌==◌, ◌&&◌, ◌||◌, ◌⊎◌, inl, inr, true≢false, not, Bool, true, false, IsTrue, List, [], ◌∷◌, ◌++◌, Option, Some, None, if◌then◌else◌, refl, sym, ap, ◌∙◌, subst}
use Rattle.std.proofs.lemmas.Bool.{eq-eqb}
use Rattle.law_scans_miss_none.specs.Words.{IccReg, Key, GuestShape, intid_of, is_same_key, has_bit, is_number, irq_of}
use Rattle.law_scans_miss_none.proofs.GicBase.KeyLemmas.{same_itself}
use Rattle.law_scans_miss_none.specs.Calls.{Event, Cpu, Take, Reach, Put, Found, Happened, plain_at}
use Rattle.law_scans_miss_none.specs.GicCall.declared.event.Event.TheVariants.{Read}
use Rattle.law_scans_miss_none.specs.GicCall.declared.event.Found.TheVariants.{Answer, Nothing, Word as FoundWord}
use Rattle.law_scans_miss_none.specs.GicCall.declared.event.Place.TheVariants.{Word}
use Rattle.law_scans_miss_none.specs.Registers.{deactivated_by, taken_by, candidates_at, interface_answer}
use Rattle.law_scans_miss_none.specs.Core.{AtIrq, Local, Folding, Made, CoreStep, Look, Raise, Claim, GiveBack, Release, Poll, Kick, Touch, Want, WireUp, WireDown, EnableLpis, RamLook, RamPut, CtlrTake, CtlrEnd, TurnTake, CommandDone, TurnRelease, Mark, TakeIndex, LineEnter, LineLeave, LineFill, LineClose, Irq, Vcpu, Queue, Ctlr, Plain, Index, Line, accessed, acknowledged_entry, changed_id, deactivated_entry, id_of, interface_of, is_settled_by_look, local_after, local_done, target_of, fault_place, is_active_at, moved_irq, succeeds, vcpu_of, arrived, changed_at, is_at, settled, with_all, with_entry, event_done, silent, stands_for, with_found, Debt, paid, after_end, before_next, Progress, after_claim, after_poll, is_paid, is_to_scan, owing_after, after_operation, Scan, idle, taking, looking, claiming}
use Rattle.law_scans_miss_none.proofs.PortCore.AtLemmas.{is_at_added, is_at_mapped, is_at_without}
use Rattle.law_scans_miss_none.proofs.PortCore.StepLocals.{and_bit, or_bit, pow_bit}
use Rattle.law_scans_miss_none.proofs.LawCoreIsHistory.LineSteps.{line_done}
use Rattle.law_scans_miss_none.specs.CoreProper.Progress.{changed_by}
use Rattle.law_scans_miss_none.specs.Index.{owes_kick}
use Rattle.law_scans_miss_none.proofs.IndexSteps.{look_owes, poll_owes}
use Rattle.law_late_ones_leave.proofs.LeavingLemmas.{is_access, makes_one, stays_in}

-- What stands at the interface.

-- a change of some entries leaves each where it is
kept_by : (test : AtIrq → Bool) (change : AtIrq → AtIrq) → ((entry : AtIrq) → (change entry).key ≡ entry.key) → (entry : AtIrq) → (if test entry then change entry else entry).key ≡ entry.key
kept_by test change keeps entry = of (test entry)
  where
    of : (b : Bool) → (if b then change entry else entry).key ≡ entry.key
    of true = keeps entry
    of false = refl

at_changed : (change : AtIrq → AtIrq) → ((entry : AtIrq) → (change entry).key ≡ entry.key) → (k key : Key) (at : List AtIrq) → is_at key (changed_at change k at) ≡ is_at key at
at_changed change keeps k key at = is_at_mapped (λ entry. if is_same_key entry.key k then change entry else entry) (kept_by (λ entry. is_same_key entry.key k) change keeps) key at

at_id : (change : AtIrq → AtIrq) → ((entry : AtIrq) → (change entry).key ≡ entry.key) → (id : Option ℕ) (key : Key) (at : List AtIrq) → is_at key (changed_id change id at) ≡ is_at key at
at_id change keeps id key at = is_at_mapped (λ entry. if is_number (intid_of entry.key) id then change entry else entry) (kept_by (λ entry. is_number (intid_of entry.key) id) change keeps) key at

at_accessed : (reg : IccReg) (write : Option ℕ) (local : Local) (key : Key) → is_at key (accessed reg write local).at ≡ is_at key local.at
at_accessed reg write local key =
    let taken = id_of (taken_by reg write local.cpu (candidates_at (interface_of local))) in
    at_id deactivated_entry (λ entry. refl) (deactivated_by reg write local.cpu) key (changed_id acknowledged_entry taken local.at) ∙ at_id acknowledged_entry (λ entry. refl) taken key local.at

-- all that stands there stays, but for an interrupt that leaves
pub stays_at :
    (shape : GuestShape) (actor : ℕ) (local : Local) (own : List Made) (step : CoreStep) (found : ℕ) (pair : ℕ × Key) → pair.0 ≡ actor → is_at pair.1 local.at ≡ true → stays_in (stands_for shape actor local own step found) pair ≡ true
    → is_at pair.1 (local_after shape actor local step found).at ≡ true
stays_at shape actor local own step found pair mine at stays = of (succeeds shape actor local step found) stays
  where
    key : Key
    key = pair.1

    either : (b : Bool) (x : Local) → x.at ≡ local.at → is_at pair.1 (if b then x else local).at ≡ true
    either true x e = ap (is_at pair.1) e ∙ at
    either false x e = at

    claimed_so : (k : Key) (b : Bool) (entry : AtIrq) (change : AtIrq → AtIrq) → ((one : AtIrq) → (change one).key ≡ one.key) → is_at pair.1 (if b then changed_at change k local.at else local.at ++ entry ∷ []) ≡ true
    claimed_so k true entry change keeps = at_changed change keeps k pair.1 local.at ∙ at
    claimed_so k false entry change keeps = is_at_added pair.1 local.at entry ∙ ap (λ b. b || is_same_key entry.key pair.1) at

    polled_so : (reg : IccReg) (write : Option ℕ) (b : Bool) → is_at pair.1 (if b then record local { phase = Folding } else accessed reg write local).at ≡ true
    polled_so reg write true = at
    polled_so reg write false = at_accessed reg write local pair.1 ∙ at

    other : (k : Key) (a b : Bool) → a ≡ true → b ≡ true → not (a && b) ≡ true → ⊥
    other k a b e f h = true≢false (sym h ∙ ap (λ c. not (c && b)) e ∙ ap not f)

    done : (step : CoreStep) → stays_in (event_done shape actor local own step found) pair ≡ true → is_at pair.1 (local_done shape actor local step found).at ≡ true
    done (Look (Irq k)) h = either (is_settled_by_look shape actor (irq_of found)) (record local { cands = settled shape actor k local.cands }) refl
    done (Look (Vcpu v)) h = at
    done (Look Queue) h = at
    done (Look Ctlr) h = at
    done (Look (Plain i)) h = at
    done (Look (Index v n)) h = at
    done (Look (Line n)) h = ap (is_at pair.1) (line_done shape actor found local (λ l. l.at) (λ l n s. refl) (Look (Line n)) refl) ∙ at
    done (Raise k) h = at
    done (Claim k seen) h = claimed_so k (is_at k local.at) (arrived k (irq_of found) (moved_irq actor local k (irq_of found)).entry) (λ entry. record (with_entry entry (moved_irq actor local k (irq_of found)).entry) { consumed = false }) (λ entry. refl)
    done (GiveBack k back) h = at_changed (λ entry. record entry { given = true }) (λ entry. refl) k pair.1 local.at ∙ at
    done (Release k) h = is_at_without k pair.1 local.at (λ same. other k (pair.0 == actor) (is_same_key pair.1 k) (eq-eqb pair.0 actor mine) (subst (λ j. is_same_key pair.1 j ≡ true) same (same_itself pair.1)) h) ∙ at
    done (Poll None write) h = at
    done (Poll (Some reg) write) h = polled_so reg write (vcpu_of found).kick
    done (Kick v) h = at
    done (Touch k seen kind) h = at
    done (Want k) h = at
    done (WireUp k) h = at
    done (WireDown k) h = at
    done (EnableLpis v) h = at
    done (RamLook index) h = at
    done (RamPut index seen value) h = at
    done (CtlrTake seen value) h = at
    done CtlrEnd h = at
    done (TurnTake seen) h = at
    done (CommandDone offset stalled ending) h = at
    done TurnRelease h = at
    done (Mark k v) h = at
    done (TakeIndex word) h = at
    done (LineEnter line seen) h = at
    done (LineLeave line) h = at
    done (LineFill line device event lpi) h = at
    done (LineClose line) h = ap (is_at pair.1) (line_done shape actor found local (λ l. l.at) (λ l n s. refl) (LineClose line) refl) ∙ at

    of : (b : Bool) → stays_in (if b then event_done shape actor local own step found else None) pair ≡ true → is_at pair.1 (if b then local_done shape actor local step found else local).at ≡ true
    of true h = done step h
    of false h = at

-- Scans that are owed.

-- a scan that is owed stays so until one begins
pub owed_on : (shape : GuestShape) (actor : ℕ) (step : CoreStep) (found : ℕ) (done : Bool) (p : Progress) → ((write : Option ℕ) → step ≡ Poll None write → ⊥) → is_paid p.debt ≡ false → is_paid (changed_by shape actor step found done p).debt ≡ false
owed_on shape actor (Look (Irq k)) found done p begins e = e
owed_on shape actor (Look (Vcpu v)) found done p begins e = e
owed_on shape actor (Look Queue) found done p begins e = e
owed_on shape actor (Look Ctlr) found done p begins e = e
owed_on shape actor (Look (Plain i)) found done p begins e = e
owed_on shape actor (Look (Index v n)) found done p begins e = e
owed_on shape actor (Look (Line n)) found done p begins e = e
owed_on shape actor (Raise k) found done p begins e = e
owed_on shape actor (Claim k seen) found done p begins e = of p.scan
  where
    after : (debt : Debt) → is_paid (owing_after debt) ≡ false
    after paid = refl
    after after_end = refl
    after before_next = refl

    of : (scan : Scan) → is_paid (after_claim k (irq_of found) done scan p).debt ≡ false
    of idle = after p.debt
    of (taking purpose words) = after p.debt
    of (looking purpose from offers) = after p.debt
    of (claiming claims takes) = e
owed_on shape actor (GiveBack k back) found done p begins e = e
owed_on shape actor (Release k) found done p begins e = e
owed_on shape actor (Poll None write) found done p begins e = absurd (begins write refl)
owed_on shape actor (Poll (Some reg) write) found done p begins e = of (vcpu_of found).kick
  where
    unpaid : (a : Bool) → is_paid (if a || not (is_paid p.debt) then before_next else paid) ≡ false
    unpaid true = refl
    unpaid false = ap (λ b. is_paid (if not b then before_next else paid)) e

    two : (a t : Bool) → is_paid (if a || t || not (is_paid p.debt) then before_next else paid) ≡ false
    two true t = refl
    two false t = unpaid t

    of : (b : Bool) → is_paid (after_poll (Some reg) write b p).debt ≡ false
    of true = e
    of false = ap (λ b. is_paid (if b then before_next else paid)) (owes (is_to_scan (after_operation p.trapping reg write p.regs) p.trapping p.debt) (two _ p.trapping))
      where
        owes : (b : Bool) → is_paid (if b then before_next else paid) ≡ false → b ≡ true
        owes true h = refl
        owes false h = absurd (true≢false h)
owed_on shape actor (Kick v) found done p begins e = e
owed_on shape actor (Touch k seen kind) found done p begins e = e
owed_on shape actor (Want k) found done p begins e = e
owed_on shape actor (WireUp k) found done p begins e = e
owed_on shape actor (WireDown k) found done p begins e = e
owed_on shape actor (EnableLpis v) found done p begins e = e
owed_on shape actor (RamLook index) found done p begins e = e
owed_on shape actor (RamPut index seen value) found done p begins e = e
owed_on shape actor (CtlrTake seen value) found done p begins e = e
owed_on shape actor CtlrEnd found done p begins e = e
owed_on shape actor (TurnTake seen) found done p begins e = e
owed_on shape actor (CommandDone offset stalled ending) found done p begins e = e
owed_on shape actor TurnRelease found done p begins e = e
owed_on shape actor (Mark k v) found done p begins e = e
owed_on shape actor (TakeIndex word) found done p begins e = e
owed_on shape actor (LineEnter line seen) found done p begins e = e
owed_on shape actor (LineLeave line) found done p begins e = e
owed_on shape actor (LineFill line device event lpi) found done p begins e = e
owed_on shape actor (LineClose line) found done p begins e = e

-- Kicks.

-- a vCPU that owes itself a kick after a step owed it before, or the step is of an interrupt
pub kick_before : (shape : GuestShape) (vcpu : ℕ) (local : Local) (own : List Made) (step : CoreStep) (found : ℕ) → IsTrue (owes_kick vcpu (local_after shape vcpu local step found)) → IsTrue (owes_kick vcpu local) ⊎ (makes_one (stands_for shape vcpu local own step found) ≡ true)
kick_before shape vcpu local own step found h = of (succeeds shape vcpu local step found) h
  where
    released_so : (active here : Bool) (target : Option ℕ) → is_number vcpu target ≡ here → IsTrue (has_bit (with_all local.owes ((if active || here then None else target) ∷ [])).0 vcpu) → IsTrue (owes_kick vcpu local)
    released_so true here target e h = h
    released_so false true target e h = h
    released_so false false None e h = h
    released_so false false (Some t) e h = elim (or_bit local.owes.0 _ vcpu h) [
      | inl was ↦ was
      | inr new ↦ absurd (true≢false (sym (eq-eqb t vcpu (sym (pow_bit t vcpu new))) ∙ e))
    ]

    done : (s : CoreStep) → IsTrue (owes_kick vcpu (local_done shape vcpu local s found)) → IsTrue (owes_kick vcpu local) ⊎ (makes_one (event_done shape vcpu local own s found) ≡ true)
    done (Look word) h = inl (subst (λ o. IsTrue (has_bit o.0 vcpu)) (look_owes shape vcpu word found local) h)
    done (Raise k) h = inr refl
    done (Claim k seen) h = inl h
    done (GiveBack k back) h = inl h
    done (Release k) h = inl (released_so (is_active_at k local) (is_number vcpu (target_of shape (irq_of found))) (target_of shape (irq_of found)) refl h)
    done (Poll reg write) h = inl (subst (λ o. IsTrue (has_bit o.0 vcpu)) (poll_owes reg write found local) h)
    done (Kick v) h = inl (and_bit local.owes.0 _ vcpu h)
    done (Touch k seen kind) h = inr refl
    done (Want k) h = inl h
    done (WireUp k) h = inr refl
    done (WireDown k) h = inr refl
    done (EnableLpis v) h = inl h
    done (RamLook index) h = inl h
    done (RamPut index seen value) h = inl h
    done (CtlrTake seen value) h = inl h
    done CtlrEnd h = inl h
    done (TurnTake seen) h = inl h
    done (CommandDone offset stalled ending) h = inl h
    done TurnRelease h = inl h
    done (Mark k v) h = inl h
    done (TakeIndex word) h = inl h
    done (LineEnter line seen) h = inl h
    done (LineLeave line) h = inl h
    done (LineFill line device event lpi) h = inl h
    done (LineClose line) h = inl (subst (λ o. IsTrue (has_bit o.0 vcpu)) (line_done shape vcpu found local (λ l. l.owes) (λ l n s. refl) (LineClose line) refl) h)

    of : (b : Bool) → IsTrue (owes_kick vcpu (if b then local_done shape vcpu local step found else local)) → IsTrue (owes_kick vcpu local) ⊎ (makes_one (if b then event_done shape vcpu local own step found else None) ≡ true)
    of true h = done step h
    of false h = inl h

-- Accesses.

-- a step that stands for an access is a look of a vCPU that is not kicked
pub record IsAccess (vcpu : ℕ) (step : CoreStep) (found : ℕ) (event : Event) : Type 0 where
  pub reg : IccReg
  pub write : Option ℕ
  pub step_is : step ≡ Poll (Some reg) write
  pub unkicked : (vcpu_of found).kick ≡ false
  pub event_is : event ≡ Cpu vcpu reg write

pub access_so : (shape : GuestShape) (vcpu : ℕ) (local : Local) (own : List Made) (step : CoreStep) (found : ℕ) (one : Happened) → stands_for shape vcpu local own step found ≡ Some one → (is_access one.event ≡ false) ⊎ IsAccess vcpu step found one.event
access_so shape vcpu local own step found one e = of (succeeds shape vcpu local step found) e
  where
    other : (event : Event) (what : Found) → is_access event ≡ false → with_found event what ≡ Some one → (is_access one.event ≡ false) ⊎ IsAccess vcpu step found one.event
    other event what quiet e = inl (ap is_access (sym (event_is (record { event = event; found = what }) one e)) ∙ quiet)
      where
        event_is : (x y : Happened) → Some x ≡ Some y → x.event ≡ y.event
        event_is x y e = cc

    never : {T : Type 0} → None ≡ Some one → T
    never e = absurd (cc)

    plain : (b : Bool) (event : Event) (what : Found) → is_access event ≡ false → (if b then None else with_found event what) ≡ Some one → (is_access one.event ≡ false) ⊎ IsAccess vcpu step found one.event
    plain true event what quiet e = never e
    plain false event what quiet e = other event what quiet e

    claim : (b : Bool) (k : Key) → silent (if b then Take k vcpu else Reach k vcpu) ≡ Some one → (is_access one.event ≡ false) ⊎ IsAccess vcpu step found one.event
    claim true k e = other (Take k vcpu) Nothing refl e
    claim false k e = other (Reach k vcpu) Nothing refl e

    poll : (reg : IccReg) (write : Option ℕ) → step ≡ Poll (Some reg) write → (b : Bool) → (vcpu_of found).kick ≡ b → (if b then None else with_found (Cpu vcpu reg write) (Answer (interface_answer reg write (interface_of local)))) ≡ Some one → (is_access one.event ≡ false) ⊎ IsAccess vcpu step found one.event
    poll reg write s true k e = never e
    poll reg write s false k e = inr (record { reg = reg; write = write; step_is = s; unkicked = k; event_is = event_is (record { event = Cpu vcpu reg write; found = Answer (interface_answer reg write (interface_of local)) }) one e })
      where
        event_is : (x y : Happened) → Some x ≡ Some y → y.event ≡ x.event
        event_is x y e = cc

    done : (s : CoreStep) → step ≡ s → event_done shape vcpu local own s found ≡ Some one → (is_access one.event ≡ false) ⊎ IsAccess vcpu step found one.event
    done (Look (Irq k)) s e = never e
    done (Look (Vcpu v)) s e = other _ _ refl e
    done (Look Queue) s e = other _ _ refl e
    done (Look Ctlr) s e = other _ _ refl e
    done (Look (Plain i)) s e = never e
    done (Look (Index v n)) s e = never e
    done (Look (Line n)) s e = never e
    done (Raise k) s e = other _ _ refl e
    done (Claim k seen) s e = claim (is_at k local.at) k e
    done (GiveBack k back) s e = never e
    done (Release k) s e = other _ _ refl e
    done (Poll None write) s e = never e
    done (Poll (Some reg) write) s e = poll reg write s (vcpu_of found).kick refl e
    done (Kick v) s e = never e
    done (Touch k seen kind) s e = other _ _ refl e
    done (Want k) s e = never e
    done (WireUp k) s e = other _ _ refl e
    done (WireDown k) s e = other _ _ refl e
    done (EnableLpis v) s e = other _ _ refl e
    done (RamLook index) s e = plain (index == fault_place shape) (Read (Word (plain_at shape index))) (FoundWord found) refl e
    done (RamPut index seen value) s e = plain (index == fault_place shape) (Put (plain_at shape index) value) (FoundWord found) refl e
    done (CtlrTake seen value) s e = other _ _ refl e
    done CtlrEnd s e = other _ _ refl e
    done (TurnTake seen) s e = other _ _ refl e
    done (CommandDone offset stalled ending) s e = other _ _ refl e
    done TurnRelease s e = other _ _ refl e
    done (Mark k v) s e = never e
    done (TakeIndex word) s e = never e
    done (LineEnter line seen) s e = never e
    done (LineLeave line) s e = never e
    done (LineFill line device event lpi) s e = never e
    done (LineClose line) s e = never e

    of : (b : Bool) → (if b then event_done shape vcpu local own step found else None) ≡ Some one → (is_access one.event ≡ false) ⊎ IsAccess vcpu step found one.event
    of true e = done step refl e
    of false e = never e
