-- A vCPU that is not kicked and does not give back what it has, after a step and before it.
use Rattle.std.proofs.Common.{◌≡◌, ◌≢◌, ℕ, ◌<◌, ◌==◌, ◌&&◌, true≢false, not, Bool, true, false, IsTrue, Option, Some, None, if◌then◌else◌, refl, sym, ap, ◌∙◌, subst}
use Rattle.std.proofs.lemmas.Bool.{ne_eqb, and_right}
use Rattle.law_registers_stand.specs.Words.{IccReg, GuestShape, irq_of}
use Rattle.law_registers_stand.specs.Histories.{Ideal}
use Rattle.law_registers_stand.specs.Registers.{Maps}
use Rattle.law_registers_stand.specs.Core.{Local, Phase, Folding, CoreStep, Look, GiveBack, Poll, TakeIndex, LineClose, Irq, Line, local_after, is_settled_by_look, phase_after, accessed, is_ready, succeeds, vcpu_of, settled, CoreState, seat_at, local_done}
use Rattle.law_registers_stand.specs.LawCoreIsHistory.Related.{is_folding}
use Rattle.law_registers_stand.proofs.LawCoreIsHistory.LineSteps.{is_on_line, line_done}
use Rattle.law_registers_stand.proofs.LawCoreIsHistory.StepContext.{IsStep}
use Rattle.law_registers_stand.specs.Asks.{IsUnkicked}
use Rattle.law_registers_stand.proofs.LawCoreIsHistory.AfterLemmas.{later}
use Rattle.law_registers_stand.proofs.LawCoreIsHistory.KickSteps.{is_poll, is_poll_by, is_kick_of, unkicked_before}

-- a step takes a word of an index
abbrev pub takes_index : CoreStep → Bool
takes_index (TakeIndex word) = true
takes_index step = false

-- what a step that is no look for a kick keeps of an actor: its CPU record; that it gives back what it has, where it does; and that it may do no accesses, unless the
-- step takes its index
pub record IsCpuKept (step : CoreStep) (before after : Local) : Type 0 where
  pub cpu : after.cpu ≡ before.cpu
  pub stays : is_folding after.phase ≡ false → is_folding before.phase ≡ false
  pub ready : takes_index step ≡ false → IsTrue (is_ready after.phase) → IsTrue (is_ready before.phase)

either_kept : (step : CoreStep) (b : Bool) (local done : Local) → IsCpuKept step local done → IsCpuKept step local (if b then done else local)
either_kept step true local done kept = kept
either_kept step false local done kept = record { cpu = refl; stays = λ h. h; ready = λ no_take h. h }

phase_kept : (shape : GuestShape) (word : ℕ) (phase : Phase) → is_folding (phase_after shape word phase) ≡ false → is_folding phase ≡ false
phase_kept shape word Folding h = h
phase_kept shape word phase h = refl

line_kept : (shape : GuestShape) (actor : ℕ) (local : Local) (step : CoreStep) (found : ℕ) → is_on_line step ≡ true → IsCpuKept step local (local_done shape actor local step found)
line_kept shape actor local step found e = record {
  cpu = line_done shape actor found local (λ l. l.cpu) (λ l n s. refl) step e;
  stays = λ h. ap is_folding (sym (line_done shape actor found local (λ l. l.phase) (λ l n s. refl) step e)) ∙ h;
  ready = λ no_take h. subst (λ phase. IsTrue (is_ready phase)) (line_done shape actor found local (λ l. l.phase) (λ l n s. refl) step e) h;
}

-- one that does what it is for
done_kept : (shape : GuestShape) (actor : ℕ) (local : Local) (step : CoreStep) (found : ℕ) → is_poll step ≡ false → IsCpuKept step local (local_done shape actor local step found)
done_kept shape actor local (Poll reg write) found no_poll = absurd (true≢false no_poll)
done_kept shape actor local (Look (Irq key)) found no_poll =
    either_kept (Look (Irq key)) (is_settled_by_look shape actor (irq_of found)) local (record local { cands = settled shape actor key local.cands }) (record { cpu = refl; stays = λ h. h; ready = λ no_take h. h })
done_kept shape actor local (GiveBack key back) found no_poll = record { cpu = refl; stays = λ h. absurd (true≢false h); ready = λ no_take h. absurd (true≢false (sym h)) }
done_kept shape actor local (TakeIndex word) found no_poll = record { cpu = refl; stays = phase_kept shape word local.phase; ready = λ no_take h. absurd (true≢false no_take) }
done_kept shape actor local (Look (Line line)) found no_poll = line_kept shape actor local (Look (Line line)) found refl
done_kept shape actor local (LineClose line) found no_poll = line_kept shape actor local (LineClose line) found refl
done_kept shape actor local step found no_poll = record { cpu = refl; stays = λ h. h; ready = λ no_take h. h }

pub cpu_kept : (shape : GuestShape) (actor : ℕ) (local : Local) (step : CoreStep) (found : ℕ) → is_poll step ≡ false → IsCpuKept step local (local_after shape actor local step found)
cpu_kept shape actor local step found no_poll = either_kept step (succeeds shape actor local step found) local (local_done shape actor local step found) (done_kept shape actor local step found no_poll)

-- a vCPU that may do accesses does not give back
pub ready_stays : (phase : Phase) → IsTrue (is_ready phase) → is_folding phase ≡ false
ready_stays Folding h = absurd (true≢false (sym h))
ready_stays phase h = refl

-- a step of another actor is no look of the vCPU's own
pub no_poll_by : (vcpu actor : ℕ) (step : CoreStep) → actor ≢ vcpu → is_poll_by vcpu actor step ≡ false
no_poll_by vcpu actor step apart = and_right (is_poll step) (actor == vcpu) (ne_eqb actor vcpu apart)

-- a kick of another vCPU leaves it that a claim failed
pub kick_failed : (failed : Bool) (other vcpu : ℕ) → (other == vcpu) ≡ false → (failed && not (other == vcpu)) ≡ false → failed ≡ false
kick_failed true other vcpu e h = absurd (true≢false (sym (ap not e) ∙ h))
kick_failed false other vcpu e h = refl

-- a vCPU that is not kicked and does not give back before a step, which is no kick of it
pub record IsCalm (shape : GuestShape) (state : CoreState) (vcpu : ℕ) (step : CoreStep) (local : Local) : Type 0 where
  pub unkicked : IsUnkicked shape state vcpu
  pub no_kick : is_kick_of vcpu step ≡ false
  pub stays : is_folding local.phase ≡ false

-- a step of its own that leaves it so: a look with which a scan begins, or another one before which it was so
pub data OwnCalm (shape : GuestShape) (state : CoreState) (vcpu : ℕ) (step : CoreStep) (found : ℕ) (local : Local) : Type 0 where
  scans : (write : Option ℕ) → step ≡ Poll None write → OwnCalm shape state vcpu step found local
  accesses : (reg : IccReg) (write : Option ℕ) → step ≡ Poll (Some reg) write → (vcpu_of found).kick ≡ false → IsCalm shape state vcpu step local → OwnCalm shape state vcpu step found local
  goes_on : is_poll step ≡ false → IsCalm shape state vcpu step local → OwnCalm shape state vcpu step found local

module _ {shape : GuestShape} {state : CoreState} {ideal : Ideal} {vcpu found left : ℕ} {tables : Option Maps} (within : vcpu < shape.vcpus) (local : Local) (mine : local ≡ (seat_at state vcpu).local) where
  quiet : (step : CoreStep) (is : IsStep shape state ideal vcpu step found left tables) → is_poll step ≡ false → IsUnkicked shape (later is) vcpu → is_folding (local_after shape vcpu local step found).phase ≡ false → OwnCalm shape state vcpu step found local
  quiet step is no_poll free phase =
      let before = unkicked_before is vcpu within (ap (λ b. b && vcpu == vcpu) no_poll) free in
      goes_on no_poll (record { unkicked = before.0; no_kick = before.1; stays = (cpu_kept shape vcpu local step found no_poll).stays phase })

  pub own_calm : (step : CoreStep) (is : IsStep shape state ideal vcpu step found left tables) → IsUnkicked shape (later is) vcpu → is_folding (local_after shape vcpu local step found).phase ≡ false → OwnCalm shape state vcpu step found local
  own_calm (Poll None write) is free phase = scans write refl
  own_calm (Poll (Some reg) write) is free phase = of (vcpu_of found).kick refl phase
    where
      of : (b : Bool) → (vcpu_of found).kick ≡ b → is_folding (if b then record local { phase = Folding } else accessed reg write local).phase ≡ false → OwnCalm shape state vcpu (Poll (Some reg) write) found local
      of true e phase = absurd (true≢false phase)
      of false e phase =
          accesses reg write refl e
          (record { unkicked = ap (λ n. (vcpu_of n).kick) (sym is.takes.found) ∙ e; no_kick = refl; stays = ready_stays local.phase (subst (λ (l : Local). IsTrue (is_ready l.phase)) (sym mine) is.takes.meets) })
  own_calm step is free phase = quiet step is refl free phase
