-- An access does not depend on whether LPIs are enabled, and of the candidates it asks for the first alone.
use Rattle.std.proofs.Common.{◌≡◌, ℕ, Bool, true, false, not, ◌&&◌, cond, if◌then◌else◌, Option, Some, None, is_some, unwrap_or, option_and_then, List, refl, ap, ◌∙◌, arith}
use Rattle.std.specs.Option.{option_map}
use Rattle.std.proofs.lemmas.Grind.{common_steps}
use Rattle.gic_ich.specs.GicWord.declared.record.Group.{Group}
use Rattle.gic_ich.specs.Words.{G0, G1, IccReg, Iar0, Iar1, Hppir0, Hppir1, Eoir0, Eoir1, Dir, Bpr1}
use Rattle.gic_ich.specs.GicPrio.declared.cpu.CpuRec.{CpuRec}
use Rattle.gic_ich.specs.GicPrio.declared.candidate.Candidate.{Candidate}
use Rattle.gic_ich.specs.GicPrio.Priority.{is_signalled}
use Rattle.gic_ich.specs.GicPrio.Delivery.{first_of}
use Rattle.gic_ich.specs.GicPrio.Signal.{is_same_group, acknowledged, highest_pending, intid_read, intid_written, ended, eoir_deactivates}
use Rattle.gic_ich.specs.GicPrio.Access.{taken_by, deactivated_by, answer_of, activated_by, written_by, cpu_after}
use Rattle.gic_icv.proofs.CpuLemmas.{deaf, signalled_deaf, level_deaf}

acknowledged_shown : (group : Group) (cpu : CpuRec) (words at : List Candidate) → first_of words ≡ first_of at → acknowledged group (deaf cpu) words ≡ acknowledged group cpu at
acknowledged_shown group cpu words at e =
    ap (option_and_then (λ first. if is_same_group first.group group && is_signalled first.prio first.group (deaf cpu) then Some first else None)) e
    ∙ of_first (first_of at)
  where
    of_first : (o : Option Candidate) → option_and_then (λ first. if is_same_group first.group group && is_signalled first.prio first.group (deaf cpu) then Some first else None) o
        ≡ option_and_then (λ first. if is_same_group first.group group && is_signalled first.prio first.group cpu then Some first else None) o
    of_first None = refl
    of_first (Some one) = ap (λ b. if is_same_group one.group group && b then Some one else None) (signalled_deaf one.prio one.group cpu)

highest_shown : (group : Group) (words at : List Candidate) → first_of words ≡ first_of at → highest_pending group words ≡ highest_pending group at
highest_shown group words at e = ap (option_and_then (λ first. if is_same_group first.group group then Some first else None)) e

-- what is acknowledged
pub taken_shown : (reg : IccReg) (write : Option ℕ) (cpu : CpuRec) (words at : List Candidate) → first_of words ≡ first_of at → taken_by reg write (deaf cpu) words ≡ taken_by reg write cpu at
taken_shown Iar0 None cpu words at e = acknowledged_shown G0 cpu words at e
taken_shown Iar1 None cpu words at e = acknowledged_shown G1 cpu words at e
taken_shown reg write cpu words at e = refl

-- what is read
pub answer_shown : (reg : IccReg) (write : Option ℕ) (cpu : CpuRec) (words at : List Candidate) → first_of words ≡ first_of at → answer_of reg write (deaf cpu) words ≡ answer_of reg write cpu at
answer_shown Iar0 None cpu words at e = ap Some (ap intid_read (acknowledged_shown G0 cpu words at e))
answer_shown Iar1 None cpu words at e = ap Some (ap intid_read (acknowledged_shown G1 cpu words at e))
answer_shown Hppir0 None cpu words at e = ap Some (ap intid_read (highest_shown G0 words at e))
answer_shown Hppir1 None cpu words at e = ap Some (ap intid_read (highest_shown G1 words at e))
answer_shown reg None cpu words at e = refl
answer_shown reg (Some value) cpu words at e = refl

-- an end of interrupt
kept_or_deaf : (b : Bool) (cpu : CpuRec) → cond b None (Some (deaf cpu)) ≡ option_map deaf (cond b None (Some cpu))
kept_or_deaf true cpu = refl
kept_or_deaf false cpu = refl

ended_deaf : (group : Group) (id : ℕ) (cpu : CpuRec) → ended group id (deaf cpu) ≡ option_map deaf (ended group id cpu)
ended_deaf G0 id cpu = grind (arith, common_steps)
ended_deaf G1 id cpu = grind (arith, common_steps)

is_some_deaf : (o : Option CpuRec) → is_some (option_map deaf o) ≡ is_some o
is_some_deaf None = refl
is_some_deaf (Some cpu) = refl

eoir_deaf : (group : Group) (id : ℕ) (cpu : CpuRec) → eoir_deactivates group id (deaf cpu) ≡ eoir_deactivates group id cpu
eoir_deaf group id cpu = ap (λ b. b && not cpu.eoimode) (ap is_some (ended_deaf group id cpu) ∙ is_some_deaf (ended group id cpu))

pub deactivated_deaf : (reg : IccReg) (write : Option ℕ) (cpu : CpuRec) → deactivated_by reg write (deaf cpu) ≡ deactivated_by reg write cpu
deactivated_deaf Eoir0 (Some value) cpu = ap (λ b. if b then Some (intid_written value) else None) (eoir_deaf G0 (intid_written value) cpu)
deactivated_deaf Eoir1 (Some value) cpu = ap (λ b. if b then Some (intid_written value) else None) (eoir_deaf G1 (intid_written value) cpu)
deactivated_deaf Dir (Some value) cpu = refl
deactivated_deaf reg write cpu = refl

-- the record after the access
activated_deaf : (o : Option Candidate) (cpu : CpuRec) → activated_by o (deaf cpu) ≡ deaf (activated_by o cpu)
activated_deaf None cpu = refl
activated_deaf (Some one) cpu = level_deaf one.prio one.group cpu

written_deaf : (reg : IccReg) (value : ℕ) (cpu : CpuRec) → written_by reg value (deaf cpu) ≡ option_map deaf (written_by reg value cpu)
written_deaf Eoir0 value cpu = ended_deaf G0 (intid_written value) cpu
written_deaf Eoir1 value cpu = ended_deaf G1 (intid_written value) cpu
written_deaf Bpr1 value cpu = grind (arith, common_steps)
written_deaf reg value cpu = refl

unwrapped_deaf : (o : Option CpuRec) (cpu : CpuRec) → unwrap_or (option_map deaf o) (deaf cpu) ≡ deaf (unwrap_or o cpu)
unwrapped_deaf None cpu = refl
unwrapped_deaf (Some after) cpu = refl

pub cpu_after_deaf : (reg : IccReg) (write : Option ℕ) (cpu : CpuRec) (words at : List Candidate) → first_of words ≡ first_of at → cpu_after reg write (deaf cpu) words ≡ deaf (cpu_after reg write cpu at)
cpu_after_deaf reg None cpu words at e = ap (λ o. activated_by o (deaf cpu)) (taken_shown reg None cpu words at e) ∙ activated_deaf (taken_by reg None cpu at) cpu
cpu_after_deaf reg (Some value) cpu words at e = ap (λ o. unwrap_or o (deaf cpu)) (written_deaf reg value cpu) ∙ unwrapped_deaf (written_by reg value cpu) cpu
