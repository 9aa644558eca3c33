-- What an access of a CPU interface register does to the registers of a virtual CPU interface (IHI 0069, "Virtual interrupt handling and
-- prioritization"), by the rules that hold of every CPU interface.
use Rattle.std.specs.Prelude.{ℕ, ◌≡◌, ◌+◌, ◌%◌, ◌^◌, Bool, false, IsTrue, IsSome, ◌&&◌, ◌||◌, nat_lt, nat_le, if◌then◌else◌, Option, Some, None, get_or, set, List, position}
use Rattle.std.specs.Option.{option_map_or}
use Rattle.gic_ich.specs.Words.{IccReg, is_readable, is_writable}
use Rattle.gic_ich.specs.GicPrio.declared.cpu.CpuRec.{CpuRec}
use Rattle.gic_ich.specs.GicPrio.declared.candidate.Candidate.{Candidate}
use Rattle.gic_ich.specs.GicPrio.Access.{taken_by, deactivated_by, answer_of, activated_by, cpu_after}
use Rattle.gic_ich.specs.GicPrio.Signal.{acknowledged}
use Rattle.gic_ich.specs.GicWord.declared.record.Group.{Group}
use Rattle.gic_ich.specs.declared.regs.IchRegs.{IchRegs}
use Rattle.gic_ich.specs.Hcr.{hcr_eoicount}
use Rattle.gic_ich.specs.Regs.{listed_of}
use Rattle.gic_ich.specs.Vmcr.{cpu_of, vmcr_with}
use Rattle.gic_icv.specs.declared.trap.TrapCause.{TrapCause}
use Rattle.gic_icv.specs.declared.registers.Outcome.{Outcome}
use Rattle.gic_icv.specs.declared.registers.Outcome.TheVariants.{Value, Done, Trap}
use Rattle.gic_icv.specs.Trap.{trap_cause}
use Rattle.gic_icv.specs.Entries.{candidates_in, has_candidate, has_active, acknowledged_word, deactivated_word}

-- the CPU record that the registers hold; they do not tell whether LPIs are enabled, and no access of them asks
abbrev pub cpu_in : IchRegs → CpuRec
cpu_in regs = cpu_of regs false

-- the candidates that the list registers have
abbrev pub candidates_of : IchRegs → List Candidate
candidates_of regs = candidates_in (cpu_in regs) (listed_of regs)

-- the registers after a change of the first list register that is so (own choice: the one with the lowest number), or others where none is
abbrev pub first_changed : (ℕ → Bool) → (ℕ → ℕ) → IchRegs → IchRegs → IchRegs
first_changed is_so change regs otherwise =
    option_map_or (λ place. record regs { lr = set regs.lr place (change (get_or regs.lr place 0)) }) (position is_so (listed_of regs)) otherwise

-- after an acknowledge of a candidate, or of none
abbrev pub after_acknowledge : Option Candidate → IchRegs → IchRegs
after_acknowledge taken regs = option_map_or (λ found. first_changed (has_candidate found) acknowledged_word regs regs) taken regs

-- one more end of interrupt for which there was no list register, modulo 32 (ICH_HCR.EOIcount)
abbrev pub counted : IchRegs → IchRegs
counted regs = record regs { hcr = (regs.hcr + 2 ^ hcr_eoicount) % 2 ^ 32 }

-- an end of interrupt with this INTID is counted: below 1020, and those of extended SPIs, 4096 to 5119
abbrev pub is_counted : ℕ → Bool
is_counted id = nat_lt id 1020 || (nat_le 4096 id && nat_le id 5119)

-- after a deactivation of the interrupt with this INTID: where no list register has it active, it is counted, unless it is an LPI or
-- no interrupt
abbrev pub after_deactivation_of : ℕ → IchRegs → IchRegs
after_deactivation_of id regs =
    first_changed (has_active id) deactivated_word regs (if is_counted id then counted regs else regs)

-- after a deactivation, or none
abbrev pub after_deactivation : Option ℕ → IchRegs → IchRegs
after_deactivation ended regs = option_map_or (λ id. after_deactivation_of id regs) ended regs

-- with another CPU record
abbrev pub with_cpu : CpuRec → IchRegs → IchRegs
with_cpu cpu regs = record regs { vmcr = vmcr_with regs.vmcr cpu; ap0r = cpu.ap0; ap1r = cpu.ap1 }

-- after a read of IAR of a group
abbrev pub after_iar : Group → IchRegs → IchRegs
after_iar group regs =
    let taken = acknowledged group (cpu_in regs) (candidates_of regs) in
    with_cpu (activated_by taken (cpu_in regs)) (after_acknowledge taken regs)

-- the registers after an access that is not trapped: a read (no value) or a write of a value
abbrev pub registers_after : IccReg → Option ℕ → IchRegs → IchRegs
registers_after reg write regs =
    with_cpu (cpu_after reg write (cpu_in regs) (candidates_of regs))
    (after_deactivation (deactivated_by reg write (cpu_in regs)) (after_acknowledge (taken_by reg write (cpu_in regs) (candidates_of regs)) regs))

-- what an access answers that is not trapped: a value where it is a read
abbrev pub answered : Option ℕ → Outcome
answered (Some value) = Value value
answered None = Done

-- what an access answers
abbrev pub outcome_of : IccReg → Option ℕ → IchRegs → Outcome
outcome_of reg write regs = trapped (trap_cause regs.hcr reg)
  where
    trapped : Option TrapCause → Outcome
    trapped (Some cause) = Trap cause
    trapped None = answered (answer_of reg write (cpu_in regs) (candidates_of regs))

-- the registers after an access, which are as they were where it is trapped
abbrev pub after_access : IccReg → Option ℕ → IchRegs → IchRegs
after_access reg write regs = option_map_or (λ cause. regs) (trap_cause regs.hcr reg) (registers_after reg write regs)

-- the register has this direction
pub record HasDirection (reg : IccReg) (write : Option ℕ) : Type 0 where
  pub readable : write ≡ None → IsTrue (is_readable reg)
  pub writable : IsSome write → IsTrue (is_writable reg)
