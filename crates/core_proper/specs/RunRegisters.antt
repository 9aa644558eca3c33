-- The registers of a vCPU in a run: what an entry stored, with what was done to them since.
use Rattle.std.specs.Prelude.{ℕ, ◌^◌, ◌∷◌, Option, replicate, if◌then◌else◌, Bool}
use Rattle.floor_histories.specs.Words.{IccReg, Key, intid_of}
use Rattle.floor_lists.specs.Lists.{IchRegs, hcr_en, seen_in, vmcr_of, is_live, Agrees, first_changed, registers_after, Active, with_state, Choice, word_of}
use Rattle.floor_histories.specs.Registers.{CpuRec}
use Rattle.port_core.specs.declared.local.Local.{Local}
use Rattle.port_core.specs.After.{interface_of}

-- the registers with one interrupt in list register 0, or none, and all others 0: as a vCPU in trap mode takes the first one, and as one that is not at
-- its interface is taken there before its end. ICH_HCR is En alone.
abbrev pub alone : Option Choice → CpuRec → ℕ → IchRegs
alone choice cpu lrs =
    record { lr = word_of choice ∷ replicate 15 0; n = lrs; vmcr = vmcr_of cpu; hcr = 2 ^ hcr_en; ap0r = cpu.ap0; ap1r = cpu.ap1 }

-- the registers with a change of the list register that has an interrupt
abbrev pub with_changed : Key → (ℕ → ℕ) → IchRegs → IchRegs
with_changed key change regs = first_changed (λ word. is_live (intid_of key) (seen_in word)) change regs regs

-- a claim that failed leaves its list register 0, and a take that failed leaves State 2
abbrev pub without_claim : Key → IchRegs → IchRegs
without_claim key regs = with_changed key (λ word. 0) regs

abbrev pub without_take : Key → IchRegs → IchRegs
without_take key regs = with_changed key (λ word. with_state word Active) regs

-- after an access; one that traps is done while ICH_HCR is En alone
abbrev pub after_operation : Bool → IccReg → Option ℕ → IchRegs → IchRegs
after_operation trapping reg write regs = registers_after reg write (if trapping then record regs { hcr = 2 ^ hcr_en } else regs)

-- registers agree with what the vCPU has for itself: they hold its CPU record, each interrupt at its interface that is pending or active has exactly one list
-- register, and no other list register has a State other than 0
abbrev pub RegistersAgree : IchRegs → Local → Type 0
RegistersAgree regs local = Agrees regs (interface_of local)
