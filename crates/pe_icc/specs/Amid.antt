-- A vCPU on a PE, while it accesses its CPU interface and between two accesses: how far its protocol is (own choice).
use Rattle.std.specs.Prelude.{◌≡◌, ℕ, ◌≤◌, Bool, false, IsTrue, List, map, Some, if◌then◌else◌}
use Rattle.pe_loop.specs.Calls.{Operation}
use Rattle.pe_loop.specs.VcpuState.declared.loaded.Loaded.{Loaded}
use Rattle.pe_loop.specs.Core.{Made, is_ready, Seen, shape_of, IsAtRest, makes, Progress, Debt, paid, after_end, progress_of, IsProper}
use Rattle.pe_loop.specs.Stay.{IsOn, IsOpen}

-- between two accesses: nothing is in progress, the registers are those of the PE, no claim failed, and no scan is owed
pub record IsRunning (seen : Seen) (vcpu : Loaded) (p : Progress) : Type 0 where
  pub rest : IsAtRest seen p
  pub regs : p.regs ≡ vcpu.regs
  pub trapping : p.trapping ≡ vcpu.trapping
  pub none_failed : p.failed ≡ false
  pub debt : p.debt ≡ paid

-- in a call for this, on a PE with so many list registers: nothing else is in progress, no claim failed, and this scan is owed
pub record IsAmid (seen : Seen) (operation : Operation) (lrs : ℕ) (debt : Debt) (p : Progress) : Type 0 where
  pub rest : IsAtRest seen p
  pub operation_is : p.operation ≡ Some operation
  pub lrs_is : p.lrs ≡ lrs
  pub none_failed : p.failed ≡ false
  pub debt_is : p.debt ≡ debt

-- and the registers are those of the PE
pub record IsAble (seen : Seen) (vcpu : Loaded) (operation : Operation) (debt : Debt) (p : Progress) : Type 0 where
  pub amid : IsAmid seen operation vcpu.regs.n debt p
  pub regs : p.regs ≡ vcpu.regs
  pub trapping : p.trapping ≡ vcpu.trapping

-- a scan is owed after the end of interrupt that is about to be done, or none is
abbrev pub debt_of : Bool → Debt
debt_of owing = if owing then after_end else paid

-- what an actor does is proper wherever its protocol is so before, and its protocol is so after it
pub record Leads (seen : Seen) (part : List Made) (Before After : Progress → Type 0) : Type 0 where
  pub proper : (p : Progress) → Before p → IsProper (shape_of seen) seen.actor p (map makes part)
  pub after : (p : Progress) → Before p → After (progress_of (shape_of seen) seen.actor p (map makes part))

-- a vCPU on a PE that may do an access: its accesses are trapped in trap mode alone
pub record IsSet (seen : Seen) (vcpu : Loaded) : Type 0 where
  pub on : IsOn seen vcpu
  pub lrs : (1 ≤ vcpu.regs.n) × (vcpu.regs.n ≤ 16)
  pub ready : IsTrue (is_ready seen.local.phase)
  pub free : vcpu.trapping ≡ false → IsOpen vcpu.regs.hcr

-- it is the same vCPU, on a PE with as many list registers
pub record IsSame (before after : Loaded) : Type 0 where
  pub base : record after.base { cpu = before.base.cpu } ≡ before.base
  pub lrs : after.regs.n ≡ before.regs.n
