-- One access of a register of the CPU interface on the packed registers, decided by a look for a kick (own choice).
use Rattle.pe_loop.specs.Core.{vcpu_of, Loaded as LoadedPhase, Made, CoreStep, Poll, interface_of, Seen, AddsStep, shape_of, made_by, part_events, Progress, Debt, paid, before_next, ended_by, is_to_scan, keeps_trap_scan, keeps_far_end, may_access, after_operation}
use Rattle.std.specs.Prelude.{◌≡◌, ℕ, ◌^◌, Bool, false, IsTrue, List, [], ◌∷◌, Option, Some, None, unwrap_or, if◌then◌else◌, true}
use Rattle.std.specs.List.{list_any}
use Rattle.pe_loop.specs.Words.{IccReg}
use Rattle.pe_loop.specs.Calls.{Cpu, Operation}
use Rattle.pe_loop.specs.GicCall.declared.event.Found.TheVariants.{Answer}
use Rattle.pe_loop.specs.Lists.{IchRegs, hcr_en, StandFor, Outcome, Value}
use Rattle.pe_loop.specs.Registers.{HasBinaryPoints, InterfaceState, IsInterface, interface_after, interface_answer}
use Rattle.pe_loop.specs.VcpuState.declared.loaded.Loaded.{Loaded}
use Rattle.pe_loop.specs.Stay.{IsOn, IsOpen}
use Rattle.pe_icc.specs.declared.operate.Polled.{Polled}
use Rattle.pe_icc.specs.declared.operate.Polled.TheVariants.{Kicked, Done}
use Rattle.pe_icc.specs.Amid.{IsAmid, IsAble, Leads}

-- in trap mode an access is done while ICH_HCR is En alone
abbrev pub opened : Loaded → Loaded
opened vcpu = record vcpu { regs = if vcpu.trapping then record vcpu.regs { hcr = 2 ^ hcr_en } else vcpu.regs }

-- what an access reads, if it reads
abbrev pub read_by : Outcome → Option ℕ
read_by (Value value) = Some value
read_by outcome = None

-- the access is done on the registers: as the rules of a CPU interface say of the interrupts for which they stand
pub record Operates (reg : IccReg) (write : Option ℕ) (before after : Loaded) (answer : Option ℕ) : Type 0 where
  pub regs : after.regs ≡ after_operation before.trapping reg write before.regs
  pub same : record after { regs = before.regs } ≡ before
  pub answers : (interface : InterfaceState) → IsInterface interface → StandFor before.regs before.held interface → answer ≡ interface_answer reg write interface
  pub stands : (interface : InterfaceState) → IsInterface interface → StandFor before.regs before.held interface → StandFor after.regs after.held (interface_after reg write interface)
  pub points : (interface : InterfaceState) → IsInterface interface → StandFor before.regs before.held interface → HasBinaryPoints (interface_after reg write interface).cpu
  pub opens : before.trapping ≡ false → IsOpen after.regs.hcr
  pub lrs : after.regs.n ≡ before.regs.n

-- a vCPU may ask for the access where no kick is found: in trap mode, for the first interrupt, once it scanned; for an end of interrupt once it looked at an
-- interrupt that is not at its interface; and no scan is owed before it
pub record MayAsk (seen : Seen) (vcpu : Loaded) (operation : Operation) (debt : Debt) (reg : IccReg) (write : Option ℕ) (p : Progress) : Type 0 where
  pub able : IsAble seen vcpu operation debt p
  pub trap : IsTrue (keeps_trap_scan p (Poll (Some reg) write))
  pub far : IsTrue (keeps_far_end (shape_of seen) seen.actor p (Poll (Some reg) write))
  pub refill : IsTrue (may_access debt (ended_by (shape_of seen) seen.actor reg write))

-- an actor may enter a PE again in its call: its protocol is so, and it did not find the interrupt that the call ends active
pub record MayReenter (seen : Seen) (operation : Operation) (lrs : ℕ) (debt : Debt) (p : Progress) : Type 0 where
  pub amid : IsAmid seen operation lrs debt p
  pub near : unwrap_or p.far false ≡ false

-- the scan that is owed after an access that left these registers
abbrev pub debt_left : IchRegs → Bool → Debt → Debt
debt_left regs trapping debt = if is_to_scan regs trapping debt then before_next else paid

-- an access was done
pub record HasAsked (seen : Seen) (vcpu : Loaded) (operation : Operation) (debt : Debt) (p : Progress) : Type 0 where
  pub able : IsAble seen vcpu operation debt p
  pub near : unwrap_or p.far false ≡ false

-- a look for a kick found one, and one of some steps did
abbrev pub is_kicked : CoreStep → ℕ → Bool
is_kicked (Poll reg write) found = (vcpu_of found).kick
is_kicked step found = false

abbrev pub finds_kick : List Made → Bool
finds_kick part = list_any (λ made. is_kicked made.step made.found) part

-- a kick was found: nothing was done
pub record IsKicked (old new : Seen) (reg : IccReg) (write : Option ℕ) (part : List Made) (before after : Loaded) : Type 0 where
  pub same : after ≡ before
  pub kicked : finds_kick part ≡ true
  pub on : IsOn new after
  pub silent : part_events old part ≡ []
  pub leads : (operation : Operation) (debt : Debt) → Leads old part (MayAsk old before operation debt reg write) (MayReenter new operation before.regs.n debt)

-- no kick was found: the access was done
pub record IsDone (old new : Seen) (reg : IccReg) (write : Option ℕ) (part : List Made) (before after : Loaded) (answer : Option ℕ) : Type 0 where
  pub regs : after.regs ≡ after_operation before.trapping reg write before.regs
  pub same : record after { regs = before.regs } ≡ before
  pub on : IsOn new after
  pub phase : new.local.phase ≡ LoadedPhase
  pub opens : before.trapping ≡ false → IsOpen after.regs.hcr
  pub lrs : after.regs.n ≡ before.regs.n
  pub event : part_events old part ≡ (record { event = Cpu old.actor reg write; found = Answer answer }) ∷ []
  pub answer_is : answer ≡ interface_answer reg write (interface_of old.local)
  pub leads :
      (operation : Operation) (debt : Debt)
      → Leads old part (MayAsk old before operation debt reg write) (HasAsked new after operation (debt_left after.regs before.trapping debt))

abbrev pub IsPolled : Seen → Seen → IccReg → Option ℕ → List Made → Loaded → Loaded → Polled → Type 0
IsPolled old new reg write part before after Kicked = IsKicked old new reg write part before after
IsPolled old new reg write part before after (Done answer) = IsDone old new reg write part before after answer

-- a vCPU looked for a kick, by one step, and did the access where there was none
pub record Polls (old new : Seen) (reg : IccReg) (write : Option ℕ) (before after : Loaded) (polled : Polled) : Type 0 where
  pub found : ℕ
  pub adds : AddsStep old new (Poll (Some reg) write) found
  pub is : IsPolled old new reg write (made_by old (Poll (Some reg) write) found adds.tables ∷ []) before after polled
