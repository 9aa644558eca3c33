-- An access of a register of the CPU interface: the whole call (own choice).
use Rattle.std.specs.Prelude.{◌≡◌, ◌⊎◌, ℕ, Bool, true, IsTrue, List, [], ◌∷◌, map, Option, Some, is_some, is_none, false, None}
use Rattle.pe_loop.specs.Words.{IccReg, Icc}
use Rattle.pe_loop.specs.Calls.{Cpu, Operation, Access, icc_raises, Happened, named_of}
use Rattle.pe_loop.specs.GicCall.declared.event.Found.TheVariants.{Answer}
use Rattle.pe_loop.specs.Lists.{misr_of}
use Rattle.pe_loop.specs.VcpuState.declared.loaded.Loaded.{Loaded}
use Rattle.pe_loop.specs.Core.{Made, Poll, Seen, Adds, shape_of, part_events, MakesCall, after_operation, part_of, Progress, paid, ended_by, progress_of, IsProper}
use Rattle.pe_loop.specs.PortCall.Piece.{steps_of, takes_none}
use Rattle.pe_loop.specs.Stay.{IsUp}
use Rattle.pe_icc.specs.declared.stay.Stay.{Stay}
use Rattle.pe_icc.specs.declared.icc.Tried.{Tried}
use Rattle.pe_icc.specs.declared.icc.Tried.TheVariants.{Again, Done}
use Rattle.pe_icc.specs.Amid.{IsRunning, IsAble, IsSame, IsSet, Leads, debt_of}
use Rattle.pe_icc.specs.Operate.{MayAsk, finds_kick}
use Rattle.pe_icc.specs.Sgi.{silent, sgi_written}

-- the call of an access
abbrev pub call_of : IccReg → Option ℕ → Operation
call_of reg write = Access (Icc reg write)

-- a vCPU in the course of the access, with the protocol's registers
abbrev pub IsAbout : Seen → IccReg → Option ℕ → Stay → Progress → Type 0
IsAbout seen reg write stay p = IsAble seen stay.vcpu (call_of reg write) (debt_of stay.owing) p

-- only an end of interrupt has the vCPU scan after it
abbrev pub IsEnding : Seen → IccReg → Option ℕ → Bool → Type 0
IsEnding seen reg write owing = owing ≡ true → is_some (ended_by (shape_of seen) seen.actor reg write) ≡ true

-- nothing is to be done before the access: it is not of trap mode, and ends no interrupt
pub record IsNear (seen : Seen) (reg : IccReg) (write : Option ℕ) (vcpu : Loaded) : Type 0 where
  pub free : vcpu.trapping ≡ false
  pub ends_none : ended_by (shape_of seen) seen.actor reg write ≡ None

-- nor after it: it sends no SGI, and asserts no maintenance interrupt
pub record IsLight (seen : Seen) (reg : IccReg) (write : Option ℕ) (vcpu : Loaded) : Type 0 where
  pub near : IsNear seen reg write vcpu
  pub sends_none : sgi_written reg write ≡ None
  pub quiet : misr_of (after_operation false reg write vcpu.regs) ≡ 0

-- a vCPU did what the access asks for before it is decided: it may ask
pub record Prepares (old new : Seen) (reg : IccReg) (write : Option ℕ) (before after : Stay) : Type 0 where
  pub part : List Made
  pub adds : Adds old new part
  pub none_taken : IsTrue (takes_none part)
  pub moves : named_of (Some old.actor) (part_events old part) ≡ []
  pub set : IsSet new after.vcpu
  pub same : IsSame before.vcpu after.vcpu
  pub ending : IsEnding old reg write after.owing
  pub light : IsNear old reg write before.vcpu → (part ≡ []) × (after ≡ before)
  pub leads : Leads old part (IsAbout old reg write before) (MayAsk new after.vcpu (call_of reg write) (debt_of after.owing) reg write)

-- a kick was found: nothing was done, and the vCPU is on its PE again
pub record IsAgain (old new : Seen) (reg : IccReg) (write : Option ℕ) (before after : Stay) : Type 0 where
  pub part : List Made
  pub adds : Adds old new part
  pub none_taken : IsTrue (takes_none part)
  pub moves : named_of (Some old.actor) (part_events old part) ≡ []
  pub up : IsUp new after.vcpu
  pub same : IsSame before.vcpu after.vcpu
  pub ending : IsEnding new reg write after.owing
  pub kicked : ((part ≡ []) × (after ≡ before)) ⊎ (finds_kick part ≡ true)
  pub leads : Leads old part (IsAbout old reg write before) (IsAbout new reg write after)

-- the events of the access
abbrev pub events_of : Seen → IccReg → Option ℕ → Option ℕ → List Happened
events_of seen reg write answer = (record { event = Cpu seen.actor reg write; found = Answer answer }) ∷ map silent (icc_raises (shape_of seen) seen.actor reg write)

-- the access was done
pub record IsMade (old new : Seen) (reg : IccReg) (write : Option ℕ) (before : Stay) (after : Loaded) (answer : Option ℕ) : Type 0 where
  pub part : List Made
  pub adds : Adds old new part
  pub none_taken : IsTrue (takes_none part)
  pub events : named_of (Some old.actor) (part_events old part) ≡ events_of old reg write answer
  pub answers : is_some answer ≡ is_none write
  pub up : IsUp new after
  pub same : IsSame before.vcpu after
  pub light : IsLight old reg write before.vcpu → before.owing ≡ false → steps_of part ≡ Poll (Some reg) write ∷ []
  pub leads : Leads old part (IsAbout old reg write before) (IsAble new after (call_of reg write) paid)

abbrev pub Tries : Seen → Seen → IccReg → Option ℕ → Stay → Tried → Type 0
Tries old new reg write before (Again after) = IsAgain old new reg write before after
Tries old new reg write before (Done after answer) = IsMade old new reg write before after answer

-- a vCPU did an access of a register of its CPU interface: the part that it added is the call, and proper wherever its protocol is between two accesses, and its
-- protocol is so again after it; a read has an answer, and a write has none
pub record DoesAccess (old new : Seen) (reg : IccReg) (write : Option ℕ) (before after : Loaded) (answer : Option ℕ) : Type 0 where
  pub part : List Made
  pub adds : Adds old new part
  pub none_taken : IsTrue (takes_none part)
  pub call : MakesCall old part (call_of reg write) answer
  pub proper : (p : Progress) → IsRunning old before p → IsProper (shape_of old) old.actor p (part_of (call_of reg write) before.regs.n part answer)
  pub goes_on : (p : Progress) → IsRunning old before p → IsRunning new after (progress_of (shape_of old) old.actor p (part_of (call_of reg write) before.regs.n part answer))
  pub answers : is_some answer ≡ is_none write
  pub up : IsUp new after
  pub same : IsSame before after
  -- where no kick was found, an access that asks for nothing else is its one look for a kick: no scan, and no exit
  pub light : IsLight old reg write before → finds_kick part ≡ false → steps_of part ≡ Poll (Some reg) write ∷ []
