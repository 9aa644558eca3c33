-- One operation of a vCPU that is on a PE: an access of a register of its CPU interface; or a memory-mapped access, round which it leaves its PE and enters
-- it again (own choice).
use Rattle.std.specs.Prelude.{◌≡◌, ℕ, false, List, [], ◌∷◌, ◌++◌, map, Option, Some, is_some, is_none}
use Rattle.pe_icc.specs.Words.{GuestOp, Icc, Mem}
use Rattle.pe_icc.specs.Calls.{Access}
use Rattle.pe_icc.specs.VcpuState.declared.loaded.Loaded.{Loaded}
use Rattle.pe_icc.specs.VcpuState.Holding.{held_keys}
use Rattle.pe_icc.specs.Core.{Made, Poll, Seen, Adds, shape_of, part_events, seen_after, MakesCall, part_of, Progress, progress_of, IsProper}
use Rattle.pe_icc.specs.PortCall.Piece.{steps_of}
use Rattle.pe_icc.specs.PeLoop.Leave.{left_by}
use Rattle.pe_icc.specs.PeLoop.Stay.{IsUp}
use Rattle.pe_icc.specs.Amid.{IsRunning, IsSame}
use Rattle.pe_icc.specs.Icc.{IsLight}
use Rattle.pe_icc.specs.Operate.{finds_kick}
use Rattle.pe_its.specs.PeMem.Found.{IsCallAsFound}

-- the value that an operation writes; a read has none
abbrev pub written_by : GuestOp → Option ℕ
written_by (Icc reg write) = write
written_by (Mem frame offset size write) = write

-- before anything else, each interrupt that the vCPU held left its interface, and then nothing was there
pub record LeavesFirst (old : Seen) (vcpu : Loaded) (part : List Made) : Type 0 where
  pub first : List Made
  pub rest : List Made
  pub split : part ≡ first ++ rest
  pub events : part_events old first ≡ map (left_by old.actor) (held_keys vcpu)
  pub empty : (seen_after old first).local.at ≡ []

-- so it was for a memory-mapped access; an access of the CPU interface that asks for nothing else, where no kick was found, is its one look for a kick: no
-- scan, and no exit
abbrev pub IsMadeBy : Seen → GuestOp → Loaded → List Made → Type 0
IsMadeBy old (Icc reg write) vcpu part = IsLight old reg write vcpu → finds_kick part ≡ false → steps_of part ≡ Poll (Some reg) write ∷ []
IsMadeBy old (Mem frame offset size write) vcpu part = LeavesFirst old vcpu part

-- a vCPU did an operation: the part that it added is the call, and proper wherever its protocol is between two accesses, and its protocol is so again after it;
-- it is the same vCPU on a PE with as many list registers; a read has an answer, and a write has none
pub record DoesOperation (old new : Seen) (op : GuestOp) (before after : Loaded) (answer : Option ℕ) : Type 0 where
  pub part : List Made
  pub adds : Adds old new part
  pub call : MakesCall old part (Access op) answer
  pub found : IsCallAsFound old part (Access op) answer
  pub proper : (p : Progress) → IsRunning old before p → IsProper (shape_of old) old.actor p (part_of (Access op) before.regs.n part answer)
  pub goes_on : (p : Progress) → IsRunning old before p → IsRunning new after (progress_of (shape_of old) old.actor p (part_of (Access op) before.regs.n part answer))
  pub answers : is_some answer ≡ is_none (written_by op)
  pub made : IsMadeBy old op before part
  pub up : IsUp new after
  pub same : IsSame before after
