-- A vCPU leaves its PE and enters it again in a call of it (own choice).
use Rattle.std.specs.Prelude.{◌≡◌, Bool, false, IsTrue, List, [], Some}
use Rattle.pe_loop.specs.Calls.{Operation, named_of}
use Rattle.pe_loop.specs.VcpuState.declared.loaded.Loaded.{Loaded}
use Rattle.pe_loop.specs.Core.{Made, Seen, Adds, part_events, Debt, paid, is_to_scan, owed_after_scan}
use Rattle.pe_loop.specs.PortCall.Piece.{takes_none}
use Rattle.pe_loop.specs.Stay.{IsUp}
use Rattle.pe_icc.specs.Amid.{IsAble, IsSame, Leads, debt_of}
use Rattle.pe_icc.specs.Operate.{MayReenter, HasAsked, debt_left}

-- a vCPU left its PE and entered it again: no event is to be seen of it but moves of its interrupts
pub record Reenters (old new : Seen) (before after : Loaded) : Type 0 where
  pub part : List Made
  pub adds : Adds old new part
  pub none_taken : IsTrue (takes_none part)
  pub moves : named_of (Some old.actor) (part_events old part) ≡ []
  pub up : IsUp new after
  pub same : IsSame before after
  pub leads : (operation : Operation) (debt : Debt) → Leads old part (MayReenter old operation before.regs.n debt) (IsAble new after operation (owed_after_scan debt))

-- after an access a vCPU left its PE and entered it again exactly where it is to scan again
pub record Refills (old new : Seen) (before after : Loaded) (owing : Bool) : Type 0 where
  pub part : List Made
  pub adds : Adds old new part
  pub none_taken : IsTrue (takes_none part)
  pub moves : named_of (Some old.actor) (part_events old part) ≡ []
  pub up : IsUp new after
  pub same : IsSame before after
  pub light : is_to_scan before.regs before.trapping (debt_of owing) ≡ false → (part ≡ []) × (after ≡ before)
  pub leads :
      (operation : Operation)
      → Leads old part (HasAsked old before operation (debt_left before.regs before.trapping (debt_of owing))) (IsAble new after operation paid)
