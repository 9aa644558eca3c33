-- A scan of a vCPU that takes nothing, before it ends an interrupt that is not at its interface (own choice).
use Rattle.std.specs.Prelude.{◌≡◌, ℕ, true, IsTrue, List, [], Some}
use Rattle.pe_loop.specs.Calls.{Operation, named_of}
use Rattle.pe_loop.specs.VcpuState.declared.loaded.Loaded.{Loaded}
use Rattle.pe_loop.specs.VcpuState.declared.shelved.Shelved.{Shelved}
use Rattle.pe_loop.specs.Core.{Made, Seen, Adds, part_events, Progress, Debt, after_end}
use Rattle.pe_loop.specs.PortCall.Piece.{takes_none}
use Rattle.pe_icc.specs.Amid.{IsAmid, IsAble, IsSame, IsSet, Leads}
use Rattle.pe_icc.specs.Prepare.{HasLooked}

-- a vCPU that is on no PE knows that the interrupt that its call ends is active by it
pub record MayGather (seen : Seen) (operation : Operation) (lrs : ℕ) (debt : Debt) (p : Progress) : Type 0 where
  pub amid : IsAmid seen operation lrs debt p
  pub far : p.far ≡ Some true

-- it entered a PE with nothing at its interface, out of trap mode: a scan is owed after the end of interrupt
pub record EntersBare (old new : Seen) (vcpu : Shelved) (lrs : ℕ) (loaded : Loaded) : Type 0 where
  pub part : List Made
  pub adds : Adds old new part
  pub none_taken : IsTrue (takes_none part)
  pub silent : part_events old part ≡ []
  pub set : IsSet new loaded
  pub empty : new.local.at ≡ []
  pub kept : record loaded.base { cpu = vcpu.cpu } ≡ vcpu
  pub lrs_is : loaded.regs.n ≡ lrs
  pub leads : (operation : Operation) (debt : Debt) → Leads old part (MayGather old operation lrs debt) (IsAble new loaded operation after_end)

-- a vCPU on a PE gave back what it held, and did the same
pub record Gathers (old new : Seen) (before after : Loaded) : Type 0 where
  pub part : List Made
  pub adds : Adds old new part
  pub none_taken : IsTrue (takes_none part)
  pub moves : named_of (Some old.actor) (part_events old part) ≡ []
  pub set : IsSet new after
  pub empty : new.local.at ≡ []
  pub same : IsSame before after
  pub leads : (operation : Operation) (debt : Debt) → Leads old part (HasLooked old before operation debt true) (IsAble new after operation after_end)
