-- A vCPU leaves its PE and enters it again (own choice).
use Rattle.std.specs.Prelude.{◌≡◌}
use Rattle.vcpu_state.specs.declared.shelved.Shelved.{Shelved}
use Rattle.vcpu_state.specs.declared.loaded.Loaded.{Loaded}
use Rattle.vcpu_state.specs.Moves.{shelved_of}
use Rattle.port_call.specs.Core.{Seen}
use Rattle.pe_loop.specs.Enter.{Enters}
use Rattle.pe_loop.specs.Leave.{Leaves}

-- a vCPU left its PE, and then entered it with as many list registers: nothing comes between
pub record LeavesThenEnters (old new : Seen) (before after : Loaded) : Type 0 where
  pub mid : Seen
  pub shelved : Shelved
  pub shelved_is : shelved ≡ shelved_of before
  pub leaves : Leaves old mid before shelved
  pub enters : Enters mid new shelved before.regs.n after
