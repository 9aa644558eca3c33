-- One place of a vCPU on a PE: a list register and what is held there (own choice).
use Rattle.std.specs.Prelude.{ℕ, ◌≡◌, ◌≢◌, ◌⊎◌, Option, List, Contains, slice_set}
use Rattle.gic_ich.specs.Words.{HeldIrq, Key}
use Rattle.gic_ich.specs.GicPrio.Interface.{AtInterface}
use Rattle.vcpu_state.specs.declared.loaded.Loaded.{Loaded}

-- the vCPU with this list register at a place, and this held there
abbrev pub with_place : ℕ → ℕ → Option HeldIrq → Loaded → Loaded
with_place place word held vcpu =
    record vcpu { regs = record vcpu.regs { lr = slice_set vcpu.regs.lr place word }; held = slice_set vcpu.held place held }

-- an interface has these interrupts and one more
pub record IsWith (entry : AtInterface) (before after : List AtInterface) : Type 0 where
  pub one : Contains after entry
  pub kept : (other : AtInterface) → Contains before other → Contains after other
  pub only : (other : AtInterface) → Contains after other → (other ≡ entry) ⊎ Contains before other

-- an interface has these interrupts but this one
pub record IsWithout (key : Key) (before after : List AtInterface) : Type 0 where
  pub kept : (other : AtInterface) → Contains before other → other.key ≢ key → Contains after other
  pub only : (other : AtInterface) → Contains after other → Contains before other
  pub gone : (other : AtInterface) → Contains after other → other.key ≢ key
