-- What a vCPU does before an access is decided: in trap mode it looks for the first interrupt, and it takes an interrupt to its interface that it is to end
-- and that is active by it and not there (own choice).
use Rattle.std.specs.Prelude.{◌≡◌, ℕ, ◌^◌, Bool, true, false, IsTrue, List, [], Some, None, replicate}
use Rattle.pe_loop.specs.Words.{Key, has_interrupt, is_of_vcpu, Irq as IrqRecord, is_number, IsIrq, irq_of, packed}
use Rattle.pe_loop.specs.Calls.{Operation, named_of}
use Rattle.pe_loop.specs.Lists.{hcr_en}
use Rattle.pe_loop.specs.VcpuState.declared.loaded.Loaded.{Loaded}
use Rattle.pe_loop.specs.Core.{Made, Irq, known, is_at, Seen, Adds, shape_of, part_events, IsIrqWord, Progress, Debt, owing_after, is_end_of}
use Rattle.pe_loop.specs.PortCall.Piece.{takes_none}
use Rattle.pe_icc.specs.Amid.{IsAble, IsSame, IsSet, Leads}

-- the PE with no interrupt in its list registers, and ICH_HCR En alone
abbrev pub emptied : Loaded → Loaded
emptied vcpu = record vcpu { regs = record vcpu.regs { lr = replicate 16 0; hcr = 2 ^ hcr_en }; held = replicate 16 None }

-- The interrupt that a call ends, where it is not at the interface.

-- a vCPU knows whether it is active by it, since its last look for a kick
pub record HasLooked (seen : Seen) (vcpu : Loaded) (operation : Operation) (debt : Debt) (active : Bool) (p : Progress) : Type 0 where
  pub able : IsAble seen vcpu operation debt p
  pub far : p.far ≡ Some active

-- a vCPU looked at an interrupt that is not at its interface
pub record LooksFor (old new : Seen) (key : Key) (irq : IrqRecord) : Type 0 where
  pub found : ℕ
  pub part : List Made
  pub adds : Adds old new part
  pub none_taken : IsTrue (takes_none part)
  pub silent : part_events old part ≡ []
  pub word : IsIrqWord (shape_of old) key found
  pub irq_is : irq ≡ irq_of found
  pub free : is_number old.actor irq.holder ≡ is_at key old.local.at
  pub same : new.local ≡ old.local
  pub known_as : known (shape_of new) new.actor new.own (Irq key) ≡ Some found
  pub leads :
      (vcpu : Loaded) (operation : Operation) (debt : Debt) → is_end_of (shape_of old) old.actor (Some operation) key ≡ true
      → Leads old part (IsAble old vcpu operation debt) (HasLooked new vcpu operation debt (is_number old.actor irq.act_by))

-- The claim of one that is active by the vCPU.

-- the vCPU may claim it with its active state alone: it looked at it, and has nothing at its interface
pub record CanClaimFar (seen : Seen) (vcpu : Loaded) (key : Key) (irq : IrqRecord) : Type 0 where
  pub set : IsSet seen vcpu
  pub empty : seen.local.at ≡ []
  pub there : IsTrue (has_interrupt (shape_of seen) key)
  pub own : IsTrue (is_of_vcpu seen.actor key)
  pub fits : IsIrq irq
  pub word : IsIrqWord (shape_of seen) key (packed irq)
  pub known_as : known (shape_of seen) seen.actor seen.own (Irq key) ≡ Some (packed irq)
  pub free : irq.holder ≡ None
  pub active : is_number seen.actor irq.act_by ≡ true

-- it did, or kicked itself: a scan is owed after the end of interrupt
pub record ClaimsFar (old new : Seen) (key : Key) (before after : Loaded) : Type 0 where
  pub part : List Made
  pub adds : Adds old new part
  pub none_taken : IsTrue (takes_none part)
  pub moves : named_of (Some old.actor) (part_events old part) ≡ []
  pub set : IsSet new after
  pub same : IsSame before after
  pub leads : (operation : Operation) (debt : Debt) → is_end_of (shape_of old) old.actor (Some operation) key ≡ true → Leads old part (HasLooked old before operation debt true) (HasLooked new after operation (owing_after debt) false)
