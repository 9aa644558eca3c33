-- A vCPU gets ready for an end of interrupt (own choice).
use Rattle.std.specs.Prelude.{◌≡◌, ◌||◌, not, true, IsTrue, List, [], Some, None, unwrap_or}
use Rattle.pe_loop.specs.Words.{Key, has_interrupt, is_of_vcpu, Irq as IrqRecord, is_number, IsIrq, packed}
use Rattle.pe_loop.specs.Calls.{Operation, named_of}
use Rattle.pe_loop.specs.VcpuState.declared.loaded.Loaded.{Loaded}
use Rattle.pe_loop.specs.Core.{Made, Irq, known, is_at, Seen, Adds, shape_of, part_events, IsIrqWord, Progress, Debt, is_end_of}
use Rattle.pe_loop.specs.PortCall.Piece.{takes_none}
use Rattle.pe_icc.specs.declared.stay.Stay.{Stay}
use Rattle.pe_icc.specs.Amid.{IsAble, IsSame, IsSet, Leads, debt_of}
use Rattle.pe_icc.specs.Prepare.{HasLooked}

-- an interrupt that the vCPU looked at is active by it and not at its interface
pub record CanTakeFar (seen : Seen) (vcpu : Loaded) (key : Key) (irq : IrqRecord) : Type 0 where
  pub set : IsSet seen vcpu
  pub there : IsTrue (has_interrupt (shape_of seen) key)
  pub own : IsTrue (is_of_vcpu seen.actor key)
  pub fits : IsIrq irq
  pub word : IsIrqWord (shape_of seen) key (packed irq)
  pub known_as : known (shape_of seen) seen.actor seen.own (Irq key) ≡ Some (packed irq)
  pub free : irq.holder ≡ None
  pub active : is_number seen.actor irq.act_by ≡ true

-- the vCPU may end the interrupt: it is at its interface, or the vCPU found it inactive, or claimed it
pub record MayEnd (seen : Seen) (vcpu : Loaded) (operation : Operation) (debt : Debt) (key : Key) (p : Progress) : Type 0 where
  pub able : IsAble seen vcpu operation debt p
  pub known : (is_at key p.local.at || not (unwrap_or p.far true)) ≡ true

-- the vCPU got so far from where its protocol is so
pub record GetsReady (old new : Seen) (key : Key) (before after : Stay) (Before : Operation → Progress → Type 0) : Type 0 where
  pub part : List Made
  pub adds : Adds old new part
  pub none_taken : IsTrue (takes_none part)
  pub moves : named_of (Some old.actor) (part_events old part) ≡ []
  pub set : IsSet new after.vcpu
  pub same : IsSame before.vcpu after.vcpu
  pub leads : (operation : Operation) → is_end_of (shape_of old) old.actor (Some operation) key ≡ true → Leads old part (Before operation) (MayEnd new after.vcpu operation (debt_of after.owing) key)

abbrev pub ReadiesEnd : Seen → Seen → Key → Stay → Stay → Type 0
ReadiesEnd old new key before after = GetsReady old new key before after (λ operation. IsAble old before.vcpu operation (debt_of before.owing))

abbrev pub TakesFar : Seen → Seen → Key → Stay → Stay → Type 0
TakesFar old new key before after = GetsReady old new key before after (λ operation. HasLooked old before.vcpu operation (debt_of before.owing) true)
