-- What a call can find in a guest.
use Rattle.std.specs.Prelude.{ℕ, Bool, Option}
use Rattle.std.specs.Option.{option_map_or}
use Rattle.floor_registers.specs.Words.{GuestShape, Key, Irq}
use Rattle.floor_registers.specs.Registers.{Enables, part_of, extracted, enabled_in, Maps}
use Rattle.gic_open.specs.declared.plain.PlainWord.{PlainWord}
use Rattle.gic_open.specs.declared.plain.PlainWord.TheVariants.{Ram, ItsCtlr}

-- what a call finds of what a guest shares: the records of interrupts, the vCPUs that LPIs are for, EnableLPIs of each redistributor, the plain
-- words, the group enables of GICD_CTLR and whether a write is still copying them, and of the ITS the offset of its queue, whether that is
-- stalled, and its maps
pub record View : Type 0 where
  pub irqs : Key → Irq
  pub targets : ℕ → Option ℕ
  pub lpis : ℕ → Bool
  pub words : PlainWord → ℕ
  pub enables : Enables
  pub is_spreading : Bool
  pub offset : ℕ
  pub is_stalled : Bool
  pub maps : Maps

-- what so many bytes of the guest's memory hold; 0 outside of it (own choice)
abbrev pub memory_at : GuestShape → View → ℕ → ℕ → ℕ
memory_at shape view address size = option_map_or (λ part. extracted (view.words (Ram part.index)) part) (part_of address size shape.ram) 0

-- the ITS is enabled (IHI 0069, GITS_CTLR.Enabled)
abbrev pub is_its_enabled : View → Bool
is_its_enabled view = enabled_in (view.words ItsCtlr)
