-- What happens to the record of an interrupt (IHI 0069, "Interrupt handling state machine").
use Rattle.std.specs.Prelude.{ℕ, Bool, true, false, Some, None, if◌then◌else◌}
use Rattle.gic_base.specs.declared.interrupt.Key.{Key}
use Rattle.gic_base.specs.declared.interrupt.Key.TheVariants.{Private, Spi, Lpi}
use Rattle.gic_word.specs.declared.record.Irq.{Irq}
use Rattle.gic_word.specs.Record.{is_number}

-- pended by a register, a message, an SGI, an INT command or an MSI
abbrev pub raised : Irq → Irq
raised irq = record irq { soft = true }

-- the wire goes up, and rises whichever way the interrupt is configured (own choice)
abbrev pub wire_up : Irq → Irq
wire_up irq = record irq { line = true; rise = true }

-- the wire goes down
abbrev pub wire_down : Irq → Irq
wire_down irq = record irq { line = false }

-- the latched causes go: a clear of the pending state, which leaves the line (IHI 0069, GICD_ICPENDR)
abbrev pub cleared : Irq → Irq
cleared irq = record irq { rise = false; soft = false }

-- an acknowledge makes the interrupt active: an LPI has no active state
abbrev pub has_active_state : Key → Bool
has_active_state (Private vcpu id) = true
has_active_state (Spi id) = true
has_active_state (Lpi id) = false

-- an acknowledge by this vCPU consumes the latched causes, and makes the interrupt active by the vCPU, or leaves an LPI inactive
abbrev pub acknowledged : Key → ℕ → Irq → Irq
acknowledged key vcpu irq = record (cleared irq) { act_by = if has_active_state key then Some vcpu else None }

-- a deactivation by this vCPU makes the interrupt inactive, if it was active by this vCPU
abbrev pub deactivated : ℕ → Irq → Irq
deactivated vcpu irq = if is_number vcpu irq.act_by then record irq { act_by = None } else irq
