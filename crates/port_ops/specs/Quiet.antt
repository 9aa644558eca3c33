-- Interrupts that concern no vCPU (own choice).
use Rattle.std.specs.Prelude.{◌&&◌, not, Bool, is_none}
use Rattle.port_core.specs.Words.{Irq, is_pending}

-- the interrupt is neither pending nor active
abbrev pub is_quiet : Irq → Bool
is_quiet irq = not (is_pending irq) && is_none irq.act_by
