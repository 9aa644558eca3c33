-- The enables of GICD_CTLR, copied to interrupts so far.
use Rattle.std.proofs.Common.{◌≡◌, ℕ, ◌+◌, Some, sym, ap}
use Rattle.its_exec.specs.Words.{Key, key_at, Irq}
use Rattle.its_exec.specs.Registers.{Enables}
use Rattle.its_exec.specs.Calls.{Touch, Enables as CopyEnables, copy_at}
use Rattle.its_exec.specs.Core.{Seen, shape_of}
use Rattle.its_exec.specs.PortCall.Rest.{IsAtEase}
use Rattle.its_exec.specs.PortCall.Touch.{Touches}
use Rattle.pe_mem.specs.Each.{TouchesEach}
use Rattle.pe_mem.proofs.EachLemmas.{with_irq, found_irq, touches_none, touches_more, ease_on}
use Rattle.pe_mem.proofs.PartsLemmas.{no_irqs}

pub record CopiedSoFar (old now : Seen) (enables : Enables) (place : ℕ) : Type 0 where
  pub irqs : ℕ → Irq
  pub touches : TouchesEach old now (λ place. Some (copy_at (shape_of old) enables place)) place irqs

pub copied_none : (seen : Seen) (enables : Enables) → IsAtEase seen.local → CopiedSoFar seen seen enables 0
copied_none seen enables ease = record { irqs = no_irqs; touches = touches_none seen (λ place. Some (copy_at (shape_of seen) enables place)) no_irqs ease }

pub copied_ease : (old now : Seen) (enables : Enables) (place : ℕ) → IsAtEase old.local → CopiedSoFar old now enables place → IsAtEase now.local
copied_ease old now enables place ease copied = ease_on old.local now.local copied.touches.stays ease

pub copied_more : (old mid new : Seen) (enables : Enables) (place : ℕ) (key : Key) (found : ℕ) → key ≡ key_at (shape_of old) place → CopiedSoFar old mid enables place → Touches mid new key (CopyEnables enables.group0 enables.group1) found
    → CopiedSoFar old new enables (place + 1)
copied_more old mid new enables place key found is copied made =
    record {
      irqs = with_irq copied.irqs place (found_irq found);
      touches =
          touches_more old mid new (λ place. Some (copy_at (shape_of old) enables place)) place copied.irqs key (CopyEnables enables.group0 enables.group1) found
          (ap (λ key. Some (Touch key (CopyEnables enables.group0 enables.group1))) (sym is)) copied.touches made;
    }
