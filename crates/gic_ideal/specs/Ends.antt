-- The fields of the lines that tell how a guest ended (own choice).
use Rattle.std.specs.Prelude.{ℕ, ◌==◌, ◌&&◌, not, false, List, [], ◌∷◌, map, Bool, nat_eq, if◌then◌else◌, Option, Some, None}
use Rattle.std.specs.Option.{option_eq}
use Rattle.std.specs.Bool.{beq}
use Rattle.std.specs.List.{range_with_len, filter_map}
use Rattle.ideal_guest.specs.Words.{interrupt_count, key_at, group_number, target_in}
use Rattle.vcpu_refill.specs.GicIch.Vmcr.{vmcr_of}
use Rattle.ideal_guest.specs.declared.guest.IdealGuest.{IdealGuest}
use Rattle.ideal_guest.specs.Calls.{CpuEnd, IrqEnd, DevEnd, EvtEnd, ColEnd, ItsCtlr, Cbaser, Cwriter, Fault}
use Rattle.ideal_guest.specs.GicGuest.declared.outcome.End.{End}
use Rattle.ideal_guest.specs.GicGuest.declared.outcome.ItsEnd.{ItsEnd}
use Rattle.ideal_guest.specs.Registers.{has_lpis, enabled_in, creadr_of}
use Rattle.ideal_guest.specs.GicDmap.Contents.{ctlr_of}
use Rattle.ideal_guest.specs.GicImap.Contents.{ctlr_of as its_ctlr_of}
use Rattle.ideal_guest.specs.Ideal.{cpu_at, irq_at, word_at}

-- the end of a vCPU's CPU interface
abbrev pub cpu_end : IdealGuest → ℕ → CpuEnd
cpu_end guest vcpu = let cpu = cpu_at guest vcpu in
    record { vcpu = vcpu; vmcr = vmcr_of cpu; ap0 = cpu.ap0; ap1 = cpu.ap1; lpis = cpu.lpis }

-- the end of the interrupt at a place in key order
abbrev pub irq_end : IdealGuest → ℕ → IrqEnd
irq_end guest place = let key = key_at guest.shape place in let irq = irq_at guest key in
    record {
      key = key;
      enabled = irq.enabled;
      group = group_number irq.group;
      prio = irq.prio;
      edge = irq.edge;
      line = irq.line;
      rise = irq.rise;
      soft = irq.soft;
      act_by = irq.act_by;
      to = target_in irq.route guest.shape;
    }

-- the lines of the two ends are alike
abbrev pub is_same_cpu_end : CpuEnd → CpuEnd → Bool
is_same_cpu_end a b = a.vmcr == b.vmcr && a.ap0 == b.ap0 && a.ap1 == b.ap1 && beq a.lpis b.lpis

-- the same of two ends of one interrupt
abbrev pub is_same_irq_end : IrqEnd → IrqEnd → Bool
is_same_irq_end a b =
    beq a.enabled b.enabled && a.group == b.group && a.prio == b.prio && beq a.edge b.edge && beq a.line b.line && beq a.rise b.rise && beq a.soft b.soft
    && option_eq nat_eq a.act_by b.act_by && option_eq nat_eq a.to b.to

-- the end of this number, if it is not as at the opening
abbrev pub changed_at : {E : Type 0} → (E → E → Bool) → (ℕ → E) → (ℕ → E) → ℕ → Option E
changed_at is_same opened closed n = if is_same (opened n) (closed n) then None else Some (closed n)

-- the ends, by number from 0, that are not as at the opening
abbrev pub changed : {E : Type 0} → (E → E → Bool) → (ℕ → E) → (ℕ → E) → ℕ → List E
changed is_same opened closed count = filter_map (changed_at is_same opened closed) (range_with_len 0 count)

-- GICD_CTLR, if its group enables are not as at the opening
abbrev pub gicd_end : IdealGuest → IdealGuest → Option ℕ
gicd_end opened closed = let ctlr = ctlr_of closed.enables false in if ctlr_of opened.enables false == ctlr then None else Some ctlr

-- the end of the ITS; the fault is that of the command that stalls the queue
abbrev pub its_end : IdealGuest → ItsEnd
its_end guest =
    record {
      ctlr = its_ctlr_of (enabled_in (word_at guest ItsCtlr));
      cbaser = word_at guest Cbaser;
      cwriter = word_at guest Cwriter;
      creadr = creadr_of guest.is_stalled guest.offset;
      fault = if guest.is_stalled then word_at guest Fault else 0;
    }

-- the lines of the two ends of the ITS are alike
abbrev pub is_same_its_end : ItsEnd → ItsEnd → Bool
is_same_its_end a b = a.ctlr == b.ctlr && a.cbaser == b.cbaser && a.cwriter == b.cwriter && a.creadr == b.creadr && a.fault == b.fault

-- the end of the ITS of a guest that has one, if it is not as at the opening
abbrev pub its_end_between : IdealGuest → IdealGuest → Option ItsEnd
its_end_between opened closed = if has_lpis closed.shape && not (is_same_its_end (its_end opened) (its_end closed)) then Some (its_end closed) else None

-- the end of a device, an event or a collection that is mapped
abbrev pub dev_end : ℕ × ℕ → DevEnd
dev_end pair = record { device = pair.0; bits = pair.1 }

abbrev pub evt_end : (ℕ × ℕ) × (ℕ × ℕ) → EvtEnd
evt_end pair = record { device = pair.0.0; event = pair.0.1; id = pair.1.0; icid = pair.1.1 }

abbrev pub col_end : ℕ × ℕ → ColEnd
col_end pair = record { icid = pair.0; vcpu = pair.1 }

-- how a guest that opened in the one state ended in the other
abbrev pub end_of : IdealGuest → IdealGuest → End
end_of opened closed =
    record {
      gicd = gicd_end opened closed;
      cpus = changed is_same_cpu_end (cpu_end opened) (cpu_end closed) opened.shape.vcpus;
      irqs = changed is_same_irq_end (irq_end opened) (irq_end closed) (interrupt_count opened.shape);
      its = its_end_between opened closed;
      devs = map dev_end closed.tables.devices;
      evts = map evt_end closed.tables.events;
      cols = map col_end closed.tables.collections;
    }

-- how each guest ended
abbrev pub ends_of : List IdealGuest → List IdealGuest → List End
ends_of [] closed = []
ends_of (before ∷ opened) [] = []
ends_of (before ∷ opened) (after ∷ closed) = end_of before after ∷ ends_of opened closed
