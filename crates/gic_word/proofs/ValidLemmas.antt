-- What happens to an interrupt leaves its record valid.
use Rattle.std.proofs.Common.{◌<◌, ℕ, Bool, true, false, cond, IsTrue, Some, None, refl, arith}
use Rattle.std.proofs.lemmas.Grind.{common_steps}
use Rattle.gic_base.specs.declared.shape.GuestShape.{GuestShape}
use Rattle.gic_base.specs.declared.interrupt.Key.{Key}
use Rattle.gic_base.specs.declared.interrupt.Key.TheVariants.{Private, Spi, Lpi}
use Rattle.gic_base.specs.Shape.{IsShape}
use Rattle.gic_word.specs.declared.record.Irq.{Irq}
use Rattle.gic_word.specs.Record.{is_number}
use Rattle.gic_word.specs.Word.{IsIrq}
use Rattle.gic_word.specs.Causes.{raised, wire_up, wire_down, cleared, acknowledged, deactivated}
use Rattle.gic_word.specs.Valid.{is_of_kind, IsRecordOf}

-- a record with other causes
packable_kept : (irq : Irq) (line rise soft : Bool) → IsIrq irq → IsIrq (record irq { line = line; rise = rise; soft = soft })
packable_kept irq line rise soft is = record { prio = is.prio; prio_bits = is.prio_bits; active = is.active; holder = is.holder; route = is.route }

kind_kept : (key : Key) (irq : Irq) (line rise soft : Bool) → IsTrue (is_of_kind key irq) → IsTrue (is_of_kind key (record irq { line = line; rise = rise; soft = soft }))
kind_kept (Private vcpu id) irq line rise soft h = h
kind_kept (Spi id) irq line rise soft h = h
kind_kept (Lpi id) irq line rise soft h = h

causes_kept : (shape : GuestShape) (key : Key) (irq : Irq) (line rise soft : Bool) → IsRecordOf shape key irq → IsRecordOf shape key (record irq { line = line; rise = rise; soft = soft })
causes_kept shape key irq line rise soft is = record { packable = packable_kept irq line rise soft is.packable; route = is.route; kind = kind_kept key irq line rise soft is.kind; active = is.active; holder = is.holder }

pub valid_raised : (shape : GuestShape) (key : Key) (irq : Irq) → IsRecordOf shape key irq → IsRecordOf shape key (raised irq)
valid_raised shape key irq is = causes_kept shape key irq irq.line irq.rise true is

pub valid_wire_up : (shape : GuestShape) (key : Key) (irq : Irq) → IsRecordOf shape key irq → IsRecordOf shape key (wire_up irq)
valid_wire_up shape key irq is = causes_kept shape key irq true true irq.soft is

pub valid_wire_down : (shape : GuestShape) (key : Key) (irq : Irq) → IsRecordOf shape key irq → IsRecordOf shape key (wire_down irq)
valid_wire_down shape key irq is = causes_kept shape key irq false irq.rise irq.soft is

pub valid_cleared : (shape : GuestShape) (key : Key) (irq : Irq) → IsRecordOf shape key irq → IsRecordOf shape key (cleared irq)
valid_cleared shape key irq is = causes_kept shape key irq irq.line false false is

-- a record that is no longer active
idle_kind : (key : Key) (irq : Irq) → IsTrue (is_of_kind key irq) → IsTrue (is_of_kind key (record irq { act_by = None }))
idle_kind (Private vcpu id) irq h = h
idle_kind (Spi id) irq h = h
idle_kind (Lpi id) irq h = grind (arith, common_steps)

valid_idle : (shape : GuestShape) (key : Key) (irq : Irq) → IsRecordOf shape key irq → IsRecordOf shape key (record irq { act_by = None })
valid_idle shape key irq is =
    record {
      packable = record { prio = is.packable.prio; prio_bits = is.packable.prio_bits; active = tt; holder = is.packable.holder; route = is.packable.route };
      route = is.route;
      kind = idle_kind key irq is.kind;
      active = refl;
      holder = is.holder;
    }

pub valid_deactivated : (shape : GuestShape) (key : Key) (vcpu : ℕ) (irq : Irq) → IsRecordOf shape key irq → IsRecordOf shape key (deactivated vcpu irq)
valid_deactivated shape key vcpu irq is =
    elim (is_number vcpu irq.act_by) as (λ b. IsRecordOf shape key (cond b (record irq { act_by = None }) irq)) [ true ↦ valid_idle shape key irq is | false ↦ is ]

-- a record that is active by a vCPU of the guest
valid_active : (shape : GuestShape) (key : Key) (vcpu : ℕ) (irq : Irq) → IsShape shape → vcpu < shape.vcpus → IsTrue (is_of_kind key (record irq { act_by = Some vcpu })) → IsRecordOf shape key irq → IsRecordOf shape key (record irq { act_by = Some vcpu })
valid_active shape key vcpu irq good there kind is =
    record {
      packable = record { prio = is.packable.prio; prio_bits = is.packable.prio_bits; active = omega (arith, good.vcpus, there); holder = is.packable.holder; route = is.packable.route };
      route = is.route;
      kind = kind;
      active = grind (arith, common_steps, there);
      holder = is.holder;
    }

pub valid_acknowledged : (shape : GuestShape) (key : Key) (vcpu : ℕ) (irq : Irq) → IsShape shape → vcpu < shape.vcpus → IsRecordOf shape key irq → IsRecordOf shape key (acknowledged key vcpu irq)
valid_acknowledged shape (Private v id) vcpu irq good there is = let clear = valid_cleared shape (Private v id) irq is in valid_active shape (Private v id) vcpu (cleared irq) good there clear.kind clear
valid_acknowledged shape (Spi id) vcpu irq good there is = let clear = valid_cleared shape (Spi id) irq is in valid_active shape (Spi id) vcpu (cleared irq) good there clear.kind clear
valid_acknowledged shape (Lpi id) vcpu irq good there is = valid_idle shape (Lpi id) (cleared irq) (valid_cleared shape (Lpi id) irq is)
