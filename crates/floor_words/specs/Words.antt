-- Words: bits, lists, what a guest has, the record of one interrupt, by one name each.
pub use Rattle.gic_word.specs.GicBits.Bits.{bit_of, field_at, has_bit}
pub use Rattle.gic_word.specs.GicBits.Sets.{set_of}
pub use Rattle.gic_word.specs.GicBase.Icc.{is_readable, is_writable, name_of, register_named, registers}
pub use Rattle.gic_word.specs.GicBase.Interrupt.{PlacesAreOrdered, espis_from, has_interrupt, interrupt_count, intid_of, is_of_vcpu, is_same_key, is_sgi, is_within, key_at, key_of, lpis_from, place_of, private_count}
pub use Rattle.gic_word.specs.GicBase.Shape.{IsShape, max_vcpus}
pub use Rattle.gic_word.specs.GicBase.declared.held.Back.{Back}
pub use Rattle.gic_word.specs.GicBase.declared.held.HeldIrq.{HeldIrq}
pub use Rattle.gic_word.specs.GicBase.declared.held.TheConstants.{MAX_LIST_REGISTERS}
pub use Rattle.gic_word.specs.GicBase.declared.icc.IccReg.{IccReg}
pub use Rattle.gic_word.specs.GicBase.declared.icc.IccReg.TheVariants.{Ap0r0, Ap1r0, Bpr0, Bpr1, Ctlr, Dir, Eoir0, Eoir1, Hppir0, Hppir1, Iar0, Iar1, Igrpen0, Igrpen1, Pmr, Rpr, Sgi1r, Sre}
pub use Rattle.gic_word.specs.GicBase.declared.interrupt.Key.{Key}
pub use Rattle.gic_word.specs.GicBase.declared.interrupt.Key.TheVariants.{Lpi, Private, Spi}
pub use Rattle.gic_word.specs.GicBase.declared.memory.NoMemory.{NoMemory}
pub use Rattle.gic_word.specs.GicBase.declared.operation.Actor.{Actor}
pub use Rattle.gic_word.specs.GicBase.declared.operation.Actor.TheVariants.{Device, Vcpu}
pub use Rattle.gic_word.specs.GicBase.declared.operation.DeviceOp.{DeviceOp}
pub use Rattle.gic_word.specs.GicBase.declared.operation.DeviceOp.TheVariants.{Message, Msi, Wire}
pub use Rattle.gic_word.specs.GicBase.declared.operation.Frame.{Frame}
pub use Rattle.gic_word.specs.GicBase.declared.operation.Frame.TheVariants.{Dist, Its, Ram, Redist}
pub use Rattle.gic_word.specs.GicBase.declared.operation.GuestOp.{GuestOp}
pub use Rattle.gic_word.specs.GicBase.declared.operation.GuestOp.TheVariants.{Icc, Mem}
pub use Rattle.gic_word.specs.GicBase.declared.operation.Kind.{Kind}
pub use Rattle.gic_word.specs.GicBase.declared.operation.Kind.TheVariants.{ClearActive, ClearEnable, ClearPending, Config, Priority, Routing, SetActive, SetEnable, SetPending}
pub use Rattle.gic_word.specs.GicBase.declared.operation.PeOp.{PeOp}
pub use Rattle.gic_word.specs.GicBase.declared.operation.PeOp.TheVariants.{Enter, Exit, Lrs}
pub use Rattle.gic_word.specs.GicBase.declared.shape.GuestShape.{GuestShape}
pub use Rattle.gic_word.specs.CauseBits.{AndChanges, CauseBits, DeviceBits, IsChange, OrChanges}
pub use Rattle.gic_word.specs.Causes.{acknowledged, cleared, deactivated, has_active_state, raised, wire_down, wire_up}
pub use Rattle.gic_word.specs.Record.{group_number, is_forwarded, is_number, is_pending, is_ripe, target_in}
pub use Rattle.gic_word.specs.ReleaseBits.{ReleaseBits, active_bits_of, cause_bits_of}
pub use Rattle.gic_word.specs.Valid.{IsHome, IsRecordOf, is_group_1, is_of_kind, is_routed_as, is_vcpu_or_none}
pub use Rattle.gic_word.specs.Word.{HasFlags, IsIrq, IsRoute, IsSeat, IsWord, active_field, flags_number, holder_field, irq_of, packed, route_field, route_number, route_of, seat_at, seat_number}
pub use Rattle.gic_word.specs.declared.places.TheConstants.{ACTIVE_BY_NONE, HELD_BY_NONE, LINE, RAISE, RISE, SOFT, WIRE_DOWN, WIRE_UP}
pub use Rattle.gic_word.specs.declared.record.Group.TheVariants.{G0, G1}
pub use Rattle.gic_word.specs.declared.record.Irq.{Irq}
pub use Rattle.gic_word.specs.declared.record.Route.{Route}
pub use Rattle.gic_word.specs.declared.record.Route.TheVariants.{Affinity, Target}
