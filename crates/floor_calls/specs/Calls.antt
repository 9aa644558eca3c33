-- Calls: guests, how they open, and what happens event by event, by one name each.
pub use Rattle.gic_call.specs.GicGuest.Good.{IsGoodGuest, IsGoodPreset, fits, has_frame, has_wire, is_addressed, is_good_event, is_good_op, is_inside, is_usable, passes, preset_key, shapes_of}
pub use Rattle.gic_call.specs.GicGuest.declared.guest.GuestSpec.{GuestSpec}
pub use Rattle.gic_call.specs.GicGuest.declared.outcome.Answer.TheVariants.{Regs, Value}
pub use Rattle.gic_call.specs.GicGuest.declared.outcome.ColEnd.{ColEnd}
pub use Rattle.gic_call.specs.GicGuest.declared.outcome.CpuEnd.{CpuEnd}
pub use Rattle.gic_call.specs.GicGuest.declared.outcome.DevEnd.{DevEnd}
pub use Rattle.gic_call.specs.GicGuest.declared.outcome.EvtEnd.{EvtEnd}
pub use Rattle.gic_call.specs.GicGuest.declared.outcome.IrqEnd.{IrqEnd}
pub use Rattle.gic_call.specs.GicGuest.declared.outcome.RunOut.{RunOut}
pub use Rattle.gic_call.specs.GicGuest.declared.preset.Preset.{Preset}
pub use Rattle.gic_call.specs.GicOpen.Opening.{OpeningsAreValid, RecordsAreApart, after_preset, cpus_of, group_of, idle_irq, irq_in, irqs_of, opening_cpu, opening_enables, opening_irq, opening_irqs, with_irq_in, with_preset}
pub use Rattle.gic_call.specs.GicOpen.Plain.{has_plain, its_from, its_word_of, place_of_plain, plain_at, plain_count, vcpu_word_of, vcpus_from}
pub use Rattle.gic_call.specs.GicOpen.declared.plain.PlainWord.{PlainWord}
pub use Rattle.gic_call.specs.GicOpen.declared.plain.PlainWord.TheVariants.{Baser0, Baser1, Cbaser, Cwriter, Fault, ItsCtlr, Pendbaser, Propbaser, Ram}
pub use Rattle.gic_call.specs.Access.{baser_written, copy_at, ctlr_events, cwriter_events, dist_events, dist_held, dist_plain, dist_value, dist_written, enable_events, is_in_queue, is_in_table, is_table_zero, its_held, its_value, its_written, lpis_of, memory_written, of_spi, part_at, part_event, part_events, part_key, part_touch, part_value, pended_at, pended_events, redist_events, redist_held, redist_value, redist_written, router_touch, sets_lpis, takes_its, unless_enabled, with_part}
pub use Rattle.gic_call.specs.Call.{access_events, access_value, device_events, icc_events, icc_raises, its_events, its_starts, msi_raises, sgi_at, sgi_events, takes_turn}
pub use Rattle.gic_call.specs.Command.{command_events, command_parts, command_words, config_byte, decoded_parts, each, for_one, is_queue_valid, lpi_event, lpis_for, lpis_of_collection, lpis_of_device, mapping_parts, maps_by, maps_done, next_offset, parts, queue_address, queue_event, queue_places, takes_command, word_address}
pub use Rattle.gic_call.specs.Fit.{FitParts, FitsDist, FitsHalf, FitsIts, FitsRedist}
pub use Rattle.gic_call.specs.Laws.{AccessesKeepEntries, DeliveredIsCandidate, LeaveUndoesReach, LeaveUndoesTake, ReadsAreShown, TakeLosesNothing}
pub use Rattle.gic_call.specs.Move.{IsEntryOf, IsMovedOf, at_interface, entry_of, left, may_reach, may_take, reached, taken}
pub use Rattle.gic_call.specs.Touch.{CanTouch, has_shown_part, is_lpi, is_priority, is_shown, is_touch_of, touch_answer, touched}
pub use Rattle.gic_call.specs.Trace.{AreCommands, ArePartsThen, AreStarted, Beside, EndsWith, HandsOut, Happened, HaveSameIts, IsAccessCall, IsCall, IsCommand, IsCommandThen, IsDeviceCall, IsIccCall, IsItsCall, IsItsWrite, IsLastRead, IsPartThen, IsPlainCall, Makes, MakesAfter, MakesDevice, MakesMsi, RaisesAlone, MakesPlain, access_places, begins_named, byte_places, command_places, command_targets, device_places, dist_places, enabled_by, held_at, is_actor, is_beside, its_places, its_read_places, its_write_places, its_written_by, left_by, memory_places, named_of, read_answer, redist_places, table_places, words_read}
pub use Rattle.gic_call.specs.Valid.{CanHappen, HappensFreely, IsOffset, has_place, is_stored}
pub use Rattle.gic_call.specs.View.{View, is_its_enabled, memory_at}
pub use Rattle.gic_call.specs.declared.command.Part.{Part}
pub use Rattle.gic_call.specs.declared.command.Part.TheVariants.{Clear, Map}
pub use Rattle.gic_call.specs.declared.event.Event.{Event}
pub use Rattle.gic_call.specs.declared.event.Event.TheVariants.{Cpu, CtlrBegin, CtlrEnd, Down, Enable, ItsBegin, Leave, Put, Reach, Take, Touch, Up}
pub use Rattle.gic_call.specs.declared.event.Found.{Found}
pub use Rattle.gic_call.specs.declared.event.Found.TheVariants.{Record}
pub use Rattle.gic_call.specs.declared.event.Moment.{Moment}
pub use Rattle.gic_call.specs.declared.event.Moment.TheVariants.{Begin, Happens}
pub use Rattle.gic_call.specs.declared.event.Operation.{Operation}
pub use Rattle.gic_call.specs.declared.event.Operation.TheVariants.{Access, Device, Residence}
pub use Rattle.gic_call.specs.declared.event.Place.{Place}
pub use Rattle.gic_call.specs.declared.event.QueueChange.{QueueChange}
pub use Rattle.gic_call.specs.declared.event.QueueChange.TheVariants.{Done, Runs, Stalls}
pub use Rattle.gic_call.specs.declared.moves.Entry.{Entry}
pub use Rattle.gic_call.specs.declared.moves.Moved.{Moved}
pub use Rattle.gic_call.specs.declared.touch.Touching.{Touching}
pub use Rattle.gic_call.specs.declared.touch.Touching.TheVariants.{Enables, MapLpi, Register}
