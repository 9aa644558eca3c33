-- Registers: frames and maps, priorities, memory, commands and tables of the ITS, by one name each.
pub use Rattle.gic_dmap.specs.GicFrame.Bank.{contains, half_at, half_of, takes, width_of}
pub use Rattle.gic_dmap.specs.GicFrame.Guest.{has_lpis}
pub use Rattle.gic_dmap.specs.GicFrame.Half.{half_limit, half_read, half_written, other_half}
pub use Rattle.gic_dmap.specs.GicFrame.Identity.{iidr, pidr2}
pub use Rattle.gic_dmap.specs.GicFrame.Line.{access_at, bank_of, found_at, found_in, is_in_order, line_at}
pub use Rattle.gic_dmap.specs.GicFrame.Part.{AreWithin, HasPart, access_of, part_bits, parts_bank, parts_in}
pub use Rattle.gic_dmap.specs.GicFrame.Parts.{JoiningUndoesCutting, joined, part_at, part_in}
pub use Rattle.gic_dmap.specs.GicFrame.declared.bank.Access.{Access}
pub use Rattle.gic_dmap.specs.GicFrame.declared.bank.Access.TheVariants.{Doubleword, Word, WordOrByte, WordOrLowHalf}
pub use Rattle.gic_dmap.specs.GicFrame.declared.bank.Bank.{Bank}
pub use Rattle.gic_dmap.specs.GicFrame.declared.bank.Half.{Half}
pub use Rattle.gic_dmap.specs.GicFrame.declared.bank.Half.TheVariants.{High, Low, Whole}
pub use Rattle.gic_dmap.specs.GicFrame.declared.line.Found.{Found}
pub use Rattle.gic_dmap.specs.GicFrame.declared.line.Found.TheVariants.{InParts, InRegister}
pub use Rattle.gic_dmap.specs.GicFrame.declared.line.Line.{Line}
pub use Rattle.gic_dmap.specs.GicFrame.declared.line.Line.TheVariants.{Interrupts, Register}
pub use Rattle.gic_dmap.specs.Contents.{enables_in, message_intid}
pub use Rattle.gic_dmap.specs.Law.{extended_base_of, has_register}
pub use Rattle.gic_dmap.specs.declared.contents.Enables.{Enables}
pub use Rattle.gic_dmap.specs.declared.map.Reg.TheVariants.{ClrSpi, Router, SetSpi}
pub use Rattle.gic_rmap.specs.Contents.{enable_lpis_after, pendbaser_after, pendbaser_bits, pendbaser_read, propbaser_after, propbaser_bits}
pub use Rattle.gic_rmap.specs.Law.{has_registers}
pub use Rattle.gic_rmap.specs.declared.map.Reg.TheVariants.{Pendbaser, Propbaser}
pub use Rattle.gic_imap.specs.Contents.{baser_after, baser_bits, baser_of, cbaser_after, cbaser_bits, creadr_of, cwriter_after, enabled_in, queue_bytes, queue_offset, retries, table_type}
pub use Rattle.gic_imap.specs.declared.contents.Table.{Table}
pub use Rattle.gic_imap.specs.declared.contents.Table.TheVariants.{Collections, Devices}
pub use Rattle.gic_imap.specs.declared.map.Reg.TheVariants.{Baser0, Baser1, Cbaser, Creadr, Cwriter}
pub use Rattle.gic_aff.specs.Affinity.{affinity_of, vcpu_of}
pub use Rattle.gic_aff.specs.Sgi.{intid_of, is_listed, is_target, is_to_aff0, is_to_all, targets_of}
pub use Rattle.gic_aff.specs.declared.sgi.Targets.{Targets}
pub use Rattle.gic_reg.specs.Condition.{has_part, is_routed, shows_route}
pub use Rattle.gic_reg.specs.Router.{affinity_in, router_of}
pub use Rattle.gic_reg.specs.Touch.{activated, part_read, part_written, route_read, with_named}
pub use Rattle.gic_prio.specs.Access.{activated_by, answer_of, cpu_after, deactivated_by, taken_by, written_by}
pub use Rattle.gic_prio.specs.Delivery.{first_of, is_before, is_deliverable, is_group_enabled, takes_kind}
pub use Rattle.gic_prio.specs.Interface.{AtInterface, InterfaceState, IsInterface, acknowledged_at, acknowledged_entry, candidate_of, candidates_at, changed_at, deactivated_at, deactivated_entry, has_its_kind, interface_after, interface_answer}
pub use Rattle.gic_prio.specs.Laws.{AcknowledgePreempts, AcknowledgedOnce, EndUndoesAcknowledge, FirstIsLeast, FirstIsThere, GroupPriorityIsPrefix, HasNoGroupPriority, InterfaceStays, InterruptsStay, IsFirst, IsPassedOver, IsPrefix, IsUnanswered, LastPointKeepsNoBit, MaskIsMonotone, Preempts, RunningWhenIdle, SpuriousExactly, keys_at}
unfoldable pub use Rattle.gic_prio.specs.Levels.{least_in, with_level, without_level}
pub use Rattle.gic_prio.specs.Priority.{HasBinaryPoints, HasLevels, dropped_bits, group_priority_of, is_signalled, least_level, level_activated, level_dropped, level_of, levels_of, running_level, running_of, with_levels}
pub use Rattle.gic_prio.specs.Registers.{binary_point_written, bpr1_of, plain_read, plain_write, pmr_written}
pub use Rattle.gic_prio.specs.Signal.{acknowledged, dir_deactivates, ended, eoir_deactivates, highest_pending, intid_read, intid_written, is_same_group, is_special}
pub use Rattle.gic_prio.specs.declared.candidate.Candidate.{Candidate}
pub use Rattle.gic_prio.specs.declared.cpu.CpuRec.{CpuRec}
pub use Rattle.gic_ram.specs.Access.{IsPart, extracted, inserted, is_size, is_within, part_of}
pub use Rattle.gic_ram.specs.Bytes.{ReadsAreBytes, WritesAreBytes, WritesReadBack, byte_at, number_at, read_from, written_to}
pub use Rattle.gic_ram.specs.Tables.{config_address, first_lpi, is_enabled, last_lpi, pending_address, priority_of, table_at}
pub use Rattle.gic_ram.specs.declared.access.Part.{Part}
pub use Rattle.its_tab.specs.ItsCmd.Command.{FitsFields, commands, encoded}
pub use Rattle.its_tab.specs.ItsCmd.Field.{device_in, event_in, icid_in, itt_addr_in, number_in, pintid_in, rdbase_in, second_in, size_in, valid_in}
pub use Rattle.its_tab.specs.ItsCmd.Laws.{OnlyFieldsMatter, fields, values_of}
pub use Rattle.its_tab.specs.ItsCmd.Number.{clear_number, discard_number, int_number, inv_number, invall_number, mapc_number, mapd_number, mapi_number, mapti_number, movall_number, movi_number, sync_number}
pub use Rattle.its_tab.specs.ItsCmd.Queue.{IsQueue, actors, advanced, command_bytes, is_queue_word, max_queue_bytes, packed, page_bytes, queue_of, turn_number}
pub use Rattle.its_tab.specs.ItsCmd.declared.command.BadCommand.{BadCommand}
pub use Rattle.its_tab.specs.ItsCmd.declared.command.BadCommand.TheVariants.{UnknownNumber}
pub use Rattle.its_tab.specs.ItsCmd.declared.command.Command.{Command}
pub use Rattle.its_tab.specs.ItsCmd.declared.command.Command.TheVariants.{Clear, Discard, Int, Inv, Invall, Mapc, Mapd, Mapi, Mapti, Movall, Movi, Sync}
pub use Rattle.its_tab.specs.ItsCmd.declared.queue.QueueWord.{QueueWord}
pub use Rattle.its_tab.specs.After.{GoodCommandsKeepMaps, IsValid, maps_after, recollected, without_events}
pub use Rattle.its_tab.specs.Collection.{collection_of, has_target}
pub use Rattle.its_tab.specs.Fault.{fault_number, fault_of, faults, first_fault, is_no_vcpu, is_of_other, is_past_device, is_uncollected, is_wrong_id, number_of, on_device, on_event, on_mapping}
pub use Rattle.its_tab.specs.Maps.{IsIndex, IsIndexed, IsSound, Maps, at_number, event_cmp, first_event, id_of, owner_of, pair_of, target_of, with_collection, with_device, with_event, without_collection, without_device, without_event}
pub use Rattle.its_tab.specs.Message.{passes, translated}
pub use Rattle.its_tab.specs.declared.fault.CmdFault.{CmdFault}
pub use Rattle.its_tab.specs.declared.fault.CmdFault.TheVariants.{CollectionUnmapped, DeviceRange, DeviceUnmapped, EventRange, EventUnmapped, IntIdRange, SizeRange, TargetRange}
