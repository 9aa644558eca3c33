-- The core: words that actors share, their atomic steps, and which runs are proper, by one name each.
pub use Rattle.core_proper.specs.PortCore.Actor.{actor_at, actor_count, guest_of, has_actor, number_of}
pub use Rattle.core_proper.specs.PortCore.After.{accessed, acknowledged_entry, changed_id, claimed, claimed_at, closed_line, concerned, concerned_by, deactivated_entry, entered_line, given_at, holder_or_active, id_of, index_taken, interface_of, is_settled_by_look, local_after, local_done, looked, looked_at, looked_at_line, marked, marked_of_release, phase_after, polled, polled_at, release_at, shown, target_of, told_of_release}
pub use Rattle.core_proper.specs.PortCore.AtList.{changed_if, changed_where, is_which}
pub use Rattle.core_proper.specs.PortCore.Atomic.{IsSeen, Makes, applied, back_bits, exchange_by, release_bits}
pub use Rattle.core_proper.specs.PortCore.Condition.{CanEnd, CanFillNow, CanGiveBack, CanPut, CanPutFault, CanPutWord, CanRelease, CanTouchNow, EndsCommand, HasPutFault, IsKnownRunning, IsQueueStep, Meets, change_of, changes_lpi, fault_place, has_room, is_ready, its_ctlr_place, known_fault, known_lpi, may_claim, may_take_index}
pub use Rattle.core_proper.specs.PortCore.Effect.{changed, claimed_irq, given_back, is_active_at, may_hold, may_move, moved_irq, moved_of, released, succeeds, touched_irq, word_after, word_done}
pub use Rattle.core_proper.specs.PortCore.Forms.{IsCtlr, IsLine, ctlr_of, empty_line, is_ctlr_word, is_empty_line, is_line_word, is_vcpu_word, line_of, mark_number, packed_ctlr, packed_line, packed_vcpu, vcpu_of}
pub use Rattle.core_proper.specs.PortCore.IdealGuests.CanOpen.{is_own}
pub use Rattle.core_proper.specs.PortCore.Known.{ends_command, first_word, is_known, is_on, known, known_maps, known_view, known_word, last_made, maps_after, maps_by_step, no_maps, since_command, since_turn}
pub use Rattle.core_proper.specs.PortCore.Laws.{OpeningIsSound, RunsAreSound, RunsJoin, StepsKeepSound}
pub use Rattle.core_proper.specs.PortCore.Local.{arrived, back_of, changed_at, entry_for, entry_of, has_all_shut, has_no_cand, is_at, is_cand, is_in_line, is_inside, is_vcpu, no_cands, no_vcpus, opening_local, owes_no_kick, owes_no_mark, owes_nothing, owing, owing_both, settled, with_all, with_cand_word, with_entry, with_inside, with_shut, with_some, with_vcpu, without_at, without_cand, without_inside, without_mark, without_shut, without_vcpu}
pub use Rattle.core_proper.specs.PortCore.Place.{block_of, block_words, blocks_from, has_word, index_bit, index_bits, index_espis_from, index_lpis_from, index_words, key_of_bit, line_count, lines_from, place_of_word, plain_from, whole_lines, word_at, word_count, word_in_block, word_in_blocks, word_in_lines}
pub use Rattle.core_proper.specs.PortCore.Port.{Adds, AddsStep, AreHanded, CanMake, IsPort, IsSameActor, PartsJoin, Seen, events_of, hands_maps, keeps_tables, left_by, local_by, made_by, part_events, seen_after, shape_of, word_by}
pub use Rattle.core_proper.specs.PortCore.Run.{CoreState, IsRun, IsSound, Seat, Takes, after, concerns, end_of, handed_maps, is_asked, is_taking, no_seat, opening, opening_index, opening_local_of, opening_seat, opening_word, opening_word_of, own_steps, seat_at, word_in}
pub use Rattle.core_proper.specs.PortCore.Stands.{claim_event, event_done, found_ctlr, found_lpis, found_queue, found_record, look_event, plain_event, poll_event, silent, stands_for, with_found}
pub use Rattle.core_proper.specs.PortCore.Step.{CanFill, CanStep, IsEnd, is_poll, word_of}
pub use Rattle.core_proper.specs.PortCore.Valid.{AreCands, AreMarks, AreMarksOf, AreVcpus, CanFind, HasNone, IsActorOrNone, IsAt, IsEntered, IsIndexWord, IsIrqWord, IsLineWord, IsLocal, IsOnce, IsValid, Ties, is_active_by_holder}
pub use Rattle.core_proper.specs.PortCore.declared.at_list.AtIrq.{AtIrq}
pub use Rattle.core_proper.specs.PortCore.declared.atomic.Atomic.{Atomic}
pub use Rattle.core_proper.specs.PortCore.declared.atomic.Atomic.TheVariants.{And, Exchange, Load, Or, Swap}
pub use Rattle.core_proper.specs.PortCore.declared.end.GuestWords.{GuestWords}
pub use Rattle.core_proper.specs.PortCore.CoreWords.declared.line.Entered.{Entered}
pub use Rattle.core_proper.specs.PortCore.CoreWords.declared.line.Line.{Line as LineRecord}
pub use Rattle.core_proper.specs.PortCore.declared.local.Local.{Local}
pub use Rattle.core_proper.specs.PortCore.declared.local.Phase.{Phase}
pub use Rattle.core_proper.specs.PortCore.declared.local.Phase.TheVariants.{Claiming, Folding, Loaded, Off, Scanning}
pub use Rattle.core_proper.specs.PortCore.declared.owed.Cands.{Cands}
pub use Rattle.core_proper.specs.PortCore.declared.owed.MarkSet.{MarkSet}
pub use Rattle.core_proper.specs.PortCore.declared.run.Entry.{Entry}
pub use Rattle.core_proper.specs.PortCore.declared.run.Made.{Made}
pub use Rattle.core_proper.specs.PortCore.declared.step.CoreStep.{CoreStep}
pub use Rattle.core_proper.specs.PortCore.declared.step.CoreStep.TheVariants.{Claim, CommandDone, CtlrEnd, CtlrTake, EnableLpis, GiveBack, Kick, LineClose, LineEnter, LineFill, LineLeave, Look, Mark, Poll, Raise, RamLook, RamPut, Release, TakeIndex, Touch, TurnRelease, TurnTake, Want, WireDown, WireUp}
pub use Rattle.core_proper.specs.PortCore.CoreWords.declared.word_id.WordId.{WordId}
pub use Rattle.core_proper.specs.PortCore.CoreWords.declared.word_id.WordId.TheVariants.{Ctlr, Index, Irq, Line, Plain, Queue, Vcpu}
pub use Rattle.core_proper.specs.PortCore.CoreWords.declared.words.CtlrWord.{CtlrWord}
pub use Rattle.core_proper.specs.PortCore.CoreWords.declared.words.VcpuWord.{VcpuWord}
pub use Rattle.core_proper.specs.Called.{IsAtRest, IsProperPart, MakesCall, MakesPost, maps_taken, vcpu_of_actor}
pub use Rattle.core_proper.specs.Ideal.{after_moment, end_of_moments, event_moments, ideal_moments, ideal_of}
pub use Rattle.core_proper.specs.Laws.{AgainRunIsProper, ClearRunIsProper, ExitRunIsProper, IdealOfAppends, IsSeatOf, PartsKeepEnd, PartsRest, ProgressFollows, ProperExtends, WorkedRunIsProper}
pub use Rattle.core_proper.specs.Parts.{Act, CoreMoment, IsPartedRun, are_parts, begins, ends, entries_of, entry_by, has_registers, makes, own_acts, part_of, step_of}
pub use Rattle.core_proper.specs.Progress.{Debt, Progress, after_claim, after_end, after_icc, after_look, after_poll, before_next, begun, claim_left, ended_by, filled, goes_on, is_end_of, is_paid, is_to_scan, looks_on, opening_progress, owed_after_part, owed_after_scan, owed_by_call, owing_after, paid, progress_in, progress_of, progressed, scan_on, stepped}
pub use Rattle.core_proper.specs.Proper.{IsProper, IsProperAct, IsProperEnd, IsProperRun, IsProperStep, asks_first, ends_refill, gives_back, has_begun, is_empty, is_look_at, is_settled, keeps_failed_claim, keeps_far_end, keeps_refill, keeps_scan, keeps_seen, keeps_trap_scan, keeps_want, may_access, may_name, read_after, reading_after, reading_of, seen_by, wants_nothing}
pub use Rattle.core_proper.specs.RunRegisters.{RegistersAgree, after_operation, alone, with_changed, without_claim, without_take}
pub use Rattle.core_proper.specs.Scan.{Purpose, Scan, bare, claiming, ended_scan, has_key, idle, is_both, is_idle, is_next, key_of_both, keys_chosen, keys_of_both, looking, next_cand, offered, planned, scan_allows, scan_looked, taking, trapped, tried, without_key, word_taken}
pub use Rattle.core_proper.specs.Worked.{device_does, held_word, made, opened_word, pending_word, reads_iar, spi, vcpu_does, worked_guest, worked_spec, worked_history, worked_run, writes_eoir}
pub use Rattle.core_proper.specs.WorkedAgain.{active_word, again_history, again_rest, again_run, again_start, given_active_word, held_active_word, raised_word, taken_word}
pub use Rattle.core_proper.specs.WorkedClear.{clear_guest, clear_spec, clear_history, clear_run, clears, found_pending, free_wanted_word, given_wanted_word, other_does, third_does, wanted_word, writes_icpendr}
pub use Rattle.core_proper.specs.WorkedExit.{exit_history, exit_run, given_word}
