-- Histories: the ideal controller's guest, and what may happen in it, by one name each.
pub use Rattle.gic_history.specs.IdealGuests.Call.{after_device, after_op, op_answer}
pub use Rattle.gic_history.specs.IdealGuests.CanOpen.{AreForNone, CanOpen, OpeningsCanOpen, copy_in}
pub use Rattle.gic_history.specs.IdealGuests.Ideal.{access_answer, after_acknowledge, after_command, after_commands, after_deactivation, after_event, after_events, after_queue, after_queued, candidate_at, candidates, changed_at, changed_irq, cpu_at, irq_at, is_named, view_of, with_cpu, with_queue, with_word, word_at}
pub use Rattle.gic_history.specs.IdealGuests.Opening.{opening as opening_guest}
pub use Rattle.gic_history.specs.IdealGuests.Queue.{BadCommandsStall, IsQueueInOrder, QueuesRunDry, is_of_event}
pub use Rattle.gic_history.specs.IdealGuests.Sound.{IsIdealCpu, IsIdealRecord, IsSound}
pub use Rattle.gic_history.specs.IdealGuests.declared.guest.IdealGuest.{IdealGuest}
pub use Rattle.gic_history.specs.Fresh.{Changes, Doing, IsFresh, Track, Turn, after_changes, after_doing, after_leaving, after_moment, asks_first, changed_by, changes_of, comes_first, doing_of, ended_by, ends_turn, has_left_all, has_named, is_acknowledged, is_acknowledged_from, is_awaited, is_event_of, is_excused, is_far_active, is_fetch, is_fresh_at_acknowledge, is_fresh_at_end, is_fresh_at_interface, is_kept, is_kept_from, is_last_open, is_late, is_memory_at, is_open, is_to_come, keys_in, last_since, left_behind, of_end, of_event, opening_track, starts_queue, takes_commands, tracked, turn_of, with_changes, with_doing}
pub use Rattle.gic_history.specs.History.{Call, Course, GoesOn, IsCallEnded, IsEnded, IsHappening, IsHistory, IsNext, IsWhole, actor_count, begun, call_of, come_to, course_of, gone_on, is_ahead, is_passed, last_of, lpi_in, made, noted, opening_course, seeing, targets_in, vcpu_of, IsEndedAs, with_signal, signals_after, is_signal, signalled_by, has_midway}
pub use Rattle.gic_history.specs.Laws.{CommandsExcuseOnceRead, EachClauseRefuses, EachLpiHasItsPlace, IsFreshHistory, IsHistoryThatKeeps, WhatIsNotAllowed, WorkedHistoriesAreFresh, kept_clauses}
pub use Rattle.gic_history.specs.Moves.{after_leave, after_reach, after_take, all_left, emptied, handed_out, happened, home, is_allowed, standing_of, with_entry, without}
pub use Rattle.gic_history.specs.Named.{before_enabling, key_in, named_by, named_by_access, names}
pub use Rattle.gic_history.specs.State.{Ideal, Standing, interface_at, is_home, is_of, moved_at, shown_at, standing_at, view_at, with_irq, with_standing}
pub use Rattle.gic_history.specs.Worked.{awaited, begins_clear, begins_message, begins_write, calls, clears, clears_lpi, ends, ends_and_leaves, ends_message, fetched, fetches, gets_its, in_flight, kept, leave, leaves_and_ends, lpi_guest, lpi_spec, mapped_lpi, message, migrated, outdated, overlooked, passed_by, pending_irq, pends_lpi, preempted, queue_guest, queue_spec, reach, reads, refilled, repeated, returned, served, stores_clear, take, takes_over, told_lpi, unbegun, unended, unread, waiting_lpi, wire_up, withdrawn, worked_guest, worked_spec, writes}
