-- List registers: as words, the registers of a virtual CPU interface, a guest's interface over them, the plan, by one name each.
pub use Rattle.gic_icv.specs.GicLr.Entry.{IsEntry, has_only_fields, packed, source_number, state_at, state_has_active, state_has_pending, state_number, unpacked, with_state}
pub use Rattle.gic_icv.specs.GicLr.Status.{bits_where, has_ended, is_empty, is_invalid, max_list_registers}
pub use Rattle.gic_icv.specs.GicLr.declared.entry.LrEntry.{LrEntry}
pub use Rattle.gic_icv.specs.GicLr.declared.entry.LrState.{LrState}
pub use Rattle.gic_icv.specs.GicLr.declared.entry.LrState.TheVariants.{Active, Both, Invalid, Pending}
pub use Rattle.vcpu_refill.specs.GicIch.Hcr.{hcr_en, hcr_eoicount, hcr_lrenpie, hcr_npie, hcr_tall0, hcr_tall1, hcr_tc, hcr_tdir, hcr_uie, hcr_vgrp0die, hcr_vgrp0eie, hcr_vgrp1die, hcr_vgrp1eie}
pub use Rattle.vcpu_refill.specs.GicIch.Place.{HasOne, HoldCpu, IsHeld, Seen, StandByPlace, StandFor, StandsAs, seen_in, seen_of}
pub use Rattle.vcpu_refill.specs.GicIch.Regs.{listed_of, vtr_of}
pub use Rattle.vcpu_refill.specs.GicIch.Status.{asked, entries_part, groups_part, is_pending, is_pending_state, is_valid, misr_of}
pub use Rattle.vcpu_refill.specs.GicIch.Vmcr.{GivesBack, cpu_of, other_bits, veng0, veng1, vfiqen, vmcr_fields, vmcr_of, vmcr_with}
pub use Rattle.vcpu_refill.specs.GicIch.declared.regs.IchRegs.{IchRegs}
pub use Rattle.gic_icv.specs.Agree.{Agrees, Follows, PlacesAgree, is_live, seen_entries, seen_words}
pub use Rattle.gic_icv.specs.Entries.{acknowledged_word, candidate_in, candidates_in, deactivated_word, has_active, has_candidate, inactive_state}
pub use Rattle.gic_icv.specs.Registers.{HasDirection, after_access, after_acknowledge, after_deactivation, after_deactivation_of, after_iar, answered, candidates_of, counted, cpu_in, first_changed, is_counted, outcome_of, registers_after, with_cpu}
pub use Rattle.gic_icv.specs.Trap.{trap_cause, where_set}
pub use Rattle.gic_icv.specs.declared.registers.Outcome.{Outcome}
pub use Rattle.gic_icv.specs.declared.registers.Outcome.TheVariants.{Done, Trap, Value}
pub use Rattle.gic_icv.specs.declared.trap.TrapCause.{TrapCause}
pub use Rattle.gic_icv.specs.declared.trap.TrapCause.TheVariants.{All0, All1, Common, Dir, Sgi}
pub use Rattle.vcpu_refill.specs.Chooser.{Keeps, Kept, StandsFor}
pub use Rattle.vcpu_refill.specs.Laws.{BothLeavesNothingOut, ComesAfter, EveryActiveIsPlanned, EveryDeliverableIsPlanned, FirstIsFirst, FitsRegister, IsEarned, IsPlanned, IsSortingOf, LeftOutComesAfter, OrderedIsSorting, OthersDoNotMatter, PlanStands, PlannedIsEarned, PlannedOnce, offer_of}
pub use Rattle.vcpu_refill.specs.Order.{active_among, candidate_of, deliverable_among, first_among, goes_before, inserted, is_active_by, is_deliverable_once_inactive, is_deliverable_to, ordered}
pub use Rattle.vcpu_refill.specs.Plan.{HasEntries, active_choice, active_state, choices_of, chosen_as, entry_of, hcr_of, held_as, held_of, interface_of, is_cut, is_trapping, pending_choice, plan, plan_from, regs_of, sees_end, word_of, words_of}
pub use Rattle.vcpu_refill.specs.Ranking.{gives_way, ranking_of}
unfoldable pub use Rattle.vcpu_refill.specs.Ranking.{in_places}
pub use Rattle.vcpu_refill.specs.declared.fill.Choice.{Choice}
pub use Rattle.vcpu_refill.specs.declared.fill.Fill.{Fill}
pub use Rattle.vcpu_refill.specs.declared.offer.Offer.{Offer}
pub use Rattle.vcpu_refill.specs.declared.ranking.Ranking.{Ranking}
