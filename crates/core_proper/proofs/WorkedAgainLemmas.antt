-- The worked run of an interrupt that is pending again: each of its conditions computes.
use Rattle.std.proofs.Common.{◌≡◌, ℕ, ◌<◌, true, false, IsTrue, ◌∷◌, refl, zero, suc, All, replicate, slice_index_or}
use Rattle.std.proofs.lemmas.List.Sums.{AllPass-from_list_all}
use Rattle.floor_histories.specs.Registers.{least_in, with_level, without_level}
use Rattle.floor_lists.specs.Lists.{in_places}
use Rattle.floor_histories.specs.Words.{G1}
use Rattle.port_core.specs.declared.at_list.AtIrq.{AtIrq}
use Rattle.port_core.specs.Actor.{actor_count}
use Rattle.port_core.specs.Run.{opening, IsRun}
use Rattle.core_proper.specs.Ideal.{ideal_of}
use Rattle.core_proper.specs.Parts.{own_acts, entries_of, are_parts}
use Rattle.core_proper.specs.Progress.{opening_progress, progress_in}
use Rattle.core_proper.specs.Proper.{IsProper, IsProperRun}
use Rattle.core_proper.specs.Worked.{spi, worked_guest}
use Rattle.core_proper.proofs.WorkedLemmas.{vcpu_there, device_there, vcpu_is, are_proper, acts_are_proper, no_other, is_there, is_below}
use Rattle.core_proper.specs.Laws.{AgainRunIsProper}
use Rattle.core_proper.specs.WorkedAgain.{again_run, again_history, again_start}

pub again_ideal : ideal_of worked_guest.shape (opening worked_guest 0) again_run ≡ again_history
unfolding least_in with_level without_level in_places
again_ideal = refl

pub again_vcpu : IsTrue (are_proper worked_guest.shape 0 (opening_progress worked_guest 0 0) (own_acts 0 again_run))
unfolding least_in with_level without_level in_places
again_vcpu = refl

pub again_device : IsTrue (are_proper worked_guest.shape 1 (opening_progress worked_guest 0 1) (own_acts 1 again_run))
unfolding least_in with_level without_level in_places
again_device = refl

-- the interrupt at the interface as the vCPU leaves, and then given back
again_at_end : AtIrq
again_at_end = record { key = spi; entry_prio = 0xa0; group = G1; pending = false; active = true; rise = false; soft = false; consumed = true; given = false }

again_given : AtIrq
again_given = record { key = spi; entry_prio = 0xa0; group = G1; pending = false; active = true; rise = false; soft = false; consumed = true; given = true }

pub again_is_run : IsRun worked_guest.shape (opening worked_guest 0) (entries_of again_run)
unfolding least_in with_level without_level in_places again_at_end again_given
again_is_run = (
  record { actor = device_there; can = refl; meets = refl; found = refl; left = refl; tables = refl },
  (
    record { actor = device_there; can = refl; meets = tt; found = refl; left = refl; tables = refl },
    (
      record { actor = device_there; can = vcpu_is; meets = refl; found = refl; left = refl; tables = refl },
      (
        record { actor = vcpu_there; can = refl; meets = refl; found = refl; left = refl; tables = refl },
        (
          record { actor = vcpu_there; can = refl; meets = refl; found = refl; left = refl; tables = refl },
          (
            record { actor = vcpu_there; can = refl; meets = tt; found = refl; left = refl; tables = refl },
            (
              record { actor = vcpu_there; can = refl; meets = refl; found = refl; left = refl; tables = refl },
              (
                record { actor = vcpu_there; can = refl; meets = refl; found = refl; left = refl; tables = refl },
                (
                  record { actor = device_there; can = refl; meets = refl; found = refl; left = refl; tables = refl },
                  (
                    record { actor = device_there; can = refl; meets = tt; found = refl; left = refl; tables = refl },
                    (
                      record { actor = device_there; can = vcpu_is; meets = refl; found = refl; left = refl; tables = refl },
                      (
                        record { actor = vcpu_there; can = refl; meets = record { entry = again_at_end; at = refl; here = refl; whole = refl }; found = refl; left = refl; tables = refl },
                        (
                          record { actor = vcpu_there; can = refl; meets = record { entry = again_given; at = refl; given = refl; marks = refl }; found = refl; left = refl; tables = refl },
                          (
                            record { actor = vcpu_there; can = refl; meets = tt; found = refl; left = refl; tables = refl },
                            (
                              record { actor = vcpu_there; can = refl; meets = refl; found = refl; left = refl; tables = refl },
                              (
                                record { actor = vcpu_there; can = refl; meets = refl; found = refl; left = refl; tables = refl },
                                (
                                  record { actor = vcpu_there; can = refl; meets = tt; found = refl; left = refl; tables = refl },
                                  (
                                    record { actor = vcpu_there; can = refl; meets = refl; found = refl; left = refl; tables = refl },
                                    (
                                      record { actor = vcpu_there; can = refl; meets = refl; found = refl; left = refl; tables = refl },
                                      (
                                        record { actor = vcpu_there; can = refl; meets = refl; found = refl; left = refl; tables = refl },
                                        (
                                          record { actor = vcpu_there; can = refl; meets = refl; found = refl; left = refl; tables = refl },
                                          (
                                            record { actor = vcpu_there; can = refl; meets = refl; found = refl; left = refl; tables = refl },
                                            tt,
                                          ),
                                        ),
                                      ),
                                    ),
                                  ),
                                ),
                              ),
                            ),
                          ),
                        ),
                      ),
                    ),
                  ),
                ),
              ),
            ),
          ),
        ),
      ),
    ),
  ),
)

again_parts : (actor : ℕ) → actor < actor_count worked_guest.shape → IsTrue (are_parts worked_guest.shape actor false (own_acts actor again_run))
again_parts zero h = refl
again_parts (suc zero) h = refl
again_parts (suc (suc n)) h = no_other n h

again_proper : (actor : ℕ) → actor < actor_count worked_guest.shape → IsProper worked_guest.shape actor (opening_progress worked_guest 0 actor) (own_acts actor again_run)
again_proper zero h = acts_are_proper worked_guest.shape 0 (opening_progress worked_guest 0 0) (own_acts 0 again_run) again_vcpu
again_proper (suc zero) h = acts_are_proper worked_guest.shape 1 (opening_progress worked_guest 0 1) (own_acts 1 again_run) again_device
again_proper (suc (suc n)) h = no_other n h

again_actors : All (λ moment. moment.actor < actor_count worked_guest.shape) again_run
again_actors = λ k d h. is_below (slice_index_or again_run k d).actor 2 (AllPass-from_list_all is_there again_run refl k d h)

pub again_is_proper : IsProperRun worked_guest 0 again_run
again_is_proper = record { parted = record { run = again_is_run; actors = again_actors; parts = again_parts }; proper = again_proper }

pub again_list : (progress_in worked_guest 0 again_start 0).regs.lr ≡ 0xd0a0000000000028 ∷ replicate 15 0
unfolding least_in with_level without_level in_places
again_list = refl

pub again_hcr : (progress_in worked_guest 0 again_start 0).regs.hcr ≡ 0x91
unfolding least_in with_level without_level in_places
again_hcr = refl

pub again : AgainRunIsProper
again = record { proper = again_is_proper; ideal = again_ideal; list = again_list; hcr = again_hcr }
