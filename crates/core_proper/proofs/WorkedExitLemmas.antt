-- The worked run of a vCPU that goes to another PE: each of its conditions computes.
use Rattle.std.proofs.Common.{◌≡◌, ℕ, ◌<◌, true, false, IsTrue, refl, zero, suc, All, slice_index_or}
use Rattle.std.proofs.lemmas.List.Sums.{AllPass-from_list_all}
use Rattle.floor_histories.specs.Registers.{least_in, with_level, without_level}
use Rattle.floor_lists.specs.Lists.{in_places}
use Rattle.floor_histories.specs.Words.{G1}
use Rattle.port_core.specs.declared.at_list.AtIrq.{AtIrq}
use Rattle.port_core.specs.Actor.{actor_count}
use Rattle.port_core.specs.Run.{opening, IsRun}
use Rattle.core_proper.specs.Ideal.{ideal_of}
use Rattle.core_proper.specs.Parts.{own_acts, entries_of, are_parts}
use Rattle.core_proper.specs.Progress.{opening_progress}
use Rattle.core_proper.specs.Proper.{IsProper, IsProperRun}
use Rattle.core_proper.specs.Worked.{spi, worked_guest}
use Rattle.core_proper.proofs.WorkedLemmas.{vcpu_there, device_there, vcpu_is, are_proper, acts_are_proper, no_other, is_there, is_below}
use Rattle.core_proper.specs.Laws.{ExitRunIsProper}
use Rattle.core_proper.specs.WorkedExit.{exit_run, exit_history}

pub exit_ideal : ideal_of worked_guest.shape (opening worked_guest 0) exit_run ≡ exit_history
unfolding least_in with_level without_level in_places
exit_ideal = refl

pub exit_vcpu : IsTrue (are_proper worked_guest.shape 0 (opening_progress worked_guest 0 0) (own_acts 0 exit_run))
unfolding least_in with_level without_level in_places
exit_vcpu = refl

pub exit_device : IsTrue (are_proper worked_guest.shape 1 (opening_progress worked_guest 0 1) (own_acts 1 exit_run))
unfolding least_in with_level without_level in_places
exit_device = refl

-- the interrupt at the interface as the vCPU leaves, and then given back
exit_at_end : AtIrq
exit_at_end = record { key = spi; entry_prio = 0xa0; group = G1; pending = true; active = false; rise = false; soft = true; consumed = false; given = false }

exit_given : AtIrq
exit_given = record { key = spi; entry_prio = 0xa0; group = G1; pending = true; active = false; rise = false; soft = true; consumed = false; given = true }

pub exit_is_run : IsRun worked_guest.shape (opening worked_guest 0) (entries_of exit_run)
unfolding least_in with_level without_level in_places exit_at_end exit_given
exit_is_run = (
  record { actor = device_there; can = refl; meets = refl; found = refl; left = refl; tables = refl },
  (
    record { actor = device_there; can = refl; meets = tt; found = refl; left = refl; tables = refl },
    (
      record { actor = device_there; can = vcpu_is; meets = refl; found = refl; left = refl; tables = refl },
      (
        record { actor = vcpu_there; can = refl; meets = refl; found = refl; left = refl; tables = refl },
        (
          record { actor = vcpu_there; can = refl; meets = refl; found = refl; left = refl; tables = refl },
          (
            record { actor = vcpu_there; can = refl; meets = tt; found = refl; left = refl; tables = refl },
            (
              record { actor = vcpu_there; can = refl; meets = refl; found = refl; left = refl; tables = refl },
              (
                record { actor = vcpu_there; can = refl; meets = record { entry = exit_at_end; at = refl; here = refl; whole = refl }; found = refl; left = refl; tables = refl },
                (
                  record { actor = vcpu_there; can = refl; meets = record { entry = exit_given; at = refl; given = refl; marks = refl }; found = refl; left = refl; tables = refl },
                  (
                    record { actor = vcpu_there; can = refl; meets = tt; found = refl; left = refl; tables = refl },
                    (
                      record { actor = vcpu_there; can = refl; meets = refl; found = refl; left = refl; tables = refl },
                      (
                        record { actor = vcpu_there; can = refl; meets = refl; found = refl; left = refl; tables = refl },
                        (
                          record { actor = vcpu_there; can = refl; meets = tt; found = refl; left = refl; tables = refl },
                          (
                            record { actor = vcpu_there; can = refl; meets = refl; found = refl; left = refl; tables = refl },
                            (
                              record { actor = vcpu_there; can = refl; meets = refl; found = refl; left = refl; tables = refl },
                              tt,
                            ),
                          ),
                        ),
                      ),
                    ),
                  ),
                ),
              ),
            ),
          ),
        ),
      ),
    ),
  ),
)

exit_parts : (actor : ℕ) → actor < actor_count worked_guest.shape → IsTrue (are_parts worked_guest.shape actor false (own_acts actor exit_run))
exit_parts zero h = refl
exit_parts (suc zero) h = refl
exit_parts (suc (suc n)) h = no_other n h

exit_proper : (actor : ℕ) → actor < actor_count worked_guest.shape → IsProper worked_guest.shape actor (opening_progress worked_guest 0 actor) (own_acts actor exit_run)
exit_proper zero h = acts_are_proper worked_guest.shape 0 (opening_progress worked_guest 0 0) (own_acts 0 exit_run) exit_vcpu
exit_proper (suc zero) h = acts_are_proper worked_guest.shape 1 (opening_progress worked_guest 0 1) (own_acts 1 exit_run) exit_device
exit_proper (suc (suc n)) h = no_other n h

exit_actors : All (λ moment. moment.actor < actor_count worked_guest.shape) exit_run
exit_actors = λ k d h. is_below (slice_index_or exit_run k d).actor 2 (AllPass-from_list_all is_there exit_run refl k d h)

pub exit_is_proper : IsProperRun worked_guest 0 exit_run
exit_is_proper = record { parted = record { run = exit_is_run; actors = exit_actors; parts = exit_parts }; proper = exit_proper }

pub exit : ExitRunIsProper
exit = record { proper = exit_is_proper; ideal = exit_ideal }
