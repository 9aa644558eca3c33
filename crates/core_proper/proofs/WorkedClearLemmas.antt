-- The worked run of a clear of an interrupt at another vCPU's interface: each of its conditions computes.
use Rattle.std.proofs.Common.{◌≡◌, ℕ, ◌<◌, Bool, true, false, IsTrue, refl, arith, zero, suc, All, nat_lt, slice_index_or}
use Rattle.std.proofs.lemmas.List.Sums.{AllPass-from_list_all}
use Rattle.floor_histories.specs.Registers.{least_in, with_level, without_level}
use Rattle.floor_lists.specs.Lists.{in_places}
use Rattle.floor_histories.specs.Words.{G1}
use Rattle.port_core.specs.declared.at_list.AtIrq.{AtIrq}
use Rattle.port_core.specs.Actor.{actor_count}
use Rattle.port_core.specs.Run.{opening, IsRun}
use Rattle.core_proper.specs.Ideal.{ideal_of}
use Rattle.core_proper.specs.Parts.{CoreMoment, own_acts, entries_of, are_parts}
use Rattle.core_proper.specs.Progress.{opening_progress}
use Rattle.core_proper.specs.Proper.{IsProper, IsProperRun}
use Rattle.core_proper.specs.Worked.{spi}
use Rattle.core_proper.specs.Laws.{ClearRunIsProper}
use Rattle.core_proper.specs.WorkedClear.{clear_guest, clear_run, clear_history}
use Rattle.core_proper.proofs.WorkedLemmas.{are_proper, acts_are_proper, is_below}

pub clear_ideal : ideal_of clear_guest.shape (opening clear_guest 0) clear_run ≡ clear_history
unfolding least_in with_level without_level in_places
clear_ideal = refl

pub clear_first : IsTrue (are_proper clear_guest.shape 0 (opening_progress clear_guest 0 0) (own_acts 0 clear_run))
unfolding least_in with_level without_level in_places
clear_first = refl

first_there : 0 < actor_count clear_guest.shape
first_there = omega arith

pub clear_second : IsTrue (are_proper clear_guest.shape 1 (opening_progress clear_guest 0 1) (own_acts 1 clear_run))
unfolding least_in with_level without_level in_places
clear_second = refl

second_there : 1 < actor_count clear_guest.shape
second_there = omega arith

pub clear_third : IsTrue (are_proper clear_guest.shape 2 (opening_progress clear_guest 0 2) (own_acts 2 clear_run))
unfolding least_in with_level without_level in_places
clear_third = refl

third_there : 2 < actor_count clear_guest.shape
third_there = omega arith

vcpu_is : 0 < clear_guest.shape.vcpus
vcpu_is = omega arith

-- the interrupt at the interface as the vCPU leaves, and then given back
clear_at_end : AtIrq
clear_at_end = record { key = spi; entry_prio = 0xa0; group = G1; pending = true; active = false; rise = false; soft = true; consumed = false; given = false }

clear_given : AtIrq
clear_given = record { key = spi; entry_prio = 0xa0; group = G1; pending = true; active = false; rise = false; soft = true; consumed = false; given = true }

pub clear_is_run : IsRun clear_guest.shape (opening clear_guest 0) (entries_of clear_run)
unfolding least_in with_level without_level in_places clear_at_end clear_given
clear_is_run = (
  record { actor = third_there; can = refl; meets = refl; found = refl; left = refl; tables = refl },
  (
    record { actor = third_there; can = refl; meets = tt; found = refl; left = refl; tables = refl },
    (
      record { actor = third_there; can = vcpu_is; meets = refl; found = refl; left = refl; tables = refl },
      (
        record { actor = first_there; can = refl; meets = refl; found = refl; left = refl; tables = refl },
        (
          record { actor = first_there; can = refl; meets = refl; found = refl; left = refl; tables = refl },
          (
            record { actor = first_there; can = refl; meets = tt; found = refl; left = refl; tables = refl },
            (
              record { actor = first_there; can = refl; meets = refl; found = refl; left = refl; tables = refl },
              (
                record { actor = second_there; can = refl; meets = tt; found = refl; left = refl; tables = refl },
                (
                  record { actor = second_there; can = refl; meets = tt; found = refl; left = refl; tables = refl },
                  (
                    record { actor = second_there; can = vcpu_is; meets = refl; found = refl; left = refl; tables = refl },
                    (
                      record { actor = first_there; can = refl; meets = record { entry = clear_at_end; at = refl; here = refl; whole = refl }; found = refl; left = refl; tables = refl },
                      (
                        record { actor = first_there; can = refl; meets = record { entry = clear_given; at = refl; given = refl; marks = refl }; found = refl; left = refl; tables = refl },
                        (
                          record { actor = first_there; can = refl; meets = tt; found = refl; left = refl; tables = refl },
                          (
                            record { actor = second_there; can = refl; meets = tt; found = refl; left = refl; tables = refl },
                            (
                              record { actor = second_there; can = record { there = refl; fits = refl }; meets = record { empty = refl; marks = refl; lines = λ e. absurd (cc) }; found = refl; left = refl; tables = refl },
                              (
                                record { actor = second_there; can = refl; meets = tt; found = refl; left = refl; tables = refl },
                                (
                                  record { actor = second_there; can = vcpu_is; meets = refl; found = refl; left = refl; tables = refl },
                                  (
                                    record { actor = first_there; can = refl; meets = refl; found = refl; left = refl; tables = refl },
                                    (
                                      record { actor = first_there; can = refl; meets = refl; found = refl; left = refl; tables = refl },
                                      (
                                        record { actor = first_there; can = refl; meets = tt; found = refl; left = refl; tables = refl },
                                        (
                                          record { actor = first_there; can = refl; meets = refl; found = refl; left = refl; tables = refl },
                                          tt,
                                        ),
                                      ),
                                    ),
                                  ),
                                ),
                              ),
                            ),
                          ),
                        ),
                      ),
                    ),
                  ),
                ),
              ),
            ),
          ),
        ),
      ),
    ),
  ),
)

-- the guest has three actors
none_else : {X : Type 0} (n : ℕ) → suc (suc (suc n)) < actor_count clear_guest.shape → X
none_else n h = absurd (omega (arith, h))

clear_parts : (actor : ℕ) → actor < actor_count clear_guest.shape → IsTrue (are_parts clear_guest.shape actor false (own_acts actor clear_run))
clear_parts zero h = refl
clear_parts (suc zero) h = refl
clear_parts (suc (suc zero)) h = refl
clear_parts (suc (suc (suc n))) h = none_else n h

clear_proper : (actor : ℕ) → actor < actor_count clear_guest.shape → IsProper clear_guest.shape actor (opening_progress clear_guest 0 actor) (own_acts actor clear_run)
clear_proper zero h = acts_are_proper clear_guest.shape 0 (opening_progress clear_guest 0 0) (own_acts 0 clear_run) clear_first
clear_proper (suc zero) h = acts_are_proper clear_guest.shape 1 (opening_progress clear_guest 0 1) (own_acts 1 clear_run) clear_second
clear_proper (suc (suc zero)) h = acts_are_proper clear_guest.shape 2 (opening_progress clear_guest 0 2) (own_acts 2 clear_run) clear_third
clear_proper (suc (suc (suc n))) h = none_else n h

abbrev is_of_three : CoreMoment → Bool
is_of_three moment = nat_lt moment.actor 3

clear_actors : All (λ moment. moment.actor < actor_count clear_guest.shape) clear_run
clear_actors = λ k d h. is_below (slice_index_or clear_run k d).actor 3 (AllPass-from_list_all is_of_three clear_run refl k d h)

pub clear_is_proper : IsProperRun clear_guest 0 clear_run
clear_is_proper = record { parted = record { run = clear_is_run; actors = clear_actors; parts = clear_parts }; proper = clear_proper }

pub clear : ClearRunIsProper
clear = record { proper = clear_is_proper; ideal = clear_ideal }
