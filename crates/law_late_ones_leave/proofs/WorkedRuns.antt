-- The worked run of an interrupt that is ended while its wire is up: each of its conditions computes.
use Rattle.std.proofs.Common.{arith, ◌≡◌, ℕ, ◌<◌, false, IsTrue, [], ◌∷◌, refl, zero, suc, All, slice_index_or}
use Rattle.std.proofs.lemmas.List.Elements.{All-nil, All-cons}
use Rattle.std.proofs.lemmas.List.Sums.{AllPass-from_list_all}
use Rattle.law_scans_miss_none.proofs.IdealGuests.CanOpenLemmas.{openings_can_open}
use Rattle.law_scans_miss_none.specs.Registers.{least_in, with_level, without_level}
use Rattle.law_scans_miss_none.specs.Lists.{in_places}
use Rattle.law_scans_miss_none.specs.Histories.{is_kept, of_end, CanOpen}
use Rattle.law_scans_miss_none.specs.Calls.{IsGoodPreset}
use Rattle.law_scans_miss_none.specs.Core.{ideal_of, actor_count, opening, IsRun, own_acts, entries_of, are_parts, opening_progress, IsProper, IsProperRun, spi, worked_guest, worked_spec}
use Rattle.law_scans_miss_none.proofs.CoreProper.WorkedLemmas.{vcpu_there, device_there, vcpu_is, are_proper, acts_are_proper, no_other, is_there, is_below}
use Rattle.law_scans_miss_none.specs.LawRegistersStand.Worked.{level_guest}
use Rattle.law_scans_miss_none.proofs.LawRegistersStand.WorkedSteps.{level_is_behind}
use Rattle.law_scans_miss_none.specs.Excuse.{followed_in}
use Rattle.law_late_ones_leave.specs.Late.{AccessesComeFirst}
use Rattle.law_late_ones_leave.specs.Worked.{ended_run, left_run, LateRunLeaves, raised_run, RaisedRunStays}

left_vcpu : IsTrue (are_proper level_guest.shape 0 (opening_progress level_guest 0 0) (own_acts 0 left_run))
unfolding least_in with_level without_level in_places
left_vcpu = refl

left_device : IsTrue (are_proper level_guest.shape 1 (opening_progress level_guest 0 1) (own_acts 1 left_run))
unfolding least_in with_level without_level in_places
left_device = refl

left_is_run : IsRun level_guest.shape (opening level_guest 0) (entries_of left_run)
unfolding least_in with_level without_level in_places
left_is_run = (
  record { actor = device_there; can = refl; meets = refl; found = refl; left = refl; tables = refl },
  (
    record { actor = device_there; can = refl; meets = tt; found = refl; left = refl; tables = refl },
    (
      record { actor = device_there; can = vcpu_is; meets = refl; found = refl; left = refl; tables = refl },
      (
        record { actor = vcpu_there; can = refl; meets = refl; found = refl; left = refl; tables = refl },
        (
          record { actor = vcpu_there; can = refl; meets = refl; found = refl; left = refl; tables = refl },
          (
            record { actor = vcpu_there; can = refl; meets = tt; found = refl; left = refl; tables = refl },
            (
              record { actor = vcpu_there; can = refl; meets = refl; found = refl; left = refl; tables = refl },
              (
                record { actor = vcpu_there; can = refl; meets = refl; found = refl; left = refl; tables = refl },
                (
                  record { actor = vcpu_there; can = refl; meets = refl; found = refl; left = refl; tables = refl },
                  (
                    record { actor = vcpu_there; can = refl; meets = record { entry = _; at = refl; here = refl; whole = refl }; found = refl; left = refl; tables = refl },
                    (
                      record { actor = vcpu_there; can = refl; meets = record { entry = _; at = refl; given = refl; marks = refl }; found = refl; left = refl; tables = refl },
                      (record { actor = vcpu_there; can = refl; meets = tt; found = refl; left = refl; tables = refl }, tt),
                    ),
                  ),
                ),
              ),
            ),
          ),
        ),
      ),
    ),
  ),
)

left_parts : (actor : ℕ) → actor < actor_count level_guest.shape → IsTrue (are_parts level_guest.shape actor false (own_acts actor left_run))
left_parts zero h = refl
left_parts (suc zero) h = refl
left_parts (suc (suc n)) h = no_other n h

left_each : (actor : ℕ) → actor < actor_count level_guest.shape → IsProper level_guest.shape actor (opening_progress level_guest 0 actor) (own_acts actor left_run)
left_each zero h = acts_are_proper level_guest.shape 0 (opening_progress level_guest 0 0) (own_acts 0 left_run) left_vcpu
left_each (suc zero) h = acts_are_proper level_guest.shape 1 (opening_progress level_guest 0 1) (own_acts 1 left_run) left_device
left_each (suc (suc n)) h = no_other n h

left_actors : All (λ moment. moment.actor < actor_count level_guest.shape) left_run
left_actors = λ k d h. is_below (slice_index_or left_run k d).actor 2 (AllPass-from_list_all is_there left_run refl k d h)

left_proper : IsProperRun level_guest 0 left_run
left_proper = record { parted = record { run = left_is_run; actors = left_actors; parts = left_parts }; proper = left_each }

left_first : AccessesComeFirst level_guest 0 left_run
unfolding least_in with_level without_level in_places
left_first = refl

is_late : (followed_in level_guest 0 ended_run).track.leaving ≡ (0, spi) ∷ []
unfolding least_in with_level without_level in_places
is_late = refl

has_left : (followed_in level_guest 0 left_run).track.leaving ≡ []
unfolding least_in with_level without_level in_places
has_left = refl

pub late_run_leaves : LateRunLeaves
late_run_leaves = record { good = level_is_behind.good; proper = left_proper; first = left_first; late = is_late; left = has_left }

-- The run in which the access does not come first.

raised_vcpu : IsTrue (are_proper worked_guest.shape 0 (opening_progress worked_guest 0 0) (own_acts 0 raised_run))
unfolding least_in with_level without_level in_places
raised_vcpu = refl

raised_device : IsTrue (are_proper worked_guest.shape 1 (opening_progress worked_guest 0 1) (own_acts 1 raised_run))
unfolding least_in with_level without_level in_places
raised_device = refl

raised_is_run : IsRun worked_guest.shape (opening worked_guest 0) (entries_of raised_run)
unfolding least_in with_level without_level in_places
raised_is_run = (record { actor = device_there; can = refl; meets = refl; found = refl; left = refl; tables = refl }, (record { actor = device_there; can = refl; meets = tt; found = refl; left = refl; tables = refl }, (record { actor = device_there; can = vcpu_is; meets = refl; found = refl; left = refl; tables = refl }, (record { actor = vcpu_there; can = refl; meets = refl; found = refl; left = refl; tables = refl }, (record { actor = vcpu_there; can = refl; meets = refl; found = refl; left = refl; tables = refl }, (record { actor = vcpu_there; can = refl; meets = tt; found = refl; left = refl; tables = refl }, (record { actor = vcpu_there; can = refl; meets = refl; found = refl; left = refl; tables = refl }, (record { actor = vcpu_there; can = refl; meets = refl; found = refl; left = refl; tables = refl }, (record { actor = vcpu_there; can = refl; meets = refl; found = refl; left = refl; tables = refl }, (record { actor = vcpu_there; can = refl; meets = refl; found = refl; left = refl; tables = refl }, (record { actor = vcpu_there; can = refl; meets = tt; found = refl; left = refl; tables = refl }, (record { actor = vcpu_there; can = vcpu_is; meets = refl; found = refl; left = refl; tables = refl }, tt))))))))))))

raised_parts : (actor : ℕ) → actor < actor_count worked_guest.shape → IsTrue (are_parts worked_guest.shape actor false (own_acts actor raised_run))
raised_parts zero h = refl
raised_parts (suc zero) h = refl
raised_parts (suc (suc n)) h = no_other n h

raised_each : (actor : ℕ) → actor < actor_count worked_guest.shape → IsProper worked_guest.shape actor (opening_progress worked_guest 0 actor) (own_acts actor raised_run)
raised_each zero h = acts_are_proper worked_guest.shape 0 (opening_progress worked_guest 0 0) (own_acts 0 raised_run) raised_vcpu
raised_each (suc zero) h = acts_are_proper worked_guest.shape 1 (opening_progress worked_guest 0 1) (own_acts 1 raised_run) raised_device
raised_each (suc (suc n)) h = no_other n h

raised_actors : All (λ moment. moment.actor < actor_count worked_guest.shape) raised_run
raised_actors = λ k d h. is_below (slice_index_or raised_run k d).actor 2 (AllPass-from_list_all is_there raised_run refl k d h)

raised_proper : IsProperRun worked_guest 0 raised_run
raised_proper = record { parted = record { run = raised_is_run; actors = raised_actors; parts = raised_parts }; proper = raised_each }

raised_good : CanOpen worked_guest
raised_good =
    openings_can_open worked_spec
    (record {
      shape = record { some_vcpu = omega arith; vcpus = omega arith; spis = omega arith; spi_blocks = refl; espis = omega arith; espi_blocks = refl; devices = omega arith; lpis = omega arith; ram = omega arith; ram_words = refl };
      presets = All-cons (IsGoodPreset worked_spec.shape) _ [] (record { there = refl; addressed = refl; prio = omega arith; prio_bits = refl; group = omega arith; sgi_is_edge = refl }) (All-nil (IsGoodPreset worked_spec.shape));
    })

stays_late : is_kept of_end worked_guest (ideal_of worked_guest.shape (opening worked_guest 0) raised_run) ≡ false
unfolding least_in with_level without_level in_places
stays_late = refl

pub raised_run_stays : RaisedRunStays
raised_run_stays = record { good = raised_good; proper = raised_proper; late = stays_late }
