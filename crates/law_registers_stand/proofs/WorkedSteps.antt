-- The worked run of a wire that stays up: each of its conditions computes.
use Rattle.std.proofs.Common.{◌≡◌, ℕ, ◌<◌, false, IsTrue, [], ◌∷◌, refl, arith, zero, suc, All, replicate, slice_index_or}
use Rattle.std.proofs.lemmas.List.Elements.{All-nil, All-cons}
use Rattle.std.proofs.lemmas.List.Sums.{AllPass-from_list_all}
use Rattle.law_core_is_history.proofs.IdealGuests.CanOpenLemmas.{openings_can_open}
use Rattle.law_core_is_history.specs.Registers.{least_in, with_level, without_level}
use Rattle.law_core_is_history.specs.Lists.{in_places}
use Rattle.law_core_is_history.specs.Calls.{IsGoodPreset}
use Rattle.law_core_is_history.specs.Histories.{CanOpen}
use Rattle.law_core_is_history.specs.Core.{actor_count, opening, IsRun, end_of_moments, ideal_of, own_acts, entries_of, are_parts, opening_progress, progress_in, IsProper, IsProperRun, spi}
use Rattle.law_core_is_history.proofs.CoreProper.WorkedLemmas.{vcpu_there, device_there, vcpu_is, are_proper, acts_are_proper, no_other, is_there, is_below}
use Rattle.law_registers_stand.specs.Asks.{HasAll, IsFilled}
use Rattle.law_registers_stand.specs.Ends.{IsBehind}
use Rattle.law_registers_stand.specs.Followed.{followed_by}
use Rattle.law_registers_stand.specs.Worked.{level_guest, level_spec, level_run, LevelRunIsBehind}

level_good : CanOpen level_guest
level_good =
    openings_can_open level_spec
    (record {
      shape = record { some_vcpu = omega arith; vcpus = omega arith; spis = omega arith; spi_blocks = refl; espis = omega arith; espi_blocks = refl; devices = omega arith; lpis = omega arith; ram = omega arith; ram_words = refl };
      presets = All-cons (IsGoodPreset level_spec.shape) _ [] (record { there = refl; addressed = refl; prio = omega arith; prio_bits = refl; group = omega arith; sgi_is_edge = refl }) (All-nil (IsGoodPreset level_spec.shape));
    })

level_vcpu : IsTrue (are_proper level_guest.shape 0 (opening_progress level_guest 0 0) (own_acts 0 level_run))
unfolding least_in with_level without_level in_places
level_vcpu = refl

level_device : IsTrue (are_proper level_guest.shape 1 (opening_progress level_guest 0 1) (own_acts 1 level_run))
unfolding least_in with_level without_level in_places
level_device = refl

level_is_run : IsRun level_guest.shape (opening level_guest 0) (entries_of level_run)
unfolding least_in with_level without_level in_places
level_is_run = (
  record { actor = device_there; can = refl; meets = refl; found = refl; left = refl; tables = refl },
  (
    record { actor = device_there; can = refl; meets = tt; found = refl; left = refl; tables = refl },
    (
      record { actor = device_there; can = vcpu_is; meets = refl; found = refl; left = refl; tables = refl },
      (
        record { actor = vcpu_there; can = refl; meets = refl; found = refl; left = refl; tables = refl },
        (
          record { actor = vcpu_there; can = refl; meets = refl; found = refl; left = refl; tables = refl },
          (
            record { actor = vcpu_there; can = refl; meets = tt; found = refl; left = refl; tables = refl },
            (
              record { actor = vcpu_there; can = refl; meets = refl; found = refl; left = refl; tables = refl },
              (
                record { actor = vcpu_there; can = refl; meets = refl; found = refl; left = refl; tables = refl },
                tt,
              ),
            ),
          ),
        ),
      ),
    ),
  ),
)

level_parts : (actor : ℕ) → actor < actor_count level_guest.shape → IsTrue (are_parts level_guest.shape actor false (own_acts actor level_run))
level_parts zero h = refl
level_parts (suc zero) h = refl
level_parts (suc (suc n)) h = no_other n h

level_each : (actor : ℕ) → actor < actor_count level_guest.shape → IsProper level_guest.shape actor (opening_progress level_guest 0 actor) (own_acts actor level_run)
level_each zero h = acts_are_proper level_guest.shape 0 (opening_progress level_guest 0 0) (own_acts 0 level_run) level_vcpu
level_each (suc zero) h = acts_are_proper level_guest.shape 1 (opening_progress level_guest 0 1) (own_acts 1 level_run) level_device
level_each (suc (suc n)) h = no_other n h

level_actors : All (λ moment. moment.actor < actor_count level_guest.shape) level_run
level_actors = λ k d h. is_below (slice_index_or level_run k d).actor 2 (AllPass-from_list_all is_there level_run refl k d h)

level_proper : IsProperRun level_guest 0 level_run
level_proper = record { parted = record { run = level_is_run; actors = level_actors; parts = level_parts }; proper = level_each }

level_filled : IsFilled (progress_in level_guest 0 level_run 0)
unfolding least_in with_level without_level in_places
level_filled = record { loaded = record { scan = refl; ready = refl }; untrapped = refl; paid = refl }

level_all : HasAll level_guest.shape (end_of_moments level_guest.shape (opening level_guest 0) level_run) 0 (progress_in level_guest 0 level_run 0)
unfolding least_in with_level without_level in_places
level_all = record { none_failed = refl; unkicked = refl }

level_behind : IsBehind level_guest.shape (end_of_moments level_guest.shape (opening level_guest 0) level_run) (followed_by level_guest (ideal_of level_guest.shape (opening level_guest 0) level_run)) (progress_in level_guest 0 level_run 0) spi
unfolding least_in with_level without_level in_places
level_behind = record { there = refl; at = refl; pending = refl; unchanged = refl }

level_list : (progress_in level_guest 0 level_run 0).regs.lr ≡ 0x90a0020000000028 ∷ replicate 15 0
unfolding least_in with_level without_level in_places
level_list = refl

pub level_is_behind : LevelRunIsBehind
level_is_behind = record { good = level_good; proper = level_proper; filled = level_filled; all = level_all; behind = level_behind; list = level_list }
