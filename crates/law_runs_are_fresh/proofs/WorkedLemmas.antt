-- The worked runs: each of their conditions computes.
use Rattle.std.proofs.Common.{◌≡◌, ◌≢◌, ℕ, ◌<◌, Bool, true, false, IsTrue, All, [], take, nat_lt, slice_index_or, zero, suc, Some, None, refl, arith}
use Rattle.std.proofs.lemmas.List.Elements.{All-nil, All-cons}
use Rattle.std.proofs.lemmas.List.Sums.{AllPass-from_list_all}
use Rattle.law_serial_is_eager.proofs.PortCore.IdealGuests.CanOpenLemmas.{openings_can_open}
use Rattle.law_serial_is_eager.specs.Words.{Iar1, G1}
use Rattle.law_serial_is_eager.specs.Calls.{Cpu, Touch as TouchEvent, Record, View, IsGoodPreset}
use Rattle.law_serial_is_eager.specs.GicCall.declared.event.Event.TheVariants.{Raise as RaiseEvent}
use Rattle.law_serial_is_eager.specs.GicCall.declared.event.Found.TheVariants.{Nothing, Answer}
use Rattle.law_serial_is_eager.specs.Histories.{last_of, opening_course, view_at, IsFresh, comes_first, is_last_open, CanOpen}
use Rattle.law_serial_is_eager.specs.GicHistory.State.{opening as opening_ideal}
use Rattle.law_serial_is_eager.proofs.GicHistory.CallLemmas.{call_ended, hands_one}
use Rattle.law_serial_is_eager.specs.Registers.{least_in, with_level, without_level}
use Rattle.law_serial_is_eager.specs.Lists.{in_places}
use Rattle.law_serial_is_eager.specs.Core.{AtIrq, actor_count, opening, IsRun, ideal_of, CoreMoment, own_acts, entries_of, are_parts, opening_progress, progress_in, IsProper, IsProperRun, spi, worked_guest, worked_run, clear_guest, clear_spec, clears, found_pending}
use Rattle.law_serial_is_eager.proofs.CoreProper.WorkedLemmas.{are_proper, acts_are_proper, is_below, worked_is_proper}
use Rattle.law_serial_is_eager.specs.LawCoreIsHistory.Laws.{AreCalls}
use Rattle.law_serial_is_eager.specs.LawCoreIsHistory.Whole.{AreEnded}
use Rattle.law_serial_is_eager.proofs.LawCoreIsHistory.WorkedSteps.{worked_history_is}
use Rattle.law_serial_is_eager.specs.LawScansMissNone.Excuse.{followed_in}
use Rattle.law_runs_are_fresh.specs.First.{AsksAlone}
use Rattle.law_runs_are_fresh.specs.Worked.{AReadIsAlone, ATouchIsAwaited, awaiting_history, awaiting_run, early_awaiting, early_history, read_made}

awaiting_ideal : ideal_of clear_guest.shape (opening clear_guest 0) awaiting_run ≡ awaiting_history
unfolding least_in with_level without_level in_places
awaiting_ideal = refl

first_proper : IsTrue (are_proper clear_guest.shape 0 (opening_progress clear_guest 0 0) (own_acts 0 awaiting_run))
unfolding least_in with_level without_level in_places
first_proper = refl

first_there : 0 < actor_count clear_guest.shape
first_there = omega arith

second_proper : IsTrue (are_proper clear_guest.shape 1 (opening_progress clear_guest 0 1) (own_acts 1 awaiting_run))
unfolding least_in with_level without_level in_places
second_proper = refl

second_there : 1 < actor_count clear_guest.shape
second_there = omega arith

third_proper : IsTrue (are_proper clear_guest.shape 2 (opening_progress clear_guest 0 2) (own_acts 2 awaiting_run))
unfolding least_in with_level without_level in_places
third_proper = refl

third_there : 2 < actor_count clear_guest.shape
third_there = omega arith

vcpu_is : 0 < clear_guest.shape.vcpus
vcpu_is = omega arith

-- the interrupt at the interface as the vCPU leaves, and then given back
at_end : AtIrq
at_end = record { key = spi; entry_prio = 0xa0; group = G1; pending = true; active = false; rise = false; soft = true; consumed = false; given = false }

given_back : AtIrq
given_back = record { key = spi; entry_prio = 0xa0; group = G1; pending = true; active = false; rise = false; soft = true; consumed = false; given = true }

awaiting_is_run : IsRun clear_guest.shape (opening clear_guest 0) (entries_of awaiting_run)
unfolding least_in with_level without_level in_places at_end given_back
awaiting_is_run = (record { actor = third_there; can = refl; meets = refl; found = refl; left = refl; tables = refl }, (record { actor = third_there; can = refl; meets = tt; found = refl; left = refl; tables = refl }, (record { actor = third_there; can = vcpu_is; meets = refl; found = refl; left = refl; tables = refl }, (record { actor = first_there; can = refl; meets = refl; found = refl; left = refl; tables = refl }, (record { actor = first_there; can = refl; meets = refl; found = refl; left = refl; tables = refl }, (record { actor = first_there; can = refl; meets = tt; found = refl; left = refl; tables = refl }, (record { actor = first_there; can = refl; meets = refl; found = refl; left = refl; tables = refl }, (record { actor = second_there; can = refl; meets = tt; found = refl; left = refl; tables = refl }, (record { actor = second_there; can = refl; meets = tt; found = refl; left = refl; tables = refl }, (record { actor = second_there; can = vcpu_is; meets = refl; found = refl; left = refl; tables = refl }, (record { actor = first_there; can = refl; meets = record { entry = at_end; at = refl; here = refl; whole = refl }; found = refl; left = refl; tables = refl }, (record { actor = first_there; can = refl; meets = record { entry = given_back; at = refl; given = refl; marks = refl }; found = refl; left = refl; tables = refl }, (record { actor = first_there; can = refl; meets = tt; found = refl; left = refl; tables = refl }, (record { actor = first_there; can = refl; meets = refl; found = refl; left = refl; tables = refl }, (record { actor = first_there; can = refl; meets = refl; found = refl; left = refl; tables = refl }, (record { actor = first_there; can = refl; meets = tt; found = refl; left = refl; tables = refl }, (record { actor = first_there; can = refl; meets = tt; found = refl; left = refl; tables = refl }, (record { actor = first_there; can = refl; meets = refl; found = refl; left = refl; tables = refl }, (record { actor = second_there; can = refl; meets = tt; found = refl; left = refl; tables = refl }, (record { actor = second_there; can = record { there = refl; fits = refl }; meets = record { empty = refl; marks = refl; lines = λ e. absurd (cc) }; found = refl; left = refl; tables = refl }, (record { actor = second_there; can = refl; meets = tt; found = refl; left = refl; tables = refl }, (record { actor = second_there; can = vcpu_is; meets = refl; found = refl; left = refl; tables = refl }, tt))))))))))))))))))))))

-- the guest has three actors
none_else : {X : Type 0} (n : ℕ) → suc (suc (suc n)) < actor_count clear_guest.shape → X
none_else n h = absurd (omega (arith, h))

awaiting_parts : (actor : ℕ) → actor < actor_count clear_guest.shape → IsTrue (are_parts clear_guest.shape actor false (own_acts actor awaiting_run))
awaiting_parts zero h = refl
awaiting_parts (suc zero) h = refl
awaiting_parts (suc (suc zero)) h = refl
awaiting_parts (suc (suc (suc n))) h = none_else n h

awaiting_acts : (actor : ℕ) → actor < actor_count clear_guest.shape → IsProper clear_guest.shape actor (opening_progress clear_guest 0 actor) (own_acts actor awaiting_run)
awaiting_acts zero h = acts_are_proper clear_guest.shape 0 (opening_progress clear_guest 0 0) (own_acts 0 awaiting_run) first_proper
awaiting_acts (suc zero) h = acts_are_proper clear_guest.shape 1 (opening_progress clear_guest 0 1) (own_acts 1 awaiting_run) second_proper
awaiting_acts (suc (suc zero)) h = acts_are_proper clear_guest.shape 2 (opening_progress clear_guest 0 2) (own_acts 2 awaiting_run) third_proper
awaiting_acts (suc (suc (suc n))) h = none_else n h

abbrev is_of_three : CoreMoment → Bool
is_of_three moment = nat_lt moment.actor 3

awaiting_actors : All (λ moment. moment.actor < actor_count clear_guest.shape) awaiting_run
awaiting_actors = λ k d h. is_below (slice_index_or awaiting_run k d).actor 3 (AllPass-from_list_all is_of_three awaiting_run refl k d h)

awaiting_is_proper : IsProperRun clear_guest 0 awaiting_run
awaiting_is_proper = record { parted = record { run = awaiting_is_run; actors = awaiting_actors; parts = awaiting_parts }; proper = awaiting_acts }

-- what is found of the guest as it opens, and by vCPU 1, whose call began before vCPU 0 left
abbrev opened : View
opened = view_at (opening_ideal clear_guest)

abbrev found_view : View
found_view = record (view_at (last_of clear_guest early_history)) { targets = (view_at (last_of clear_guest (take 6 early_history))).targets }

awaiting_calls : AreCalls clear_guest.shape (opening clear_guest 0) (opening_course clear_guest) awaiting_run
unfolding least_in with_level without_level in_places
awaiting_calls = (tt, (tt, (tt, (tt, (call_ended clear_guest.shape 2 _ None refl (λ id. refl) (record { view = opened; maps = refl; made = record { events_are = refl; found = hands_one opened (RaiseEvent spi) Nothing refl; reads = All-nil _ }; answers = refl }), (tt, (tt, (tt, (tt, (tt, (call_ended clear_guest.shape 0 _ None refl (λ id. refl) (refl, refl), (tt, (tt, (tt, (tt, (tt, (tt, (tt, (tt, (call_ended clear_guest.shape 0 _ None refl (λ id. refl) (refl, refl), (tt, (tt, (tt, (tt, (tt, (call_ended clear_guest.shape 0 _ None refl (λ id. refl) (refl, refl), (tt, (tt, (call_ended clear_guest.shape 0 _ (Some 1023) refl (λ id. refl) (record { view = opened; made = record { events_are = refl; found = hands_one opened (Cpu 0 Iar1 None) (Answer (Some 1023)) ((Some 1023), refl); reads = All-nil _ }; answers = (0, omega arith, refl) }), (tt, (tt, (tt, (tt, (call_ended clear_guest.shape 1 _ None refl (λ id. refl) (record { view = found_view; targets = refl; made = record { events_are = refl; found = hands_one found_view (TouchEvent spi clears) (Record found_pending) refl; reads = All-nil _ }; answers = refl }), tt))))))))))))))))))))))))))))))))))

awaiting_good : CanOpen clear_guest
awaiting_good =
    openings_can_open clear_spec
    (record {
      shape = record { some_vcpu = omega arith; vcpus = omega arith; spis = omega arith; spi_blocks = refl; espis = omega arith; espi_blocks = refl; devices = omega arith; lpis = omega arith; ram = omega arith; ram_words = refl };
      presets = All-cons (IsGoodPreset clear_spec.shape) _ [] (record { there = refl; addressed = refl; prio = omega arith; prio_bits = refl; group = omega arith; sgi_is_edge = refl }) (All-nil (IsGoodPreset clear_spec.shape));
    })

awaiting_ended : AreEnded clear_guest.shape awaiting_run
awaiting_ended zero there = refl
awaiting_ended (suc zero) there = refl
awaiting_ended (suc (suc zero)) there = refl
awaiting_ended (suc (suc (suc n))) there = none_else n there

awaiting_first : comes_first (followed_in clear_guest 0 early_awaiting).ideal 0 spi ≡ true
unfolding least_in with_level without_level in_places
awaiting_first = refl

awaiting_closed : is_last_open clear_guest.shape (followed_in clear_guest 0 early_awaiting).track 0 spi ≡ false
unfolding least_in with_level without_level in_places
awaiting_closed = refl

awaiting_fresh : IsFresh clear_guest awaiting_history
unfolding least_in with_level without_level in_places
awaiting_fresh = record { acknowledge = refl; interface = refl; end = refl; deactivation = refl }

pub a_touch_is_awaited : ATouchIsAwaited
a_touch_is_awaited = record {
  good = awaiting_good;
  proper = awaiting_is_proper;
  calls = awaiting_calls;
  ended = awaiting_ended;
  history = awaiting_ideal;
  first = awaiting_first;
  closed = awaiting_closed;
  awaited = refl;
  fresh = awaiting_fresh;
}

-- The read of the worked run.

nobody_acts : (actor : ℕ) → actor < actor_count worked_guest.shape → actor ≢ 0 → (progress_in worked_guest 0 (take 17 worked_run) actor).operation ≡ None
unfolding least_in with_level without_level in_places
nobody_acts zero h differ = absurd (differ refl)
nobody_acts (suc zero) h differ = refl
nobody_acts (suc (suc n)) h differ = absurd (omega (arith, h))

asks_alone : AsksAlone worked_guest 0 (take 17 worked_run) 0 read_made
asks_alone = record { read = record { few = omega arith; reg = Iar1; asks = refl; step_is = refl; unkicked = refl }; nobody = nobody_acts }

pub a_read_is_alone : AReadIsAlone
a_read_is_alone = record { good = worked_history_is.good; same = refl; proper = worked_is_proper; calls = worked_history_is.calls; ended = worked_history_is.ended; alone = asks_alone }
