-- The worked run meets what the law of histories asks: each of its parts makes the events of its call.
use Rattle.std.proofs.Common.{[], zero, suc, Some, None, refl, arith}
use Rattle.std.proofs.lemmas.List.Elements.{All-nil, All-cons}
use Rattle.law_histories.proofs.IdealGuests.CanOpenLemmas.{openings_can_open}
use Rattle.law_lines_translate.specs.Words.{Iar1, Eoir1}
use Rattle.law_lines_translate.specs.Registers.{least_in, with_level, without_level}
use Rattle.law_lines_translate.specs.Calls.{Cpu, View, IsGoodPreset}
use Rattle.law_lines_translate.specs.GicCall.declared.event.Event.TheVariants.{Raise}
use Rattle.law_lines_translate.specs.GicCall.declared.event.Found.TheVariants.{Nothing, Answer}
use Rattle.law_lines_translate.specs.Histories.{opening_course, view_at, CanOpen}
use Rattle.law_lines_translate.specs.GicHistory.State.{opening as opening_ideal}
use Rattle.law_lines_translate.proofs.GicHistory.CallLemmas.{call_ended, hands_one}
use Rattle.law_lines_translate.specs.Lists.{in_places}
use Rattle.law_lines_translate.specs.Core.{opening, worked_guest, worked_spec, worked_run, spi, ideal_of}
use Rattle.law_lines_translate.proofs.CoreProper.WorkedLemmas.{worked_is_proper}
use Rattle.law_histories.specs.Latches.{StaysEdge}
use Rattle.law_core_is_history.specs.Laws.{AreCalls}
use Rattle.law_core_is_history.specs.Whole.{AreEnded}
use Rattle.law_core_is_history.specs.Worked.{WorkedRunIsHistory}
use Rattle.law_core_is_history.proofs.HistorySteps.{runs_history}

-- what is found of the guest as it opens
abbrev opened : View
opened = view_at (opening_ideal worked_guest)

pub worked_calls : AreCalls worked_guest.shape (opening worked_guest 0) (opening_course worked_guest) worked_run
unfolding least_in with_level without_level in_places
worked_calls = (tt, (tt, (tt, (call_ended worked_guest.shape 0 _ None refl (λ id. refl) (refl, refl), (tt, (tt, (tt, (tt, (call_ended worked_guest.shape 1 _ None refl (λ id. refl) (record { view = opened; maps = refl; made = record { events_are = refl; found = hands_one opened (Raise spi) Nothing refl; reads = All-nil _ }; answers = refl }), (tt, (tt, (tt, (tt, (tt, (tt, (call_ended worked_guest.shape 0 _ None refl (λ id. refl) (refl, refl), (tt, (tt, (call_ended worked_guest.shape 0 _ (Some 40) refl (λ id. refl) (record { view = opened; made = record { events_are = refl; found = hands_one opened (Cpu 0 Iar1 None) (Answer (Some 40)) ((Some 40), refl); reads = All-nil _ }; answers = (0, omega arith, refl) }), (tt, (tt, (call_ended worked_guest.shape 0 _ None refl (λ id. refl) (record { view = opened; made = record { events_are = refl; found = hands_one opened (Cpu 0 Eoir1 (Some 40)) (Answer None) (None, refl); reads = All-nil _ }; answers = (0, omega arith, refl) }), (tt, (tt, (call_ended worked_guest.shape 0 _ (Some 1023) refl (λ id. refl) (record { view = opened; made = record { events_are = refl; found = hands_one opened (Cpu 0 Iar1 None) (Answer (Some 1023)) ((Some 1023), refl); reads = All-nil _ }; answers = (0, omega arith, refl) }), (tt, (tt, (tt, (tt, (call_ended worked_guest.shape 0 _ None refl (λ id. refl) (refl, refl), tt))))))))))))))))))))))))))))))

worked_good : CanOpen worked_guest
worked_good =
    openings_can_open worked_spec
    (record {
      shape = record { some_vcpu = omega arith; vcpus = omega arith; spis = omega arith; spi_blocks = refl; espis = omega arith; espi_blocks = refl; devices = omega arith; lpis = omega arith; ram = omega arith; ram_words = refl };
      presets = All-cons (IsGoodPreset worked_spec.shape) _ [] (record { there = refl; addressed = refl; prio = omega arith; prio_bits = refl; group = omega arith; sgi_is_edge = refl }) (All-nil (IsGoodPreset worked_spec.shape));
    })

worked_ended : AreEnded worked_guest.shape worked_run
unfolding least_in with_level without_level in_places
worked_ended zero there = refl
worked_ended (suc zero) there = refl
worked_ended (suc (suc actor)) there = absurd (omega (arith, there))

worked_edge : StaysEdge spi (opening_ideal worked_guest) (ideal_of worked_guest.shape (opening worked_guest 0) worked_run)
unfolding least_in with_level without_level in_places
worked_edge = (refl, (refl, (refl, (refl, (refl, (refl, (refl, (refl, (refl, (refl, (refl, (refl, (refl, (refl, (refl, (refl, (refl, (refl, (refl, (refl, (refl, refl)))))))))))))))))))))

pub worked_history_is : WorkedRunIsHistory
worked_history_is = record { good = worked_good; parted = worked_is_proper.parted; calls = worked_calls; ended = worked_ended; edge = worked_edge; history = runs_history worked_guest 0 worked_run worked_good worked_is_proper.parted worked_calls }
