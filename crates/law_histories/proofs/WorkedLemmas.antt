-- The worked histories: each of their conditions computes.
use Rattle.std.proofs.Common.{ℕ, true, IsTrue, All, Option, is_none, List, [], ◌∷◌, ◌++◌, map, Some, None, refl, arith}
use Rattle.std.specs.List.{range_with_len}
use Rattle.std.proofs.lemmas.List.Elements.{All-nil, All-cons, All-from_recursion}
use Rattle.floor_histories.proofs.IdealGuests.CanOpenLemmas.{openings_can_open}
use Rattle.floor_histories.specs.Words.{key_at, Iar1, Spi}
use Rattle.floor_histories.specs.Calls.{opening_irq, Cpu, CtlrBegin, CtlrEnd, Record, copy_at, Happened, HandsOut, View, IsGoodPreset}
use Rattle.floor_histories.specs.GicCall.declared.event.Event.TheVariants.{Raise}
use Rattle.floor_histories.specs.GicCall.declared.event.Found.TheVariants.{Nothing, Answer}
use Rattle.floor_histories.specs.Histories.{view_at, Call, Course, GoesOn, IsHistory, opening_course, worked_guest, message, reach, leave, reads, CanOpen}
use Rattle.floor_histories.specs.GicHistory.State.{opening}
use Rattle.floor_histories.specs.Registers.{least_in, with_level, without_level}
use Rattle.floor_histories.proofs.GicHistory.CallLemmas.{call_ended, goes_on, hands_one}
use Rattle.law_histories.specs.Worked.{small_guest, small_spec, new_enables, half_written, other_half, WriteIsHalfDone, merged, apart, MessagesMerge}

-- what is found of the guest as it opens
abbrev opened : View
opened = view_at (opening small_guest)

abbrev HandsIt : Happened → Type 0
HandsIt happened = HandsOut opened happened.event happened.found

small_good : CanOpen small_guest
small_good =
    openings_can_open small_spec
    (record {
      shape = record { some_vcpu = omega arith; vcpus = omega arith; spis = omega arith; spi_blocks = refl; espis = omega arith; espi_blocks = refl; devices = omega arith; lpis = omega arith; ram = omega arith; ram_words = refl };
      presets = All-nil (IsGoodPreset small_spec.shape);
    })

-- the events of the write, each of which hands out what the guest has as it opens
abbrev copied_one : ℕ → Happened
copied_one place = record { event = copy_at small_guest.shape new_enables place; found = Record (opening_irq true (key_at small_guest.shape place)) }

abbrev written : List Happened
written = (record { event = CtlrBegin new_enables; found = Nothing }) ∷ map copied_one (range_with_len 0 32) ++ (record { event = CtlrEnd; found = Nothing }) ∷ []

write_hands : All HandsIt written
write_hands = All-from_recursion HandsIt written (refl, (refl, (refl, (refl, (refl, (refl, (refl, (refl, (refl, (refl, (refl, (refl, (refl, (refl, (refl, (refl, (refl, (refl, (refl, (refl, (refl, (refl, (refl, (refl, (refl, (refl, (refl, (refl, (refl, (refl, (refl, (refl, (refl, (refl, tt))))))))))))))))))))))))))))))))))

write_goes : IsHistory small_guest (half_written ++ other_half)
write_goes =
    ((omega arith, refl), (record { within = refl; can = tt; allowed = refl; hands = refl }, (record { within = refl; can = record { there = refl; fits = refl }; allowed = refl; hands = refl }, (record { within = refl; can = record { there = refl; fits = refl }; allowed = refl; hands = refl }, (record { within = refl; can = record { there = refl; fits = refl }; allowed = refl; hands = refl }, (record { within = refl; can = record { there = refl; fits = refl }; allowed = refl; hands = refl }, (record { within = refl; can = record { there = refl; fits = refl }; allowed = refl; hands = refl }, (record { within = refl; can = record { there = refl; fits = refl }; allowed = refl; hands = refl }, (record { within = refl; can = record { there = refl; fits = refl }; allowed = refl; hands = refl }, (record { within = refl; can = record { there = refl; fits = refl }; allowed = refl; hands = refl }, (record { within = refl; can = record { there = refl; fits = refl }; allowed = refl; hands = refl }, (record { within = refl; can = record { there = refl; fits = refl }; allowed = refl; hands = refl }, (record { within = refl; can = record { there = refl; fits = refl }; allowed = refl; hands = refl }, (record { within = refl; can = record { there = refl; fits = refl }; allowed = refl; hands = refl }, (record { within = refl; can = record { there = refl; fits = refl }; allowed = refl; hands = refl }, (record { within = refl; can = record { there = refl; fits = refl }; allowed = refl; hands = refl }, (record { within = refl; can = record { there = refl; fits = refl }; allowed = refl; hands = refl }, (record { within = refl; can = record { there = refl; fits = refl }; allowed = refl; hands = refl }, (record { within = refl; can = record { there = refl; fits = refl }; allowed = refl; hands = refl }, (record { within = refl; can = record { there = refl; fits = refl }; allowed = refl; hands = refl }, (record { within = refl; can = record { there = refl; fits = refl }; allowed = refl; hands = refl }, (record { within = refl; can = record { there = refl; fits = refl }; allowed = refl; hands = refl }, (record { within = refl; can = record { there = refl; fits = refl }; allowed = refl; hands = refl }, (record { within = refl; can = record { there = refl; fits = refl }; allowed = refl; hands = refl }, (record { within = refl; can = record { there = refl; fits = refl }; allowed = refl; hands = refl }, (record { within = refl; can = record { there = refl; fits = refl }; allowed = refl; hands = refl }, (record { within = refl; can = record { there = refl; fits = refl }; allowed = refl; hands = refl }, (record { within = refl; can = record { there = refl; fits = refl }; allowed = refl; hands = refl }, (record { within = refl; can = record { there = refl; fits = refl }; allowed = refl; hands = refl }, (record { within = refl; can = record { there = refl; fits = refl }; allowed = refl; hands = refl }, (record { within = refl; can = record { there = refl; fits = refl }; allowed = refl; hands = refl }, (record { within = refl; can = record { there = refl; fits = refl }; allowed = refl; hands = refl }, (record { within = refl; can = record { there = refl; fits = refl }; allowed = refl; hands = refl }, (record { within = refl; can = record { there = refl; fits = refl }; allowed = refl; hands = refl }, (record { within = refl; can = tt; allowed = refl; hands = refl }, (call_ended small_guest.shape 0 _ None refl (λ id. refl) (record { view = opened; targets = refl; made = record { events_are = refl; found = write_hands; reads = All-nil _ }; answers = refl }), tt))))))))))))))))))))))))))))))))))))

pub write_is_half_done : WriteIsHalfDone
write_is_half_done = record { good = small_good; history = write_goes; whole = All-cons (λ (call : Option Call). IsTrue (is_none call)) None [] refl (All-nil (λ (call : Option Call). IsTrue (is_none call))); taken = refl; passed = refl; ahead = refl }

-- Two messages.

abbrev from : Course
from = opening_course worked_guest

abbrev opened_two : View
opened_two = view_at (opening worked_guest)

merged_is : IsHistory worked_guest merged
unfolding least_in with_level without_level
merged_is =
    let one : GoesOn from (message 40) = ((omega arith, refl), (record { within = refl; can = refl; allowed = refl; hands = refl }, (call_ended worked_guest.shape 2 _ None refl (λ id. refl) (record { view = opened_two; maps = refl; made = record { events_are = refl; found = hands_one opened_two (Raise (Spi 40)) Nothing refl; reads = All-nil _ }; answers = refl }), tt))) in
    let two : GoesOn from (message 40 ++ reach 0 40) = goes_on from (message 40) (reach 0 40) one (((omega arith, refl), (record { within = refl; can = (refl, omega arith); allowed = refl; hands = refl }, (call_ended worked_guest.shape 0 _ None refl (λ id. refl) (refl, refl), tt)))) in
    let three : GoesOn from (message 40 ++ reach 0 40 ++ message 40) = goes_on from (message 40 ++ reach 0 40) (message 40) two (((omega arith, refl), (record { within = refl; can = refl; allowed = refl; hands = refl }, (call_ended worked_guest.shape 2 _ None refl (λ id. refl) (record { view = opened_two; maps = refl; made = record { events_are = refl; found = hands_one opened_two (Raise (Spi 40)) Nothing refl; reads = All-nil _ }; answers = refl }), tt)))) in
    let four : GoesOn from (message 40 ++ reach 0 40 ++ message 40 ++ leave 0 40) = goes_on from (message 40 ++ reach 0 40 ++ message 40) (leave 0 40) three (((omega arith, refl), (record { within = refl; can = (refl, omega arith); allowed = refl; hands = refl }, (call_ended worked_guest.shape 0 _ None refl (λ id. refl) (refl, refl), tt)))) in
    let five : GoesOn from (message 40 ++ reach 0 40 ++ message 40 ++ leave 0 40 ++ reach 0 40) = goes_on from (message 40 ++ reach 0 40 ++ message 40 ++ leave 0 40) (reach 0 40) four (((omega arith, refl), (record { within = refl; can = (refl, omega arith); allowed = refl; hands = refl }, (call_ended worked_guest.shape 0 _ None refl (λ id. refl) (refl, refl), tt)))) in
    goes_on from (message 40 ++ reach 0 40 ++ message 40 ++ leave 0 40 ++ reach 0 40) (reads 0 Iar1 40) five (((omega arith, refl), (record { within = refl; can = (omega arith, refl); allowed = refl; hands = refl }, (call_ended worked_guest.shape 0 _ (Some 40) refl (λ id. refl) (record { view = opened_two; made = record { events_are = refl; found = hands_one opened_two (Cpu 0 Iar1 None) (Answer (Some 40)) ((Some 40), refl); reads = All-nil _ }; answers = (0, omega arith, refl) }), tt))))

apart_is : IsHistory worked_guest apart
unfolding least_in with_level without_level
apart_is =
    let one : GoesOn from (message 40) = ((omega arith, refl), (record { within = refl; can = refl; allowed = refl; hands = refl }, (call_ended worked_guest.shape 2 _ None refl (λ id. refl) (record { view = opened_two; maps = refl; made = record { events_are = refl; found = hands_one opened_two (Raise (Spi 40)) Nothing refl; reads = All-nil _ }; answers = refl }), tt))) in
    let two : GoesOn from (message 40 ++ reach 0 40) = goes_on from (message 40) (reach 0 40) one (((omega arith, refl), (record { within = refl; can = (refl, omega arith); allowed = refl; hands = refl }, (call_ended worked_guest.shape 0 _ None refl (λ id. refl) (refl, refl), tt)))) in
    let three : GoesOn from (message 40 ++ reach 0 40 ++ message 40) = goes_on from (message 40 ++ reach 0 40) (message 40) two (((omega arith, refl), (record { within = refl; can = refl; allowed = refl; hands = refl }, (call_ended worked_guest.shape 2 _ None refl (λ id. refl) (record { view = opened_two; maps = refl; made = record { events_are = refl; found = hands_one opened_two (Raise (Spi 40)) Nothing refl; reads = All-nil _ }; answers = refl }), tt)))) in
    goes_on from (message 40 ++ reach 0 40 ++ message 40) (reads 0 Iar1 40) three (((omega arith, refl), (record { within = refl; can = (omega arith, refl); allowed = refl; hands = refl }, (call_ended worked_guest.shape 0 _ (Some 40) refl (λ id. refl) (record { view = opened_two; made = record { events_are = refl; found = hands_one opened_two (Cpu 0 Iar1 None) (Answer (Some 40)) ((Some 40), refl); reads = All-nil _ }; answers = (0, omega arith, refl) }), tt))))

pub messages_merge : MessagesMerge
unfolding least_in with_level without_level
messages_merge = record {
  merged_history = merged_is;
  none = refl;
  merged_edge = (refl, (refl, (refl, (refl, (refl, (refl, (refl, (refl, (refl, (refl, (refl, (refl, (refl, (refl, (refl, (refl, (refl, (refl, refl))))))))))))))))));
  merged_latch = refl;
  apart_history = apart_is;
  one = refl;
  apart_edge = (refl, (refl, (refl, (refl, (refl, (refl, (refl, (refl, (refl, (refl, (refl, (refl, refl))))))))))));
  apart_latch = refl;
}
