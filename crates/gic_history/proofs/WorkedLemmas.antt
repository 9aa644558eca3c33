-- The worked histories: each of their conditions computes.
use Rattle.std.proofs.Common.{◌≡◌, ◌⊎◌, inl, inr, ℕ, false, IsTrue, List, [], ◌∷◌, ◌++◌, refl, arith, Option, Some, None}
use Rattle.std.proofs.lemmas.List.Elements.{All-nil}
use Rattle.ideal_guest.specs.Registers.{least_in, with_level, without_level}
use Rattle.ideal_guest.specs.Words.{Iar1, Eoir1, Rpr, ClearPending, Routing, Spi, Lpi, Msi}
use Rattle.ideal_guest.specs.Calls.{Ram, Up, Touch, Cpu, Put, ItsBegin, Found, Record, Register, Happened, Beside, Makes, RaisesAlone, IsDeviceCall, device_events, msi_raises, View, IsOffset}
use Rattle.ideal_guest.proofs.GicCall.TraceLemmas.{op_made}
use Rattle.ideal_guest.specs.GicCall.declared.event.Event.TheVariants.{Raise, ItsEnd}
use Rattle.ideal_guest.specs.GicCall.declared.event.Found.TheVariants.{Nothing, Answer, Word as FoundWord}
use Rattle.gic_history.specs.State.{opening, view_at}
use Rattle.gic_history.specs.History.{Course, GoesOn, IsHistory, opening_course, course_of, last_of}
use Rattle.gic_history.specs.Laws.{IsFreshHistory, WorkedHistoriesAreFresh, EachClauseRefuses, WhatIsNotAllowed, EachLpiHasItsPlace, CommandsExcuseOnceRead, IsRefusedAtEnd, LoneRaisesAreRight}
use Rattle.gic_history.specs.Worked.{worked_guest, message, wire_up, reach, leave, reads, ends, writes, takes_over, ends_and_leaves, leaves_and_ends, served, preempted, withdrawn, migrated, refilled, take, begins_message, ends_message, repeated, returned, in_flight, begins_clear, clears, awaited, overlooked, outdated, unended, kept, pending_irq, queue_guest, pends_lpi, begins_write, gets_its, fetches, clears_lpi, stores_clear, unbegun, unread, fetched, signal_guest, maps_event, forgets_other, raises_alone, ends_alone}
use Rattle.gic_history.proofs.CallLemmas.{call_ended, call_signalled, hands_one, goes_on}

-- where the worked histories begin
abbrev from : Course
from = opening_course worked_guest

-- what is found of the guest as it opens
abbrev opened : View
opened = view_at (opening worked_guest)

served_is : IsHistory worked_guest served
unfolding least_in with_level without_level
served_is =
    let one : GoesOn from (message 40) = ((omega arith, refl), (record { within = refl; can = refl; allowed = refl; hands = refl }, (call_ended worked_guest.shape 2 _ None refl (λ id. refl) (record { view = opened; maps = refl; made = record { events_are = refl; found = hands_one opened (Raise (Spi 40)) Nothing refl; reads = All-nil _ }; answers = refl }), tt))) in
    let two : GoesOn from (message 40 ++ reach 0 40) = goes_on from (message 40) (reach 0 40) one (((omega arith, refl), (record { within = refl; can = (refl, omega arith); allowed = refl; hands = refl }, (call_ended worked_guest.shape 0 _ None refl (λ id. refl) (refl, refl), tt)))) in
    let three : GoesOn from (message 40 ++ reach 0 40 ++ reads 0 Iar1 40) = goes_on from (message 40 ++ reach 0 40) (reads 0 Iar1 40) two (((omega arith, refl), (record { within = refl; can = (omega arith, refl); allowed = refl; hands = refl }, (call_ended worked_guest.shape 0 _ (Some 40) refl (λ id. refl) (record { view = opened; made = record { events_are = refl; found = hands_one opened (Cpu 0 Iar1 None) (Answer (Some 40)) ((Some 40), refl); reads = All-nil _ }; answers = (0, omega arith, refl) }), tt)))) in
    let four : GoesOn from (message 40 ++ reach 0 40 ++ reads 0 Iar1 40 ++ ends 0 40) = goes_on from (message 40 ++ reach 0 40 ++ reads 0 Iar1 40) (ends 0 40) three (((omega arith, refl), (record { within = refl; can = (omega arith, refl); allowed = refl; hands = refl }, (call_ended worked_guest.shape 0 _ None refl (λ id. refl) (record { view = opened; made = record { events_are = refl; found = hands_one opened (Cpu 0 Eoir1 (Some 40)) (Answer None) (None, refl); reads = All-nil _ }; answers = (0, omega arith, refl) }), tt)))) in
    let five : GoesOn from (message 40 ++ reach 0 40 ++ reads 0 Iar1 40 ++ ends 0 40 ++ reads 0 Iar1 1023) = goes_on from (message 40 ++ reach 0 40 ++ reads 0 Iar1 40 ++ ends 0 40) (reads 0 Iar1 1023) four (((omega arith, refl), (record { within = refl; can = (omega arith, refl); allowed = refl; hands = refl }, (call_ended worked_guest.shape 0 _ (Some 1023) refl (λ id. refl) (record { view = opened; made = record { events_are = refl; found = hands_one opened (Cpu 0 Iar1 None) (Answer (Some 1023)) ((Some 1023), refl); reads = All-nil _ }; answers = (0, omega arith, refl) }), tt)))) in
    goes_on from (message 40 ++ reach 0 40 ++ reads 0 Iar1 40 ++ ends 0 40 ++ reads 0 Iar1 1023) (leave 0 40) five (((omega arith, refl), (record { within = refl; can = (refl, omega arith); allowed = refl; hands = refl }, (call_ended worked_guest.shape 0 _ None refl (λ id. refl) (refl, refl), tt))))

preempted_is : IsHistory worked_guest preempted
unfolding least_in with_level without_level
preempted_is =
    let one : GoesOn from (message 40) = ((omega arith, refl), (record { within = refl; can = refl; allowed = refl; hands = refl }, (call_ended worked_guest.shape 2 _ None refl (λ id. refl) (record { view = opened; maps = refl; made = record { events_are = refl; found = hands_one opened (Raise (Spi 40)) Nothing refl; reads = All-nil _ }; answers = refl }), tt))) in
    let two : GoesOn from (message 40 ++ reach 0 40) = goes_on from (message 40) (reach 0 40) one (((omega arith, refl), (record { within = refl; can = (refl, omega arith); allowed = refl; hands = refl }, (call_ended worked_guest.shape 0 _ None refl (λ id. refl) (refl, refl), tt)))) in
    let three : GoesOn from (message 40 ++ reach 0 40 ++ reads 0 Iar1 40) = goes_on from (message 40 ++ reach 0 40) (reads 0 Iar1 40) two (((omega arith, refl), (record { within = refl; can = (omega arith, refl); allowed = refl; hands = refl }, (call_ended worked_guest.shape 0 _ (Some 40) refl (λ id. refl) (record { view = opened; made = record { events_are = refl; found = hands_one opened (Cpu 0 Iar1 None) (Answer (Some 40)) ((Some 40), refl); reads = All-nil _ }; answers = (0, omega arith, refl) }), tt)))) in
    let four : GoesOn from (message 40 ++ reach 0 40 ++ reads 0 Iar1 40 ++ message 42) = goes_on from (message 40 ++ reach 0 40 ++ reads 0 Iar1 40) (message 42) three (((omega arith, refl), (record { within = refl; can = refl; allowed = refl; hands = refl }, (call_ended worked_guest.shape 2 _ None refl (λ id. refl) (record { view = opened; maps = refl; made = record { events_are = refl; found = hands_one opened (Raise (Spi 42)) Nothing refl; reads = All-nil _ }; answers = refl }), tt)))) in
    let five : GoesOn from (message 40 ++ reach 0 40 ++ reads 0 Iar1 40 ++ message 42 ++ takes_over) = goes_on from (message 40 ++ reach 0 40 ++ reads 0 Iar1 40 ++ message 42) (takes_over) four (((omega arith, refl), (record { within = refl; can = (refl, omega arith); allowed = refl; hands = refl }, (record { within = refl; can = (refl, omega arith); allowed = refl; hands = refl }, (record { within = refl; can = (omega arith, refl); allowed = refl; hands = refl }, (call_ended worked_guest.shape 0 _ (Some 42) refl (λ id. refl) (record { view = opened; made = record { events_are = refl; found = hands_one opened (Cpu 0 Iar1 None) (Answer (Some 42)) ((Some 42), refl); reads = All-nil _ }; answers = (2, omega arith, refl) }), tt)))))) in
    let six : GoesOn from (message 40 ++ reach 0 40 ++ reads 0 Iar1 40 ++ message 42 ++ takes_over ++ reads 0 Rpr 0x20) = goes_on from (message 40 ++ reach 0 40 ++ reads 0 Iar1 40 ++ message 42 ++ takes_over) (reads 0 Rpr 0x20) five (((omega arith, refl), (record { within = refl; can = (omega arith, refl); allowed = refl; hands = refl }, (call_ended worked_guest.shape 0 _ (Some 0x20) refl (λ id. refl) (record { view = opened; made = record { events_are = refl; found = hands_one opened (Cpu 0 Rpr None) (Answer (Some 0x20)) ((Some 0x20), refl); reads = All-nil _ }; answers = (0, omega arith, refl) }), tt)))) in
    let seven : GoesOn from (message 40 ++ reach 0 40 ++ reads 0 Iar1 40 ++ message 42 ++ takes_over ++ reads 0 Rpr 0x20 ++ ends 0 42) = goes_on from (message 40 ++ reach 0 40 ++ reads 0 Iar1 40 ++ message 42 ++ takes_over ++ reads 0 Rpr 0x20) (ends 0 42) six (((omega arith, refl), (record { within = refl; can = (omega arith, refl); allowed = refl; hands = refl }, (call_ended worked_guest.shape 0 _ None refl (λ id. refl) (record { view = opened; made = record { events_are = refl; found = hands_one opened (Cpu 0 Eoir1 (Some 42)) (Answer None) (None, refl); reads = All-nil _ }; answers = (0, omega arith, refl) }), tt)))) in
    goes_on from (message 40 ++ reach 0 40 ++ reads 0 Iar1 40 ++ message 42 ++ takes_over ++ reads 0 Rpr 0x20 ++ ends 0 42) (reads 0 Rpr 0xa0) seven (((omega arith, refl), (record { within = refl; can = (omega arith, refl); allowed = refl; hands = refl }, (call_ended worked_guest.shape 0 _ (Some 0xa0) refl (λ id. refl) (record { view = opened; made = record { events_are = refl; found = hands_one opened (Cpu 0 Rpr None) (Answer (Some 0xa0)) ((Some 0xa0), refl); reads = All-nil _ }; answers = (0, omega arith, refl) }), tt))))

withdrawn_is : IsHistory worked_guest withdrawn
unfolding least_in with_level without_level
withdrawn_is =
    let one : GoesOn from (message 40) = ((omega arith, refl), (record { within = refl; can = refl; allowed = refl; hands = refl }, (call_ended worked_guest.shape 2 _ None refl (λ id. refl) (record { view = opened; maps = refl; made = record { events_are = refl; found = hands_one opened (Raise (Spi 40)) Nothing refl; reads = All-nil _ }; answers = refl }), tt))) in
    let two : GoesOn from (message 40 ++ reach 0 40) = goes_on from (message 40) (reach 0 40) one (((omega arith, refl), (record { within = refl; can = (refl, omega arith); allowed = refl; hands = refl }, (call_ended worked_guest.shape 0 _ None refl (λ id. refl) (refl, refl), tt)))) in
    let three : GoesOn from (message 40 ++ reach 0 40 ++ leave 0 40) = goes_on from (message 40 ++ reach 0 40) (leave 0 40) two (((omega arith, refl), (record { within = refl; can = (refl, omega arith); allowed = refl; hands = refl }, (call_ended worked_guest.shape 0 _ None refl (λ id. refl) (refl, refl), tt)))) in
    let four : GoesOn from (message 40 ++ reach 0 40 ++ leave 0 40 ++ writes 0x48 4 40 (Register ClearPending 1)) = goes_on from (message 40 ++ reach 0 40 ++ leave 0 40) (writes 0x48 4 40 (Register ClearPending 1)) three (((omega arith, refl), (record { within = refl; can = record { there = refl; fits = refl }; allowed = refl; hands = refl }, (call_ended worked_guest.shape 1 _ None refl (λ id. refl) (record { view = view_at (last_of worked_guest (message 40 ++ reach 0 40 ++ leave 0 40)); targets = refl; made = record { events_are = refl; found = hands_one (view_at (last_of worked_guest (message 40 ++ reach 0 40 ++ leave 0 40))) (Touch (Spi 40) (Register ClearPending 1)) (Record pending_irq) refl; reads = All-nil _ }; answers = refl }), tt)))) in
    goes_on from (message 40 ++ reach 0 40 ++ leave 0 40 ++ writes 0x48 4 40 (Register ClearPending 1)) (reads 0 Iar1 1023) four (((omega arith, refl), (record { within = refl; can = (omega arith, refl); allowed = refl; hands = refl }, (call_ended worked_guest.shape 0 _ (Some 1023) refl (λ id. refl) (record { view = opened; made = record { events_are = refl; found = hands_one opened (Cpu 0 Iar1 None) (Answer (Some 1023)) ((Some 1023), refl); reads = All-nil _ }; answers = (0, omega arith, refl) }), tt))))

migrated_is : IsHistory worked_guest migrated
unfolding least_in with_level without_level
migrated_is =
    let one : GoesOn from (message 40) = ((omega arith, refl), (record { within = refl; can = refl; allowed = refl; hands = refl }, (call_ended worked_guest.shape 2 _ None refl (λ id. refl) (record { view = opened; maps = refl; made = record { events_are = refl; found = hands_one opened (Raise (Spi 40)) Nothing refl; reads = All-nil _ }; answers = refl }), tt))) in
    let two : GoesOn from (message 40 ++ writes 0x6140 8 1 (Register Routing 1)) = goes_on from (message 40) (writes 0x6140 8 1 (Register Routing 1)) one (((omega arith, refl), (record { within = refl; can = record { there = refl; fits = refl }; allowed = refl; hands = refl }, (call_ended worked_guest.shape 1 _ None refl (λ id. refl) (record { view = view_at (last_of worked_guest (message 40)); targets = refl; made = record { events_are = refl; found = hands_one (view_at (last_of worked_guest (message 40))) (Touch (Spi 40) (Register Routing 1)) (Record pending_irq) refl; reads = All-nil _ }; answers = refl }), tt)))) in
    let three : GoesOn from (message 40 ++ writes 0x6140 8 1 (Register Routing 1) ++ reads 0 Iar1 1023) = goes_on from (message 40 ++ writes 0x6140 8 1 (Register Routing 1)) (reads 0 Iar1 1023) two (((omega arith, refl), (record { within = refl; can = (omega arith, refl); allowed = refl; hands = refl }, (call_ended worked_guest.shape 0 _ (Some 1023) refl (λ id. refl) (record { view = opened; made = record { events_are = refl; found = hands_one opened (Cpu 0 Iar1 None) (Answer (Some 1023)) ((Some 1023), refl); reads = All-nil _ }; answers = (0, omega arith, refl) }), tt)))) in
    let four : GoesOn from (message 40 ++ writes 0x6140 8 1 (Register Routing 1) ++ reads 0 Iar1 1023 ++ reach 1 40) = goes_on from (message 40 ++ writes 0x6140 8 1 (Register Routing 1) ++ reads 0 Iar1 1023) (reach 1 40) three (((omega arith, refl), (record { within = refl; can = (refl, omega arith); allowed = refl; hands = refl }, (call_ended worked_guest.shape 1 _ None refl (λ id. refl) (refl, refl), tt)))) in
    goes_on from (message 40 ++ writes 0x6140 8 1 (Register Routing 1) ++ reads 0 Iar1 1023 ++ reach 1 40) (reads 1 Iar1 40) four (((omega arith, refl), (record { within = refl; can = (omega arith, refl); allowed = refl; hands = refl }, (call_ended worked_guest.shape 1 _ (Some 40) refl (λ id. refl) (record { view = opened; made = record { events_are = refl; found = hands_one opened (Cpu 1 Iar1 None) (Answer (Some 40)) ((Some 40), refl); reads = All-nil _ }; answers = (0, omega arith, refl) }), tt))))

refilled_is : IsHistory worked_guest refilled
unfolding least_in with_level without_level
refilled_is =
    let one : GoesOn from (wire_up 41) = ((omega arith, refl), (record { within = refl; can = refl; allowed = refl; hands = refl }, (call_ended worked_guest.shape 2 _ None refl (λ id. refl) (record { view = opened; maps = refl; made = record { events_are = refl; found = hands_one opened (Up (Spi 41)) Nothing refl; reads = All-nil _ }; answers = refl }), tt))) in
    let two : GoesOn from (wire_up 41 ++ reach 0 41) = goes_on from (wire_up 41) (reach 0 41) one (((omega arith, refl), (record { within = refl; can = (refl, omega arith); allowed = refl; hands = refl }, (call_ended worked_guest.shape 0 _ None refl (λ id. refl) (refl, refl), tt)))) in
    let three : GoesOn from (wire_up 41 ++ reach 0 41 ++ reads 0 Iar1 41) = goes_on from (wire_up 41 ++ reach 0 41) (reads 0 Iar1 41) two (((omega arith, refl), (record { within = refl; can = (omega arith, refl); allowed = refl; hands = refl }, (call_ended worked_guest.shape 0 _ (Some 41) refl (λ id. refl) (record { view = opened; made = record { events_are = refl; found = hands_one opened (Cpu 0 Iar1 None) (Answer (Some 41)) ((Some 41), refl); reads = All-nil _ }; answers = (0, omega arith, refl) }), tt)))) in
    let four : GoesOn from (wire_up 41 ++ reach 0 41 ++ reads 0 Iar1 41 ++ ends_and_leaves) = goes_on from (wire_up 41 ++ reach 0 41 ++ reads 0 Iar1 41) (ends_and_leaves) three (((omega arith, refl), (record { within = refl; can = (omega arith, refl); allowed = refl; hands = refl }, (record { within = refl; can = (refl, omega arith); allowed = refl; hands = refl }, (call_ended worked_guest.shape 0 _ None refl (λ id. refl) (record { view = opened; made = record { events_are = refl; found = hands_one opened (Cpu 0 Eoir1 (Some 41)) (Answer None) (None, refl); reads = All-nil _ }; answers = (0, omega arith, refl) }), tt))))) in
    let five : GoesOn from (wire_up 41 ++ reach 0 41 ++ reads 0 Iar1 41 ++ ends_and_leaves ++ reach 0 41) = goes_on from (wire_up 41 ++ reach 0 41 ++ reads 0 Iar1 41 ++ ends_and_leaves) (reach 0 41) four (((omega arith, refl), (record { within = refl; can = (refl, omega arith); allowed = refl; hands = refl }, (call_ended worked_guest.shape 0 _ None refl (λ id. refl) (refl, refl), tt)))) in
    goes_on from (wire_up 41 ++ reach 0 41 ++ reads 0 Iar1 41 ++ ends_and_leaves ++ reach 0 41) (reads 0 Iar1 41) five (((omega arith, refl), (record { within = refl; can = (omega arith, refl); allowed = refl; hands = refl }, (call_ended worked_guest.shape 0 _ (Some 41) refl (λ id. refl) (record { view = opened; made = record { events_are = refl; found = hands_one opened (Cpu 0 Iar1 None) (Answer (Some 41)) ((Some 41), refl); reads = All-nil _ }; answers = (0, omega arith, refl) }), tt))))

overlooked_is : IsHistory worked_guest overlooked
unfolding least_in with_level without_level
overlooked_is =
    let one : GoesOn from (message 40) = ((omega arith, refl), (record { within = refl; can = refl; allowed = refl; hands = refl }, (call_ended worked_guest.shape 2 _ None refl (λ id. refl) (record { view = opened; maps = refl; made = record { events_are = refl; found = hands_one opened (Raise (Spi 40)) Nothing refl; reads = All-nil _ }; answers = refl }), tt))) in
    goes_on from (message 40) (reads 0 Iar1 1023) one (((omega arith, refl), (record { within = refl; can = (omega arith, refl); allowed = refl; hands = refl }, (call_ended worked_guest.shape 0 _ (Some 1023) refl (λ id. refl) (record { view = opened; made = record { events_are = refl; found = hands_one opened (Cpu 0 Iar1 None) (Answer (Some 1023)) ((Some 1023), refl); reads = All-nil _ }; answers = (0, omega arith, refl) }), tt))))

outdated_is : IsHistory worked_guest outdated
unfolding least_in with_level without_level
outdated_is =
    let one : GoesOn from (message 40) = ((omega arith, refl), (record { within = refl; can = refl; allowed = refl; hands = refl }, (call_ended worked_guest.shape 2 _ None refl (λ id. refl) (record { view = opened; maps = refl; made = record { events_are = refl; found = hands_one opened (Raise (Spi 40)) Nothing refl; reads = All-nil _ }; answers = refl }), tt))) in
    let two : GoesOn from (message 40 ++ reach 0 40) = goes_on from (message 40) (reach 0 40) one (((omega arith, refl), (record { within = refl; can = (refl, omega arith); allowed = refl; hands = refl }, (call_ended worked_guest.shape 0 _ None refl (λ id. refl) (refl, refl), tt)))) in
    let three : GoesOn from (message 40 ++ reach 0 40 ++ message 40) = goes_on from (message 40 ++ reach 0 40) (message 40) two (((omega arith, refl), (record { within = refl; can = refl; allowed = refl; hands = refl }, (call_ended worked_guest.shape 2 _ None refl (λ id. refl) (record { view = opened; maps = refl; made = record { events_are = refl; found = hands_one opened (Raise (Spi 40)) Nothing refl; reads = All-nil _ }; answers = refl }), tt)))) in
    goes_on from (message 40 ++ reach 0 40 ++ message 40) (reads 0 Rpr 0xff) three (((omega arith, refl), (record { within = refl; can = (omega arith, refl); allowed = refl; hands = refl }, (call_ended worked_guest.shape 0 _ (Some 0xff) refl (λ id. refl) (record { view = opened; made = record { events_are = refl; found = hands_one opened (Cpu 0 Rpr None) (Answer (Some 0xff)) ((Some 0xff), refl); reads = All-nil _ }; answers = (0, omega arith, refl) }), tt))))

unended_is : IsHistory worked_guest unended
unfolding least_in with_level without_level
unended_is =
    let one : GoesOn from (message 40) = ((omega arith, refl), (record { within = refl; can = refl; allowed = refl; hands = refl }, (call_ended worked_guest.shape 2 _ None refl (λ id. refl) (record { view = opened; maps = refl; made = record { events_are = refl; found = hands_one opened (Raise (Spi 40)) Nothing refl; reads = All-nil _ }; answers = refl }), tt))) in
    let two : GoesOn from (message 40 ++ reach 0 40) = goes_on from (message 40) (reach 0 40) one (((omega arith, refl), (record { within = refl; can = (refl, omega arith); allowed = refl; hands = refl }, (call_ended worked_guest.shape 0 _ None refl (λ id. refl) (refl, refl), tt)))) in
    let three : GoesOn from (message 40 ++ reach 0 40 ++ reads 0 Iar1 40) = goes_on from (message 40 ++ reach 0 40) (reads 0 Iar1 40) two (((omega arith, refl), (record { within = refl; can = (omega arith, refl); allowed = refl; hands = refl }, (call_ended worked_guest.shape 0 _ (Some 40) refl (λ id. refl) (record { view = opened; made = record { events_are = refl; found = hands_one opened (Cpu 0 Iar1 None) (Answer (Some 40)) ((Some 40), refl); reads = All-nil _ }; answers = (0, omega arith, refl) }), tt)))) in
    goes_on from (message 40 ++ reach 0 40 ++ reads 0 Iar1 40) leaves_and_ends three ((omega arith, refl), (record { within = refl; can = (refl, omega arith); allowed = refl; hands = refl }, (record { within = refl; can = (omega arith, refl); allowed = refl; hands = refl }, (call_ended worked_guest.shape 0 _ None refl (λ id. refl) (record { view = opened; made = record { events_are = refl; found = hands_one opened (Cpu 0 Eoir1 (Some 40)) (Answer None) (None, refl); reads = All-nil _ }; answers = (1, omega arith, refl) }), tt))))

kept_is : IsHistory worked_guest kept
unfolding least_in with_level without_level
kept_is =
    let one : GoesOn from (wire_up 41) = ((omega arith, refl), (record { within = refl; can = refl; allowed = refl; hands = refl }, (call_ended worked_guest.shape 2 _ None refl (λ id. refl) (record { view = opened; maps = refl; made = record { events_are = refl; found = hands_one opened (Up (Spi 41)) Nothing refl; reads = All-nil _ }; answers = refl }), tt))) in
    let two : GoesOn from (wire_up 41 ++ reach 0 41) = goes_on from (wire_up 41) (reach 0 41) one (((omega arith, refl), (record { within = refl; can = (refl, omega arith); allowed = refl; hands = refl }, (call_ended worked_guest.shape 0 _ None refl (λ id. refl) (refl, refl), tt)))) in
    let three : GoesOn from (wire_up 41 ++ reach 0 41 ++ reads 0 Iar1 41) = goes_on from (wire_up 41 ++ reach 0 41) (reads 0 Iar1 41) two (((omega arith, refl), (record { within = refl; can = (omega arith, refl); allowed = refl; hands = refl }, (call_ended worked_guest.shape 0 _ (Some 41) refl (λ id. refl) (record { view = opened; made = record { events_are = refl; found = hands_one opened (Cpu 0 Iar1 None) (Answer (Some 41)) ((Some 41), refl); reads = All-nil _ }; answers = (0, omega arith, refl) }), tt)))) in
    goes_on from (wire_up 41 ++ reach 0 41 ++ reads 0 Iar1 41) (ends 0 41) three (((omega arith, refl), (record { within = refl; can = (omega arith, refl); allowed = refl; hands = refl }, (call_ended worked_guest.shape 0 _ None refl (λ id. refl) (record { view = opened; made = record { events_are = refl; found = hands_one opened (Cpu 0 Eoir1 (Some 41)) (Answer None) (None, refl); reads = All-nil _ }; answers = (0, omega arith, refl) }), tt))))

repeated_is : IsHistory worked_guest repeated
unfolding least_in with_level without_level
repeated_is =
    let one : GoesOn from (message 40) = ((omega arith, refl), (record { within = refl; can = refl; allowed = refl; hands = refl }, (call_ended worked_guest.shape 2 _ None refl (λ id. refl) (record { view = opened; maps = refl; made = record { events_are = refl; found = hands_one opened (Raise (Spi 40)) Nothing refl; reads = All-nil _ }; answers = refl }), tt))) in
    let two : GoesOn from (message 40 ++ reach 0 40) = goes_on from (message 40) (reach 0 40) one (((omega arith, refl), (record { within = refl; can = (refl, omega arith); allowed = refl; hands = refl }, (call_ended worked_guest.shape 0 _ None refl (λ id. refl) (refl, refl), tt)))) in
    let three : GoesOn from (message 40 ++ reach 0 40 ++ reads 0 Iar1 40) = goes_on from (message 40 ++ reach 0 40) (reads 0 Iar1 40) two (((omega arith, refl), (record { within = refl; can = (omega arith, refl); allowed = refl; hands = refl }, (call_ended worked_guest.shape 0 _ (Some 40) refl (λ id. refl) (record { view = opened; made = record { events_are = refl; found = hands_one opened (Cpu 0 Iar1 None) (Answer (Some 40)) ((Some 40), refl); reads = All-nil _ }; answers = (0, omega arith, refl) }), tt)))) in
    let four : GoesOn from (message 40 ++ reach 0 40 ++ reads 0 Iar1 40 ++ message 40) = goes_on from (message 40 ++ reach 0 40 ++ reads 0 Iar1 40) (message 40) three (((omega arith, refl), (record { within = refl; can = refl; allowed = refl; hands = refl }, (call_ended worked_guest.shape 2 _ None refl (λ id. refl) (record { view = opened; maps = refl; made = record { events_are = refl; found = hands_one opened (Raise (Spi 40)) Nothing refl; reads = All-nil _ }; answers = refl }), tt)))) in
    let five : GoesOn from (message 40 ++ reach 0 40 ++ reads 0 Iar1 40 ++ message 40 ++ leave 0 40) = goes_on from (message 40 ++ reach 0 40 ++ reads 0 Iar1 40 ++ message 40) (leave 0 40) four (((omega arith, refl), (record { within = refl; can = (refl, omega arith); allowed = refl; hands = refl }, (call_ended worked_guest.shape 0 _ None refl (λ id. refl) (refl, refl), tt)))) in
    let six : GoesOn from (message 40 ++ reach 0 40 ++ reads 0 Iar1 40 ++ message 40 ++ leave 0 40 ++ reach 0 40) = goes_on from (message 40 ++ reach 0 40 ++ reads 0 Iar1 40 ++ message 40 ++ leave 0 40) (reach 0 40) five (((omega arith, refl), (record { within = refl; can = (refl, omega arith); allowed = refl; hands = refl }, (call_ended worked_guest.shape 0 _ None refl (λ id. refl) (refl, refl), tt)))) in
    let seven : GoesOn from (message 40 ++ reach 0 40 ++ reads 0 Iar1 40 ++ message 40 ++ leave 0 40 ++ reach 0 40 ++ take) = goes_on from (message 40 ++ reach 0 40 ++ reads 0 Iar1 40 ++ message 40 ++ leave 0 40 ++ reach 0 40) (take) six (((omega arith, refl), (record { within = refl; can = (refl, omega arith); allowed = refl; hands = refl }, (call_ended worked_guest.shape 0 _ None refl (λ id. refl) (refl, refl), tt)))) in
    let eight : GoesOn from (message 40 ++ reach 0 40 ++ reads 0 Iar1 40 ++ message 40 ++ leave 0 40 ++ reach 0 40 ++ take ++ ends 0 40) = goes_on from (message 40 ++ reach 0 40 ++ reads 0 Iar1 40 ++ message 40 ++ leave 0 40 ++ reach 0 40 ++ take) (ends 0 40) seven (((omega arith, refl), (record { within = refl; can = (omega arith, refl); allowed = refl; hands = refl }, (call_ended worked_guest.shape 0 _ None refl (λ id. refl) (record { view = opened; made = record { events_are = refl; found = hands_one opened (Cpu 0 Eoir1 (Some 40)) (Answer None) (None, refl); reads = All-nil _ }; answers = (0, omega arith, refl) }), tt)))) in
    let nine : GoesOn from (message 40 ++ reach 0 40 ++ reads 0 Iar1 40 ++ message 40 ++ leave 0 40 ++ reach 0 40 ++ take ++ ends 0 40 ++ reads 0 Iar1 40) = goes_on from (message 40 ++ reach 0 40 ++ reads 0 Iar1 40 ++ message 40 ++ leave 0 40 ++ reach 0 40 ++ take ++ ends 0 40) (reads 0 Iar1 40) eight (((omega arith, refl), (record { within = refl; can = (omega arith, refl); allowed = refl; hands = refl }, (call_ended worked_guest.shape 0 _ (Some 40) refl (λ id. refl) (record { view = opened; made = record { events_are = refl; found = hands_one opened (Cpu 0 Iar1 None) (Answer (Some 40)) ((Some 40), refl); reads = All-nil _ }; answers = (0, omega arith, refl) }), tt)))) in
    let ten : GoesOn from (message 40 ++ reach 0 40 ++ reads 0 Iar1 40 ++ message 40 ++ leave 0 40 ++ reach 0 40 ++ take ++ ends 0 40 ++ reads 0 Iar1 40 ++ ends 0 40) = goes_on from (message 40 ++ reach 0 40 ++ reads 0 Iar1 40 ++ message 40 ++ leave 0 40 ++ reach 0 40 ++ take ++ ends 0 40 ++ reads 0 Iar1 40) (ends 0 40) nine (((omega arith, refl), (record { within = refl; can = (omega arith, refl); allowed = refl; hands = refl }, (call_ended worked_guest.shape 0 _ None refl (λ id. refl) (record { view = opened; made = record { events_are = refl; found = hands_one opened (Cpu 0 Eoir1 (Some 40)) (Answer None) (None, refl); reads = All-nil _ }; answers = (0, omega arith, refl) }), tt)))) in
    let eleven : GoesOn from (message 40 ++ reach 0 40 ++ reads 0 Iar1 40 ++ message 40 ++ leave 0 40 ++ reach 0 40 ++ take ++ ends 0 40 ++ reads 0 Iar1 40 ++ ends 0 40 ++ leave 0 40) = goes_on from (message 40 ++ reach 0 40 ++ reads 0 Iar1 40 ++ message 40 ++ leave 0 40 ++ reach 0 40 ++ take ++ ends 0 40 ++ reads 0 Iar1 40 ++ ends 0 40) (leave 0 40) ten (((omega arith, refl), (record { within = refl; can = (refl, omega arith); allowed = refl; hands = refl }, (call_ended worked_guest.shape 0 _ None refl (λ id. refl) (refl, refl), tt)))) in
    goes_on from (message 40 ++ reach 0 40 ++ reads 0 Iar1 40 ++ message 40 ++ leave 0 40 ++ reach 0 40 ++ take ++ ends 0 40 ++ reads 0 Iar1 40 ++ ends 0 40 ++ leave 0 40) (reads 0 Iar1 1023) eleven (((omega arith, refl), (record { within = refl; can = (omega arith, refl); allowed = refl; hands = refl }, (call_ended worked_guest.shape 0 _ (Some 1023) refl (λ id. refl) (record { view = opened; made = record { events_are = refl; found = hands_one opened (Cpu 0 Iar1 None) (Answer (Some 1023)) ((Some 1023), refl); reads = All-nil _ }; answers = (0, omega arith, refl) }), tt))))

returned_is : IsHistory worked_guest returned
unfolding least_in with_level without_level
returned_is =
    let one : GoesOn from (message 40) = ((omega arith, refl), (record { within = refl; can = refl; allowed = refl; hands = refl }, (call_ended worked_guest.shape 2 _ None refl (λ id. refl) (record { view = opened; maps = refl; made = record { events_are = refl; found = hands_one opened (Raise (Spi 40)) Nothing refl; reads = All-nil _ }; answers = refl }), tt))) in
    let two : GoesOn from (message 40 ++ reach 0 40) = goes_on from (message 40) (reach 0 40) one (((omega arith, refl), (record { within = refl; can = (refl, omega arith); allowed = refl; hands = refl }, (call_ended worked_guest.shape 0 _ None refl (λ id. refl) (refl, refl), tt)))) in
    let three : GoesOn from (message 40 ++ reach 0 40 ++ leave 0 40) = goes_on from (message 40 ++ reach 0 40) (leave 0 40) two (((omega arith, refl), (record { within = refl; can = (refl, omega arith); allowed = refl; hands = refl }, (call_ended worked_guest.shape 0 _ None refl (λ id. refl) (refl, refl), tt)))) in
    let four : GoesOn from (message 40 ++ reach 0 40 ++ leave 0 40 ++ reach 0 40) = goes_on from (message 40 ++ reach 0 40 ++ leave 0 40) (reach 0 40) three (((omega arith, refl), (record { within = refl; can = (refl, omega arith); allowed = refl; hands = refl }, (call_ended worked_guest.shape 0 _ None refl (λ id. refl) (refl, refl), tt)))) in
    goes_on from (message 40 ++ reach 0 40 ++ leave 0 40 ++ reach 0 40) (reads 0 Iar1 40) four (((omega arith, refl), (record { within = refl; can = (omega arith, refl); allowed = refl; hands = refl }, (call_ended worked_guest.shape 0 _ (Some 40) refl (λ id. refl) (record { view = opened; made = record { events_are = refl; found = hands_one opened (Cpu 0 Iar1 None) (Answer (Some 40)) ((Some 40), refl); reads = All-nil _ }; answers = (0, omega arith, refl) }), tt))))

in_flight_is : IsHistory worked_guest in_flight
unfolding least_in with_level without_level
in_flight_is =
    let one : GoesOn from (begins_message) = ((omega arith, refl), (record { within = refl; can = refl; allowed = refl; hands = refl }, tt)) in
    let two : GoesOn from (begins_message ++ reads 0 Iar1 1023) = goes_on from (begins_message) (reads 0 Iar1 1023) one (((omega arith, refl), (record { within = refl; can = (omega arith, refl); allowed = refl; hands = refl }, (call_ended worked_guest.shape 0 _ (Some 1023) refl (λ id. refl) (record { view = opened; made = record { events_are = refl; found = hands_one opened (Cpu 0 Iar1 None) (Answer (Some 1023)) ((Some 1023), refl); reads = All-nil _ }; answers = (0, omega arith, refl) }), tt)))) in
    let three : GoesOn from (begins_message ++ reads 0 Iar1 1023 ++ ends_message) = goes_on from (begins_message ++ reads 0 Iar1 1023) (ends_message) two ((call_ended worked_guest.shape 2 _ None refl (λ id. refl) (record { view = opened; maps = refl; made = record { events_are = refl; found = hands_one opened (Raise (Spi 40)) Nothing refl; reads = All-nil _ }; answers = refl }), tt)) in
    let four : GoesOn from (begins_message ++ reads 0 Iar1 1023 ++ ends_message ++ reach 0 40) = goes_on from (begins_message ++ reads 0 Iar1 1023 ++ ends_message) (reach 0 40) three (((omega arith, refl), (record { within = refl; can = (refl, omega arith); allowed = refl; hands = refl }, (call_ended worked_guest.shape 0 _ None refl (λ id. refl) (refl, refl), tt)))) in
    goes_on from (begins_message ++ reads 0 Iar1 1023 ++ ends_message ++ reach 0 40) (reads 0 Iar1 40) four (((omega arith, refl), (record { within = refl; can = (omega arith, refl); allowed = refl; hands = refl }, (call_ended worked_guest.shape 0 _ (Some 40) refl (λ id. refl) (record { view = opened; made = record { events_are = refl; found = hands_one opened (Cpu 0 Iar1 None) (Answer (Some 40)) ((Some 40), refl); reads = All-nil _ }; answers = (0, omega arith, refl) }), tt))))

awaited_is : IsHistory worked_guest awaited
unfolding least_in with_level without_level
awaited_is =
    let pending : View = view_at (last_of worked_guest (message 40)) in
    let one : GoesOn from (message 40) = ((omega arith, refl), (record { within = refl; can = refl; allowed = refl; hands = refl }, (call_ended worked_guest.shape 2 _ None refl (λ id. refl) (record { view = opened; maps = refl; made = record { events_are = refl; found = hands_one opened (Raise (Spi 40)) Nothing refl; reads = All-nil _ }; answers = refl }), tt))) in
    let two : GoesOn from (message 40 ++ begins_clear) = goes_on from (message 40) (begins_clear) one ((omega arith, refl), tt) in
    let three : GoesOn from (message 40 ++ begins_clear ++ reads 0 Iar1 1023) = goes_on from (message 40 ++ begins_clear) (reads 0 Iar1 1023) two (((omega arith, refl), (record { within = refl; can = (omega arith, refl); allowed = refl; hands = refl }, (call_ended worked_guest.shape 0 _ (Some 1023) refl (λ id. refl) (record { view = opened; made = record { events_are = refl; found = hands_one opened (Cpu 0 Iar1 None) (Answer (Some 1023)) ((Some 1023), refl); reads = All-nil _ }; answers = (0, omega arith, refl) }), tt)))) in
    goes_on from (message 40 ++ begins_clear ++ reads 0 Iar1 1023) clears three ((record { within = refl; can = record { there = refl; fits = refl }; allowed = refl; hands = refl }, (call_ended worked_guest.shape 1 _ None refl (λ id. refl) (record { view = pending; targets = refl; made = record { events_are = refl; found = hands_one pending (Touch (Spi 40) (Register ClearPending 1)) (Record pending_irq) refl; reads = All-nil _ }; answers = refl }), tt)))

served_fresh : IsFreshHistory served
unfolding least_in with_level without_level
served_fresh = record { history = served_is; fresh = record { acknowledge = refl; interface = refl; end = refl; deactivation = refl } }

preempted_fresh : IsFreshHistory preempted
unfolding least_in with_level without_level
preempted_fresh = record { history = preempted_is; fresh = record { acknowledge = refl; interface = refl; end = refl; deactivation = refl } }

withdrawn_fresh : IsFreshHistory withdrawn
unfolding least_in with_level without_level
withdrawn_fresh = record { history = withdrawn_is; fresh = record { acknowledge = refl; interface = refl; end = refl; deactivation = refl } }

migrated_fresh : IsFreshHistory migrated
unfolding least_in with_level without_level
migrated_fresh = record { history = migrated_is; fresh = record { acknowledge = refl; interface = refl; end = refl; deactivation = refl } }

refilled_fresh : IsFreshHistory refilled
unfolding least_in with_level without_level
refilled_fresh = record { history = refilled_is; fresh = record { acknowledge = refl; interface = refl; end = refl; deactivation = refl } }

repeated_fresh : IsFreshHistory repeated
unfolding least_in with_level without_level
repeated_fresh = record { history = repeated_is; fresh = record { acknowledge = refl; interface = refl; end = refl; deactivation = refl } }

returned_fresh : IsFreshHistory returned
unfolding least_in with_level without_level
returned_fresh = record { history = returned_is; fresh = record { acknowledge = refl; interface = refl; end = refl; deactivation = refl } }

in_flight_fresh : IsFreshHistory in_flight
unfolding least_in with_level without_level
in_flight_fresh = record { history = in_flight_is; fresh = record { acknowledge = refl; interface = refl; end = refl; deactivation = refl } }

awaited_fresh : IsFreshHistory awaited
unfolding least_in with_level without_level
awaited_fresh = record { history = awaited_is; fresh = record { acknowledge = refl; interface = refl; end = refl; deactivation = refl } }

pub worked : WorkedHistoriesAreFresh
worked = record { served = served_fresh; preempted = preempted_fresh; withdrawn = withdrawn_fresh; migrated = migrated_fresh; refilled = refilled_fresh; repeated = repeated_fresh; returned = returned_fresh; in_flight = in_flight_fresh; awaited = awaited_fresh }

pub refused : EachClauseRefuses
unfolding least_in with_level without_level
refused = record {
  acknowledge = record { history = overlooked_is; keeps = refl };
  interface = record { history = outdated_is; keeps = refl };
  end = record { history = unended_is; keeps = refl };
  deactivation = record { history = kept_is; keeps = refl };
}

pub not_allowed : WhatIsNotAllowed
not_allowed = record { touches = refl; reaches = refl; takes = refl; leaves = refl; queue = refl; its = refl; ctlr = refl; second = refl }

pub own_places : EachLpiHasItsPlace
own_places = record {
  history = ((omega arith, refl), (record { within = refl; can = record { there = refl; fits = refl }; allowed = refl; hands = refl }, (record { within = refl; can = record { there = refl; fits = refl }; allowed = refl; hands = refl }, ((omega arith, refl), (record { within = refl; can = omega arith; allowed = refl; hands = refl }, (record { within = refl; can = record { there = refl; fits = refl }; allowed = refl; hands = refl }, (record { within = refl; can = record { there = refl; fits = refl }; allowed = refl; hands = refl }, tt)))))));
  passed = refl;
  reached = refl;
  ahead = refl;
}

-- Commands.

abbrev queue_from : Course
queue_from = opening_course queue_guest

abbrev queue_opened : View
queue_opened = view_at (opening queue_guest)

-- and once the LPI is pending
abbrev queue_pending : View
queue_pending = view_at (last_of queue_guest pends_lpi)

first_offset : IsOffset 32
first_offset = record { place = refl; within = omega arith }

second_offset : IsOffset 64
second_offset = record { place = refl; within = omega arith }

third_offset : IsOffset 96
third_offset = record { place = refl; within = omega arith }

pends_is : GoesOn queue_from pends_lpi
pends_is = ((omega arith, refl), (record { within = refl; can = omega arith; allowed = refl; hands = refl }, ((omega arith, refl), (record { within = refl; can = tt; allowed = refl; hands = refl }, (record { within = refl; can = record { there = refl; fits = refl }; allowed = refl; hands = refl }, (record { within = refl; can = first_offset; allowed = refl; hands = refl }, (record { within = refl; can = refl; allowed = refl; hands = refl }, (record { within = refl; can = second_offset; allowed = refl; hands = refl }, (record { within = refl; can = tt; allowed = refl; hands = refl }, tt)))))))))

unbegun_is : IsHistory queue_guest unbegun
unfolding least_in with_level without_level
unbegun_is =
    let one : GoesOn queue_from (pends_lpi ++ begins_write) = goes_on queue_from pends_lpi begins_write pends_is ((omega arith, refl), tt) in
    let two : GoesOn queue_from (pends_lpi ++ begins_write ++ reads 0 Iar1 1023) = goes_on queue_from (pends_lpi ++ begins_write) (reads 0 Iar1 1023) one (((omega arith, refl), (record { within = refl; can = (omega arith, refl); allowed = refl; hands = refl }, (call_ended queue_guest.shape 0 _ (Some 1023) refl (λ id. refl) (record { view = queue_opened; made = record { events_are = refl; found = hands_one queue_opened (Cpu 0 Iar1 None) (Answer (Some 1023)) ((Some 1023), refl); reads = All-nil _ }; answers = (0, omega arith, refl) }), tt)))) in
    let three : GoesOn queue_from (pends_lpi ++ begins_write ++ reads 0 Iar1 1023 ++ stores_clear) = goes_on queue_from (pends_lpi ++ begins_write ++ reads 0 Iar1 1023) stores_clear two (((omega arith, refl), (record { within = refl; can = (refl, refl); allowed = refl; hands = refl }, (call_ended queue_guest.shape 0 _ None refl (λ id. refl) (record { view = queue_pending; targets = refl; made = record { events_are = refl; found = hands_one queue_pending (Put (Ram 8) 4) (FoundWord 0) refl; reads = All-nil _ }; answers = refl }), tt)))) in
    goes_on queue_from (pends_lpi ++ begins_write ++ reads 0 Iar1 1023 ++ stores_clear) (gets_its ++ fetches ++ clears_lpi) three
    ((record { within = refl; can = tt; allowed = refl; hands = refl }, (record { within = refl; can = refl; allowed = refl; hands = refl }, (record { within = refl; can = record { there = refl; fits = refl }; allowed = refl; hands = refl }, (record { within = refl; can = third_offset; allowed = refl; hands = refl }, (record { within = refl; can = tt; allowed = refl; hands = refl }, tt))))))

unread_is : IsHistory queue_guest unread
unfolding least_in with_level without_level
unread_is =
    let one : GoesOn queue_from (pends_lpi ++ begins_write ++ gets_its) = goes_on queue_from pends_lpi (begins_write ++ gets_its) pends_is ((omega arith, refl), (record { within = refl; can = tt; allowed = refl; hands = refl }, tt)) in
    let two : GoesOn queue_from (pends_lpi ++ begins_write ++ gets_its ++ reads 0 Iar1 1023) = goes_on queue_from (pends_lpi ++ begins_write ++ gets_its) (reads 0 Iar1 1023) one (((omega arith, refl), (record { within = refl; can = (omega arith, refl); allowed = refl; hands = refl }, (call_ended queue_guest.shape 0 _ (Some 1023) refl (λ id. refl) (record { view = queue_opened; made = record { events_are = refl; found = hands_one queue_opened (Cpu 0 Iar1 None) (Answer (Some 1023)) ((Some 1023), refl); reads = All-nil _ }; answers = (0, omega arith, refl) }), tt)))) in
    let three : GoesOn queue_from (pends_lpi ++ begins_write ++ gets_its ++ reads 0 Iar1 1023 ++ stores_clear) = goes_on queue_from (pends_lpi ++ begins_write ++ gets_its ++ reads 0 Iar1 1023) stores_clear two (((omega arith, refl), (record { within = refl; can = (refl, refl); allowed = refl; hands = refl }, (call_ended queue_guest.shape 0 _ None refl (λ id. refl) (record { view = queue_pending; targets = refl; made = record { events_are = refl; found = hands_one queue_pending (Put (Ram 8) 4) (FoundWord 0) refl; reads = All-nil _ }; answers = refl }), tt)))) in
    goes_on queue_from (pends_lpi ++ begins_write ++ gets_its ++ reads 0 Iar1 1023 ++ stores_clear) (fetches ++ clears_lpi) three
    ((record { within = refl; can = refl; allowed = refl; hands = refl }, (record { within = refl; can = record { there = refl; fits = refl }; allowed = refl; hands = refl }, (record { within = refl; can = third_offset; allowed = refl; hands = refl }, (record { within = refl; can = tt; allowed = refl; hands = refl }, tt)))))

fetched_is : IsHistory queue_guest fetched
unfolding least_in with_level without_level
fetched_is =
    let one : GoesOn queue_from (pends_lpi ++ begins_write) = goes_on queue_from pends_lpi begins_write pends_is ((omega arith, refl), tt) in
    let two : GoesOn queue_from (pends_lpi ++ begins_write ++ stores_clear) = goes_on queue_from (pends_lpi ++ begins_write) stores_clear one (((omega arith, refl), (record { within = refl; can = (refl, refl); allowed = refl; hands = refl }, (call_ended queue_guest.shape 0 _ None refl (λ id. refl) (record { view = queue_pending; targets = refl; made = record { events_are = refl; found = hands_one queue_pending (Put (Ram 8) 4) (FoundWord 0) refl; reads = All-nil _ }; answers = refl }), tt)))) in
    let three : GoesOn queue_from (pends_lpi ++ begins_write ++ stores_clear ++ gets_its ++ fetches) = goes_on queue_from (pends_lpi ++ begins_write ++ stores_clear) (gets_its ++ fetches) two ((record { within = refl; can = tt; allowed = refl; hands = refl }, (record { within = refl; can = refl; allowed = refl; hands = refl }, tt))) in
    let four : GoesOn queue_from (pends_lpi ++ begins_write ++ stores_clear ++ gets_its ++ fetches ++ reads 0 Iar1 1023) = goes_on queue_from (pends_lpi ++ begins_write ++ stores_clear ++ gets_its ++ fetches) (reads 0 Iar1 1023) three (((omega arith, refl), (record { within = refl; can = (omega arith, refl); allowed = refl; hands = refl }, (call_ended queue_guest.shape 0 _ (Some 1023) refl (λ id. refl) (record { view = queue_opened; made = record { events_are = refl; found = hands_one queue_opened (Cpu 0 Iar1 None) (Answer (Some 1023)) ((Some 1023), refl); reads = All-nil _ }; answers = (0, omega arith, refl) }), tt)))) in
    goes_on queue_from (pends_lpi ++ begins_write ++ stores_clear ++ gets_its ++ fetches ++ reads 0 Iar1 1023) clears_lpi four
    ((record { within = refl; can = record { there = refl; fits = refl }; allowed = refl; hands = refl }, (record { within = refl; can = third_offset; allowed = refl; hands = refl }, (record { within = refl; can = tt; allowed = refl; hands = refl }, tt))))

pub once_read : CommandsExcuseOnceRead
unfolding least_in with_level without_level
once_read = record {
  unbegun = record { history = unbegun_is; keeps = refl };
  unread = record { history = unread_is; keeps = refl };
  fetched = record { history = fetched_is; keeps = refl };
}

-- Lone raises.

abbrev signal_from : Course
signal_from = opening_course signal_guest

fourth_offset : IsOffset 128
fourth_offset = record { place = refl; within = omega arith }

-- a moment of an event whose conditions all compute
maps_is : GoesOn signal_from maps_event
maps_is = (
  (omega arith, refl),
  (
    record { within = refl; can = tt; allowed = refl; hands = refl },
    (
      record { within = refl; can = (refl, refl); allowed = refl; hands = refl },
      (
        record { within = refl; can = first_offset; allowed = refl; hands = refl },
        (
          record { within = refl; can = second_offset; allowed = refl; hands = refl },
          (
            record { within = refl; can = record { there = refl; fits = refl }; allowed = refl; hands = refl },
            (
              record { within = refl; can = third_offset; allowed = refl; hands = refl },
              (record { within = refl; can = record { there = refl; fits = refl }; allowed = refl; hands = refl }, (record { within = refl; can = fourth_offset; allowed = refl; hands = refl }, tt)),
            ),
          ),
        ),
      ),
    ),
  ),
)

-- the call of a message whose only event is a raise that was no signal does not end
never_alone : (beside : Beside) (device event id : ℕ) (found : Found) (answer : Option ℕ) → (IsTrue beside.signals → IsTrue false) → IsDeviceCall beside (Msi device event) (record { event = Raise (Lpi id); found = found } ∷ []) answer → ⊥
never_alone beside device event id found answer wrong is = of (op_made is)
  where
    piece : List Happened
    piece = record { event = Raise (Lpi id); found = found } ∷ []

    of : Makes None is.view (device_events is.view (Msi device event)) [] [] piece ⊎ RaisesAlone beside.signals is.view piece → ⊥
    of (inl made) = let same : Raise (Lpi id) ∷ [] ≡ ItsBegin ∷ (msi_raises is.view device event ++ ItsEnd ∷ []) = made.events_are in absurd (cc)
    of (inr alone) = let no = wrong alone.right in absurd (cc)

right_is : IsHistory signal_guest (maps_event ++ raises_alone 0 ++ ends_alone)
right_is =
    goes_on signal_from maps_event (raises_alone 0 ++ ends_alone) maps_is (
      (omega arith, refl),
      (
        record { within = refl; can = refl; allowed = refl; hands = refl },
        (
          call_signalled signal_guest.shape 2 _ None (λ id. refl)
              (record { view = signal_opened; maps = refl; made = inr (record { id = 8192; raised = record { events_are = refl; found = hands_one signal_opened (Raise (Lpi 8192)) Nothing refl; reads = All-nil _ }; right = refl }); answers = refl }),
          tt,
        ),
      ),
    )
  where
    signal_opened : View
    signal_opened = record (view_at (last_of signal_guest maps_event)) { maps = record { devices = []; events = []; collections = [] } }

alone_is : (event : ℕ) → GoesOn (course_of signal_from maps_event) (raises_alone event)
alone_is event = ((omega arith, refl), (record { within = refl; can = refl; allowed = refl; hands = refl }, tt))

midway_is : IsRefusedAtEnd (maps_event ++ forgets_other ++ raises_alone 0)
midway_is = record {
  history =
      goes_on signal_from maps_event (forgets_other ++ raises_alone 0) maps_is
      (record { within = refl; can = record { there = refl; fits = refl }; allowed = refl; hands = refl }, ((omega arith, refl), (record { within = refl; can = refl; allowed = refl; hands = refl }, tt)));
  refused = λ is. never_alone is.beside 0 0 8192 Nothing None is.right is.is_call;
}

other_is : IsRefusedAtEnd (maps_event ++ raises_alone 1)
other_is = record { history = goes_on signal_from maps_event (raises_alone 1) maps_is (alone_is 1); refused = λ is. never_alone is.beside 0 1 8192 Nothing None is.right is.is_call }

unmapped_is : IsRefusedAtEnd (maps_event ++ raises_alone 3)
unmapped_is = record { history = goes_on signal_from maps_event (raises_alone 3) maps_is (alone_is 3); refused = λ is. never_alone is.beside 0 3 8192 Nothing None is.right is.is_call }

pub lone_right : LoneRaisesAreRight
lone_right = record { right = right_is; midway = midway_is; other = other_is; unmapped = unmapped_is }
