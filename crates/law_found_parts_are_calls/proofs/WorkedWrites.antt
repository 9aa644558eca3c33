-- The worked parts that take the ITS, as a proper run, and the calls of those that take no command: each of their conditions computes.
use Rattle.std.proofs.Common.{◌≡◌, ℕ, ◌<◌, nat_lt, zero, suc, true, false, IsTrue, List, [], ◌∷◌, ◌++◌, None, drop, map, take, refl, slice_index_or, arith}
use Rattle.std.proofs.lemmas.List.Elements.{All-cons, All-nil}
use Rattle.std.proofs.lemmas.List.Sums.{AllPass-from_list_all}
use Rattle.law_serial_is_eager.proofs.GicCall.ReadLemmas.{last_read}
use Rattle.law_unmapped_lpis.specs.Registers.{least_in, with_level, without_level}
use Rattle.law_unmapped_lpis.specs.Calls.{Event, ItsBegin, Put, Runs, Found, Place, Beside, HandsOut, Happened, IsCall, IsLastRead, held_at, left_by, View, Cbaser, Cwriter, Fault, ItsCtlr, place_of_plain}
use Rattle.law_unmapped_lpis.specs.GicCall.declared.event.Event.TheVariants.{ItsEnd, Queue, Read}
use Rattle.law_unmapped_lpis.specs.GicCall.declared.event.Found.TheVariants.{Nothing, Queue as FoundQueue, Word as FoundWord}
use Rattle.law_unmapped_lpis.specs.GicCall.declared.event.Place.TheVariants.{Queue as QueuePlace, Word}
use Rattle.law_unmapped_lpis.specs.Histories.{view_at}
use Rattle.law_unmapped_lpis.specs.GicHistory.State.{opening as opening_ideal}
use Rattle.pe_mem.specs.Core.{CoreState, Entry, RamPut, end_of, entry_by, actor_count, is_known, part_events, IsRun, opening, Made, vcpu_of_actor, CoreMoment, are_parts, entries_of, own_acts, opening_progress, IsProper, IsProperRun}
use Rattle.pe_mem.specs.Lists.{in_places}
use Rattle.pe_mem.proofs.CoreProper.WorkedLemmas.{acts_are_proper, is_below}
use Rattle.law_unmapped_lpis.specs.Worked.{worked_guest}
use Rattle.law_serial_is_eager.specs.Serial.{moments_of}
use Rattle.law_found_parts_are_calls.specs.WorkedCommand.{adds_command, enables, its_parts, lines, makes_queue, queue, taken, step}
use Rattle.law_found_parts_are_calls.proofs.WorkedCloses.{closing, close_run}
use Rattle.law_found_parts_are_calls.proofs.WorkedLemmas.{told_in}

-- The run.

abbrev run : List CoreMoment
run = moments_of its_parts

there : 0 < actor_count worked_guest.shape
there = omega arith

-- the step that stores the number of the fault, and those of vCPU 0 up to it
abbrev pub put : Made
put = step (RamPut (place_of_plain worked_guest.shape Fault) 0 10) 0 10 None

abbrev own_before : List Made
own_before = makes_queue.steps ++ adds_command.steps ++ take 73 enables.steps

-- the run, in pieces: up to the lines that the first part closes, from there to those of the last, and the rest
abbrev first : List Entry
first = map (entry_by 0) (take 2 makes_queue.steps)

abbrev between : List Entry
between = map (entry_by 0) (drop 66 makes_queue.steps ++ adds_command.steps ++ take 2 enables.steps)

abbrev rest : List Entry
rest = map (entry_by 0) (drop 66 enables.steps)

abbrev shuts : List Entry
shuts = map closing lines

abbrev reached : List Entry → CoreState
reached early = end_of worked_guest.shape (opening worked_guest 0) early

last_run : IsRun worked_guest.shape (reached (first ++ shuts ++ between ++ shuts)) rest
unfolding least_in with_level without_level in_places
last_run =
    let Known : Place → Type 0 = λ place. IsTrue (is_known worked_guest.shape 0 own_before place) in (
      record { actor = there; can = refl; meets = tt; found = refl; left = refl; tables = refl },
      (
        record { actor = there; can = omega arith; meets = tt; found = refl; left = refl; tables = refl },
        (
          record { actor = there; can = omega arith; meets = tt; found = refl; left = refl; tables = refl },
          (
            record { actor = there; can = omega arith; meets = tt; found = refl; left = refl; tables = refl },
            (
              record { actor = there; can = (omega arith, omega arith); meets = record { fault = tt; lines = λ e. refl }; found = refl; left = refl; tables = refl },
              (
                record { actor = there; can = omega arith; meets = tt; found = refl; left = refl; tables = refl },
                (
                  record { actor = there; can = (omega arith, omega arith); meets = record { fault = record { turn = refl; runs = record { word = taken; known_as = refl; runs = refl } }; lines = λ e. absurd (cc) }; found = refl; left = refl; tables = refl },
                  (
                    record { actor = there; can = (record { place = refl; within = omega arith }, tt); meets = record { turn = refl; kicks = refl; lines = refl; queue = (record { fetched = All-cons Known QueuePlace (Word Cbaser ∷ []) refl (All-cons Known (Word Cbaser) [] refl (All-nil Known)); ends = refl }, record { seen = 0; value = 10; last = put; is_last = refl; put = refl; stored = refl }) }; found = refl; left = refl; tables = refl },
                    (
                      record { actor = there; can = tt; meets = refl; found = refl; left = refl; tables = refl },
                      tt,
                    ),
                  ),
                ),
              ),
            ),
          ),
        ),
      ),
    )

middle_run : IsRun worked_guest.shape (reached (first ++ shuts)) (between ++ shuts ++ rest)
unfolding least_in with_level without_level in_places
middle_run = (
  record { actor = there; can = omega arith; meets = tt; found = refl; left = refl; tables = refl },
  (
    record { actor = there; can = omega arith; meets = tt; found = refl; left = refl; tables = refl },
    (
      record { actor = there; can = (omega arith, omega arith); meets = record { fault = tt; lines = λ e. absurd (cc) }; found = refl; left = refl; tables = refl },
      (
        record { actor = there; can = (record { place = refl; within = omega arith }, tt); meets = record { turn = refl; kicks = refl; lines = refl; queue = tt }; found = refl; left = refl; tables = refl },
        (
          record { actor = there; can = omega arith; meets = tt; found = refl; left = refl; tables = refl },
          (
            record { actor = there; can = (omega arith, omega arith); meets = record { fault = tt; lines = λ e. absurd (cc) }; found = refl; left = refl; tables = refl },
            (
              record { actor = there; can = tt; meets = refl; found = refl; left = refl; tables = refl },
              (
                record { actor = there; can = refl; meets = tt; found = refl; left = refl; tables = refl },
                (
                  record { actor = there; can = tt; meets = tt; found = refl; left = refl; tables = refl },
                  (
                    record { actor = there; can = refl; meets = tt; found = refl; left = refl; tables = refl },
                    (
                      record { actor = there; can = omega arith; meets = tt; found = refl; left = refl; tables = refl },
                      (
                        record { actor = there; can = omega arith; meets = tt; found = refl; left = refl; tables = refl },
                        (
                          record { actor = there; can = omega arith; meets = tt; found = refl; left = refl; tables = refl },
                          (
                            record { actor = there; can = (omega arith, omega arith); meets = record { fault = tt; lines = λ e. absurd (cc) }; found = refl; left = refl; tables = refl },
                            (
                              record { actor = there; can = tt; meets = refl; found = refl; left = refl; tables = refl },
                              (
                                record { actor = there; can = refl; meets = tt; found = refl; left = refl; tables = refl },
                                (
                                  record { actor = there; can = tt; meets = tt; found = refl; left = refl; tables = refl },
                                  close_run worked_guest.shape there lines (reached (first ++ shuts ++ between)) rest (record { seats = omega arith; turn = refl; clear = refl }) last_run,
                                ),
                              ),
                            ),
                          ),
                        ),
                      ),
                    ),
                  ),
                ),
              ),
            ),
          ),
        ),
      ),
    ),
  ),
)

its_run : IsRun worked_guest.shape (opening worked_guest 0) (entries_of run)
unfolding least_in with_level without_level in_places
its_run = (
  record { actor = there; can = refl; meets = tt; found = refl; left = refl; tables = refl },
  (
    record { actor = there; can = tt; meets = tt; found = refl; left = refl; tables = refl },
    close_run worked_guest.shape there lines (reached first) (between ++ shuts ++ rest) (record { seats = omega arith; turn = refl; clear = refl }) middle_run,
  ),
)

its_are_parts : (actor : ℕ) → actor < actor_count worked_guest.shape → are_parts worked_guest.shape actor false (own_acts actor run) ≡ true
its_are_parts zero h = refl
its_are_parts (suc n) h = absurd (omega (arith, h))

its_proper : (actor : ℕ) → actor < actor_count worked_guest.shape → IsProper worked_guest.shape actor (opening_progress worked_guest 0 actor) (own_acts actor run)
unfolding least_in with_level without_level in_places
its_proper zero h = acts_are_proper worked_guest.shape 0 (opening_progress worked_guest 0 0) (own_acts 0 run) refl
its_proper (suc n) h = absurd (omega (arith, h))

pub its_is_proper : IsProperRun worked_guest 0 run
its_is_proper = record {
  parted = record { run = its_run; actors = λ k d h. is_below (slice_index_or run k d).actor 1 (AllPass-from_list_all (λ (moment : CoreMoment). nat_lt moment.actor 1) run refl k d h); parts = its_are_parts };
  proper = its_proper;
}

-- The calls.

abbrev pub happens : Event → Found → Happened
happens event found = record { event = event; found = found }

abbrev pub reads_queue : Happened
reads_queue = happens (Read QueuePlace) (FoundQueue 0 false)

abbrev pub begins : Happened
begins = happens ItsBegin Nothing

-- the guest as it opens, with some maps
abbrev opened : Beside → View
opened beside = record (view_at (opening_ideal worked_guest)) { maps = beside.maps }

-- with the queue, and with its command
abbrev queued : Beside → View
queued beside = left_by worked_guest.shape (opened beside) (Put Cbaser queue)

abbrev pub added : Beside → View
added beside = left_by worked_guest.shape (queued beside) (Put Cwriter 32)

abbrev pub before_adds : List CoreMoment
before_adds = moments_of (makes_queue ∷ [])

abbrev pub before_enables : List CoreMoment
before_enables = moments_of (makes_queue ∷ adds_command ∷ [])

pub queue_call : (beside : Beside) → IsCall worked_guest.shape beside (vcpu_of_actor worked_guest.shape 0) makes_queue.operation (part_events (told_in worked_guest [] 0) makes_queue.steps) None
unfolding least_in with_level without_level in_places
queue_call beside =
    let view = opened beside in
    let Hands : Happened → Type 0 = λ h. HandsOut view h.event h.found in
    let reads = happens (Read (Word ItsCtlr)) (FoundWord 0) in
    let writer = happens (Read (Word Cwriter)) (FoundWord 0) in
    let base = happens (Read (Word Cbaser)) (FoundWord 0) in
    let empties = happens (Put Cwriter 0) (FoundWord 0) in
    let moves = happens (Queue 0 Runs) Nothing in
    let stores = happens (Put Cbaser queue) (FoundWord 0) in
    let rest : List Happened = reads ∷ writer ∷ empties ∷ moves ∷ base ∷ stores ∷ [] in
    let Last : Place → Type 0 = λ place. IsLastRead place (held_at view place) rest in
    record {
      view = view;
      maps = refl;
      views = [];
      register = reads_queue ∷ begins ∷ rest;
      commands = [];
      last = happens ItsEnd Nothing ∷ [];
      split = refl;
      written = record {
        begin = reads_queue ∷ begins ∷ [];
        rest = rest;
        split = refl;
        begun = record { events_are = refl; found = All-cons Hands begins [] refl (All-nil Hands); reads = All-nil _ };
        made = record {
          events_are = refl;
          found = All-cons Hands empties (moves ∷ stores ∷ []) refl (All-cons Hands moves (stores ∷ []) refl (All-cons Hands stores [] refl (All-nil Hands)));
          reads = All-cons Last (Word ItsCtlr) [] (last_read [] (writer ∷ empties ∷ moves ∷ base ∷ stores ∷ []) refl) (All-nil Last);
        };
      };
      started = record { events_are = refl; found = All-nil _; reads = All-nil _ };
      ended = record { events_are = refl; found = All-cons Hands (happens ItsEnd Nothing) [] refl (All-nil Hands); reads = All-nil _ };
      answers = refl;
    }

pub add_call : (beside : Beside) → IsCall worked_guest.shape beside (vcpu_of_actor worked_guest.shape 0) adds_command.operation (part_events (told_in worked_guest before_adds 0) adds_command.steps) None
unfolding least_in with_level without_level in_places
add_call beside =
    let view = queued beside in
    let Hands : Happened → Type 0 = λ h. HandsOut view h.event h.found in
    let reads = happens (Read (Word ItsCtlr)) (FoundWord 0) in
    let finds = happens (Read (Word Cbaser)) (FoundWord queue) in
    let writer = happens (Read (Word Cwriter)) (FoundWord 0) in
    let stores = happens (Put Cwriter 32) (FoundWord 0) in
    let rest : List Happened = reads_queue ∷ reads ∷ finds ∷ writer ∷ stores ∷ [] in
    let Last : Place → Type 0 = λ place. IsLastRead place (held_at view place) rest in
    record {
      view = view;
      maps = refl;
      views = [];
      register = reads_queue ∷ begins ∷ rest;
      commands = [];
      last = happens ItsEnd Nothing ∷ [];
      split = refl;
      written = record {
        begin = reads_queue ∷ begins ∷ [];
        rest = rest;
        split = refl;
        begun = record { events_are = refl; found = All-cons Hands begins [] refl (All-nil Hands); reads = All-nil _ };
        made = record {
          events_are = refl;
          found = All-cons Hands stores [] refl (All-nil Hands);
          reads =
              All-cons Last (Word ItsCtlr) (Word Cbaser ∷ QueuePlace ∷ Word Cwriter ∷ []) (last_read (reads_queue ∷ []) (finds ∷ writer ∷ stores ∷ []) refl)
              (All-cons Last (Word Cbaser) (QueuePlace ∷ Word Cwriter ∷ []) (last_read (reads_queue ∷ reads ∷ []) (writer ∷ stores ∷ []) refl)
              (All-cons Last QueuePlace (Word Cwriter ∷ []) (last_read [] (reads ∷ finds ∷ writer ∷ stores ∷ []) refl)
              (All-cons Last (Word Cwriter) [] (last_read (reads_queue ∷ reads ∷ finds ∷ []) (stores ∷ []) refl) (All-nil Last))));
        };
      };
      started = (record { events_are = refl; found = All-nil _; reads = All-nil _ }, refl);
      ended = record { events_are = refl; found = All-cons Hands (happens ItsEnd Nothing) [] refl (All-nil Hands); reads = All-nil _ };
      answers = refl;
    }
