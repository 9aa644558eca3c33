-- The worked queue: each of its conditions computes.
use Rattle.std.proofs.Common.{ℕ, ◌^◌, false, IsTrue, List, [], ◌∷◌, ◌++◌, Option, Some, None, is_none, refl, arith}
use Rattle.std.proofs.lemmas.List.Elements.{All-nil, All-cons, All-from_recursion}
use Rattle.floor_histories.proofs.IdealGuests.CanOpenLemmas.{openings_can_open}
use Rattle.floor_histories.specs.Calls.{PlainWord, Ram, ItsCtlr, Cbaser, Cwriter, Put, ItsBegin, Place, QueueChange, Runs, Done, Stalls, queue_event, Happened, HandsOut, IsLastRead, Beside, IsCommand, AreCommands, IsItsCall, held_at, left_by, View, IsGoodPreset}
use Rattle.floor_histories.specs.GicCall.declared.event.Event.TheVariants.{Read, ItsEnd, Queue}
use Rattle.floor_histories.specs.GicCall.declared.event.Found.TheVariants.{Nothing, Word as FoundWord, Queue as FoundQueue}
use Rattle.floor_histories.specs.GicCall.declared.event.Place.TheVariants.{Word, Queue as QueuePlace}
use Rattle.floor_histories.specs.Histories.{view_at, Call, Course, GoesOn, IsHistory, opening_course, course_of, last_of, CanOpen}
use Rattle.floor_histories.specs.GicHistory.State.{opening}
use Rattle.floor_histories.proofs.GicCall.ReadLemmas.{last_read}
use Rattle.floor_histories.proofs.GicHistory.CallLemmas.{call_ended, goes_on, hands_one}
use Rattle.law_histories.specs.WorkedQueue.{its_guest, its_spec, stores, makes_queue, enables_its, maps_collection, syncs, before_write, to_sync, to_end, QueueIsSynced}

-- what is found of the guest as it opens, once it has a queue, and once its ITS is enabled
abbrev opened : View
opened = view_at (opening its_guest)

abbrev queued : View
queued = view_at (last_of its_guest (stores 0 9 ++ stores 2 (2 ^ 63) ++ stores 4 5 ++ makes_queue))

abbrev enabled : View
enabled = view_at (last_of its_guest before_write)

-- as each of the commands begins
abbrev first : View
first = left_by its_guest.shape enabled (Put Cwriter 96)

abbrev second : View
second = left_by its_guest.shape first (queue_event its_guest.shape first)

abbrev third : View
third = left_by its_guest.shape second (queue_event its_guest.shape second)

pub its_good : CanOpen its_guest
its_good =
    openings_can_open its_spec
    (record {
      shape = record { some_vcpu = omega arith; vcpus = omega arith; spis = omega arith; spi_blocks = refl; espis = omega arith; espi_blocks = refl; devices = omega arith; lpis = omega arith; ram = omega arith; ram_words = refl };
      presets = All-nil (IsGoodPreset its_spec.shape);
    })

abbrev from : Course
from = opening_course its_guest

-- Pieces.

abbrev pub begins : Happened
begins = record { event = ItsBegin; found = Nothing }

abbrev pub ends : Happened
ends = record { event = ItsEnd; found = Nothing }

abbrev pub word_read : PlainWord → ℕ → Happened
word_read word value = record { event = Read (Word word); found = FoundWord value }

abbrev pub queue_read : Happened
queue_read = record { event = Read QueuePlace; found = FoundQueue 0 false }

abbrev pub puts : PlainWord → ℕ → ℕ → Happened
puts word value before = record { event = Put word value; found = FoundWord before }

abbrev pub queue_goes : ℕ → QueueChange → Happened
queue_goes offset change = record { event = Queue offset change; found = Nothing }

-- what a piece has of its places, and of its events
abbrev IsRead : View → List Happened → Place → Type 0
IsRead view piece place = IsLastRead place (held_at view place) piece

abbrev Hands : View → Happened → Type 0
Hands view happened = HandsOut view happened.event happened.found

-- The commands.

-- their doublewords
abbrev first_words : List Happened
first_words = word_read (Ram 0) 9 ∷ word_read (Ram 1) 0 ∷ word_read (Ram 2) (2 ^ 63) ∷ word_read (Ram 3) 0 ∷ []

abbrev second_words : List Happened
second_words = word_read (Ram 4) 5 ∷ word_read (Ram 5) 0 ∷ word_read (Ram 6) 0 ∷ word_read (Ram 7) 0 ∷ []

abbrev third_words : List Happened
third_words = word_read (Ram 8) 0 ∷ word_read (Ram 9) 0 ∷ word_read (Ram 10) 0 ∷ word_read (Ram 11) 0 ∷ []

-- and how the queue goes on after each
abbrev first_end : Happened
first_end = queue_goes 32 (Done maps_collection)

abbrev second_end : Happened
second_end = queue_goes 64 (Done syncs)

abbrev third_end : Happened
third_end = queue_goes 64 (Stalls 10)

-- an ITS that had no map as a call took it, and an LPI that was for nobody all along
abbrev steady : Beside
steady = record { maps = enabled.maps; targets = enabled.targets; commands = enabled.targets ∷ enabled.targets ∷ enabled.targets ∷ enabled.targets ∷ []; signals = false }

first_is : IsCommand (Some 0) its_guest.shape first (first_words ++ first_end ∷ [])
first_is = record {
  taken = refl;
  fetch = first_words;
  rest = first_end ∷ [];
  split = refl;
  whole = refl;
  fetched = record {
    events_are = refl;
    found = All-nil _;
    reads = All-from_recursion (IsRead first first_words) (Word (Ram 0) ∷ Word (Ram 1) ∷ Word (Ram 2) ∷ Word (Ram 3) ∷ []) (
      last_read [] (word_read (Ram 1) 0 ∷ word_read (Ram 2) (2 ^ 63) ∷ word_read (Ram 3) 0 ∷ []) refl,
      (
        last_read (word_read (Ram 0) 9 ∷ []) (word_read (Ram 2) (2 ^ 63) ∷ word_read (Ram 3) 0 ∷ []) refl,
        (last_read (word_read (Ram 0) 9 ∷ word_read (Ram 1) 0 ∷ []) (word_read (Ram 3) 0 ∷ []) refl, (last_read (word_read (Ram 0) 9 ∷ word_read (Ram 1) 0 ∷ word_read (Ram 2) (2 ^ 63) ∷ []) [] refl, tt)),
      ),
    );
  };
  done = record { events_are = refl; found = hands_one first (Queue 32 (Done maps_collection)) Nothing refl; reads = All-nil _ };
}

second_is : IsCommand (Some 0) its_guest.shape second (second_words ++ second_end ∷ [])
second_is = record {
  taken = refl;
  fetch = second_words;
  rest = second_end ∷ [];
  split = refl;
  whole = refl;
  fetched = record {
    events_are = refl;
    found = All-nil _;
    reads = All-from_recursion (IsRead second second_words) (Word (Ram 4) ∷ Word (Ram 5) ∷ Word (Ram 6) ∷ Word (Ram 7) ∷ []) (
      last_read [] (word_read (Ram 5) 0 ∷ word_read (Ram 6) 0 ∷ word_read (Ram 7) 0 ∷ []) refl,
      (
        last_read (word_read (Ram 4) 5 ∷ []) (word_read (Ram 6) 0 ∷ word_read (Ram 7) 0 ∷ []) refl,
        (last_read (word_read (Ram 4) 5 ∷ word_read (Ram 5) 0 ∷ []) (word_read (Ram 7) 0 ∷ []) refl, (last_read (word_read (Ram 4) 5 ∷ word_read (Ram 5) 0 ∷ word_read (Ram 6) 0 ∷ []) [] refl, tt)),
      ),
    );
  };
  done = record { events_are = refl; found = hands_one second (Queue 64 (Done syncs)) Nothing refl; reads = All-nil _ };
}

third_is : IsCommand (Some 0) its_guest.shape third (third_words ++ third_end ∷ [])
third_is = record {
  taken = refl;
  fetch = third_words;
  rest = third_end ∷ [];
  split = refl;
  whole = refl;
  fetched = record {
    events_are = refl;
    found = All-nil _;
    reads = All-from_recursion (IsRead third third_words) (Word (Ram 8) ∷ Word (Ram 9) ∷ Word (Ram 10) ∷ Word (Ram 11) ∷ []) (
      last_read [] (word_read (Ram 9) 0 ∷ word_read (Ram 10) 0 ∷ word_read (Ram 11) 0 ∷ []) refl,
      (
        last_read (word_read (Ram 8) 0 ∷ []) (word_read (Ram 10) 0 ∷ word_read (Ram 11) 0 ∷ []) refl,
        (last_read (word_read (Ram 8) 0 ∷ word_read (Ram 9) 0 ∷ []) (word_read (Ram 11) 0 ∷ []) refl, (last_read (word_read (Ram 8) 0 ∷ word_read (Ram 9) 0 ∷ word_read (Ram 10) 0 ∷ []) [] refl, tt)),
      ),
    );
  };
  done = record { events_are = refl; found = hands_one third (Queue 64 (Stalls 10)) Nothing refl; reads = All-nil _ };
}

abbrev second_on : List Happened
second_on = second_words ++ second_end ∷ third_words ++ third_end ∷ []

abbrev all_commands : List Happened
all_commands = first_words ++ first_end ∷ second_words ++ second_end ∷ third_words ++ third_end ∷ []

commands_are : AreCommands (Some 0) its_guest.shape steady 0 first (first ∷ second ∷ third ∷ []) all_commands
commands_are = record {
  same = record { ctlr = refl; cbaser = refl; cwriter = refl; offset = refl; stalled = refl; maps = refl };
  targets_are = refl;
  own = first_words ++ first_end ∷ [];
  rest = second_on;
  split = refl;
  command = first_is;
  later = record {
    same = record { ctlr = refl; cbaser = refl; cwriter = refl; offset = refl; stalled = refl; maps = refl };
    targets_are = refl;
    own = second_words ++ second_end ∷ [];
    rest = third_words ++ third_end ∷ [];
    split = refl;
    command = second_is;
    later = record {
      same = record { ctlr = refl; cbaser = refl; cwriter = refl; offset = refl; stalled = refl; maps = refl };
      targets_are = refl;
      own = third_words ++ third_end ∷ [];
      rest = [];
      split = refl;
      command = third_is;
      later = (record { events_are = refl; found = All-nil _; reads = All-nil _ }, refl);
    };
  };
}

-- The writes.

abbrev pub writer_reads : List Happened
writer_reads = word_read ItsCtlr 1 ∷ word_read Cbaser (2 ^ 63) ∷ queue_read ∷ word_read Cwriter 0 ∷ puts Cwriter 96 0 ∷ []

start_is : IsItsCall its_guest.shape steady 0 0x88 8 96 ((begins ∷ writer_reads) ++ all_commands ++ ends ∷ []) None
start_is = record {
  view = enabled;
  maps = refl;
  views = first ∷ second ∷ third ∷ [];
  register = begins ∷ writer_reads;
  commands = all_commands;
  last = ends ∷ [];
  split = refl;
  written = record {
    begin = begins ∷ [];
    rest = writer_reads;
    split = refl;
    begun = record { events_are = refl; found = hands_one enabled ItsBegin Nothing refl; reads = All-nil _ };
    made = record {
      events_are = refl;
      found = hands_one enabled (Put Cwriter 96) (FoundWord 0) refl;
      reads = All-from_recursion (IsRead enabled writer_reads) (Word ItsCtlr ∷ Word Cbaser ∷ QueuePlace ∷ Word Cwriter ∷ []) (
        last_read [] (word_read Cbaser (2 ^ 63) ∷ queue_read ∷ word_read Cwriter 0 ∷ puts Cwriter 96 0 ∷ []) refl,
        (
          last_read (word_read ItsCtlr 1 ∷ []) (queue_read ∷ word_read Cwriter 0 ∷ puts Cwriter 96 0 ∷ []) refl,
          (
            last_read (word_read ItsCtlr 1 ∷ word_read Cbaser (2 ^ 63) ∷ []) (word_read Cwriter 0 ∷ puts Cwriter 96 0 ∷ []) refl,
            (last_read (word_read ItsCtlr 1 ∷ word_read Cbaser (2 ^ 63) ∷ queue_read ∷ []) (puts Cwriter 96 0 ∷ []) refl, tt),
          ),
        ),
      );
    };
  };
  started = commands_are;
  ended = record { events_are = refl; found = hands_one enabled ItsEnd Nothing refl; reads = All-nil _ };
  answers = refl;
}

stored_one : GoesOn from (stores 0 9)
stored_one = ((omega arith, refl), (record { within = refl; can = (refl, refl); allowed = refl; hands = refl }, (call_ended its_guest.shape 0 _ None refl (λ id. refl) (record { view = opened; targets = refl; made = record { events_are = refl; found = hands_one opened (Put (Ram 0) 9) (FoundWord 0) refl; reads = All-nil _ }; answers = refl }), tt)))

stored_two : GoesOn (course_of from (stores 0 9)) (stores 2 (2 ^ 63))
stored_two = ((omega arith, refl), (record { within = refl; can = (refl, refl); allowed = refl; hands = refl }, (call_ended its_guest.shape 0 _ None refl (λ id. refl) (record { view = opened; targets = refl; made = record { events_are = refl; found = hands_one opened (Put (Ram 2) (2 ^ 63)) (FoundWord 0) refl; reads = All-nil _ }; answers = refl }), tt)))

stored_three : GoesOn (course_of from (stores 0 9 ++ stores 2 (2 ^ 63))) (stores 4 5)
stored_three = ((omega arith, refl), (record { within = refl; can = (refl, refl); allowed = refl; hands = refl }, (call_ended its_guest.shape 0 _ None refl (λ id. refl) (record { view = opened; targets = refl; made = record { events_are = refl; found = hands_one opened (Put (Ram 4) 5) (FoundWord 0) refl; reads = All-nil _ }; answers = refl }), tt)))

-- of an ITS that no command found mapped
abbrev unmapped : View → List (ℕ → Option ℕ) → Beside
unmapped view commands = record { maps = view.maps; targets = view.targets; commands = commands; signals = false }

abbrev queue_made_by : List Happened
queue_made_by = word_read ItsCtlr 0 ∷ puts Cwriter 0 0 ∷ queue_goes 0 Runs ∷ puts Cbaser (2 ^ 63) 0 ∷ []

queue_is : IsItsCall its_guest.shape (unmapped opened (opened.targets ∷ [])) 0 0x80 8 (2 ^ 63) ((begins ∷ queue_made_by) ++ ends ∷ []) None
queue_is = record {
  view = opened;
  maps = refl;
  views = [];
  register = begins ∷ queue_made_by;
  commands = [];
  last = ends ∷ [];
  split = refl;
  written = record {
    begin = begins ∷ [];
    rest = queue_made_by;
    split = refl;
    begun = record { events_are = refl; found = hands_one opened ItsBegin Nothing refl; reads = All-nil _ };
    made = record {
      events_are = refl;
      found = All-from_recursion (Hands opened) (puts Cwriter 0 0 ∷ queue_goes 0 Runs ∷ puts Cbaser (2 ^ 63) 0 ∷ []) (refl, (refl, (refl, tt)));
      reads = All-from_recursion (IsRead opened queue_made_by) (Word ItsCtlr ∷ []) (last_read [] (puts Cwriter 0 0 ∷ queue_goes 0 Runs ∷ puts Cbaser (2 ^ 63) 0 ∷ []) refl, tt);
    };
  };
  started = record { events_are = refl; found = All-nil _; reads = All-nil _ };
  ended = record { events_are = refl; found = hands_one opened ItsEnd Nothing refl; reads = All-nil _ };
  answers = refl;
}

queue_made : GoesOn (course_of from (stores 0 9 ++ stores 2 (2 ^ 63) ++ stores 4 5)) makes_queue
queue_made = (
  (omega arith, refl),
  (
    record { within = refl; can = tt; allowed = refl; hands = refl },
    (
      record { within = refl; can = refl; allowed = refl; hands = refl },
      (
        record { within = refl; can = (refl, refl); allowed = refl; hands = refl },
        (
          record { within = refl; can = record { place = refl; within = omega arith }; allowed = refl; hands = refl },
          (
            record { within = refl; can = (refl, refl); allowed = refl; hands = refl },
            (record { within = refl; can = tt; allowed = refl; hands = refl }, (record { beside = unmapped opened (opened.targets ∷ []); maps = refl; commands = refl; targets = λ id. (0, omega arith, refl); right = λ h. h; is_call = queue_is }, tt)),
          ),
        ),
      ),
    ),
  ),
)

abbrev enabled_by : List Happened
enabled_by = word_read Cbaser (2 ^ 63) ∷ word_read Cwriter 0 ∷ queue_read ∷ puts ItsCtlr 1 0 ∷ []

enables_is : IsItsCall its_guest.shape (unmapped queued (queued.targets ∷ [])) 0 0 4 1 ((begins ∷ enabled_by) ++ ends ∷ []) None
enables_is = record {
  view = queued;
  maps = refl;
  views = [];
  register = begins ∷ enabled_by;
  commands = [];
  last = ends ∷ [];
  split = refl;
  written = record {
    begin = begins ∷ [];
    rest = enabled_by;
    split = refl;
    begun = record { events_are = refl; found = hands_one queued ItsBegin Nothing refl; reads = All-nil _ };
    made = record {
      events_are = refl;
      found = hands_one queued (Put ItsCtlr 1) (FoundWord 0) refl;
      reads = All-from_recursion (IsRead queued enabled_by) (Word Cbaser ∷ Word Cwriter ∷ QueuePlace ∷ []) (
        last_read [] (word_read Cwriter 0 ∷ queue_read ∷ puts ItsCtlr 1 0 ∷ []) refl,
        (last_read (word_read Cbaser (2 ^ 63) ∷ []) (queue_read ∷ puts ItsCtlr 1 0 ∷ []) refl, (last_read (word_read Cbaser (2 ^ 63) ∷ word_read Cwriter 0 ∷ []) (puts ItsCtlr 1 0 ∷ []) refl, tt)),
      );
    };
  };
  started = (record { events_are = refl; found = All-nil _; reads = All-nil _ }, refl);
  ended = record { events_are = refl; found = hands_one queued ItsEnd Nothing refl; reads = All-nil _ };
  answers = refl;
}

its_enabled : GoesOn (course_of from (stores 0 9 ++ stores 2 (2 ^ 63) ++ stores 4 5 ++ makes_queue)) enables_its
its_enabled = (
  (omega arith, refl),
  (
    record { within = refl; can = tt; allowed = refl; hands = refl },
    (
      record { within = refl; can = refl; allowed = refl; hands = refl },
      (
        record { within = refl; can = refl; allowed = refl; hands = refl },
        (
          record { within = refl; can = refl; allowed = refl; hands = refl },
          (
            record { within = refl; can = (refl, refl); allowed = refl; hands = refl },
            (record { within = refl; can = tt; allowed = refl; hands = refl }, (record { beside = unmapped queued (queued.targets ∷ []); maps = refl; commands = refl; targets = λ id. (0, omega arith, refl); right = λ h. h; is_call = enables_is }, tt)),
          ),
        ),
      ),
    ),
  ),
)

queue_run : GoesOn (course_of from before_write) (to_sync ++ to_end)
queue_run = ((omega arith, refl), (record { within = refl; can = tt; allowed = refl; hands = refl }, (record { within = refl; can = refl; allowed = refl; hands = refl }, (record { within = refl; can = refl; allowed = refl; hands = refl }, (record { within = refl; can = refl; allowed = refl; hands = refl }, (record { within = refl; can = refl; allowed = refl; hands = refl }, (record { within = refl; can = (refl, refl); allowed = refl; hands = refl }, (record { within = refl; can = refl; allowed = refl; hands = refl }, (record { within = refl; can = refl; allowed = refl; hands = refl }, (record { within = refl; can = refl; allowed = refl; hands = refl }, (record { within = refl; can = refl; allowed = refl; hands = refl }, (record { within = refl; can = record { place = refl; within = omega arith }; allowed = refl; hands = refl }, (record { within = refl; can = refl; allowed = refl; hands = refl }, (record { within = refl; can = refl; allowed = refl; hands = refl }, (record { within = refl; can = refl; allowed = refl; hands = refl }, (record { within = refl; can = refl; allowed = refl; hands = refl }, (record { within = refl; can = record { place = refl; within = omega arith }; allowed = refl; hands = refl }, (record { within = refl; can = refl; allowed = refl; hands = refl }, (record { within = refl; can = refl; allowed = refl; hands = refl }, (record { within = refl; can = refl; allowed = refl; hands = refl }, (record { within = refl; can = refl; allowed = refl; hands = refl }, (record { within = refl; can = (record { place = refl; within = omega arith }, omega arith); allowed = refl; hands = refl }, (record { within = refl; can = tt; allowed = refl; hands = refl }, (record { beside = steady; maps = refl; commands = refl; targets = λ id. (0, omega arith, refl); right = λ h. h; is_call = start_is }, tt))))))))))))))))))))))))

pub before_goes : GoesOn from before_write
before_goes =
    let two : GoesOn from (stores 0 9 ++ stores 2 (2 ^ 63)) = goes_on from (stores 0 9) (stores 2 (2 ^ 63)) stored_one stored_two in
    let three : GoesOn from (stores 0 9 ++ stores 2 (2 ^ 63) ++ stores 4 5) = goes_on from (stores 0 9 ++ stores 2 (2 ^ 63)) (stores 4 5) two stored_three in
    let four : GoesOn from (stores 0 9 ++ stores 2 (2 ^ 63) ++ stores 4 5 ++ makes_queue) = goes_on from (stores 0 9 ++ stores 2 (2 ^ 63) ++ stores 4 5) makes_queue three queue_made in
    goes_on from (stores 0 9 ++ stores 2 (2 ^ 63) ++ stores 4 5 ++ makes_queue) enables_its four its_enabled

queue_history : IsHistory its_guest ((before_write ++ to_sync) ++ to_end)
queue_history = goes_on from before_write (to_sync ++ to_end) before_goes queue_run

pub queue_is_synced : QueueIsSynced
queue_is_synced = record {
  good = its_good;
  history = queue_history;
  whole = All-cons (λ (call : Option Call). IsTrue (is_none call)) None [] refl (All-nil (λ (call : Option Call). IsTrue (is_none call)));
  sync = refl;
  commands = refl;
  collections = refl;
  stalled = refl;
  offset = refl;
}
