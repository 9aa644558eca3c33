-- Looks at a plain word, and tries to store it.
use Rattle.std.proofs.Common.{◌≡◌, ℕ, ◌<◌, ◌^◌, ◌==◌, ◌&&◌, ◌+◌, not, Bool, true, false, if◌then◌else◌, IsTrue, List, [], ◌∷◌, ◌++◌, Some, None, is_none, append-nil, refl, sym, ap, subst, ◌∙◌, arith}
use Rattle.std.specs.List.{list_all}
use Rattle.std.specs.Option.{option_to_list}
use Rattle.std.proofs.lemmas.Grind.{common_steps}
use Rattle.std.proofs.lemmas.Bool.{both_ways, eq-eqb, eqb-true, and_parts}
use Rattle.std.proofs.lemmas.List.{append_assoc}
use Rattle.std.proofs.lemmas.List.Folds.{list_all-append}
use Rattle.std.proofs.lemmas.List.Elements.{All-append, All-cons, All-nil}
use Rattle.floor_core.specs.Words.{GuestShape, is_number, interrupt_count}
use Rattle.floor_core.specs.Calls.{Put, Happened, PlainWord, Ram, Propbaser, Pendbaser, ItsCtlr, Cbaser, Cwriter, Baser0, Baser1, Fault, place_of_plain, plain_count, has_plain, plain_at}
use Rattle.floor_core.specs.GicCall.declared.event.Event.TheVariants.{Read}
use Rattle.floor_core.specs.GicCall.declared.event.Found.TheVariants.{Word as FoundWord}
use Rattle.floor_core.specs.GicCall.declared.event.Place.TheVariants.{Word}
use Rattle.floor_core.specs.Core.{Local, Made, CoreStep, RamLook, RamPut, Plain, Queue, CanPut, CanPutWord, fault_place, has_all_shut, its_ctlr_place, is_on, known, place_of_word, word_of, Seen, Adds, AddsStep, CanMake, made_by, shape_of, seen_after, part_events, stands_for, event_done, local_after}
use Rattle.floor_core.proofs.PortCore.PortLemmas.{adds_join}
use Rattle.port_call.specs.Piece.{IsPiece, takes_none, goes_by_known}
use Rattle.port_call.specs.Plain.{is_event_word}
use Rattle.port_call.specs.Store.{MayStore, is_its_ctlr, Stores, MissesStore, TriesStore, AreStoreEvents, AreMissEvents, is_store_miss, is_store_step, stores_not}
use Rattle.port_call.proofs.KnownLemmas.{are_off, known_kept}
use Rattle.port_call.proofs.PieceLemmas.{piece_one, piece_nil, seen_nil}
use Rattle.port_call.proofs.SettleLemmas.{handed_none}
use Rattle.port_call.proofs.TurnLemmas.{piece_then, events_then, known_by_last}
use Rattle.port_call.proofs.MemoryLemmas.{on_own}

-- the word that keeps the number of a fault has a place of its own
pub fault_is : (shape : GuestShape) (word : PlainWord) → IsTrue (has_plain shape word) → (place_of_plain shape word == fault_place shape) ≡ not (is_event_word word)
fault_is shape (Ram i) h = grind (arith, common_steps, h)
fault_is shape (Propbaser v) h = grind (arith, common_steps, h)
fault_is shape (Pendbaser v) h = grind (arith, common_steps, h)
fault_is shape ItsCtlr h = grind (arith, common_steps)
fault_is shape Cbaser h = grind (arith, common_steps)
fault_is shape Cwriter h = grind (arith, common_steps)
fault_is shape Baser0 h = grind (arith, common_steps)
fault_is shape Baser1 h = grind (arith, common_steps)
fault_is shape Fault h = eq-eqb (fault_place shape) (fault_place shape) refl

-- and so has GITS_CTLR
pub ctlr_is : (shape : GuestShape) (word : PlainWord) → IsTrue (has_plain shape word) → (place_of_plain shape word == its_ctlr_place shape) ≡ is_its_ctlr word
ctlr_is shape (Ram i) h = grind (arith, common_steps, h)
ctlr_is shape (Propbaser v) h = grind (arith, common_steps, h)
ctlr_is shape (Pendbaser v) h = grind (arith, common_steps, h)
ctlr_is shape ItsCtlr h = eq-eqb (its_ctlr_place shape) (its_ctlr_place shape) refl
ctlr_is shape Cbaser h = grind (arith, common_steps)
ctlr_is shape Cwriter h = grind (arith, common_steps)
ctlr_is shape Baser0 h = grind (arith, common_steps)
ctlr_is shape Baser1 h = grind (arith, common_steps)
ctlr_is shape Fault h = grind (arith, common_steps)

-- An event of the word, if it has any.

abbrev pub if_event : Bool → Happened → List Happened
if_event true happened = happened ∷ []
if_event false happened = []

option_by : (b : Bool) (happened : Happened) → option_to_list (if b then None else Some happened) ≡ if_event (not b) happened
option_by true happened = refl
option_by false happened = refl

not_not : (b : Bool) → not (not b) ≡ b
not_not true = refl
not_not false = refl

abbrev pub read_of : PlainWord → ℕ → Happened
read_of word found = record { event = Read (Word word); found = FoundWord found }

abbrev pub put_of : PlainWord → ℕ → ℕ → Happened
put_of word value found = record { event = Put word value; found = FoundWord found }

-- the events of a look at it
pub look_events : (seen : Seen) (made : Made) (word : PlainWord) → IsTrue (has_plain (shape_of seen) word) → plain_at (shape_of seen) (place_of_plain (shape_of seen) word) ≡ word → made.step ≡ RamLook (place_of_plain (shape_of seen) word)
    → part_events seen (made ∷ []) ≡ if_event (is_event_word word) (read_of word made.found)
look_events seen made word there back is =
    let shape = shape_of seen in
    let place = place_of_plain shape word in
    ap (λ step. option_to_list (stands_for shape seen.actor seen.local seen.own step made.found) ++ []) is
    ∙ ap (λ plain. option_to_list (if place == fault_place shape then None else Some (read_of plain made.found)) ++ []) back
    ∙ append-nil (option_to_list (if place == fault_place shape then None else Some (read_of word made.found)))
    ∙ option_by (place == fault_place shape) (read_of word made.found)
    ∙ ap (λ b. if_event b (read_of word made.found)) (ap not (fault_is shape word there) ∙ not_not (is_event_word word))

-- a try that found what was seen
pub put_events : (seen : Seen) (made : Made) (word : PlainWord) (value : ℕ) → IsTrue (has_plain (shape_of seen) word) → plain_at (shape_of seen) (place_of_plain (shape_of seen) word) ≡ word
    → made.step ≡ RamPut (place_of_plain (shape_of seen) word) made.found value → part_events seen (made ∷ []) ≡ if_event (is_event_word word) (put_of word value made.found)
put_events seen made word value there back is =
    let shape = shape_of seen in
    let place = place_of_plain shape word in
    let event = λ (plain : PlainWord). if place == fault_place shape then None else Some (put_of plain value made.found) in
    ap (λ step. option_to_list (stands_for shape seen.actor seen.local seen.own step made.found) ++ []) is
    ∙ ap (λ b. option_to_list (if b then event (plain_at shape place) else None) ++ []) (eq-eqb made.found made.found refl)
    ∙ ap (λ plain. option_to_list (event plain) ++ []) back
    ∙ append-nil (option_to_list (event word))
    ∙ option_by (place == fault_place shape) (put_of word value made.found)
    ∙ ap (λ b. if_event b (put_of word value made.found)) (ap not (fault_is shape word there) ∙ not_not (is_event_word word))

-- a try that found another word has none
late_events : (seen : Seen) (made : Made) (index expected value : ℕ) → made.step ≡ RamPut index expected value → (made.found == expected) ≡ false → part_events seen (made ∷ []) ≡ []
late_events seen made index expected value is late =
    let shape = shape_of seen in
    ap (λ step. option_to_list (stands_for shape seen.actor seen.local seen.own step made.found) ++ []) is
    ∙ ap (λ b. option_to_list (if b then event_done shape seen.actor seen.local seen.own (RamPut index expected value) made.found else None) ++ []) late

-- The actor's own state stays.

pub store_local : (seen : Seen) (index expected value found : ℕ) → local_after (shape_of seen) seen.actor seen.local (RamPut index expected value) found ≡ seen.local
store_local seen index expected value found = of (found == expected)
  where
    of : (b : Bool) → (if b then seen.local else seen.local) ≡ seen.local
    of true = refl
    of false = refl

-- Misses.

pub and_true : (a b : Bool) → IsTrue a → IsTrue b → (a && b) ≡ true
and_true true true h k = refl
and_true true false h k = absurd (cc)
and_true false b h k = absurd (cc)

-- reads of the word, or none
pub miss_events_join : (b : Bool) (word : PlainWord) (early late : List Happened) → AreMissEvents b word early → AreMissEvents b word late → AreMissEvents b word (early ++ late)
miss_events_join true word early late one two = All-append (λ happened. happened.event ≡ Read (Word word)) early late one two
miss_events_join false word early late one two = ap (λ events. events ++ late) one ∙ two

unfoldable pub misses_join : (old mid new : Seen) (word : PlainWord) → MissesStore old mid word → MissesStore mid new word → MissesStore old new word
misses_join old mid new word one two =
    let shape : shape_of mid ≡ shape_of old = ap shape_of one.adds.new_is in
    let missed : IsTrue (list_all (is_store_miss (place_of_plain (shape_of old) word)) two.part) = subst (λ shape. IsTrue (list_all (is_store_miss (place_of_plain shape word)) two.part)) shape two.missed in
    let miss = is_store_miss (place_of_plain (shape_of old) word) in
    let Events : List Happened → Type 0 = λ events. AreMissEvents (is_event_word word) word events in
    record {
      part = one.part ++ two.part;
      adds = adds_join old mid new one.part two.part one.adds two.adds;
      missed = list_all-append miss one.part two.part ∙ and_true (list_all miss one.part) (list_all miss two.part) one.missed missed;
      local_is = two.local_is ∙ one.local_is;
      none_taken = list_all-append (λ made. is_none made.tables) one.part two.part ∙ and_true (takes_none one.part) (takes_none two.part) one.none_taken two.none_taken;
      events = subst Events (sym (events_then old mid one.part two.part one.adds)) (miss_events_join (is_event_word word) word (part_events old one.part) (part_events mid two.part) one.events two.events);
      piece = piece_then old mid one.part two.part one.adds one.piece two.piece;
    }

pub store_events_join : (b : Bool) (word : PlainWord) (value found : ℕ) (early late : List Happened) → AreMissEvents b word early → AreStoreEvents b word value found late → AreStoreEvents b word value found (early ++ late)
store_events_join true word value found early late one two =
    record {
      reads = early ++ two.reads;
      are_reads = All-append (λ happened. happened.event ≡ Read (Word word)) early two.reads one two.are_reads;
      split = ap (λ events. early ++ events) two.split ∙ sym (append_assoc early two.reads ((record { event = Put word value; found = FoundWord found }) ∷ []));
    }
store_events_join false word value found early late one two = ap (λ events. events ++ late) one ∙ two

unfoldable pub misses_then_stores : (old mid new : Seen) (word : PlainWord) (value : ℕ) → MissesStore old mid word → Stores mid new word value → Stores old new word value
misses_then_stores old mid new word value one two =
    let shape : shape_of mid ≡ shape_of old = ap shape_of one.adds.new_is in
    let missed : IsTrue (list_all (is_store_miss (place_of_plain (shape_of old) word)) two.misses) = subst (λ shape. IsTrue (list_all (is_store_miss (place_of_plain shape word)) two.misses)) shape two.missed in
    let miss = is_store_miss (place_of_plain (shape_of old) word) in
    let late = two.misses ++ two.last ∷ [] in
    let parts : one.part ++ late ≡ (one.part ++ two.misses) ++ two.last ∷ [] = sym (append_assoc one.part two.misses (two.last ∷ [])) in
    let By : List Made → Type 0 = λ part. Adds old new part in
    let Piece : List Made → Type 0 = λ part. IsPiece old part in
    let Events : List Happened → Type 0 = λ events. AreStoreEvents (is_event_word word) word value two.last.found events in
    record {
      misses = one.part ++ two.misses;
      last = two.last;
      adds = subst By parts (adds_join old mid new one.part late one.adds two.adds);
      missed = list_all-append miss one.part two.misses ∙ and_true (list_all miss one.part) (list_all miss two.misses) one.missed missed;
      last_is = two.last_is ∙ ap (λ shape. RamPut (place_of_plain shape word) two.last.found value) shape;
      left_is = two.left_is;
      local_is = two.local_is ∙ one.local_is;
      none_taken =
          ap takes_none (sym parts) ∙ list_all-append (λ made. is_none made.tables) one.part late ∙ and_true (takes_none one.part) (takes_none late) one.none_taken two.none_taken;
      events =
          subst Events (sym (events_then old mid one.part late one.adds) ∙ ap (part_events old) parts)
          (store_events_join (is_event_word word) word value two.last.found (part_events old one.part) (part_events mid late) one.events two.events);
      piece = subst Piece parts (piece_then old mid one.part late one.adds one.piece two.piece);
    }

-- One look, and one try.

pub miss_of_reads : (b : Bool) (word : PlainWord) (found : ℕ) → AreMissEvents b word (if_event b (read_of word found))
miss_of_reads true word found = All-cons (λ happened. happened.event ≡ Read (Word word)) (read_of word found) [] refl (All-nil (λ happened. happened.event ≡ Read (Word word)))
miss_of_reads false word found = refl

unfoldable pub look_misses : (old mid : Seen) (word : PlainWord) (index found : ℕ) → IsTrue (has_plain (shape_of old) word) → index ≡ place_of_plain (shape_of old) word → plain_at (shape_of old) index ≡ word → AddsStep old mid (RamLook index) found → MissesStore old mid word
look_misses old mid word index found there is back add =
    let made = made_by old (RamLook index) found add.tables in
    let place = place_of_plain (shape_of old) word in
    let none : IsTrue (is_none add.tables) = handed_none (RamLook index) found old add.tables refl add.handed in
    let Events : List Happened → Type 0 = λ events. AreMissEvents (is_event_word word) word events in
    let at : plain_at (shape_of old) place ≡ word = ap (plain_at (shape_of old)) (sym is) ∙ back in
    record {
      part = made ∷ [];
      adds = add.adds;
      missed = and_true (index == place && true) true (and_true (index == place) true (eq-eqb index place is) refl) refl;
      local_is = ap (λ seen. seen.local) add.adds.new_is;
      none_taken = and_true (is_none add.tables) true none refl;
      events = subst Events (sym (look_events old made word there at (ap RamLook is))) (miss_of_reads (is_event_word word) word found);
      piece = piece_one old made refl refl;
    }

-- a try goes by what the look before it found
pub looked_known : (old mid : Seen) (index seen value : ℕ) → AddsStep old mid (RamLook index) seen → IsTrue (goes_by_known mid (RamPut index seen value))
looked_known old mid index seen value add =
    let made = made_by old (RamLook index) seen add.tables in
    let is : known (shape_of old) old.actor (old.own ++ made ∷ []) (Plain index) ≡ Some seen
    = known_by_last (shape_of old) old.actor old.own made (Plain index) (on_own (shape_of old) old.actor (Plain index) made refl) in
    ap (λ told. goes_by_known told (RamPut index seen value)) add.adds.new_is ∙ ap (is_number seen) is ∙ eq-eqb seen seen refl

pub try_misses :
    (mid new : Seen) (word : PlainWord) (index seen value found : ℕ) → index ≡ place_of_plain (shape_of mid) word → (found == seen) ≡ false → IsTrue (goes_by_known mid (RamPut index seen value)) → AddsStep mid new (RamPut index seen value) found
    → MissesStore mid new word
try_misses mid new word index seen value found is late known add =
    let made = made_by mid (RamPut index seen value) found add.tables in
    let place = place_of_plain (shape_of mid) word in
    let none : IsTrue (is_none add.tables) = handed_none (RamPut index seen value) found mid add.tables refl add.handed in
    let Events : List Happened → Type 0 = λ events. AreMissEvents (is_event_word word) word events in
    record {
      part = made ∷ [];
      adds = add.adds;
      missed = and_true (index == place && not (found == seen)) true (and_true (index == place) (not (found == seen)) (eq-eqb index place is) (ap not late)) refl;
      local_is = ap (λ seen. seen.local) add.adds.new_is ∙ store_local mid index seen value found;
      none_taken = and_true (is_none add.tables) true none refl;
      events = subst Events (sym (late_events mid made index seen value refl late)) (no_events (is_event_word word));
      piece = piece_one mid made refl known;
    }
  where
    no_events : (b : Bool) → AreMissEvents b word []
    no_events true = All-nil (λ happened. happened.event ≡ Read (Word word))
    no_events false = refl

unfoldable pub try_stores :
    (mid new : Seen) (word : PlainWord) (index seen value found : ℕ) → IsTrue (has_plain (shape_of mid) word) → index ≡ place_of_plain (shape_of mid) word → plain_at (shape_of mid) index ≡ word → (found == seen) ≡ true
    → IsTrue (goes_by_known mid (RamPut index seen value)) → AddsStep mid new (RamPut index seen value) found → Stores mid new word value
try_stores mid new word index seen value found there is back e known add =
    let made = made_by mid (RamPut index seen value) found add.tables in
    let place = place_of_plain (shape_of mid) word in
    let same : found ≡ seen = eqb-true found seen e in
    let at : plain_at (shape_of mid) place ≡ word = ap (plain_at (shape_of mid)) (sym is) ∙ back in
    let step : RamPut index seen value ≡ RamPut place found value = ap (λ index. RamPut index seen value) is ∙ ap (λ seen. RamPut place seen value) (sym same) in
    let none : IsTrue (is_none add.tables) = handed_none (RamPut index seen value) found mid add.tables refl add.handed in
    let Events : List Happened → Type 0 = λ events. AreStoreEvents (is_event_word word) word value found events in
    record {
      misses = [];
      last = made;
      adds = add.adds;
      missed = refl;
      last_is = step;
      left_is = ap (λ b. if b then value else found) e;
      local_is = ap (λ seen. seen.local) add.adds.new_is ∙ store_local mid index seen value found;
      none_taken = and_true (is_none add.tables) true none refl;
      events = subst Events (sym (put_events mid made word value there at step)) (one_put (is_event_word word));
      piece = piece_one mid made refl known;
    }
  where
    one_put : (b : Bool) → AreStoreEvents b word value found (if_event b (put_of word value found))
    one_put true = record { reads = []; are_reads = All-nil (λ happened. happened.event ≡ Read (Word word)); split = refl }
    one_put false = refl

-- a look and a try
pub tries :
    (old mid new : Seen) (word : PlainWord) (index seen value found : ℕ) → IsTrue (has_plain (shape_of old) word) → index ≡ place_of_plain (shape_of old) word → plain_at (shape_of old) index ≡ word
    → AddsStep old mid (RamLook index) seen → AddsStep mid new (RamPut index seen value) found → TriesStore old new word value (found == seen)
tries old mid new word index seen value found there is back look add = of (found == seen) refl
  where
    shape : shape_of old ≡ shape_of mid
    shape = sym (ap shape_of look.adds.new_is)

    looked : MissesStore old mid word
    looked = look_misses old mid word index seen there is back look

    known_so : IsTrue (goes_by_known mid (RamPut index seen value))
    known_so = looked_known old mid index seen value look

    at : index ≡ place_of_plain (shape_of mid) word
    at = is ∙ ap (λ shape. place_of_plain shape word) shape

    of : (b : Bool) → (found == seen) ≡ b → TriesStore old new word value b
    of true e =
        misses_then_stores old mid new word value looked
        (try_stores mid new word index seen value found (subst (λ shape. IsTrue (has_plain shape word)) shape there) at (ap (λ shape. plain_at shape index) (sym shape) ∙ back) e known_so add)
    of false e = misses_join old mid new word looked (try_misses mid new word index seen value found at e known_so add)

-- Tries, one after the other.

pub tried_stores : (old mid new : Seen) (word : PlainWord) (value : ℕ) (took : Bool) → took ≡ true → MissesStore old mid word → TriesStore mid new word value took → Stores old new word value
tried_stores old mid new word value took e one two = misses_then_stores old mid new word value one (subst (TriesStore mid new word value) e two)

pub tried_misses : (old mid new : Seen) (word : PlainWord) (value : ℕ) (took : Bool) → took ≡ false → MissesStore old mid word → TriesStore mid new word value took → MissesStore old new word
tried_misses old mid new word value took e one two = misses_join old mid new word one (subst (TriesStore mid new word value) e two)

-- What is known of the queue stays.

apart : (n i : ℕ) → (n + 2 + i == n) ≡ false
apart n i = grind (arith, common_steps)

off_queue : (shape : GuestShape) (actor place : ℕ) (step : CoreStep) → IsTrue (is_store_step place step) → (place_of_word shape (word_of shape actor step) == place_of_word shape Queue) ≡ false
off_queue shape actor place (RamLook index) h = apart (interrupt_count shape) index
off_queue shape actor place (RamPut index seen value) h = apart (interrupt_count shape) index
off_queue shape actor place _ h = absurd (cc)

misses_off : (shape : GuestShape) (actor place : ℕ) (part : List Made) → IsTrue (list_all (is_store_miss place) part) → IsTrue (are_off shape actor Queue part)
misses_off shape actor place [] h = refl
misses_off shape actor place (made ∷ part) h =
    let parts = and_parts (is_store_miss place made) (list_all (is_store_miss place) part) h in
    let step = and_parts (is_store_step place made.step) (stores_not made.step made.found) parts.0 in
    and_true (if is_on shape actor Queue made then false else true) (are_off shape actor Queue part) (ap (λ b. if b then false else true) (off_queue shape actor place made.step step.0)) (misses_off shape actor place part parts.1)

may_by : (b : Bool) (shape : GuestShape) (actor : ℕ) (local : Local) (own part : List Made) → IsTrue (are_off shape actor Queue part) → CanPut b shape actor local own → CanPut b shape actor local (own ++ part)
may_by true shape actor local own part off may =
    record { turn = may.turn; runs = record { word = may.runs.word; known_as = known_kept shape actor Queue own part off ∙ may.runs.known_as; runs = may.runs.runs } }
may_by false shape actor local own part off may = tt

pub may_kept : (old now : Seen) (word : PlainWord) → MissesStore old now word → MayStore old word → MayStore now word
may_kept old now word misses may =
    let shape = shape_of old in
    let b = not (is_event_word word) in
    let kept = may_by b shape old.actor old.local old.own misses.part (misses_off shape old.actor (place_of_plain shape word) misses.part misses.missed) may.fault in
    let May : Local → Type 0 = λ local. CanPut b shape old.actor local (old.own ++ misses.part) in
    let local : (seen_after old misses.part).local ≡ old.local = ap (λ seen. seen.local) (sym misses.adds.new_is) ∙ misses.local_is in
    subst (λ seen. MayStore seen word) (sym misses.adds.new_is) (record { fault = subst May (sym local) kept; lines = λ e. ap has_all_shut local ∙ may.lines e })

-- a word that may be stored may be stored at its place
pub put_may : (seen : Seen) (word : PlainWord) (index : ℕ) → IsTrue (has_plain (shape_of seen) word) → index ≡ place_of_plain (shape_of seen) word → MayStore seen word → CanPutWord (shape_of seen) seen.actor seen.local seen.own index
put_may seen word index there is may =
    let shape = shape_of seen in
    let Put : Bool → Type 0 = λ b. CanPut b shape seen.actor seen.local seen.own in
    record {
      fault = subst Put (sym (ap (λ i. i == fault_place shape) is ∙ fault_is shape word there)) may.fault;
      lines = λ e. may.lines (sym (ap (λ i. i == its_ctlr_place shape) is ∙ ctlr_is shape word there) ∙ e);
    }

-- a word that keeps no fault and is not GITS_CTLR may be stored by anyone
pub may_any : (seen : Seen) (word : PlainWord) → is_event_word word ≡ true → is_its_ctlr word ≡ false → MayStore seen word
may_any seen word kept other =
    let Put : Bool → Type 0 = λ b. CanPut (not b) (shape_of seen) seen.actor seen.local seen.own in
    record { fault = subst Put (sym kept) tt; lines = λ e. absurd (both_ways (is_its_ctlr word) other e) }

-- the exchange after a look at it
pub can_put :
    (old mid : Seen) (word : PlainWord) (index found value : ℕ) → IsTrue (has_plain (shape_of old) word) → index ≡ place_of_plain (shape_of old) word → plain_at (shape_of old) index ≡ word → index < plain_count (shape_of old) → value < 2 ^ 64
    → MayStore old word → AddsStep old mid (RamLook index) found → CanMake mid (RamPut index found value)
can_put old mid word index found value there is back within fits may look =
    let shape : shape_of old ≡ shape_of mid = sym (ap shape_of look.adds.new_is) in
    record {
      can = (subst (λ shape. index < plain_count shape) shape within, fits);
      seen_is = tt;
      meets = put_may mid word index (subst (λ shape. IsTrue (has_plain shape word)) shape there) (is ∙ ap (λ shape. place_of_plain shape word) shape) (may_kept old mid word (look_misses old mid word index found there is back look) may);
      tables = refl;
    }

pub no_miss : (seen : Seen) (word : PlainWord) → MissesStore seen seen word
no_miss seen word =
    record { part = []; adds = record { new_is = sym (seen_nil seen) }; missed = refl; local_is = refl; none_taken = refl; events = none (is_event_word word); piece = piece_nil seen }
  where
    none : (b : Bool) → AreMissEvents b word []
    none true = All-nil (λ happened. happened.event ≡ Read (Word word))
    none false = refl
