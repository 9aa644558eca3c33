-- The doublewords of a command, one after the other.
use Rattle.std.proofs.Common.{◌≡◌, ◌≢◌, ℕ, zero, suc, ◌^◌, slice_index, ◌+◌, ◌-◌, ◌*◌, ◌/◌, ◌%◌, ◌<◌, ◌≤◌, ◌⊎◌, inl, inr, ◌==◌, ◌&&◌, ◌||◌, not, Bool, true, false, nat_lt, nat_le, unwrap_or, if◌then◌else◌, IsTrue, List, [], ◌∷◌, ◌++◌, map, All, Option, Some, None, refl, sym, ap, subst, ◌∙◌, arith}
use Rattle.std.specs.List.{list_all, list_any}
use Rattle.std.specs.Option.{option_map_or}
use Rattle.std.proofs.lemmas.Bool.{and_parts, eq-eqb, eqb-true, lt-ltb, le-ltb, le-leb, cases_lt, ltb-true, leb-true}
use Rattle.std.proofs.lemmas.List.{append_assoc}
use Rattle.std.proofs.lemmas.List.Elements.{All-append, All-nil, All-cons, All-head, All-tail}
use Rattle.port_call.specs.Words.{GuestShape, Lpi}
use Rattle.port_call.specs.Calls.{place_of_plain, PlainWord, Ram, ItsCtlr, Cbaser, Cwriter, Found, Place, Happened, IsLastRead, held_at, memory_places, View, memory_at, queue_address}
use Rattle.port_call.specs.Registers.{Part, part_of, is_within, extracted}
use Rattle.port_call.specs.GicCall.declared.event.Event.TheVariants.{Read}
use Rattle.port_call.specs.GicCall.declared.event.Found.TheVariants.{Word as FoundWord}
use Rattle.port_call.specs.GicCall.declared.event.Place.TheVariants.{Word, Queue as QueuePlace}
use Rattle.port_call.specs.Core.{has_all_shut, Made, CoreStep, RamLook, WordId, Irq, Plain, is_on, ends_command, place_of_word, Seen, Adds, shape_of, part_events, word_of}
use Rattle.port_call.specs.Memory.{view_by, read_as, memory_looks, ReadsMemory}
use Rattle.port_call.specs.Piece.{steps_of, takes_none}
use Rattle.port_call.specs.Plain.{ReadsPlain}
use Rattle.port_call.proofs.KnownLemmas.{are_off}
use Rattle.port_call.proofs.MemoryLemmas.{reads_in}
use Rattle.port_call.proofs.TurnLemmas.{events_then}
use Rattle.its_exec.specs.declared.known.KnownQueue.{KnownQueue}
use Rattle.its_exec.specs.Config.{HoldsCommand}
use Rattle.its_exec.specs.Known.{Knows, KnowsQueue, KnowsDoubleword, HasRead, Fetches, KnowsSame, Reading, is_read, keeps_read, is_look_of, looks_at}
use Rattle.its_exec.proofs.FrameLemmas.{both, word_of_place, since_last, knows_by, Leaves, leaves, knows_on, same_by, within_by, going_by, looks_early, looks_late, any_step, untouched_on, all_steps, off_each}
use Rattle.its_exec.proofs.LookLemmas.{plain_known, reading_joins, reading_none, plain_apart, queue_apart, plain_lpi_apart}

-- Last reads.

pub no_read : Place → List Happened → Type 0
no_read place events = All (λ happened. happened.event ≡ Read place → ⊥) events

pub last_before : (place : Place) (found : Found) (before piece : List Happened) → IsLastRead place found before → All (λ happened. happened.event ≡ Read place → ⊥) piece → IsLastRead place found (before ++ piece)
last_before place found before piece read none =
    record {
      before = read.before;
      after = read.after ++ piece;
      split = ap (λ events. events ++ piece) read.split ∙ append_assoc read.before ((record { event = Read place; found = found }) ∷ read.after) piece;
      last = All-append (λ happened. happened.event ≡ Read place → ⊥) read.after piece read.last none;
    }

pub last_after : (place : Place) (found : Found) (before piece : List Happened) → IsLastRead place found piece → IsLastRead place found (before ++ piece)
last_after place found before piece read =
    record {
      before = before ++ read.before;
      after = read.after;
      split = ap (λ events. before ++ events) read.split ∙ sym (append_assoc before read.before ((record { event = Read place; found = found }) ∷ read.after));
      last = read.last;
    }

pub last_one : (place : Place) (found : Found) → IsLastRead place found ((record { event = Read place; found = found }) ∷ [])
last_one place found = record { before = []; after = []; split = refl; last = All-nil (λ happened. happened.event ≡ Read place → ⊥) }

-- what was read stays so, over events without a read of the place
pub read_stays : (old new : Seen) (place : Place) (before piece : List Happened) → KnowsSame old new place → All (λ happened. happened.event ≡ Read place → ⊥) piece → HasRead old place before → HasRead new place (before ++ piece)
read_stays old new place before piece left none has =
    let By : Found → Type 0 = λ found. IsLastRead place found (before ++ piece) in
    record { known = left.known ∙ has.known; last = subst By (sym left.held) (last_before place (held_at (view_by old) place) before piece has.last none) }

pub read_after : (seen : Seen) (place : Place) (before piece : List Happened) → HasRead seen place piece → HasRead seen place (before ++ piece)
read_after seen place before piece has = record { known = has.known; last = last_after place (held_at (view_by seen) place) before piece has.last }

-- The word of a doubleword.

abbrev pub whole_word : ℕ → Part
whole_word index = record { index = index; shift = 0; bits = 64 }

pub doubleword_part : (w n ram : ℕ) → ram % 8 ≡ 0 → part_of (8 * w + 8 * n) 8 ram ≡ (if nat_lt (w + n) (ram / 8) then Some (whole_word (w + n)) else None)
doubleword_part w n ram whole =
    let a = 8 * w + 8 * n in
    let aligned : (a % 8 == 0) ≡ true = eq-eqb (a % 8) 0 (omega arith) in
    let index : a / 8 ≡ w + n = omega arith in
    let shift : 8 * (a % 8) ≡ 0 = omega arith in
    let within : nat_le (a + 8) ram ≡ nat_lt (w + n) (ram / 8) = elim (cases_lt (w + n) (ram / 8)) [
      | inl small ↦ le-leb (a + 8) ram (omega (arith, whole)) ∙ sym (lt-ltb (w + n) (ram / 8) small)
      | inr large ↦ leb_false (a + 8) ram (omega (arith, whole)) ∙ sym (le-ltb (w + n) (ram / 8) large)
    ] in
    let made : ℕ → ℕ → Part = λ i s. record { index = i; shift = s; bits = 64 } in
    ap (λ b. if b && nat_le (a + 8) ram then Some (made (a / 8) (8 * (a % 8))) else None) aligned
    ∙ ap (λ b. if b then Some (made (a / 8) (8 * (a % 8))) else None) within
    ∙ ap (λ i. if nat_lt (w + n) (ram / 8) then Some (made i (8 * (a % 8))) else None) index
    ∙ ap (λ s. if nat_lt (w + n) (ram / 8) then Some (made (w + n) s) else None) shift
  where
    leb_false : (m n : ℕ) → n < m → nat_le m n ≡ false
    leb_false m n h = grind arith

-- what is read there
memory_by : GuestShape → View → Option Part → ℕ
memory_by shape view part = option_map_or (λ part. extracted (view.words (Ram part.index)) part) part 0

pub memory_same :
    (shape : GuestShape) (old new : Seen) (w n : ℕ) → shape.ram % 8 ≡ 0 → (w + n < shape.ram / 8 → Leaves old new (Word (Ram (w + n)))) → memory_at shape (view_by new) (8 * w + 8 * n) 8 ≡ memory_at shape (view_by old) (8 * w + 8 * n) 8
unfolding memory_by
memory_same shape old new w n whole left =
    ap (memory_by shape (view_by new)) (doubleword_part w n shape.ram whole) ∙ of (cases_lt (w + n) (shape.ram / 8)) ∙ sym (ap (memory_by shape (view_by old)) (doubleword_part w n shape.ram whole))
  where
    by_test : Seen → Bool → ℕ
    by_test seen b = memory_by shape (view_by seen) (if b then Some (whole_word (w + n)) else None)

    of : (w + n < shape.ram / 8) ⊎ (shape.ram / 8 ≤ w + n) → by_test new (nat_lt (w + n) (shape.ram / 8)) ≡ by_test old (nat_lt (w + n) (shape.ram / 8))
    of (inl small) =
        let yes = lt-ltb (w + n) (shape.ram / 8) small in
        ap (by_test new) yes ∙ ap (λ o. extracted (unwrap_or o 0) (whole_word (w + n))) (left small).same ∙ sym (ap (by_test old) yes)
    of (inr large) = let no = le-ltb (w + n) (shape.ram / 8) large in ap (by_test new) no ∙ sym (ap (by_test old) no)

-- One look.

-- the look of a doubleword, if it is in the memory
looks_are : (shape : GuestShape) (w n : ℕ) → shape.ram % 8 ≡ 0 → memory_looks shape (8 * w + 8 * n) 8 ≡ (if nat_lt (w + n) (shape.ram / 8) then RamLook (w + n) ∷ [] else [])
looks_are shape w n whole =
    ap (λ o. option_map_or (λ part. RamLook part.index ∷ []) o []) (doubleword_part w n shape.ram whole) ∙ of (nat_lt (w + n) (shape.ram / 8))
  where
    of : (b : Bool) → option_map_or (λ part. RamLook part.index ∷ []) (if b then Some (whole_word (w + n)) else None) [] ≡ (if b then RamLook (w + n) ∷ [] else [])
    of true = refl
    of false = refl

pub places_are : (shape : GuestShape) (w n : ℕ) → shape.ram % 8 ≡ 0 → memory_places shape (8 * w + 8 * n) 8 ≡ (if nat_lt (w + n) (shape.ram / 8) then Word (Ram (w + n)) ∷ [] else [])
places_are shape w n whole = ap (λ o. option_map_or (λ part. Word (Ram part.index) ∷ []) o []) (doubleword_part w n shape.ram whole) ∙ of (nat_lt (w + n) (shape.ram / 8))
  where
    of : (b : Bool) → option_map_or (λ part. Word (Ram part.index) ∷ []) (if b then Some (whole_word (w + n)) else None) [] ≡ (if b then Word (Ram (w + n)) ∷ [] else [])
    of true = refl
    of false = refl

-- it is a look at one word of the memory, or there is none
abbrev pub is_look_at : ℕ → CoreStep → Bool
is_look_at place (RamLook index) = index == place
is_look_at place step = false

look_steps : (shape : GuestShape) (w n : ℕ) (part : List Made) → shape.ram % 8 ≡ 0 → steps_of part ≡ memory_looks shape (8 * w + 8 * n) 8 → IsTrue (list_all (λ made. is_look_at (w + n) made.step) part)
look_steps shape w n part whole e = sym (all_steps (is_look_at (w + n)) part) ∙ ap (list_all (is_look_at (w + n))) (e ∙ looks_are shape w n whole) ∙ of (nat_lt (w + n) (shape.ram / 8))
  where
    of : (b : Bool) → list_all (is_look_at (w + n)) (if b then RamLook (w + n) ∷ [] else []) ≡ true
    of true = ap (λ b. b && true) (eq-eqb (w + n) (w + n) refl)
    of false = refl

look_apart : (shape : GuestShape) (actor : ℕ) (word : WordId) (place : ℕ) → (place_of_word shape (Plain place) == place_of_word shape word) ≡ false → (step : CoreStep) → IsTrue (is_look_at place step)
    → (place_of_word shape (word_of shape actor step) == place_of_word shape word) ≡ false
look_apart shape actor word place apart (RamLook index) h = ap (λ i. place_of_word shape (Plain i) == place_of_word shape word) (eqb-true index place h) ∙ apart
look_apart shape actor word place apart _ h = absurd (cc)

look_ends_none : (place : ℕ) (part : List Made) → IsTrue (list_all (λ made. is_look_at place made.step) part) → IsTrue (list_all (λ made. not (ends_command made.step)) part)
look_ends_none place [] h = refl
look_ends_none place (made ∷ part) h =
    let parts = and_parts (is_look_at place made.step) (list_all (λ made. is_look_at place made.step) part) h in
    both (not (ends_command made.step)) (list_all (λ made. not (ends_command made.step)) part) (of made.step parts.0) (look_ends_none place part parts.1)
  where
    of : (step : CoreStep) → IsTrue (is_look_at place step) → IsTrue (not (ends_command step))
    of (RamLook index) k = refl
    of _ k = absurd (cc)

look_keeps : (place : ℕ) (part : List Made) → IsTrue (list_all (λ made. is_look_at place made.step) part) → IsTrue (list_all (λ made. keeps_read made.step) part)
look_keeps place [] h = refl
look_keeps place (made ∷ part) h =
    let parts = and_parts (is_look_at place made.step) (list_all (λ made. is_look_at place made.step) part) h in
    both (keeps_read made.step) (list_all (λ made. keeps_read made.step) part) (of made.step parts.0) (look_keeps place part parts.1)
  where
    of : (step : CoreStep) → IsTrue (is_look_at place step) → IsTrue (keeps_read step)
    of (RamLook index) k = refl
    of _ k = absurd (cc)

all_reads : (view : View) (places : List Place) → IsTrue (list_all is_read (map (read_as view) places))
all_reads view [] = refl
all_reads view (place ∷ places) = all_reads view places

pub reading_memory : (old new : Seen) (w n value : ℕ) → (shape_of old).ram % 8 ≡ 0 → (reads : ReadsMemory old new (8 * w + 8 * n) 8 value) → Reading old new reads.part
reading_memory old new w n value whole reads =
    let steps = look_steps (shape_of old) w n reads.part whole reads.steps_are in
    record {
      adds = reads.adds;
      local = reads.local_is;
      within = within_by reads.part reads.none_taken (look_ends_none (w + n) reads.part steps);
      going = going_by reads.part reads.none_taken (look_keeps (w + n) reads.part steps);
      reads = ap (list_all is_read) reads.events ∙ all_reads (view_by new) (memory_places (shape_of old) (8 * w + 8 * n) 8);
      untouched = λ id there is.
          untouched_on old new reads.part id reads.adds (within_by reads.part reads.none_taken (look_ends_none (w + n) reads.part steps))
          (off_each (shape_of old) old.actor (Irq (Lpi id)) (is_look_at (w + n)) (look_apart (shape_of old) old.actor (Irq (Lpi id)) (w + n) (plain_lpi_apart (shape_of old) (w + n) id there)) reads.part steps) is;
      piece = reads.piece;
    }

pub memory_leaves : (old new : Seen) (w n value : ℕ) (place : Place) → (shape_of old).ram % 8 ≡ 0 → ReadsMemory old new (8 * w + 8 * n) 8 value
    → (place_of_word (shape_of old) (Plain (w + n)) == place_of_word (shape_of old) (word_of_place (shape_of old) place)) ≡ false → Leaves old new place
memory_leaves old new w n value place whole reads apart =
    leaves old new reads.part place reads.adds reads.none_taken
    (off_each (shape_of old) old.actor (word_of_place (shape_of old) place) (is_look_at (w + n)) (look_apart (shape_of old) old.actor (word_of_place (shape_of old) place) (w + n) apart) reads.part (look_steps (shape_of old) w n reads.part whole reads.steps_are))

-- What was fetched so far.

-- the first doublewords of the command at an address were read
pub record Fetching (old now : Seen) (queue : KnownQueue) (w count : ℕ) : Type 0 where
  pub part : List Made
  pub reading : Reading old now part
  pub has : (n : ℕ) → n < count → w + n < (shape_of old).ram / 8 → HasRead now (Word (Ram (w + n))) (part_events old part)
  pub looked : 0 < count → w < (shape_of old).ram / 8 → IsTrue (looks_at w part)
  pub knows : KnowsQueue now queue

pub fetching_none : (old : Seen) (queue : KnownQueue) (w : ℕ) → KnowsQueue old queue → Fetching old old queue w 0
fetching_none old queue w knows =
    record { part = []; reading = reading_none old; has = λ n small inside. absurd (omega (arith, small)); looked = λ some inside. absurd (omega (arith, some)); knows = knows }

-- the look at a doubleword in the memory reads it, and nothing else
one_step : (part : List Made) (step : CoreStep) → steps_of part ≡ step ∷ [] → (look : Made) × ((part ≡ look ∷ []) × (look.step ≡ step))
one_step [] step e = absurd (cc)
one_step (look ∷ []) step e = (look, (refl, cc))
one_step (look ∷ other ∷ part) step e = absurd (cc)

is_there : (shape : GuestShape) (w n : ℕ) → w + n < shape.ram / 8 → nat_lt (w + n) (shape.ram / 8) ≡ true
is_there shape w n inside = lt-ltb (w + n) (shape.ram / 8) inside

read_inside : (old new : Seen) (w n value : ℕ) → (shape_of old).ram % 8 ≡ 0 → (reads : ReadsMemory old new (8 * w + 8 * n) 8 value) → w + n < (shape_of old).ram / 8 → HasRead new (Word (Ram (w + n))) (part_events old reads.part)
read_inside old new w n value whole reads inside =
    let shape = shape_of old in
    let place : Place = Word (Ram (w + n)) in
    let yes = is_there shape w n inside in
    let steps : steps_of reads.part ≡ RamLook (w + n) ∷ [] = reads.steps_are ∙ looks_are shape w n whole ∙ ap (λ b. if b then RamLook (w + n) ∷ [] else []) yes in
    let one = one_step reads.part (RamLook (w + n)) steps in
    let Adds_by : List Made → Type 0 = λ part. Adds old new part in
    let None_by : List Made → Type 0 = λ part. IsTrue (takes_none part) in
    let on : is_on shape old.actor (Plain (w + n)) one.0 ≡ true
    = ap (λ step. place_of_word shape (word_of shape old.actor step) == place_of_word shape (Plain (w + n))) one.1.1 ∙ eq-eqb (place_of_word shape (Plain (w + n))) (place_of_word shape (Plain (w + n))) refl in
    let last = since_last old new one.0 (Plain (w + n)) (subst Adds_by one.1.0 reads.adds) (subst None_by one.1.0 reads.none_taken) on in
    let events : part_events old reads.part ≡ read_as (view_by new) place ∷ []
    = reads.events ∙ ap (map (read_as (view_by new))) (places_are shape w n whole ∙ ap (λ b. if b then place ∷ [] else []) yes) in
    let By : List Happened → Type 0 = λ events. IsLastRead place (held_at (view_by new) place) events in
    record { known = (knows_by new place one.0.left last).known; last = subst By (sym events) (last_one place (held_at (view_by new) place)) }

-- it reads no other word
other_read : (view : View) (place other : Place) (places : List Place) → All (λ p. p ≢ other) places → All (λ happened. happened.event ≡ Read other → ⊥) (map (read_as view) places)
other_read view place other [] none = All-nil (λ happened. happened.event ≡ Read other → ⊥)
other_read view place other (p ∷ places) none =
    All-cons (λ happened. happened.event ≡ Read other → ⊥) (read_as view p) (map (read_as view) places) (λ e. All-head (λ p. p ≢ other) p places none (cc)) (other_read view place other places (All-tail (λ p. p ≢ other) p places none))

reads_other : (old new : Seen) (w n k value : ℕ) → (shape_of old).ram % 8 ≡ 0 → (reads : ReadsMemory old new (8 * w + 8 * n) 8 value) → k ≢ n → All (λ happened. happened.event ≡ Read (Word (Ram (w + k))) → ⊥) (part_events old reads.part)
reads_other old new w n k value whole reads differ =
    let shape = shape_of old in
    let other : Place = Word (Ram (w + k)) in
    let By : List Happened → Type 0 = λ events. All (λ happened. happened.event ≡ Read other → ⊥) events in
    subst By (sym (reads.events ∙ ap (map (read_as (view_by new))) (places_are shape w n whole))) (of (nat_lt (w + n) (shape.ram / 8)))
  where
    apart : (i j : ℕ) → Word (Ram i) ≡ Word (Ram j) → i ≡ j
    apart i j e = cc

    of : (b : Bool) → All (λ happened. happened.event ≡ Read (Word (Ram (w + k))) → ⊥) (map (read_as (view_by new)) (if b then Word (Ram (w + n)) ∷ [] else []))
    of true =
        other_read (view_by new) (Word (Ram (w + n))) (Word (Ram (w + k))) (Word (Ram (w + n)) ∷ [])
        (All-cons (λ p. p ≢ Word (Ram (w + k))) (Word (Ram (w + n))) [] (λ e. differ (omega (arith, apart (w + n) (w + k) e))) (All-nil (λ p. p ≢ Word (Ram (w + k)))))
    of false = All-nil (λ happened. happened.event ≡ Read (Word (Ram (w + k))) → ⊥)

-- one more
memory_leaves_ram : (old new : Seen) (w n k value : ℕ) → (shape_of old).ram % 8 ≡ 0 → ReadsMemory old new (8 * w + 8 * n) 8 value → k ≢ n → Leaves old new (Word (Ram (w + k)))
memory_leaves_ram old new w n k value whole reads differ =
    memory_leaves old new w n value (Word (Ram (w + k))) whole reads (plain_apart (shape_of old) (w + n) (w + k) (λ e. differ (omega (arith, e))))

-- the registers of the queue come after the memory
memory_leaves_its : (old new : Seen) (w n value : ℕ) (word : PlainWord) → (shape_of old).ram % 8 ≡ 0 → ReadsMemory old new (8 * w + 8 * n) 8 value → (shape_of old).ram / 8 ≤ place_of_plain (shape_of old) word → Leaves old new (Word word)
memory_leaves_its old new w n value word whole reads after = of (cases_lt (w + n) ((shape_of old).ram / 8))
  where
    shape : GuestShape
    shape = shape_of old

    none : (part : List Made) → steps_of part ≡ [] → part ≡ []
    none [] e = refl
    none (made ∷ part) e = absurd (cc)

    of : (w + n < (shape_of old).ram / 8) ⊎ ((shape_of old).ram / 8 ≤ w + n) → Leaves old new (Word word)
    of (inl small) = memory_leaves old new w n value (Word word) whole reads (plain_apart (shape_of old) (w + n) (place_of_plain (shape_of old) word) (λ e. omega (arith, e, small, after)))
    of (inr large) =
        let empty = none reads.part (reads.steps_are ∙ looks_are (shape_of old) w n whole ∙ ap (λ b. if b then RamLook (w + n) ∷ [] else []) (le-ltb (w + n) ((shape_of old).ram / 8) large)) in
        leaves old new reads.part (Word word) reads.adds reads.none_taken (ap (are_off (shape_of old) old.actor (Plain (place_of_plain (shape_of old) word))) empty)

knows_after : (old new : Seen) (w n value : ℕ) (queue : KnownQueue) → (shape_of old).ram % 8 ≡ 0 → ReadsMemory old new (8 * w + 8 * n) 8 value → KnowsQueue old queue → KnowsQueue new queue
knows_after old new w n value queue whole reads knows =
    record {
      place = knows_on old new QueuePlace _ (memory_leaves old new w n value QueuePlace whole reads (queue_apart (shape_of old) (w + n))) knows.place;
      ctlr = knows_on old new (Word ItsCtlr) _ (memory_leaves_its old new w n value ItsCtlr whole reads (omega arith)) knows.ctlr;
      cbaser = knows_on old new (Word Cbaser) _ (memory_leaves_its old new w n value Cbaser whole reads (omega arith)) knows.cbaser;
      cwriter = knows_on old new (Word Cwriter) _ (memory_leaves_its old new w n value Cwriter whole reads (omega arith)) knows.cwriter;
      in_range = knows.in_range;
    }

pub fetching_more : (old now next : Seen) (queue : KnownQueue) (w n value : ℕ) → (shape_of old).ram % 8 ≡ 0 → Fetching old now queue w n → ReadsMemory now next (8 * w + 8 * n) 8 value → Fetching old next queue w (n + 1)
fetching_more old now next queue w n value whole so reads =
    let shape : shape_of now ≡ shape_of old = ap shape_of so.reading.adds.new_is in
    let same : (shape_of now).ram % 8 ≡ 0 = ap (λ shape. shape.ram % 8) shape ∙ whole in
    let there : (k : ℕ) → w + k < (shape_of old).ram / 8 → w + k < (shape_of now).ram / 8 = λ k h. omega (arith, h, ap (λ shape. shape.ram / 8) shape) in
    let events = events_then old now so.part reads.part so.reading.adds in
    let By : ℕ → List Happened → Type 0 = λ k events. HasRead next (Word (Ram (w + k))) events in
    record {
      part = so.part ++ reads.part;
      reading = reading_joins old now next so.part reads.part so.reading (reading_memory now next w n value same reads);
      has = λ k small inside. subst (By k) (sym events) (of k (cases_lt k n) small inside same (there k inside));
      looked = λ some inside. look_in (cases_lt 0 n) inside same (ap (λ shape. shape.ram) shape);
      knows = knows_after now next w n value queue same reads so.knows;
    }
  where
    look_in : (0 < n) ⊎ (n ≤ 0) → w < (shape_of old).ram / 8 → (shape_of now).ram % 8 ≡ 0 → (shape_of now).ram ≡ (shape_of old).ram → IsTrue (looks_at w (so.part ++ reads.part))
    look_in (inl later) inside whole_now same = looks_early w so.part reads.part (so.looked later inside)
    look_in (inr first) inside whole_now same =
        let yes : nat_lt (w + n) ((shape_of now).ram / 8) ≡ true = is_there (shape_of now) w n (omega (arith, first, inside, ap (λ r. r / 8) same)) in
        let steps : steps_of reads.part ≡ RamLook (w + n) ∷ [] = reads.steps_are ∙ looks_are (shape_of now) w n whole_now ∙ ap (λ b. if b then RamLook (w + n) ∷ [] else []) yes in
        looks_late w so.part reads.part (sym (any_step (is_look_of w) reads.part) ∙ ap (list_any (is_look_of w)) steps ∙ ap (λ b. b || false) (eq-eqb (w + n) w (omega (arith, first))))

    of : (k : ℕ) → (k < n) ⊎ (n ≤ k) → k < n + 1 → w + k < (shape_of old).ram / 8 → (shape_of now).ram % 8 ≡ 0 → w + k < (shape_of now).ram / 8 → HasRead next (Word (Ram (w + k))) (part_events old so.part ++ part_events now reads.part)
    of k (inl less) small inside same there =
        read_stays now next (Word (Ram (w + k))) (part_events old so.part) (part_events now reads.part) (same_by now next (Word (Ram (w + k))) (memory_leaves_ram now next w n k value same reads (λ e. omega (arith, e, less)))) (reads_other now next w n k value same reads (λ e. omega (arith, e, less)))
        (so.has k less inside)
    of k (inr more) small inside same there =
        let e : n ≡ k = omega arith in
        let At : ℕ → Type 0 = λ m. HasRead next (Word (Ram (w + m))) (part_events old so.part ++ part_events now reads.part) in
        subst At e (read_after next (Word (Ram (w + n))) (part_events old so.part) (part_events now reads.part) (read_inside now next w n value same reads (omega (arith, there, e))))

-- The whole command.

pub aligned : (cbaser offset : ℕ) → offset % 32 ≡ 0 → 8 * ((queue_address cbaser + offset) / 8) ≡ queue_address cbaser + offset
aligned cbaser offset even = omega (arith, even)

-- what a look found stays so over the looks at the other doublewords
value_stays : (shape : GuestShape) (old new : Seen) (w n k value : ℕ) → shape_of old ≡ shape → shape.ram % 8 ≡ 0 → k ≢ n → ReadsMemory old new (8 * w + 8 * n) 8 value
    → memory_at shape (view_by new) (8 * w + 8 * k) 8 ≡ memory_at shape (view_by old) (8 * w + 8 * k) 8
value_stays shape old new w n k value e whole differ reads =
    memory_same shape old new w k whole (λ inside. memory_leaves_ram old new w n k value (ap (λ shape. shape.ram % 8) e ∙ whole) reads differ)

value_found : (shape : GuestShape) (old new : Seen) (w n value : ℕ) → shape_of old ≡ shape → ReadsMemory old new (8 * w + 8 * n) 8 value → value ≡ memory_at shape (view_by new) (8 * w + 8 * n) 8
value_found shape old new w n value e reads = reads.value_is ∙ ap (λ shape. memory_at shape (view_by new) (8 * w + 8 * n) 8) e

four_words :
    (shape : GuestShape) (s a b c new : Seen) (w k0 k1 k2 k3 : ℕ) → shape_of s ≡ shape → shape_of a ≡ shape → shape_of b ≡ shape → shape_of c ≡ shape → shape.ram % 8 ≡ 0 → ReadsMemory s a (8 * w + 8 * 0) 8 k0 → ReadsMemory a b (8 * w + 8 * 1) 8 k1
    → ReadsMemory b c (8 * w + 8 * 2) 8 k2 → ReadsMemory c new (8 * w + 8 * 3) 8 k3 → (k0 ∷ k1 ∷ k2 ∷ k3 ∷ []) ≡ map (λ number. memory_at shape (view_by new) (8 * w + 8 * number) 8) (0 ∷ 1 ∷ 2 ∷ 3 ∷ [])
four_words shape s a b c new w k0 k1 k2 k3 es ea eb ec whole early one two three =
    let at : Seen → ℕ → ℕ = λ seen n. memory_at shape (view_by seen) (8 * w + 8 * n) 8 in
    let first : k0 ≡ at new 0
    = value_found shape s a w 0 k0 es early
    ∙ sym (value_stays shape c new w 3 0 k3 ec whole (λ e. omega (arith, e)) three ∙ value_stays shape b c w 2 0 k2 eb whole (λ e. omega (arith, e)) two ∙ value_stays shape a b w 1 0 k1 ea whole (λ e. omega (arith, e)) one) in
    let second : k1 ≡ at new 1
    = value_found shape a b w 1 k1 ea one ∙ sym (value_stays shape c new w 3 1 k3 ec whole (λ e. omega (arith, e)) three ∙ value_stays shape b c w 2 1 k2 eb whole (λ e. omega (arith, e)) two) in
    let third : k2 ≡ at new 2 = value_found shape b c w 2 k2 eb two ∙ sym (value_stays shape c new w 3 2 k3 ec whole (λ e. omega (arith, e)) three) in
    let fourth : k3 ≡ at new 3 = value_found shape c new w 3 k3 ec three in
    ap (λ n. n ∷ k1 ∷ k2 ∷ k3 ∷ []) first ∙ ap (λ n. at new 0 ∷ n ∷ k2 ∷ k3 ∷ []) second ∙ ap (λ n. at new 0 ∷ at new 1 ∷ n ∷ k3 ∷ []) third ∙ ap (λ n. at new 0 ∷ at new 1 ∷ at new 2 ∷ n ∷ []) fourth

pub fetches :
    (s a b c new : Seen) (queue : KnownQueue) (address k0 k1 k2 k3 : ℕ) → (shape_of s).ram % 8 ≡ 0 → KnowsQueue s queue → address ≡ queue_address queue.cbaser + queue.offset → ReadsMemory s a (address + 8 * 0) 8 k0 → ReadsMemory a b (address + 8 * 1) 8 k1
    → ReadsMemory b c (address + 8 * 2) 8 k2 → ReadsMemory c new (address + 8 * 3) 8 k3 → Fetches s new queue (record { address = address; words = k0 ∷ k1 ∷ k2 ∷ k3 ∷ [] })
fetches s a b c new queue address k0 k1 k2 k3 whole knows is early one two three =
    let w = address / 8 in
    let same : address ≡ 8 * w = is ∙ sym (aligned queue.cbaser queue.offset knows.in_range.place) ∙ sym (ap (λ n. 8 * (n / 8)) is) in
    let Reads : Seen → Seen → ℕ → ℕ → ℕ → Type 0 = λ x y n value from. ReadsMemory x y (from + 8 * n) 8 value in
    let r0 : ReadsMemory s a (8 * w + 8 * 0) 8 k0 = subst (Reads s a 0 k0) same early in
    let r1 : ReadsMemory a b (8 * w + 8 * 1) 8 k1 = subst (Reads a b 1 k1) same one in
    let r2 : ReadsMemory b c (8 * w + 8 * 2) 8 k2 = subst (Reads b c 2 k2) same two in
    let r3 : ReadsMemory c new (8 * w + 8 * 3) 8 k3 = subst (Reads c new 3 k3) same three in
    let f1 = fetching_more s s a queue w 0 k0 whole (fetching_none s queue w knows) r0 in
    let f2 = fetching_more s a b queue w 1 k1 whole f1 r1 in
    let f3 = fetching_more s b c queue w 2 k2 whole f2 r2 in
    let f4 = fetching_more s c new queue w 3 k3 whole f3 r3 in
    let ea : shape_of a ≡ shape_of s = ap shape_of f1.reading.adds.new_is in
    let eb : shape_of b ≡ shape_of s = ap shape_of f2.reading.adds.new_is in
    let ec : shape_of c ≡ shape_of s = ap shape_of f3.reading.adds.new_is in
    let en : shape_of new ≡ shape_of s = ap shape_of f4.reading.adds.new_is in
    let words = four_words (shape_of s) s a b c new w k0 k1 k2 k3 refl ea eb ec whole r0 r1 r2 r3 in
    record {
      part = f4.part;
      reading = f4.reading;
      address_is = is;
      words_are = words ∙ ap (λ from. map (λ number. memory_at (shape_of s) (view_by new) (from + 8 * number) 8) (0 ∷ 1 ∷ 2 ∷ 3 ∷ [])) (sym same);
      looked = λ inside. f4.looked (omega arith) inside;
      has = record { each = λ index at inside. each w index at (omega (arith, inside, ap (λ shape. shape.ram / 8) en)) f4.has };
      knows = f4.knows;
    }
  where
    each : (w index : ℕ) → IsTrue (nat_le w index && nat_lt index (w + 4)) → index < (shape_of s).ram / 8 → {events : List Happened} → ((n : ℕ) → n < 4 → w + n < (shape_of s).ram / 8 → HasRead new (Word (Ram (w + n))) events)
        → HasRead new (Word (Ram index)) events
    each w index at inside {events} has =
        let parts = and_parts (nat_le w index) (nat_lt index (w + 4)) at in
        let low : w ≤ index = leb-true w index parts.0 in
        let high : index < w + 4 = ltb-true index (w + 4) parts.1 in
        let e : w + (index - w) ≡ index = omega (arith, low) in
        let At : ℕ → Type 0 = λ i. HasRead new (Word (Ram i)) events in
        subst At e (has (index - w) (omega (arith, low, high)) (omega (arith, e, inside)))

-- What is known of the doublewords.

whole_part : (a ram : ℕ) (part : Part) → part_of a 8 ram ≡ Some part → part ≡ record { index = a / 8; shift = 0; bits = 64 }
whole_part a ram part e = of (a % 8 == 0) (is_within a 8 ram) refl e
  where
    of : (b c : Bool) → (a % 8 == 0) ≡ b → (if b && c then Some (record { index = a / 8; shift = 8 * (a % 8); bits = 64 }) else None) ≡ Some part → part ≡ record { index = a / 8; shift = 0; bits = 64 }
    of true true same f =
        let zero_shift : 8 * (a % 8) ≡ 0 = omega (arith, eqb-true (a % 8) 0 same) in
        let made : ℕ → Part = λ s. record { index = a / 8; shift = s; bits = 64 } in
        inner (record { index = a / 8; shift = 8 * (a % 8); bits = 64 }) f ∙ ap made zero_shift
      where
        inner : (other : Part) → Some other ≡ Some part → part ≡ other
        inner other g = cc
    of true false same f = absurd (cc)
    of false c same f = absurd (cc)

pub doubleword_in : (old new : Seen) (a value ram : ℕ) (part : Part) → part_of a 8 ram ≡ Some part → ram ≡ (shape_of old).ram → value < 2 ^ 64 → ReadsPlain old new (Ram part.index) value → ReadsMemory old new a 8 value
doubleword_in old new a value ram part inside same small reads =
    let is = whole_part a ram part inside in
    let From : ℕ → Type 0 = λ ram. part_of a 8 ram ≡ Some part in
    reads_in old new a 8 value value part (subst From same inside) reads (all value small ∙ sym (ap (extracted value) is))
  where
    all : (n : ℕ) → n < 2 ^ 64 → n ≡ n / 2 ^ 0 % 2 ^ 64
    all n h = omega (arith, h)

pub doubleword_known : (old new : Seen) (address n value ram : ℕ) (part : Part) → address % 8 ≡ 0 → part_of (address + 8 * n) 8 ram ≡ Some part → ReadsPlain old new (Ram part.index) value → KnowsDoubleword new address n value
doubleword_known old new address n value ram part even inside reads there =
    let is = ap (λ part. part.index) (whole_part (address + 8 * n) ram part inside) in
    let e : part.index ≡ address / 8 + n = is ∙ omega (arith, even) in
    let At : ℕ → Type 0 = λ i. Knows new (Word (Ram i)) (FoundWord value) in
    subst At e (plain_known old new (Ram part.index) value reads)

pub doubleword_out : (seen : Seen) (address n ram : ℕ) → address % 8 ≡ 0 → ram % 8 ≡ 0 → part_of (address + 8 * n) 8 ram ≡ None → ram ≡ (shape_of seen).ram → KnowsDoubleword seen address n 0
doubleword_out seen address n ram even whole outside same there =
    let w = address / 8 in
    let from : address ≡ 8 * w = omega (arith, even) in
    let yes : nat_lt (w + n) (ram / 8) ≡ true = lt-ltb (w + n) (ram / 8) (omega (arith, there, ap (λ r. r / 8) same)) in
    absurd
    (some_none
    (sym (ap (λ b. if b then Some (whole_word (w + n)) else None) yes) ∙ sym (doubleword_part w n ram whole) ∙ sym (ap (λ a. part_of (a + 8 * n) 8 ram) from) ∙ outside))
  where
    some_none : Some (whole_word (address / 8 + n)) ≡ None → ⊥
    some_none e = cc

known_after : (old new : Seen) (w n k value word : ℕ) → (shape_of old).ram % 8 ≡ 0 → k ≢ n → ReadsMemory old new (8 * w + 8 * n) 8 value → Knows old (Word (Ram (w + k))) (FoundWord word) → Knows new (Word (Ram (w + k))) (FoundWord word)
known_after old new w n k value word whole differ reads knows = knows_on old new (Word (Ram (w + k))) (FoundWord word) (memory_leaves_ram old new w n k value whole reads differ) knows

abbrev KnowsAt : Seen → ℕ → ℕ → ℕ → Type 0
KnowsAt seen w n value = w + n < (shape_of seen).ram / 8 → Knows seen (Word (Ram (w + n))) (FoundWord value)

holds_at :
    (a b c new : Seen) (w k0 k1 k2 k3 n : ℕ) → (shape_of a).ram % 8 ≡ 0 → ReadsMemory a b (8 * w + 8 * 1) 8 k1 → ReadsMemory b c (8 * w + 8 * 2) 8 k2 → ReadsMemory c new (8 * w + 8 * 3) 8 k3 → KnowsAt a w 0 k0 → KnowsAt b w 1 k1 → KnowsAt c w 2 k2
    → KnowsAt new w 3 k3 → n < 4 → w + n < (shape_of new).ram / 8 → Knows new (Word (Ram (w + n))) (FoundWord (slice_index (k0 ∷ k1 ∷ k2 ∷ k3 ∷ []) n))
holds_at a b c new w k0 k1 k2 k3 n whole one two three z0 z1 z2 z3 small there =
    let eb : shape_of b ≡ shape_of a = ap shape_of one.adds.new_is in
    let ec : shape_of c ≡ shape_of a = ap shape_of two.adds.new_is ∙ eb in
    let en : shape_of new ≡ shape_of a = ap shape_of three.adds.new_is ∙ ec in
    let r : GuestShape → ℕ = λ shape. shape.ram in
    of n small (omega (arith, there, ap r en)) (ap (λ m. m % 8) (ap r eb) ∙ whole) (ap (λ m. m % 8) (ap r ec) ∙ whole) (ap r eb) (ap r ec) (ap r en)
  where
    of : (n : ℕ) → n < 4 → w + n < (shape_of a).ram / 8 → (shape_of b).ram % 8 ≡ 0 → (shape_of c).ram % 8 ≡ 0 → (shape_of b).ram ≡ (shape_of a).ram → (shape_of c).ram ≡ (shape_of a).ram → (shape_of new).ram ≡ (shape_of a).ram
        → Knows new (Word (Ram (w + n))) (FoundWord (slice_index (k0 ∷ k1 ∷ k2 ∷ k3 ∷ []) n))
    of zero small there wb wc eb ec en =
        known_after c new w 3 0 k3 k0 wc (λ e. omega (arith, e)) three (known_after b c w 2 0 k2 k0 wb (λ e. omega (arith, e)) two (known_after a b w 1 0 k1 k0 whole (λ e. omega (arith, e)) one (z0 there)))
    of (suc zero) small there wb wc eb ec en =
        known_after c new w 3 1 k3 k1 wc (λ e. omega (arith, e)) three (known_after b c w 2 1 k2 k1 wb (λ e. omega (arith, e)) two (z1 (omega (arith, there, ap (λ r. r / 8) eb))))
    of (suc (suc zero)) small there wb wc eb ec en = known_after c new w 3 2 k3 k2 wc (λ e. omega (arith, e)) three (z2 (omega (arith, there, ap (λ r. r / 8) ec)))
    of (suc (suc (suc zero))) small there wb wc eb ec en = z3 (omega (arith, there, ap (λ r. r / 8) en))
    of (suc (suc (suc (suc n)))) small there wb wc eb ec en = absurd (omega (arith, small))

pub fetched_holds :
    (s a b c new : Seen) (address k0 k1 k2 k3 : ℕ) → (shape_of s).ram % 8 ≡ 0 → IsTrue (has_all_shut s.local) → address % 8 ≡ 0 → ReadsMemory s a (address + 8 * 0) 8 k0 → ReadsMemory a b (address + 8 * 1) 8 k1 → ReadsMemory b c (address + 8 * 2) 8 k2
    → ReadsMemory c new (address + 8 * 3) 8 k3 → KnowsDoubleword a address 0 k0 → KnowsDoubleword b address 1 k1 → KnowsDoubleword c address 2 k2 → KnowsDoubleword new address 3 k3
    → HoldsCommand new (record { address = address; words = k0 ∷ k1 ∷ k2 ∷ k3 ∷ [] })
fetched_holds s a b c new address k0 k1 k2 k3 whole shut even early one two three z0 z1 z2 z3 =
    let w = address / 8 in
    let same : address ≡ 8 * w = omega (arith, even) in
    let Reads : Seen → Seen → ℕ → ℕ → ℕ → Type 0 = λ x y n value from. ReadsMemory x y (from + 8 * n) 8 value in
    let r1 : ReadsMemory a b (8 * w + 8 * 1) 8 k1 = subst (Reads a b 1 k1) same one in
    let r2 : ReadsMemory b c (8 * w + 8 * 2) 8 k2 = subst (Reads b c 2 k2) same two in
    let r3 : ReadsMemory c new (8 * w + 8 * 3) 8 k3 = subst (Reads c new 3 k3) same three in
    let ra : (shape_of a).ram % 8 ≡ 0 = ap (λ shape. shape.ram % 8) (ap shape_of early.adds.new_is) ∙ whole in
    record {
      each = λ index at inside.
          (let parts = and_parts (nat_le w index) (nat_lt index (w + 4)) at in
          let low : w ≤ index = leb-true w index parts.0 in
          let high : index < w + 4 = ltb-true index (w + 4) parts.1 in
          let e : w + (index - w) ≡ index = omega (arith, low) in
          let At : ℕ → Type 0 = λ i. Knows new (Word (Ram i)) (FoundWord (slice_index (k0 ∷ k1 ∷ k2 ∷ k3 ∷ []) (index - w))) in
          subst At e (holds_at a b c new w k0 k1 k2 k3 (index - w) ra r1 r2 r3 z0 z1 z2 z3 (omega (arith, low, high)) (omega (arith, e, inside))));
      lines = ap has_all_shut three.local_is ∙ ap has_all_shut two.local_is ∙ ap has_all_shut one.local_is ∙ ap has_all_shut early.local_is ∙ shut;
    }

pub address_even : (cbaser offset address : ℕ) → offset % 32 ≡ 0 → address ≡ queue_address cbaser + offset → address % 8 ≡ 0
address_even cbaser offset address even is = omega (arith, aligned cbaser offset even, is)
