-- The command queue.
use Rattle.std.proofs.Common.{◌≡◌, ◌≢◌, inl, inr, ℕ, ◌+◌, ◌*◌, ◌/◌, ◌%◌, ◌<◌, ◌==◌, ◌&&◌, ◌||◌, not, Bool, true, false, nat_lt, nat_le, if◌then◌else◌, IsTrue, List, [], ◌∷◌, ◌++◌, map, All, length, Option, Some, None, Result, Ok, option_map, fold, find, append-nil, is_some, is_none, unwrap_or, refl, sym, ap, subst, ◌∙◌, arith}
use Rattle.std.specs.List.{list_all, flat_map}
use Rattle.std.specs.Option.{option_map_or, option_or, ForSome}
use Rattle.std.proofs.lemmas.Bool.{and_parts, cases_lt, eq-eqb, eqb-true, ne_eqb, lt-ltb, le-leb, leb-true, ltb-true}
use Rattle.std.proofs.lemmas.List.{append_assoc}
use Rattle.std.proofs.lemmas.List.Sums.{fold-append}
use Rattle.port_call.proofs.TurnLemmas.{known_by_last}
use Rattle.std.proofs.lemmas.List.Elements.{All-append, All-nil, All-cons, All-head}
use Rattle.port_call.specs.Words.{GuestShape, has_bit, field_at, Lpi, IsShape, interrupt_count, has_interrupt}
use Rattle.port_call.specs.Calls.{place_of_plain, PlainWord, Ram, ItsCtlr, Cbaser, Cwriter, Fault as FaultWord, Event, Done, Stalls, Place, Found, queue_event, command_words, queue_address, next_offset, is_queue_valid, maps_by, memory_places, command_places, IsOffset, memory_at}
use Rattle.port_call.specs.Registers.{queue_bytes, enabled_in, Command, BadCommand, QueueWord, advanced, queue_of, Maps, IsValid, maps_after, fault_number, fault_of, number_of}
use Rattle.port_call.specs.GicCall.declared.event.Event.TheVariants.{Queue as QueueEvent}
use Rattle.port_call.specs.GicCall.declared.event.Place.TheVariants.{Word, Queue as QueuePlace}
use Rattle.port_call.specs.ItsCmd.Command.{decoded}
use Rattle.port_call.specs.GicCall.declared.event.Found.TheVariants.{Queue as FoundQueue}
use Rattle.port_call.proofs.GicCall.ReadLemmas.{all_early, all_late}
use Rattle.port_call.proofs.ItsTab.CarryLemmas.{kept_now}
use Rattle.port_call.specs.Core.{Made, Local, CoreStep, RamLook, RamPut, CommandDone, reading_of, WordId, Irq, Plain, Queue, local_after, succeeds, fault_place, has_all_shut, known_fault, is_known, is_on, known, known_maps, last_made, no_maps, maps_by_step, maps_after as maps_after_made, since_turn, since_command, ends_command, owes_no_kick, place_of_word, is_taking, word_of, Seen, IsPort, CanMake, made_by, shape_of}
use Rattle.port_call.proofs.PortCore.StepWords.{queue_back}
use Rattle.port_call.specs.Piece.{takes_none}
use Rattle.port_call.specs.Store.{MayStore, Stores, is_store_step, is_store_miss, stores_not}
use Rattle.port_call.proofs.SettleLemmas.{handed_none}
use Rattle.port_call.specs.Memory.{view_by}
use Rattle.port_call.specs.Rest.{IsAtEase}
use Rattle.port_call.proofs.KnownLemmas.{are_off}
use Rattle.port_call.proofs.RestLemmas.{owes_none}
use Rattle.port_call.proofs.PieceLemmas.{command_done}
use Rattle.its_exec.specs.declared.fetch.Fetched.{Fetched}
use Rattle.its_exec.specs.declared.known.KnownQueue.{KnownQueue}
use Rattle.its_exec.specs.Command.{DoesCommand}
use Rattle.its_exec.specs.Config.{is_kept, HoldsCommand}
use Rattle.its_exec.specs.Known.{Knows, KnowsQueue, LooksAtQueue, Fetches, is_fetched, are_within, takes_next}
use Rattle.its_exec.specs.Plan.{IsFresh}
use Rattle.its_exec.specs.Queue.{HoldsNext, HasBad, MakesStep, StallsAt, IsReady, MovesQueue}
use Rattle.its_exec.proofs.FrameLemmas.{both, word_of_place, since_last, knows_by, Leaves, leaves, knows_on, within_by, maps_on, keeps_its, still_reading, going_reading, off_each, untouched_on}
use Rattle.its_exec.proofs.FetchLemmas.{places_are, address_even, memory_same}
use Rattle.its_exec.proofs.ConfigLemmas.{holds_on}
use Rattle.its_exec.proofs.CommandLemmas.{kept_by, words_kept}
use Rattle.its_exec.proofs.ForgetLemmas.{ease_after}
use Rattle.its_exec.proofs.LookLemmas.{word_held, offset_held, stalled_held, queue_apart, queue_lpi_apart, plain_apart, off_one}

-- The places of the doublewords.

all_at : (P : Place → Type 0) (shape : GuestShape) (w n : ℕ) → shape.ram % 8 ≡ 0 → (w + n < shape.ram / 8 → P (Word (Ram (w + n)))) → All P (memory_places shape (8 * w + 8 * n) 8)
all_at P shape w n whole each = subst (All P) (sym (places_are shape w n whole)) (of (nat_lt (w + n) (shape.ram / 8)) refl)
  where
    of : (b : Bool) → nat_lt (w + n) (shape.ram / 8) ≡ b → All P (if b then Word (Ram (w + n)) ∷ [] else [])
    of true e = All-cons P (Word (Ram (w + n))) [] (each (ltb-true (w + n) (shape.ram / 8) e)) (All-nil P)
    of false e = All-nil P

pub places_all : (P : Place → Type 0) (shape : GuestShape) (address : ℕ) → shape.ram % 8 ≡ 0 → address % 8 ≡ 0 → ((index : ℕ) → IsTrue (is_fetched address index) → index < shape.ram / 8 → P (Word (Ram index)))
    → All P (flat_map (λ number. memory_places shape (address + 8 * number) 8) (0 ∷ 1 ∷ 2 ∷ 3 ∷ []))
places_all P shape address whole even each =
    let f : ℕ → List Place = λ n. memory_places shape (address + 8 * n) 8 in
    All-append P (f 0) (f 1 ++ (f 2 ++ (f 3 ++ []))) (at 0 (omega arith))
    (All-append P (f 1) (f 2 ++ (f 3 ++ [])) (at 1 (omega arith)) (All-append P (f 2) (f 3 ++ []) (at 2 (omega arith)) (All-append P (f 3) [] (at 3 (omega arith)) (All-nil P))))
  where
    at : (n : ℕ) → n < 4 → All P (memory_places shape (address + 8 * n) 8)
    at n small =
        let w = address / 8 in
        let from : 8 * w ≡ address = omega (arith, even) in
        let At : ℕ → Type 0 = λ a. All P (memory_places shape (a + 8 * n) 8) in
        subst At from
        (all_at P shape w n whole
        (λ there. each (w + n) (both (nat_le w (w + n)) (nat_lt (w + n) (w + 4)) (le-leb w (w + n) (omega arith)) (lt-ltb (w + n) (w + 4) (omega (arith, small)))) there))

-- what is so of all of them is so of each that is fetched
pub places_each : (P : Place → Type 0) (shape : GuestShape) (address : ℕ) → shape.ram % 8 ≡ 0 → address % 8 ≡ 0 → All P (flat_map (λ number. memory_places shape (address + 8 * number) 8) (0 ∷ 1 ∷ 2 ∷ 3 ∷ []))
    → (index : ℕ) → IsTrue (is_fetched address index) → index < shape.ram / 8 → P (Word (Ram index))
places_each P shape address whole even all index fetched inside =
    let w = address / 8 in
    let f : ℕ → List Place = λ n. memory_places shape (8 * w + 8 * n) 8 in
    let from : address ≡ 8 * w = omega (arith, even) in
    let All_from : ℕ → Type 0 = λ a. All P (flat_map (λ number. memory_places shape (a + 8 * number) 8) (0 ∷ 1 ∷ 2 ∷ 3 ∷ [])) in
    let zero : All P (f 0 ++ (f 1 ++ (f 2 ++ (f 3 ++ [])))) = subst All_from from all in
    let one = all_late P (f 0) (f 1 ++ (f 2 ++ (f 3 ++ []))) zero in
    let two = all_late P (f 1) (f 2 ++ (f 3 ++ [])) one in
    let three = all_late P (f 2) (f 3 ++ []) two in
    let both = and_parts (nat_le w index) (nat_lt index (w + 4)) fetched in
    let low = leb-true w index both.0 in
    let high = ltb-true index (w + 4) both.1 in
    elim (cases_lt index (w + 1)) [
      | inl a ↦ here 0 (omega (arith, a, low)) (all_early P (f 0) (f 1 ++ (f 2 ++ (f 3 ++ []))) zero)
      | inr a ↦ elim (cases_lt index (w + 2)) [
        | inl b ↦ here 1 (omega (arith, a, b)) (all_early P (f 1) (f 2 ++ (f 3 ++ [])) one)
        | inr b ↦ elim (cases_lt index (w + 3)) [
          | inl c ↦ here 2 (omega (arith, b, c)) (all_early P (f 2) (f 3 ++ []) two)
          | inr c ↦ here 3 (omega (arith, c, high)) (all_early P (f 3) [] three)
        ]
      ]
    ]
  where
    here : (n : ℕ) → address / 8 + n ≡ index → All P (memory_places shape (8 * (address / 8) + 8 * n) 8) → P (Word (Ram index))
    here n e all =
        let w = address / 8 in
        let yes = lt-ltb (w + n) (shape.ram / 8) (omega (arith, e, inside)) in
        let At : ℕ → Type 0 = λ i. P (Word (Ram i)) in
        subst At e (All-head P (Word (Ram (w + n))) [] (subst (All P) (places_are shape w n whole ∙ ap (λ b. if b then Word (Ram (w + n)) ∷ [] else []) yes) all))

-- where the next command is
pub next_address : (seen : Seen) (queue : KnownQueue) (address : ℕ) → KnowsQueue seen queue → address ≡ queue_address queue.cbaser + queue.offset → queue_address ((view_by seen).words Cbaser) + (view_by seen).offset ≡ address
next_address seen queue address knows is =
    ap (λ n. queue_address n + (view_by seen).offset) (word_held seen Cbaser queue.cbaser knows.cbaser) ∙ ap (λ n. queue_address queue.cbaser + n) (offset_held seen queue.offset queue.stalled knows.place) ∙ sym is

pub command_each : (P : Place → Type 0) (seen : Seen) (queue : KnownQueue) (address : ℕ) → (shape_of seen).ram % 8 ≡ 0 → KnowsQueue seen queue → address ≡ queue_address queue.cbaser + queue.offset → All P (command_places (shape_of seen) (view_by seen))
    → (index : ℕ) → IsTrue (is_fetched address index) → index < (shape_of seen).ram / 8 → P (Word (Ram index))
command_each P seen queue address whole knows is all index fetched inside =
    let At : ℕ → Type 0 = λ a. All P (flat_map (λ number. memory_places (shape_of seen) (a + 8 * number) 8) (0 ∷ 1 ∷ 2 ∷ 3 ∷ [])) in
    places_each P (shape_of seen) address whole (address_even queue.cbaser queue.offset address knows.in_range.place is) (subst At (next_address seen queue address knows is) all) index fetched inside

pub command_all : (P : Place → Type 0) (seen : Seen) (queue : KnownQueue) (address : ℕ) → (shape_of seen).ram % 8 ≡ 0 → KnowsQueue seen queue → address ≡ queue_address queue.cbaser + queue.offset
    → ((index : ℕ) → IsTrue (is_fetched address index) → index < (shape_of seen).ram / 8 → P (Word (Ram index))) → All P (command_places (shape_of seen) (view_by seen))
command_all P seen queue address whole knows is each =
    let At : ℕ → Type 0 = λ a. All P (flat_map (λ number. memory_places (shape_of seen) (a + 8 * number) 8) (0 ∷ 1 ∷ 2 ∷ 3 ∷ [])) in
    subst At (sym (next_address seen queue address knows is)) (places_all P (shape_of seen) address whole (address_even queue.cbaser queue.offset address knows.in_range.place is) each)

-- the fetch holds the next command
pub holds_next : (old new : Seen) (queue : KnownQueue) (fetched : Fetched) → Fetches old new queue fetched → HoldsCommand new fetched → HoldsNext new queue fetched
holds_next old new queue fetched fetches holds =
    let shape : shape_of new ≡ shape_of old = ap shape_of fetches.reading.adds.new_is in
    let from : GuestShape → ℕ → List ℕ = λ shape address. map (λ number. memory_at shape (view_by new) (address + 8 * number) 8) (0 ∷ 1 ∷ 2 ∷ 3 ∷ []) in
    record {
      knows = fetches.knows;
      holds = holds;
      address_is = fetches.address_is;
      words_are = fetches.words_are ∙ ap (λ shape. from shape fetched.address) (sym shape) ∙ ap (from (shape_of new)) (sym (next_address new queue fetched.address fetches.knows fetches.address_is));
    }

-- The end of a good command.

all_known : (seen : Seen) (queue : KnownQueue) (fetched : Fetched) → (shape_of seen).ram % 8 ≡ 0 → HoldsNext seen queue fetched → All (λ place. IsTrue (is_known (shape_of seen) seen.actor seen.own place)) (QueuePlace ∷ Word Cbaser ∷ command_places (shape_of seen) (view_by seen))
all_known seen queue fetched whole next =
    let P : Place → Type 0 = λ place. IsTrue (is_known (shape_of seen) seen.actor seen.own place) in
    let rest = command_places (shape_of seen) (view_by seen) in
    All-cons P QueuePlace (Word Cbaser ∷ rest) next.knows.place.known
    (All-cons P (Word Cbaser) rest next.knows.cbaser.known (command_all P seen queue fetched.address whole next.knows next.address_is (λ index at inside. (next.holds.each index at inside).known)))

pub good_event : (seen : Seen) (queue : KnownQueue) (fetched : Fetched) → HoldsNext seen queue fetched → fault_number (shape_of seen) (known_maps seen.own) (decoded fetched.words) ≡ None
    → queue_event (shape_of seen) (view_by seen) ≡ QueueEvent (advanced queue.offset (queue_bytes queue.cbaser)) (Done fetched.words)
good_event seen queue fetched next good =
    let view = view_by seen in
    let by : List ℕ → Event
    = λ words. option_map_or (λ fault. QueueEvent view.offset (Stalls fault)) (fault_number (shape_of seen) (known_maps seen.own) (decoded words)) (QueueEvent (next_offset view) (Done words)) in
    let after : Option ℕ → Event = λ o. option_map_or (λ fault. QueueEvent view.offset (Stalls fault)) o (QueueEvent (next_offset view) (Done fetched.words)) in
    ap by (sym next.words_are) ∙ ap after good
    ∙ ap (λ n. QueueEvent (advanced n (queue_bytes (view.words Cbaser))) (Done fetched.words)) (offset_held seen queue.offset queue.stalled next.knows.place)
    ∙ ap (λ n. QueueEvent (advanced queue.offset (queue_bytes n)) (Done fetched.words)) (word_held seen Cbaser queue.cbaser next.knows.cbaser)

pub can_end : (seen : Seen) (queue : KnownQueue) (fetched : Fetched) (offset : ℕ) → IsPort seen → IsTrue seen.taken → IsAtEase seen.local → HoldsNext seen queue fetched → fault_number (shape_of seen) (known_maps seen.own) (decoded fetched.words) ≡ None
    → offset ≡ advanced queue.offset (queue_bytes queue.cbaser) → IsOffset offset → CanMake seen (CommandDone offset false (Some fetched.words))
can_end seen queue fetched offset port taken ease next good is place =
    record {
      can = (place, (ap length next.words_are, refl));
      seen_is = tt;
      meets =
          record {
            turn = port.turn taken;
            kicks = ap (λ set. set.0 == 0) (owes_none seen.local ease.owes).kicks;
            lines = next.holds.lines;
            queue =
                record {
                  fetched = all_known seen queue fetched port.good.sound.shape.ram_words next;
                  ends = good_event seen queue fetched next good ∙ ap (λ n. QueueEvent n (Done fetched.words)) (sym is);
                };
          };
      tables = ap (λ b. b || false) taken;
    }

-- What is known since the turn is known.

since_by : List Made → Made → List Made
since_by kept made = if is_some made.tables then made ∷ [] else kept ++ made ∷ []

cut_turn : (before kept part : List Made) → (early : List Made) × ((before ++ kept) ++ part ≡ early ++ fold since_by kept part)
unfolding since_by
cut_turn before kept [] = (before, append-nil (before ++ kept))
cut_turn before kept (made ∷ part) = of (is_some made.tables) (λ earlier now. cut_turn earlier now part)
  where
    of : (b : Bool) → ((earlier now : List Made) → (early : List Made) × ((earlier ++ now) ++ part ≡ early ++ fold since_by now part))
        → (early : List Made) × ((before ++ kept) ++ made ∷ part ≡ early ++ fold since_by (if b then made ∷ [] else kept ++ made ∷ []) part)
    of true cut = let rest = cut (before ++ kept) (made ∷ []) in (rest.0, sym (append_assoc (before ++ kept) (made ∷ []) part) ∙ rest.1)
    of false cut =
        let rest = cut before (kept ++ made ∷ []) in
        (rest.0, sym (append_assoc (before ++ kept) (made ∷ []) part) ∙ ap (λ xs. xs ++ part) (append_assoc before kept (made ∷ [])) ∙ rest.1)

own_cut : (own : List Made) → (early : List Made) × (own ≡ early ++ since_turn own)
unfolding since_by
own_cut own = cut_turn [] [] own

last_by : GuestShape → ℕ → WordId → Option ℕ → Made → Option ℕ
last_by shape actor word last made = if is_on shape actor word made then Some made.left else last

from_any : (shape : GuestShape) (actor : ℕ) (word : WordId) (last : Option ℕ) (part : List Made) → fold (last_by shape actor word) last part ≡ option_or (fold (last_by shape actor word) None part) last
unfolding last_by
from_any shape actor word last [] = refl
from_any shape actor word last (made ∷ part) = of (is_on shape actor word made) (from_any shape actor word (Some made.left) part) (from_any shape actor word last part)
  where
    twice : (o : Option ℕ) → option_or o (Some made.left) ≡ option_or (option_or o (Some made.left)) last
    twice None = refl
    twice (Some n) = refl

    of : (b : Bool) → fold (last_by shape actor word) (Some made.left) part ≡ option_or (fold (last_by shape actor word) None part) (Some made.left)
        → fold (last_by shape actor word) last part ≡ option_or (fold (last_by shape actor word) None part) last
        → fold (last_by shape actor word) (if b then Some made.left else last) part ≡ option_or (fold (last_by shape actor word) (if b then Some made.left else None) part) last
    of true to off = to ∙ twice (fold (last_by shape actor word) None part) ∙ ap (λ o. option_or o last) (sym to)
    of false to off = off

known_in : (shape : GuestShape) (actor : ℕ) (own : List Made) (word : WordId) (n : ℕ) → known shape actor (since_turn own) word ≡ Some n → known shape actor own word ≡ Some n
unfolding last_by
known_in shape actor own word n e =
    let cut = own_cut own in
    ap (λ own. known shape actor own word) cut.1 ∙ fold-append (last_by shape actor word) None cut.0 (since_turn own) ∙ from_any shape actor word (known shape actor cut.0 word) (since_turn own) ∙ ap (λ o. option_or o (known shape actor cut.0 word)) e

-- The number of the fault may be stored.

some_there : (o : Option ℕ) → IsTrue (is_some o) → o ≡ Some (unwrap_or o 0)
some_there None h = absurd (cc)
some_there (Some n) h = refl

pub can_store : (seen : Seen) (queue : KnownQueue) → IsPort seen → IsTrue seen.taken → KnowsQueue seen queue → queue.stalled ≡ false → MayStore seen FaultWord
can_store seen queue port taken knows runs =
    let word = unwrap_or (known (shape_of seen) seen.actor (since_turn seen.own) Queue) 0 in
    record {
      fault =
          record {
            turn = port.turn taken;
            runs =
                record {
                  word = word;
                  known_as = known_in (shape_of seen) seen.actor seen.own Queue word (some_there (known (shape_of seen) seen.actor (since_turn seen.own) Queue) knows.place.known);
                  runs = stalled_held seen queue.offset queue.stalled knows.place ∙ runs;
                };
          };
      lines = λ e. absurd (cc);
    }

-- The store leaves what is known of the queue and of the command.

store_apart : (shape : GuestShape) (actor : ℕ) (word : WordId) (place : ℕ) → (place_of_word shape (Plain place) == place_of_word shape word) ≡ false → (step : CoreStep) → IsTrue (is_store_step place step)
    → (place_of_word shape (word_of shape actor step) == place_of_word shape word) ≡ false
store_apart shape actor word place apart (RamLook index) h = ap (λ i. place_of_word shape (Plain i) == place_of_word shape word) (eqb-true index place h) ∙ apart
store_apart shape actor word place apart (RamPut index seen value) h = ap (λ i. place_of_word shape (Plain i) == place_of_word shape word) (eqb-true index place h) ∙ apart
store_apart shape actor word place apart _ h = absurd (cc)

are_stores : (place found value : ℕ) (misses : List Made) (last : Made) → IsTrue (list_all (is_store_miss place) misses) → last.step ≡ RamPut place found value → IsTrue (list_all (λ made. is_store_step place made.step) (misses ++ last ∷ []))
are_stores place found value [] last missed put = ap (λ step. is_store_step place step && true) put ∙ ap (λ b. b && true) (eq-eqb place place refl)
are_stores place found value (made ∷ misses) last missed put =
    let parts = and_parts (is_store_miss place made) (list_all (is_store_miss place) misses) missed in
    both (is_store_step place made.step) (list_all (λ made. is_store_step place made.step) (misses ++ last ∷ [])) (and_parts (is_store_step place made.step) (stores_not made.step made.found) parts.0).0
    (are_stores place found value misses last parts.1 put)

stored_all : (old mid : Seen) (word : PlainWord) (value : ℕ) (stores : Stores old mid word value) → IsTrue (list_all (λ made. is_store_step (place_of_plain (shape_of old) word) made.step) (stores.misses ++ stores.last ∷ []))
stored_all old mid word value stores = are_stores (place_of_plain (shape_of old) word) stores.last.found value stores.misses stores.last stores.missed stores.last_is

pub stored_off : (old mid : Seen) (word : PlainWord) (value : ℕ) (other : WordId) (stores : Stores old mid word value) → (place_of_word (shape_of old) (Plain (place_of_plain (shape_of old) word)) == place_of_word (shape_of old) other) ≡ false
    → IsTrue (are_off (shape_of old) old.actor other (stores.misses ++ stores.last ∷ []))
stored_off old mid word value other stores apart =
    off_each (shape_of old) old.actor other (is_store_step (place_of_plain (shape_of old) word)) (store_apart (shape_of old) old.actor other (place_of_plain (shape_of old) word) apart) (stores.misses ++ stores.last ∷ [])
    (stored_all old mid word value stores)

pub stored_leaves : (old mid : Seen) (word : PlainWord) (value : ℕ) (place : Place) → Stores old mid word value
    → (place_of_word (shape_of old) (Plain (place_of_plain (shape_of old) word)) == place_of_word (shape_of old) (word_of_place (shape_of old) place)) ≡ false → Leaves old mid place
stored_leaves old mid word value place stores apart =
    leaves old mid (stores.misses ++ stores.last ∷ []) place stores.adds stores.none_taken (stored_off old mid word value (word_of_place (shape_of old) place) stores apart)

pub stored_leaves_plain : (old mid : Seen) (word other : PlainWord) (value : ℕ) → Stores old mid word value → place_of_plain (shape_of old) word ≢ place_of_plain (shape_of old) other → Leaves old mid (Word other)
stored_leaves_plain old mid word other value stores differ = stored_leaves old mid word value (Word other) stores (plain_apart (shape_of old) (place_of_plain (shape_of old) word) (place_of_plain (shape_of old) other) differ)

stored_leaves_ram : (old mid : Seen) (fault index : ℕ) → index < (shape_of old).ram / 8 → Stores old mid FaultWord fault → Leaves old mid (Word (Ram index))
stored_leaves_ram old mid fault index there stores = stored_leaves_plain old mid FaultWord (Ram index) fault stores (λ e. omega (arith, e, there))

stored_knows : (old mid : Seen) (fault : ℕ) (queue : KnownQueue) → Stores old mid FaultWord fault → KnowsQueue old queue → KnowsQueue mid queue
stored_knows old mid fault queue stores knows =
    record {
      place = knows_on old mid QueuePlace _ (stored_leaves old mid FaultWord fault QueuePlace stores (queue_apart (shape_of old) (fault_place (shape_of old)))) knows.place;
      ctlr = knows_on old mid (Word ItsCtlr) _ (stored_leaves_plain old mid FaultWord ItsCtlr fault stores (λ e. omega (arith, e))) knows.ctlr;
      cbaser = knows_on old mid (Word Cbaser) _ (stored_leaves_plain old mid FaultWord Cbaser fault stores (λ e. omega (arith, e))) knows.cbaser;
      cwriter = knows_on old mid (Word Cwriter) _ (stored_leaves_plain old mid FaultWord Cwriter fault stores (λ e. omega (arith, e))) knows.cwriter;
      in_range = knows.in_range;
    }

pub stored_within : (old mid : Seen) (word : PlainWord) (value : ℕ) (stores : Stores old mid word value) → IsTrue (are_within (stores.misses ++ stores.last ∷ []))
stored_within old mid word value stores = within_by (stores.misses ++ stores.last ∷ []) stores.none_taken (each (stores.misses ++ stores.last ∷ []) (stored_all old mid word value stores))
  where
    place : ℕ
    place = place_of_plain (shape_of old) word

    of : (step : CoreStep) → IsTrue (is_store_step place step) → IsTrue (not (ends_command step))
    of (RamLook index) h = refl
    of (RamPut index seen value) h = refl
    of _ h = absurd (cc)

    each : (part : List Made) → IsTrue (list_all (λ made. is_store_step place made.step) part) → IsTrue (list_all (λ made. not (ends_command made.step)) part)
    each [] h = refl
    each (made ∷ part) h =
        let parts = and_parts (is_store_step place made.step) (list_all (λ made. is_store_step place made.step) part) h in
        both (not (ends_command made.step)) (list_all (λ made. not (ends_command made.step)) part) (of made.step parts.0) (each part parts.1)

-- the actor goes on to have the ITS
pub stored_reading : (old mid : Seen) (word : PlainWord) (value : ℕ) → Stores old mid word value → IsTrue (is_some (reading_of old.own)) → IsTrue (is_some (reading_of mid.own))
stored_reading old mid word value stores has = still_reading old mid (stores.misses ++ stores.last ∷ []) stores.adds (each (stores.misses ++ stores.last ∷ []) (stored_all old mid word value stores)) has
  where
    place : ℕ
    place = place_of_plain (shape_of old) word

    of : (step : CoreStep) → IsTrue (is_store_step place step) → IsTrue (keeps_its step)
    of (RamLook index) h = refl
    of (RamPut index seen value) h = refl
    of _ h = absurd (cc)

    each : (part : List Made) → IsTrue (list_all (λ made. is_store_step place made.step) part) → IsTrue (list_all (λ made. keeps_its made.step) part)
    each [] h = refl
    each (made ∷ part) h =
        let parts = and_parts (is_store_step place made.step) (list_all (λ made. is_store_step place made.step) part) h in
        both (keeps_its made.step) (list_all (λ made. keeps_its made.step) part) (of made.step parts.0) (each part parts.1)

-- the four doublewords are as they were
words_left : (old mid : Seen) (queue : KnownQueue) (address : ℕ) → (shape_of old).ram % 8 ≡ 0 → shape_of mid ≡ shape_of old → KnowsQueue old queue → KnowsQueue mid queue → address ≡ queue_address queue.cbaser + queue.offset
    → ((index : ℕ) → index < (shape_of old).ram / 8 → Leaves old mid (Word (Ram index))) → command_words (shape_of mid) (view_by mid) ≡ command_words (shape_of old) (view_by old)
words_left old mid queue address whole same knows later is left =
    let even = address_even queue.cbaser queue.offset address knows.in_range.place is in
    let w = address / 8 in
    let from : address ≡ 8 * w = omega (arith, even) in
    let at : Seen → ℕ → ℕ → ℕ = λ seen a n. memory_at (shape_of old) (view_by seen) (a + 8 * n) 8 in
    let four : Seen → ℕ → List ℕ = λ seen a. at seen a 0 ∷ at seen a 1 ∷ at seen a 2 ∷ at seen a 3 ∷ [] in
    let k : (n : ℕ) → at mid (8 * w) n ≡ at old (8 * w) n = λ n. memory_same (shape_of old) old mid w n whole (left (w + n)) in
    let next : Seen → ℕ = λ seen. queue_address ((view_by seen).words Cbaser) + (view_by seen).offset in
    let mid_is : next mid ≡ 8 * w = next_address mid queue address later is ∙ from in
    let old_is : next old ≡ 8 * w = next_address old queue address knows is ∙ from in
    ap (λ shape. command_words shape (view_by mid)) same ∙ ap (four mid) mid_is
    ∙ ap (λ a. a ∷ at mid (8 * w) 1 ∷ at mid (8 * w) 2 ∷ at mid (8 * w) 3 ∷ []) (k 0)
    ∙ ap (λ a. at old (8 * w) 0 ∷ a ∷ at mid (8 * w) 2 ∷ at mid (8 * w) 3 ∷ []) (k 1)
    ∙ ap (λ a. at old (8 * w) 0 ∷ at old (8 * w) 1 ∷ a ∷ at mid (8 * w) 3 ∷ []) (k 2)
    ∙ ap (λ a. at old (8 * w) 0 ∷ at old (8 * w) 1 ∷ at old (8 * w) 2 ∷ a ∷ []) (k 3)
    ∙ sym (ap (four old) old_is)

stored_bad : (old mid : Seen) (queue : KnownQueue) (fault : ℕ) → (shape_of old).ram % 8 ≡ 0 → Stores old mid FaultWord fault → HasBad old queue fault → HasBad mid queue fault
stored_bad old mid queue fault whole stores has =
    let same : shape_of mid ≡ shape_of old = ap shape_of stores.adds.new_is in
    let later = stored_knows old mid fault queue stores has.next.knows in
    let maps : known_maps mid.own ≡ known_maps old.own = maps_on old mid (stores.misses ++ stores.last ∷ []) stores.adds (stored_within old mid FaultWord fault stores) in
    record {
      fetched = has.fetched;
      next =
          record {
            knows = later;
            holds =
                record {
                  each = λ index at inside.
                      (let there : index < (shape_of old).ram / 8 = omega (arith, inside, ap (λ shape. shape.ram / 8) same) in
                      knows_on old mid (Word (Ram index)) _ (stored_leaves_ram old mid fault index there stores) (has.next.holds.each index at there));
                  lines = ap has_all_shut stores.local_is ∙ has.next.holds.lines;
                };
            address_is = has.next.address_is;
            words_are =
                has.next.words_are
                ∙ sym (words_left old mid queue has.fetched.address whole same has.next.knows later has.next.address_is (λ index there. stored_leaves_ram old mid fault index there stores));
          };
      bad =
          ap (λ shape. fault_number shape (known_maps mid.own) (decoded has.fetched.words)) same ∙ ap (λ maps. fault_number (shape_of old) maps (decoded has.fetched.words)) maps ∙ has.bad;
    }

-- The end of a bad command.

pub bad_event : (seen : Seen) (queue : KnownQueue) (fetched : Fetched) (fault : ℕ) → HoldsNext seen queue fetched → fault_number (shape_of seen) (known_maps seen.own) (decoded fetched.words) ≡ Some fault
    → queue_event (shape_of seen) (view_by seen) ≡ QueueEvent queue.offset (Stalls fault)
bad_event seen queue fetched fault next bad =
    let view = view_by seen in
    let by : List ℕ → Event
    = λ words. option_map_or (λ fault. QueueEvent view.offset (Stalls fault)) (fault_number (shape_of seen) (known_maps seen.own) (decoded words)) (QueueEvent (next_offset view) (Done words)) in
    let after : Option ℕ → Event = λ o. option_map_or (λ fault. QueueEvent view.offset (Stalls fault)) o (QueueEvent (next_offset view) (Done fetched.words)) in
    ap by (sym next.words_are) ∙ ap after bad ∙ ap (λ n. QueueEvent n (Stalls fault)) (offset_held seen queue.offset queue.stalled next.knows.place)

last_own : (old mid : Seen) (fault : ℕ) (stores : Stores old mid FaultWord fault) → mid.own ≡ (old.own ++ stores.misses) ++ stores.last ∷ []
last_own old mid fault stores = ap (λ seen. seen.own) stores.adds.new_is ∙ sym (append_assoc old.own stores.misses (stores.last ∷ []))

pub known_stored : (old mid : Seen) (fault : ℕ) (stores : Stores old mid FaultWord fault) → known_fault (shape_of mid) mid.actor mid.own ≡ fault
known_stored old mid fault stores =
    let same : shape_of mid ≡ shape_of old = ap shape_of stores.adds.new_is in
    ap (λ shape. known_fault shape mid.actor mid.own) same ∙ ap (λ own. known_fault (shape_of old) mid.actor own) (last_own old mid fault stores)
    ∙ ap (λ o. unwrap_or o 0)
    (known_by_last (shape_of old) mid.actor (old.own ++ stores.misses) stores.last (Plain (fault_place (shape_of old)))
    (ap (λ step. place_of_word (shape_of old) (word_of (shape_of old) mid.actor step) == place_of_word (shape_of old) (Plain (fault_place (shape_of old)))) stores.last_is
    ∙ eq-eqb (place_of_word (shape_of old) (Plain (fault_place (shape_of old)))) (place_of_word (shape_of old) (Plain (fault_place (shape_of old)))) refl))
    ∙ stores.left_is

pub can_stall : (old mid : Seen) (queue : KnownQueue) (fault : ℕ) → IsPort old → IsPort mid → IsTrue old.taken → IsAtEase old.local → HasBad old queue fault → Stores old mid FaultWord fault → CanMake mid (CommandDone queue.offset true None)
can_stall old mid queue fault opened port taken ease has stores =
    let now = stored_bad old mid queue fault opened.good.sound.shape.ram_words stores has in
    let same : shape_of mid ≡ shape_of old = ap shape_of stores.adds.new_is in
    let actor : mid.actor ≡ old.actor = ap (λ seen. seen.actor) stores.adds.new_is in
    let taken_now : IsTrue mid.taken = ap (λ seen. seen.taken) stores.adds.new_is ∙ taken in
    let Kick : Local → Type 0 = λ local. IsTrue (owes_no_kick local) in
    let known = known_stored old mid fault stores in
    record {
      can = (now.next.knows.in_range, tt);
      seen_is = tt;
      meets =
          record {
            turn = port.turn taken_now;
            kicks = subst Kick (sym stores.local_is) (ap (λ set. set.0 == 0) (owes_none old.local ease.owes).kicks);
            lines = now.next.holds.lines;
            queue = (
              record {
                fetched = all_known mid queue now.fetched port.good.sound.shape.ram_words now.next;
                ends = bad_event mid queue now.fetched fault now.next now.bad ∙ ap (λ n. QueueEvent queue.offset (Stalls n)) (sym known);
              },
              record {
                seen = stores.last.found;
                value = fault;
                last = stores.last;
                is_last = ap last_made (last_own old mid fault stores) ∙ fold-append (λ last made. Some made) None (old.own ++ stores.misses) (stores.last ∷ []);
                put = stores.last_is ∙ ap (λ shape. RamPut (fault_place shape) stores.last.found fault) (sym same);
                stored = refl;
              },
            );
          };
      tables = ap (λ b. b || true) taken_now;
    }

-- After the end of a command.

turn_small : (word : ℕ) → ForSome (queue_of word).turn (λ actor. actor < 64)
turn_small word = of (has_bit word 32)
  where
    of : (b : Bool) → ForSome (if b then Some (field_at word 33 6) else None) (λ actor. actor < 64)
    of true = λ actor e. omega (arith, same actor e)
      where
        same : (actor : ℕ) → Some (field_at word 33 6) ≡ Some actor → field_at word 33 6 ≡ actor
        same actor e = cc
    of false = λ actor e. absurd (cc)

none_handed : (old new : Seen) (step : CoreStep) → is_taking step ≡ false → (makes : MakesStep old new step) → IsTrue (is_none makes.adds.tables)
none_handed old new step untaking makes = handed_none step makes.found old makes.adds.tables untaking makes.adds.handed

pub ended_knows : (old new : Seen) (queue : KnownQueue) (offset : ℕ) (stalled : Bool) (done : Option (List ℕ)) → IsOffset offset → KnowsQueue old queue → MakesStep old new (CommandDone offset stalled done)
    → KnowsQueue new (record queue { offset = offset; stalled = stalled })
ended_knows old new queue offset stalled done place knows makes =
    let made = made_by old (CommandDone offset stalled done) makes.found makes.adds.tables in
    let none : IsTrue (takes_none (made ∷ [])) = both (is_none makes.adds.tables) true (none_handed old new (CommandDone offset stalled done) refl makes) refl in
    let after : QueueWord = record (queue_of makes.found) { offset = offset; stalled = stalled } in
    let back : queue_of made.left ≡ after = queue_back after (record { actor = turn_small makes.found; command = place.place; within = place.within }) in
    let Shown : QueueWord → Type 0 = λ q. Knows new QueuePlace (FoundQueue q.offset q.stalled) in
    let left : (word : PlainWord) → Leaves old new (Word word)
    = λ word.
    leaves old new (made ∷ []) (Word word) makes.adds.adds none
    (off_one (shape_of old) old.actor (Plain (place_of_plain (shape_of old) word)) made (CommandDone offset stalled done) refl
    (ne_eqb (place_of_word (shape_of old) Queue) (place_of_word (shape_of old) (Plain (place_of_plain (shape_of old) word))) (λ e. omega (arith, e)))) in
    record {
      place = subst Shown back (knows_by new QueuePlace made.left (since_last old new made Queue makes.adds.adds none (eq-eqb (interrupt_count (shape_of old)) (interrupt_count (shape_of old)) refl)));
      ctlr = knows_on old new (Word ItsCtlr) _ (left ItsCtlr) knows.ctlr;
      cbaser = knows_on old new (Word Cbaser) _ (left Cbaser) knows.cbaser;
      cwriter = knows_on old new (Word Cwriter) _ (left Cwriter) knows.cwriter;
      in_range = place;
    }

command_by : List Made → Made → List Made
command_by kept made = if is_some made.tables || ends_command made.step then [] else kept ++ made ∷ []

pub ended_fresh : (old new : Seen) (step : CoreStep) → ends_command step ≡ true → IsTrue (keeps_its step) → IsTrue (is_some (reading_of old.own)) → MakesStep old new step → IsFresh new
unfolding command_by
ended_fresh old new step ends keeps has makes =
    let made = made_by old step makes.found makes.adds.tables in
    let over : since_command new.own ≡ []
    = ap (λ seen. since_command seen.own) makes.adds.adds.new_is ∙ fold-append command_by [] old.own (made ∷ []) ∙ ap (λ b. if is_some makes.adds.tables || b then [] else since_command old.own ++ made ∷ []) ends ∙ either (is_some makes.adds.tables) (since_command old.own ++ made ∷ []) in
    record {
      reading = still_reading old new (made ∷ []) makes.adds.adds (ap (λ b. b && true) keeps) has;
      each = λ id there. record { none = ap (find (is_on (shape_of new) new.actor (Irq (Lpi id)))) over };
    }
  where
    either : (b : Bool) (xs : List Made) → (if b || true then [] else xs) ≡ []
    either true xs = refl
    either false xs = refl

-- Where the next command begins.

ended_local : (old new : Seen) (step : CoreStep) (makes : MakesStep old new step) → new.local ≡ local_after (shape_of old) old.actor old.local step makes.found
ended_local old new step makes = ap (λ seen. seen.local) makes.adds.adds.new_is

pub ended_same : (old new : Seen) (offset : ℕ) (stalled : Bool) (done : Option (List ℕ)) → MakesStep old new (CommandDone offset stalled done) → new.local ≡ old.local
ended_same old new offset stalled done makes = ended_local old new (CommandDone offset stalled done) makes ∙ of (succeeds (shape_of old) old.actor old.local (CommandDone offset stalled done) makes.found)
  where
    of : (b : Bool) → (if b then old.local else old.local) ≡ old.local
    of true = refl
    of false = refl

pub ended_ease : (old new : Seen) (offset : ℕ) (stalled : Bool) (done : Option (List ℕ)) → IsAtEase old.local → MakesStep old new (CommandDone offset stalled done) → IsAtEase new.local
ended_ease old new offset stalled done ease makes =
    let step = CommandDone offset stalled done in
    subst IsAtEase (sym (ended_local old new step makes ∙ of (succeeds (shape_of old) old.actor old.local step makes.found))) ease
  where
    of : (b : Bool) → (if b then old.local else old.local) ≡ old.local
    of true = refl
    of false = refl

pub ended_lines : (old new : Seen) (offset : ℕ) (stalled : Bool) (done : Option (List ℕ)) → IsTrue (has_all_shut old.local) → MakesStep old new (CommandDone offset stalled done) → IsTrue (has_all_shut new.local)
ended_lines old new offset stalled done lines makes =
    let step = CommandDone offset stalled done in
    ap has_all_shut (ended_local old new step makes ∙ of (succeeds (shape_of old) old.actor old.local step makes.found)) ∙ lines
  where
    of : (b : Bool) → (if b then old.local else old.local) ≡ old.local
    of true = refl
    of false = refl

ended_maps : (old new : Seen) (step : CoreStep) → is_taking step ≡ false → (makes : MakesStep old new step) → known_maps new.own ≡ maps_by_step (known_maps old.own) step
ended_maps old new step untaking makes =
    let made = made_by old step makes.found makes.adds.tables in
    ap (λ seen. known_maps seen.own) makes.adds.adds.new_is ∙ fold-append maps_after_made no_maps old.own (made ∷ []) ∙ of makes.adds.tables (none_handed old new step untaking makes)
  where
    of : (o : Option Maps) → IsTrue (is_none o) → unwrap_or o (maps_by_step (known_maps old.own) step) ≡ maps_by_step (known_maps old.own) step
    of None h = refl
    of (Some maps) h = absurd (cc)

-- a stall: all but the queue is as it was
pub stalled_ready : (old new : Seen) (shape : GuestShape) (tables : Maps) (queue : KnownQueue) (fault : ℕ) → IsReady old shape tables queue → StallsAt old new queue.offset fault → IsReady new shape tables (record queue { stalled = true })
stalled_ready old new shape tables queue fault ready stalls =
    let mid = stalls.mid in
    let step = CommandDone queue.offset true None in
    let stores = stalls.stores in
    record {
      shape_is = ready.shape_is ∙ sym (ap shape_of stalls.ends.adds.adds.new_is ∙ ap shape_of stores.adds.new_is);
      taken = ap (λ seen. seen.taken) stalls.ends.adds.adds.new_is ∙ ap (λ seen. seen.taken) stores.adds.new_is ∙ ready.taken;
      ease = ended_ease mid new queue.offset true None (subst IsAtEase (sym stores.local_is) ready.ease) stalls.ends;
      lines = ended_lines mid new queue.offset true None (ap has_all_shut stores.local_is ∙ ready.lines) stalls.ends;
      maps = ready.maps ∙ sym (ended_maps mid new step refl stalls.ends ∙ maps_on old mid (stores.misses ++ stores.last ∷ []) stores.adds (stored_within old mid FaultWord fault stores));
      valid = ready.valid;
      fresh = ended_fresh mid new step refl refl (stored_reading old mid FaultWord fault stores ready.fresh.reading) stalls.ends;
      knows = ended_knows mid new queue queue.offset true None ready.knows.in_range (stored_knows old mid fault queue stores ready.knows) stalls.ends;
    }

-- The queue is moved.

pub can_move : (seen : Seen) (offset : ℕ) → IsPort seen → IsTrue seen.local.turn → IsAtEase seen.local → IsTrue (has_all_shut seen.local) → IsOffset offset → CanMake seen (CommandDone offset false None)
can_move seen offset port turn ease lines place =
    record {
      can = (place, tt);
      seen_is = tt;
      meets = record { turn = turn; kicks = ap (λ set. set.0 == 0) (owes_none seen.local ease.owes).kicks; lines = lines; queue = tt };
      tables = either seen.taken;
    }
  where
    either : (b : Bool) → IsTrue (b || true)
    either true = refl
    either false = refl

pub moved_is : (old new : Seen) (offset : ℕ) → MakesStep old new (CommandDone offset false None) → MovesQueue old new offset
moved_is old new offset makes =
    let step = CommandDone offset false None in
    let made = made_by old step makes.found makes.adds.tables in
    record {
      made = made;
      adds = makes.adds.adds;
      step_is = refl;
      local_is = ended_local old new step makes ∙ same (succeeds (shape_of old) old.actor old.local step makes.found);
      events = refl;
      piece = command_done old made offset false None refl;
    }
  where
    same : (b : Bool) → (if b then old.local else old.local) ≡ old.local
    same true = refl
    same false = refl

pub moved_ready :
    (old new : Seen) (shape : GuestShape) (tables : Maps) (queue : KnownQueue) (offset : ℕ) → IsOffset offset → IsReady old shape tables queue → MakesStep old new (CommandDone offset false None)
    → IsReady new shape tables (record queue { offset = offset; stalled = false })
moved_ready old new shape tables queue offset place ready makes =
    let step = CommandDone offset false None in
    let made = made_by old step makes.found makes.adds.tables in
    let same : shape_of new ≡ shape_of old = ap shape_of makes.adds.adds.new_is in
    let There : ℕ → GuestShape → Type 0 = λ id shape. IsTrue (has_interrupt shape (Lpi id)) in
    let within : IsTrue (are_within (made ∷ [])) = within_by (made ∷ []) (both (is_none makes.adds.tables) true (none_handed old new step refl makes) refl) refl in
    record {
      shape_is = ready.shape_is ∙ sym same;
      taken = ap (λ seen. seen.taken) makes.adds.adds.new_is ∙ ready.taken;
      ease = ended_ease old new offset false None ready.ease makes;
      lines = ended_lines old new offset false None ready.lines makes;
      maps = ready.maps ∙ sym (maps_on old new (made ∷ []) makes.adds.adds within);
      valid = ready.valid;
      fresh = record { reading = still_reading old new (made ∷ []) makes.adds.adds refl ready.fresh.reading; each = λ id there. (let was = subst (There id) same there in untouched_on old new (made ∷ []) id makes.adds.adds within (off_one (shape_of old) old.actor (Irq (Lpi id)) made step refl (queue_lpi_apart (shape_of old) id was)) (ready.fresh.each id was)) };
      knows = ended_knows old new queue offset false None place ready.knows makes;
    }

-- a fetch only reads
pub fetched_ready : (old mid : Seen) (shape : GuestShape) (tables : Maps) (queue : KnownQueue) (fetched : Fetched) → IsReady old shape tables queue → Fetches old mid queue fetched → IsReady mid shape tables queue
fetched_ready old mid shape tables queue fetched ready fetches =
    let reading = fetches.reading in
    let same : shape_of mid ≡ shape_of old = ap shape_of reading.adds.new_is in
    let There : ℕ → GuestShape → Type 0 = λ id shape. IsTrue (has_interrupt shape (Lpi id)) in
    record {
      shape_is = ready.shape_is ∙ sym same;
      taken = ap (λ seen. seen.taken) reading.adds.new_is ∙ ready.taken;
      ease = subst IsAtEase (sym reading.local) ready.ease;
      lines = ap has_all_shut reading.local ∙ ready.lines;
      maps = ready.maps ∙ sym (maps_on old mid fetches.part reading.adds reading.within);
      valid = ready.valid;
      fresh = record { reading = going_reading old mid fetches.part reading.adds reading.going ready.fresh.reading; each = λ id there. (let was = subst (There id) same there in reading.untouched id was (ready.fresh.each id was)) };
      knows = fetches.knows;
    }

-- a further command is taken of a queue that is not stalled
pub takes_runs : (queue : KnownQueue) → takes_next queue ≡ true → queue.stalled ≡ false
takes_runs queue takes =
    let one = and_parts (enabled_in queue.ctlr && is_queue_valid queue.cbaser && not queue.stalled) (not (queue.offset == queue.cwriter)) takes in
    let two = and_parts (enabled_in queue.ctlr && is_queue_valid queue.cbaser) (not queue.stalled) one.0 in
    of queue.stalled two.1
  where
    of : (b : Bool) → IsTrue (not b) → b ≡ false
    of true h = absurd (cc)
    of false h = refl

-- what was fetched has a fault
pub fetched_bad : (old mid : Seen) (shape : GuestShape) (tables : Maps) (queue : KnownQueue) (fetched : Fetched) (result : Result Command BadCommand) (fault : ℕ) → IsReady old shape tables queue → Fetches old mid queue fetched → HoldsCommand mid fetched
    → result ≡ decoded fetched.words → fault_number shape tables result ≡ Some fault → HasBad mid queue fault
fetched_bad old mid shape tables queue fetched result fault ready fetches holds value bad =
    let now = fetched_ready old mid shape tables queue fetched ready fetches in
    record {
      fetched = fetched;
      next = holds_next old mid queue fetched fetches holds;
      bad = ap (λ shape. fault_number shape (known_maps mid.own) (decoded fetched.words)) (sym now.shape_is) ∙ ap (λ maps. fault_number shape maps (decoded fetched.words)) (sym now.maps) ∙ ap (fault_number shape tables) (sym value) ∙ bad;
    }

-- the parts leave the command as it was fetched
pub done_next : (mid done : Seen) (queue : KnownQueue) (fetched : Fetched) (maps : Maps) (command : Command) → (shape_of mid).ram % 8 ≡ 0 → HoldsNext mid queue fetched → DoesCommand mid done fetched.address maps command → HoldsNext done queue fetched
done_next mid done queue fetched maps command whole next does =
    let all = does.does in
    let same : shape_of done ≡ shape_of mid = ap shape_of all.adds.new_is in
    let kept = kept_by mid done fetched.address all.steps all.keeps in
    let on : (place : Place) (found : Found) → IsTrue (is_kept (shape_of mid) fetched.address place) → Knows mid place found → Knows done place found
    = λ place found is was. record { known = (kept.each place is).known ∙ was.known; held = (kept.each place is).held ∙ was.held } in
    let even = address_even queue.cbaser queue.offset fetched.address next.knows.in_range.place next.address_is in
    record {
      knows =
          record {
            place = on QueuePlace _ refl next.knows.place;
            ctlr = on (Word ItsCtlr) _ refl next.knows.ctlr;
            cbaser = on (Word Cbaser) _ refl next.knows.cbaser;
            cwriter = on (Word Cwriter) _ refl next.knows.cwriter;
            in_range = next.knows.in_range;
          };
      holds = holds_on mid done fetched all.steps all.adds (ap (λ l. l.shut) all.local_is.same) all.keeps next.holds;
      address_is = next.address_is;
      words_are =
          next.words_are
          ∙ sym
          (ap (λ shape. command_words shape (view_by done)) same
          ∙ words_kept (shape_of mid) mid done fetched.address refl whole even (next_address mid queue fetched.address next.knows next.address_is) kept);
    }

pub done_good : (mid done : Seen) (shape : GuestShape) (tables : Maps) (queue : KnownQueue) (fetched : Fetched) (command : Command) (result : Result Command BadCommand) → IsReady mid shape tables queue → DoesCommand mid done fetched.address tables command
    → result ≡ decoded fetched.words → result ≡ Ok command → fault_of shape tables command ≡ None → fault_number (shape_of done) (known_maps done.own) (decoded fetched.words) ≡ None
done_good mid done shape tables queue fetched command result ready does value is good =
    let all = does.does in
    ap (λ shape. fault_number shape (known_maps done.own) (decoded fetched.words)) (ap shape_of all.adds.new_is ∙ sym ready.shape_is)
    ∙ ap (λ maps. fault_number shape maps (decoded fetched.words)) (maps_on mid done all.steps all.adds all.within ∙ sym ready.maps)
    ∙ ap (fault_number shape tables) (sym value ∙ is)
    ∙ ap (option_map number_of) good

pub done_ease : (mid done : Seen) (address : ℕ) (maps : Maps) (command : Command) → DoesCommand mid done address maps command → IsAtEase mid.local → IsAtEase done.local
done_ease mid done address maps command does ease = ease_after mid.local done.local does.does.local_is ease

pub done_taken : (mid done : Seen) (address : ℕ) (maps : Maps) (command : Command) → DoesCommand mid done address maps command → IsTrue mid.taken → IsTrue done.taken
done_taken mid done address maps command does taken = ap (λ seen. seen.taken) does.does.adds.new_is ∙ taken

pub finished_ready :
    (mid done new : Seen) (shape : GuestShape) (tables left : Maps) (queue : KnownQueue) (offset : ℕ) (fetched : Fetched) (command : Command) (result : Result Command BadCommand) → (shape_of mid).ram % 8 ≡ 0 → IsReady mid shape tables queue
    → HoldsNext mid queue fetched → queue.stalled ≡ false → DoesCommand mid done fetched.address tables command → left ≡ maps_after tables command → result ≡ decoded fetched.words → result ≡ Ok command → fault_of shape tables command ≡ None → IsOffset offset
    → MakesStep done new (CommandDone offset false (Some fetched.words)) → IsReady new shape left (record queue { offset = offset })
finished_ready mid done new shape tables left queue offset fetched command result whole ready next runs does is value ok good place makes =
    let step = CommandDone offset false (Some fetched.words) in
    let all = does.does in
    let now = done_next mid done queue fetched tables command whole next does in
    let kept : known_maps done.own ≡ tables = maps_on mid done all.steps all.adds all.within ∙ sym ready.maps in
    let To : Bool → Type 0 = λ b. KnowsQueue new (record queue { offset = offset; stalled = b }) in
    record {
      shape_is = ready.shape_is ∙ sym (ap shape_of makes.adds.adds.new_is ∙ ap shape_of all.adds.new_is);
      taken = ap (λ seen. seen.taken) makes.adds.adds.new_is ∙ done_taken mid done fetched.address tables command does ready.taken;
      ease = ended_ease done new offset false (Some fetched.words) (done_ease mid done fetched.address tables command does ready.ease) makes;
      lines = ended_lines done new offset false (Some fetched.words) now.holds.lines makes;
      maps = is ∙ ap (maps_by tables) (sym (sym value ∙ ok)) ∙ sym (ended_maps done new step refl makes ∙ ap (λ maps. maps_by maps (decoded fetched.words)) kept);
      valid = kept_now shape tables left command good is ready.valid;
      fresh = ended_fresh done new step refl refl (going_reading mid done all.steps all.adds all.going ready.fresh.reading) makes;
      knows = subst To (sym runs) (ended_knows done new queue offset false (Some fetched.words) place now.knows makes);
    }

pub ready_shape : (seen : Seen) (shape : GuestShape) (tables : Maps) (queue : KnownQueue) → IsPort seen → IsReady seen shape tables queue → IsShape shape
ready_shape seen shape tables queue port ready = subst IsShape (sym ready.shape_is) port.good.sound.shape

-- the looks at the queue only read
pub looked_ready : (old new : Seen) (shape : GuestShape) (tables : Maps) (queue : KnownQueue) → shape ≡ shape_of old → IsTrue old.taken → IsAtEase old.local → IsTrue (has_all_shut old.local) → tables ≡ known_maps old.own → IsValid shape tables → IsFresh old
    → LooksAtQueue old new queue → IsReady new shape tables queue
looked_ready old new shape tables queue is taken ease lines maps valid fresh looks =
    let reading = looks.reading in
    let same : shape_of new ≡ shape_of old = ap shape_of reading.adds.new_is in
    let There : ℕ → GuestShape → Type 0 = λ id shape. IsTrue (has_interrupt shape (Lpi id)) in
    record {
      shape_is = is ∙ sym same;
      taken = ap (λ seen. seen.taken) reading.adds.new_is ∙ taken;
      ease = subst IsAtEase (sym reading.local) ease;
      lines = ap has_all_shut reading.local ∙ lines;
      maps = maps ∙ sym (maps_on old new looks.part reading.adds reading.within);
      valid = valid;
      fresh = record { reading = going_reading old new looks.part reading.adds reading.going fresh.reading; each = λ id there. (let was = subst (There id) same there in reading.untouched id was (fresh.each id was)) };
      knows = looks.knows;
    }
