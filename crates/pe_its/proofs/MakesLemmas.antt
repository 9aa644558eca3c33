-- Events that make what a call asks for.
use Rattle.std.proofs.Common.{◌≡◌, ℕ, Bool, true, false, IsTrue, List, [], ◌∷◌, ◌++◌, map, All, Option, refl, sym, ap, subst, ◌∙◌}
use Rattle.std.proofs.lemmas.List.Elements.{All-cons, All-nil, All-head, All-tail, All-append}
use Rattle.pe_mem.specs.Calls.{PlainWord, ItsCtlr, Cbaser, Cwriter, Ram, Propbaser, Pendbaser, Baser0, Baser1, Fault, Event, Put, Found, Place, Runs, Happened, Makes, HandsOut, IsLastRead, named_of, held_at, View}
use Rattle.pe_mem.specs.GicCall.declared.event.Event.TheVariants.{Read, Queue as QueueEvent}
use Rattle.pe_mem.specs.GicCall.declared.event.Found.TheVariants.{Word as FoundWord, Queue as FoundQueue, Nothing}
use Rattle.pe_mem.specs.GicCall.declared.event.Place.TheVariants.{Word, Queue as QueuePlace, Ctlr, Lpis}
use Rattle.pe_mem.specs.Core.{Seen, part_events}
use Rattle.pe_mem.specs.PortCall.Plain.{is_event_word}
use Rattle.pe_mem.specs.PortCall.Store.{Stores, MissesStore, AreStoreEvents, AreMissEvents}
use Rattle.pe_mem.proofs.ItsExec.GicCall.TraceLemmas.{makes_then}
use Rattle.pe_mem.proofs.ServeLemmas.{one_made}
use Rattle.pe_mem.proofs.UpdateLemmas.{put_made, reads_beside as store_reads_beside}
use Rattle.pe_mem.specs.ItsExec.declared.known.KnownQueue.{KnownQueue}
use Rattle.pe_mem.specs.ItsExec.Known.{queue_reads}
use Rattle.pe_mem.specs.ItsExec.Queue.{MovesQueue}

abbrev Hands : View → Happened → Type 0
Hands view h = HandsOut view h.event h.found

-- reads alone
pub makes_reads : (actor : Option ℕ) (view : View) (reads : List Happened) → named_of actor reads ≡ [] → Makes actor view [] [] [] reads
makes_reads actor view reads none =
    record {
      events_are = ap (map (λ h. h.event)) none;
      found = subst (All (Hands view)) (sym none) (All-nil (Hands view));
      reads = All-nil (λ place. IsLastRead place (held_at view place) reads);
    }

-- with the last reads of places
pub makes_with : (actor : Option ℕ) (view : View) (events : List Event) (places : List Place) (piece : List Happened) → Makes actor view events [] [] piece → All (λ place. IsLastRead place (held_at view place) piece) places → Makes actor view events places [] piece
makes_with actor view events places piece makes reads = record { events_are = makes.events_are; found = makes.found; reads = reads }

-- What looks at the registers of the queue found.

-- a place that was looked at
abbrev pub is_queue_place : Place → Bool
is_queue_place QueuePlace = true
is_queue_place (Word ItsCtlr) = true
is_queue_place (Word Cbaser) = true
is_queue_place (Word Cwriter) = true
is_queue_place place = false

-- and what was found there
abbrev pub queue_found : KnownQueue → Place → Found
queue_found queue QueuePlace = FoundQueue queue.offset queue.stalled
queue_found queue (Word ItsCtlr) = FoundWord queue.ctlr
queue_found queue (Word Cbaser) = FoundWord queue.cbaser
queue_found queue (Word Cwriter) = FoundWord queue.cwriter
queue_found queue place = Nothing

-- some events have no read of a place
abbrev pub IsUnread : Place → List Happened → Type 0
IsUnread place events = All (λ happened. happened.event ≡ Read place → ⊥) events

-- a place was looked at, was found as a view has it, and is not read again
pub record IsLooked (view : View) (queue : KnownQueue) (events : List Happened) (place : Place) : Type 0 where
  pub there : IsTrue (is_queue_place place)
  pub held : held_at view place ≡ queue_found queue place
  pub unread : IsUnread place events

-- Reads of other places.

pub unread_reads : (place other : Place) (reads : List Happened) → (Read other ≡ Read place → ⊥) → All (λ h. h.event ≡ Read other) reads → IsUnread place reads
unread_reads place other [] differ all = All-nil (λ h. h.event ≡ Read place → ⊥)
unread_reads place other (h ∷ reads) differ all =
    let Was : Happened → Type 0 = λ h. h.event ≡ Read other in
    let Is : Happened → Type 0 = λ h. h.event ≡ Read place → ⊥ in
    All-cons Is h reads (λ e. differ (sym (All-head Was h reads all) ∙ e)) (unread_reads place other reads differ (All-tail Was h reads all))

pub unread_join : (place : Place) (early late : List Happened) → IsUnread place early → IsUnread place late → IsUnread place (early ++ late)
unread_join place early late one two = All-append (λ h. h.event ≡ Read place → ⊥) early late one two

unread_one : (place : Place) (h : Happened) → (h.event ≡ Read place → ⊥) → IsUnread place (h ∷ [])
unread_one place h differ = let Is : Happened → Type 0 = λ h. h.event ≡ Read place → ⊥ in All-cons Is h [] differ (All-nil Is)

-- Stores.

pub stored_made : (actor : Option ℕ) (old new : Seen) (word : PlainWord) (value : ℕ) (view : View) → is_event_word word ≡ true → (stores : Stores old new word value) → view.words word ≡ stores.last.found
    → Makes actor view (Put word value ∷ []) [] [] (part_events old (stores.misses ++ stores.last ∷ []))
stored_made actor old new word value view kept stores holds =
    let Of : Bool → Type 0 = λ b. AreStoreEvents b word value stores.last.found (part_events old (stores.misses ++ stores.last ∷ [])) in
    let are : Of true = subst Of kept stores.events in
    let By : List Happened → Type 0 = λ piece. Makes actor view (Put word value ∷ []) [] [] piece in
    let shown : ℕ → List Happened = λ n. are.reads ++ (record { event = Put word value; found = FoundWord n }) ∷ [] in
    subst By (sym (are.split ∙ ap shown (sym holds))) (put_made actor view word value are.reads are.are_reads)

pub stored_unread : (old new : Seen) (word : PlainWord) (value : ℕ) (place : Place) → is_event_word word ≡ true → (stores : Stores old new word value) → (Read (Word word) ≡ Read place → ⊥) → IsUnread place (part_events old (stores.misses ++ stores.last ∷ []))
stored_unread old new word value place kept stores differ =
    let Of : Bool → Type 0 = λ b. AreStoreEvents b word value stores.last.found (part_events old (stores.misses ++ stores.last ∷ [])) in
    let are : Of true = subst Of kept stores.events in
    let put : Happened = record { event = Put word value; found = FoundWord stores.last.found } in
    subst (IsUnread place) (sym are.split) (unread_join place are.reads (put ∷ []) (unread_reads place (Word word) are.reads differ are.are_reads) (unread_one place put (λ e. absurd (cc))))

pub missed_made : (actor : Option ℕ) (old new : Seen) (word : PlainWord) (view : View) → is_event_word word ≡ true → (misses : MissesStore old new word) → Makes actor view [] [] [] (part_events old misses.part)
missed_made actor old new word view kept misses =
    let Of : Bool → Type 0 = λ b. AreMissEvents b word (part_events old misses.part) in
    let are : Of true = subst Of kept misses.events in
    makes_reads actor view (part_events old misses.part) (store_reads_beside actor (Word word) (part_events old misses.part) are)

pub missed_unread : (old new : Seen) (word : PlainWord) (place : Place) → is_event_word word ≡ true → (misses : MissesStore old new word) → (Read (Word word) ≡ Read place → ⊥) → IsUnread place (part_events old misses.part)
missed_unread old new word place kept misses differ =
    let Of : Bool → Type 0 = λ b. AreMissEvents b word (part_events old misses.part) in
    let are : Of true = subst Of kept misses.events in
    unread_reads place (Word word) (part_events old misses.part) differ are

-- The queue is moved.

pub moved_made : (actor : Option ℕ) (old new : Seen) (offset : ℕ) (view : View) (moves : MovesQueue old new offset) → Makes actor view (QueueEvent offset Runs ∷ []) [] [] (part_events old (moves.made ∷ []))
moved_made actor old new offset view moves =
    let happened : Happened = record { event = QueueEvent offset Runs; found = Nothing } in
    let By : List Happened → Type 0 = λ piece. Makes actor view (QueueEvent offset Runs ∷ []) [] [] piece in
    subst By (sym moves.events) (one_made actor view happened refl refl)

pub moved_unread : (old new : Seen) (offset : ℕ) (place : Place) (moves : MovesQueue old new offset) → IsUnread place (part_events old (moves.made ∷ []))
moved_unread old new offset place moves =
    subst (IsUnread place) (sym moves.events) (unread_one place (record { event = QueueEvent offset Runs; found = Nothing }) (λ e. absurd (cc)))

-- The looks at the registers of the queue.

abbrev shown_queue : KnownQueue → Happened
shown_queue queue = record { event = Read QueuePlace; found = FoundQueue queue.offset queue.stalled }

abbrev shown_word : PlainWord → ℕ → Happened
shown_word word n = record { event = Read (Word word); found = FoundWord n }

-- each of them is the last read of its place
looked_last : (queue : KnownQueue) (place : Place) (events : List Happened) → IsTrue (is_queue_place place) → IsUnread place events → IsLastRead place (queue_found queue place) (queue_reads queue ++ events)
looked_last queue QueuePlace events there unread =
    let Is : Happened → Type 0 = λ h. h.event ≡ Read QueuePlace → ⊥ in
    let c = shown_word Cwriter queue.cwriter in
    let b = shown_word Cbaser queue.cbaser in
    let a = shown_word ItsCtlr queue.ctlr in
    record { before = []; after = a ∷ b ∷ c ∷ events; split = refl; last = All-cons Is a (b ∷ c ∷ events) (λ e. absurd (cc)) (All-cons Is b (c ∷ events) (λ e. absurd (cc)) (All-cons Is c events (λ e. absurd (cc)) unread)) }
looked_last queue (Word ItsCtlr) events there unread =
    let Is : Happened → Type 0 = λ h. h.event ≡ Read (Word ItsCtlr) → ⊥ in
    let c = shown_word Cwriter queue.cwriter in
    let b = shown_word Cbaser queue.cbaser in
    record { before = shown_queue queue ∷ []; after = b ∷ c ∷ events; split = refl; last = All-cons Is b (c ∷ events) (λ e. absurd (cc)) (All-cons Is c events (λ e. absurd (cc)) unread) }
looked_last queue (Word Cbaser) events there unread =
    let Is : Happened → Type 0 = λ h. h.event ≡ Read (Word Cbaser) → ⊥ in
    let c = shown_word Cwriter queue.cwriter in
    record { before = shown_queue queue ∷ shown_word ItsCtlr queue.ctlr ∷ []; after = c ∷ events; split = refl; last = All-cons Is c events (λ e. absurd (cc)) unread }
looked_last queue (Word Cwriter) events there unread =
    record { before = shown_queue queue ∷ shown_word ItsCtlr queue.ctlr ∷ shown_word Cbaser queue.cbaser ∷ []; after = events; split = refl; last = unread }
looked_last queue (Word (Ram i)) events there unread = absurd (cc)
looked_last queue (Word (Propbaser v)) events there unread = absurd (cc)
looked_last queue (Word (Pendbaser v)) events there unread = absurd (cc)
looked_last queue (Word Baser0) events there unread = absurd (cc)
looked_last queue (Word Baser1) events there unread = absurd (cc)
looked_last queue (Word Fault) events there unread = absurd (cc)
looked_last queue Ctlr events there unread = absurd (cc)
looked_last queue (Lpis v) events there unread = absurd (cc)

pub looked_all : (view : View) (queue : KnownQueue) (events : List Happened) (places : List Place) → All (IsLooked view queue events) places → All (λ place. IsLastRead place (held_at view place) (queue_reads queue ++ events)) places
looked_all view queue events [] all = All-nil (λ place. IsLastRead place (held_at view place) (queue_reads queue ++ events))
looked_all view queue events (place ∷ places) all =
    let Was : Place → Type 0 = IsLooked view queue events in
    let Is : Place → Type 0 = λ place. IsLastRead place (held_at view place) (queue_reads queue ++ events) in
    let one = All-head Was place places all in
    let Of : Found → Type 0 = λ found. IsLastRead place found (queue_reads queue ++ events) in
    All-cons Is place places (subst Of (sym one.held) (looked_last queue place events one.there one.unread)) (looked_all view queue events places (All-tail Was place places all))

-- the looks, and then what was done
pub looks_then : (actor : Option ℕ) (view : View) (queue : KnownQueue) (events : List Event) (places : List Place) (piece : List Happened) → Makes actor view events [] [] piece → All (IsLooked view queue piece) places
    → Makes actor view events places [] (queue_reads queue ++ piece)
looks_then actor view queue events places piece makes looked =
    makes_with actor view events places (queue_reads queue ++ piece) (makes_then actor view [] events [] (queue_reads queue) piece (makes_reads actor view (queue_reads queue) refl) makes) (looked_all view queue piece places looked)
