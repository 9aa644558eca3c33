-- Writes of the registers of the ITS, before any command.
use Rattle.std.proofs.Common.{◌≡◌, ◌≢◌, ℕ, ◌/◌, ◌%◌, ◌^◌, ◌==◌, ◌&&◌, Bool, true, false, nat_lt, IsTrue, List, [], ◌∷◌, ◌++◌, All, Option, Some, None, if◌then◌else◌, refl, sym, ap, subst, ◌∙◌, arith}
use Rattle.std.proofs.lemmas.Bool.{eq-eqb, ne_eqb}
use Rattle.std.proofs.lemmas.List.Elements.{All-cons, All-nil, All-append}
use Rattle.pe_mem.specs.Words.{GuestShape, bit_of}
use Rattle.pe_mem.specs.Registers.{Half, half_written, enabled_in, cbaser_bits, baser_bits, queue_offset, queue_bytes, retries, Table, Devices, Collections, Cbaser as CbaserReg, Cwriter as CwriterReg, Maps}
use Rattle.pe_mem.specs.GicImap.declared.map.Reg.TheVariants.{Ctlr as CtlrReg}
use Rattle.pe_mem.specs.Calls.{PlainWord, ItsCtlr, Cbaser, Cwriter, place_of_plain, Event, Put, Place, Runs, its_written, Happened, IsLastRead, held_at, Makes, HaveSameIts, left_by, its_written_by, its_write_places, View}
use Rattle.pe_mem.specs.GicCall.declared.event.Event.TheVariants.{Read, Queue as QueueEvent}
use Rattle.pe_mem.specs.GicCall.declared.event.Found.TheVariants.{Word as FoundWord, Queue as FoundQueue}
use Rattle.pe_mem.specs.GicCall.declared.event.Place.TheVariants.{Word, Queue as QueuePlace}
use Rattle.pe_mem.specs.GicCall.Access.{starts_commands}
use Rattle.pe_mem.specs.Core.{Made, known_maps, Seen, Adds, shape_of, part_events}
use Rattle.pe_mem.proofs.ItsExec.GicCall.ReadLemmas.{last_kept}
use Rattle.pe_mem.proofs.ItsExec.GicCall.TraceLemmas.{makes_then, read_later}
use Rattle.pe_mem.proofs.PortCore.PortLemmas.{adds_join}
use Rattle.pe_mem.specs.PortCall.Memory.{view_by}
use Rattle.pe_mem.specs.PortCall.Piece.{IsRestedPiece}
use Rattle.pe_mem.specs.PortCall.Plain.{is_event_word}
use Rattle.pe_mem.specs.PortCall.Store.{Stores}
use Rattle.pe_mem.proofs.PortCall.PieceLemmas.{seen_nil, piece_nil, rested}
use Rattle.pe_mem.proofs.PortCall.TurnLemmas.{rested_then, events_then}
use Rattle.pe_mem.proofs.ServeLemmas.{none_made}
use Rattle.pe_mem.specs.ItsExec.declared.known.KnownQueue.{KnownQueue}
use Rattle.pe_mem.specs.ItsExec.Known.{KnowsQueue, queue_reads}
use Rattle.pe_mem.specs.ItsExec.Queue.{MovesQueue, IsReady, HasIts}
use Rattle.pe_mem.proofs.ItsExec.LookLemmas.{word_held, offset_held, stalled_held}
use Rattle.pe_its.specs.declared.change.Change.TheVariants.{Cbaser as CbaserChange, Baser as BaserChange, Cwriter as CwriterChange}
use Rattle.pe_its.specs.Change.{changed_by, ChangesWord, StoresChanged, KeepsWord}
use Rattle.pe_its.specs.Register.{IsReadyNow, WritesRegister, Retries, RetriesBy, retried, baser_reg, baser_word}
use Rattle.pe_its.proofs.MakesLemmas.{IsLooked, IsUnread, looks_then, stored_made, stored_unread, missed_made, missed_unread, moved_made, moved_unread, unread_join}
use Rattle.pe_its.proofs.StoredLemmas.{control_knows, cwriter_knows, stored_maps, stored_has, missed_has, has_then, ready_has, stored_ready}

-- The guest as it was found: the registers of the queue so, and any other word this.

abbrev pub words_of : KnownQueue → ℕ → PlainWord → ℕ
words_of queue other ItsCtlr = queue.ctlr
words_of queue other Cbaser = queue.cbaser
words_of queue other Cwriter = queue.cwriter
words_of queue other word = other

abbrev pub view_of : Seen → KnownQueue → ℕ → View
view_of seen queue other = record (view_by seen) { words = words_of queue other; offset = queue.offset; is_stalled = queue.stalled }

-- the ITS as it is known
queue_same :
    (seen : Seen) (its : View) (queue : KnownQueue) → its.words ItsCtlr ≡ queue.ctlr → its.words Cbaser ≡ queue.cbaser → its.words Cwriter ≡ queue.cwriter → its.offset ≡ queue.offset → its.is_stalled ≡ queue.stalled → its.maps ≡ known_maps seen.own
    → KnowsQueue seen queue → HaveSameIts its (view_by seen)
queue_same seen its queue a b c d e f knows =
    record {
      ctlr = a ∙ sym (word_held seen ItsCtlr queue.ctlr knows.ctlr);
      cbaser = b ∙ sym (word_held seen Cbaser queue.cbaser knows.cbaser);
      cwriter = c ∙ sym (word_held seen Cwriter queue.cwriter knows.cwriter);
      offset = d ∙ sym (offset_held seen queue.offset queue.stalled knows.place);
      stalled = e ∙ sym (stalled_held seen queue.offset queue.stalled knows.place);
      maps = f;
    }

-- a word that is stored, and another one
put_same : (shape : GuestShape) (word : PlainWord) (value other : ℕ) → (if place_of_plain shape word == place_of_plain shape word then value else other) ≡ value
put_same shape word value other = ap (λ b. if b then value else other) (eq-eqb (place_of_plain shape word) (place_of_plain shape word) refl)

put_other : (shape : GuestShape) (word other : PlainWord) (value n : ℕ) → place_of_plain shape other ≢ place_of_plain shape word → (if place_of_plain shape other == place_of_plain shape word then value else n) ≡ n
put_other shape word other value n differ = ap (λ b. if b then value else n) (ne_eqb (place_of_plain shape other) (place_of_plain shape word) differ)

-- GITS_CTLR.

pub control_writes : (old new : Seen) (queue : KnownQueue) (value ctlr : ℕ) → ctlr ≡ bit_of (enabled_in value) → Stores old new ItsCtlr ctlr → IsReadyNow old queue → (half : Half) → WritesRegister old new queue CtlrReg half value true
control_writes old new queue value ctlr is stores ready half =
    let shape = shape_of old in
    let part = stores.misses ++ stores.last ∷ [] in
    let view = view_of old (record queue { ctlr = stores.last.found }) 0 in
    let put : View = left_by shape view (Put ItsCtlr ctlr) in
    let By : ℕ → Type 0 = λ n. Makes (Some old.actor) view (Put ItsCtlr n ∷ []) [] [] (part_events old part) in
    let Left : ℕ → Type 0 = λ n. HaveSameIts (left_by shape view (Put ItsCtlr n)) (view_by new) in
    let Is : Place → Type 0 = IsLooked view queue (part_events old part) in
    record {
      view = view;
      part = part;
      adds = stores.adds;
      local_is = stores.local_is;
      maps_are = refl;
      made =
          looks_then (Some old.actor) view queue (its_written view CtlrReg half value) (its_write_places CtlrReg) (part_events old part)
          (subst By is (stored_made (Some old.actor) old new ItsCtlr ctlr view refl stores refl))
          (All-cons Is (Word Cbaser) (Word Cwriter ∷ QueuePlace ∷ []) (record { there = refl; held = refl; unread = stored_unread old new ItsCtlr ctlr (Word Cbaser) refl stores (λ e. absurd (cc)) }) (All-cons Is (Word Cwriter) (QueuePlace ∷ []) (record { there = refl; held = refl; unread = stored_unread old new ItsCtlr ctlr (Word Cwriter) refl stores (λ e. absurd (cc)) }) (All-cons Is QueuePlace [] (record { there = refl; held = refl; unread = stored_unread old new ItsCtlr ctlr QueuePlace refl stores (λ e. absurd (cc)) }) (All-nil Is))));
      starts_are = refl;
      left = λ starts.
          subst Left is
          (queue_same new put (record queue { ctlr = ctlr }) (put_same shape ItsCtlr ctlr stores.last.found) (put_other shape ItsCtlr Cbaser ctlr queue.cbaser (λ e. omega (arith, e))) (put_other shape ItsCtlr Cwriter ctlr queue.cwriter (λ e. omega (arith, e)))
          refl refl (sym (stored_maps old new ItsCtlr ctlr stores)) (control_knows old new ctlr queue stores ready.knows));
      piece = rested old _ stores.piece;
    }

-- Places that were looked at.

never : {A : Type 0} → IsTrue false → A
never h = absurd (cc)

control_looked : (view : View) (queue : KnownQueue) (events : List Happened) → view.words ItsCtlr ≡ queue.ctlr → IsUnread (Word ItsCtlr) events → All (IsLooked view queue events) (Word ItsCtlr ∷ [])
control_looked view queue events is unread =
    let Is : Place → Type 0 = IsLooked view queue events in All-cons Is (Word ItsCtlr) [] (record { there = refl; held = ap FoundWord is; unread = unread }) (All-nil Is)

-- GITS_CBASER.

pub cbaser_ignored : (old : Seen) (queue : KnownQueue) (half : Half) (value : ℕ) → enabled_in queue.ctlr ≡ true → WritesRegister old old queue CbaserReg half value false
cbaser_ignored old queue half value on =
    let view = view_of old queue 0 in
    let By : List Event → Type 0 = λ events. Makes (Some old.actor) view events [] [] [] in
    let events : Bool → List Event = λ b. if b then [] else Put Cwriter 0 ∷ QueueEvent 0 Runs ∷ Put Cbaser (cbaser_bits (half_written half queue.cbaser value)) ∷ [] in
    record {
      view = view;
      part = [];
      adds = record { new_is = sym (seen_nil old) };
      local_is = refl;
      maps_are = refl;
      made =
          looks_then (Some old.actor) view queue (its_written view CbaserReg half value) (its_write_places CbaserReg) []
          (subst By (sym (ap events on)) (none_made (Some old.actor) view))
          (control_looked view queue [] refl (All-nil (λ h. h.event ≡ Read (Word ItsCtlr) → ⊥)));
      starts_are = refl;
      left = never;
      piece = rested old [] (piece_nil old);
    }

some_is : (m n : ℕ) → Some m ≡ Some n → m ≡ n
some_is m n e = cc

pub cbaser_writes :
    (old a b new : Seen) (queue : KnownQueue) (half : Half) (value : ℕ) (result : Option ℕ) → enabled_in queue.ctlr ≡ false → Stores old a Cwriter 0 → MovesQueue a b 0 → ChangesWord b new Cbaser (changed_by (CbaserChange half value)) result
    → WritesRegister old new queue CbaserReg half value false
cbaser_writes old a b new queue half value None off first moves changes = let none = changes.kept in absurd (cc)
cbaser_writes old a b new queue half value (Some found) off first moves changes =
    let actor = Some old.actor in
    let stored = changes.stores in
    let one = first.misses ++ first.last ∷ [] in
    let two = moves.made ∷ [] in
    let three = stored.misses ++ stored.last ∷ [] in
    let view = view_of old (record queue { cwriter = first.last.found; cbaser = found }) 0 in
    let stores_this = cbaser_bits (half_written half found value) in
    let By : ℕ → Type 0 = λ n. Makes actor view (Put Cbaser n ∷ []) [] [] (part_events b three) in
    let last : By stores_this = subst By (some_is changes.value stores_this (sym changes.changed_is)) (stored_made actor b new Cbaser changes.value view refl stored (sym changes.found_is)) in
    let late = makes_then actor view (QueueEvent 0 Runs ∷ []) (Put Cbaser stores_this ∷ []) [] (part_events a two) (part_events b three) (moved_made actor a b 0 view moves) last in
    let events : List Event = Put Cwriter 0 ∷ QueueEvent 0 Runs ∷ Put Cbaser stores_this ∷ [] in
    let piece : List Happened = part_events old one ++ (part_events a two ++ part_events b three) in
    let whole : Makes actor view events [] [] piece
    = makes_then actor view (Put Cwriter 0 ∷ []) (QueueEvent 0 Runs ∷ Put Cbaser stores_this ∷ []) [] (part_events old one) (part_events a two ++ part_events b three) (stored_made actor old a Cwriter 0 view refl first refl) late in
    let events_are : part_events old (one ++ (two ++ three)) ≡ piece
    = events_then old a one (two ++ three) first.adds ∙ ap (λ events. part_events old one ++ events) (events_then a b two three moves.adds) in
    let unread : IsUnread (Word ItsCtlr) piece
    = unread_join (Word ItsCtlr) (part_events old one) (part_events a two ++ part_events b three) (stored_unread old a Cwriter 0 (Word ItsCtlr) refl first (λ e. absurd (cc)))
    (unread_join (Word ItsCtlr) (part_events a two) (part_events b three) (moved_unread a b 0 (Word ItsCtlr) moves) (stored_unread b new Cbaser changes.value (Word ItsCtlr) refl stored (λ e. absurd (cc)))) in
    let choose : Bool → List Event = λ b. if b then [] else events in
    let ByEvents : List Event → Type 0 = λ events. Makes actor view events [] [] (part_events old (one ++ (two ++ three))) in
    let ByPiece : List Happened → Type 0 = λ piece. Makes actor view events [] [] piece in
    record {
      view = view;
      part = one ++ (two ++ three);
      adds = adds_join old a new one (two ++ three) first.adds (adds_join a b new two three moves.adds stored.adds);
      local_is = stored.local_is ∙ moves.local_is ∙ first.local_is;
      maps_are = refl;
      made =
          looks_then (Some old.actor) view queue (its_written view CbaserReg half value) (its_write_places CbaserReg) (part_events old (one ++ (two ++ three)))
          (subst ByEvents (sym (ap choose off)) (subst ByPiece (sym events_are) whole))
          (control_looked view queue (part_events old (one ++ (two ++ three))) refl (subst (IsUnread (Word ItsCtlr)) (sym events_are) unread));
      starts_are = refl;
      left = never;
      piece = rested_then old a one (two ++ three) first.adds (rested old one first.piece) (rested_then a b two three moves.adds moves.piece (rested b three stored.piece));
    }

-- GITS_BASER0 and GITS_BASER1.

baser_events : (view : View) (table : Table) (half : Half) (value : ℕ) → its_written view (baser_reg table) half value ≡ (if enabled_in (view.words ItsCtlr) then [] else Put (baser_word table) (baser_bits (half_written half (view.words (baser_word table)) value)) ∷ [])
baser_events view Devices half value = refl
baser_events view Collections half value = refl

baser_places : (table : Table) → its_write_places (baser_reg table) ≡ Word ItsCtlr ∷ []
baser_places Devices = refl
baser_places Collections = refl

baser_starts : (view : View) (table : Table) (half : Half) (value : ℕ) → starts_commands view (baser_reg table) half value ≡ false
baser_starts view Devices half value = refl
baser_starts view Collections half value = refl

baser_kept : (table : Table) → is_event_word (baser_word table) ≡ true
baser_kept Devices = refl
baser_kept Collections = refl

baser_found : (queue : KnownQueue) (found : ℕ) (table : Table) → words_of queue found (baser_word table) ≡ found
baser_found queue found Devices = refl
baser_found queue found Collections = refl

baser_apart : (table : Table) → Read (Word (baser_word table)) ≡ Read (Word ItsCtlr) → ⊥
baser_apart Devices e = absurd (cc)
baser_apart Collections e = absurd (cc)

pub baser_ignored : (old : Seen) (queue : KnownQueue) (table : Table) (half : Half) (value : ℕ) → enabled_in queue.ctlr ≡ true → WritesRegister old old queue (baser_reg table) half value false
baser_ignored old queue table half value on =
    let view = view_of old queue 0 in
    let By : List Event → Type 0 = λ events. Makes (Some old.actor) view events [] [] [] in
    let events : Bool → List Event = λ b. if b then [] else Put (baser_word table) (baser_bits (half_written half (view.words (baser_word table)) value)) ∷ [] in
    let Looked : List Place → Type 0 = All (IsLooked view queue []) in
    record {
      view = view;
      part = [];
      adds = record { new_is = sym (seen_nil old) };
      local_is = refl;
      maps_are = refl;
      made =
          looks_then (Some old.actor) view queue (its_written view (baser_reg table) half value) (its_write_places (baser_reg table)) []
          (subst By (sym (baser_events view table half value ∙ ap events on)) (none_made (Some old.actor) view))
          (subst Looked (sym (baser_places table)) (control_looked view queue [] refl (All-nil (λ h. h.event ≡ Read (Word ItsCtlr) → ⊥))));
      starts_are = baser_starts view table half value;
      left = never;
      piece = rested old [] (piece_nil old);
    }

pub baser_writes : (old new : Seen) (queue : KnownQueue) (table : Table) (half : Half) (value : ℕ) (result : Option ℕ) → enabled_in queue.ctlr ≡ false → ChangesWord old new (baser_word table) (changed_by (BaserChange half value)) result
    → WritesRegister old new queue (baser_reg table) half value false
baser_writes old new queue table half value None off changes = let none = changes.kept in absurd (cc)
baser_writes old new queue table half value (Some found) off changes =
    let actor = Some old.actor in
    let word = baser_word table in
    let stored = changes.stores in
    let part = stored.misses ++ stored.last ∷ [] in
    let view = view_of old queue found in
    let held : view.words word ≡ found = baser_found queue found table in
    let bits : ℕ → ℕ = λ n. baser_bits (half_written half n value) in
    let By : ℕ → Type 0 = λ n. Makes actor view (Put word n ∷ []) [] [] (part_events old part) in
    let ByEvents : List Event → Type 0 = λ events. Makes actor view events [] [] (part_events old part) in
    let choose : Bool → List Event = λ b. if b then [] else Put word (bits (view.words word)) ∷ [] in
    let Looked : List Place → Type 0 = All (IsLooked view queue (part_events old part)) in
    record {
      view = view;
      part = part;
      adds = stored.adds;
      local_is = stored.local_is;
      maps_are = refl;
      made =
          looks_then (Some old.actor) view queue (its_written view (baser_reg table) half value) (its_write_places (baser_reg table)) (part_events old part)
          (subst ByEvents (sym (baser_events view table half value ∙ ap choose off)) (subst By (some_is changes.value (bits found) (sym changes.changed_is) ∙ ap bits (sym held)) (stored_made actor old new word changes.value view (baser_kept table) stored (held ∙ sym changes.found_is))))
          (subst Looked (sym (baser_places table)) (control_looked view queue (part_events old part) refl (stored_unread old new word changes.value (Word ItsCtlr) (baser_kept table) stored (baser_apart table))));
      starts_are = baser_starts view table half value;
      left = never;
      piece = rested old _ stored.piece;
    }

-- GITS_CWRITER.

cwriter_looked : (view : View) (queue : KnownQueue) (events : List Happened) → view.words ItsCtlr ≡ queue.ctlr → view.words Cbaser ≡ queue.cbaser → view.offset ≡ queue.offset → view.is_stalled ≡ queue.stalled → IsUnread (Word ItsCtlr) events → IsUnread (Word Cbaser) events
    → IsUnread QueuePlace events → All (IsLooked view queue events) (Word ItsCtlr ∷ Word Cbaser ∷ QueuePlace ∷ [])
cwriter_looked view queue events ctlr cbaser offset stalled one two three =
    let Is : Place → Type 0 = IsLooked view queue events in
    All-cons Is (Word ItsCtlr) (Word Cbaser ∷ QueuePlace ∷ []) (record { there = refl; held = ap FoundWord ctlr; unread = one })
    (All-cons Is (Word Cbaser) (QueuePlace ∷ []) (record { there = refl; held = ap FoundWord cbaser; unread = two })
    (All-cons Is QueuePlace [] (record { there = refl; held = ap (λ n. FoundQueue n view.is_stalled) offset ∙ ap (FoundQueue queue.offset) stalled; unread = three }) (All-nil Is)))

cwriter_made : (actor : Option ℕ) (view : View) (queue : KnownQueue) (events : List Event) (piece : List Happened) → Makes actor view events [] [] piece → All (IsLooked view queue piece) (Word ItsCtlr ∷ Word Cbaser ∷ QueuePlace ∷ [])
    → IsLastRead (Word Cwriter) (held_at view (Word Cwriter)) piece → Makes actor view events (Word ItsCtlr ∷ Word Cbaser ∷ QueuePlace ∷ Word Cwriter ∷ []) [] (queue_reads queue ++ piece)
cwriter_made actor view queue events piece made looked last =
    let places : List Place = Word ItsCtlr ∷ Word Cbaser ∷ QueuePlace ∷ [] in
    let first = looks_then actor view queue events places piece made looked in
    let Last : Place → Type 0 = λ place. IsLastRead place (held_at view place) (queue_reads queue ++ piece) in
    record {
      events_are = first.events_are;
      found = first.found;
      reads = All-append Last places (Word Cwriter ∷ []) first.reads (All-cons Last (Word Cwriter) [] (read_later (Word Cwriter) (held_at view (Word Cwriter)) (queue_reads queue) piece last) (All-nil Last));
    }

out_by : (b : Bool) (n : ℕ) → (if b then Some n else None) ≡ None → b ≡ false
out_by true n e = absurd (cc)
out_by false n e = refl

in_by : (b : Bool) (n m : ℕ) → (if b then Some n else None) ≡ Some m → (b ≡ true) × (n ≡ m)
in_by true n m e = (refl, some_is n m e)
in_by false n m e = absurd (cc)

-- the events of one whose value is this
cwriter_by : Bool → KnownQueue → ℕ → List Event
cwriter_by b queue written = if b then Put Cwriter (queue_offset written) ∷ (if queue.stalled && retries queue.cbaser written then QueueEvent queue.offset Runs ∷ [] else []) else []

pub cwriter_ignored : (old new : Seen) (queue : KnownQueue) (half : Half) (value : ℕ) → KeepsWord old new Cwriter (changed_by (CwriterChange queue.cbaser half value)) → WritesRegister old new queue CwriterReg half value false
unfolding cwriter_by
cwriter_ignored old new queue half value keeps =
    let written = half_written half keeps.found value in
    let out = out_by (nat_lt (queue_offset written) (queue_bytes queue.cbaser)) (queue_offset written) keeps.kept in
    let view = view_of old (record queue { cwriter = keeps.found }) 0 in
    let part = keeps.looks.part in
    let By : List Event → Type 0 = λ events. Makes (Some old.actor) view events [] [] (part_events old part) in
    let choose : Bool → List Event = λ b. cwriter_by b queue written in
    record {
      view = view;
      part = part;
      adds = keeps.looks.adds;
      local_is = keeps.looks.local_is;
      maps_are = refl;
      made =
          cwriter_made (Some old.actor) view queue (its_written view CwriterReg half value) (part_events old part)
          (subst By (sym (ap choose out)) (missed_made (Some old.actor) old new Cwriter view refl keeps.looks))
          (cwriter_looked view queue (part_events old part) refl refl refl refl (missed_unread old new Cwriter (Word ItsCtlr) refl keeps.looks (λ e. absurd (cc))) (missed_unread old new Cwriter (Word Cbaser) refl keeps.looks (λ e. absurd (cc))) (missed_unread old new Cwriter QueuePlace refl keeps.looks (λ e. absurd (cc))))
          (keeps.read);
      starts_are = out;
      left = never;
      piece = rested old _ keeps.looks.piece;
    }

-- the end of a stall, if there is one
record RetryPart (old new : Seen) (actor : Option ℕ) (view : View) (events : List Event) : Type 0 where
  part : List Made
  adds : Adds old new part
  local_is : new.local ≡ old.local
  made : Makes actor view events [] [] (part_events old part)
  unread : (place : Place) → IsUnread place (part_events old part)
  piece : IsRestedPiece old part

retry_part : (b : Bool) (old new : Seen) (actor : Option ℕ) (view : View) (offset : ℕ) → Retries b old new offset → RetryPart old new actor view (if b then QueueEvent offset Runs ∷ [] else [])
retry_part true old new actor view offset moves =
    record { part = moves.made ∷ []; adds = moves.adds; local_is = moves.local_is; made = moved_made actor old new offset view moves; unread = λ place. moved_unread old new offset place moves; piece = moves.piece }
retry_part false old new actor view offset same =
    record {
      part = [];
      adds = record { new_is = same ∙ sym (seen_nil old) };
      local_is = ap (λ seen. seen.local) same;
      made = none_made actor view;
      unread = λ place. All-nil (λ h. h.event ≡ Read place → ⊥);
      piece = rested old [] (piece_nil old);
    }

retry_left : (b : Bool) (shape : GuestShape) (seen : Seen) (its : View) (queue : KnownQueue) → its.words ItsCtlr ≡ queue.ctlr → its.words Cbaser ≡ queue.cbaser → its.words Cwriter ≡ queue.cwriter → its.offset ≡ queue.offset → its.is_stalled ≡ queue.stalled
    → its.maps ≡ known_maps seen.own → KnowsQueue seen (record queue { stalled = if b then false else queue.stalled }) → HaveSameIts (its_written_by shape its (if b then QueueEvent queue.offset Runs ∷ [] else [])) (view_by seen)
retry_left true shape seen its queue a b c d e f knows = queue_same seen (record its { offset = queue.offset; is_stalled = false }) (record queue { stalled = false }) a b c refl refl f knows
retry_left false shape seen its queue a b c d e f knows = queue_same seen its queue a b c d e f knows

pub cwriter_writes :
    (old mid new : Seen) (queue after : KnownQueue) (half : Half) (value found offset : ℕ) → StoresChanged old mid Cwriter (changed_by (CwriterChange queue.cbaser half value)) found → offset ≡ queue_offset (half_written half found value)
    → RetriesBy mid new (record queue { cwriter = offset }) (half_written half found value) → after ≡ retried (record queue { cwriter = offset }) (half_written half found value) → known_maps new.own ≡ known_maps old.own → KnowsQueue new after
    → WritesRegister old new queue CwriterReg half value true
unfolding cwriter_by
cwriter_writes old mid new queue after half value found offset changes offset_is retries_so after_is maps knows =
    let actor = Some old.actor in
    let shape = shape_of old in
    let written = half_written half found value in
    let to = queue_offset written in
    let again = queue.stalled && retries queue.cbaser written in
    let inside = in_by (nat_lt to (queue_bytes queue.cbaser)) to changes.value changes.changed_is in
    let stored = changes.stores in
    let one = stored.misses ++ stored.last ∷ [] in
    let view = view_of old (record queue { cwriter = found }) 0 in
    let retry = retry_part again mid new actor view queue.offset retries_so in
    let rest : List Event = if again then QueueEvent queue.offset Runs ∷ [] else [] in
    let put : View = left_by shape view (Put Cwriter to) in
    let By : ℕ → Type 0 = λ n. Makes actor view (Put Cwriter n ∷ []) [] [] (part_events old one) in
    let first : By to = subst By (sym inside.1) (stored_made actor old mid Cwriter changes.value view refl stored (sym changes.found_is)) in
    let piece : List Happened = part_events old one ++ part_events mid retry.part in
    let whole : Makes actor view (Put Cwriter to ∷ rest) [] [] piece = makes_then actor view (Put Cwriter to ∷ []) rest [] (part_events old one) (part_events mid retry.part) first retry.made in
    let events_are : part_events old (one ++ retry.part) ≡ piece = events_then old mid one retry.part stored.adds in
    let unread : (place : Place) → (Read (Word Cwriter) ≡ Read place → ⊥) → IsUnread place (part_events old (one ++ retry.part))
    = λ place differ. subst (IsUnread place) (sym events_are) (unread_join place (part_events old one) (part_events mid retry.part) (stored_unread old mid Cwriter changes.value place refl stored differ) (retry.unread place)) in
    let ByEvents : List Event → Type 0 = λ events. Makes actor view events [] [] (part_events old (one ++ retry.part)) in
    let ByPiece : List Happened → Type 0 = λ piece. Makes actor view (Put Cwriter to ∷ rest) [] [] piece in
    let choose : Bool → List Event = λ b. cwriter_by b queue written in
    let known : KnowsQueue new (record queue { cwriter = to; stalled = if again then false else queue.stalled })
    = subst (KnowsQueue new) (after_is ∙ ap (λ n. retried (record queue { cwriter = n }) written) offset_is) knows in
    let Left : List Event → Type 0 = λ events. HaveSameIts (its_written_by shape view events) (view_by new) in
    record {
      view = view;
      part = one ++ retry.part;
      adds = adds_join old mid new one retry.part stored.adds retry.adds;
      local_is = retry.local_is ∙ stored.local_is;
      maps_are = refl;
      made =
          cwriter_made (Some old.actor) view queue (its_written view CwriterReg half value) (part_events old (one ++ retry.part))
          (subst ByEvents (sym (ap choose inside.0)) (subst ByPiece (sym events_are) whole))
          (cwriter_looked view queue (part_events old (one ++ retry.part)) refl refl refl refl (unread (Word ItsCtlr) (λ e. absurd (cc))) (unread (Word Cbaser) (λ e. absurd (cc))) (unread QueuePlace (λ e. absurd (cc))))
          (subst (IsLastRead (Word Cwriter) (FoundWord found)) (sym events_are) (last_kept (Word Cwriter) (FoundWord found) (part_events old one) (part_events mid retry.part) changes.read (retry.unread (Word Cwriter))));
      starts_are = inside.0;
      left = λ starts.
          subst Left (sym (ap choose inside.0))
          (retry_left again shape new put (record queue { cwriter = to }) (put_other shape Cwriter ItsCtlr to queue.ctlr (λ e. omega (arith, e))) (put_other shape Cwriter Cbaser to queue.cbaser (λ e. omega (arith, e))) (put_same shape Cwriter to found) refl refl
          (sym maps) known);
      piece = rested_then old mid one retry.part stored.adds (rested old one stored.piece) retry.piece;
    }

-- the offset is what was stored
pub cwriter_stored : (old mid : Seen) (cbaser : ℕ) (half : Half) (value found written offset : ℕ) → StoresChanged old mid Cwriter (changed_by (CwriterChange cbaser half value)) found → written ≡ half_written half found value → offset ≡ queue_offset written
    → Stores old mid Cwriter offset
cwriter_stored old mid cbaser half value found written offset changes written_is offset_is =
    let to = queue_offset (half_written half found value) in
    let inside = in_by (nat_lt to (queue_bytes cbaser)) to changes.value changes.changed_is in
    subst (Stores old mid Cwriter) (sym (offset_is ∙ ap queue_offset written_is ∙ inside.1)) changes.stores

pub cwriter_done :
    (old mid new : Seen) (queue after : KnownQueue) (half : Half) (value found written offset : ℕ) → StoresChanged old mid Cwriter (changed_by (CwriterChange queue.cbaser half value)) found → written ≡ half_written half found value
    → offset ≡ queue_offset written → RetriesBy mid new (record queue { cwriter = offset }) written → after ≡ retried (record queue { cwriter = offset }) written → known_maps new.own ≡ known_maps old.own → KnowsQueue new after
    → WritesRegister old new queue CwriterReg half value true
cwriter_done old mid new queue after half value found written offset changes written_is offset_is retries_so after_is maps knows =
    let With : ℕ → Type 0 = λ w. (offset ≡ queue_offset w) × RetriesBy mid new (record queue { cwriter = offset }) w × (after ≡ retried (record queue { cwriter = offset }) w) in
    let all : With (half_written half found value) = subst With written_is (offset_is, retries_so, after_is) in
    cwriter_writes old mid new queue after half value found offset changes all.0 all.1 all.2 maps knows

-- GITS_CTLR is in the low half of a value
pub low_enabled : (n : ℕ) → enabled_in (n % 2 ^ 32) ≡ enabled_in n
low_enabled n = let same : n % 2 ^ 32 / 2 ^ 0 % 2 ≡ n / 2 ^ 0 % 2 = omega arith in ap (λ m. m == 1) same

-- The actor still has the ITS.

pub changed_has : (old new : Seen) (word : PlainWord) (changed : ℕ → Option ℕ) (result : Option ℕ) → ChangesWord old new word changed result → HasIts old (known_maps old.own) → HasIts new (known_maps old.own)
changed_has old new word changed (Some found) changes has = stored_has old new word changes.value changes.stores has
changed_has old new word changed None changes has = missed_has old new word changes.looks has

pub cbaser_has :
    (old a b new : Seen) (queue after : KnownQueue) (half : Half) (value : ℕ) (result : Option ℕ) → IsReadyNow old queue → Stores old a Cwriter 0 → ((shape : GuestShape) (maps : Maps) → IsReady a shape maps (record queue { cwriter = 0 }) → IsReady b shape maps after)
    → ChangesWord b new Cbaser (changed_by (CbaserChange half value)) result → HasIts new (known_maps old.own)
cbaser_has old a b new queue after half value result ready first moved changes =
    let ready_a = stored_ready old a Cwriter 0 queue (record queue { cwriter = 0 }) first ready (cwriter_knows old a 0 queue first ready.knows) in
    let has_a = stored_has old a Cwriter 0 first (ready_has old (shape_of old) (known_maps old.own) queue ready) in
    let has_b = ready_has b (shape_of a) (known_maps a.own) after (moved (shape_of a) (known_maps a.own) ready_a) in
    has_then old b new (has_then old a b has_a has_b) (changed_has b new Cbaser (changed_by (CbaserChange half value)) result changes (subst (HasIts b) has_b.maps has_b))
