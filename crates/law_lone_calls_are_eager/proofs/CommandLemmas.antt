-- A command of the ITS: its doublewords, its parts and how the queue goes on are those of the guest as the command begins.
use Rattle.std.proofs.Common.{◌≡◌, ℕ, ◌+◌, ◌*◌, inl, inr, not, Bool, true, false, IsTrue, List, [], ◌∷◌, ◌++◌, map, Option, Some, None, refl, sym, ap, ◌∙◌, subst}
use Rattle.std.specs.List.{list_all}
use Rattle.std.specs.Option.{option_map_or}
use Rattle.std.proofs.lemmas.Bool.{and_from, and_parts}
use Rattle.std.proofs.lemmas.List.{append_assoc, map-append}
use Rattle.std.proofs.lemmas.List.Elements.{filter-append}
use Rattle.std.proofs.lemmas.List.Folds.{list_all-append}
use Rattle.law_home_commutes.specs.Words.{Lpi, GuestShape}
use Rattle.law_home_commutes.specs.Registers.{config_address, is_enabled, priority_of, part_of, extracted, Part as RamPart, queue_bytes, advanced, fault_number}
use Rattle.law_home_commutes.specs.Calls.{PlainWord, Ram, Propbaser, Cbaser, Part, Map, Clear, Event, Up, Down, Touch, Reach, Take, Leave, Enable, Cpu, Put, CtlrBegin, CtlrEnd, ItsBegin, Place, Runs, Done, Stalls, MapLpi, lpi_event, queue_address, word_address, command_words, next_offset, queue_event, Happened, is_beside, named_of, held_at, IsLastRead, Makes, memory_places, byte_places, ArePartsThen, command_places, HaveSameIts, View, memory_at, Found, words_read}
use Rattle.law_home_commutes.specs.ItsCmd.Command.{decoded}
use Rattle.law_home_commutes.specs.GicCall.declared.command.Part.TheVariants.{Forget, Retarget, Raise as RaisePart, Configure}
use Rattle.law_home_commutes.specs.GicCall.declared.event.Event.TheVariants.{Raise, Read, ItsEnd, Queue}
use Rattle.law_home_commutes.specs.GicCall.declared.event.Found.TheVariants.{Word as FoundWord}
use Rattle.law_home_commutes.specs.GicCall.declared.event.Place.TheVariants.{Word}
use Rattle.law_home_commutes.specs.GicCall.declared.touch.Touching.TheVariants.{Configure as ConfigureLpi}
use Rattle.law_home_commutes.specs.Histories.{IdealGuest, word_at, view_of, after_event, after_events}
use Rattle.law_eager_is_history.proofs.PieceLemmas.{all_weaker}
use Rattle.law_lone_calls_are_eager.proofs.EnableLemmas.{in_flat}
use Rattle.law_lone_calls_are_eager.proofs.NamedLemmas.{IsIn}
use Rattle.law_lone_calls_are_eager.proofs.PlainLemmas.{same_word}
use Rattle.law_lone_calls_are_eager.proofs.ReadLemmas.{keeps, read_held, beside_passes, all_in, last_in, kept_at}
use Rattle.law_lone_calls_are_eager.proofs.RunLemmas.{events_of, spreading_after, IsHomeRun}

-- Runs in pieces.

abbrev pub marks_after : List Happened → Bool → Bool
marks_after [] b = b
marks_after (one ∷ piece) b = marks_after piece (spreading_after one.event b)

pub run_split : (first next : List Happened) (b : Bool) (guest : IdealGuest) → IsHomeRun b guest (first ++ next) → IsHomeRun b guest first × IsHomeRun (marks_after first b) (after_events (events_of first) guest) next
run_split [] next b guest run = (tt, run)
run_split (one ∷ first) next b guest run = let later = run_split first next (spreading_after one.event b) (after_event guest one.event) run.1 in ((run.0, later.0), later.1)

pub named_both : (actor : Option ℕ) (first next : List Happened) → events_of (named_of actor (first ++ next)) ≡ events_of (named_of actor first) ++ events_of (named_of actor next)
named_both actor first next =
    ap events_of (filter-append (λ (h : Happened). not (is_beside actor h.event)) first next) ∙ map-append (λ (h : Happened). h.event) (named_of actor first) (named_of actor next)

pub events_both : (first next : List Happened) → events_of (first ++ next) ≡ events_of first ++ events_of next
events_both first next = map-append (λ (h : Happened). h.event) first next

-- Events that store no plain word.

abbrev pub keeps_words : Event → Bool
keeps_words (Put other value) = false
keeps_words (Queue offset change) = false
keeps_words (Cpu u reg write) = false
keeps_words event = true

pub beside_words : (actor : Option ℕ) (event : Event) → is_beside actor event ≡ true → keeps_words event ≡ true
beside_words actor (Raise key) h = absurd (cc)
beside_words actor (Up key) h = absurd (cc)
beside_words actor (Down key) h = absurd (cc)
beside_words actor (Touch key touching) h = absurd (cc)
beside_words actor (Reach key u) h = refl
beside_words actor (Take key u) h = refl
beside_words actor (Leave key u) h = refl
beside_words actor (Enable u) h = absurd (cc)
beside_words actor (Cpu u reg write) h = absurd (cc)
beside_words actor (Read at) h = refl
beside_words actor (Put other value) h = absurd (cc)
beside_words actor (CtlrBegin enables) h = absurd (cc)
beside_words actor CtlrEnd h = absurd (cc)
beside_words actor ItsBegin h = absurd (cc)
beside_words actor ItsEnd h = absurd (cc)
beside_words actor (Queue offset Runs) h = absurd (cc)
beside_words actor (Queue offset (Done words)) h = absurd (cc)
beside_words actor (Queue offset (Stalls fault)) h = absurd (cc)

words_keep : (shape : GuestShape) (word : PlainWord) (event : Event) → IsTrue (keeps_words event) → IsTrue (keeps shape (Word word) event)
words_keep shape word (Raise key) h = refl
words_keep shape word (Up key) h = refl
words_keep shape word (Down key) h = refl
words_keep shape word (Touch key touching) h = refl
words_keep shape word (Reach key u) h = refl
words_keep shape word (Take key u) h = refl
words_keep shape word (Leave key u) h = refl
words_keep shape word (Enable u) h = refl
words_keep shape word (Cpu u reg write) h = absurd (cc)
words_keep shape word (Read at) h = refl
words_keep shape word (Put other value) h = absurd (cc)
words_keep shape word (CtlrBegin enables) h = refl
words_keep shape word CtlrEnd h = refl
words_keep shape word ItsBegin h = refl
words_keep shape word ItsEnd h = refl
words_keep shape word (Queue offset Runs) h = absurd (cc)
words_keep shape word (Queue offset (Done words)) h = absurd (cc)
words_keep shape word (Queue offset (Stalls fault)) h = absurd (cc)

-- what some reads found of words is what a guest has
abbrev pub FindWords : IdealGuest → List Happened → Type 0
FindWords guest piece = (word : PlainWord) (found : Found) → IsIn piece (record { event = Read (Word word); found = found }) → found ≡ FoundWord (word_at guest word)

-- so it is of a run that stores none
pub words_found : (b : Bool) (guest : IdealGuest) (piece : List Happened) → IsHomeRun b guest piece → IsTrue (list_all keeps_words (events_of piece)) → FindWords guest piece
words_found b guest piece run keep word found among = read_held (Word word) found piece b guest run (all_weaker keeps_words (keeps guest.shape (Word word)) (words_keep guest.shape word) (events_of piece) keep) among

find_both : (guest : IdealGuest) (before own : List Happened) → FindWords guest before → FindWords guest own → FindWords guest (before ++ own)
find_both guest [] own one other word found among = other word found among
find_both guest (h ∷ before) own one other word found (inl e) = one word found (inl e)
find_both guest (h ∷ before) own one other word found (inr later) = find_both guest before own (λ w f is. one w f (inr is)) other word found later

-- what a piece goes by of words is what the guest has
pub reads_word : (guest : IdealGuest) (actor : Option ℕ) (view : View) (events : List Event) (places : List Place) (before own : List Happened) → Makes actor view events places before own → FindWords guest (before ++ own) → (word : PlainWord) → IsIn places (Word word)
    → view.words word ≡ word_at guest word
reads_word guest actor view events places before own made find word among =
    same_word (view.words word) (word_at guest word)
    (find word (held_at view (Word word)) (last_in (Word word) (held_at view (Word word)) (before ++ own) (all_in (λ p. IsLastRead p (held_at view p) (before ++ own)) places (Word word) made.reads among)))

-- the doublewords of a command, where the guest has them so
pub words_find : (shape : GuestShape) (guest : IdealGuest) (view : View) → ((word : PlainWord) → IsIn (command_places shape view) (Word word) → view.words word ≡ word_at guest word) → FindWords guest (words_read shape view)
words_find shape guest view same = of (command_places shape view) same
  where
    of : (places : List Place) → ((word : PlainWord) → IsIn places (Word word) → view.words word ≡ word_at guest word) → FindWords guest (map (λ place. (let h : Happened = record { event = Read place; found = held_at view place } in h)) places)
    of [] same word found among = absurd among
    of (place ∷ places) same word found (inl e) = found_is place e (same word)
      where
        same_place : (one other : Place) → Read one ≡ Read other → one ≡ other
        same_place one other e = cc

        found_is : (place : Place) → (let h : Happened = record { event = Read place; found = held_at view place } in h) ≡ record { event = Read (Word word); found = found } → (IsIn (place ∷ places) (Word word) → view.words word ≡ word_at guest word)
            → found ≡ FoundWord (word_at guest word)
        found_is place e same = let at : place ≡ Word word = same_place place (Word word) (ap (λ (h : Happened). h.event) e) in sym (ap (λ (h : Happened). h.found) e) ∙ ap (held_at view) at ∙ ap FoundWord (same (inl at))
    of (place ∷ places) same word found (inr later) = of places (λ w is. same w (inr is)) word found later

-- and so of memory
memory_seen : (shape : GuestShape) (guest : IdealGuest) (view : View) (address size : ℕ) → ((index : ℕ) → IsIn (memory_places shape address size) (Word (Ram index)) → view.words (Ram index) ≡ word_at guest (Ram index))
    → memory_at shape view address size ≡ memory_at shape (view_of guest) address size
memory_seen shape guest view address size seen = of (part_of address size shape.ram) seen
  where
    of : (o : Option RamPart) → ((index : ℕ) → IsIn (option_map_or (λ part. Word (Ram part.index) ∷ []) o []) (Word (Ram index)) → view.words (Ram index) ≡ word_at guest (Ram index))
        → option_map_or (λ part. extracted (view.words (Ram part.index)) part) o 0 ≡ option_map_or (λ part. extracted (word_at guest (Ram part.index)) part) o 0
    of None seen = refl
    of (Some part) seen = ap (λ n. extracted n part) (seen part.index (inl refl))

-- The doublewords of a command.

pub words_same : (shape : GuestShape) (guest : IdealGuest) (view : View) → HaveSameIts view (view_of guest) → ((word : PlainWord) → IsIn (command_places shape view) (Word word) → view.words word ≡ word_at guest word) → command_words shape view ≡ command_words shape (view_of guest)
words_same shape guest view its seen =
    ap (λ n. n ∷ at 1 ∷ at 2 ∷ at 3 ∷ []) (each 0 (inl refl)) ∙ ap (λ n. held 0 ∷ n ∷ at 2 ∷ at 3 ∷ []) (each 1 (inr (inl refl)))
    ∙ ap (λ n. held 0 ∷ held 1 ∷ n ∷ at 3 ∷ []) (each 2 (inr (inr (inl refl)))) ∙ ap (λ n. held 0 ∷ held 1 ∷ held 2 ∷ n ∷ []) (each 3 (inr (inr (inr (inl refl)))))
  where
    at : ℕ → ℕ
    at n = memory_at shape view (word_address view n) 8

    held : ℕ → ℕ
    held n = memory_at shape (view_of guest) (word_address (view_of guest) n) 8

    address_same : (n : ℕ) → word_address view n ≡ word_address (view_of guest) n
    address_same n = ap (λ c. queue_address c + view.offset + 8 * n) its.cbaser ∙ ap (λ o. queue_address (word_at guest Cbaser) + o + 8 * n) its.offset

    each : (n : ℕ) → IsIn (0 ∷ 1 ∷ 2 ∷ 3 ∷ []) n → memory_at shape view (word_address view n) 8 ≡ memory_at shape (view_of guest) (word_address (view_of guest) n) 8
    each n among =
        memory_seen shape guest view (word_address view n) 8 (λ index is. seen (Ram index) (in_flat (λ number. memory_places shape (word_address view number) 8) (0 ∷ 1 ∷ 2 ∷ 3 ∷ []) n (Word (Ram index)) among is))
        ∙ ap (λ a. memory_at shape (view_of guest) a 8) (address_same n)

-- how the queue goes on
pub queue_same : (shape : GuestShape) (guest : IdealGuest) (view : View) → HaveSameIts view (view_of guest) → command_words shape view ≡ command_words shape (view_of guest) → queue_event shape view ≡ queue_event shape (view_of guest)
queue_same shape guest view its words =
    ap (λ ws. option_map_or (λ fault. Queue view.offset (Stalls fault)) (fault_number shape view.maps (decoded ws)) (Queue (next_offset view) (Done ws))) words
    ∙ ap (λ maps. option_map_or (λ fault. Queue view.offset (Stalls fault)) (fault_number shape maps (decoded (command_words shape (view_of guest)))) (Queue (next_offset view) (Done (command_words shape (view_of guest))))) its.maps
    ∙ ap (λ o. option_map_or (λ fault. Queue o (Stalls fault)) (fault_number shape guest.tables (decoded (command_words shape (view_of guest)))) (Queue (advanced o (queue_bytes (view.words Cbaser))) (Done (command_words shape (view_of guest))))) its.offset
    ∙ ap (λ c. option_map_or (λ fault. Queue guest.offset (Stalls fault)) (fault_number shape guest.tables (decoded (command_words shape (view_of guest)))) (Queue (advanced guest.offset (queue_bytes c)) (Done (command_words shape (view_of guest))))) its.cbaser

-- Its parts.

part_words : (shape : GuestShape) (view : View) (targets : ℕ → Option ℕ) (part : Part) → keeps_words (lpi_event shape view targets part) ≡ true
part_words shape view targets (Forget id) = refl
part_words shape view targets (Map id target) = refl
part_words shape view targets (Retarget id target) = refl
part_words shape view targets (RaisePart id) = refl
part_words shape view targets (Clear id) = refl
part_words shape view targets (Configure id) = refl

-- the configuration byte that one reads
byte_seen : (shape : GuestShape) (guest : IdealGuest) (view : View) (id vcpu : ℕ) → ((word : PlainWord) → IsIn (Word (Propbaser vcpu) ∷ memory_places shape (config_address (view.words (Propbaser vcpu)) id) 1) (Word word) → view.words word ≡ word_at guest word)
    → memory_at shape view (config_address (view.words (Propbaser vcpu)) id) 1 ≡ memory_at shape (view_of guest) (config_address (word_at guest (Propbaser vcpu)) id) 1
byte_seen shape guest view id vcpu seen =
    memory_seen shape guest view (config_address (view.words (Propbaser vcpu)) id) 1 (λ index is. seen (Ram index) (inr is))
    ∙ ap (λ p. memory_at shape (view_of guest) (config_address p id) 1) (seen (Propbaser vcpu) (inl refl))

part_same : (shape : GuestShape) (guest : IdealGuest) (view : View) (targets : ℕ → Option ℕ) (part : Part) → ((word : PlainWord) → IsIn (byte_places shape view targets part) (Word word) → view.words word ≡ word_at guest word)
    → lpi_event shape view targets part ≡ lpi_event shape (view_of guest) targets part
part_same shape guest view targets (Forget id) seen = refl
part_same shape guest view targets (Map id target) seen = ap (λ byte. Touch (Lpi id) (MapLpi target (is_enabled byte) (priority_of byte))) (byte_seen shape guest view id target seen)
part_same shape guest view targets (Retarget id target) seen = refl
part_same shape guest view targets (RaisePart id) seen = refl
part_same shape guest view targets (Clear id) seen = refl
part_same shape guest view targets (Configure id) seen = ap (λ byte. Touch (Lpi id) (ConfigureLpi (is_enabled byte) (priority_of byte))) (of (targets id) seen)
  where
    of : (o : Option ℕ) → ((word : PlainWord) → IsIn (option_map_or (λ vcpu. Word (Propbaser vcpu) ∷ memory_places shape (config_address (view.words (Propbaser vcpu)) id) 1) o []) (Word word) → view.words word ≡ word_at guest word)
        → option_map_or (λ vcpu. memory_at shape view (config_address (view.words (Propbaser vcpu)) id) 1) o 0 ≡ option_map_or (λ vcpu. memory_at shape (view_of guest) (config_address (word_at guest (Propbaser vcpu)) id) 1) o 0
    of None seen = refl
    of (Some vcpu) seen = byte_seen shape guest view id vcpu seen

-- the parts, one after the other, and what follows
pub record PartsDone (guest : IdealGuest) (actor : Option ℕ) (shape : GuestShape) (targets : ℕ → Option ℕ) (parts : List Part) (Rest : List Happened → Type 0) (piece : List Happened) : Type 0 where
  pub own : List Happened
  pub rest : List Happened
  pub split : piece ≡ own ++ rest
  pub events : events_of (named_of actor own) ≡ map (lpi_event shape (view_of guest) targets) parts
  pub keep : IsTrue (list_all keeps_words (events_of own))
  pub later : Rest rest

keeps_both : (test : Event → Bool) (first next : List Happened) → IsTrue (list_all test (events_of first)) → IsTrue (list_all test (events_of next)) → IsTrue (list_all test (events_of (first ++ next)))
keeps_both test first next one two = ap (list_all test) (events_both first next) ∙ list_all-append test (events_of first) (events_of next) ∙ and_from (list_all test (events_of first)) (list_all test (events_of next)) one two

pub words_stay : (events : List Event) (guest : IdealGuest) → IsTrue (list_all keeps_words events) → (word : PlainWord) → word_at (after_events events guest) word ≡ word_at guest word
words_stay [] guest keep word = refl
words_stay (event ∷ events) guest keep word =
    let parts = and_parts (keeps_words event) (list_all keeps_words events) keep in
    words_stay events (after_event guest event) parts.1 word ∙ same_word (word_at (after_event guest event) word) (word_at guest word) (kept_at (Word word) event false guest (words_keep guest.shape word event parts.0))

pub parts_done : (b : Bool) (guest now : IdealGuest) (actor : Option ℕ) (shape : GuestShape) (targets : ℕ → Option ℕ) (words : List Happened) (parts : List Part) (Rest : List Happened → Type 0) (before piece : List Happened) → ArePartsThen actor shape targets words parts Rest before piece
    → IsHomeRun b now piece → ((word : PlainWord) → word_at now word ≡ word_at guest word) → FindWords guest before → FindWords guest words → PartsDone guest actor shape targets parts Rest piece
parts_done b guest now actor shape targets words [] Rest before piece are run same find found = record { own = []; rest = piece; split = refl; events = refl; keep = refl; later = are }
parts_done b guest now actor shape targets words (part ∷ parts) Rest before piece are run same find found =
    let runs = run_split are.own are.rest b now (subst (IsHomeRun b now) are.split run) in
    let own_keep : IsTrue (list_all keeps_words (events_of are.own)) =
    beside_passes keeps_words beside_words actor are.own (subst (λ es. IsTrue (list_all keeps_words es)) (sym are.made.events_are) (and_from (keeps_words (lpi_event shape are.view targets part)) true (part_words shape are.view targets part) refl)) in
    let own_find : FindWords guest are.own = λ word found among. words_found b now are.own runs.0 own_keep word found among ∙ ap FoundWord (same word) in
    let event_same =
    part_same shape guest are.view targets part
    (reads_word guest actor are.view (lpi_event shape are.view targets part ∷ []) (byte_places shape are.view targets part) before are.own are.made (find_both guest before are.own find own_find)) in
    let next =
    parts_done (marks_after are.own b) guest (after_events (events_of are.own) now) actor shape targets words parts Rest words are.rest are.later runs.1 (λ word. words_stay (events_of are.own) now own_keep word ∙ same word) found found in
    record {
      own = are.own ++ next.own;
      rest = next.rest;
      split = are.split ∙ ap (λ xs. are.own ++ xs) next.split ∙ sym (append_assoc are.own next.own next.rest);
      events = named_both actor are.own next.own ∙ ap (λ es. es ++ events_of (named_of actor next.own)) (are.made.events_are ∙ ap (λ e. e ∷ []) event_same) ∙ ap (λ es. lpi_event shape (view_of guest) targets part ∷ es) next.events;
      keep = keeps_both keeps_words are.own next.own own_keep next.keep;
      later = next.later;
    }
