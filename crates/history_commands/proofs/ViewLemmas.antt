-- The guest as a command finds it: all that the command does goes by what is known of the ITS, and by what was read.
use Rattle.std.proofs.Common.{◌≡◌, ℕ, ◌+◌, ◌*◌, not, Bool, true, false, cond, is_none, List, [], ◌∷◌, ◌++◌, map, All, Option, Some, None, Result, Ok, Err, refl, sym, ap, ap₂, ◌∙◌, subst, arith, append_assoc, append-nil}
use Rattle.std.specs.List.{list_any, flat_map}
use Rattle.std.specs.Option.{option_map_or}
use Rattle.std.proofs.lemmas.List.{map-append}
use Rattle.std.proofs.lemmas.List.Elements.{All-nil, All-cons, All-head, All-tail, All-append, All-same}
use Rattle.history_commands.specs.Words.{GuestShape, Lpi}
use Rattle.history_commands.specs.Registers.{Maps, Part as MemoryPart, config_address, is_enabled, priority_of, part_of, queue_bytes, advanced, fault_number, Command, BadCommand, extracted}
use Rattle.history_commands.specs.LegalLists.ItsCmd.Command.{decoded}
use Rattle.history_commands.specs.Calls.{Event, Touch, Found, Happened, Place, PlainWord, Ram, Propbaser, ItsCtlr, Cbaser, Cwriter, QueueChange, Done, Stalls, View, Part, Map, IsLastRead, HaveSameIts, held_at, named_of, memory_at, memory_places, command_places, command_words, command_parts, decoded_parts, queue_event, queue_address, takes_command, word_address, words_read, byte_places, lpi_event, left_by, parts, config_byte}
use Rattle.history_commands.specs.GicCall.declared.event.Event.TheVariants.{Queue, Read}
use Rattle.history_commands.specs.GicCall.declared.event.Place.TheVariants.{Word}
use Rattle.history_commands.specs.GicCall.declared.event.Found.TheVariants.{Word as FoundWord}
use Rattle.history_commands.specs.GicCall.declared.command.Part.TheVariants.{Configure}
use Rattle.history_commands.specs.GicCall.declared.touch.Touching.TheVariants.{MapLpi, Configure as ConfigureLpi}
use Rattle.history_commands.specs.HistoryCalls.Found.{found_by, stores}
use Rattle.history_commands.specs.declared.its.Its.{Its}
use Rattle.history_commands.specs.Known.{its_in, view_by, its_after, maps_left, read_at}
use Rattle.history_commands.specs.Stage.{AreReadBy}
use Rattle.history_calls.proofs.FoundLemmas.{word_found}

-- Parts of lists.

pub all_left : {X : Type 0} (P : X → Type 0) (xs ys : List X) → All P (xs ++ ys) → All P xs
all_left P [] ys h = All-nil P
all_left P (x ∷ xs) ys h = All-cons P x xs (All-head P x (xs ++ ys) h) (all_left P xs ys (All-tail P x (xs ++ ys) h))

pub all_right : {X : Type 0} (P : X → Type 0) (xs ys : List X) → All P (xs ++ ys) → All P ys
all_right P [] ys h = h
all_right P (x ∷ xs) ys h = all_right P xs ys (All-tail P x (xs ++ ys) h)

-- What was read.

-- reads that come before others change nothing
pub reads_more : (place : Place) (found : Found) (more piece : List Happened) → IsLastRead place found piece → IsLastRead place found (more ++ piece)
reads_more place found more piece is = record { before = more ++ is.before; after = is.after; split = ap (λ p. more ++ p) is.split ∙ sym (append_assoc more is.before _); last = is.last }

-- a word that was read, in a piece without named events, is as it was found
pub word_read : (actor : Option ℕ) (view : View) (reads : List Happened) (word : PlainWord) → named_of actor reads ≡ [] → IsLastRead (Word word) (FoundWord (view.words word)) reads → (found_by reads).words word ≡ view.words word
word_read actor view reads word quiet is = word_found actor view reads word (ap (λ named. list_any (stores word) (map (λ (h : Happened). h.event) named)) quiet) is

-- and so are bytes of memory
pub bytes_read : (shape : GuestShape) (actor : Option ℕ) (view : View) (reads : List Happened) (address size : ℕ) → named_of actor reads ≡ [] → AreReadBy view reads (memory_places shape address size) → memory_at shape (found_by reads) address size ≡ memory_at shape view address size
bytes_read shape actor view reads address size quiet = of (part_of address size shape.ram)
  where
    of : (o : Option MemoryPart) → AreReadBy view reads (option_map_or (λ part. Word (Ram part.index) ∷ []) o [])
        → option_map_or (λ part. extracted ((found_by reads).words (Ram part.index)) part) o 0 ≡ option_map_or (λ part. extracted (view.words (Ram part.index)) part) o 0
    of None all = refl
    of (Some part) all = ap (λ word. extracted word part) (word_read actor view reads (Ram part.index) quiet (All-head (λ place. IsLastRead place (held_at view place) reads) (Word (Ram part.index)) [] all))

abbrev IsReadAs : View → List Happened → Place → Type 0
IsReadAs view reads place = IsLastRead place (held_at view place) reads

-- the reads of memory, by what they found
pub memory_read : (shape : GuestShape) (actor : Option ℕ) (view other : View) (reads : List Happened) (address size : ℕ) → named_of actor reads ≡ [] → ((index : ℕ) → other.words (Ram index) ≡ (found_by reads).words (Ram index)) → AreReadBy view reads (memory_places shape address size)
    → AreReadBy other reads (memory_places shape address size) × (map (read_at other) (memory_places shape address size) ≡ map (read_at view) (memory_places shape address size))
memory_read shape actor view other reads address size quiet found = of (part_of address size shape.ram)
  where
    of : (o : Option MemoryPart) → AreReadBy view reads (option_map_or (λ part. Word (Ram part.index) ∷ []) o [])
        → AreReadBy other reads (option_map_or (λ part. Word (Ram part.index) ∷ []) o []) × (map (read_at other) (option_map_or (λ part. Word (Ram part.index) ∷ []) o []) ≡ map (read_at view) (option_map_or (λ part. Word (Ram part.index) ∷ []) o []))
    of None all = (All-nil (IsReadAs other reads), refl)
    of (Some part) all =
        let read = All-head (IsReadAs view reads) (Word (Ram part.index)) [] all in
        let same : other.words (Ram part.index) ≡ view.words (Ram part.index) = found part.index ∙ word_read actor view reads (Ram part.index) quiet read in (
          All-cons (IsReadAs other reads) (Word (Ram part.index)) [] (subst (λ value. IsLastRead (Word (Ram part.index)) (FoundWord value) reads) (sym same) read) (All-nil (IsReadAs other reads)),
          ap (λ value. let one : Happened = record { event = Read (Word (Ram part.index)); found = FoundWord value } in one ∷ []) same,
        )

-- The next command.

abbrev addressed : Its → ℕ → ℕ
addressed its number = queue_address its.cbaser + its.offset + 8 * number

-- a view with the ITS as it is known, and with the vCPUs of LPIs
pub record IsKnown (its : Its) (maps : Maps) (targets : ℕ → Option ℕ) (view : View) : Type 0 where
  pub its_is : its_in view ≡ its
  pub maps_is : view.maps ≡ maps
  pub targets_is : view.targets ≡ targets

-- what a command is by a view that has the words as they were read, is it by the reads
pub record IsSameCommand (shape : GuestShape) (reads : List Happened) (view other : View) : Type 0 where
  pub takes : takes_command other ≡ takes_command view
  pub places : command_places shape other ≡ command_places shape view
  pub read : AreReadBy other reads (command_places shape other)
  pub words : words_read shape other ≡ words_read shape view
  pub parts_are : command_parts shape other ≡ command_parts shape view
  pub queue : queue_event shape other ≡ queue_event shape view

abbrev queue_at : GuestShape → Its → Maps → List ℕ → Event
queue_at shape its maps words = option_map_or (λ fault. Queue its.offset (Stalls fault)) (fault_number shape maps (decoded words)) (Queue (advanced its.offset (queue_bytes its.cbaser)) (Done words))

abbrev taken_by : Its → Bool
taken_by its = takes_command (view_by its (record { devices = []; events = []; collections = [] }) (λ id. None) [])

pub takes_known : (its : Its) (maps : Maps) (targets : ℕ → Option ℕ) (reads : List Happened) (view : View) → its_in view ≡ its → takes_command (view_by its maps targets reads) ≡ takes_command view
takes_known its maps targets reads view e = ap taken_by (sym e)

module _ (shape : GuestShape) (actor : Option ℕ) (its : Its) (maps : Maps) (targets : ℕ → Option ℕ) (reads : List Happened) (view : View) (quiet : named_of actor reads ≡ []) (known : IsKnown its maps targets view) where
  abbrev places_of : List ℕ → List Place
  places_of numbers = flat_map (λ number. memory_places shape (addressed its number) 8) numbers

  same_places : command_places shape view ≡ command_places shape (view_by its maps targets reads)
  same_places = ap (λ (known : Its). flat_map (λ number. memory_places shape (addressed known number) 8) (0 ∷ 1 ∷ 2 ∷ 3 ∷ [])) known.its_is

  all_read : (numbers : List ℕ) → AreReadBy view reads (places_of numbers)
      → AreReadBy (view_by its maps targets reads) reads (places_of numbers) × (map (read_at (view_by its maps targets reads)) (places_of numbers) ≡ map (read_at view) (places_of numbers))
  all_read [] all = (All-nil (IsReadAs (view_by its maps targets reads) reads), refl)
  all_read (number ∷ numbers) all =
      let here = memory_read shape actor view (view_by its maps targets reads) reads (addressed its number) 8 quiet (λ index. refl) (all_left (IsReadAs view reads) (memory_places shape (addressed its number) 8) (places_of numbers) all) in
      let rest = all_read numbers (all_right (IsReadAs view reads) (memory_places shape (addressed its number) 8) (places_of numbers) all) in (
        All-append (IsReadAs (view_by its maps targets reads) reads) (memory_places shape (addressed its number) 8) (places_of numbers) here.0 rest.0,
        map-append (read_at (view_by its maps targets reads)) (memory_places shape (addressed its number) 8) (places_of numbers) ∙ ap₂ (λ xs ys. xs ++ ys) here.1 rest.1 ∙ sym (map-append (read_at view) (memory_places shape (addressed its number) 8) (places_of numbers)),
      )

  all_words : (numbers : List ℕ) → AreReadBy view reads (places_of numbers) → map (λ number. memory_at shape (view_by its maps targets reads) (addressed its number) 8) numbers ≡ map (λ number. memory_at shape view (addressed its number) 8) numbers
  all_words [] all = refl
  all_words (number ∷ numbers) all =
      ap₂ (λ x xs. x ∷ xs) (bytes_read shape actor view reads (addressed its number) 8 quiet (all_left (IsReadAs view reads) (memory_places shape (addressed its number) 8) (places_of numbers) all))
      (all_words numbers (all_right (IsReadAs view reads) (memory_places shape (addressed its number) 8) (places_of numbers) all))

  decoded_same : (one other : View) (command : Result Command BadCommand) → one.maps ≡ other.maps → one.targets ≡ other.targets → decoded_parts shape one command ≡ decoded_parts shape other command
  decoded_same one other (Ok command) m t = ap₂ (λ ms ts. parts shape ms ts command) m t
  decoded_same one other (Err bad) m t = refl

  pub same_command : AreReadBy view reads (command_places shape view) → IsSameCommand shape reads view (view_by its maps targets reads)
  same_command all =
      let here : AreReadBy view reads (places_of (0 ∷ 1 ∷ 2 ∷ 3 ∷ [])) = All-same (IsReadAs view reads) _ _ (sym same_places) all in
      let read = all_read (0 ∷ 1 ∷ 2 ∷ 3 ∷ []) here in
      let words : command_words shape (view_by its maps targets reads) ≡ command_words shape view =
      all_words (0 ∷ 1 ∷ 2 ∷ 3 ∷ []) here ∙ ap (λ (one : Its). map (λ number. memory_at shape view (addressed one number) 8) (0 ∷ 1 ∷ 2 ∷ 3 ∷ [])) (sym known.its_is) in
      record {
        takes = takes_known its maps targets reads view known.its_is;
        places = sym same_places;
        read = read.0;
        words = read.1 ∙ ap (map (read_at view)) (sym same_places);
        parts_are = parted words;
        queue = queued words;
      }
    where
      parted : command_words shape (view_by its maps targets reads) ≡ command_words shape view → command_parts shape (view_by its maps targets reads) ≡ command_parts shape view
      parted words =
          ap (λ (ws : List ℕ). cond (is_none (fault_number shape maps (decoded ws))) (decoded_parts shape (view_by its maps targets reads) (decoded ws)) []) words
          ∙ ap (λ (ms : Maps). cond (is_none (fault_number shape ms (decoded (command_words shape view)))) (decoded_parts shape (view_by its maps targets reads) (decoded (command_words shape view))) []) (sym known.maps_is)
          ∙ ap (λ (ps : List Part). cond (is_none (fault_number shape view.maps (decoded (command_words shape view)))) ps [])
          (decoded_same (view_by its maps targets reads) view (decoded (command_words shape view)) (sym known.maps_is) (sym known.targets_is))

      queued : command_words shape (view_by its maps targets reads) ≡ command_words shape view → queue_event shape (view_by its maps targets reads) ≡ queue_event shape view
      queued words =
          ap (λ (ws : List ℕ). queue_at shape its maps ws) words
          ∙ ap (λ (one : Its). queue_at shape one maps (command_words shape view)) (sym known.its_is)
          ∙ ap (λ (ms : Maps). queue_at shape (its_in view) ms (command_words shape view)) (sym known.maps_is)

-- The parts of commands.

-- what a part does by a view that has the words as they were read, it does by the reads
pub record IsSamePart (shape : GuestShape) (targets : ℕ → Option ℕ) (part : Part) (reads : List Happened) (view : View) : Type 0 where
  pub event : lpi_event shape (found_by reads) targets part ≡ lpi_event shape view targets part
  pub read : AreReadBy (found_by reads) reads (byte_places shape (found_by reads) targets part)

module _ (shape : GuestShape) (actor : Option ℕ) (targets : ℕ → Option ℕ) (reads : List Happened) (view : View) (quiet : named_of actor reads ≡ []) where
  abbrev byte_at : View → ℕ → ℕ → ℕ
  byte_at other vcpu id = memory_at shape other (config_address (other.words (Propbaser vcpu)) id) 1

  abbrev places_at : View → ℕ → ℕ → List Place
  places_at other vcpu id = Word (Propbaser vcpu) ∷ memory_places shape (config_address (other.words (Propbaser vcpu)) id) 1

  byte_same : (vcpu id : ℕ) → AreReadBy view reads (places_at view vcpu id) → (byte_at (found_by reads) vcpu id ≡ byte_at view vcpu id) × AreReadBy (found_by reads) reads (places_at (found_by reads) vcpu id)
  byte_same vcpu id all =
      let first = All-head (IsReadAs view reads) (Word (Propbaser vcpu)) (memory_places shape (config_address (view.words (Propbaser vcpu)) id) 1) all in
      let rest = All-tail (IsReadAs view reads) (Word (Propbaser vcpu)) (memory_places shape (config_address (view.words (Propbaser vcpu)) id) 1) all in
      let base : (found_by reads).words (Propbaser vcpu) ≡ view.words (Propbaser vcpu) = word_read actor view reads (Propbaser vcpu) quiet first in (
        ap (λ word. memory_at shape (found_by reads) (config_address word id) 1) base ∙ bytes_read shape actor view reads (config_address (view.words (Propbaser vcpu)) id) 1 quiet rest,
        All-cons (IsReadAs (found_by reads) reads) (Word (Propbaser vcpu)) (memory_places shape (config_address ((found_by reads).words (Propbaser vcpu)) id) 1)
            (subst (λ value. IsLastRead (Word (Propbaser vcpu)) (FoundWord value) reads) (sym base) first)
            (subst (λ word. AreReadBy (found_by reads) reads (memory_places shape (config_address word id) 1)) (sym base)
            (memory_read shape actor view (found_by reads) reads (config_address (view.words (Propbaser vcpu)) id) 1 quiet (λ index. refl) rest).0),
      )

  config_same : (target : Option ℕ) (id : ℕ) → AreReadBy view reads (option_map_or (λ vcpu. places_at view vcpu id) target [])
      → (config_byte shape (found_by reads) target id ≡ config_byte shape view target id) × AreReadBy (found_by reads) reads (option_map_or (λ vcpu. places_at (found_by reads) vcpu id) target [])
  config_same None id all = (refl, All-nil (IsReadAs (found_by reads) reads))
  config_same (Some vcpu) id all = byte_same vcpu id all

  pub same_part : (part : Part) → AreReadBy view reads (byte_places shape view targets part) → IsSamePart shape targets part reads view
  same_part (Map id target) all =
      let same = byte_same target id all in record { event = ap (λ byte. Touch (Lpi id) (MapLpi target (is_enabled byte) (priority_of byte))) same.0; read = same.1 }
  same_part (Configure id) all = let same = config_same (targets id) id all in record { event = ap (λ byte. Touch (Lpi id) (ConfigureLpi (is_enabled byte) (priority_of byte))) same.0; read = same.1 }
  same_part part all = record { event = refl; read = All-nil (IsReadAs (found_by reads) reads) }

-- What is left.

left_of : (shape : GuestShape) (view : View) (fault : Option ℕ) (next : ℕ) (words : List ℕ) (event : Event) → event ≡ option_map_or (λ number. Queue view.offset (Stalls number)) fault (Queue next (Done words))
    → (its_in (left_by shape view event) ≡ its_after (its_in view) event) × ((left_by shape view event).maps ≡ maps_left view.maps event)
left_of shape view None next words event e = subst (λ (x : Event). (its_in (left_by shape view x) ≡ its_after (its_in view) x) × ((left_by shape view x).maps ≡ maps_left view.maps x)) (sym e) (refl, refl)
left_of shape view (Some number) next words event e = subst (λ (x : Event). (its_in (left_by shape view x) ≡ its_after (its_in view) x) × ((left_by shape view x).maps ≡ maps_left view.maps x)) (sym e) (refl, refl)

pub left_known : (shape : GuestShape) (view : View) → (its_in (left_by shape view (queue_event shape view)) ≡ its_after (its_in view) (queue_event shape view)) × ((left_by shape view (queue_event shape view)).maps ≡ maps_left view.maps (queue_event shape view))
left_known shape view = left_of shape view (fault_number shape view.maps (decoded (command_words shape view))) (advanced view.offset (queue_bytes (view.words Cbaser))) (command_words shape view) (queue_event shape view) refl

pub known_same : (one other : View) → HaveSameIts one other → its_in other ≡ its_in one
known_same one other same = cc

pub same_known : (one other : View) → its_in other ≡ its_in one → other.maps ≡ one.maps → HaveSameIts one other
same_known one other e m = record {
  ctlr = ap (λ (its : Its). its.ctlr) (sym e);
  cbaser = ap (λ (its : Its). its.cbaser) (sym e);
  cwriter = ap (λ (its : Its). its.cwriter) (sym e);
  offset = ap (λ (its : Its). its.offset) (sym e);
  stalled = ap (λ (its : Its). its.is_stalled) (sym e);
  maps = sym m;
}
