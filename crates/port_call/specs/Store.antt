-- An actor stores a plain word, by a look and an exchange against what that found, again and again until nobody else came between.
use Rattle.std.specs.Prelude.{◌≡◌, ℕ, ◌++◌, ◌==◌, ◌&&◌, not, Bool, true, false, IsTrue, List, [], ◌∷◌, All}
use Rattle.std.specs.List.{list_all}
use Rattle.floor_core.specs.Calls.{Put, Happened, PlainWord, ItsCtlr, place_of_plain}
use Rattle.floor_core.specs.GicCall.declared.event.Event.TheVariants.{Read}
use Rattle.floor_core.specs.GicCall.declared.event.Found.TheVariants.{Word as FoundWord}
use Rattle.floor_core.specs.GicCall.declared.event.Place.TheVariants.{Word}
use Rattle.floor_core.specs.Core.{Made, CoreStep, RamLook, RamPut, CanPut, has_all_shut, Seen, Adds, shape_of, part_events}
use Rattle.port_call.specs.Piece.{takes_none, IsPiece}
use Rattle.port_call.specs.Plain.{is_event_word}

-- the word is GITS_CTLR
abbrev pub is_its_ctlr : PlainWord → Bool
is_its_ctlr ItsCtlr = true
is_its_ctlr word = false

-- the word may be stored: the number of a fault by the actor that has the ITS, of a queue that it knows to run, and GITS_CTLR by one that knows all
-- translation lines to be shut
pub record MayStore (seen : Seen) (word : PlainWord) : Type 0 where
  pub fault : CanPut (not (is_event_word word)) (shape_of seen) seen.actor seen.local seen.own
  pub lines : is_its_ctlr word ≡ true → IsTrue (has_all_shut seen.local)

-- a look at the word at a place, or a try to store it
abbrev pub is_store_step : ℕ → CoreStep → Bool
is_store_step place (RamLook index) = index == place
is_store_step place (RamPut index seen value) = index == place
is_store_step place step = false

-- a look, or a try that found another word than was seen
abbrev pub stores_not : CoreStep → ℕ → Bool
stores_not (RamPut index seen value) found = not (found == seen)
stores_not step found = true

abbrev pub is_store_miss : ℕ → Made → Bool
is_store_miss place made = is_store_step place made.step && stores_not made.step made.found

-- reads of the word, and then the store, which found this
pub record AreReadsThenPut (word : PlainWord) (value found : ℕ) (events : List Happened) : Type 0 where
  pub reads : List Happened
  pub are_reads : All (λ happened. happened.event ≡ Read (Word word)) reads
  pub split : events ≡ reads ++ (record { event = Put word value; found = FoundWord found }) ∷ []

-- the events of a store, if the word has any: the number of a fault has none, since that is the stall's
abbrev pub AreStoreEvents : Bool → PlainWord → ℕ → ℕ → List Happened → Type 0
AreStoreEvents true word value found events = AreReadsThenPut word value found events
AreStoreEvents false word value found events = events ≡ []

-- the events of looks and tries without a store: reads of the word
abbrev pub AreMissEvents : Bool → PlainWord → List Happened → Type 0
AreMissEvents true word events = All (λ happened. happened.event ≡ Read (Word word)) events
AreMissEvents false word events = events ≡ []

-- an actor stored a word, and found this before
pub record Stores (old new : Seen) (word : PlainWord) (value : ℕ) : Type 0 where
  pub misses : List Made
  pub last : Made
  pub adds : Adds old new (misses ++ last ∷ [])
  pub missed : IsTrue (list_all (is_store_miss (place_of_plain (shape_of old) word)) misses)
  pub last_is : last.step ≡ RamPut (place_of_plain (shape_of old) word) last.found value
  pub left_is : last.left ≡ value
  pub local_is : new.local ≡ old.local
  pub none_taken : IsTrue (takes_none (misses ++ last ∷ []))
  pub events : AreStoreEvents (is_event_word word) word value last.found (part_events old (misses ++ last ∷ []))
  pub piece : IsPiece old (misses ++ last ∷ [])

-- a look, and a try that found another word
pub record MissesStore (old new : Seen) (word : PlainWord) : Type 0 where
  pub part : List Made
  pub adds : Adds old new part
  pub missed : IsTrue (list_all (is_store_miss (place_of_plain (shape_of old) word)) part)
  pub local_is : new.local ≡ old.local
  pub none_taken : IsTrue (takes_none part)
  pub events : AreMissEvents (is_event_word word) word (part_events old part)
  pub piece : IsPiece old part

-- one try
abbrev pub TriesStore : Seen → Seen → PlainWord → ℕ → Bool → Type 0
TriesStore old new word value true = Stores old new word value
TriesStore old new word value false = MissesStore old new word
