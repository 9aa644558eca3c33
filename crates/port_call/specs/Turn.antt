-- An actor takes the ITS, and gives it back.
use Rattle.std.specs.Prelude.{◌≡◌, ◌&&◌, ◌++◌, Bool, true, false, IsTrue, List, [], ◌∷◌, Some, is_none}
use Rattle.std.specs.List.{list_all}
use Rattle.floor_core.specs.Calls.{Event, ItsBegin, Happened}
use Rattle.floor_core.specs.GicCall.declared.event.Event.TheVariants.{Read, ItsEnd}
use Rattle.floor_core.specs.GicCall.declared.event.Found.TheVariants.{Nothing}
use Rattle.floor_core.specs.GicCall.declared.event.Place.TheVariants.{Queue as QueuePlace}
use Rattle.floor_core.specs.Registers.{IsValid as IsValidMaps, Maps}
use Rattle.floor_core.specs.Core.{Made, CoreStep, Look, TurnTake, TurnRelease, Queue, Seen, Adds, shape_of, part_events}
use Rattle.port_call.specs.Piece.{IsPiece, takes_none}

-- a look at the ITS's word, or a try to take it
abbrev pub is_turn_step : CoreStep → Bool
is_turn_step (Look Queue) = true
is_turn_step (TurnTake seen) = true
is_turn_step step = false

-- one that did not take it
abbrev pub is_miss : Made → Bool
is_miss made = is_turn_step made.step && is_none made.tables

-- a read of where the ITS's queue is
abbrev pub is_queue_read_event : Event → Bool
is_queue_read_event (Read QueuePlace) = true
is_queue_read_event event = false

abbrev pub is_queue_read : Happened → Bool
is_queue_read happened = is_queue_read_event happened.event

-- an actor looked at the ITS's word, and did not take the ITS: nothing of it changed, and only reads are to be seen of it
pub record Misses (old new : Seen) : Type 0 where
  pub part : List Made
  pub adds : Adds old new part
  pub missed : IsTrue (list_all is_miss part)
  pub local_is : new.local ≡ old.local
  pub reads : IsTrue (list_all is_queue_read (part_events old part))
  pub piece : IsPiece old part

-- the events of a part are reads of where the queue is, and then one more
pub record AreReadsThen (event : Event) (events : List Happened) : Type 0 where
  pub reads : List Happened
  pub are_reads : IsTrue (list_all is_queue_read reads)
  pub split : events ≡ reads ++ (record { event = event; found = Nothing }) ∷ []

-- an actor took the ITS, with the word as it looked at it last: it has the ITS now, whose maps it was handed and whose tables nobody took
pub record TakesTurn (old new : Seen) : Type 0 where
  pub misses : List Made
  pub last : Made
  pub maps : Maps
  pub adds : Adds old new (misses ++ last ∷ [])
  pub missed : IsTrue (list_all is_miss misses)
  pub last_is : last.step ≡ TurnTake last.found
  pub handed : last.tables ≡ Some maps
  pub valid : IsValidMaps (shape_of old) maps
  pub was_free : old.local.turn ≡ false
  pub local_is : new.local ≡ record old.local { turn = true }
  pub tables : new.taken ≡ false
  pub events : AreReadsThen ItsBegin (part_events old (misses ++ last ∷ []))
  pub piece : IsPiece old (misses ++ last ∷ [])

-- one try
abbrev pub TriesTurn : Seen → Seen → Bool → Type 0
TriesTurn old new true = TakesTurn old new
TriesTurn old new false = Misses old new

-- an actor gave the ITS back, and knows no translation line to be shut any more
pub record GivesTurn (old new : Seen) : Type 0 where
  pub last : Made
  pub adds : Adds old new (last ∷ [])
  pub last_is : last.step ≡ TurnRelease
  pub local_is : new.local ≡ record old.local { turn = false; shut = 0 }
  pub none_taken : IsTrue (takes_none (last ∷ []))
  pub events : part_events old (last ∷ []) ≡ (record { event = ItsEnd; found = Nothing }) ∷ []
  pub piece : IsPiece old (last ∷ [])
