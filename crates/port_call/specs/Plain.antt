-- An actor looks at a plain word.
use Rattle.std.specs.Prelude.{◌≡◌, ℕ, Bool, true, false, IsTrue, [], ◌∷◌}
use Rattle.floor_core.specs.GicCall.declared.event.Event.TheVariants.{Read}
use Rattle.floor_core.specs.GicCall.declared.event.Found.TheVariants.{Word as FoundWord}
use Rattle.floor_core.specs.GicCall.declared.event.Place.TheVariants.{Word}
use Rattle.floor_core.specs.Calls.{PlainWord, Fault, place_of_plain}
use Rattle.floor_core.specs.Core.{Made, RamLook, Seen, Adds, shape_of, part_events}
use Rattle.port_call.specs.Piece.{takes_none, IsPiece}

-- a look at the word is a read of the guest's memory or of a register: all but the word that keeps a fault
abbrev pub is_event_word : PlainWord → Bool
is_event_word Fault = false
is_event_word word = true

-- an actor looked at the word, and found this
pub record ReadsPlain (old new : Seen) (word : PlainWord) (value : ℕ) : Type 0 where
  pub look : Made
  pub adds : Adds old new (look ∷ [])
  pub step_is : look.step ≡ RamLook (place_of_plain (shape_of old) word)
  pub found_is : look.found ≡ value
  pub left_is : look.left ≡ value
  pub local_is : new.local ≡ old.local
  pub none_taken : IsTrue (takes_none (look ∷ []))
  pub events : part_events old (look ∷ []) ≡ (record { event = Read (Word word); found = FoundWord value }) ∷ []
  pub piece : IsPiece old (look ∷ [])
