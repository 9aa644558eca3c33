-- What the actor that has the ITS knows by its own steps (own choice): nobody else changes it meanwhile.
use Rattle.std.specs.Prelude.{◌≡◌, ℕ, ◌<◌, IsTrue, Some}
use Rattle.law_lines_translate.specs.Words.{GuestShape}
use Rattle.law_lines_translate.specs.Core.{Queue, Plain, actor_count, fault_place, HasPutFault, known, CoreState, seat_at, word_in}

-- it knows the queue's word, and where its last step stored the number of a fault, that
pub record KnowsIts (shape : GuestShape) (state : CoreState) (actor : ℕ) : Type 0 where
  pub queue : known shape actor (seat_at state actor).own Queue ≡ Some (word_in shape state Queue)
  pub fault : HasPutFault shape (seat_at state actor).own → known shape actor (seat_at state actor).own (Plain (fault_place shape)) ≡ Some (word_in shape state (Plain (fault_place shape)))

-- so does whichever actor has the ITS
abbrev pub IsKnown : GuestShape → CoreState → Type 0
IsKnown shape state = (actor : ℕ) → actor < actor_count shape → IsTrue (seat_at state actor).local.turn → KnowsIts shape state actor
