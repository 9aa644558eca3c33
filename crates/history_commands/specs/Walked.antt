-- A piece of an actor's events, one named event after the other (own choice).
use Rattle.std.specs.Prelude.{List, [], ◌∷◌, Option, ℕ, Bool, if◌then◌else◌}
use Rattle.std.specs.List.{list_all}
use Rattle.history_commands.specs.Calls.{Happened, is_beside}

-- the piece from its first named event on
abbrev pub from_named : Option ℕ → List Happened → List Happened
from_named actor [] = []
from_named actor (happened ∷ piece) = if is_beside actor happened.event then from_named actor piece else happened ∷ piece

-- what is read before that
abbrev pub before_named : Option ℕ → List Happened → List Happened
before_named actor [] = []
before_named actor (happened ∷ piece) = if is_beside actor happened.event then happened ∷ before_named actor piece else []

-- no event is named
abbrev pub is_idle : Option ℕ → List Happened → Bool
is_idle actor piece = list_all (λ happened. is_beside actor happened.event) piece
