-- The events of a piece beside those that a call makes, one after the other.
use Rattle.std.specs.Prelude.{◌≡◌, ℕ, ◌≤◌, List, ◌++◌, map, take, length, All, Option}
use Rattle.history_calls.specs.Calls.{Event, Happened, View, HandsOut, named_of}

-- the named events are this many first ones of some, and hand out what the view has
pub record IsCounted (actor : Option ℕ) (view : View) (events : List Event) (piece : List Happened) (count : ℕ) : Type 0 where
  pub within : count ≤ length events
  pub events_are : map (λ happened. happened.event) (named_of actor piece) ≡ take count events
  pub found : All (λ happened. HandsOut view happened.event happened.found) (named_of actor piece)

-- they are no first ones of those, or one hands out something else
abbrev pub IsUncounted : Option ℕ → View → List Event → List Happened → Type 0
IsUncounted actor view events piece =
    (rest : List Event) → map (λ happened. happened.event) (named_of actor piece) ++ rest ≡ events → All (λ happened. HandsOut view happened.event happened.found) (named_of actor piece) → ⊥
