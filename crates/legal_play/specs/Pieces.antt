-- What the program knows of the calls of a course.
use Rattle.std.specs.Prelude.{◌≡◌, ℕ, ◌<◌, IsTrue, List, [], ◌∷◌, ◌++◌, length, option_map, is_some, slice_index_or, slice_set}
use Rattle.std.specs.Option.{option_map_or}
use Rattle.legal_steps.specs.Calls.{Moment, Begin, Happens, Happened}
use Rattle.legal_steps.specs.GicCall.declared.event.Moment.TheVariants.{End}
use Rattle.legal_steps.specs.Histories.{Course, call_of, Track, doing_of}

-- the events that an actor made in its call, of these; none where it is in no call
abbrev pub piece_of : List (List Happened) → ℕ → List Happened
piece_of pieces actor = slice_index_or pieces actor []

-- after a moment
abbrev pub pieces_after : Moment → List (List Happened) → List (List Happened)
pieces_after (Begin actor operation) pieces = slice_set pieces actor []
pieces_after (Happens actor event found) pieces = slice_set pieces actor (piece_of pieces actor ++ (record { event = event; found = found }) ∷ [])
pieces_after (End actor answer) pieces = slice_set pieces actor []

-- a track and pieces are of the calls of a course: each actor is in a call for this, if it is in one, and made this in it
pub record AreCalls (course : Course) (track : Track) (pieces : List (List Happened)) : Type 0 where
  pub actors : length course.calls ≡ length track.doings
  pub rooms : length pieces ≡ length track.doings
  pub operations : (actor : ℕ) → option_map (λ call. call.operation) (call_of course actor) ≡ (doing_of track actor).operation
  pub made : (actor : ℕ) → option_map_or (λ call. call.piece) (call_of course actor) [] ≡ piece_of pieces actor

-- a moment is of an actor that there is, which is in a call if it makes an event
abbrev pub IsOfActor : Track → Moment → Type 0
IsOfActor track (Begin actor operation) = actor < length track.doings
IsOfActor track (Happens actor event found) = IsTrue (is_some (doing_of track actor).operation)
IsOfActor track (End actor answer) = actor < length track.doings
