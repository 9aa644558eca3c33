-- What a run with its parts says of the ideal controller: its history, moment by moment.
use Rattle.std.specs.Prelude.{ℕ, List, [], ◌∷◌, ◌++◌, fold, Option}
use Rattle.std.specs.Option.{option_map_or}
use Rattle.floor_histories.specs.Words.{GuestShape}
use Rattle.floor_histories.specs.Calls.{Moment, Begin, Happens, Happened}
use Rattle.floor_histories.specs.GicCall.declared.event.Moment.TheVariants.{End}
use Rattle.port_core.specs.Run.{CoreState, Seat, seat_at, after}
use Rattle.port_core.specs.Stands.{stands_for}
use Rattle.core_proper.specs.Parts.{Act, begins, makes, ends, CoreMoment, step_of, entry_by}

-- the core after a moment, and after some
abbrev pub after_moment : GuestShape → CoreState → CoreMoment → CoreState
after_moment shape state moment = option_map_or (λ made. after shape state (entry_by moment.actor made)) (step_of moment.act) state

abbrev pub end_of_moments : GuestShape → CoreState → List CoreMoment → CoreState
end_of_moments shape state moments = fold (after_moment shape) state moments

-- an actor's event, if there is one
abbrev pub event_moments : ℕ → Option Happened → List Moment
event_moments actor happened = option_map_or (λ happened. Happens actor happened.event happened.found ∷ []) happened []

-- what an actor's moment stands for: the begin and the end of its call, and what its step stands for
abbrev pub ideal_moments : GuestShape → Seat → ℕ → Act → List Moment
ideal_moments shape seat actor (begins operation lrs) = Begin actor operation ∷ []
ideal_moments shape seat actor (makes made) = event_moments actor (stands_for shape actor seat.local seat.own made.step made.found)
ideal_moments shape seat actor (ends answer) = End actor answer ∷ []

-- the history that a run from a state stands for
abbrev pub ideal_of : GuestShape → CoreState → List CoreMoment → List Moment
ideal_of shape state [] = []
ideal_of shape state (moment ∷ moments) =
    ideal_moments shape (seat_at state moment.actor) moment.actor moment.act ++ ideal_of shape (after_moment shape state moment) moments
