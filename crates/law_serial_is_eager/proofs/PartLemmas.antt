-- What parts stand for, one after the other.
use Rattle.std.proofs.Common.{◌≡◌, ℕ, ◌<◌, All, List, [], ◌∷◌, ◌++◌, length, map, Option, Some, None, refl, sym, ap, ◌∙◌, subst}
use Rattle.std.specs.Option.{option_to_list}
use Rattle.std.proofs.lemmas.List.{get_or-set_same, length-set}
use Rattle.std.proofs.lemmas.List.Elements.{All-head, All-tail, All-weaker}
use Rattle.law_lone_calls_are_eager.specs.Words.{GuestShape}
use Rattle.law_lone_calls_are_eager.specs.Calls.{Begin, Happened}
use Rattle.law_lone_calls_are_eager.specs.GicCall.declared.event.Moment.TheVariants.{End}
use Rattle.law_lone_calls_are_eager.specs.LawEagerIsHistory.Moments.{moment_of}
use Rattle.law_lone_calls_are_eager.specs.Runs.{moments_in as call_moments, moments_of as calls_moments}
use Rattle.law_lone_accesses_find_all.specs.Core.{Made, local_after, events_of, CoreState, Seat, no_seat, seat_at, stands_for, after_moment, end_of_moments, event_moments, ideal_of, Act, makes, begins, ends, CoreMoment, entries_of, entry_by}
use Rattle.law_lone_accesses_find_all.proofs.CoreProper.PartLemmas.{ideal_append}
use Rattle.law_serial_is_eager.specs.Serial.{WholePart, calls_of, call_of, moment_by, moments_in, moments_of}

-- there is a place for each actor all along
seats_each : (shape : GuestShape) (actor : ℕ) (state : CoreState) (act : Act) → length (after_moment shape state (moment_by actor act)).seats ≡ length state.seats
seats_each shape actor state (begins operation lrs) = refl
seats_each shape actor state (makes made) = length-set state.seats actor _
seats_each shape actor state (ends answer) = refl

pub seats_along : (shape : GuestShape) (moments : List CoreMoment) (state : CoreState) → length (end_of_moments shape state moments).seats ≡ length state.seats
seats_along shape [] state = refl
seats_along shape (moment ∷ moments) state = seats_along shape moments (after_moment shape state moment) ∙ seats_each shape moment.actor state moment.act

-- an actor after a step of it
pub seat_next : (shape : GuestShape) (actor : ℕ) (made : Made) (state : CoreState) → actor < length state.seats
    → seat_at (after_moment shape state (moment_by actor (makes made))) actor ≡ record { local = local_after shape actor (seat_at state actor).local made.step made.found; own = (seat_at state actor).own ++ made ∷ [] }
seat_next shape actor made state there =
    get_or-set_same state.seats actor (let s : Seat = record { local = local_after shape actor (seat_at state actor).local made.step made.found; own = (seat_at state actor).own ++ made ∷ [] } in s) no_seat there

-- The steps of a part.

steps_entries : (actor : ℕ) (answer : Option ℕ) (steps : List Made) → entries_of (map (moment_by actor) (map makes steps ++ ends answer ∷ [])) ≡ map (entry_by actor) steps
steps_entries actor answer [] = refl
steps_entries actor answer (made ∷ steps) = ap (λ entries. entry_by actor made ∷ entries) (steps_entries actor answer steps)

pub part_entries : (part : WholePart) → entries_of (moments_in part) ≡ map (entry_by part.actor) part.steps
part_entries part = steps_entries part.actor part.answer part.steps

-- The history of a part is its call.

one_more : (actor : ℕ) (answer : Option ℕ) (o : Option Happened) (later : List Happened) → event_moments actor o ++ (map (moment_of actor) later ++ End actor answer ∷ []) ≡ map (moment_of actor) (option_to_list o ++ later) ++ End actor answer ∷ []
one_more actor answer None later = refl
one_more actor answer (Some one) later = refl

steps_stand : (shape : GuestShape) (actor : ℕ) (answer : Option ℕ) (steps : List Made) (state : CoreState) → actor < length state.seats
    → ideal_of shape state (map (moment_by actor) (map makes steps ++ ends answer ∷ [])) ≡ map (moment_of actor) (events_of shape actor (seat_at state actor).local (seat_at state actor).own steps) ++ End actor answer ∷ []
steps_stand shape actor answer [] state there = refl
steps_stand shape actor answer (made ∷ steps) state there =
    let next = after_moment shape state (moment_by actor (makes made)) in
    let o = stands_for shape actor (seat_at state actor).local (seat_at state actor).own made.step made.found in
    ap (λ rest. event_moments actor o ++ rest)
    (steps_stand shape actor answer steps next (subst (λ n. actor < n) (sym (seats_each shape actor state (makes made))) there)
    ∙ ap (λ (s : Seat). map (moment_of actor) (events_of shape actor s.local s.own steps) ++ End actor answer ∷ []) (seat_next shape actor made state there))
    ∙ one_more actor answer o (events_of shape actor (local_after shape actor (seat_at state actor).local made.step made.found) ((seat_at state actor).own ++ made ∷ []) steps)

pub part_stands : (shape : GuestShape) (state : CoreState) (part : WholePart) → part.actor < length state.seats → ideal_of shape state (moments_in part) ≡ call_moments (call_of shape state part)
part_stands shape state part there = ap (λ rest. Begin part.actor part.operation ∷ rest) (steps_stand shape part.actor part.answer part.steps state there)

pub parts_stand : (shape : GuestShape) (parts : List WholePart) (state : CoreState) → All (λ (part : WholePart). part.actor < length state.seats) parts → ideal_of shape state (moments_of parts) ≡ calls_moments (calls_of shape state parts)
parts_stand shape [] state there = refl
parts_stand shape (part ∷ parts) state there =
    let next = end_of_moments shape state (moments_in part) in
    let rest = All-weaker (λ (one : WholePart). one.actor < length state.seats) (λ (one : WholePart). one.actor < length next.seats) (λ one h. subst (λ n. one.actor < n) (sym (seats_along shape (moments_in part) state)) h) parts
    (All-tail (λ (one : WholePart). one.actor < length state.seats) part parts there) in
    ideal_append shape state (moments_in part) (moments_of parts)
    ∙ ap (λ early. early ++ ideal_of shape next (moments_of parts)) (part_stands shape state part (All-head (λ (one : WholePart). one.actor < length state.seats) part parts there))
    ∙ ap (λ late. call_moments (call_of shape state part) ++ late) (parts_stand shape parts next rest)
