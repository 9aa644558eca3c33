-- The steps of an actor while nobody else acts, beside the ideal controller.
use Rattle.std.proofs.Common.{◌≡◌, ℕ, ◌<◌, List, [], ◌∷◌, ◌++◌, length, map, Option, Some, None, refl, sym, ap, ◌∙◌, subst}
use Rattle.std.specs.Option.{option_to_list}
use Rattle.std.proofs.lemmas.List.{append-nil, append_assoc}
use Rattle.law_unmapped_lpis.specs.Words.{GuestShape, IsShape}
use Rattle.law_unmapped_lpis.specs.Calls.{Happens, Happened}
use Rattle.law_unmapped_lpis.specs.Histories.{Ideal, happened, Call, Course, IsCallEnded, IsEnded, call_of, course_of, gone_on, made as made_by, seeing}
use Rattle.law_unmapped_lpis.proofs.GicHistory.CallLemmas.{ended_as}
use Rattle.law_unmapped_lpis.proofs.LawHistories.CourseLemmas.{made_here}
use Rattle.law_unmapped_lpis.specs.LawEagerIsHistory.Moments.{happenings}
use Rattle.law_serial_is_eager.proofs.LawEagerIsHistory.CourseLemmas.{call_after, state_after}
use Rattle.law_serial_is_eager.proofs.LawEagerIsHistory.WindowLemmas.{next_call}
use Rattle.law_serial_is_eager.proofs.LawLoneCallsAreEager.RunLemmas.{events_of}
use Rattle.pe_mem.specs.Core.{Made, events_of as port_events, local_by, CoreState, IsRun, IsSound, Seat, Takes, after, seat_at, stands_for, event_moments, ends, entry_by, makes}
use Rattle.pe_mem.proofs.PortCore.StepLemmas.{steps_sound}
use Rattle.law_serial_is_eager.specs.LawCoreIsHistory.Known.{IsKnown}
use Rattle.law_serial_is_eager.specs.LawCoreIsHistory.Laws.{AreCalls, followed_by}
use Rattle.law_serial_is_eager.specs.LawCoreIsHistory.Related.{Related}
use Rattle.law_serial_is_eager.specs.LawCoreIsHistory.Simulates.{IsSimulatedAs}
use Rattle.law_serial_is_eager.proofs.LawCoreIsHistory.KnownSteps.{keeps_known}
use Rattle.law_serial_is_eager.proofs.LawCoreIsHistory.RunSteps.{entry_simulates}
use Rattle.law_serial_is_eager.specs.Serial.{moment_by}
use Rattle.law_serial_is_eager.proofs.PartLemmas.{seat_next, seats_along}

-- what a step of an actor stands for in a state, and the state after it
abbrev pub stood : GuestShape → ℕ → CoreState → Made → Option Happened
stood shape actor state made = stands_for shape actor (seat_at state actor).local (seat_at state actor).own made.step made.found

abbrev pub next_state : GuestShape → ℕ → CoreState → Made → CoreState
next_state shape actor state made = after shape state (entry_by actor made)

-- the events of some steps
abbrev pub happened_in : GuestShape → ℕ → CoreState → List Made → List Happened
happened_in shape actor state [] = []
happened_in shape actor state (made ∷ steps) = option_to_list (stood shape actor state made) ++ happened_in shape actor (next_state shape actor state made) steps

-- a step is one of the core, in a state that agrees with the ideal controller's
pub record IsHere (shape : GuestShape) (actor : ℕ) (state : CoreState) (ideal : Ideal) (made : Made) : Type 0 where
  pub sound : IsSound shape state
  pub takes : Takes shape state (entry_by actor made)
  pub related : Related shape state ideal
  pub simulated : IsSimulatedAs shape (next_state shape actor state made) ideal actor (stood shape actor state made)

abbrev pub AreHere : GuestShape → ℕ → CoreState → Ideal → List Made → Type 0
AreHere shape actor state ideal [] = Unit {0}
AreHere shape actor state ideal (made ∷ steps) = IsHere shape actor state ideal made × AreHere shape actor (next_state shape actor state made) (followed_by actor (stood shape actor state made) ideal) steps

pub here_all : (shape : GuestShape) → IsShape shape → (actor : ℕ) (steps : List Made) (state : CoreState) (ideal : Ideal) → IsSound shape state → Related shape state ideal → IsKnown shape state → IsRun shape state (map (entry_by actor) steps) → AreHere shape actor state ideal steps
here_all shape good actor [] state ideal sound related known run = tt
here_all shape good actor (made ∷ steps) state ideal sound related known run =
    let entry = entry_by actor made in
    let next = steps_sound shape state entry good sound run.0 in
    let simulated = entry_simulates shape state ideal entry good sound related known run.0 in (
      record { sound = sound; takes = run.0; related = related; simulated = simulated },
      here_all shape good actor steps (next_state shape actor state made) (followed_by actor (stood shape actor state made) ideal) next (of (stood shape actor state made) simulated) (keeps_known shape state entry good sound run.0 next known) run.1,
    )
  where
    of : (o : Option Happened) → IsSimulatedAs shape (next_state shape actor state made) ideal actor o → Related shape (next_state shape actor state made) (followed_by actor o ideal)
    of None related = related
    of (Some one) is = is.related

-- Their events hand out what is there.

pub handed_out_all : (shape : GuestShape) (actor : ℕ) (steps : List Made) (state : CoreState) (ideal : Ideal) → AreHere shape actor state ideal steps → happened_in shape actor state steps ≡ happenings actor (events_of (happened_in shape actor state steps)) ideal
handed_out_all shape actor [] state ideal here = refl
handed_out_all shape actor (made ∷ steps) state ideal here = of (stood shape actor state made) here.0.simulated (handed_out_all shape actor steps (next_state shape actor state made) (followed_by actor (stood shape actor state made) ideal) here.1)
  where
    later : List Happened
    later = happened_in shape actor (next_state shape actor state made) steps

    of : (o : Option Happened) → IsSimulatedAs shape (next_state shape actor state made) ideal actor o → happened_in shape actor (next_state shape actor state made) steps ≡ happenings actor (events_of (happened_in shape actor (next_state shape actor state made) steps)) (followed_by actor o ideal)
        → option_to_list o ++ happened_in shape actor (next_state shape actor state made) steps ≡ happenings actor (events_of (option_to_list o ++ happened_in shape actor (next_state shape actor state made) steps)) ideal
    of None is rest = rest
    of (Some one) is rest =
        let happens = happened actor one.event ideal in
        ap (λ xs. one ∷ xs) rest ∙ ap (λ f. (let h : Happened = record { event = one.event; found = f } in h) ∷ happenings actor (events_of later) happens) is.hands

-- They are the calls that their ends say.

pub calls_along :
    (shape : GuestShape) (actor : ℕ) (answer : Option ℕ) (steps : List Made) (state : CoreState) (course : Course) (call : Call) → AreHere shape actor state course.ideal steps → call_of course actor ≡ Some call
    → IsEnded shape actor (call_after actor (events_of (happened_in shape actor state steps)) course.ideal call) answer → AreCalls shape state course (map (moment_by actor) (map makes steps ++ ends answer ∷ []))
calls_along shape actor answer [] state course call here is ended = (subst (λ o. IsCallEnded (course.signals actor) shape actor o answer) (sym is) (ended_as (course.signals actor) shape actor call answer ended), tt)
calls_along shape actor answer (made ∷ steps) state course call here is ended = (tt, of (stood shape actor state made) here.0.simulated here.1 ended (calls_along shape actor answer steps (next_state shape actor state made)))
  where
    next : CoreState
    next = next_state shape actor state made

    Along : Type 0
    Along = (course : Course) (call : Call) → AreHere shape actor (next_state shape actor state made) course.ideal steps → call_of course actor ≡ Some call
        → IsEnded shape actor (call_after actor (events_of (happened_in shape actor (next_state shape actor state made) steps)) course.ideal call) answer
        → AreCalls shape (next_state shape actor state made) course (map (moment_by actor) (map makes steps ++ ends answer ∷ []))

    of : (o : Option Happened) → IsSimulatedAs shape next course.ideal actor o → AreHere shape actor next (followed_by actor o course.ideal) steps
        → IsEnded shape actor (call_after actor (events_of (option_to_list o ++ happened_in shape actor next steps)) course.ideal call) answer → Along
        → AreCalls shape next (course_of course (event_moments actor o)) (map (moment_by actor) (map makes steps ++ ends answer ∷ []))
    of None sim rest ended along = along course call rest is ended
    of (Some one) sim rest ended along =
        along (gone_on course (Happens actor one.event one.found)) (next_call course.ideal actor one.event call) rest
        (made_here course actor one.event one.found call is ∙ ap (λ f. Some (seeing (happened actor one.event course.ideal) (made_by course.ideal one.event f call))) sim.hands) ended

-- Some steps, and more after them.

-- the state after some steps, and the ideal controller's after what they stand for
abbrev pub after_steps : GuestShape → ℕ → CoreState → List Made → CoreState
after_steps shape actor state [] = state
after_steps shape actor state (made ∷ steps) = after_steps shape actor (next_state shape actor state made) steps

abbrev pub ideal_after : GuestShape → ℕ → CoreState → Ideal → List Made → Ideal
ideal_after shape actor state ideal [] = ideal
ideal_after shape actor state ideal (made ∷ steps) = ideal_after shape actor (next_state shape actor state made) (followed_by actor (stood shape actor state made) ideal) steps

pub happened_join : (shape : GuestShape) (actor : ℕ) (early late : List Made) (state : CoreState) → happened_in shape actor state (early ++ late) ≡ happened_in shape actor state early ++ happened_in shape actor (after_steps shape actor state early) late
happened_join shape actor [] late state = refl
happened_join shape actor (made ∷ early) late state =
    let next = next_state shape actor state made in
    ap (λ xs. option_to_list (stood shape actor state made) ++ xs) (happened_join shape actor early late next)
    ∙ sym (append_assoc (option_to_list (stood shape actor state made)) (happened_in shape actor next early) (happened_in shape actor (after_steps shape actor next early) late))

pub here_join : (shape : GuestShape) (actor : ℕ) (early late : List Made) (state : CoreState) (ideal : Ideal) → AreHere shape actor state ideal (early ++ late)
    → AreHere shape actor state ideal early × AreHere shape actor (after_steps shape actor state early) (ideal_after shape actor state ideal early) late
here_join shape actor [] late state ideal here = (tt, here)
here_join shape actor (made ∷ early) late state ideal here =
    let rest = here_join shape actor early late (next_state shape actor state made) (followed_by actor (stood shape actor state made) ideal) here.1 in ((here.0, rest.0), rest.1)

pub ideal_join : (shape : GuestShape) (actor : ℕ) (early late : List Made) (state : CoreState) (ideal : Ideal)
    → ideal_after shape actor state ideal (early ++ late) ≡ ideal_after shape actor (after_steps shape actor state early) (ideal_after shape actor state ideal early) late
ideal_join shape actor [] late state ideal = refl
ideal_join shape actor (made ∷ early) late state ideal = ideal_join shape actor early late (next_state shape actor state made) (followed_by actor (stood shape actor state made) ideal)

pub ideal_is : (shape : GuestShape) (actor : ℕ) (steps : List Made) (state : CoreState) (ideal : Ideal) → ideal_after shape actor state ideal steps ≡ state_after actor (events_of (happened_in shape actor state steps)) ideal
ideal_is shape actor [] state ideal = refl
ideal_is shape actor (made ∷ steps) state ideal = ideal_is shape actor steps (next_state shape actor state made) (followed_by actor (stood shape actor state made) ideal) ∙ of (stood shape actor state made)
  where
    later : List Happened
    later = happened_in shape actor (next_state shape actor state made) steps

    of : (o : Option Happened) → state_after actor (events_of later) (followed_by actor o ideal) ≡ state_after actor (events_of (option_to_list o ++ later)) ideal
    of None = refl
    of (Some one) = refl

-- a state of the core, and the ideal controller's that it agrees with
pub record IsSo (shape : GuestShape) (state : CoreState) (ideal : Ideal) : Type 0 where
  pub sound : IsSound shape state
  pub related : Related shape state ideal

pub so_after : (shape : GuestShape) → IsShape shape → (actor : ℕ) (steps : List Made) (state : CoreState) (ideal : Ideal) → AreHere shape actor state ideal steps → IsSo shape state ideal
    → IsSo shape (after_steps shape actor state steps) (ideal_after shape actor state ideal steps)
so_after shape good actor [] state ideal here so = so
so_after shape good actor (made ∷ steps) state ideal here so =
    so_after shape good actor steps (next_state shape actor state made) (followed_by actor (stood shape actor state made) ideal) here.1
    (record { sound = steps_sound shape state (entry_by actor made) good here.0.sound here.0.takes; related = of (stood shape actor state made) here.0.simulated })
  where
    of : (o : Option Happened) → IsSimulatedAs shape (next_state shape actor state made) ideal actor o → Related shape (next_state shape actor state made) (followed_by actor o ideal)
    of None related = related
    of (Some one) is = is.related

-- What the actor has for itself meanwhile.

there_next : (shape : GuestShape) (actor : ℕ) (made : Made) (state : CoreState) → actor < length state.seats → actor < length (next_state shape actor state made).seats
there_next shape actor made state there = subst (λ n. actor < n) (sym (seats_along shape (moment_by actor (makes made) ∷ []) state)) there

pub local_after_steps : (shape : GuestShape) (actor : ℕ) (steps : List Made) (state : CoreState) → actor < length state.seats → (seat_at (after_steps shape actor state steps) actor).local ≡ local_by shape actor (seat_at state actor).local steps
local_after_steps shape actor [] state there = refl
local_after_steps shape actor (made ∷ steps) state there =
    local_after_steps shape actor steps (next_state shape actor state made) (there_next shape actor made state there) ∙ ap (λ (s : Seat). local_by shape actor s.local steps) (seat_next shape actor made state there)

pub own_after_steps : (shape : GuestShape) (actor : ℕ) (steps : List Made) (state : CoreState) → actor < length state.seats → (seat_at (after_steps shape actor state steps) actor).own ≡ (seat_at state actor).own ++ steps
own_after_steps shape actor [] state there = sym (append-nil (seat_at state actor).own)
own_after_steps shape actor (made ∷ steps) state there =
    own_after_steps shape actor steps (next_state shape actor state made) (there_next shape actor made state there) ∙ ap (λ (s : Seat). s.own ++ steps) (seat_next shape actor made state there)
    ∙ append_assoc (seat_at state actor).own (made ∷ []) steps

pub happened_is : (shape : GuestShape) (actor : ℕ) (steps : List Made) (state : CoreState) → actor < length state.seats → happened_in shape actor state steps ≡ port_events shape actor (seat_at state actor).local (seat_at state actor).own steps
happened_is shape actor [] state there = refl
happened_is shape actor (made ∷ steps) state there =
    ap (λ later. option_to_list (stood shape actor state made) ++ later)
    (happened_is shape actor steps (next_state shape actor state made) (there_next shape actor made state there) ∙ ap (λ (s : Seat). port_events shape actor s.local s.own steps) (seat_next shape actor made state there))
