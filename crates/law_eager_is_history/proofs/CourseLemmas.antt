-- The course of a history along a call, where no other call is open.
use Rattle.std.proofs.Common.{◌≡◌, ℕ, ◌<◌, zero, suc, IsTrue, List, [], ◌∷◌, ◌++◌, map, replicate, Option, option_map, Some, None, is_some, is_none, refl, sym, ap, ◌∙◌, subst, slice_set, slice_index_or, arith, Bool, false}
use Rattle.std.proofs.lemmas.List.{get_or-set_same, get_or-replicate, length-replicate}
use Rattle.std.proofs.lemmas.Grind.{fold-append}
use Rattle.floor_histories.specs.Calls.{Event, Found, Happens, Operation, CanHappen, Moment}
use Rattle.floor_histories.specs.GicCall.declared.event.Moment.TheVariants.{End}
use Rattle.floor_histories.specs.Histories.{IdealGuest, Ideal, is_allowed, handed_out, happened, Call, Course, IsEnded, IsCallEnded, actor_count, begun, made, seeing, gone_on, course_of, GoesOn, with_signal, signals_after}
use Rattle.floor_histories.proofs.GicHistory.CallLemmas.{goes_on, ended_as}
use Rattle.law_eager_is_history.specs.Moments.{settled, happenings, moment_of, call_moments}

-- the state after events of an actor
abbrev pub state_after : ℕ → List Event → Ideal → Ideal
state_after actor [] state = state
state_after actor (event ∷ events) state = state_after actor events (happened actor event state)

-- an event can happen there, and may
pub record IsFine (actor : ℕ) (state : Ideal) (event : Event) : Type 0 where
  pub can : CanHappen state.guest.shape event
  pub allowed : IsTrue (is_allowed state actor event)

abbrev pub AreFine : ℕ → Ideal → List Event → Type 0
AreFine actor state [] = Unit {0}
AreFine actor state (event ∷ events) = IsFine actor state event × AreFine actor (happened actor event state) events

pub state_append : (actor : ℕ) (first next : List Event) (state : Ideal) → state_after actor (first ++ next) state ≡ state_after actor next (state_after actor first state)
state_append actor [] next state = refl
state_append actor (event ∷ first) next state = state_append actor first next (happened actor event state)

pub fine_append : (actor : ℕ) (first next : List Event) (state : Ideal) → AreFine actor state first → AreFine actor (state_after actor first state) next → AreFine actor state (first ++ next)
fine_append actor [] next state one two = two
fine_append actor (event ∷ first) next state one two = (one.0, fine_append actor first next (happened actor event state) one.1 two)

pub happenings_append : (actor : ℕ) (first next : List Event) (state : Ideal) → happenings actor (first ++ next) state ≡ happenings actor first state ++ happenings actor next (state_after actor first state)
happenings_append actor [] next state = refl
happenings_append actor (event ∷ first) next state = ap (λ xs. (record { event = event; found = handed_out state event }) ∷ xs) (happenings_append actor first next (happened actor event state))

-- the call that they leave of a call
abbrev pub call_after : ℕ → List Event → Ideal → Call → Call
call_after actor [] state call = call
call_after actor (event ∷ events) state call = call_after actor events (happened actor event state) (seeing (happened actor event state) (made state event (handed_out state event) call))

pub call_append : (actor : ℕ) (first next : List Event) (state : Ideal) (call : Call) → call_after actor (first ++ next) state call ≡ call_after actor next (state_after actor first state) (call_after actor first state call)
call_append actor [] next state call = refl
call_append actor (event ∷ first) next state call = call_append actor first next (happened actor event state) (seeing (happened actor event state) (made state event (handed_out state event) call))

-- Where one actor is in a call, and where none is.

-- and who has raised what it signals
abbrev pub in_call : ℕ → (ℕ → Bool) → ℕ → Call → Ideal → Course
in_call count signals actor call state = record { ideal = state; calls = slice_set (replicate count None) actor (Some call); signals = signals }

abbrev pub idle : ℕ → (ℕ → Bool) → Ideal → Course
idle count signals state = record { ideal = state; calls = replicate count None; signals = signals }

-- who has, after an event of the call, and after all of them
abbrev pub signals_on : ℕ → (ℕ → Bool) → ℕ → Call → Ideal → Event → ℕ → Bool
signals_on count signals actor call state event = with_signal (in_call count signals actor call state) actor (signals_after (in_call count signals actor call state) actor event)

abbrev pub signals_along : ℕ → ℕ → List Event → Ideal → Call → (ℕ → Bool) → ℕ → Bool
signals_along count actor [] state call signals = signals
signals_along count actor (event ∷ events) state call signals =
    signals_along count actor events (happened actor event state) (seeing (happened actor event state) (made state event (handed_out state event) call)) (signals_on count signals actor call state event)

-- a course in which nobody is in a call
pub record Leaves (count : ℕ) (state : Ideal) (course : Course) : Type 0 where
  pub signals : ℕ → Bool
  pub is : course ≡ idle count signals state

none_mapped : (f : Call → Call) (count : ℕ) → map (option_map f) (replicate count None) ≡ replicate count None
none_mapped f zero = refl
none_mapped f (suc count) = ap (λ xs. None ∷ xs) (none_mapped f count)

calls_on : (f g : Call → Call) (call : Call) (count actor : ℕ) → actor < count → map (option_map f) (slice_set (slice_set (replicate count None) actor (Some call)) actor (option_map g (slice_index_or (slice_set (replicate count None) actor (Some call)) actor None))) ≡ slice_set (replicate count None) actor (Some (f (g call)))
calls_on f g call zero actor h = absurd (omega (arith, h))
calls_on f g call (suc count) zero h = ap (λ xs. Some (f (g call)) ∷ xs) (none_mapped f count)
calls_on f g call (suc count) (suc actor) h = ap (λ xs. None ∷ xs) (calls_on f g call count actor (omega (arith, h)))

pub calls_off : (call : Call) (count actor : ℕ) → slice_set (slice_set (replicate count None) actor (Some call)) actor None ≡ replicate count None
calls_off call zero actor = refl
calls_off call (suc count) zero = refl
calls_off call (suc count) (suc actor) = ap (λ xs. None ∷ xs) (calls_off call count actor)

call_here : (call : Call) (count actor : ℕ) → actor < count → slice_index_or (slice_set (replicate count None) actor (Some call)) actor None ≡ Some call
call_here call count actor h = get_or-set_same (replicate count None) actor (Some call) None (omega (arith, h, length-replicate {A = Option Call} count None))

one_on : (count : ℕ) (signals : ℕ → Bool) (actor : ℕ) (call : Call) (state : Ideal) (event : Event) (found : Found) → actor < count
    → gone_on (in_call count signals actor call state) (Happens actor event found) ≡ in_call count (signals_on count signals actor call state event) actor (seeing (happened actor event state) (made state event found call)) (happened actor event state)
one_on count signals actor call state event found h =
    ap (λ calls. let c : Course = record { ideal = happened actor event state; calls = calls; signals = signals_on count signals actor call state event } in c) (calls_on (seeing (happened actor event state)) (made state event found) call count actor h)

call_goes : (count : ℕ) (signals : ℕ → Bool) (actor : ℕ) (events : List Event) (state : Ideal) (call : Call) → actor < count → AreFine actor state events → GoesOn (in_call count signals actor call state) (map (moment_of actor) (happenings actor events state))
call_goes count signals actor [] state call h fine = tt
call_goes count signals actor (event ∷ events) state call h fine = (
  record { within = ap is_some (call_here call count actor h); can = fine.0.can; allowed = fine.0.allowed; hands = refl },
  subst (λ c. GoesOn c (map (moment_of actor) (happenings actor events (happened actor event state)))) (sym (one_on count signals actor call state event (handed_out state event) h))
      (call_goes count (signals_on count signals actor call state event) actor events (happened actor event state) (seeing (happened actor event state) (made state event (handed_out state event) call)) h fine.1),
)

pub call_course : (count : ℕ) (signals : ℕ → Bool) (actor : ℕ) (events : List Event) (state : Ideal) (call : Call) → actor < count
    → course_of (in_call count signals actor call state) (map (moment_of actor) (happenings actor events state)) ≡ in_call count (signals_along count actor events state call signals) actor (call_after actor events state call) (state_after actor events state)
call_course count signals actor [] state call h = refl
call_course count signals actor (event ∷ events) state call h =
    ap (λ c. course_of c (map (moment_of actor) (happenings actor events (happened actor event state)))) (one_on count signals actor call state event (handed_out state event) h)
    ∙ call_course count (signals_on count signals actor call state event) actor events (happened actor event state) (seeing (happened actor event state) (made state event (handed_out state event) call)) h

-- a call of an actor, and what it leaves
pub record IsCallMade (count actor : ℕ) (operation : Operation) (events : List Event) (answer : Option ℕ) (guest : IdealGuest) : Type 0 where
  pub goes : (signals : ℕ → Bool) → GoesOn (idle count signals (settled guest)) (call_moments actor operation events answer guest)
  pub leaves : (signals : ℕ → Bool) → Leaves count (state_after actor events (settled guest)) (course_of (idle count signals (settled guest)) (call_moments actor operation events answer guest))

pub call_made :
    (count actor : ℕ) (operation : Operation) (events : List Event) (answer : Option ℕ) (guest : IdealGuest) → count ≡ actor_count guest.shape → actor < count → AreFine actor (settled guest) events
    → IsEnded (state_after actor events (settled guest)).guest.shape actor (call_after actor events (settled guest) (begun (settled guest) operation)) answer
    → IsCallMade count actor operation events answer guest
call_made count actor operation events answer guest each h fine ended = record { goes = goes; leaves = leaves }
  where
    state : Ideal
    state = settled guest

    call : Call
    call = begun state operation

    moments : List Moment
    moments = map (moment_of actor) (happenings actor events state)

    -- the course once the call is begun, and as it ends
    begins : (ℕ → Bool) → Course
    begins signals = in_call count (with_signal (idle count signals state) actor false) actor call state

    along : (ℕ → Bool) → ℕ → Bool
    along signals = signals_along count actor events state call (with_signal (idle count signals state) actor false)

    last : (ℕ → Bool) → Course
    last signals = in_call count (along signals) actor (call_after actor events state call) (state_after actor events state)

    comes : (signals : ℕ → Bool) → course_of (begins signals) moments ≡ last signals
    comes signals = call_course count (with_signal (idle count signals state) actor false) actor events state call h

    ends : (signals : ℕ → Bool) → GoesOn (last signals) (End actor answer ∷ [])
    ends signals =
        let after = call_after actor events state call in
        let shape = (state_after actor events state).guest.shape in
        (subst (λ o. IsCallEnded (along signals actor) shape actor o answer) (sym (call_here after count actor h)) (ended_as (along signals actor) shape actor after answer ended), tt)

    goes : (signals : ℕ → Bool) → GoesOn (idle count signals state) (call_moments actor operation events answer guest)
    goes signals = (
      (subst (λ m. actor < m) each h, ap is_none (get_or-replicate count actor None None h)),
      goes_on (begins signals) moments (End actor answer ∷ []) (call_goes count (with_signal (idle count signals state) actor false) actor events state call h fine)
          (subst (λ c. GoesOn c (End actor answer ∷ [])) (sym (comes signals)) (ends signals)),
    )

    leaves : (signals : ℕ → Bool) → Leaves count (state_after actor events state) (course_of (idle count signals state) (call_moments actor operation events answer guest))
    leaves signals =
        let after = call_after actor events state call in
        record {
          signals = with_signal (last signals) actor false;
          is = fold-append gone_on (begins signals) moments (End actor answer ∷ [])
              ∙ ap (λ c. gone_on c (End actor answer)) (comes signals)
              ∙ ap (λ calls. let c : Course = record { ideal = state_after actor events state; calls = calls; signals = with_signal (last signals) actor false } in c) (calls_off after count actor);
        }
