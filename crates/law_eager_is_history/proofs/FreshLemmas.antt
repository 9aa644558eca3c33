-- What is fresh where no call of another actor is open: events that are no accesses of a CPU interface.
use Rattle.std.proofs.Common.{◌≡◌, ℕ, Bool, true, false, IsTrue, List, [], ◌∷◌, ◌++◌, map, Option, refl, sym, ap, ◌∙◌, subst}
use Rattle.std.specs.List.{list_all}
use Rattle.std.proofs.lemmas.Bool.{and_parts, and_from}
use Rattle.std.proofs.lemmas.List.{append_assoc}
use Rattle.floor_histories.specs.Words.{GuestShape, Key}
use Rattle.floor_histories.specs.Calls.{Event, Up, Down, Enable, Touch, Reach, Take, Leave, Cpu, Put, CtlrBegin, CtlrEnd, ItsBegin, Found, Moment, Begin, Happens, Operation}
use Rattle.floor_histories.specs.GicCall.declared.event.Event.TheVariants.{Raise, Read, ItsEnd, Queue}
use Rattle.floor_histories.specs.GicCall.declared.event.Moment.TheVariants.{End}
use Rattle.floor_histories.specs.Histories.{IdealGuest, Ideal, handed_out, happened, Track, is_acknowledged_from, is_fresh_at_acknowledge, is_fresh_at_interface, is_fresh_at_end, has_left_all, after_changes, after_leaving, tracked, of_event, of_end, is_kept_from}
use Rattle.law_eager_is_history.specs.Moments.{settled, happenings, moment_of, call_moments}
use Rattle.law_eager_is_history.proofs.CourseLemmas.{state_after}

-- moments from a state on keep the four clauses
pub record IsFreshFrom (state : Ideal) (track : Track) (moments : List Moment) : Type 0 where
  pub acknowledge : IsTrue (is_acknowledged_from state track moments)
  pub interface : IsTrue (is_kept_from (of_event is_fresh_at_interface) state track moments)
  pub end : IsTrue (is_kept_from (of_event is_fresh_at_end) state track moments)
  pub deactivation : IsTrue (is_kept_from of_end state track moments)

-- an event keeps the three that are of events, whatever comes after it
pub record IsFreshAt (state : Ideal) (track : Track) (event : Event) : Type 0 where
  pub acknowledge : (later : List Moment) → IsTrue (is_fresh_at_acknowledge later state track event)
  pub interface : IsTrue (is_fresh_at_interface state track event)
  pub end : IsTrue (is_fresh_at_end state track event)

pub none_fresh : (state : Ideal) (track : Track) → IsFreshFrom state track []
none_fresh state track = record { acknowledge = refl; interface = refl; end = refl; deactivation = refl }

pub event_then : (actor : ℕ) (event : Event) (found : Found) (state : Ideal) (track : Track) (moments : List Moment) → IsFreshAt state track event → IsFreshFrom (happened actor event state) (tracked state (Happens actor event found) track) moments → IsFreshFrom state track (Happens actor event found ∷ moments)
event_then actor event found state track moments now later =
    record {
      acknowledge = and_from (is_fresh_at_acknowledge moments state track event) (is_acknowledged_from (happened actor event state) (tracked state (Happens actor event found) track) moments) (now.acknowledge moments) later.acknowledge;
      interface = and_from (is_fresh_at_interface state track event) (is_kept_from (of_event is_fresh_at_interface) (happened actor event state) (tracked state (Happens actor event found) track) moments) now.interface later.interface;
      end = and_from (is_fresh_at_end state track event) (is_kept_from (of_event is_fresh_at_end) (happened actor event state) (tracked state (Happens actor event found) track) moments) now.end later.end;
      deactivation = later.deactivation;
    }

pub end_then : (actor : ℕ) (answer : Option ℕ) (state : Ideal) (track : Track) (moments : List Moment) → track.leaving ≡ [] → IsFreshFrom state (tracked state (End actor answer) track) moments → IsFreshFrom state track (End actor answer ∷ moments)
end_then actor answer state track moments none later =
    record {
      acknowledge = later.acknowledge;
      interface = later.interface;
      end = later.end;
      deactivation = and_from (has_left_all track actor) (is_kept_from of_end state (tracked state (End actor answer) track) moments) (ap (λ pairs. has_left_all (record track { leaving = pairs }) actor) none) later.deactivation;
    }

begin_then : (actor : ℕ) (operation : Operation) (state : Ideal) (track : Track) (moments : List Moment) → IsFreshFrom state (tracked state (Begin actor operation) track) moments → IsFreshFrom state track (Begin actor operation ∷ moments)
begin_then actor operation state track moments later = record { acknowledge = later.acknowledge; interface = later.interface; end = later.end; deactivation = later.deactivation }

-- an event that is no access of a CPU interface register
abbrev pub is_no_access : Event → Bool
is_no_access (Cpu vcpu reg write) = false
is_no_access event = true

pub quiet_event : (event : Event) (state : Ideal) (track : Track) → IsTrue (is_no_access event) → IsFreshAt state track event
quiet_event (Raise key) state track h = record { acknowledge = λ later. refl; interface = refl; end = refl }
quiet_event (Up key) state track h = record { acknowledge = λ later. refl; interface = refl; end = refl }
quiet_event (Down key) state track h = record { acknowledge = λ later. refl; interface = refl; end = refl }
quiet_event (Enable vcpu) state track h = record { acknowledge = λ later. refl; interface = refl; end = refl }
quiet_event (Touch key touch) state track h = record { acknowledge = λ later. refl; interface = refl; end = refl }
quiet_event (Reach key vcpu) state track h = record { acknowledge = λ later. refl; interface = refl; end = refl }
quiet_event (Take key vcpu) state track h = record { acknowledge = λ later. refl; interface = refl; end = refl }
quiet_event (Leave key vcpu) state track h = record { acknowledge = λ later. refl; interface = refl; end = refl }
quiet_event (Cpu vcpu reg write) state track h = absurd (cc)
quiet_event (Read place) state track h = record { acknowledge = λ later. refl; interface = refl; end = refl }
quiet_event (Put word value) state track h = record { acknowledge = λ later. refl; interface = refl; end = refl }
quiet_event (CtlrBegin enables) state track h = record { acknowledge = λ later. refl; interface = refl; end = refl }
quiet_event CtlrEnd state track h = record { acknowledge = λ later. refl; interface = refl; end = refl }
quiet_event ItsBegin state track h = record { acknowledge = λ later. refl; interface = refl; end = refl }
quiet_event ItsEnd state track h = record { acknowledge = λ later. refl; interface = refl; end = refl }
quiet_event (Queue offset change) state track h = record { acknowledge = λ later. refl; interface = refl; end = refl }

-- nobody has to leave after it, where nobody had to before
changes_leaving : (shape : GuestShape) (actor : ℕ) (event : Event) (track : Track) → (after_changes shape actor event track).leaving ≡ track.leaving
changes_leaving shape actor (Raise key) track = refl
changes_leaving shape actor (Up key) track = refl
changes_leaving shape actor (Down key) track = refl
changes_leaving shape actor (Enable vcpu) track = refl
changes_leaving shape actor (Touch key touch) track = refl
changes_leaving shape actor (Reach key vcpu) track = refl
changes_leaving shape actor (Take key vcpu) track = refl
changes_leaving shape actor (Leave key vcpu) track = refl
changes_leaving shape actor (Cpu vcpu reg write) track = refl
changes_leaving shape actor (Read place) track = refl
changes_leaving shape actor (Put word value) track = refl
changes_leaving shape actor (CtlrBegin enables) track = refl
changes_leaving shape actor CtlrEnd track = refl
changes_leaving shape actor ItsBegin track = refl
changes_leaving shape actor ItsEnd track = refl
changes_leaving shape actor (Queue offset change) track = refl

none_more : (pairs : List (ℕ × Key)) → pairs ≡ [] → pairs ++ [] ≡ []
none_more pairs none = ap (λ xs. xs ++ []) none

quiet_leaving : (state : Ideal) (event : Event) (track : Track) → IsTrue (is_no_access event) → track.leaving ≡ [] → (after_leaving state event track).leaving ≡ []
quiet_leaving state (Raise key) track h none = none_more track.leaving none
quiet_leaving state (Up key) track h none = none_more track.leaving none
quiet_leaving state (Down key) track h none = none_more track.leaving none
quiet_leaving state (Enable vcpu) track h none = none_more track.leaving none
quiet_leaving state (Touch key touch) track h none = none_more track.leaving none
quiet_leaving state (Reach key vcpu) track h none = none_more track.leaving none
quiet_leaving state (Take key vcpu) track h none = none_more track.leaving none
quiet_leaving state (Leave key vcpu) track h none = rw none refl
quiet_leaving state (Cpu vcpu reg write) track h none = absurd (cc)
quiet_leaving state (Read place) track h none = none_more track.leaving none
quiet_leaving state (Put word value) track h none = none_more track.leaving none
quiet_leaving state (CtlrBegin enables) track h none = none_more track.leaving none
quiet_leaving state CtlrEnd track h none = none_more track.leaving none
quiet_leaving state ItsBegin track h none = none_more track.leaving none
quiet_leaving state ItsEnd track h none = none_more track.leaving none
quiet_leaving state (Queue offset change) track h none = none_more track.leaving none

-- whatever follows is fresh, if it is wherever nobody has to leave
pub quiet_then :
    (actor : ℕ) (events : List Event) (state : Ideal) (track : Track) (moments : List Moment) → IsTrue (list_all is_no_access events) → track.leaving ≡ []
    → ((later : Track) → later.leaving ≡ [] → IsFreshFrom (state_after actor events state) later moments)
    → IsFreshFrom state track (map (moment_of actor) (happenings actor events state) ++ moments)
quiet_then actor [] state track moments quiet none rest = rest track none
quiet_then actor (event ∷ events) state track moments quiet none rest =
    let parts = and_parts (is_no_access event) (list_all is_no_access events) quiet in
    event_then actor event (handed_out state event) state track (map (moment_of actor) (happenings actor events (happened actor event state)) ++ moments) (quiet_event event state track parts.0)
    (quiet_then actor events (happened actor event state) (tracked state (Happens actor event (handed_out state event)) track) moments parts.1
    (quiet_leaving state event (after_changes state.guest.shape actor event track) parts.0 (changes_leaving state.guest.shape actor event track ∙ none)) rest)

-- a call is fresh whose events are, wherever nobody has to leave
pub call_then :
    (actor : ℕ) (operation : Operation) (events : List Event) (answer : Option ℕ) (guest : IdealGuest) (track : Track) (moments : List Moment) → track.leaving ≡ []
    → ((early : Track) (late : List Moment) → early.leaving ≡ [] → ((later : Track) → later.leaving ≡ [] → IsFreshFrom (state_after actor events (settled guest)) later late)
    → IsFreshFrom (settled guest) early (map (moment_of actor) (happenings actor events (settled guest)) ++ late))
    → ((later : Track) → later.leaving ≡ [] → IsFreshFrom (state_after actor events (settled guest)) later moments)
    → IsFreshFrom (settled guest) track (call_moments actor operation events answer guest ++ moments)
call_then actor operation events answer guest track moments none fresh rest =
    let state = settled guest in
    let made = map (moment_of actor) (happenings actor events state) in
    let early = tracked state (Begin actor operation) track in
    let all : IsFreshFrom state early (made ++ (End actor answer ∷ moments)) =
    fresh early (End actor answer ∷ moments) none (λ later left. end_then actor answer (state_after actor events state) later moments left (rest (tracked (state_after actor events state) (End actor answer) later) left)) in
    begin_then actor operation state track (made ++ End actor answer ∷ [] ++ moments) (subst (λ ms. IsFreshFrom state early ms) (sym (append_assoc made (End actor answer ∷ []) moments)) all)
