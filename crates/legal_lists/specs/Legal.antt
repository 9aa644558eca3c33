-- Legal lists: what a record of a guest's actors can be that breaks off anywhere (own choice). All calls so far go on as in a history, and those that are open can
-- still become calls; and it is fresh, as far as what is still to come can be told.
use Rattle.std.specs.Prelude.{◌≡◌, ℕ, ◌&&◌, ◌||◌, ◌==◌, not, nat_lt, Bool, true, false, IsTrue, List, [], ◌∷◌, map, length, drop, fold, filter_map, Option, Some, None, if◌then◌else◌}
use Rattle.std.specs.List.{list_all, list_any, range_with_len}
use Rattle.std.specs.Option.{option_map_or}
use Rattle.law_histories.specs.Words.{Key, Redist, Icc, Mem, Msi, GuestShape, is_same_key, intid_of, Lpi}
use Rattle.law_histories.specs.Calls.{Event, Cpu, Found, Moment, Begin, Happens, Operation, Access, Device, Residence, View, opening_irq, icc_events, access_events, device_events, sets_lpis}
use Rattle.law_histories.specs.GicCall.declared.event.Event.TheVariants.{Raise, ItsEnd}
use Rattle.law_histories.specs.GicCall.declared.event.Moment.TheVariants.{End}
use Rattle.law_histories.specs.GicRmap.Map.{decoded as redist_decoded}
use Rattle.law_histories.specs.Histories.{IdealGuest, Ideal, Call, Course, actor_count, made, seeing, lpi_in, call_of, course_of, opening_course, IsHistory, key_in, Track, opening_track, doing_of, tracked, after_moment, is_event_of, ends_turn, has_named, takes_commands, asks_first, comes_first, is_last_open, keys_in, of_event, of_end, is_fresh_at_interface, is_fresh_at_end, is_kept, IsEndedAs}

-- what a call notes further on, whatever the guest is then: an event of its own, with what that hands out, and whether that is what its operation signals there;
-- and for which vCPUs the LPIs are after an event
pub data Note : Type 0 where
  Made : Bool → Ideal → Event → Found → Note
  Sees : Ideal → Note

abbrev pub noting : Call → Note → Call
noting call (Made signals ideal event found) = made ideal event found call
noting call (Sees ideal) = seeing ideal call

abbrev pub raises_lpi : Event → Bool
raises_lpi (Raise (Lpi id)) = true
raises_lpi event = false

-- it has raised what it signals, once it noted this
abbrev pub signalling : Bool → Note → Bool
signalling before (Made signals ideal event found) = before || (signals && raises_lpi event)
signalling before (Sees ideal) = before

-- what an open call has made can still become its call: after further notes it is one, with some answer. What it noted so far stays: the maps as it took the
-- ITS, and for which vCPUs the LPIs were as its commands began, and as a write of EnableLPIs came past them
pub record IsBegun (signals : Bool) (shape : GuestShape) (actor : ℕ) (call : Call) : Type 0 where
  pub notes : List Note
  pub answer : Option ℕ
  pub ended : IsEndedAs (fold signalling signals notes) shape actor (fold noting call notes) answer

-- a view of nothing: the interrupts of the calls whose events come in a fixed order do not depend on what these find
abbrev pub unseen : View
unseen =
    record {
      irqs = opening_irq true;
      targets = λ id. None;
      lpis = λ vcpu. false;
      words = λ word. 0;
      enables = record { group0 = false; group1 = false };
      is_spreading = false;
      offset = 0;
      is_stalled = false;
      maps = record { devices = []; events = []; collections = [] };
    }

-- the events of such a call: of messages, wires, writes of ICC_SGI1R, registers over interrupts and GICD_CTLR (none is of an interrupt in a call that sets
-- EnableLPIs, takes commands, or is a message-signalled interrupt)
abbrev pub events_in_order : GuestShape → ℕ → Operation → List Event
events_in_order shape actor (Access (Icc reg write)) = icc_events shape actor reg write
events_in_order shape actor (Access (Mem frame offset size write)) = access_events shape unseen frame offset size write
events_in_order shape actor (Device op) = device_events unseen op
events_in_order shape actor Residence = []

-- the interrupts of events, in order
abbrev pub keys_of : List Event → List Key
keys_of events = filter_map key_in events

abbrev pub gives_back : Event → Bool
gives_back ItsEnd = true
gives_back event = false

-- after these events it may make one of an LPI: a write that sets EnableLPIs of one above all that it touched, as it takes them in rising order; a message-signalled
-- interrupt of any, until it made one pending or gave the ITS back; a write that takes commands of any, until it gave the ITS back, since nobody knows which LPI
-- a command is about before all of that is read
abbrev pub may_make_lpi : GuestShape → Operation → List Event → ℕ → Bool
may_make_lpi shape (Access (Icc reg write)) events id = false
may_make_lpi shape (Access (Mem (Redist vcpu) offset size write)) events id = sets_lpis shape (redist_decoded offset size) write && list_all (λ key. nat_lt (intid_of key) id) (keys_of events)
may_make_lpi shape (Access (Mem frame offset size write)) events id = takes_commands shape (Access (Mem frame offset size write)) && not (list_any gives_back events)
may_make_lpi shape (Device (Msi device event)) events id = not (list_any (λ key. true) (keys_of events)) && not (list_any gives_back events)
may_make_lpi shape operation events id = false

-- after these events of an operation's the next ones may be of an interrupt: of those in order, one after as many as it made
abbrev pub may_make_after : GuestShape → ℕ → Operation → List Event → Key → Bool
may_make_after shape actor operation events key =
    list_any (is_same_key key) (drop (length (keys_of events)) (keys_of (events_in_order shape actor operation))) || option_map_or (may_make_lpi shape operation events) (lpi_in key) false

-- an open call may yet make an event of an interrupt, by its operation and by what it made, whatever memory holds (of a call that takes commands this is asked
-- once the next of them is being read: see has_named)
abbrev pub may_make : GuestShape → ℕ → Call → Key → Bool
may_make shape actor call key = may_make_after shape actor call.operation (map (λ happened. happened.event) call.piece) key

-- further on in a list an actor makes an event of an interrupt in the call, or the command of one, that it is in; or it is still in that at the end of the list, where this
-- is its call, and may yet make one
abbrev pub may_come : GuestShape → Option Call → ℕ → Key → List Moment → Bool
may_come shape last actor key [] = option_map_or (λ call. may_make shape actor call key) last false
may_come shape last actor key (Begin other operation ∷ moments) = not (other == actor) && may_come shape last actor key moments
may_come shape last actor key (Happens other event found ∷ moments) =
    if other == actor then is_event_of key event || (not (ends_turn event) && may_come shape last actor key moments) else may_come shape last actor key moments
may_come shape last actor key (End other answer ∷ moments) = not (other == actor) && may_come shape last actor key moments

-- an open call of another actor names it and may have an event of it still to make, where the list ends in this course
abbrev pub may_be_awaited : GuestShape → Course → List Moment → Track → ℕ → Key → Bool
may_be_awaited shape last later track vcpu key =
    list_any (λ actor. not (actor == vcpu) && (has_named shape (doing_of track actor) && may_come shape (call_of last actor) actor key later)) (range_with_len 0 (actor_count shape))

-- each interrupt that comes first is excused: an open call changed it last, or may have an event of it still to make (the moments are those after the access)
abbrev pub may_be_fresh : Course → List Moment → Ideal → Track → Event → Bool
may_be_fresh last later state track (Cpu vcpu reg write) =
    not (asks_first reg write)
    || list_all (λ key. not (comes_first state vcpu key) || (is_last_open state.guest.shape track vcpu key || may_be_awaited state.guest.shape last later track vcpu key)) (keys_in state.guest.shape)
may_be_fresh last later state track event = true

abbrev pub may_be_acknowledged_from : Course → Ideal → Track → List Moment → Bool
may_be_acknowledged_from last state track [] = true
may_be_acknowledged_from last state track (moment ∷ moments) =
    of_event (may_be_fresh last moments) state track moment && may_be_acknowledged_from last (after_moment state moment) (tracked state moment track) moments

abbrev pub may_be_acknowledged : IdealGuest → List Moment → Bool
may_be_acknowledged guest moments = may_be_acknowledged_from (course_of (opening_course guest) moments) (opening_course guest).ideal (opening_track guest.shape) moments

-- a list of moments is legal: it goes on as a history does, its open calls can still become calls, and the clauses of fresh hold
pub record IsLegal (guest : IdealGuest) (moments : List Moment) : Type 0 where
  pub history : IsHistory guest moments
  pub begun : (actor : ℕ) (call : Call) → call_of (course_of (opening_course guest) moments) actor ≡ Some call → IsBegun ((course_of (opening_course guest) moments).signals actor) guest.shape actor call
  pub acknowledge : IsTrue (may_be_acknowledged guest moments)
  pub interface : IsTrue (is_kept (of_event is_fresh_at_interface) guest moments)
  pub end : IsTrue (is_kept (of_event is_fresh_at_end) guest moments)
  pub deactivation : IsTrue (is_kept of_end guest moments)
