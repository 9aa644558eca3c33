-- Fresh histories: a change reaches a CPU interface no later than its call ends (own choice; the architecture asks for finite time).
use Rattle.std.specs.Prelude.{ℕ, ◌+◌, ◌&&◌, ◌||◌, ◌==◌, not, Bool, true, false, IsTrue, List, [], ◌∷◌, ◌++◌, map, fold, filter, replicate, Option, Some, None, is_some, slice_index_or, slice_set, if◌then◌else◌}
use Rattle.std.specs.List.{list_all, list_any, range_with_len}
use Rattle.std.specs.Option.{option_map_or, option_and_then}
use Rattle.ideal_guest.specs.Words.{IccReg, Iar0, Iar1, Hppir0, Hppir1, Eoir0, Eoir1, Dir, Key, Its, Mem, GuestShape, interrupt_count, is_same_key, key_at, key_of, place_of, intid_of, is_number, is_pending}
use Rattle.ideal_guest.specs.Registers.{Cwriter, has_lpis, deactivated_by, is_deliverable, is_before, first_of, candidates_at, intid_written}
use Rattle.ideal_guest.specs.Calls.{Ram, Event, Cpu, Reach, Leave, Place, Moment, Begin, Happens, Operation, Access, command_places}
use Rattle.ideal_guest.specs.declared.guest.IdealGuest.{IdealGuest}
use Rattle.ideal_guest.specs.GicCall.declared.event.Event.TheVariants.{Read, Queue}
use Rattle.ideal_guest.specs.GicCall.declared.event.Moment.TheVariants.{End}
use Rattle.ideal_guest.specs.GicCall.declared.event.Place.TheVariants.{Word}
use Rattle.ideal_guest.specs.GicImap.declared.map.Reg.TheVariants.{Ctlr as ItsCtlrReg}
use Rattle.ideal_guest.specs.GicImap.declared.map.RegRef.{RegRef as ItsRef}
use Rattle.ideal_guest.specs.GicImap.declared.map.RegRef.TheVariants.{Plain as ItsPlain}
use Rattle.ideal_guest.specs.GicImap.Map.{decoded as its_decoded}
use Rattle.ideal_guest.specs.Ideal.{irq_at, cpu_at}
use Rattle.gic_history.specs.State.{Ideal, opening, standing_at, moved_at, is_home, interface_at, view_at}
use Rattle.gic_history.specs.Moves.{happened}
use Rattle.gic_history.specs.History.{actor_count}
use Rattle.gic_history.specs.Named.{key_in}

-- Calls and changes.

-- a call of an actor, or a command of one, which counts as a call of its own: the actor's calls and commands are numbered
pub record Turn : Type 0 where
  pub actor : ℕ
  pub number : ℕ

-- an actor: what its call is for, if it is in one, the number of that, the interrupts of the events that it made in it, and whether it has begun to read the
-- next command of the ITS
pub record Doing : Type 0 where
  pub operation : Option Operation
  pub number : ℕ
  pub done : List Key
  pub fetched : Bool

-- an interrupt: who changed it last, and who did since it got to the interface where it is, oldest first
pub record Changes : Type 0 where
  pub last : Option Turn
  pub since : List Turn

-- what a history says of its actors and of its interrupts, by place; and which interrupts are to leave which vCPU's interface before its call ends
pub record Track : Type 0 where
  pub doings : List Doing
  pub changes : List Changes
  pub leaving : List (ℕ × Key)

abbrev pub opening_track : GuestShape → Track
opening_track shape =
    record {
      doings = replicate (actor_count shape) (record { operation = None; number = 0; done = []; fetched = false });
      changes = replicate (interrupt_count shape) (record { last = None; since = [] });
      leaving = [];
    }

abbrev pub doing_of : Track → ℕ → Doing
doing_of track actor = slice_index_or track.doings actor (record { operation = None; number = 0; done = []; fetched = false })

abbrev pub changes_of : GuestShape → Track → Key → Changes
changes_of shape track key = slice_index_or track.changes (place_of shape key) (record { last = None; since = [] })

abbrev pub turn_of : Track → ℕ → Turn
turn_of track actor = record { actor = actor; number = (doing_of track actor).number }

-- a call is open to a vCPU: another actor is in it
abbrev pub is_open : Track → ℕ → Turn → Bool
is_open track vcpu turn =
    let doing = doing_of track turn.actor in not (turn.actor == vcpu) && is_some doing.operation && doing.number == turn.number

-- an event is of an interrupt, of those that a call makes
abbrev pub is_event_of : Key → Event → Bool
is_event_of key event = option_map_or (is_same_key key) (key_in event) false

-- a command ends with it, or what a call does before the next command
abbrev pub ends_turn : Event → Bool
ends_turn (Queue offset change) = true
ends_turn event = false

-- further on in a history an actor makes an event of an interrupt in the call, or the command of one, that it is in
abbrev pub is_to_come : ℕ → Key → List Moment → Bool
is_to_come actor key [] = false
is_to_come actor key (Begin other operation ∷ moments) = not (other == actor) && is_to_come actor key moments
is_to_come actor key (Happens other event found ∷ moments) =
    if other == actor then is_event_of key event || (not (ends_turn event) && is_to_come actor key moments) else is_to_come actor key moments
is_to_come actor key (End other answer ∷ moments) = not (other == actor) && is_to_come actor key moments

-- a call in which the ITS takes commands: a write of GITS_CTLR or of GITS_CWRITER, in a guest that has an ITS
abbrev pub starts_queue : ItsRef → Bool
starts_queue (ItsPlain ItsCtlrReg half) = true
starts_queue (ItsPlain Cwriter half) = true
starts_queue ref = false

abbrev pub takes_commands : GuestShape → Operation → Bool
takes_commands shape (Access (Mem Its offset size (Some value))) = has_lpis shape && starts_queue (its_decoded offset size)
takes_commands shape operation = false

-- an actor names interrupts by its call as that begins; by a command of the ITS, which nobody knows before, once it has begun to read that
abbrev pub has_named : GuestShape → Doing → Bool
has_named shape doing = not (option_map_or (takes_commands shape) doing.operation false) || doing.fetched

-- an open call of another actor names it and has not done all for it: it has an event of it still to make
abbrev pub is_awaited : GuestShape → List Moment → Track → ℕ → Key → Bool
is_awaited shape later track vcpu key = list_any (λ actor. not (actor == vcpu) && (has_named shape (doing_of track actor) && is_to_come actor key later)) (range_with_len 0 (actor_count shape))

-- its last change was made in an open call
abbrev pub is_last_open : GuestShape → Track → ℕ → Key → Bool
is_last_open shape track vcpu key = option_map_or (is_open track vcpu) (changes_of shape track key).last false

-- The four clauses.

-- at an acknowledge: each home interrupt that is deliverable to the vCPU and before the first at its interface is excused: see is_excused
abbrev pub asks_first : IccReg → Option ℕ → Bool
asks_first Iar0 None = true
asks_first Iar1 None = true
asks_first Hppir0 None = true
asks_first Hppir1 None = true
asks_first reg write = false

abbrev pub comes_first : Ideal → ℕ → Key → Bool
comes_first state vcpu key =
    let irq = irq_at state.guest key in
    is_home state key && is_deliverable key irq vcpu (cpu_at state.guest vcpu) state.guest.shape
    && option_map_or (is_before (record { id = intid_of key; prio = irq.prio; group = irq.group })) (first_of (candidates_at (interface_at state vcpu))) true

abbrev pub is_excused : List Moment → Ideal → Track → ℕ → Key → Bool
is_excused later state track vcpu key = is_last_open state.guest.shape track vcpu key || is_awaited state.guest.shape later track vcpu key

abbrev pub keys_in : GuestShape → List Key
keys_in shape = map (key_at shape) (range_with_len 0 (interrupt_count shape))

-- (the moments are those that come after the access)
abbrev pub is_fresh_at_acknowledge : List Moment → Ideal → Track → Event → Bool
is_fresh_at_acknowledge later state track (Cpu vcpu reg write) =
    not (asks_first reg write) || list_all (λ key. not (comes_first state vcpu key) || is_excused later state track vcpu key) (keys_in state.guest.shape)
is_fresh_at_acknowledge later state track event = true

-- at the interface: at each access, each change of what stands there, since it got there, was made in an open call
abbrev pub is_fresh_at_interface : Ideal → Track → Event → Bool
is_fresh_at_interface state track (Cpu vcpu reg write) =
    list_all (λ standing. list_all (is_open track vcpu) (changes_of state.guest.shape track standing.key).since) (standing_at state vcpu)
is_fresh_at_interface state track event = true

-- at an end of interrupt, or a deactivation, that names a home interrupt active by the vCPU: its last change was made in an open call
abbrev pub ended_by : GuestShape → ℕ → IccReg → Option ℕ → Option Key
ended_by shape vcpu Eoir0 (Some value) = key_of (intid_written value) vcpu shape
ended_by shape vcpu Eoir1 (Some value) = key_of (intid_written value) vcpu shape
ended_by shape vcpu Dir (Some value) = key_of (intid_written value) vcpu shape
ended_by shape vcpu reg write = None

abbrev pub is_far_active : Ideal → ℕ → Key → Bool
is_far_active state vcpu key = is_home state key && is_number vcpu (irq_at state.guest key).act_by

abbrev pub is_fresh_at_end : Ideal → Track → Event → Bool
is_fresh_at_end state track (Cpu vcpu reg write) =
    option_map_or (λ key. not (is_far_active state vcpu key) || is_last_open state.guest.shape track vcpu key) (ended_by state.guest.shape vcpu reg write) true
is_fresh_at_end state track event = true

-- at a deactivation of one at the interface that is pending in its record alone: it leaves before the call ends, unless an open call changed it last there
abbrev pub last_since : Changes → Option Turn
last_since changes = fold (λ last turn. Some turn) None changes.since

abbrev pub is_late : Ideal → Track → ℕ → Key → Bool
is_late state track vcpu key =
    option_map_or (λ moved. moved.entry.active && not moved.entry.pending && is_pending moved.irq) (moved_at state vcpu key) false
    && not (option_map_or (is_open track vcpu) (last_since (changes_of state.guest.shape track key)) false)

abbrev pub left_behind : Ideal → Track → Event → List (ℕ × Key)
left_behind state track (Cpu vcpu reg write) =
    option_map_or (λ key. if is_late state track vcpu key then (vcpu, key) ∷ [] else [])
    (option_and_then (λ id. key_of id vcpu state.guest.shape) (deactivated_by reg write (cpu_at state.guest vcpu))) []
left_behind state track event = []

abbrev pub has_left_all : Track → ℕ → Bool
has_left_all track actor = not (list_any (λ pair. pair.0 == actor) track.leaving)

-- Along a history.

-- the interrupt that an event changes: one of a call, or one that leaves
abbrev pub changed_by : Event → Option Key
changed_by (Leave key vcpu) = Some key
changed_by event = key_in event

abbrev pub with_changes : GuestShape → Key → (Changes → Changes) → Track → Track
with_changes shape key change track = record track { changes = slice_set track.changes (place_of shape key) (change (changes_of shape track key)) }

-- after the changes that an event makes
abbrev pub after_changes : GuestShape → ℕ → Event → Track → Track
after_changes shape actor (Reach key vcpu) track = with_changes shape key (λ changes. record changes { since = [] }) track
after_changes shape actor event track =
    option_map_or
    (λ key. with_changes shape key (λ changes. record { last = Some (turn_of track actor); since = changes.since ++ turn_of track actor ∷ [] }) track)
    (changed_by event)
    track

-- who has the ITS reads a word of memory in which the next command stands
abbrev pub is_memory_at : ℕ → Place → Bool
is_memory_at index (Word (Ram other)) = other == index
is_memory_at index place = false

abbrev pub is_fetch : Ideal → ℕ → Event → Bool
is_fetch state actor (Read (Word (Ram index))) = is_number actor state.has_its && list_any (is_memory_at index) (command_places state.guest.shape (view_at state))
is_fetch state actor event = false

-- after what its actor did
abbrev pub after_doing : Ideal → ℕ → Event → Doing → Doing
after_doing state actor (Queue offset change) doing = record doing { number = doing.number + 1; done = []; fetched = false }
after_doing state actor event doing =
    record doing { done = option_map_or (λ key. doing.done ++ key ∷ []) (key_in event) doing.done; fetched = doing.fetched || is_fetch state actor event }

abbrev pub with_doing : ℕ → Doing → Track → Track
with_doing actor doing track = record track { doings = slice_set track.doings actor doing }

-- after who has to leave, or left
abbrev pub after_leaving : Ideal → Event → Track → Track
after_leaving state (Leave key vcpu) track = record track { leaving = filter (λ pair. not (pair.0 == vcpu && is_same_key pair.1 key)) track.leaving }
after_leaving state event track = record track { leaving = track.leaving ++ left_behind state track event }

-- after a moment, where the state before it is this
abbrev pub tracked : Ideal → Moment → Track → Track
tracked state (Begin actor operation) track =
    with_doing actor (record { operation = Some operation; number = (doing_of track actor).number + 1; done = []; fetched = false }) track
tracked state (Happens actor event found) track =
    let after = after_leaving state event (after_changes state.guest.shape actor event track) in
    with_doing actor (after_doing state actor event (doing_of track actor)) after
tracked state (End actor answer) track = with_doing actor (record (doing_of track actor) { operation = None }) track

abbrev pub after_moment : Ideal → Moment → Ideal
after_moment state (Happens actor event found) = happened actor event state
after_moment state moment = state

-- a clause of each event of a history, and of the end of each call
abbrev pub of_event : (Ideal → Track → Event → Bool) → Ideal → Track → Moment → Bool
of_event clause state track (Happens actor event found) = clause state track event
of_event clause state track moment = true

abbrev pub of_end : Ideal → Track → Moment → Bool
of_end state track (End actor answer) = has_left_all track actor
of_end state track moment = true

abbrev pub is_kept_from : (Ideal → Track → Moment → Bool) → Ideal → Track → List Moment → Bool
is_kept_from clause state track [] = true
is_kept_from clause state track (moment ∷ moments) =
    clause state track moment && is_kept_from clause (after_moment state moment) (tracked state moment track) moments

abbrev pub is_kept : (Ideal → Track → Moment → Bool) → IdealGuest → List Moment → Bool
is_kept clause guest moments = is_kept_from clause (opening guest) (opening_track guest.shape) moments

-- the first clause goes by what is still to come, so it is asked of each event with the rest of the history
abbrev pub is_acknowledged_from : Ideal → Track → List Moment → Bool
is_acknowledged_from state track [] = true
is_acknowledged_from state track (moment ∷ moments) =
    of_event (is_fresh_at_acknowledge moments) state track moment && is_acknowledged_from (after_moment state moment) (tracked state moment track) moments

abbrev pub is_acknowledged : IdealGuest → List Moment → Bool
is_acknowledged guest moments = is_acknowledged_from (opening guest) (opening_track guest.shape) moments

-- a history of a guest is fresh: how far its calls got is told by the history itself, so it is asked of one in which all calls ended
pub record IsFresh (guest : IdealGuest) (moments : List Moment) : Type 0 where
  pub acknowledge : IsTrue (is_acknowledged guest moments)
  pub interface : IsTrue (is_kept (of_event is_fresh_at_interface) guest moments)
  pub end : IsTrue (is_kept (of_event is_fresh_at_end) guest moments)
  pub deactivation : IsTrue (is_kept of_end guest moments)
