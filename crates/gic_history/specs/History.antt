-- Histories: what the actors of a guest do from its opening on, one event after the other.
use Rattle.std.specs.Prelude.{◌≡◌, ℕ, ◌+◌, ◌==◌, ◌<◌, ◌&&◌, ◌||◌, not, nat_lt, Bool, true, false, IsTrue, List, [], ◌∷◌, ◌++◌, map, replicate, fold, All, Contains, Option, option_map, Some, None, is_none, is_some, unwrap_or, slice_index_or, slice_set, if◌then◌else◌}
use Rattle.std.specs.Option.{option_map_or}
use Rattle.ideal_guest.specs.Words.{Key, Lpi, GuestShape, Msi, is_number}
use Rattle.ideal_guest.specs.Calls.{Event, Enable, Touch, ItsBegin, Runs, Found, Moment, Begin, Happens, Operation, Device, Touching, MapLpi, Happened, Beside, IsCall, CanHappen, is_its_enabled}
use Rattle.ideal_guest.specs.declared.guest.IdealGuest.{IdealGuest}
use Rattle.ideal_guest.specs.GicCall.declared.event.Event.TheVariants.{Raise, Queue}
use Rattle.ideal_guest.specs.GicCall.declared.event.Moment.TheVariants.{End}
use Rattle.ideal_guest.specs.GicCall.declared.touch.Touching.TheVariants.{Retarget, Configure, Forget}
use Rattle.ideal_guest.specs.Registers.{Maps, translated}
use Rattle.gic_history.specs.State.{Ideal, opening, view_at}
use Rattle.gic_history.specs.Moves.{is_allowed, handed_out, happened}

-- a call in progress: what it is for, its events so far, and the maps of the ITS as it took that; for which vCPU each LPI was as each of its commands
-- began, the first as it took the ITS; for which vCPUs each was at the moments of the call, and once it stored EnableLPIs at those since the LPI before
-- it, up to which it has come
pub record Call : Type 0 where
  pub operation : Operation
  pub piece : List Happened
  pub maps : Maps
  pub commands : List (ℕ → Option ℕ)
  pub targets : ℕ → List (Option ℕ)
  pub place : Option ℕ

-- the guest, the call of each actor, if it is in one, and whether a message-signalled interrupt has raised in its call, at some event of it, the LPI that
-- it signals there
pub record Course : Type 0 where
  pub ideal : Ideal
  pub calls : List (Option Call)
  pub signals : ℕ → Bool

-- how many actors a guest has: the vCPUs come first, and then the devices
abbrev pub actor_count : GuestShape → ℕ
actor_count shape = shape.vcpus + shape.devices

-- the vCPU that an actor is, if it is one
abbrev pub vcpu_of : GuestShape → ℕ → Option ℕ
vcpu_of shape actor = if nat_lt actor shape.vcpus then Some actor else None

abbrev pub opening_course : IdealGuest → Course
opening_course guest = record { ideal = opening guest; calls = replicate (actor_count guest.shape) None; signals = λ actor. false }

abbrev pub call_of : Course → ℕ → Option Call
call_of course actor = slice_index_or course.calls actor None

abbrev pub targets_in : Ideal → ℕ → Option ℕ
targets_in ideal = (view_at ideal).targets

-- a call as it begins
abbrev pub begun : Ideal → Operation → Call
begun ideal operation =
    record {
      operation = operation;
      piece = [];
      maps = record { devices = []; events = []; collections = [] };
      commands = [];
      targets = λ id. targets_in ideal id ∷ [];
      place = None;
    }

-- the LPI that a key is, if it is one
abbrev pub lpi_in : Key → Option ℕ
lpi_in (Lpi id) = Some id
lpi_in key = None

-- the call comes to an LPI of the pending table: what is still to come counts from here
abbrev pub is_ahead : Option ℕ → Key → ℕ → Bool
is_ahead place key id = is_some place && option_map_or (λ here. nat_lt here id) (lpi_in key) false

abbrev pub come_to : Option ℕ → Key → Option ℕ
come_to place key = option_map (λ before. unwrap_or (lpi_in key) before) place

-- what a call notes at its own events: the maps as it takes the ITS; where each command begins, as it takes the ITS and as the command before ends; from
-- where EnableLPIs is stored, each LPI of the pending table
abbrev pub noted : Ideal → Event → Call → Call
noted ideal ItsBegin call = record call { maps = ideal.guest.tables; commands = call.commands ++ targets_in ideal ∷ [] }
noted ideal (Enable vcpu) call = record call { targets = λ id. []; place = Some 0 }
noted ideal (Touch key touching) call = record call { targets = λ id. if is_ahead call.place key id then [] else call.targets id; place = come_to call.place key }
noted ideal (Queue offset Runs) call = call
noted ideal (Queue offset change) call = record call { commands = call.commands ++ targets_in ideal ∷ [] }
noted ideal event call = call

abbrev pub made : Ideal → Event → Found → Call → Call
made ideal event found call = let call' = noted ideal event call in record call' { piece = call'.piece ++ (record { event = event; found = found }) ∷ [] }

-- what it notes at each event: for which vCPU each LPI is that it has not passed
abbrev pub is_passed : Option ℕ → ℕ → Bool
is_passed place id = option_map_or (λ here. nat_lt id here) place false

abbrev pub seeing : Ideal → Call → Call
seeing ideal call = record call { targets = λ id. if is_passed call.place id then call.targets id else call.targets id ++ targets_in ideal id ∷ [] }

-- what a command of the ITS does to an LPI before the maps follow: it maps or forgets it, moves it, or takes its configuration over
abbrev pub changes_lpi : Touching → Bool
changes_lpi (MapLpi target enabled prio) = true
changes_lpi (Retarget target) = true
changes_lpi (Configure enabled prio) = true
changes_lpi Forget = true
changes_lpi touching = false

-- a call that has the ITS is midway in a command: it has changed an LPI since it took the ITS, or since the queue went on
abbrev pub midway_after : Bool → Event → Bool
midway_after before ItsBegin = false
midway_after before (Queue offset change) = false
midway_after before (Touch key touching) = before || changes_lpi touching
midway_after before event = before

abbrev pub is_midway : List Happened → Bool
is_midway piece = fold midway_after false (map (λ happened. happened.event) piece)

-- the actor that has the ITS, if one has it, is midway in a command
abbrev pub has_midway : Course → Bool
has_midway course = option_map_or (λ actor. option_map_or (λ call. is_midway call.piece) (call_of course actor) false) course.ideal.has_its false

-- the LPI that a message-signalled interrupt signals, by the maps and GITS_CTLR as the guest has them, if the operation is one and it signals one
abbrev pub signalled_by : Ideal → Operation → Option ℕ
signalled_by ideal (Device (Msi device event)) = translated ideal.guest.tables (is_its_enabled (view_at ideal)) device event
signalled_by ideal operation = None

-- an event raises the LPI that the operation signals, and no command is midway: the one that changes the maps of it has ended, or has changed no LPI (own
-- choice)
abbrev pub is_signal : Course → Operation → Event → Bool
is_signal course operation (Raise (Lpi id)) = is_number id (signalled_by course.ideal operation) && not (has_midway course)
is_signal course operation event = false

-- whether an actor has raised what it signals, once it made an event
abbrev pub signals_after : Course → ℕ → Event → Bool
signals_after course actor event = course.signals actor || option_map_or (λ call. is_signal course call.operation event) (call_of course actor) false

abbrev pub with_signal : Course → ℕ → Bool → ℕ → Bool
with_signal course actor signals other = if other == actor then signals else course.signals other

-- the course after a moment
abbrev pub gone_on : Course → Moment → Course
gone_on course (Begin actor operation) = record course { calls = slice_set course.calls actor (Some (begun course.ideal operation)); signals = with_signal course actor false }
gone_on course (Happens actor event found) =
    let ideal = happened actor event course.ideal in
    record {
      ideal = ideal;
      calls = map (option_map (seeing ideal)) (slice_set course.calls actor (option_map (made course.ideal event found) (call_of course actor)));
      signals = with_signal course actor (signals_after course actor event);
    }
gone_on course (End actor answer) = record course { calls = slice_set course.calls actor None; signals = with_signal course actor false }

abbrev pub course_of : Course → List Moment → Course
course_of course moments = fold gone_on course moments

-- what an actor's call has made is the call, with this answer: of an ITS with the maps as the call took it; of LPIs each of which was for this vCPU as the
-- command began, and of an access at some moment of the call, of EnableLPIs at some moment between the events round its own place (own choice); and with a
-- lone raise only where that was a signal
pub record IsEndedAs (signals : Bool) (shape : GuestShape) (actor : ℕ) (call : Call) (answer : Option ℕ) : Type 0 where
  pub beside : Beside
  pub maps : beside.maps ≡ call.maps
  pub commands : beside.commands ≡ call.commands
  pub targets : (id : ℕ) → Contains (call.targets id) (beside.targets id)
  pub right : IsTrue beside.signals → IsTrue signals
  pub is_call : IsCall shape beside (vcpu_of shape actor) call.operation call.piece answer

-- and without one
abbrev pub IsEnded : GuestShape → ℕ → Call → Option ℕ → Type 0
IsEnded shape actor call answer = IsEndedAs false shape actor call answer

abbrev pub IsCallEnded : Bool → GuestShape → ℕ → Option Call → Option ℕ → Type 0
IsCallEnded signals shape actor None answer = ⊥
IsCallEnded signals shape actor (Some call) answer = IsEndedAs signals shape actor call answer

-- an event that may happen, in a call of its actor's, and hands out what is there
pub record IsHappening (course : Course) (actor : ℕ) (event : Event) (found : Found) : Type 0 where
  pub within : IsTrue (is_some (call_of course actor))
  pub can : CanHappen course.ideal.guest.shape event
  pub allowed : IsTrue (is_allowed course.ideal actor event)
  pub hands : found ≡ handed_out course.ideal event

-- a moment goes on with a course
abbrev pub IsNext : Course → Moment → Type 0
IsNext course (Begin actor operation) = (actor < actor_count course.ideal.guest.shape) × IsTrue (is_none (call_of course actor))
IsNext course (Happens actor event found) = IsHappening course actor event found
IsNext course (End actor answer) = IsCallEnded (course.signals actor) course.ideal.guest.shape actor (call_of course actor) answer

abbrev pub GoesOn : Course → List Moment → Type 0
GoesOn course [] = Unit {0}
GoesOn course (moment ∷ moments) = IsNext course moment × GoesOn (gone_on course moment) moments

-- a history of a guest from its opening
abbrev pub IsHistory : IdealGuest → List Moment → Type 0
IsHistory guest moments = GoesOn (opening_course guest) moments

-- its last state
abbrev pub last_of : IdealGuest → List Moment → Ideal
last_of guest moments = (course_of (opening_course guest) moments).ideal

-- all calls ended
abbrev pub IsWhole : IdealGuest → List Moment → Type 0
IsWhole guest moments = All (λ call. IsTrue (is_none call)) (course_of (opening_course guest) moments).calls
