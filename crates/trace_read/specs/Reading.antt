-- The trace that a JSON value is, or its fault (own choice).
use Rattle.std.specs.Prelude.{◌≡◌, ◌≤◌, ℕ, All, ◌+◌, ◌*◌, ◌&&◌, not, true, List, [], ◌∷◌, length, map, nat_le, nat_lt, Bool, is_some, unwrap_or, option_map, option_and_then, find, Option, Some, None, Result, Ok, Err, if◌then◌else◌, codes}
use Rattle.std.specs.Option.{option_map_or, option_zip}
use Rattle.std.specs.Str.{bytes_eq}
use Rattle.serde_json.specs.Data.{Data, null}
use Rattle.serde_json.specs.Find.{get, as_str}
use Rattle.scn_read.specs.JsonField.Field.{has_only, number_of, list_at, elements_at}
use Rattle.scn_read.specs.ScnBase.Codes.{shape_code, limit_code, unknown_register_code, unknown_actor_code, address_code, first_code, first_met, ok_unless}
use Rattle.scn_read.specs.ScnBase.Words.{GuestShape, Actor, Vcpu, Device, Key, has_interrupt}
use Rattle.scn_read.specs.ScnBase.declared.fault.Fault.{Fault}
use Rattle.scn_read.specs.GicGuest.Good.{is_usable}
use Rattle.scn_read.specs.GicGuest.declared.guest.GuestSpec.{GuestSpec}
use Rattle.scn_read.specs.Guest.{guest_fault, guest_of}
use Rattle.scn_read.specs.Narrow.{narrowed}
use Rattle.scn_read.specs.Reading.{step_and_rest}
use Rattle.trace_read.specs.declared.trace.Trace.{Trace}
use Rattle.trace_read.specs.declared.trace.TraceEvent.{TraceEvent}
use Rattle.trace_read.specs.declared.trace.Act.{Act}
use Rattle.trace_read.specs.declared.trace.Act.TheVariants.{Begin, End, Reach, Take, Leave, Raise, Up, Down, Cpu, Touch, Enable, Read, Put, CtlrBegin, CtlrEnd, ItsBegin, ItsEnd, Queue}
use Rattle.trace_read.specs.declared.place.Place.{Place}
use Rattle.trace_read.specs.declared.place.Place.TheVariants.{Ram, Propbaser, Pendbaser, Lpis}
use Rattle.trace_read.specs.declared.field.ActField.{ActField}
use Rattle.trace_read.specs.Part.{two_in}
use Rattle.trace_read.specs.Call.{call_fault}
use Rattle.trace_read.specs.Act.{act_fields, field_name, act_in}

-- ---- events

-- a vCPU or a device of the one guest, by its number
abbrev pub actor_numbered : List ℕ → ℕ → Option Actor
actor_numbered kind number =
    if bytes_eq kind (codes "v") then Some (Vcpu 0 (narrowed number)) else (if bytes_eq kind (codes "d") then Some (Device 0 (narrowed number)) else None)

abbrev pub actor_in : Data × Data → Option Actor
actor_in parts = option_and_then (λ (x : List ℕ × ℕ). actor_numbered x.0 x.1) (option_zip (as_str parts.0) (number_of parts.1))

-- who acts
abbrev pub actor_at : Data → Option Actor
actor_at d = option_and_then actor_in (option_and_then two_in (list_at (codes "by") d))

-- the field that says what happens: the first, where there are two; then there is a field that may not be there
abbrev pub field_of : Data → Option ActField
field_of d = find (λ field. is_some (get (field_name field) d)) act_fields

abbrev pub event_with : Actor → Result Act ℕ → Result TraceEvent ℕ
event_with by (Ok act) = Ok (record { by = by; act = act })
event_with by (Err code) = Err code

-- an event of these has no other field
abbrev pub event_by : Option Actor → Option ActField → Data → Result TraceEvent ℕ
event_by None field d = Err shape_code
event_by (Some by) None d = Err shape_code
event_by (Some by) (Some field) d =
    if has_only (codes "by" ∷ field_name field ∷ []) d then event_with by (act_in by field (unwrap_or (get (field_name field) d) null)) else Err shape_code

-- what an event says, or the code of what it does not say
abbrev pub event_said : Data → Result TraceEvent ℕ
event_said d = event_by (actor_at d) (field_of d) d

-- ---- what the guest has

abbrev pub has_actor : GuestShape → Actor → Bool
has_actor shape (Vcpu guest vcpu) = nat_lt vcpu shape.vcpus
has_actor shape (Device guest device) = nat_lt device shape.devices

-- the code of an interrupt, and of a vCPU, that is not there
abbrev pub key_fault : GuestShape → Key → Option ℕ
key_fault shape key = first_met ((not (has_interrupt shape key), unknown_actor_code) ∷ [])

abbrev pub vcpu_fault : GuestShape → ℕ → Option ℕ
vcpu_fault shape vcpu = first_met ((not (nat_lt vcpu shape.vcpus), unknown_actor_code) ∷ [])

-- a word of eight bytes lies in the memory
abbrev pub place_fault : GuestShape → Place → Option ℕ
place_fault shape (Ram index) = first_met ((not (nat_lt (8 * index) shape.ram), address_code) ∷ [])
place_fault shape (Propbaser vcpu) = vcpu_fault shape vcpu
place_fault shape (Pendbaser vcpu) = vcpu_fault shape vcpu
place_fault shape (Lpis vcpu) = vcpu_fault shape vcpu
place_fault shape place = None

-- the code of something that cannot be of this guest
abbrev pub act_fault : GuestShape → Act → Option ℕ
act_fault shape (Begin call) = call_fault shape call
act_fault shape (Reach key) = key_fault shape key
act_fault shape (Take key) = key_fault shape key
act_fault shape (Leave key) = key_fault shape key
act_fault shape (Raise key) = key_fault shape key
act_fault shape (Up key) = key_fault shape key
act_fault shape (Down key) = key_fault shape key
act_fault shape (Cpu reg write answer) = first_met ((not (is_usable reg write), unknown_register_code) ∷ [])
act_fault shape (Touch key what answer) = key_fault shape key
act_fault shape (Read place value) = place_fault shape place
act_fault shape (Put place value) = place_fault shape place
act_fault shape act = None

abbrev pub event_fault : GuestShape → TraceEvent → Option ℕ
event_fault shape event = first_code (first_met ((not (has_actor shape event.by), unknown_actor_code) ∷ [])) (act_fault shape event.act)

-- what events are of is there: each is of an actor, an interrupt, a register, a place and an address that the guest has
abbrev pub AreThere : GuestShape → List TraceEvent → Type 0
AreThere shape events = All (λ event. event_fault shape event ≡ None) events

-- an event that can be said is judged by its guest
abbrev pub judged : GuestShape → Result TraceEvent ℕ → Result TraceEvent ℕ
judged shape (Ok event) = ok_unless (event_fault shape event) event
judged shape (Err code) = Err code

abbrev pub event_of : GuestShape → Data → Result TraceEvent ℕ
event_of shape d = judged shape (event_said d)

-- ---- the trace

abbrev pub trace_fields : List (List ℕ)
trace_fields = codes "guest" ∷ codes "events" ∷ []

-- the fault of a trace's own fields
abbrev pub own_fault : Data → Option ℕ
own_fault d =
    first_met
    ((not (has_only trace_fields d && is_some (get (codes "guest") d) && is_some (list_at (codes "events") d)), shape_code)
    ∷ (not (nat_le (length (elements_at (codes "events") d)) 100000), limit_code)
    ∷ [])

-- the first fault of all that stands outside of the events
abbrev pub outside_fault : Data → Option ℕ
outside_fault d = first_code (own_fault d) (option_and_then guest_fault (get (codes "guest") d))

-- the guest, where there is one without a fault
abbrev pub guest_at : Data → GuestSpec
guest_at d = guest_of (unwrap_or (get (codes "guest") d) null)

-- the events, the first of which has this number, or the first fault of them
abbrev pub events_of : GuestShape → ℕ → List Data → Result (List TraceEvent) Fault
events_of shape number [] = Ok []
events_of shape number (d ∷ ds) = step_and_rest number (event_of shape d) (λ event. events_of shape (number + 1) ds)

abbrev pub trace_or_fault : GuestSpec → Result (List TraceEvent) Fault → Result Trace Fault
trace_or_fault guest (Ok events) = Ok (record { guest = guest; events = events })
trace_or_fault guest (Err fault) = Err fault

abbrev pub reading_inside : Option ℕ → Data → Result Trace Fault
reading_inside (Some code) d = Err (record { code = code; step = 0 })
reading_inside None d = trace_or_fault (guest_at d) (events_of (guest_at d).shape 1 (elements_at (codes "events") d))

-- the trace that a value is, or its fault: the first by event, where 0 is the number of all that stands outside of them, and then the least code
abbrev pub reading : Data → Result Trace Fault
reading d = reading_inside (outside_fault d) d

-- the events of a trace whose own fields have no fault
pub record AreEvents (d : Data) (events : List Data) : Type 0 where
  pub own : own_fault d ≡ None
  pub guest : is_some (get (codes "guest") d) ≡ true
  pub are : events ≡ elements_at (codes "events") d
  pub few : length events ≤ 100000

-- the guest that stands in a field, or its fault; where there is none, that is a fault of shape
abbrev pub guest_said : Option Data → Result GuestSpec ℕ
guest_said None = Err shape_code
guest_said (Some d) = ok_unless (guest_fault d) (guest_of d)
