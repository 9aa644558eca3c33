-- When what a call made is the call, and when it can still become it, said of its own events alone: of calls that do not take the ITS and do not set EnableLPIs.
use Rattle.std.specs.Prelude.{◌≡◌, ◌↔◌, ℕ, ◌%◌, ◌^◌, ◌==◌, nat_lt, ◌&&◌, not, Bool, true, false, IsTrue, List, [], ◌++◌, map, All, Contains, Option, Some, None}
use Rattle.std.specs.List.{list_all, list_any}
use Rattle.history_calls.specs.Words.{GuestShape, Key, IccReg, Redist, Its, Icc, Mem, Msi, Irq, Route, Affinity, Target, has_interrupt, is_of_kind, is_routed_as, is_vcpu_or_none, IsRecordOf}
use Rattle.legal_lists.specs.GicImap.Map.{decoded as its_decoded}
use Rattle.legal_lists.specs.GicRmap.Map.{decoded as redist_decoded}
use Rattle.history_calls.specs.Calls.{Event, Up, Down, Enable, Cpu, Touch, Put, CtlrBegin, CtlrEnd, Found, Record, Operation, Access, Device, Residence, Happened, HandsOut, IsLastRead, Makes, Moment, Place, held_at, View, access_events, access_places, access_value, device_events, is_good_op, icc_events, named_of, read_answer, sets_lpis, takes_turn}
use Rattle.legal_lists.specs.GicCall.declared.event.Event.TheVariants.{Raise}
use Rattle.legal_lists.specs.GicCall.declared.event.Found.TheVariants.{Answer}
use Rattle.history_calls.specs.Histories.{IdealGuest, Call, vcpu_of, call_of, course_of, opening_course, IsEndedAs}
use Rattle.history_calls.specs.LegalLists.Legal.{IsBegun}
use Rattle.history_calls.specs.Found.{found_by, open_by}

-- the call neither takes the ITS nor sets EnableLPIs
abbrev pub is_plain : GuestShape → Operation → Bool
is_plain shape (Access (Mem (Redist vcpu) offset size write)) = not (sets_lpis shape (redist_decoded offset size) write)
is_plain shape (Access (Mem Its offset size write)) = not (takes_turn shape (its_decoded offset size) write)
is_plain shape (Device (Msi device event)) = false
is_plain shape operation = true

-- the actor is one that does so: a vCPU, or a device
abbrev pub is_doer : GuestShape → ℕ → Operation → Bool
is_doer shape actor (Device op) = not (nat_lt actor shape.vcpus)
is_doer shape actor operation = nat_lt actor shape.vcpus

-- an access is one that the guest can do
abbrev pub is_good : GuestShape → Operation → Bool
is_good shape (Access op) = is_good_op shape op
is_good shape operation = true

-- a route that fits its field
abbrev pub fits_route : GuestShape → Route → Bool
fits_route shape (Affinity affinity) = nat_lt affinity (2 ^ 32)
fits_route shape (Target target) = is_vcpu_or_none shape target

-- a record is one that the interrupt can have
abbrev pub is_record : GuestShape → Key → Irq → Bool
is_record shape key irq =
    irq.prio % 8 == 0 && (nat_lt irq.prio 256 && (is_vcpu_or_none shape irq.act_by && (is_vcpu_or_none shape irq.holder && (fits_route shape irq.route && (is_routed_as shape key irq.route && is_of_kind key irq)))))

-- each touch of a piece found such a record, as those of histories do
abbrev pub finds_record : GuestShape → Event → Found → Bool
finds_record shape (Touch key touching) (Record irq) = is_record shape key irq
finds_record shape event found = true

abbrev pub are_records : GuestShape → List Happened → Bool
are_records shape piece = list_all (λ happened. finds_record shape happened.event happened.found) piece

-- each interrupt is found with a record that it can have
abbrev pub HasRecords : GuestShape → List Happened → Type 0
HasRecords shape piece = (key : Key) → IsTrue (has_interrupt shape key) → IsRecordOf shape key ((found_by piece).irqs key)

-- the events of such a call, in order, where the guest is as in a view
abbrev pub events_by : GuestShape → ℕ → View → Operation → List Event
events_by shape actor view (Access (Icc reg write)) = icc_events shape actor reg write
events_by shape actor view (Access (Mem frame offset size write)) = access_events shape view frame offset size write
events_by shape actor view (Device op) = device_events view op
events_by shape actor view Residence = []

-- events of that kind
abbrev pub is_told : Event → Bool
is_told (Raise key) = true
is_told (Up key) = true
is_told (Down key) = true
is_told (Cpu vcpu reg write) = true
is_told (Touch key touching) = true
is_told (Put word value) = true
is_told (CtlrBegin enables) = true
is_told CtlrEnd = true
is_told event = false

-- the places that it reads
abbrev pub places_by : GuestShape → View → Operation → List Place
places_by shape view (Access (Mem frame offset size write)) = access_places shape view frame offset size write
places_by shape view operation = []

-- an access of a CPU interface register that read this
abbrev pub access_read : ℕ → IccReg → Option ℕ → Option ℕ → Happened
access_read actor reg write answer = record { event = Cpu actor reg write; found = Answer answer }

-- what it answers
abbrev pub Answers : GuestShape → ℕ → View → Operation → List Happened → Option ℕ → Type 0
Answers shape actor view (Access (Icc reg write)) piece answer = Contains piece (access_read actor reg write answer)
Answers shape actor view (Access (Mem frame offset size write)) piece answer = answer ≡ read_answer write (access_value shape view frame offset size)
Answers shape actor view operation piece answer = answer ≡ None

-- the named events are those, and hand out what the view has
pub record IsWholeBy (shape : GuestShape) (actor : ℕ) (view : View) (operation : Operation) (piece : List Happened) : Type 0 where
  pub events_are : map (λ happened. happened.event) (named_of (vcpu_of shape actor) piece) ≡ events_by shape actor view operation
  pub found : All (λ happened. HandsOut view happened.event happened.found) (named_of (vcpu_of shape actor) piece)

-- the places were read, the last time as the view has them
abbrev pub AreReadBy : GuestShape → View → Operation → List Happened → Type 0
AreReadBy shape view operation piece = All (λ place. IsLastRead place (held_at view place) piece) (places_by shape view operation)

-- the named events are those, and hand out what the view has; the places were read, the last time as it has them; and so is the answer
pub record IsMade (shape : GuestShape) (actor : ℕ) (view : View) (operation : Operation) (piece : List Happened) (answer : Option ℕ) : Type 0 where
  pub made : Makes (vcpu_of shape actor) view (events_by shape actor view operation) (places_by shape view operation) [] piece
  pub answers : Answers shape actor view operation piece answer

-- the named events are the first of those, and hand out what the view has
pub record IsFirst (shape : GuestShape) (actor : ℕ) (view : View) (operation : Operation) (piece : List Happened) : Type 0 where
  pub rest : List Event
  pub events_are : map (λ happened. happened.event) (named_of (vcpu_of shape actor) piece) ++ rest ≡ events_by shape actor view operation
  pub found : All (λ happened. HandsOut view happened.event happened.found) (named_of (vcpu_of shape actor) piece)

-- What a course notes of each call.

abbrev pub is_enable : Event → Bool
is_enable (Enable vcpu) = true
is_enable event = false

-- each LPI was for some vCPU or none while the call went on, and it has come to no LPI of a pending table before it stored EnableLPIs
pub record IsOpen (call : Call) : Type 0 where
  pub seen : (id : ℕ) → (other : Option ℕ) × Contains (call.targets id) other
  pub place : list_any (λ happened. is_enable happened.event) call.piece ≡ false → call.place ≡ None

-- so it is of each open call after moments of a guest
abbrev pub CallsAreOpen : Type 0
CallsAreOpen = (guest : IdealGuest) (moments : List Moment) (actor : ℕ) (call : Call) → call_of (course_of (opening_course guest) moments) actor ≡ Some call → IsOpen call

-- a call of a course that is for this, and made this so far
pub record IsCallOf (operation : Operation) (piece : List Happened) (call : Call) : Type 0 where
  pub operation_is : call.operation ≡ operation
  pub piece_is : call.piece ≡ piece
  pub opened : IsOpen call

-- The law.

-- such a call is over exactly where it is made so by the view that its events found; and it can still become the call exactly where its named events are the
-- first ones of those; whatever it signalled, which counts for a message-signalled interrupt alone
pub record IsExact (shape : GuestShape) (actor : ℕ) (call : Call) : Type 0 where
  pub ended : (signals : Bool) (answer : Option ℕ) → IsEndedAs signals shape actor call answer ↔ IsMade shape actor (found_by call.piece) call.operation call.piece answer
  pub begun : (signals : Bool) → IsBegun signals shape actor call ↔ IsFirst shape actor (open_by call.piece) call.operation call.piece

abbrev pub PlainCallsAreExact : Type 0
PlainCallsAreExact =
    (shape : GuestShape) (actor : ℕ) (call : Call) → IsTrue (is_plain shape call.operation) → IsTrue (is_doer shape actor call.operation) → IsOpen call → IsExact shape actor call
