-- Writes that set EnableLPIs: when what one made is the call, and when it can still become it, said of its own events and of what it noted.
use Rattle.std.specs.Prelude.{◌≡◌, ℕ, ◌+◌, ◌*◌, ◌==◌, ◌&&◌, ◌||◌, not, nat_lt, Bool, true, false, IsTrue, List, [], ◌∷◌, map, fold, All, Option, Some, None, if◌then◌else◌}
use Rattle.std.specs.List.{list_all, list_any, filter_map, range_with_len}
use Rattle.history_turns.specs.Words.{GuestShape, Lpi, SetPending}
use Rattle.history_turns.specs.Calls.{Event, Enable, Touch, Register, Found, Happened, View, Place, Pendbaser, Makes, HandsOut, IsLastRead, held_at, named_of, is_in_table, is_table_zero, pended_events, table_places}
use Rattle.history_turns.specs.GicCall.declared.event.Found.TheVariants.{Lpis as FoundLpis}
use Rattle.history_turns.specs.HistoryCalls.Found.{found_by, touches}
use Rattle.history_turns.specs.Noted.{NotedOf, seen_at}
use Rattle.history_turns.specs.Walked.{from_named, is_idle}

-- What is made after EnableLPIs is stored.

-- an LPI is touched
abbrev pub is_touched : List Happened → ℕ → Bool
is_touched piece id = list_any (λ happened. touches (Lpi id) happened.event) piece

-- the guest as these events find it, where EnableLPIs was 1 before them or not: an LPI that they touch is for the vCPU
abbrev pub rising_by : Bool → ℕ → List Happened → View
rising_by is_on vcpu piece = record (found_by piece) { lpis = λ other. is_on; targets = λ id. if is_touched piece id then Some vcpu else None }

-- nothing rises: EnableLPIs was 1 before, or the pending table has only zeros
abbrev pub stays : Bool → ℕ → List Happened → Bool
stays is_on vcpu piece = is_on || is_table_zero ((found_by piece).words (Pendbaser vcpu))

-- a place was read, the last time as a view has it
abbrev pub IsReadSo : View → List Happened → Place → Type 0
IsReadSo view piece place = IsLastRead place (held_at view place) piece

abbrev pub rising_places : GuestShape → Bool → ℕ → List Happened → List Place
rising_places shape is_on vcpu piece = if is_on then [] else table_places shape (rising_by is_on vcpu piece) vcpu

-- an LPI that is touched was for the vCPU; one that is not, and has its bit in the pending table, was for another or for none
abbrev pub is_settled : GuestShape → Bool → ℕ → NotedOf → List Happened → ℕ → Bool
is_settled shape is_on vcpu noted piece number =
    if is_touched piece (8192 + number) then (seen_at noted number).is_own
    else (not (is_in_table shape (rising_by is_on vcpu piece) vcpu (8192 + number)) || (seen_at noted number).is_other)

abbrev pub are_settled : GuestShape → Bool → ℕ → NotedOf → List Happened → Bool
are_settled shape is_on vcpu noted piece = stays is_on vcpu piece || list_all (is_settled shape is_on vcpu noted piece) (range_with_len 0 shape.lpis)

-- the named events of a piece are these, and hand out what a view has
pub record IsMadeOf (actor : Option ℕ) (view : View) (events : List Event) (piece : List Happened) : Type 0 where
  pub events_are : map (λ happened. happened.event) (named_of actor piece) ≡ events
  pub found : All (λ happened. HandsOut view happened.event happened.found) (named_of actor piece)

-- these events are what follows, and the LPIs were for vCPUs so
pub record IsRisen (shape : GuestShape) (actor vcpu : ℕ) (noted : NotedOf) (is_on : Bool) (piece : List Happened) : Type 0 where
  pub made : Makes (Some actor) (rising_by is_on vcpu piece) (pended_events shape (rising_by is_on vcpu piece) vcpu) (rising_places shape is_on vcpu piece) [] piece
  pub settled : IsTrue (are_settled shape is_on vcpu noted piece)

-- The call.

-- EnableLPIs of a vCPU is stored: whether it was 1 before
abbrev pub stored_in : ℕ → Event → Found → Option Bool
stored_in vcpu (Enable other) (FoundLpis is_on) = if other == vcpu then Some is_on else None
stored_in vcpu event found = None

abbrev pub RisesFrom : GuestShape → ℕ → ℕ → NotedOf → List Happened → Type 0
RisesFrom shape actor vcpu noted [] = ⊥
RisesFrom shape actor vcpu noted (happened ∷ piece) = (is_on : Bool) × (stored_in vcpu happened.event happened.found ≡ Some is_on) × IsRisen shape actor vcpu noted is_on piece

-- EnableLPIs is stored first
abbrev pub Rises : GuestShape → ℕ → ℕ → NotedOf → List Happened → Type 0
Rises shape actor vcpu noted piece = RisesFrom shape actor vcpu noted (from_named (Some actor) piece)

-- What may still become it.

-- the LPI of the pending table to which events come
abbrev pub coming_to : ℕ → Event → ℕ
coming_to here (Enable vcpu) = 0
coming_to here (Touch (Lpi id) touching) = id
coming_to here event = here

abbrev pub place_after : List Happened → ℕ
place_after piece = fold (λ here happened. coming_to here happened.event) 0 piece

-- the touches of the LPIs that are touched, in rising order
abbrev pub touch_in : List Happened → ℕ → Option Event
touch_in piece number = if is_touched piece (8192 + number) then Some (Touch (Lpi (8192 + number)) (Register SetPending 1)) else None

abbrev pub touched_events : GuestShape → List Happened → List Event
touched_events shape piece = filter_map (touch_in piece) (range_with_len 0 shape.lpis)

-- an LPI that is touched has its bit in memory where the table may be, and was for the vCPU as the call came past it, if it did
abbrev pub may_be_touched : GuestShape → NotedOf → List Happened → ℕ → Bool
may_be_touched shape noted piece number =
    not (is_touched piece (8192 + number)) || (nat_lt (8192 + number) (8 * shape.ram) && ((seen_at noted number).is_own || not (nat_lt (8192 + number) (place_after piece))))

pub record IsRising (shape : GuestShape) (actor : ℕ) (noted : NotedOf) (piece : List Happened) : Type 0 where
  pub made : IsMadeOf (Some actor) (found_by piece) (touched_events shape piece) piece
  pub may : IsTrue (list_all (may_be_touched shape noted piece) (range_with_len 0 shape.lpis))

abbrev pub MayRiseFrom : GuestShape → ℕ → NotedOf → Bool → List Happened → Type 0
MayRiseFrom shape actor noted true piece = IsTrue (is_idle (Some actor) piece)
MayRiseFrom shape actor noted false piece = IsRising shape actor noted piece

abbrev pub IsRisingFrom : GuestShape → ℕ → ℕ → NotedOf → List Happened → Type 0
IsRisingFrom shape actor vcpu noted [] = Unit {0}
IsRisingFrom shape actor vcpu noted (happened ∷ piece) = (is_on : Bool) × (stored_in vcpu happened.event happened.found ≡ Some is_on) × MayRiseFrom shape actor noted is_on piece

abbrev pub MayRise : GuestShape → ℕ → ℕ → NotedOf → List Happened → Type 0
MayRise shape actor vcpu noted piece = IsRisingFrom shape actor vcpu noted (from_named (Some actor) piece)
