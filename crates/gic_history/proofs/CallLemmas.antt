-- Calls of one event end as their definitions say.
use Rattle.std.proofs.Common.{ℕ, Bool, true, false, IsTrue, List, [], ◌∷◌, ◌++◌, refl, arith, All, Contains, Option, None, slice_index_or}
use Rattle.std.proofs.lemmas.List.Elements.{All-nil, All-cons}
use Rattle.ideal_guest.specs.Words.{GuestShape}
use Rattle.ideal_guest.specs.Calls.{Event, Found, Happened, Beside, HandsOut, IsCall, View, Moment}
use Rattle.gic_history.specs.History.{Call, Course, GoesOn, IsEnded, IsEndedAs, vcpu_of, gone_on, course_of}

abbrev pub is_some_window : List (Option ℕ) → Bool
is_some_window [] = false
is_some_window (x ∷ xs) = true

abbrev is_first : List (ℕ → Option ℕ) → Bool
is_first [] = true
is_first (x ∷ xs) = false

-- the vCPUs that LPIs were for as a call began
abbrev pub first_targets : Call → ℕ → Option ℕ
first_targets call id = slice_index_or (call.targets id) 0 None

abbrev pub beside_with : Bool → Call → Beside
beside_with signals call = record { maps = call.maps; targets = first_targets call; commands = call.commands; signals = signals }

abbrev pub beside_of : Call → Beside
beside_of call = beside_with false call

pub head_in : (window : List (Option ℕ)) → IsTrue (is_some_window window) → Contains window (slice_index_or window 0 None)
head_in [] h = absurd (cc)
head_in (x ∷ xs) h = (0, omega arith, refl)

-- a call that does not take the ITS
pub call_ended : (shape : GuestShape) (actor : ℕ) (call : Call) (answer : Option ℕ) → IsTrue (is_first call.commands) → ((id : ℕ) → IsTrue (is_some_window (call.targets id))) → IsCall shape (beside_of call) (vcpu_of shape actor) call.operation call.piece answer → IsEnded shape actor call answer
call_ended shape actor call answer free window is = record { beside = beside_of call; maps = refl; commands = refl; targets = λ id. head_in (call.targets id) (window id); right = λ h. h; is_call = is }

-- and one with a lone raise that was a signal
pub call_signalled : (shape : GuestShape) (actor : ℕ) (call : Call) (answer : Option ℕ) → ((id : ℕ) → IsTrue (is_some_window (call.targets id))) → IsCall shape (beside_with true call) (vcpu_of shape actor) call.operation call.piece answer → IsEndedAs true shape actor call answer
call_signalled shape actor call answer window is = record { beside = beside_with true call; maps = refl; commands = refl; targets = λ id. head_in (call.targets id) (window id); right = λ h. refl; is_call = is }

-- what is a call without a lone raise is one whatever the raises were
pub ended_as : (signals : Bool) (shape : GuestShape) (actor : ℕ) (call : Call) (answer : Option ℕ) → IsEnded shape actor call answer → IsEndedAs signals shape actor call answer
ended_as signals shape actor call answer is =
    record { beside = is.beside; maps = is.maps; commands = is.commands; targets = is.targets; right = λ h. no_signal signals (is.right h); is_call = is.is_call }
  where
    no_signal : (b : Bool) → IsTrue false → IsTrue b
    no_signal b h = absurd (cc)

-- moments that go on with a course, and others that go on from there
pub goes_on : (course : Course) (early late : List Moment) → GoesOn course early → GoesOn (course_of course early) late → GoesOn course (early ++ late)
goes_on course [] late h k = k
goes_on course (moment ∷ moments) late h k = (h.0, goes_on (gone_on course moment) moments late h.1 k)

-- the only event of a call handed out what it had to
pub hands_one : (view : View) (event : Event) (found : Found) → HandsOut view event found → All (λ (happened : Happened). HandsOut view happened.event happened.found) (record { event = event; found = found } ∷ [])
hands_one view event found is = All-cons (λ (happened : Happened). HandsOut view happened.event happened.found) (record { event = event; found = found }) [] is (All-nil (λ (happened : Happened). HandsOut view happened.event happened.found))
