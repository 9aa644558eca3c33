-- Fresh at an acknowledge of a list of moments, in one pass and with no look ahead: an interrupt that a read of IAR or HPPIR passes by, and that no open call changed
-- last, waits for an answer by one of the calls, or commands, that are open there (own choice).
use Rattle.std.specs.Prelude.{ℕ, ◌&&◌, ◌==◌, not, Bool, false, List, [], ◌++◌, map, filter, filter_map, Option, Some, None, if◌then◌else◌}
use Rattle.std.specs.List.{list_any, range_with_len}
use Rattle.std.specs.Option.{option_map_or}
use Rattle.legal_lists.specs.Words.{Key, GuestShape}
use Rattle.legal_lists.specs.Calls.{Event, Cpu, Moment, Begin, Happens}
use Rattle.legal_lists.specs.GicCall.declared.event.Moment.TheVariants.{End}
use Rattle.legal_lists.specs.Histories.{Ideal, Course, actor_count, call_of, Track, doing_of, is_event_of, ends_turn, has_named, asks_first, comes_first, is_last_open, keys_in}
use Rattle.legal_lists.specs.Legal.{may_make}

-- an interrupt that waits, and the actors that are still in the call, or the command of one, in which they may answer
pub record Waiting : Type 0 where
  pub key : Key
  pub actors : List ℕ

-- Who begins to wait.

-- the actors other than a vCPU that name what they do further on, as far as they are in a call
abbrev pub named_actors : GuestShape → Track → ℕ → List ℕ
named_actors shape track vcpu = filter (λ actor. not (actor == vcpu) && has_named shape (doing_of track actor)) (range_with_len 0 (actor_count shape))

-- an access of the CPU interface asks for the first interrupt: those that come first and were changed last in no open call
abbrev pub is_passed_by : Ideal → Track → ℕ → Key → Bool
is_passed_by state track vcpu key = comes_first state vcpu key && not (is_last_open state.guest.shape track vcpu key)

abbrev pub waits_for : GuestShape → Track → ℕ → Key → Waiting
waits_for shape track vcpu key = record { key = key; actors = named_actors shape track vcpu }

abbrev pub passed_by : Ideal → Track → Event → List Waiting
passed_by state track (Cpu vcpu reg write) =
    if asks_first reg write then map (waits_for state.guest.shape track vcpu) (filter (is_passed_by state track vcpu) (keys_in state.guest.shape)) else []
passed_by state track event = []

abbrev pub passed_at : Ideal → Track → Moment → List Waiting
passed_at state track (Happens actor event found) = passed_by state track event
passed_at state track moment = []

-- Who still waits.

abbrev pub has_actor : Waiting → ℕ → Bool
has_actor waiting actor = list_any (λ other. actor == other) waiting.actors

abbrev pub without_actor : ℕ → Waiting → Waiting
without_actor actor waiting = record waiting { actors = filter (λ other. not (actor == other)) waiting.actors }

-- after a moment: one of them makes an event of it, and it waits no more; or its call or command ends, and it answers no more
abbrev pub waiting_after : Moment → Waiting → Option Waiting
waiting_after (Begin actor operation) waiting = Some (without_actor actor waiting)
waiting_after (End actor answer) waiting = Some (without_actor actor waiting)
waiting_after (Happens actor event found) waiting =
    if ends_turn event then Some (without_actor actor waiting) else (if has_actor waiting actor && is_event_of waiting.key event then None else Some waiting)

abbrev pub waits_after : Ideal → Track → Moment → List Waiting → List Waiting
waits_after state track moment waits = filter_map (waiting_after moment) waits ++ passed_at state track moment

-- one of them may still answer
abbrev pub may_be_answered : GuestShape → Course → Waiting → Bool
may_be_answered shape course waiting = list_any (λ actor. option_map_or (λ call. may_make shape actor call waiting.key) (call_of course actor) false) waiting.actors
